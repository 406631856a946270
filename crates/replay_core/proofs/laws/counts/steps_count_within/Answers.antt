use Rattle.std.proofs.Common.{◌≡◌, ◌≤◌, ℕ, Option, Some, None, List, refl, subst, arith}
use Rattle.std.specs.Prelude.{slice_get}
use Rattle.std.specs.List.{Contains}
use Rattle.std.proofs.lemmas.List.Elements.{Contains-get_or}
use Rattle.std.proofs.lemmas.Option.{slice_get_within, get_or_from_slice_get}
use Rattle.page_decoder.specs.PageRead.{Drawing}
use Rattle.page_decoder.specs.Libraries.{run_given, run}
use Rattle.replay_core.specs.Counts.{decisions_by}
use Rattle.replay_core.proofs.laws.counts.steps_count_within.Goals as goal

found : (drawings : List Drawing) (number : ℕ) (drawing : Drawing) → slice_get drawings number ≡ Some drawing → Contains drawings drawing
found drawings number drawing e =
    subst (Contains drawings) (get_or_from_slice_get drawings number drawing drawing e)
    (Contains-get_or drawings number drawing (slice_get_within drawings number drawing e))

pub returns : goal.returns
returns c table library page = by (slice_get (run table library page.file).left.told.drawings page.drawn) refl
  where
    by : (next : Option Drawing) → slice_get (run table library page.file).left.told.drawings page.drawn ≡ next
        → decisions_by next (run table library page.file).left.told.decisions ≤ (run table library page.file).left.told.decisions
    by None e = omega arith
    by (Some drawing) e =
        (c.ascend.ensures.within (run_given table library page.file) drawing
        (found (run table library page.file).left.told.drawings page.drawn drawing e)).1
