-- A page that is drawn, with what is put for it.
use Rattle.std.specs.Prelude.{ℕ, ◌≡◌, ◌⊎◌, Bool, Option, Some, Result, Ok, Err, slice_get}
use Rattle.djvu_base.specs.declared.faults.Fault.{Fault}
use Rattle.djvu_base.specs.Library.{Files, Library}
use Rattle.djvu_outside.specs.declared.stops.Stop.{Stop}
use Rattle.djvu_outside.specs.Puts.{Got, GotPrefix}
use Rattle.page_decoder.specs.Libraries.{run, LibraryGoesOn}
use Rattle.page_decoder.specs.Needs.{IsOver}
use Rattle.replay_core.specs.declared.pages.CoreEnd.TheVariants as core_end
use Rattle.replay_core.specs.CorePages.{PageSeen}
use Rattle.replay_core.specs.Counts.{Counts}
use Rattle.replay_core.specs.Machine.{State, unread_page}
use Rattle.viewer_run.specs.declared.core_run.CoreRun.{CoreRun}
use Rattle.viewer_run.specs.CoreRun.{CanDraw, GoneTo, StopsAt}
use Rattle.viewer_run.specs.Ended.{Around}
use Rattle.viewer_run.specs.Texts.{texts_of_page}

-- a page that comes next: nothing of it was drawn yet
pub record IsNext (page : ℕ) (it : CoreRun) : Type 0 where
  pub can : CanDraw page it
  pub file : ℕ
  pub unread : slice_get can.state.pages page ≡ Some (unread_page file)

-- a page was drawn to its end, and all that is put for it was put
pub record IsPut (told : Option Files) (page file : ℕ) (state : State) (counts : Counts) (old new : CoreRun) (refused : Bool) (before after : Around)
    : Type 0 where
  pub gone : GoneTo told page file state counts old new before.failures after.failures before.count after.count
  pub over : IsOver (run old.core.table gone.went.after.library file).end
  pub seen : (it : PageSeen) → slice_get new.core.pages page ≡ Some it
      → (it.end ≡ Some core_end.Finished) ⊎ ((fault : Fault) × (it.end ≡ Some (core_end.Refused fault)))
  pub puts : Got (texts_of_page old.core.table gone.went.after.library file).puts before.told after.told
  pub refused_so : refused ≡ (texts_of_page old.core.table gone.went.after.library file).refused

-- the run stopped at a page. What was put is a prefix of what is put for it in each library to which that of then goes on
pub record StopsPutting (told : Option Files) (page file : ℕ) (state : State) (counts : Counts) (old : CoreRun) (before after : Around) : Type 0 where
  pub stops : StopsAt told page file state counts old before.failures after.failures before.count after.count
  pub puts : (later : Library) → LibraryGoesOn stops.went.after.library later
      → GotPrefix (texts_of_page old.core.table later file).puts before.told after.told

abbrev pub PutsSo : Result Bool Stop → Option Files → ℕ → ℕ → State → Counts → CoreRun → CoreRun → Around → Around → Type 0
PutsSo (Ok refused) told page file state counts old new before after = IsPut told page file state counts old new refused before after
PutsSo (Err stop) told page file state counts old new before after = StopsPutting told page file state counts old before after
