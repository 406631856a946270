-- The reader of a file where the resolving of its includes stops, and behind the FORM.
use Rattle.std.proofs.Common.{◌≡◌, ℕ, Option, Some, None, List, [], ◌∷◌, ◌++◌, length, refl, sym, ap, ◌∙◌, subst, arith}
use Rattle.std.specs.Arc.{arc_value}
use Rattle.djvu_base.specs.Meter.{ticked, TicksExactly}
use Rattle.djvu_base.proofs.Ticks.{ticked_none}
use Rattle.page_decoder.specs.declared.file_reader.FileReader.{FileReader}
use Rattle.page_decoder.specs.declared.decoder.PageStep.{PageStep}
use Rattle.page_decoder.specs.declared.decoder.PageStep.TheVariants as step
use Rattle.page_decoder.specs.Kinds.{ChunkKind}
use Rattle.page_decoder.specs.Kinds as kind
use Rattle.page_decoder.specs.Given.{Home, Known, Given, Within}
use Rattle.page_decoder.specs.PageRead.{Ending, Finished, Refused, NeedOutline, NeedFile, last_layers, Left, PageRead, or_else}
use Rattle.page_decoder.specs.Read.{after, all_resolved, nothing_pending, finished, read}
use Rattle.page_decoder.specs.Needs.{Below}
use Rattle.page_decoder.specs.Resolving.{Resolving, home_of, with_files, Waits, Resolves, Stops}
use Rattle.page_decoder.specs.FileReading.{Answers, StandsBefore, StandsAt, ResolvesAt, IsOf, IsAtEnd, decisions_in, decisions_at_hand}
use Rattle.page_decoder.specs.FileSteps.{IsKnown, IsFinishing, StopsSo, HasResolved}
use Rattle.page_decoder.proofs.Answering.{exact_within, ends_answer, memory_answer}
use Rattle.page_decoder.proofs.ResolveSteps.{knows_same, resolves_first}
use Rattle.page_decoder.proofs.Retaining.{below_same, after_below, resolved_below}

-- ---- where the resolving of includes stops

-- it drew what was left, and keeps the layers and the decisions
pub record IsLeft (left : Left) (old new : FileReader) : Type 0 where
  pub drawn : old.drawn ≡ length left.told.drawings
  pub same : new.drawn ≡ old.drawn
  pub layers : new.kept.layers ≡ last_layers left.told.drawings
  pub decisions : TicksExactly left.told.decisions 0 (decisions_in new)

module _ (given : Given) (rest : List ℕ) (left : Left) (old new : FileReader) (k : IsLeft left old new) where
  pub no_memory : Below left.told (read given).left.told → Answers given rest step.OutOfMemory old new
  no_memory b = memory_answer given rest old new left.told left.told.decisions b.drawings b.decisions k.drawn k.same
      (exact_within left.told.decisions left.told.decisions (decisions_in new) (omega arith) k.decisions) k.layers

  -- before this, which goes on
  module _ (home : Home) (known : Known) (next : Left → PageRead) (is : read given ≡ after (all_resolved home known left) next)
      (grows : (now : Left) → Below now.told (next now).left.told) where
    below_next : Below left.told (read given).left.told
    below_next = subst (λ r. Below left.told r.left.told) (sym is)
        (after_below left.told (all_resolved home known left) next grows (resolved_below home known left.decoded.pending left))

    at_stop : (end : Ending) (s : Stops home known left end) → read given ≡ record { left = with_files s.inherited s.reached left; end = end }
    at_stop end s = is ∙ ap (λ x. after x next) s.is

    pub stop_answers : (stop : PageStep) → StopsSo home known left (Some stop) new.includes
        → (Resolves home known left new.includes → StandsBefore given rest new) → Answers given rest stop old new
    stop_answers (step.NeedOutline file) s stands =
        ends_answer given rest old new (with_files s.stops.inherited s.stops.reached left) (NeedOutline file) (at_stop (NeedOutline file) s.stops)
        k.drawn k.same k.decisions k.layers (λ e. absurd (cc)) (λ p. stands s.resolves)
    stop_answers (step.NeedFile file) s stands =
        ends_answer given rest old new (with_files s.stops.inherited s.stops.reached left) (NeedFile file) (at_stop (NeedFile file) s.stops)
        k.drawn k.same k.decisions k.layers (λ e. absurd (cc)) (λ p. stands s.resolves)
    stop_answers (step.Refused fault) s stands =
        ends_answer given rest old new (with_files s.inherited s.reached left) (Refused fault) (at_stop (Refused fault) s)
        k.drawn k.same k.decisions k.layers (λ e. absurd (cc)) (λ p. absurd p)
    stop_answers step.OutOfMemory s stands = no_memory below_next
    stop_answers step.Finished s stands = absurd s
    stop_answers step.NeedBytes s stands = absurd s
    stop_answers (step.Drew notice) s stands = absurd s

-- ---- the file itself

-- the home that the code reads by is the given one's
pub home_known : (now given : Given) (reader : FileReader) (names : List (List ℕ)) → Within now given → IsOf now reader → given.home.names ≡ names
    → home_of reader.role (arc_value reader.table) names reader.file ≡ given.home
home_known now given reader names w of e =
    let same : now.home.names ≡ names = ap (λ h. h.names) w.home ∙ e in
    sym (of.home_is ∙ ap (λ n. home_of reader.role (arc_value reader.table) n reader.file) same) ∙ w.home

pub ticks_alone : (reader : FileReader) (decisions : ℕ) → reader.chunk ≡ None → TicksExactly decisions 0 reader.decisions
    → TicksExactly decisions 0 (decisions_in reader)
ticks_alone reader decisions none t = ap (λ c. ticked (decisions_at_hand c) reader.decisions) none ∙ ticked_none reader.decisions ∙ t

-- ---- behind the FORM

module _ (given : Given) (rest : List ℕ) (before : FileReader) (it : Resolving) (names : List (List ℕ)) (known : Known) (so : IsKnown names known given)
    (f : IsFinishing given rest before) where
  abbrev now : Given
  now = f.stands.now

  abbrev later : FileReader
  later = record before { includes = it }

  at_end : IsAtEnd now before
  at_end = subst (λ s. StandsAt now s before) f.stage_is f.stands.stands

  kept : IsLeft at_end.left before later
  kept = record {
    drawn = at_end.tallies.drawn_are;
    same = refl;
    layers = at_end.like.layers_are ∙ at_end.tallies.last_is;
    decisions = ticks_alone before at_end.left.told.decisions at_end.none at_end.decisions_are;
  }

  is : read given ≡ after (all_resolved given.home given.known at_end.left) finished
  is = at_end.ends given f.stands.within

  resolves : Resolves given.home given.known at_end.left before.includes
  resolves = subst (λ k. Resolves given.home k at_end.left before.includes) f.stands.known_is
      (subst (λ h. Resolves h now.known at_end.left before.includes) f.stands.within.home at_end.resolves)

  stands : Resolves given.home given.known at_end.left it → StandsBefore given rest later
  stands r = record {
    now = now;
    within = f.stands.within;
    bytes_are = f.stands.bytes_are;
    known_is = f.stands.known_is;
    stands = subst (λ s. StandsAt now s later) (sym f.stage_is) (record {
      left = at_end.left;
      of = record { home_is = at_end.of.home_is; is_table = at_end.of.is_table; origin_is = at_end.of.origin_is; counts = at_end.of.counts };
      ends = at_end.ends;
      none = at_end.none;
      like = at_end.like;
      resolves = subst (λ k. Resolves now.home k at_end.left it) (sym f.stands.known_is)
          (subst (λ h. Resolves h given.known at_end.left it) (sym f.stands.within.home) r);
      decisions_are = at_end.decisions_are;
      tallies = record {
        chunks_are = at_end.tallies.chunks_are;
        drawn_are = at_end.tallies.drawn_are;
        last_is = at_end.tallies.last_is;
      };
    });
  }

  so_resolved : (answer : Option PageStep)
      → ((left : Left) → HasResolved (home_of before.role (arc_value before.table) names before.file) known left answer before.includes it)
      → StopsSo given.home given.known at_end.left answer it
  so_resolved answer h =
      let home = home_known now given before names f.stands.within at_end.of so.names_are in
      let all = subst (λ k. (left : Left) → HasResolved given.home k left answer before.includes it) (sym so.known_is)
      (subst (λ x. (left : Left) → HasResolved x known left answer before.includes it) home h) in
      all at_end.left resolves

  pub finishes_stop : (stop : PageStep)
      → ((left : Left) → HasResolved (home_of before.role (arc_value before.table) names before.file) known left (Some stop) before.includes it)
      → Answers given rest stop before later
  finishes_stop stop h =
      stop_answers given rest at_end.left before later kept given.home given.known finished is (λ left. below_same left.told) stop
      (so_resolved (Some stop) h) stands

  pub finishes_all : ((left : Left) → HasResolved (home_of before.role (arc_value before.table) names before.file) known left None before.includes it)
      → Answers given rest step.Finished before later
  finishes_all h =
      let s = so_resolved None h in
      ends_answer given rest before later (nothing_pending (with_files it.inherited s.reached at_end.left)) Finished
      (is ∙ ap (λ x. after x finished) (s.is given.known (knows_same given.known)))
      kept.drawn kept.same kept.decisions kept.layers (λ e. ap (λ own. or_else own it.inherited) (sym at_end.like.own_is)) (λ p. absurd p)

-- ---- at a header

-- includes that wait stand so before a chunk of each kind
pub waits_at : (of : ChunkKind) (home : Home) (known : Known) (left : Left) (it : Resolving) → Waits home known left.decoded it
    → ResolvesAt of home known left it
waits_at kind.Dictionary home known left it w = resolves_first home known left it w
waits_at kind.Mask home known left it w = resolves_first home known left it w
waits_at kind.Info home known left it w = w
waits_at kind.Include home known left it w = w
waits_at kind.Front home known left it w = w
waits_at kind.Back home known left it w = w
waits_at kind.Refused home known left it w = w
waits_at kind.Passed home known left it w = w
