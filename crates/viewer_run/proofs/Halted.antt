-- Where a page halts: at a file that it needs, or at its end.
use Rattle.std.proofs.Common.{◌≡◌, ◌<◌, ◌≤◌, ℕ, Bool, true, false, Option, Some, None, Ok, ◌⊎◌, inl, inr, List, length, get_or, refl, sym, ap, ◌∙◌, subst, arith}
use Rattle.std.specs.Prelude.{slice_get}
use Rattle.std.proofs.lemmas.List.{length-map}
use Rattle.std.proofs.lemmas.Option.{slice_get_past, slice_get_within, slice_get-get_or}
use Rattle.djvu_base.specs.declared.faults.Fault.{Fault}
use Rattle.djvu_base.specs.Library.{File, Open}
use Rattle.include_graph.specs.Outlines.{outline_of}
use Rattle.zp_table.specs.declared.rows.Row.{Row}
use Rattle.page_decoder.specs.Needs.{IsOver}
use Rattle.page_decoder.specs.PageRead.{Ending, Refused, NeedFile}
use Rattle.page_decoder.specs.Libraries.{run}
use Rattle.replay_core.specs.declared.pages.CoreEnd.TheVariants as core_end
use Rattle.replay_core.specs.Core.{CanTake}
use Rattle.replay_core.specs.CorePages.{PageSeen}
use Rattle.replay_core.specs.Counts.{Counts}
use Rattle.replay_core.specs.Machine.{PageState, State, Step, AtEnd, answer, page_notices, next_notice, page_step, step_answer}
use Rattle.viewer_run.specs.declared.core_run.CoreRun.{CoreRun}
use Rattle.viewer_run.specs.declared.core_run.Halt.{Halt}
use Rattle.viewer_run.specs.declared.core_run.Halt.TheVariants as halt
use Rattle.viewer_run.specs.CoreRun.{CanDraw, ToHalt, HaltsAt, end_at}
use Rattle.viewer_run.specs.Found.{FaultFits}

flag_false : (flags : List Bool) (number : ℕ) → number < length flags → (slice_get flags number ≡ Some true → ⊥) → slice_get flags number ≡ Some false
flag_false flags number inside never = by (get_or flags number false) (slice_get-get_or flags number false inside)
  where
    by : (flag : Bool) → slice_get flags number ≡ Some flag → slice_get flags number ≡ Some false
    by true e = absurd (never e)
    by false e = e

-- the law that a needed file is open
abbrev pub NeedsOpen : Type 0
NeedsOpen = (table : List Row) (state : State) (page needed : ℕ) → answer table state (Step page) ≡ AtEnd (NeedFile needed)
    → (file : File) × (slice_get state.library needed ≡ Some file) × (file.mark ≡ Open) × (outline_of file.mark file.bytes ≡ None)

module _ (page : ℕ) (here : PageState) (state : State) (counts : Counts) (old new : CoreRun) (lines_old lines_new : List ℕ) (count_old count_new : ℕ)
    (halted_at : Halt) (halted : ToHalt (Ok halted_at) page here state counts old new lines_old lines_new count_old count_new) where
  abbrev after : State
  after = halted.stepped.after

  -- its notices, where it has halted
  same_notices : page_notices old.core.table state.library here.file ≡ page_notices old.core.table after.library halted.stepped.now.file
  same_notices =
      ap (λ l. page_notices old.core.table l here.file) (sym halted.stepped.library)
      ∙ ap (page_notices old.core.table after.library) (sym halted.stepped.file)

  pub same_end : (run old.core.table state.library here.file).end ≡ (run old.core.table after.library halted.stepped.now.file).end
  same_end =
      ap (λ l. (run old.core.table l here.file).end) (sym halted.stepped.library)
      ∙ ap (λ f. (run old.core.table after.library f).end) (sym halted.stepped.file)

  none_next : next_notice old.core.table after.library halted.stepped.now ≡ None
  none_next =
      slice_get_past (page_notices old.core.table after.library halted.stepped.now.file) halted.stepped.now.drawn
      (subst (λ l. length l ≤ halted.stepped.now.drawn) same_notices halted.all)

  answers_so : answer old.core.table after (Step page) ≡ AtEnd (run old.core.table state.library here.file).end
  answers_so =
      ap (page_step old.core.table after.library) halted.stepped.is_now
      ∙ ap (λ n. step_answer n (run old.core.table after.library halted.stepped.now.file).end) none_next
      ∙ ap AtEnd (sym same_end)

  -- the file that it needs wasn't read
  pub need_open : NeedsOpen → (needed : ℕ) → (run old.core.table state.library here.file).end ≡ NeedFile needed
      → (slice_get new.read.items needed ≡ Some false) × (needed < length new.names)
  need_open law needed e =
      let open_so = law old.core.table after page needed (answers_so ∙ ap AtEnd e) in
      let follows = halted.stepped.follows in
      let within = slice_get_within after.library needed open_so.0 open_so.1 in
      let many = length-map after.library (λ (f : File). f.name) in
      let names = ap length follows.names in
      let flags = follows.flags in
      let inside : needed < length new.names = omega (arith, within, many, names) in (
        flag_false new.read.items needed (omega (arith, inside, flags)) (λ flag. follows.closed needed open_so.0 open_so.1 flag open_so.2),
        inside,
      )

  -- a page that hasn't ended can be drawn further
  pub halt_can : (seen : PageSeen) → slice_get old.core.pages page ≡ Some seen → seen.taken ≡ false → end_at halted_at ≡ None → CanDraw page new
  halt_can seen is there open_so = record {
    state = after;
    counts = halted.stepped.counted_so;
    follows = halted.stepped.follows;
    seen = record seen { end = end_at halted_at };
    is = halted.seen seen is;
    open_ = open_so;
    there = there;
  }

pub end_over : (fault : Option Fault)
    → (end_at (halt.End fault) ≡ Some core_end.Finished) ⊎ ((its : Fault) × (end_at (halt.End fault) ≡ Some (core_end.Refused its)))
end_over None = inl refl
end_over (Some its) = inr (its, refl)

pub halts_over : (fault : Option Fault) (end : Ending) → HaltsAt (halt.End fault) end → IsOver end
halts_over None end e = subst IsOver (sym e) tt
halts_over (Some its) end e = subst IsOver (sym e) tt

-- the fault stands in a file of the folder
pub fault_fits : (fault : Option Fault) (names : List (List ℕ)) (end : Ending) → HaltsAt (halt.End fault) end
    → ((its : Fault) → end ≡ Refused its → its.place.file < length names) → FaultFits names fault
fault_fits None names end e law = tt
fault_fits (Some its) names end e law = law its e

-- a page can give its layers at its end
pub halt_takes : (page : ℕ) (old new : CoreRun) (fault : Option Fault) (seen : PageSeen)
    → slice_get new.core.pages page ≡ Some (record seen { end = end_at (halt.End fault) }) → seen.taken ≡ false → CanTake new.core.pages page
halt_takes page old new fault seen is there =
    record { page = record seen { end = end_at (halt.End fault) }; is = is; over = end_over fault; there = there }
