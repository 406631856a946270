-- A step on a page that has ended: its end is answered again, and nothing changes.
use Rattle.std.proofs.Common.{◌≡◌, ℕ, Some, None, refl, sym, ap, ◌∙◌, subst, arith}
use Rattle.std.specs.Prelude.{slice_get, slice_set}
use Rattle.std.proofs.lemmas.Option.{slice_get_past}
use Rattle.djvu_base.specs.Meter.{ticked}
use Rattle.djvu_base.proofs.Ticks.{ticks_none}
use Rattle.page_decoder.specs.PageRead.{Ending, Finished, Refused}
use Rattle.replay_core.specs.declared.core_calls.CoreStep.{CoreStep}
use Rattle.replay_core.specs.declared.core_calls.CoreStep.TheVariants as step
use Rattle.replay_core.specs.declared.pages.CoreEnd.{CoreEnd}
use Rattle.replay_core.specs.declared.pages.CoreEnd.TheVariants as core_end
use Rattle.replay_core.specs.Counts.{PageCount, Counts, counted, step_decisions}
use Rattle.replay_core.specs.CorePages.{PagePart, IsOverSo, EndedBy, PageBy}
use Rattle.replay_core.specs.Core.{CoreSeen, PageAt, Stands, StandsSo, Answers, OwnAfter, FileAfter, as_it_was, Steps, answer_at, results_by, state_with}
use Rattle.replay_core.specs.Machine.{PageState, State, Step, page_notices, next_notice, drawn_with, stepped, page_step, state_after}
use Rattle.replay_core.proofs.Listing.{some_same}
use Rattle.replay_core.proofs.Setting.{change_set, set_same}
use Rattle.replay_core.proofs.Ending.{answers_end}
use Rattle.replay_core.proofs.Settled.{all_told}

module _ (state : State) (counts : Counts) (core : CoreSeen) (stands : StandsSo state counts core) (number : ℕ) (part : PagePart)
    (is_part : slice_get core.inside.pages number ≡ Some part) (none : part.decoder ≡ None) (meter : ℕ) where
  abbrev Here : PageAt core.table state counts (results_by core.inside.results) number part
  Here = stands.pages number part is_part

  own_for : (result : CoreStep) → OwnAfter result core.table state.library Here.page Here.count.decisions Here.count.decisions
      → (it : PageState) (was is : PageCount) → slice_get state.pages number ≡ Some it → slice_get counts.pages number ≡ Some was
      → slice_get counts.pages number ≡ Some is → OwnAfter result core.table state.library it was.decisions is.decisions
  own_for result own it was is there before after =
      subst (λ (p : PageState). OwnAfter result core.table state.library p was.decisions is.decisions)
      (some_same Here.page it (sym Here.is_page ∙ there))
      (subst (λ (c : PageCount). OwnAfter result core.table state.library Here.page c.decisions is.decisions)
      (some_same Here.count was (sym Here.is_count ∙ before))
      (subst (λ (c : PageCount). OwnAfter result core.table state.library Here.page Here.count.decisions c.decisions)
      (some_same Here.count is (sym Here.is_count ∙ after)) own))

  answers_so : (result : CoreStep) → state_with result core.table state number ≡ state
      → Answers result (page_step core.table state.library (Some Here.page))
      → OwnAfter result core.table state.library Here.page Here.count.decisions Here.count.decisions
      → Steps state counts number core core result meter meter
  unfolding Stands
  answers_so result same answers own = record {
    after = counts;
    stands = subst (λ s. StandsSo s counts core) (sym same) stands;
    answers = subst (λ p. Answers result (page_step core.table state.library p)) (sym Here.is_page) answers;
    own = own_for result own;
    others = λ other apart. refl;
    files = λ file was is it there before after.
        subst (FileAfter result core.table state.library it.file file was) (some_same was is (sym before ∙ after)) (as_it_was was);
    rise = (0, ticks_none (ticked (counted counts) 0), ticks_none meter);
  }

  -- a page that is over
  module _ (end : Ending) (over : IsOverSo core.table state.library (results_by core.inside.results) Here.page Here.count part end) where
    none_next : next_notice core.table state.library Here.page ≡ None
    none_next =
        let all = over.ended.all in
        slice_get_past (page_notices core.table state.library Here.page.file) Here.page.drawn (omega (arith, all))

    state_same : state_after core.table state (Step number) ≡ state
    state_same =
        ap (λ pages. record state { pages = pages })
        (change_set (stepped core.table state.library) state.pages number Here.page Here.is_page
        ∙ ap (λ n. slice_set state.pages number (drawn_with n Here.page)) none_next ∙ set_same state.pages number Here.page Here.is_page)

    own_same : Here.count.decisions ≡ step_decisions core.table state.library Here.page
    own_same = over.decisions ∙ sym (all_told core.table state.library Here.page none_next)

  by_end : (end : CoreEnd) → EndedBy end core.table state.library (results_by core.inside.results) Here.page Here.count part
      → Steps state counts number core core (answer_at end) meter meter
  by_end core_end.Finished over =
      answers_so step.Finished (state_same Finished over) (answers_end core.table state.library Here.page Finished over.ended) (own_same Finished over)
  by_end (core_end.Refused fault) over =
      answers_so (step.Refused fault) (state_same (Refused fault) over)
      (answers_end core.table state.library Here.page (Refused fault) over.ended) (own_same (Refused fault) over)
  by_end core_end.OutOfMemory over = answers_so step.OutOfMemory refl tt (omega arith, Here.stands.most)

  pub ended_steps : Steps state counts number core core (answer_at part.end) meter meter
  ended_steps =
      by_end part.end
      (subst (λ d. PageBy d core.table state.library (results_by core.inside.results) Here.page Here.count part) none Here.stands.by)
