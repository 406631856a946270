-- Runs with one page, event by event.
use Rattle.std.proofs.Common.{◌≡◌, ◌∙◌, ap, ℕ, List, [], ◌∷◌}
use Rattle.std.specs.Prelude.{slice_get}
use Rattle.djvu_base.specs.Library.{Library}
use Rattle.djvu_base.specs.Announced.{Announced}
use Rattle.zp_table.specs.declared.rows.Row.{Row}
use Rattle.page_decoder.specs.PageRead.{Ending}
use Rattle.page_decoder.specs.Libraries.{run}
use Rattle.replay_core.specs.Machine.{PageState, State, Event, Step, Look, Answer, Looked, last_of, page_notices, step_answer, drawn_with, state_after, answer, answers}

abbrev pub page_at : ℕ → ℕ → PageState
page_at file drawn = record { file = file; drawn = drawn }

abbrev pub one_page : Library → PageState → State
one_page library page = record { library = library; pages = page ∷ [] }

pub event_then : (table : List Row) (before next : State) (event : Event) (events : List Event) (its : Answer) (others : List Answer)
    → answer table before event ≡ its → state_after table before event ≡ next → answers table next events ≡ others
    → answers table before (event ∷ events) ≡ its ∷ others
event_then table before next event events its others a s more =
    ap (λ x. x ∷ answers table (state_after table before event) events) a ∙ ap (λ x. its ∷ answers table x events) s ∙ ap (λ l. its ∷ l) more

-- what is known of the page in this library
pub record Knows (table : List Row) (library : Library) (file : ℕ) (notices : List Announced) (end : Ending) : Type 0 where
  pub notices_so : page_notices table library file ≡ notices
  pub end_so : (run table library file).end ≡ end

pub step_then : (table : List Row) (library : Library) (file drawn : ℕ) (notices : List Announced) (end : Ending) (events : List Event) (others : List Answer)
    → Knows table library file notices end
    → answers table (one_page library (drawn_with (slice_get notices drawn) (page_at file drawn))) events ≡ others
    → answers table (one_page library (page_at file drawn)) (Step 0 ∷ events) ≡ step_answer (slice_get notices drawn) end ∷ others
step_then table library file drawn notices end events others knows more =
    event_then table (one_page library (page_at file drawn)) (one_page library (drawn_with (slice_get notices drawn) (page_at file drawn))) (Step 0) events
    (step_answer (slice_get notices drawn) end) others
    (ap (λ l. step_answer (slice_get l drawn) (run table library file).end) knows.notices_so ∙ ap (step_answer (slice_get notices drawn)) knows.end_so)
    (ap (λ l. one_page library (drawn_with (slice_get l drawn) (page_at file drawn))) knows.notices_so) more

pub look_then : (table : List Row) (library : Library) (file drawn viewer : ℕ) (notices : List Announced) (end : Ending) (events : List Event)
    (others : List Answer) → Knows table library file notices end → answers table (one_page library (page_at file drawn)) events ≡ others
    → answers table (one_page library (page_at file drawn)) (Look viewer 0 ∷ events) ≡ Looked (last_of notices drawn) ∷ others
look_then table library file drawn viewer notices end events others knows more =
    ap (λ l. Looked (last_of l drawn) ∷ answers table (one_page library (page_at file drawn)) events) knows.notices_so
    ∙ ap (λ l. Looked (last_of notices drawn) ∷ l) more
