-- A page that is drawn, with what is put for it: `draw_page`.
use Rattle.std.proofs.Common.{◌≡◌, ℕ, Bool, Option, Err, List, refl, sym, ap, ◌∙◌, subst, arith}
use Rattle.std.specs.Prelude.{is_some}
use Rattle.djvu_base.specs.Library.{Files, Library}
use Rattle.djvu_outside.specs.Faults.{Failure}
use Rattle.djvu_outside.specs.declared.stops.Stop.{Stop}
use Rattle.djvu_outside.specs.declared.stops.Stop.TheVariants as stop
use Rattle.djvu_outside.specs.Parts.{SinksEnd}
use Rattle.djvu_outside.specs.Puts.{Sinks, Got, GotPrefix}
use Rattle.djvu_outside.proofs.Lemmas.{stops_first}
use Rattle.page_decoder.specs.Libraries.{names_in}
use Rattle.replay_core.specs.Counts.{Counts}
use Rattle.replay_core.specs.Machine.{State}
use Rattle.viewer_words.specs.Lines.{name_at}
use Rattle.viewer_run.specs.declared.core_run.CoreRun.{CoreRun}
use Rattle.viewer_run.specs.declared.texts.PageFound.{PageFound}
use Rattle.viewer_run.specs.CoreRun.{Follows, StopsForMemory, StopsAt, DrawnTo, with_needs}
use Rattle.viewer_run.specs.Drawing.{IsPut, StopsPutting}
use Rattle.viewer_run.specs.Found.{shown_found}
use Rattle.viewer_run.specs.Texts.{Texts, texts_at, texts_of_page}
use Rattle.viewer_run.proofs.AllPages.{OverStays}
use Rattle.viewer_run.proofs.Over.{text_stays, names_go_on, drawn_texts, found_refused}
use Rattle.viewer_run.proofs.Paging.{stopped_here}

-- where it wasn't drawn to its end, nothing is put
pub stops_drawing : (told : Option Files) (page file : ℕ) (state : State) (counts : Counts) (old : CoreRun) (failures_old failures_new : List Failure)
    (count_old count_new : ℕ) (sinks : Sinks) → StopsAt told page file state counts old failures_old failures_new count_old count_new
    → StopsPutting told page file state counts old (record { failures = failures_old; told = sinks; count = count_old })
    (record { failures = failures_new; told = sinks; count = count_new })
stops_drawing told page file state counts old failures_old failures_new count_old count_new sinks stops = record {
  stops = stops;
  puts = λ later goes_on. stops_first (texts_of_page old.core.table later file).puts sinks;
}

module _ (told : Option Files) (page file : ℕ) (state : State) (counts : Counts) (old new : CoreRun) (name lines : List ℕ) (found : PageFound)
    (failures_old failures_new : List Failure) (count_old count_new : ℕ) (follows : Follows state counts old) (is : name ≡ name_at old.names file)
    (drawn : DrawnTo told page file state counts old new lines found failures_old failures_new count_old count_new) where
  abbrev library : Library
  library = drawn.gone.went.after.library

  names_here : names_in library ≡ old.names
  names_here = drawn.gone.went.follows.names ∙ drawn.gone.went.same.names

  texts_here : texts_at old.names name lines (shown_found found.fault found.layers) ≡ texts_of_page old.core.table library file
  texts_here = drawn_texts old.core.table library file old.names name lines found names_here is drawn.drawn

  -- the run may stop behind it
  drawn_stops : StopsAt told page file state counts old failures_old failures_new count_old count_new
  drawn_stops =
      let few = drawn.gone.few in
      record {
        mid = new;
        went = drawn.gone.went;
        needs = drawn.gone.needs;
        few = omega (arith, few);
        stopped = λ files start order is_told was.
            stopped_here files start failures_new (with_needs old.core.table file drawn.gone.needs order) library new old.names drawn.gone.went.same.names
            (drawn.gone.read_so files start order is_told was);
      }

  module _ (before after : Sinks) where
    pub stops_putting : OverStays → GotPrefix (texts_at old.names name lines (shown_found found.fault found.layers)).puts before after
        → StopsPutting told page file state counts old (record { failures = failures_old; told = before; count = count_old })
        (record { failures = failures_new; told = after; count = count_new })
    unfolding drawn_stops
    stops_putting law puts = record {
      stops = drawn_stops;
      puts = λ later goes_on.
          subst (λ (t : Texts). GotPrefix t.puts before after)
          (texts_here
          ∙ sym (text_stays old.core.table library later (names_go_on library later goes_on)
          (λ other over. law old.core.table library later other follows.table goes_on over) file drawn.drawn.over))
          puts;
    }

    pub puts_all : Got (texts_at old.names name lines (shown_found found.fault found.layers)).puts before after
        → IsPut told page file state counts old new (is_some found.fault) (record { failures = failures_old; told = before; count = count_old })
        (record { failures = failures_new; told = after; count = count_new })
    puts_all puts = record {
      gone = drawn.gone;
      over = drawn.drawn.over;
      seen = drawn.seen;
      puts = subst (λ (t : Texts). Got t.puts before after) texts_here puts;
      refused_so = sym (found_refused old.names name lines found.fault found.layers) ∙ ap (λ (t : Texts). t.refused) texts_here;
    }

-- no sink stopped it
pub sinks_still : (fault : Stop) (out report : ℕ) → StopsForMemory {T = PageFound} (Err fault) → SinksEnd {T = Bool} (Err fault) out out report report
sinks_still stop.Folder out report memory = absurd memory
sinks_still stop.Sink out report memory = absurd memory
sinks_still stop.Memory out report memory = (refl, refl)
