-- A run that goes on at one page: a file came, or steps were taken.
use Rattle.std.proofs.Common.{ℕ, Option, List, [], ◌∷◌, refl, sym, ap, ◌∙◌, subst}
use Rattle.std.specs.Prelude.{slice_get}
use Rattle.djvu_base.specs.Library.{Files, Library}
use Rattle.djvu_base.specs.Meter.{ticked}
use Rattle.djvu_outside.specs.Faults.{Failure}
use Rattle.zp_table.specs.declared.rows.Row.{Row}
use Rattle.page_decoder.specs.Libraries.{run, LibraryGoesOn}
use Rattle.replay_core.specs.Counts.{Counts, counted}
use Rattle.replay_core.specs.Machine.{PageState, State, Event, Feed, End, state_after_all}
use Rattle.viewer_run.specs.declared.core_run.CoreRun.{CoreRun}
use Rattle.viewer_run.specs.CoreRun.{Follows, SameRun, FileComes, Stepped, WentOn, with_file}
use Rattle.viewer_run.proofs.Rising.{rise_none, rise_both}

unfoldable pub went_nowhere : (page : ℕ) (state : State) (counts : Counts) (run : CoreRun) (count : ℕ)
    → ((library : Library) → LibraryGoesOn library library) → Follows state counts run
    → WentOn page state counts run run count count
went_nowhere page state counts run count same follows = record {
  after = state;
  counted_so = counts;
  follows = follows;
  same = record { names = refl; pages = refl; frame = record { table = refl; names = refl; count = refl } };
  goes_on = same state.library;
  others = λ other apart. refl;
  others_seen = λ other apart. refl;
  rise = rise_none _ count;
}

pub runs_both : (a b c : CoreRun) → SameRun a b → SameRun b c → SameRun a c
runs_both a b c first second = record {
  names = second.names ∙ first.names;
  pages = second.pages ∙ first.pages;
  frame = record {
    table = second.frame.table ∙ first.frame.table;
    names = second.frame.names ∙ first.frame.names;
    count = second.frame.count ∙ first.frame.count;
  };
}

-- the law that libraries go on by events
abbrev pub GoOn : Type 0
GoOn = (table : List Row) (state : State) (events : List Event) → LibraryGoesOn state.library (state_after_all table state events).library

abbrev pub GoBoth : Type 0
GoBoth = (library later latest : Library) → LibraryGoesOn library later → LibraryGoesOn later latest → LibraryGoesOn library latest

-- a file came
unfoldable pub went_file : GoOn → GoBoth → (told : Option Files) (page file : ℕ) (state : State) (counts : Counts) (old mid new : CoreRun)
    (failures_mid failures_new : List Failure) (faults_mid faults_new count_old count_mid : ℕ)
    → (before : WentOn page state counts old mid count_old count_mid)
    → FileComes told file before.after before.counted_so mid new failures_mid failures_new faults_mid faults_new
    → WentOn page state counts old new count_old count_mid
went_file on both told page file state counts old mid new failures_mid failures_new faults_mid faults_new count_old count_mid before comes = record {
  after = with_file mid.core.table before.after file comes.bytes comes.end;
  counted_so = before.counted_so;
  follows = comes.follows;
  same = runs_both old mid new before.same comes.same;
  goes_on =
      both state.library before.after.library _ before.goes_on (on mid.core.table before.after (Feed file comes.bytes ∷ End file comes.end ∷ []));
  others = before.others;
  others_seen = λ other apart. ap (λ l. slice_get l other) comes.pages ∙ before.others_seen other apart;
  rise = before.rise;
}

-- steps were taken
unfoldable pub went_steps : (page : ℕ) (here : PageState) (state : State) (counts : Counts) (old mid new : CoreRun) (count_old count_mid count_new : ℕ)
    → (before : WentOn page state counts old mid count_old count_mid)
    → Stepped mid.core.table page here before.after before.counted_so mid new count_mid count_new
    → WentOn page state counts old new count_old count_new
went_steps page here state counts old mid new count_old count_mid count_new before steps = record {
  after = steps.after;
  counted_so = steps.counted_so;
  follows = steps.follows;
  same = runs_both old mid new before.same (record {
    names = steps.names;
    pages = steps.pages;
    frame = record {
      table = steps.table_so;
      names = steps.follows.core_names ∙ steps.names ∙ sym before.follows.core_names;
      count = steps.count;
    };
  });
  goes_on = subst (λ l. LibraryGoesOn state.library l) (sym steps.library) before.goes_on;
  others = λ other apart. steps.others other apart ∙ before.others other apart;
  others_seen = λ other apart. steps.others_seen other apart ∙ before.others_seen other apart;
  rise =
      rise_both (ticked (counted counts) 0) (ticked (counted before.counted_so) 0) (ticked (counted steps.counted_so) 0) count_old count_mid count_new
      before.rise steps.rise;
}
