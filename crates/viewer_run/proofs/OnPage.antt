-- What was drawn of a page so far: steps, and files that it needed.
use Rattle.std.proofs.Common.{◌≡◌, ◌<◌, ℕ, false, Option, Some, Ok, List, [], ◌∷◌, ◌++◌, length, take, refl, sym, ap, ◌∙◌, subst}
use Rattle.std.specs.Prelude.{slice_get}
use Rattle.std.proofs.lemmas.List.{append-nil}
use Rattle.djvu_base.specs.Library.{Files, Library, names_of}
use Rattle.djvu_outside.specs.Faults.{Failure}
use Rattle.zp_table.specs.declared.rows.Row.{Row}
use Rattle.zp_table.specs.Rows.{IsTable}
use Rattle.page_decoder.specs.PageRead.{NeedFile, PageRead}
use Rattle.page_decoder.specs.Libraries.{run}
use Rattle.replay_core.specs.Core.{CoreSeen, Stands}
use Rattle.replay_core.specs.Counts.{Counts}
use Rattle.replay_core.specs.Machine.{PageState, State, Event, Feed, End, answers, drawn_in, state_after_all, page_notices, unread_page, IsSound}
use Rattle.viewer_words.specs.Lines.{name_at}
use Rattle.viewer_run.specs.declared.core_run.CoreRun.{CoreRun}
use Rattle.viewer_run.specs.declared.core_run.Halt.{Halt}
use Rattle.viewer_run.specs.CoreRun.{FileComes, ToHalt, HaltsAt, GoneTo, Opens, LinesAre}
use Rattle.viewer_run.specs.Texts.{lines_of}
use Rattle.viewer_run.proofs.Onward.{GoOn, GoBoth, went_file, went_steps}
use Rattle.viewer_run.proofs.Paging.{gone_steps, needs_file}

-- what was drawn of a page so far, and its lines
pub record OnPage (told : Option Files) (page file : ℕ) (state : State) (counts : Counts) (old now : CoreRun) (lines : List ℕ)
    (failures_old failures_now : List Failure) (count_old count_now : ℕ) : Type 0 where
  pub gone : GoneTo told page file state counts old now failures_old failures_now count_old count_now
  pub here : PageState
  pub is_here : slice_get gone.went.after.pages page ≡ Some here
  pub file_so : here.file ≡ file
  pub lines_so : LinesAre old.core.table gone.went.after.library file here.drawn (name_at old.names file) lines

pub on_first : (told : Option Files) (page file : ℕ) (state : State) (counts : Counts) (old now : CoreRun) (lines : List ℕ)
    (failures_old failures_now : List Failure) (count : ℕ) → Opens told page file state counts old now failures_old failures_now count
    → slice_get state.pages page ≡ Some (unread_page file) → lines ≡ []
    → OnPage told page file state counts old now lines failures_old failures_now count count
on_first told page file state counts old now lines failures_old failures_now count opens found none = record {
  gone = opens.gone;
  here = unread_page file;
  is_here = ap (λ l. slice_get l page) opens.pages ∙ found;
  file_so = refl;
  lines_so = none;
}

pub lines_moved : (table other : List Row) (library later : Library) (file at drawn : ℕ) (name lines : List ℕ) → other ≡ table → later ≡ library → file ≡ at
    → LinesAre other library file drawn name lines → LinesAre table later at drawn name lines
lines_moved table other library later file at drawn name lines same_table same_library same_file is =
    subst (λ t. LinesAre t later at drawn name lines) same_table
    (subst (λ l. LinesAre other l at drawn name lines) (sym same_library) (subst (λ f. LinesAre other library f drawn name lines) same_file is))

-- ---- steps

module _ (told : Option Files) (page file : ℕ) (state : State) (counts : Counts) (old mid new : CoreRun) (lines_mid lines_new : List ℕ)
    (failures_old failures_mid : List Failure) (count_old count_mid count_new : ℕ)
    (on : OnPage told page file state counts old mid lines_mid failures_old failures_mid count_old count_mid) (halted_at : Halt)
    (halted : ToHalt (Ok halted_at) page on.here on.gone.went.after on.gone.went.counted_so mid new lines_mid lines_new count_mid count_new) where
  gone_now : GoneTo told page file state counts old new failures_old failures_mid count_old count_new
  gone_now =
      gone_steps told page file on.here state counts old mid new failures_old failures_mid count_old count_mid count_new on.gone halted.stepped

  unfoldable pub on_steps : OnPage told page file state counts old new lines_new failures_old failures_mid count_old count_new
  unfolding gone_now gone_steps went_steps
  on_steps =
      let same = on.gone.went.same in
      let name : name_at old.names file ≡ name_at mid.names on.here.file =
      ap (λ n. name_at n file) (sym same.names) ∙ ap (name_at mid.names) (sym on.file_so) in
      let before =
      lines_moved mid.core.table old.core.table on.gone.went.after.library on.gone.went.after.library file on.here.file on.here.drawn (name_at old.names file)
      lines_mid (sym same.frame.table) refl (sym on.file_so) on.lines_so in
      record {
        gone = gone_now;
        here = halted.stepped.now;
        is_here = halted.stepped.is_now;
        file_so = halted.stepped.file ∙ on.file_so;
        lines_so =
            lines_moved old.core.table mid.core.table on.gone.went.after.library halted.stepped.after.library on.here.file file halted.stepped.now.drawn
            (name_at old.names file) lines_new same.frame.table halted.stepped.library on.file_so (halted.lines (name_at old.names file) name before);
      }

  pub run_now : run mid.core.table on.gone.went.after.library on.here.file ≡ run old.core.table on_steps.gone.went.after.library file
  unfolding on_steps gone_now gone_steps went_steps
  run_now =
      ap (λ t. run t on.gone.went.after.library on.here.file) on.gone.went.same.frame.table
      ∙ ap (λ l. run old.core.table l on.here.file) (sym halted.stepped.library) ∙ ap (run old.core.table on_steps.gone.went.after.library) on.file_so

  pub halts_now : HaltsAt halted_at (run old.core.table on_steps.gone.went.after.library file).end
  halts_now = subst (λ (r : PageRead). HaltsAt halted_at r.end) run_now halted.halts

-- ---- a file that is needed

-- the law of notices that were drawn
abbrev pub NoticesStay : Type 0
NoticesStay = (table : List Row) (state : State) (events : List Event) (page : ℕ) (it next : PageState) → IsTable table → IsSound table state
    → slice_get state.pages page ≡ Some it → slice_get (state_after_all table state events).pages page ≡ Some next
    → take next.drawn (page_notices table (state_after_all table state events).library it.file)
    ≡ take it.drawn (page_notices table state.library it.file) ++ drawn_in page events (answers table state events)

abbrev pub IsSoundBy : Type 0
IsSoundBy = (state : State) (counts : Counts) (core : CoreSeen) → Stands state counts core → IsSound core.table state

module _ (told : Option Files) (page file needed : ℕ) (state : State) (counts : Counts) (old mid new : CoreRun) (lines : List ℕ)
    (failures_old failures_mid failures_new : List Failure) (faults_mid faults_new count_old count_mid : ℕ)
    (before : OnPage told page file state counts old mid lines failures_old failures_mid count_old count_mid)
    (unread_so : slice_get mid.read.items needed ≡ Some false) (inside : needed < length mid.names)
    (need : (run old.core.table before.gone.went.after.library file).end ≡ NeedFile needed)
    (over : (files : Files) → told ≡ Some files → old.names ≡ names_of files) where
  pub on_file : GoOn → GoBoth → NoticesStay → IsSoundBy
      → FileComes told needed before.gone.went.after before.gone.went.counted_so mid new failures_mid failures_new faults_mid faults_new
      → OnPage told page file state counts old new lines failures_old failures_new count_old count_mid
  unfolding needs_file went_file
  on_file on both stay sound comes =
      let was = before.gone.went in
      let notices =
      stay mid.core.table was.after (Feed needed comes.bytes ∷ End needed comes.end ∷ []) page before.here before.here was.follows.table
      (sound was.after was.counted_so mid.core was.follows.stands) before.is_here before.is_here
      ∙ append-nil (take before.here.drawn (page_notices mid.core.table was.after.library before.here.file)) in
      let table = was.same.frame.table in
      let lines_before =
      lines_moved mid.core.table old.core.table was.after.library was.after.library file before.here.file before.here.drawn (name_at old.names file) lines
      (sym table) refl (sym before.file_so) before.lines_so in
      record {
        gone =
            needs_file told page file needed state counts old mid new failures_old failures_mid failures_new faults_mid faults_new count_old count_mid
            before.gone unread_so inside need over on both comes;
        here = before.here;
        is_here = before.is_here;
        file_so = before.file_so;
        lines_so =
            lines_moved old.core.table mid.core.table _ _ before.here.file file before.here.drawn (name_at old.names file) lines table refl before.file_so
            (lines_before ∙ ap (lines_of (name_at old.names file)) (sym notices));
      }
