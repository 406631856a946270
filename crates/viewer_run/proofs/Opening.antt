-- A page's own file: `open`.
use Rattle.std.proofs.Common.{◌≡◌, ◌<◌, ◌≤◌, ◌+◌, ℕ, true, false, cond, Option, Some, Result, Ok, Err, List, [], ◌∷◌, ◌++◌, length, get_or, refl, sym, ap, ◌∙◌, subst, arith}
use Rattle.std.specs.Prelude.{slice_get, ⊤, IfOk}
use Rattle.std.proofs.lemmas.Option.{slice_get_within, slice_get-get_or}
use Rattle.djvu_base.specs.Library.{Files, Library, names_of}
use Rattle.djvu_outside.specs.declared.stops.Stop.{Stop}
use Rattle.djvu_outside.specs.Faults.{Failure}
use Rattle.include_graph.specs.Verdicts.{is_among}
use Rattle.zp_table.specs.declared.rows.Row.{Row}
use Rattle.page_decoder.specs.Libraries.{run, LibraryGoesOn}
use Rattle.replay_core.specs.Counts.{Counts}
use Rattle.replay_core.specs.Machine.{State}
use Rattle.viewer_run.specs.declared.core_run.CoreRun.{CoreRun}
use Rattle.viewer_run.specs.CoreRun.{Follows, FileComes, StopsBefore, ComesSo, CanDraw, CanStep, OpensSo, ReadSo, StopsAt, Opens, unread, with_file, with_needs}
use Rattle.viewer_run.specs.Reads.{after_reading, and_page}
use Rattle.viewer_run.proofs.Extending.{stopped_more, read_more}
use Rattle.viewer_run.proofs.Unread.{few_unread}
use Rattle.viewer_run.proofs.Onward.{GoOn, GoBoth, went_nowhere, went_file}

page_among : (page : ℕ) (read : List ℕ) → is_among page read ≡ true → and_page page read ≡ read
page_among page read e = ap (λ t. cond t read (read ++ page ∷ [])) e

page_new : (page : ℕ) (read : List ℕ) → is_among page read ≡ false → and_page page read ≡ read ++ page ∷ []
page_new page read e = ap (λ t. cond t read (read ++ page ∷ [])) e

-- a page whose file was read needs nothing first
read_before : (table : List Row) (files : Files) (start now : List Failure) (order : Library → List ℕ) (library : Library) (it : CoreRun) (file : ℕ)
    → slice_get it.read.items file ≡ Some true → ReadSo files start now order library it
    → ReadSo files start now (with_needs table file 0 order) library it
read_before table files start now order library it file flag before = record {
  added = before.added;
  grown = before.grown;
  read = before.read;
  library_so = before.library_so;
  flags_so = before.flags_so;
  below = before.below;
  only = before.only;
  first = before.first;
  broken = before.broken;
  order_so = λ later none. ap (and_page file) (before.order_so later none) ∙ page_among file before.read (before.flags_so file true flag);
}

-- ---- the file

flags_few : (state : State) (counts : Counts) (old run : CoreRun) → Follows state counts run → run.names ≡ old.names
    → 0 + unread run.read.items ≤ length old.names
flags_few state counts old run follows names =
    let few = few_unread run.read.items in
    let many = follows.flags in
    let same = ap length names in
    omega (arith, few, many, same)

pub opens_read : (told : Option Files) (page file : ℕ) (state : State) (counts : Counts) (run : CoreRun) (failures : List Failure) (count : ℕ)
    → ((library : Library) → LibraryGoesOn library library) → Follows state counts run → slice_get run.read.items file ≡ Some true
    → Opens told page file state counts run run failures failures count
unfolding went_nowhere
opens_read told page file state counts run failures count same follows flag = record {
  gone = record {
    went = went_nowhere page state counts run count same follows;
    needs = 0;
    few = flags_few state counts run run follows refl;
    read_so = λ files start order is before. read_before run.core.table files start failures order state.library run file flag before;
  };
  pages = refl;
}

module _ (told : Option Files) (page file : ℕ) (state : State) (counts : Counts) (old new : CoreRun) (failures_old failures_new : List Failure)
    (faults_old faults_new count : ℕ) (same : (library : Library) → LibraryGoesOn library library) (follows : Follows state counts old)
    (unread_so : slice_get old.read.items file ≡ Some false) (inside : file < length old.names)
    (over : (files : Files) → told ≡ Some files → old.names ≡ names_of files) where
  first_so : (files : Files) (start : List Failure) (order : Library → List ℕ) (before : ReadSo files start failures_old order state.library old)
      (whole : Library) → order whole ≡ before.read → after_reading before.read whole ≡ state.library
      → with_needs old.core.table file 0 order whole ≡ before.read ++ file ∷ []
  first_so files start order before whole is known =
      ap (and_page file) is ∙ page_new file before.read (before.flags_so file false unread_so)

  pub opens_file : GoOn → GoBoth
      → FileComes told file state counts old new failures_old failures_new faults_old faults_new
      → Opens told page file state counts old new failures_old failures_new count
  unfolding went_nowhere went_file
  opens_file on both comes = record {
    gone = record {
      went =
          went_file on both told page file state counts old old new failures_old failures_new faults_old faults_new count count
          (went_nowhere page state counts old count same follows) comes;
      needs = 0;
      few = flags_few _ _ old new comes.follows comes.same.names;
      read_so = λ files start order is before.
          read_more files start failures_old failures_new order (with_needs old.core.table file 0 order) state.library old file before (over files is)
          follows.ascending inside unread_so (first_so files start order before) new comes.bytes comes.end (comes.told_so files is) comes.same.names
          comes.flagged comes.others comes.broken;
    };
    pages = refl;
  }

  pub opens_stop : StopsBefore told file old failures_old failures_new faults_old faults_new
      → StopsAt told page file state counts old failures_old failures_new count count
  unfolding went_nowhere
  opens_stop stops = record {
    mid = old;
    went = went_nowhere page state counts old count same follows;
    needs = 0;
    few = omega arith;
    stopped = λ files start order is before.
        let failed = stops.failed files is in
        stopped_more files start failures_old failures_new order (with_needs old.core.table file 0 order) state.library old file before (over files is)
        follows.ascending inside unread_so (first_so files start order before) failed.0 failed.1 failed.2 failed.3;
  }

-- ---- how it is read

abbrev pub GoSame : Type 0
GoSame = (library : Library) → LibraryGoesOn library library

pub opens_so : GoOn → GoBoth → GoSame → (result : Result ⊤ Stop) (told : Option Files) (page at file : ℕ) (state : State) (counts : Counts) (old new : CoreRun)
    (failures_old failures_new : List Failure) (faults_old faults_new count : ℕ) → at ≡ file → Follows state counts old
    → slice_get old.read.items at ≡ Some false → at < length old.names → ((files : Files) → told ≡ Some files → old.names ≡ names_of files)
    → ComesSo result told at state counts old new failures_old failures_new faults_old faults_new
    → OpensSo result told page file state counts old new failures_old failures_new count
opens_so on both same (Ok done) told page at file state counts old new failures_old failures_new faults_old faults_new count e follows unread_so inside over
    comes =
    subst (λ f. Opens told page f state counts old new failures_old failures_new count) e
    (opens_file told page at state counts old new failures_old failures_new faults_old faults_new count same follows unread_so inside over on both comes)
opens_so on both same (Err stop) told page at file state counts old new failures_old failures_new faults_old faults_new count e follows unread_so inside over
    stops =
    subst (λ f. StopsAt told page f state counts old failures_old failures_new count count) e
    (opens_stop told page at state counts old new failures_old failures_new faults_old faults_new count same follows unread_so inside over stops)

-- the number of a page's file
pub file_of : (page : ℕ) (run : CoreRun) → CanDraw page run → slice_get run.pages page ≡ Some (get_or run.pages page 0)
file_of page run can =
    let within = slice_get_within run.core.pages page can.seen can.is in
    let many = can.follows.count in
    slice_get-get_or run.pages page 0 (omega (arith, within, many))

pub can_step : (result : Result ⊤ Stop) (told : Option Files) (page file : ℕ) (old new : CoreRun) (failures_old failures_new : List Failure)
    (faults_old faults_new : ℕ) (can : CanDraw page old) → slice_get old.pages page ≡ Some file
    → ComesSo result told file can.state can.counts old new failures_old failures_new faults_old faults_new
    → IfOk result (λ done. CanStep page new)
can_step (Ok done) told page file old new failures_old failures_new faults_old faults_new can found comes = record {
  can = record {
    state = with_file old.core.table can.state file comes.bytes comes.end;
    counts = can.counts;
    follows = comes.follows;
    seen = can.seen;
    is = ap (λ l. slice_get l page) comes.pages ∙ can.is;
    open_ = can.open_;
    there = can.there;
  };
  file = file;
  is_file = ap (λ l. slice_get l page) comes.same.pages ∙ found;
  read = comes.flagged;
}
can_step (Err stop) told page file old new failures_old failures_new faults_old faults_new can found stops = tt

-- it has a flag
pub flag_there : (page : ℕ) (run : CoreRun) (pages : List ℕ) → CanDraw page run → pages ≡ run.pages → get_or pages page 0 < length run.read.items
flag_there page run pages can same =
    let inside = can.follows.below page (get_or run.pages page 0) (file_of page run can) in
    let many = can.follows.flags in
    subst (λ l. get_or l page 0 < length run.read.items) (sym same) (omega (arith, inside, many))
