-- How far a run has come with a page: the files that it needs, and its steps.
use Rattle.std.proofs.Common.{◌≡◌, ◌<◌, ◌≤◌, ◌+◌, ℕ, false, Option, Some, List, [], ◌∷◌, ◌++◌, length, map, refl, sym, ap, ◌∙◌, subst, arith}
use Rattle.std.specs.Prelude.{slice_get}
use Rattle.std.proofs.lemmas.List.{append-nil}
use Rattle.djvu_base.specs.Library.{Files, Library, names_of, library_of}
use Rattle.djvu_outside.specs.Cut.{cut}
use Rattle.djvu_outside.specs.Faults.{Failure}
use Rattle.include_graph.specs.Verdicts.{is_among}
use Rattle.page_decoder.specs.PageRead.{NeedFile}
use Rattle.page_decoder.specs.Libraries.{run, LibraryGoesOn}
use Rattle.replay_core.specs.Counts.{Counts}
use Rattle.replay_core.specs.Machine.{PageState, State}
use Rattle.viewer_words.specs.Lines.{name_at}
use Rattle.viewer_run.specs.declared.core_run.CoreRun.{CoreRun}
use Rattle.viewer_run.specs.CoreRun.{FileComes, StopsBefore, ReadSo, StoppedSo, Stepped, GoneTo, StopsAt, OfUnread, unread, with_needs}
use Rattle.viewer_run.specs.Reads.{after_reading, needed_by, and_page}
use Rattle.viewer_run.proofs.Extending.{stopped_more, read_more}
use Rattle.viewer_run.specs.Shown.{NamesOnly, HasBroken}
use Rattle.viewer_run.proofs.Known.{known_goes_on}
use Rattle.viewer_run.proofs.Ordering.{one_need}
use Rattle.viewer_run.proofs.Unread.{one_read, some_unread}
use Rattle.viewer_run.proofs.Onward.{GoOn, GoBoth, went_file, went_steps}

-- ---- what was read, where it is the same

pub read_same : (files : Files) (start now : List Failure) (order : Library → List ℕ) (library later : Library) (a b : CoreRun) → b.names ≡ a.names
    → b.read.items ≡ a.read.items → b.broken ≡ a.broken → later ≡ library → ReadSo files start now order library a
    → ReadSo files start now order later b
read_same files start now order library later a b names flags broken same before = record {
  added = before.added;
  grown = before.grown;
  read = before.read;
  library_so = same ∙ before.library_so;
  flags_so = λ number flag found. before.flags_so number flag (ap (λ l. slice_get l number) (sym flags) ∙ found);
  below = λ number among. subst (λ n. number < length n) (sym names) (before.below number among);
  only = subst (λ n. NamesOnly (map (name_at n) before.read) before.added) (sym names) before.only;
  first = before.first;
  broken = subst (λ t. HasBroken t before.added) (sym broken) before.broken;
  order_so = λ later none. before.order_so later (subst (λ n. OfUnread n before.read later) names none);
}

-- a run that stops without more failures
pub stopped_here : (files : Files) (start now : List Failure) (order : Library → List ℕ) (library : Library) (it : CoreRun) (names : List (List ℕ))
    → it.names ≡ names → ReadSo files start now order library it → StoppedSo files start now order names library
stopped_here files start now order library it names same before =
    let whole = cut before.added (library_of files) in
    let told : order whole ≡ before.read =
    ap (λ f. order (cut f (library_of files))) (sym (append-nil before.added)) ∙ before.order_so [] (λ number among. refl) in
    record {
      added = before.added;
      grown = before.grown;
      goes_on = subst (λ l. LibraryGoesOn l whole) (sym before.library_so) (known_goes_on (λ number. is_among number before.read) whole);
      only =
          subst (λ l. NamesOnly (map (name_at names) l) before.added) (sym told)
          (subst (λ n. NamesOnly (map (name_at n) before.read) before.added) same before.only);
      first = before.first;
    }

-- ---- a file that the page needs

module _ (told : Option Files) (page file needed : ℕ) (state : State) (counts : Counts) (old mid new : CoreRun)
    (failures_old failures_mid failures_new : List Failure) (faults_mid faults_new count_old count_mid : ℕ)
    (before : GoneTo told page file state counts old mid failures_old failures_mid count_old count_mid)
    (unread_so : slice_get mid.read.items needed ≡ Some false) (inside : needed < length mid.names)
    (need : (run old.core.table before.went.after.library file).end ≡ NeedFile needed)
    (over : (files : Files) → told ≡ Some files → old.names ≡ names_of files) where
  pub next_so : (order : Library → List ℕ) (read : List ℕ) (whole : Library)
      → with_needs old.core.table file before.needs order whole ≡ read → after_reading read whole ≡ before.went.after.library
      → with_needs old.core.table file (before.needs + 1) order whole ≡ read ++ needed ∷ []
  next_so order read whole is known =
      sym (one_need old.core.table whole file before.needs needed (and_page file (order whole)) read (sym is)
      (ap (λ l. needed_by (run old.core.table l file).end) known ∙ ap needed_by need))

  pub over_mid : (files : Files) → told ≡ Some files → mid.names ≡ names_of files
  over_mid files is = before.went.same.names ∙ over files is

  unfoldable pub needs_file : GoOn → GoBoth
      → FileComes told needed before.went.after before.went.counted_so mid new failures_mid failures_new faults_mid faults_new
      → GoneTo told page file state counts old new failures_old failures_new count_old count_mid
  unfolding went_file
  needs_file on both comes =
      let less =
      one_read mid.read.items new.read.items needed
      (comes.follows.flags ∙ ap length comes.same.names ∙ sym before.went.follows.flags) unread_so comes.flagged comes.others in
      let few = before.few in
      record {
        went =
            went_file on both told page needed state counts old mid new failures_mid failures_new faults_mid faults_new count_old count_mid before.went comes;
        needs = before.needs + 1;
        few = omega (arith, few, less);
        read_so = λ files start order is was.
            let so = before.read_so files start order is was in
            read_more files start failures_mid failures_new (with_needs old.core.table file before.needs order)
            (with_needs old.core.table file (before.needs + 1) order) before.went.after.library mid needed so (over_mid files is)
            before.went.follows.ascending inside unread_so (next_so order so.read) new comes.bytes comes.end (comes.told_so files is) comes.same.names
            comes.flagged comes.others comes.broken;
      }

  pub needs_stop : StopsBefore told needed mid failures_mid failures_new faults_mid faults_new
      → StopsAt told page file state counts old failures_old failures_new count_old count_mid
  needs_stop stops =
      let some = some_unread mid.read.items needed unread_so in
      let few = before.few in
      record {
        mid = mid;
        went = before.went;
        needs = before.needs + 1;
        few = omega (arith, few, some);
        stopped = λ files start order is was.
            let so = before.read_so files start order is was in
            let failed = stops.failed files is in
            subst (λ n. StoppedSo files start failures_new (with_needs old.core.table file (before.needs + 1) order) n before.went.after.library)
            before.went.same.names
            (stopped_more files start failures_mid failures_new (with_needs old.core.table file before.needs order)
            (with_needs old.core.table file (before.needs + 1) order) before.went.after.library mid needed so (over_mid files is)
            before.went.follows.ascending inside unread_so (next_so order so.read) failed.0 failed.1 failed.2 failed.3);
      }

-- ---- steps of the page

module _ (told : Option Files) (page file : ℕ) (here : PageState) (state : State) (counts : Counts) (old mid new : CoreRun)
    (failures_old failures_mid : List Failure) (count_old count_mid count_new : ℕ)
    (before : GoneTo told page file state counts old mid failures_old failures_mid count_old count_mid)
    (steps : Stepped mid.core.table page here before.went.after before.went.counted_so mid new count_mid count_new) where
  pub read_so : (files : Files) (start : List Failure) (order : Library → List ℕ) → told ≡ Some files
      → ReadSo files start failures_old order state.library old
      → ReadSo files start failures_mid (with_needs old.core.table file before.needs order) steps.after.library new
  read_so files start order is was =
      read_same files start failures_mid (with_needs old.core.table file before.needs order) before.went.after.library steps.after.library mid new
      steps.names steps.read steps.broken steps.library (before.read_so files start order is was)

  unfoldable pub gone_steps : GoneTo told page file state counts old new failures_old failures_mid count_old count_new
  unfolding went_steps
  gone_steps = record {
    went = went_steps page here state counts old mid new count_old count_mid count_new before.went steps;
    needs = before.needs;
    few = subst (λ f. before.needs + unread f ≤ length old.names) (sym steps.read) before.few;
    read_so = read_so;
  }

  pub steps_stop : StopsAt told page file state counts old failures_old failures_mid count_old count_new
  unfolding went_steps
  steps_stop =
      let few = before.few in
      record {
        mid = new;
        went = went_steps page here state counts old mid new count_old count_mid count_new before.went steps;
        needs = before.needs;
        few = omega (arith, few);
        stopped = λ files start order is was.
            stopped_here files start failures_mid (with_needs old.core.table file before.needs order) steps.after.library new old.names
            (steps.names ∙ before.went.same.names) (read_so files start order is was);
      }
