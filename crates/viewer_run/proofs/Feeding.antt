-- A file that was read, in the core's state.
use Rattle.std.proofs.Common.{◌≡◌, ◌≢◌, ◌<◌, ◌≤◌, ◌+◌, ◌||◌, ℕ, zero, suc, Bool, true, false, cond, Option, Some, None, List, [], ◌∷◌, ◌++◌, length, take, ◌⊎◌, inl, inr, refl, sym, ap, ◌∙◌, subst, arith}
use Rattle.std.specs.Prelude.{slice_get}
use Rattle.std.specs.Str.{bytes_eq}
use Rattle.std.proofs.lemmas.List.{append-nil}
use Rattle.djvu_base.specs.declared.ends.FileEnd.{FileEnd}
use Rattle.djvu_base.specs.declared.ends.FileEnd.TheVariants as file_end
use Rattle.djvu_base.specs.Library.{File, Files, Library, Mark, Open, Whole, Broken, mark_of, file_limit}
use Rattle.djvu_base.specs.Name.{IsAscending}
use Rattle.djvu_outside.specs.Faults.{Failure, Reading}
use Rattle.djvu_outside.specs.FileReads.{is_broken, IsReadTo, CountsEnd}
use Rattle.djvu_outside.specs.Reading.{bytes_in}
use Rattle.zp_table.specs.Rows.{IsTable}
use Rattle.page_decoder.specs.Libraries.{names_in}
use Rattle.replay_core.specs.Core.{Stands}
use Rattle.replay_core.specs.Counts.{Counts}
use Rattle.replay_core.specs.Machine.{State, change_at, fed, fed_by, ended, ended_by, empty_file}
use Rattle.viewer_run.specs.declared.core_run.CoreRun.{CoreRun}
use Rattle.viewer_words.specs.Lines.{name_at}
use Rattle.viewer_run.specs.CoreRun.{Follows, StopsBefore, with_file}
use Rattle.viewer_run.specs.Shown.{NamesOnly, lists_first, BrokenCounts}

-- an item of a list in which one was changed: the changed one, or another
abbrev ChangedOr : {A : Type 0} → (A → A) → ℕ → List A → ℕ → A → Type 0
ChangedOr {A = A} change number list other it =
    ((other ≡ number) × ((was : A) × (slice_get list other ≡ Some was) × (it ≡ change was))) ⊎ ((other ≢ number) × (slice_get list other ≡ Some it))

pub changed_or : {A : Type 0} (change : A → A) (number : ℕ) (list : List A) (other : ℕ) (it : A) → slice_get (change_at change number list) other ≡ Some it
    → ChangedOr change number list other it
changed_or change number [] other it e = cc
changed_or change zero (first ∷ list) zero it e = let same : it ≡ change first = cc in inl (refl, (first, refl, same))
changed_or change zero (first ∷ list) (suc other) it e = inr (λ s. cc, e)
changed_or change (suc number) (first ∷ list) zero it e = inr (λ s. cc, e)
changed_or {A = A} change (suc number) (first ∷ list) (suc other) it e = by (changed_or change number list other it e)
  where
    by : ChangedOr change number list other it → ChangedOr change (suc number) (first ∷ list) (suc other) it
    by (inl here) = inl (ap suc here.0, here.1)
    by (inr there) = inr (λ s. let less : other ≡ number = cc in there.0 less, there.1)

names_kept : (change : File → File) → ((file : File) → (change file).name ≡ file.name) → (number : ℕ) (library : Library)
    → names_in (change_at change number library) ≡ names_in library
names_kept change kept number [] = refl
names_kept change kept zero (file ∷ library) = ap (λ n. n ∷ names_in library) (kept file)
names_kept change kept (suc number) (file ∷ library) = ap (λ l. file.name ∷ l) (names_kept change kept number library)

fed_name : (bytes : List ℕ) (file : File) → (fed bytes file).name ≡ file.name
fed_name bytes file = by file.mark
  where
    by : (mark : Mark) → (fed_by mark bytes file).name ≡ file.name
    by Open = refl
    by Whole = refl
    by Broken = refl

ended_name : (end : FileEnd) (file : File) → (ended end file).name ≡ file.name
ended_name end file = by file.mark
  where
    by : (mark : Mark) → (ended_by mark end file).name ≡ file.name
    by Open = refl
    by Whole = refl
    by Broken = refl

is_closed : (end : FileEnd) → mark_of end ≢ Open
is_closed file_end.Whole e = cc
is_closed file_end.Broken e = cc

-- a core that was fed a whole file
module _ (state : State) (counts : Counts) (old new : CoreRun) (file : ℕ) (bytes : List ℕ) (end : FileEnd) (before : Follows state counts old)
    (unread : slice_get old.read.items file ≡ Some false) (read : slice_get new.read.items file ≡ Some true)
    (others : (other : ℕ) → other ≢ file → slice_get new.read.items other ≡ slice_get old.read.items other) where
  -- what became of each file
  file_after : (number : ℕ) (it : File) → slice_get (change_at (ended end) file (change_at (fed bytes) file state.library)) number ≡ Some it
      → ((number ≡ file) × (it.mark ≢ Open)) ⊎ ((number ≢ file) × (slice_get state.library number ≡ Some it))
  file_after number it e = by (changed_or (ended end) file (change_at (fed bytes) file state.library) number it e)
    where
      closed : (was : File) → slice_get state.library number ≡ Some was → number ≡ file → (ended end (fed bytes was)).mark ≢ Open
      closed was found here =
          let empty = before.empty number was found (ap (slice_get old.read.items) here ∙ unread) in
          subst (λ f. (ended end (fed bytes f)).mark ≢ Open) (sym empty) (is_closed end)

      by : ChangedOr (ended end) file (change_at (fed bytes) file state.library) number it
          → ((number ≡ file) × (it.mark ≢ Open)) ⊎ ((number ≢ file) × (slice_get state.library number ≡ Some it))
      by (inl here) = by_fed (changed_or (fed bytes) file state.library number here.1.0 here.1.1)
        where
          by_fed : ChangedOr (fed bytes) file state.library number here.1.0
              → ((number ≡ file) × (it.mark ≢ Open)) ⊎ ((number ≢ file) × (slice_get state.library number ≡ Some it))
          by_fed (inl inner) =
              inl (
                here.0,
                subst (λ (f : File). f.mark ≢ Open) (sym (here.1.2 ∙ ap (ended end) inner.1.2)) (closed inner.1.0 inner.1.1 inner.0),
              )
          by_fed (inr outer) = absurd (outer.0 here.0)
      by (inr there) = by_fed (changed_or (fed bytes) file state.library number it there.1)
        where
          by_fed : ChangedOr (fed bytes) file state.library number it
              → ((number ≡ file) × (it.mark ≢ Open)) ⊎ ((number ≢ file) × (slice_get state.library number ≡ Some it))
          by_fed (inl inner) = absurd (there.0 inner.0)
          by_fed (inr outer) = inr (there.0, outer.1)

  pub follows_file : Stands (with_file old.core.table state file bytes end) counts new.core → new.core.table ≡ old.core.table → new.core.names ≡ old.core.names
      → length new.core.pages ≡ length old.core.pages → new.names ≡ old.names → new.pages ≡ old.pages → length new.read.items ≡ length old.read.items
      → Follows (with_file old.core.table state file bytes end) counts new
  follows_file stands table core_names core_pages names pages flags = record {
    names =
        names_kept (ended end) (ended_name end) file (change_at (fed bytes) file state.library)
        ∙ names_kept (fed bytes) (fed_name bytes) file state.library ∙ before.names ∙ sym names;
    core_names = core_names ∙ before.core_names ∙ sym names;
    ascending = subst IsAscending (sym names) before.ascending;
    flags = flags ∙ before.flags ∙ sym (ap length names);
    table = subst IsTable (sym table) before.table;
    stands = stands;
    closed = λ number it found flag. closed_at number it flag (file_after number it found);
    empty = λ number it found flag. empty_at number it flag (file_after number it found);
    pages = before.pages ∙ sym pages;
    count = core_pages ∙ before.count ∙ sym (ap length pages);
    below = λ page number found.
        subst (λ l. number < length l) (sym names) (before.below page number (ap (λ l. slice_get l page) (sym pages) ∙ found));
  }
    where
      closed_at : (number : ℕ) (it : File) → slice_get new.read.items number ≡ Some true
          → ((number ≡ file) × (it.mark ≢ Open)) ⊎ ((number ≢ file) × (slice_get state.library number ≡ Some it)) → it.mark ≢ Open
      closed_at number it flag (inl here) = here.1
      closed_at number it flag (inr there) = before.closed number it there.1 (sym (others number there.0) ∙ flag)

      empty_at : (number : ℕ) (it : File) → slice_get new.read.items number ≡ Some false
          → ((number ≡ file) × (it.mark ≢ Open)) ⊎ ((number ≢ file) × (slice_get state.library number ≡ Some it)) → it ≡ empty_file it.name
      empty_at number it flag (inl here) =
          let both : Some true ≡ Some false = sym read ∙ ap (slice_get new.read.items) (sym here.0) ∙ flag in cc
      empty_at number it flag (inr there) = before.empty number it there.1 (sym (others number there.0) ∙ flag)

-- ---- failures of one file

-- what a reading of this file added to the failures
pub record AddsOf (name : List ℕ) (old new : List Failure) : Type 0 where
  pub added : List Failure
  pub grown : new ≡ old ++ added
  pub only : NamesOnly (name ∷ []) added
  pub first : lists_first added ≡ false

pub adds_of : (end : FileEnd) (bytes content name : List ℕ) (old new : List Failure) → IsReadTo end bytes content name 0 old new → AddsOf name old new
adds_of file_end.Whole bytes content name old new read =
    record { added = []; grown = read.1 ∙ sym (append-nil old); only = λ other apart. refl; first = refl }
adds_of file_end.Broken bytes content name old new read =
    record { added = Reading name (0 + length bytes) ∷ []; grown = read.1; only = λ other apart. by (bytes_eq other name) apart; first = refl }
  where
    by : (t : Bool) → (t || false) ≡ false → cond t (Some (0 + length bytes)) None ≡ None
    by true e = cc
    by false e = refl

pub faults_grow : (end : FileEnd) (old new : ℕ) → CountsEnd end old new → old ≤ new
faults_grow file_end.Whole old new e = omega (arith, e)
faults_grow file_end.Broken old new rises = rises.later

-- a file was read, and then there was no memory for it
pub stops_reading : (told : Option Files) (file : ℕ) (old : CoreRun) (failures_old failures_new : List Failure) (faults_old faults_new : ℕ)
    (bytes : List ℕ) (end : FileEnd) → CountsEnd end faults_old faults_new
    → ((files : Files) → told ≡ Some files
    → IsReadTo end bytes (take file_limit (bytes_in files (name_at old.names file))) (name_at old.names file) 0 failures_old failures_new)
    → StopsBefore told file old failures_old failures_new faults_old faults_new
stops_reading told file old failures_old failures_new faults_old faults_new bytes end rises read = record {
  faults = faults_grow end faults_old faults_new rises;
  failed = λ files is. let adds = adds_of end bytes _ (name_at old.names file) failures_old failures_new (read files is) in
      (adds.added, adds.grown, adds.only, adds.first);
}

pub broken_counts : (end : FileEnd) (old new : ℕ) → CountsEnd end old new → BrokenCounts (is_broken end) old new
broken_counts file_end.Whole old new e = e
broken_counts file_end.Broken old new rises = rises
