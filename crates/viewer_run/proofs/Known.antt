-- Libraries of which some files were read.
use Rattle.std.proofs.Common.{◌≡◌, ◌≢◌, ℕ, zero, suc, Bool, true, false, Option, Some, List, [], ◌∷◌, ◌++◌, None, map, inl, inr, refl, sym, ap, ◌∙◌}
use Rattle.std.specs.Prelude.{slice_get}
use Rattle.djvu_base.specs.declared.ends.FileEnd.{FileEnd}
use Rattle.djvu_base.specs.Library.{File, Library, mark_of}
use Rattle.djvu_outside.specs.Cut.{first_entry, cut_at, cut_file, cut}
use Rattle.djvu_outside.specs.Faults.{Failure}
use Rattle.page_decoder.specs.Libraries.{names_in, FileGoesOn, LibraryGoesOn}
use Rattle.replay_core.specs.Machine.{change_at, fed, ended, empty_file}
use Rattle.viewer_run.specs.Reads.{file_once, known_by}
use Rattle.viewer_run.proofs.Cutting.{entry_before}

pub known_same : (has now : ℕ → Bool) (library : Library) → ((number : ℕ) → has number ≡ now number) → known_by has library ≡ known_by now library
known_same has now [] same = refl
known_same has now (file ∷ library) same =
    ap (λ b. file_once b file ∷ known_by (λ number. has (suc number)) library) (same zero)
    ∙ ap (λ l. file_once (now zero) file ∷ l)
    (known_same (λ number. has (suc number)) (λ number. now (suc number)) library (λ number. same (suc number)))

-- a file that wasn't read comes whole
pub file_comes : (has now : ℕ → Bool) (library : Library) (number : ℕ) (file : File) (bytes : List ℕ) (end : FileEnd)
    → slice_get library number ≡ Some file → file ≡ record { name = file.name; bytes = bytes; mark = mark_of end } → has number ≡ false → now number ≡ true
    → ((other : ℕ) → other ≢ number → has other ≡ now other)
    → change_at (ended end) number (change_at (fed bytes) number (known_by has library)) ≡ known_by now library
file_comes has now [] number file bytes end found is was read same = cc
file_comes has now (first ∷ library) zero file bytes end found is was read same =
    let here : first ≡ file = cc in
    let rest = known_same (λ number. has (suc number)) (λ number. now (suc number)) library (λ number. same (suc number) (λ e. cc)) in
    ap (λ b. ended end (fed bytes (file_once b first)) ∷ known_by (λ number. has (suc number)) library) was
    ∙ ap (λ l. ended end (fed bytes (empty_file first.name)) ∷ l) rest
    ∙ ap (λ f. f ∷ known_by (λ number. now (suc number)) library)
    (ap (λ (f : File). let it : File = record { name = f.name; bytes = bytes; mark = mark_of end } in it) here ∙ sym is ∙ sym here)
    ∙ ap (λ b. file_once b first ∷ known_by (λ number. now (suc number)) library) (sym read)
file_comes has now (first ∷ library) (suc number) file bytes end found is was read same =
    ap (λ b. file_once b first
    ∷ change_at (ended end) number (change_at (fed bytes) number (known_by (λ other. has (suc other)) library))) (same zero (λ e. cc))
    ∙ ap (λ l. file_once (now zero) first ∷ l)
    (file_comes (λ other. has (suc other)) (λ other. now (suc other)) library number file bytes end found is was read
    (λ other apart. same (suc other) (λ e. let pred : other ≡ number = cc in apart pred)))

pub cut_name : (failures : List Failure) (file : File) → (cut_file failures file).name ≡ file.name
cut_name failures file = by (first_entry failures file.name)
  where
    by : (found : Option ℕ) → (cut_at found file).name ≡ file.name
    by None = refl
    by (Some count) = refl

once_cut : (a b : List Failure) (is_read : Bool) (file : File) → (is_read ≡ true → first_entry b file.name ≡ None)
    → file_once is_read (cut_file (a ++ b) file) ≡ file_once is_read (cut_file a file)
once_cut a b true file none = ap (λ found. cut_at found file) (entry_before a b file.name (none refl))
once_cut a b false file none = ap empty_file (cut_name (a ++ b) file ∙ sym (cut_name a file))

-- failures of files that weren't read change nothing of what is known
pub known_cut : (has : ℕ → Bool) (a b : List Failure) (library : Library)
    → ((number : ℕ) (file : File) → slice_get library number ≡ Some file → has number ≡ true → first_entry b file.name ≡ None)
    → known_by has (cut (a ++ b) library) ≡ known_by has (cut a library)
known_cut has a b [] none = refl
known_cut has a b (file ∷ library) none =
    ap (λ f. f ∷ known_by (λ number. has (suc number)) (cut (a ++ b) library)) (once_cut a b (has zero) file (none zero file refl))
    ∙ ap (λ l. file_once (has zero) (cut_file a file) ∷ l)
    (known_cut (λ number. has (suc number)) a b library (λ number. none (suc number)))

once_goes_on : (is_read : Bool) (file : File) → FileGoesOn (file_once is_read file) file
once_goes_on true file = record { name = refl; bytes = inr (refl, refl) }
once_goes_on false file = record { name = refl; bytes = inl (refl, (file.bytes, refl)) }

-- what is known goes on to the whole library
pub known_goes_on : (has : ℕ → Bool) (library : Library) → LibraryGoesOn (known_by has library) library
known_goes_on has [] = tt
known_goes_on has (file ∷ library) = (once_goes_on (has zero) file, known_goes_on (λ number. has (suc number)) library)

once_name : (is_read : Bool) (file : File) → (file_once is_read file).name ≡ file.name
once_name true file = refl
once_name false file = refl

pub known_names : (has : ℕ → Bool) (library : Library) → names_in (known_by has library) ≡ names_in library
known_names has [] = refl
known_names has (file ∷ library) =
    ap (λ n. n ∷ names_in (known_by (λ number. has (suc number)) library)) (once_name (has zero) file)
    ∙ ap (λ l. file.name ∷ l) (known_names (λ number. has (suc number)) library)

-- where nothing was read, only names are known
pub known_none : (has : ℕ → Bool) (library : Library) → ((number : ℕ) → has number ≡ false) → known_by has library ≡ map empty_file (names_in library)
known_none has [] none = refl
known_none has (file ∷ library) none =
    ap (λ b. file_once b file ∷ known_by (λ number. has (suc number)) library) (none zero)
    ∙ ap (λ l. empty_file file.name ∷ l) (known_none (λ number. has (suc number)) library (λ number. none (suc number)))
