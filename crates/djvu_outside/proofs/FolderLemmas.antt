-- The files of a folder, by their indices and by their names.
use Rattle.std.proofs.Common.{◌≡◌, ◌+◌, ◌<◌, ℕ, zero, suc, true, false, cond, bytes_eq, length, drop, get_or, List, [], ◌∷◌, Some, arith, refl, sym, ap, ◌∙◌, add-one}
use Rattle.djvu_base.specs.Library.{Files, contents_of}
use Rattle.djvu_outside.specs.Folders.{name_at, bytes_at}

pub name_at-index : (files : Files) (index : ℕ) (file : List ℕ × List ℕ) → index < length files → file ≡ get_or files index file → name_at index files ≡ file.0
name_at-index [] index file h is = absurd (omega arith)
name_at-index (first ∷ files) zero file h is = sym (ap (λ (f : List ℕ × List ℕ). f.0) is)
name_at-index (first ∷ files) (suc index) file h is = name_at-index files index file (omega arith) is

pub bytes_at-index : (files : Files) (index : ℕ) (file : List ℕ × List ℕ) → index < length files → file ≡ get_or files index file → bytes_at index files ≡ file.1
bytes_at-index [] index file h is = absurd (omega arith)
bytes_at-index (first ∷ files) zero file h is = sym (ap (λ (f : List ℕ × List ℕ). f.1) is)
bytes_at-index (first ∷ files) (suc index) file h is = bytes_at-index files index file (omega arith) is

-- whether the file at the index has the name decides where the look-up goes on
pub contents_of-drop : (name : List ℕ) (files : Files) (index : ℕ) → index < length files → contents_of name (drop index files) ≡ cond (bytes_eq name (name_at index files)) (Some (bytes_at index files)) (contents_of name (drop (suc index) files))
contents_of-drop name [] index h = absurd (omega arith)
contents_of-drop name (first ∷ files) zero h = refl
contents_of-drop name (first ∷ files) (suc index) h = contents_of-drop name files index (omega arith)

-- the first file of a name is the one at which the look-up ends
pub contents_of-found : (name : List ℕ) (files : Files) (index : ℕ) → index < length files → contents_of name (drop index files) ≡ contents_of name files → bytes_eq name (name_at index files) ≡ true → contents_of name files ≡ Some (bytes_at index files)
contents_of-found name files index h same found = sym same ∙ (rw found at (contents_of-drop name files index h))

pub contents_of-next : (name : List ℕ) (files : Files) (index : ℕ) → index < length files → contents_of name (drop index files) ≡ contents_of name files → bytes_eq name (name_at index files) ≡ false → contents_of name (drop (index + 1) files) ≡ contents_of name files
contents_of-next name files index h same found = rw add-one (sym (rw found at (contents_of-drop name files index h)) ∙ same)
