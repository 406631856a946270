-- Libraries: the files that a run works on, and how much of each is there.
use Rattle.std.specs.Prelude.{ℕ, List, [], ◌∷◌, map, take, Option, Some, None, if◌then◌else◌, bytes_eq}
use Rattle.djvu_base.specs.declared.ends.FileEnd.{FileEnd}
use Rattle.djvu_base.specs.declared.ends.FileEnd.TheVariants as file_end

-- what is known of a file's end: more bytes may come, these are all, or the file broke off after them
pub data Mark : Type 0 where
  Open : Mark
  Whole : Mark
  Broken : Mark

abbrev pub mark_of : FileEnd → Mark
mark_of file_end.Whole = Whole
mark_of file_end.Broken = Broken

pub record File : Type 0 where
  pub name : List ℕ
  pub bytes : List ℕ
  pub mark : Mark

-- in ascending order of the names
abbrev pub Library : Type 0
Library = List File

-- the files of a folder: each one's name and all of its bytes
abbrev pub Files : Type 0
Files = List (List ℕ × List ℕ)

abbrev pub names_of : Files → List (List ℕ)
names_of files = map (λ file. file.0) files

-- how many bytes of a file are read: a larger file is cut there
unfoldable pub file_limit : ℕ
file_limit = 2_097_152

-- a folder's library: the bytes of each file up to the limit, all of them whole
abbrev pub library_within : ℕ → Files → Library
library_within limit files = map (λ file. record { name = file.0; bytes = take limit file.1; mark = Whole }) files

abbrev pub library_of : Files → Library
library_of files = library_within file_limit files

-- the bytes of a folder's file of this name
abbrev pub contents_of : List ℕ → Files → Option (List ℕ)
contents_of name [] = None
contents_of name (file ∷ files) = if bytes_eq name file.0 then Some file.1 else contents_of name files

-- the file of a library that has this name
abbrev pub file_named : List ℕ → Library → Option File
file_named name [] = None
file_named name (file ∷ files) = if bytes_eq name file.name then Some file else file_named name files
