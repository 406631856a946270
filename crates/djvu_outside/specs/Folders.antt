-- Folders in memory, and the state of real ones.
use Rattle.std.specs.Prelude.{◌≡◌, ℕ, zero, suc, ◌+◌, ◌-◌, ◌<◌, ◌≤◌, List, [], ◌∷◌, Option, Some, None, ◌++◌, length, codes}
use Rattle.djvu_base.specs.Name.{IsAscending}
use Rattle.djvu_base.specs.Library.{Files, names_of, contents_of}
use Rattle.djvu_outside.specs.Calls.{Numbered, numbered_from_0, failures_left}
use Rattle.djvu_outside.specs.Faults.{Failure, Listing, Reading}
use Rattle.djvu_outside.specs.Reading.{Opened, bytes_in}
use Rattle.djvu_outside.specs.declared.memory_files.Place.{Place}
use Rattle.djvu_outside.specs.declared.memory_files.Note.{Note}
use Rattle.djvu_outside.specs.declared.memory_files.Note.TheVariants as note

-- a folder in memory
pub record MemoryFiles : Type 0 where
  pub files : Files
  pub failures : List Failure
  pub opened : Option Opened
  pub calls : Numbered

abbrev pub new_folder : Files → List ℕ → MemoryFiles
new_folder files failing = record { files = files; failures = []; opened = None; calls = numbered_from_0 failing }

-- the name and the bytes of the file at this index
abbrev pub name_at : ℕ → Files → List ℕ
name_at index [] = []
name_at zero (file ∷ files) = file.0
name_at (suc index) (file ∷ files) = name_at index files

abbrev pub bytes_at : ℕ → Files → List ℕ
bytes_at index [] = []
bytes_at zero (file ∷ files) = file.1
bytes_at (suc index) (file ∷ files) = bytes_at index files

abbrev pub opened_at : Files → Place → Opened
opened_at files place = record { name = name_at place.file files; position = place.position }

abbrev pub failure_at : Files → Note → Failure
failure_at files note.Listing = Listing
failure_at files (note.Reading place) = Reading (name_at place.file files) place.position

-- the index is that of the file which has its name, and so many of its bytes are there
pub record IsPlace (files : Files) (place : Place) : Type 0 where
  pub within : place.file < length files
  pub contents : contents_of (name_at place.file files) files ≡ Some (bytes_at place.file files)
  pub position : place.position ≤ length (bytes_at place.file files)

abbrev pub IsOpen : Files → Option Place → Type 0
IsOpen files None = Unit {0}
IsOpen files (Some place) = IsPlace files place

-- what is true of a folder in memory, which has room for so many notes
pub record IsFolder (files : Files) (opened : Option Place) (notes : List Note) (room : ℕ) (calls : Numbered) : Type 0 where
  pub ascending : IsAscending (names_of files)
  pub open_file : IsOpen files opened
  pub noted : length notes + failures_left calls ≤ room

-- how many bytes of the open file were not given yet
abbrev pub bytes_left : Files → Opened → ℕ
bytes_left files here = length (bytes_in files here.name) - here.position

-- a folder of the file system: its path, the open file, and how many calls failed
pub record DirState : Type 0 where
  pub path : List ℕ
  pub opened : Option Opened
  pub faults : ℕ

abbrev pub unopened : List ℕ → DirState
unopened path = record { path = path; opened = None; faults = 0 }

-- a folder's path, behind which a name may stand
abbrev pub with_slash : List ℕ → List ℕ
with_slash [] = []
with_slash (byte ∷ bytes) = (byte ∷ bytes) ++ codes "/"

-- a folder in memory that never fails
pub record SureFiles : Type 0 where
  pub files : Files
  pub opened : Option Opened

abbrev pub new_sure : Files → SureFiles
new_sure files = record { files = files; opened = None }

-- what is true of it
pub record IsSureFolder (files : Files) (opened : Option Place) : Type 0 where
  pub ascending : IsAscending (names_of files)
  pub open_file : IsOpen files opened
