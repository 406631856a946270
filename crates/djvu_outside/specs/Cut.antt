-- Libraries whose files broke off where their reading failed.
use Rattle.std.specs.Prelude.{ℕ, List, [], ◌∷◌, map, take, Option, Some, None, bytes_eq, if◌then◌else◌}
use Rattle.djvu_base.specs.Library.{File, Library, Broken}
use Rattle.djvu_outside.specs.Faults.{Failure, Listing, Reading}

-- how many bytes of this file had come where its reading first failed
abbrev pub first_entry : List Failure → List ℕ → Option ℕ
first_entry [] name = None
first_entry (Listing ∷ failures) name = first_entry failures name
first_entry (Reading other count ∷ failures) name = if bytes_eq name other then Some count else first_entry failures name

abbrev pub cut_at : Option ℕ → File → File
cut_at None file = file
cut_at (Some count) file = record { name = file.name; bytes = take count file.bytes; mark = Broken }

abbrev pub cut_file : List Failure → File → File
cut_file failures file = cut_at (first_entry failures file.name) file

-- each file that a failure names has the bytes that had come, and broke off after them
abbrev pub cut : List Failure → Library → Library
cut failures library = map (cut_file failures) library
