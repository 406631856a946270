-- The lines of reports, as bytes. Each ends with one newline.
use Rattle.std.specs.Prelude.{ℕ, ◌++◌, List, [], codes, decimal, slice_index_or}
use Rattle.djvu_base.specs.declared.faults.Fault.{Fault}
use Rattle.djvu_base.specs.FaultKind.{word_of}
use Rattle.djvu_base.specs.Text.{newline}

-- the name of the file that has this number among the folder's names
abbrev pub name_at : List (List ℕ) → ℕ → List ℕ
name_at names number = slice_index_or names number []

-- `NAME: chunk K sum S`: the drawing of a page after its first K chunks, and the sum of its samples
abbrev pub notice_line : List ℕ → ℕ → ℕ → List ℕ
notice_line name chunks sum = name ++ (codes ": chunk " ++ (decimal chunks ++ (codes " sum " ++ (decimal sum ++ newline))))

-- `NAME: WORD FILE OFFSET`: the fault of a page, and its place
abbrev pub fault_line : List ℕ → Fault → List (List ℕ) → List ℕ
fault_line name fault names =
    name ++ (codes ": " ++ (word_of fault.kind ++ (codes " " ++ (name_at names fault.place.file ++ (codes " " ++ (decimal fault.place.offset ++ newline))))))

-- `NAME: form KIND LENGTH`: the FORM of a file
abbrev pub form_line : List ℕ → List ℕ → ℕ → List ℕ
form_line name kind size = name ++ (codes ": form " ++ (kind ++ (codes " " ++ (decimal size ++ newline))))

-- `NAME: chunk ID OFFSET LENGTH`: a chunk of a file
abbrev pub chunk_line : List ℕ → List ℕ → ℕ → ℕ → List ℕ
chunk_line name id offset size = name ++ (codes ": chunk " ++ (id ++ (codes " " ++ (decimal offset ++ (codes " " ++ (decimal size ++ newline))))))

-- `words N`: the number of the word that doesn't fit
abbrev pub words_line : ℕ → List ℕ
words_line number = codes "words " ++ (decimal number ++ newline)

-- `folder N`: how many names a folder has that has too many
abbrev pub folder_line : ℕ → List ℕ
folder_line count = codes "folder " ++ (decimal count ++ newline)

-- `table ROW WHY`: the row of a table's file that is no row of a table, and the reason
abbrev pub table_line : ℕ → List ℕ → List ℕ
table_line row reason = codes "table " ++ (decimal row ++ (codes " " ++ (reason ++ newline)))
