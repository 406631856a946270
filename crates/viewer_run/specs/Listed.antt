-- What files whose chunks are listed came to, by their names.
use Rattle.std.specs.Prelude.{ℕ, false, ◌≡◌, ◌++◌, ⊤, List, [], ◌∷◌, Result, IfOk, take}
use Rattle.djvu_base.specs.Library.{File, Files, Whole, file_limit, mark_of}
use Rattle.djvu_base.specs.declared.ends.FileEnd.{FileEnd}
use Rattle.djvu_outside.specs.declared.stops.Stop.{Stop}
use Rattle.djvu_outside.specs.Cut.{cut_file}
use Rattle.djvu_outside.specs.Faults.{Failure}
use Rattle.djvu_outside.specs.Puts.{Sinks, GivesBoth}
use Rattle.djvu_outside.specs.Reading.{HasFile, bytes_in}
use Rattle.viewer_run.specs.declared.shown.Shown.{Shown}
use Rattle.viewer_run.specs.Info.{info_of_file}
use Rattle.viewer_run.specs.Shown.{NamesOnly, lists_first, HasBroken}
use Rattle.viewer_run.specs.Texts.{Texts, no_texts, joined}

-- the file of a folder up to the limit, as these failures cut it
abbrev pub file_of : Files → List Failure → List ℕ → File
file_of files failures name = cut_file failures (record { name = name; bytes = take file_limit (bytes_in files name); mark = Whole })

-- a file of which these bytes were read
abbrev pub file_read : List ℕ → List ℕ → FileEnd → File
file_read name bytes end = record { name = name; bytes = bytes; mark = mark_of end }

-- what is put for a file of its own folder, of which it is the one file
abbrev pub texts_by : File → Texts
texts_by file = info_of_file (file.name ∷ []) 0 file

-- files in order, by their names
abbrev pub texts_named : Files → List Failure → List (List ℕ) → Texts
texts_named files failures [] = no_texts
texts_named files failures (name ∷ names) = joined (texts_by (file_of files failures name)) (texts_named files failures names)

-- the files of these names were listed: what was put is their texts, cut by the failures that were met
pub record Lists (files : Files) (names : List (List ℕ)) (result : Result Shown Stop) (before after : List Failure) (told_before told_after : Sinks)
    : Type 0 where
  pub added : List Failure
  pub grown : after ≡ before ++ added
  pub only : NamesOnly names added
  pub reads : lists_first added ≡ false
  pub puts : GivesBoth result (texts_named files added names).puts told_before told_after
  pub refused : IfOk result (λ shown. shown.refused ≡ (texts_named files added names).refused)
  pub broken : IfOk result (λ shown. HasBroken shown.broken added)

-- the folder has a file of each of these names
abbrev pub HasFiles : Files → List (List ℕ) → Type 0
HasFiles files [] = ⊤
HasFiles files (name ∷ names) = HasFile files name × HasFiles files names
