-- What the reader of a file was given: the file's bytes, and what is known of the files that it includes.
use Rattle.std.specs.Prelude.{ℕ, ◌≡◌, List, ◌++◌, Option, Some, ◌⊎◌}
use Rattle.djvu_base.specs.Library.{Mark, Open}
use Rattle.zp_table.specs.declared.rows.Row.{Row}
use Rattle.include_graph.specs.declared.outline.Outline.{Outline}
use Rattle.include_graph.specs.Graphs.{KnownOn}
use Rattle.page_decoder.specs.Results.{Result}

-- whose rules a file is read by
pub data Role : Type 0 where
  Page : Role
  Included : Role

-- what stays the same however much is given: the file's role, the state table, the folder's names, and the file's number among them
pub record Home : Type 0 where
  pub role : Role
  pub table : List Row
  pub names : List (List ℕ)
  pub file : ℕ

-- what is known of other files, by their numbers: outlines, and what they give
pub record Known : Type 0 where
  pub outlines : ℕ → Option Outline
  pub results : ℕ → Option Result

-- the bytes of the file so far, and what is known of their end
pub record Given : Type 0 where
  pub home : Home
  pub known : Known
  pub bytes : List ℕ
  pub mark : Mark

-- a list is the second one's prefix
abbrev pub Front : {A : Type 0} → List A → List A → Type 0
Front xs ys = (rest : List _) × (ys ≡ xs ++ rest)

-- what is known stays known
pub record KnowsMore (less more : Known) : Type 0 where
  pub outlines : KnownOn less.outlines more.outlines
  pub results : (file : ℕ) (result : Result) → less.results file ≡ Some result → more.results file ≡ Some result

-- the second one knows at least what the first one does, of the same file
pub record Within (less more : Given) : Type 0 where
  pub home : less.home ≡ more.home
  pub known : KnowsMore less.known more.known
  pub bytes : ((less.mark ≡ Open) × Front less.bytes more.bytes) ⊎ ((less.bytes ≡ more.bytes) × (less.mark ≡ more.mark))
