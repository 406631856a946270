-- The decoding of an included file: what it is given, and what it gives.
use Rattle.std.specs.Prelude.{ℕ, ◌≡◌, List, Option, Some, None, slice_get}
use Rattle.bit_plane.specs.Pixels.{Pixels}
use Rattle.djvu_base.specs.Library.{Mark}
use Rattle.zp_table.specs.declared.rows.Row.{Row}
use Rattle.jb2_records.specs.declared.results.FileResult.{FileResult}
use Rattle.jb2_records.specs.declared.results.FileResult.TheVariants as gift
use Rattle.page_decoder.specs.declared.decoder.PageStep.{PageStep}
use Rattle.page_decoder.specs.declared.decoder.PageStep.TheVariants as step
use Rattle.page_decoder.specs.Given.{Included, Known, Given}
use Rattle.page_decoder.specs.Resolving.{given_at, result_from}

-- what each file is known to give is what stands at its number
pub record KnowsResults (results : List (Option FileResult)) (known : Known) : Type 0 where
  pub results_are : (file : ℕ) → known.results file ≡ result_from (given_at (slice_get results file))

-- an included file with these bytes, among these names
abbrev pub included : List Row → List (List ℕ) → ℕ → Known → List ℕ → Mark → Given
included table names file known bytes mark = record {
  home = record { role = Included; table = table; names = names; file = file };
  known = known;
  bytes = bytes;
  mark = mark;
}

abbrev pub dictionary_gift : Option (List Pixels) → FileResult
dictionary_gift None = gift.Nothing
dictionary_gift (Some shapes) = gift.Dictionary shapes

-- what a file gives whose reading stands at this answer, and that has this dictionary
abbrev pub gift_of : PageStep → Option (List Pixels) → FileResult
gift_of step.Finished dictionary = dictionary_gift dictionary
gift_of (step.Refused fault) dictionary = gift.Refused fault
gift_of step.OutOfMemory dictionary = gift.NoMemory
gift_of step.NeedBytes dictionary = gift.Nothing
gift_of (step.NeedOutline file) dictionary = gift.Nothing
gift_of (step.NeedFile file) dictionary = gift.Nothing
gift_of (step.Drew notice) dictionary = gift.Nothing
