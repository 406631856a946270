-- What passes decode: files, each of which is claimed, decoded and published in one call, and the decisions of all that they decode.
use Rattle.std.specs.Prelude.{ℕ, ◌≡◌, ◌≢◌, ◌+◌, ◌≤◌, List, Option, Some, None, sum_by}
use Rattle.djvu_base.specs.Library.{Library}
use Rattle.djvu_base.specs.Meter.{TicksExactly, ticked}
use Rattle.jb2_records.specs.declared.results.FileResult.{FileResult}
use Rattle.jb2_records.specs.declared.results.FileResult.TheVariants as gift
use Rattle.zp_table.specs.declared.rows.Row.{Row}
use Rattle.page_decoder.specs.Results.{Result}
use Rattle.page_decoder.specs.Resolving.{result_in, result_from}
use Rattle.page_decoder.specs.Given.{Included}
use Rattle.page_decoder.specs.Read.{FileDone, decode}
use Rattle.page_decoder.specs.Libraries.{given_in}
use Rattle.page_decoder.specs.Needs.{IsMade}
use Rattle.replay_core.specs.Counts.{spent_on}
use Rattle.djvu_session.specs.Passes.{PageState, DecoderView, file_at}
use Rattle.djvu_session.specs.Seen.{seen, results_known, result_at}

-- the decoding of a file of a library as an included one, over these results
abbrev pub decoded : List Row → Library → (ℕ → Option Result) → ℕ → FileDone
decoded table library results file = decode (given_in Included table library file results)

-- a file that a page reaches, and whose includes give something that is known, was decoded: so many decisions were read, and this was
-- found. Where there was no memory, it counts as far as it came
pub record IsSpent (table : List Row) (library : Library) (results : ℕ → Option Result) (page file spent : ℕ) (result : FileResult) : Type 0 where
  pub made : IsMade table library results page file
  pub at_most : spent ≤ (decoded table library results file).decisions
  pub found : result ≢ gift.NoMemory → result_in result ≡ Some (decoded table library results file).result
  pub decisions : result ≢ gift.NoMemory → TicksExactly (decoded table library results file).decisions 0 spent

-- what files give, by what was found of them
abbrev pub results_from : (ℕ → Option FileResult) → ℕ → Option Result
results_from known file = result_from (known file)

-- what was found of a file was found by its decoding, over what is known
pub record IsPublished (table : List Row) (library : Library) (known : ℕ → Option FileResult) (file : ℕ) (result : FileResult) : Type 0 where
  pub page : ℕ
  pub spent : ℕ
  pub is_spent : IsSpent table library (results_from known) page file spent result

-- the pass published a file with so many decisions, for one of its pages
pub record HasPublished (pass : DecoderView) (page file spent : ℕ) : Type 0 where
  pub result : FileResult
  pub known : result_at pass.shelf.hold file ≡ Some result
  pub is_spent : IsSpent pass.setup.table (seen pass) (results_known pass.shelf.hold) (file_at pass.setup page) file spent result

-- ---- sums

abbrev pub decisions_of : Option PageState → ℕ
decisions_of None = 0
decisions_of (Some page) = page.decisions

-- the decisions of a pass's own pages so far, and of the files that it claimed
abbrev pub sum_of : DecoderView → ℕ
sum_of pass = sum_by decisions_of pass.pages + sum_by spent_on pass.spent

-- the same as a meter counts
abbrev pub kept_sum : DecoderView → ℕ
kept_sum pass = ticked (sum_of pass) 0

-- how many files a pass published
abbrev pub one_if : Option ℕ → ℕ
one_if None = 0
one_if (Some spent) = 1

abbrev pub published_by : DecoderView → ℕ
published_by pass = sum_by one_if pass.spent
