-- Decoders' passes whose seats are joined, by what is known then.
use Rattle.std.specs.Prelude.{ℕ, ◌≡◌, ◌≤◌, List, length, All, Option, Some, None}
use Rattle.djvu_base.specs.Library.{Library}
use Rattle.jb2_records.specs.declared.results.FileResult.{FileResult}
use Rattle.once_board.specs.Numbers.{total}
use Rattle.page_decoder.specs.Libraries.{LibraryGoesOn}
use Rattle.djvu_session.specs.Passes.{Setup, PageState, DecoderView, IsSetup, page_of, spent_of}
use Rattle.djvu_session.specs.Seen.{seen, result_at}
use Rattle.djvu_session.specs.Spent.{one_if}
use Rattle.djvu_session.specs.Keeps.{DecoderKeeps}

abbrev pub one_page : Option PageState → ℕ
one_page None = 0
one_page (Some state) = 1

-- what one pass knows of results is known
abbrev pub KnowsResults : (ℕ → Option FileResult) → DecoderView → Type 0
KnowsResults known pass = (file : ℕ) (result : FileResult) → result_at pass.shelf.hold file ≡ Some result → known file ≡ Some result

-- the library goes on from what each pass has seen, and the results of each are known. Each file whose result is known was claimed by
-- exactly one of them, and no page is the own of two
pub record AreTogether (setup : Setup) (library : Library) (known : ℕ → Option FileResult) (passes : List DecoderView) : Type 0 where
  pub is_setup : IsSetup setup
  pub long : length library ≡ length setup.names
  pub same : All (λ pass. pass.setup ≡ setup) passes
  pub keeps : All DecoderKeeps passes
  pub seen : All (λ pass. LibraryGoesOn (seen pass) library) passes
  pub knows : All (KnowsResults known) passes
  pub claimed : (file : ℕ) (result : FileResult) → known file ≡ Some result → total (λ pass. one_if (spent_of pass file)) passes ≡ 1
  pub once : (file : ℕ) → total (λ pass. one_if (spent_of pass file)) passes ≤ 1
  pub alone : (page : ℕ) → total (λ pass. one_page (page_of pass page)) passes ≤ 1
