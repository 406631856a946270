-- For the code's own functions: how a decoder takes bytes that are left.
use Rattle.std.specs.Prelude.{◌≡◌, ℕ, Bool, true, List, [], ◌++◌, Option}
use Rattle.zp_decoder.specs.Decision.{Interval}
use Rattle.zp_decoder.specs.Decoder.{Decoder, Fed}

-- a decoder took some bytes more of those that were left
pub record TakesMore (old new : List ℕ) (zp next : Decoder) : Type 0 where
  pub more : List ℕ
  pub left : more ++ new ≡ old
  pub fed : (payload : List ℕ) (place : Option Interval) → Fed payload place zp → Fed (payload ++ more) place next
  pub table : next.table ≡ zp.table

-- what may still come behind bytes of a chunk, of which a decoder was told the end or not
abbrev pub Fits : Bool → List ℕ → Bool → Type 0
Fits told more ended = told ≡ true → (more ≡ []) × (ended ≡ true)
