-- Blocks of rows of a drawing.
use Rattle.std.proofs.Common.{◌≡◌, ℕ, ◌+◌, ◌*◌, ◌/◌, ◌≤◌, ◌⊎◌, max, inl, inr, ◌++◌, zero-add, sym, ap, ◌∙◌, arith}
use Rattle.std.proofs.lemmas.Nat.{mul-le, div-add-mod'}
use Rattle.std.proofs.lemmas.Bool.{cases_lt}
use Rattle.layer_compose.specs.declared.layers.Layers.{Layers}
use Rattle.layer_compose.specs.Drawing.{samples_of, rows_of, drawing_height}

-- a side of a drawing is one of its page
pub side_most : (side width height : ℕ) → (side ≡ width) ⊎ (side ≡ height) → width ≤ 65535 → height ≤ 65535 → side ≤ 65535
side_most side width height (inl is) wide high = omega arith
side_most side width height (inr is) wide high = omega arith

-- the samples of a block are fewer than 2 ^ 32
pub block_fits : (now at_once row : ℕ) → now ≤ at_once → row ≤ 196605 → at_once ≡ max (65536 / row) 1 → now * row ≤ 196605
block_fits now at_once row few short is =
    let less : now * row ≤ at_once * row = mul-le now row at_once row few (omega arith) in
    let whole = div-add-mod' 65536 row in
    elim (cases_lt (65536 / row) 1) [
      | inl none ↦
          let one : at_once ≡ 1 = omega arith in
          let times : at_once * row ≡ 1 * row = ap (λ n. n * row) one in
          omega arith
      | inr some ↦
          let all : at_once ≡ 65536 / row = omega arith in
          let times : at_once * row ≡ 65536 / row * row = ap (λ n. n * row) all in
          omega arith
    ]

-- rows of a drawing, one block behind the other
module _ (layers : Layers) (joined : (from count more : ℕ)
    → rows_of layers from (count + more) ≡ rows_of layers from count ++ rows_of layers (from + count) more) where
  -- the rows from the top on, and further ones
  pub rows_more : (done now : ℕ) → rows_of layers 0 done ++ rows_of layers done now ≡ rows_of layers 0 (done + now)
  rows_more done now = ap (λ n. rows_of layers 0 done ++ rows_of layers n now) (sym (zero-add done)) ∙ sym (joined 0 done now)

  -- rows that were put, rows that are being put, and those that are left
  pub rows_left : (done now left : ℕ) → done + now + left ≡ drawing_height layers → samples_of layers ≡ rows_of layers 0 (drawing_height layers)
      → rows_of layers 0 done ++ (rows_of layers done now ++ rows_of layers (done + now) left) ≡ samples_of layers
  rows_left done now left e all =
      let sum : done + (now + left) ≡ drawing_height layers = omega arith in
      ap (λ l. rows_of layers 0 done ++ l) (sym (joined done now left)) ∙ rows_more done (now + left) ∙ ap (rows_of layers 0) sum ∙ sym all
