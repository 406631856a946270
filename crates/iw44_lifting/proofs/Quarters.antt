-- The even columns and rows of a grid at twice a scale.
use Rattle.std.proofs.Common.{◌≡◌, ℕ, ◌+◌, ◌*◌, ◌/◌, ◌%◌, ◌<◌, ◌≤◌, ◌&&◌, eqb, Bool, inl, inr, cond, ℤ, List, ap, ◌∙◌, sym, subst, arith}
use Rattle.std.proofs.lemmas.Bool.{cases_lt, eq-eqb, eqb-true}
use Rattle.std.proofs.lemmas.Nat.{div-add-mod', mod_below, mod-mul-add, div-mul-add}
use Rattle.iw44_blocks.specs.Lattice.{Lattice, value_at, lattice, half_up, quarter}
use Rattle.iw44_blocks.proofs.Lemmas.{quarter_value, values_same}
use Rattle.iw44_lifting.specs.Line.{sample, line_lifted}
use Rattle.iw44_lifting.specs.Lift.{places, column, row, takes_part, columns_lifted, rows_lifted, scale_lifted, lifted, quarter_lifted}
use Rattle.iw44_lifting.proofs.Grids.{value_given}
use Rattle.iw44_lifting.proofs.Lines.{same_by_place}
use Rattle.iw44_lifting.proofs.ScalePlaces.{inside, below, same_test}

-- what a column or row of the quarter is at twice the scale
doubled : (s n : ℕ) → 1 ≤ s → ((2 * n) % (2 * s) ≡ 2 * (n % s)) × ((2 * n) / (2 * s) ≡ n / s)
doubled s n some =
    let whole : n / s * s + n % s ≡ n = div-add-mod' n s in
    let rest : n % s < s = mod_below n s some in
    let twice : n / s * (2 * s) ≡ 2 * (n / s * s) = grind arith in
    let parts : 2 * n ≡ n / s * (2 * s) + 2 * (n % s) = omega arith in
    let less : 2 * (n % s) < 2 * s = omega arith in
    (ap (λ m. m % (2 * s)) parts ∙ mod-mul-add (n / s) (2 * s) (2 * (n % s)) less, ap (λ m. m / (2 * s)) parts ∙ div-mul-add (n / s) (2 * s) (2 * (n % s)) less)

none_of_both : (m : ℕ) → eqb (2 * m) 0 ≡ eqb m 0
none_of_both m =
    same_test (eqb (2 * m) 0) (eqb m 0) (λ h. let is : 2 * m ≡ 0 = eqb-true (2 * m) 0 h in eq-eqb m 0 (omega arith))
    (λ h. let is : m ≡ 0 = eqb-true m 0 h in eq-eqb (2 * m) 0 (omega arith))

same_part : (s x y : ℕ) → 1 ≤ s → takes_part (2 * s) (2 * x) (2 * y) ≡ takes_part s x y
same_part s x y some =
    ap (λ m. eqb m 0 && eqb ((2 * y) % (2 * s)) 0) ((doubled s x some).0) ∙ ap (λ m. eqb (2 * (x % s)) 0 && eqb m 0) ((doubled s y some).0)
    ∙ ap (λ t. t && eqb (2 * (y % s)) 0) (none_of_both (x % s)) ∙ ap (λ t. eqb (x % s) 0 && t) (none_of_both (y % s))

-- a column or row of the quarter, and the one that it is of the whole
half_below : (n length : ℕ) → n < half_up length → 2 * n < length
half_below n length h = omega arith

below_half : (n length : ℕ) → 2 * n < length → n < half_up length
below_half n length h = omega arith

twice_times : (s i : ℕ) → 2 * (s * i) ≡ 2 * s * i
twice_times s i = grind arith

same_places : (s length : ℕ) → 1 ≤ s → places (2 * s) length ≡ places s (half_up length)
same_places s length some =
    let a : ℕ = places (2 * s) length in
    let b : ℕ = places s (half_up length) in
    elim (cases_lt a b) [
      | inl less ↦ absurd (let in_half : 2 * (s * a) < length = half_below (s * a) length (below s (half_up length) a some less) in
          let in_whole : 2 * s * a < length = subst (λ (n : ℕ). n < length) (twice_times s a) in_half in
          let itself : a < a = inside (2 * s) length a (omega arith) in_whole in omega arith)
      | inr most ↦ elim (cases_lt b a) [
        | inl less ↦ absurd (let in_whole : 2 * s * b < length = below (2 * s) length b (omega arith) less in
            let in_half : 2 * (s * b) < length = subst (λ (n : ℕ). n < length) (sym (twice_times s b)) in_whole in
            let itself : b < b = inside s (half_up length) b some (below_half (s * b) length in_half) in omega arith)
        | inr least ↦ omega arith
      ]
    ]

same_column : (s x : ℕ) (grid : Lattice) → 1 ≤ s → x < half_up grid.width → column (2 * s) grid (2 * x) ≡ column s (quarter grid) x
same_column s x grid some h =
    same_by_place (λ i. value_at grid (2 * x) (2 * s * i)) (λ i. value_at (quarter grid) x (s * i)) (places (2 * s) grid.height)
    (places s (half_up grid.height)) (same_places s grid.height some) (λ i less.
    let in_whole : 2 * s * i < grid.height = below (2 * s) grid.height i (omega arith) less in
    let within : s * i < half_up grid.height = below_half (s * i) grid.height (subst (λ (n : ℕ). n < grid.height) (sym (twice_times s i)) in_whole) in
    ap (λ n. value_at grid (2 * x) n) (sym (twice_times s i)) ∙ sym (quarter_value grid x (s * i) h within))

same_row : (s y : ℕ) (grid : Lattice) → 1 ≤ s → y < half_up grid.height → row (2 * s) grid (2 * y) ≡ row s (quarter grid) y
same_row s y grid some h =
    same_by_place (λ i. value_at grid (2 * s * i) (2 * y)) (λ i. value_at (quarter grid) (s * i) y) (places (2 * s) grid.width)
    (places s (half_up grid.width)) (same_places s grid.width some) (λ i less.
    let in_whole : 2 * s * i < grid.width = below (2 * s) grid.width i (omega arith) less in
    let within : s * i < half_up grid.width = below_half (s * i) grid.width (subst (λ (n : ℕ). n < grid.width) (sym (twice_times s i)) in_whole) in
    ap (λ n. value_at grid n (2 * y)) (sym (twice_times s i)) ∙ sym (quarter_value grid (s * i) y within h))

-- grids of one size whose values are the same at each place
same_grids : (w h : ℕ) (f g : ℕ → ℕ → ℤ) → ((x y : ℕ) → x < w → y < h → f x y ≡ g x y) → lattice w h f ≡ lattice w h g
same_grids w h f g same = ap (λ v. record { width = w; height = h; values = v }) (values_same w h f g same)

-- one value: of a line where it takes part, and else as it was
same_choice : (a b : Bool) (line other : List ℤ) (i j : ℕ) (v w : ℤ) → a ≡ b → line ≡ other → i ≡ j → v ≡ w →
    cond a (sample (line_lifted line) i) v ≡ cond b (sample (line_lifted other) j) w
same_choice a b line other i j v w e f g h =
    ap (λ t. cond t (sample (line_lifted line) i) v) e ∙ ap (λ l. cond b (sample (line_lifted l) i) v) f ∙ ap (λ n. cond b (sample (line_lifted other) n) v) g
    ∙ ap (λ z. cond b (sample (line_lifted other) j) z) h

quarter_columns : (s : ℕ) (grid : Lattice) → 1 ≤ s → quarter (columns_lifted (2 * s) grid) ≡ columns_lifted s (quarter grid)
unfolding columns_lifted
quarter_columns s grid some =
    let w : ℕ = half_up grid.width in
    let h : ℕ = half_up grid.height in
    let whole = λ (x y : ℕ). cond (takes_part (2 * s) x y) (sample (line_lifted (column (2 * s) grid x)) (y / (2 * s))) (value_at grid x y) in
    let part = λ (x y : ℕ). cond (takes_part s x y) (sample (line_lifted (column s (quarter grid) x)) (y / s)) (value_at (quarter grid) x y) in
    same_grids w h (λ x y. value_at (lattice grid.width grid.height whole) (2 * x) (2 * y)) part (λ x y wide tall.
    value_given grid.width grid.height (2 * x) (2 * y) whole (half_below x grid.width wide) (half_below y grid.height tall)
    ∙ same_choice (takes_part (2 * s) (2 * x) (2 * y)) (takes_part s x y) (column (2 * s) grid (2 * x)) (column s (quarter grid) x) ((2 * y) / (2 * s)) (y / s)
    (value_at grid (2 * x) (2 * y)) (value_at (quarter grid) x y) (same_part s x y some) (same_column s x grid some wide)
    ((doubled s y some).1) (sym (quarter_value grid x y wide tall)))

quarter_rows : (s : ℕ) (grid : Lattice) → 1 ≤ s → quarter (rows_lifted (2 * s) grid) ≡ rows_lifted s (quarter grid)
unfolding rows_lifted
quarter_rows s grid some =
    let w : ℕ = half_up grid.width in
    let h : ℕ = half_up grid.height in
    let whole = λ (x y : ℕ). cond (takes_part (2 * s) x y) (sample (line_lifted (row (2 * s) grid y)) (x / (2 * s))) (value_at grid x y) in
    let part = λ (x y : ℕ). cond (takes_part s x y) (sample (line_lifted (row s (quarter grid) y)) (x / s)) (value_at (quarter grid) x y) in
    same_grids w h (λ x y. value_at (lattice grid.width grid.height whole) (2 * x) (2 * y)) part (λ x y wide tall.
    value_given grid.width grid.height (2 * x) (2 * y) whole (half_below x grid.width wide) (half_below y grid.height tall)
    ∙ same_choice (takes_part (2 * s) (2 * x) (2 * y)) (takes_part s x y) (row (2 * s) grid (2 * y)) (row s (quarter grid) y) ((2 * x) / (2 * s)) (x / s)
    (value_at grid (2 * x) (2 * y)) (value_at (quarter grid) x y) (same_part s x y some) (same_row s y grid some tall)
    ((doubled s x some).1) (sym (quarter_value grid x y wide tall)))

pub quarter_scale : (s : ℕ) (grid : Lattice) → 1 ≤ s → quarter (scale_lifted (2 * s) grid) ≡ scale_lifted s (quarter grid)
quarter_scale s grid some = quarter_rows s (columns_lifted (2 * s) grid) some ∙ ap (rows_lifted s) (quarter_columns s grid some)

-- all scales down to 2
pub quarter_transform : (grid : Lattice) → quarter (lifted 2 grid) ≡ quarter_lifted (quarter grid)
quarter_transform grid =
    let first : Lattice = scale_lifted 16 grid in
    let second : Lattice = scale_lifted 8 first in
    let third : Lattice = scale_lifted 4 second in
    quarter_scale 1 third (omega arith) ∙ ap (scale_lifted 1) (quarter_scale 2 second (omega arith))
    ∙ ap (λ g. scale_lifted 1 (scale_lifted 2 g)) (quarter_scale 4 first (omega arith))
    ∙ ap (λ g. scale_lifted 1 (scale_lifted 2 (scale_lifted 4 g))) (quarter_scale 8 grid (omega arith))
