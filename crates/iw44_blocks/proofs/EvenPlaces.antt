-- The even columns and rows of a plane.
use Rattle.std.proofs.Common.{◌≡◌, ℕ, zero, suc, ◌+◌, ◌*◌, ◌/◌, ◌%◌, ◌^◌, ◌<◌, ◌≤◌, ℤ, pos, List, map, unsigned_abs, ap, ◌∙◌, sym, subst, arith}
use Rattle.std.specs.List.{range_with_len}
use Rattle.std.proofs.Math.Nat.{mul_comm, zero-mul}
use Rattle.std.proofs.lemmas.List.FromFn.{fill_by_all, get_or-map-range_with_len, length-map-range_with_len}
use Rattle.std.proofs.lemmas.Nat.{mul-le, mod_below, div_below}
use Rattle.iw44_blocks.specs.Lattice.{Lattice, IsLattice, IsWithin, value_at, values_by, half_up, quarter}
use Rattle.iw44_blocks.specs.Plane.{Plane, blocks_along, coefficient_at, grid_of}
use Rattle.iw44_blocks.proofs.GridValues.{value_given}
use Rattle.iw44_blocks.proofs.RowsOfValues.{full_values}

left_some : (a b : ℕ) → 1 ≤ a * b → 1 ≤ a
left_some zero b h = absurd (omega (arith, zero-mul b))
left_some (suc a) b h = omega arith

-- both sides of an area that isn't empty are at least 1
both_some : (w h : ℕ) → 1 ≤ w * h → (1 ≤ w) × (1 ≤ h)
both_some w h some = (left_some w h some, left_some h w (subst (λ (n : ℕ). 1 ≤ n) (mul_comm w h) some))

pub side_fits : (w h : ℕ) → 1 ≤ w * h → w * h ≤ 2 ^ 24 → h ≤ 2 ^ 24
side_fits w h some fits = omega (arith, mul-le 1 h w h ((both_some w h some).0) (omega arith))

pub even_below : (n length : ℕ) → n < half_up length → 2 * n < length
even_below n length h = omega arith

-- the area of the even columns and rows
pub some_even : (w h : ℕ) → 1 ≤ w * h → 1 ≤ half_up w * half_up h
some_even w h some =
    let sides = both_some w h some in
    let a : 1 ≤ half_up w = (let s = sides.0 in omega arith) in
    let b : 1 ≤ half_up h = (let s = sides.1 in omega arith) in
    omega (arith, mul-le 1 1 (half_up w) (half_up h) a b)

pub even_fits : (w h : ℕ) → 1 ≤ w * h → w * h ≤ 2 ^ 24 → half_up w * half_up h ≤ 2 ^ 24
even_fits w h some fits =
    let sides = both_some w h some in
    let a : half_up w ≤ w = (let s = sides.0 in omega arith) in
    let b : half_up h ≤ h = (let s = sides.1 in omega arith) in
    omega (arith, mul-le (half_up w) (half_up h) w h a b)

-- the number of the block of an even place
pub block_fits : (w h x y blocks : ℕ) → 1 ≤ w * h → w * h ≤ 2 ^ 24 → x < half_up w → y < half_up h → blocks ≡ blocks_along w →
    blocks * (2 * y / 32) + 2 * x / 32 < 2 ^ 26
block_fits w h x y blocks some fits wide tall is =
    let sides = both_some w h some in
    let column : blocks ≤ w = (let s = sides.0 in omega arith) in
    let row : 2 * y / 32 ≤ h = omega arith in
    let wide_fits : w ≤ 2 ^ 24 = side_fits h w (subst (λ (n : ℕ). 1 ≤ n) (mul_comm w h) some) (subst (λ (n : ℕ). n ≤ 2 ^ 24) (mul_comm w h) fits) in
    omega (arith, mul-le blocks (2 * y / 32) w h column row)

-- the value in an even column and row
pub even_value : (plane : Plane) (x y : ℕ) → x < half_up plane.width → y < half_up plane.height →
    coefficient_at plane (2 * x) (2 * y) ≡ value_at (grid_of plane) (2 * x) (2 * y)
even_value plane x y wide tall =
    sym (value_given plane.width plane.height (2 * x) (2 * y) (coefficient_at plane) (even_below x plane.width wide) (even_below y plane.height tall))

-- the values of a grid in even columns and rows
pub quarter_value : (grid : Lattice) (x y : ℕ) → x < half_up grid.width → y < half_up grid.height → value_at (quarter grid) x y ≡ value_at grid (2 * x) (2 * y)
quarter_value grid x y wide tall = value_given (half_up grid.width) (half_up grid.height) x y (λ x y. value_at grid (2 * x) (2 * y)) wide tall

pub quarter_within : (limit : ℕ) (grid : Lattice) → IsWithin limit grid → IsWithin limit (quarter grid)
quarter_within limit grid within x y wide tall =
    subst (λ (v : ℤ). unsigned_abs v ≤ limit) (sym (quarter_value grid x y wide tall))
    (within (2 * x) (2 * y) (even_below x grid.width wide) (even_below y grid.height tall))

pub quarter_valid : (columns rows w h y : ℕ) (f : ℕ → ℕ → ℤ) (items : List ℤ) → 1 ≤ columns * rows → columns * rows ≤ 2 ^ 24 →
    w ≡ half_up columns → h ≡ half_up rows → y ≡ h → items ≡ values_by w (y * w) f → IsLattice (record { width = w; height = h; values = items })
quarter_valid columns rows w h y f items some fits across up all is =
    let same : w * h ≡ half_up columns * half_up rows = ap (λ n. n * h) across ∙ ap (λ n. half_up columns * n) up in
    full_values w h y f items (subst (λ (n : ℕ). 1 ≤ n) (sym same) (some_even columns rows some))
    (subst (λ (n : ℕ). n ≤ 2 ^ 24) (sym same) (even_fits columns rows some fits)) all is

-- values that are given alike at each place
pub values_same : (w h : ℕ) (f g : ℕ → ℕ → ℤ) → ((x y : ℕ) → x < w → y < h → f x y ≡ g x y) → values_by w (w * h) f ≡ values_by w (w * h) g
values_same w h f g same =
    let before : ℕ → ℤ = λ n. f (n % w) (n / w) in
    let after : ℕ → ℤ = λ n. g (n % w) (n / w) in
    fill_by_all after (map before (range_with_len 0 (w * h))) (w * h) (pos 0) (length-map-range_with_len before 0 (w * h)) (λ n less.
    let some : 1 ≤ w = left_some w h (omega arith) in
    get_or-map-range_with_len before 0 (w * h) n n (pos 0) less (omega arith)
    ∙ same (n % w) (n / w) (mod_below n w some) (div_below n w h some (subst (λ (m : ℕ). n < m) (mul_comm w h) less)))
