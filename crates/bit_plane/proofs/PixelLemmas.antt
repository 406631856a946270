-- Planes made of a test, and of packed words.
use Rattle.std.proofs.Common.{◌≡◌, ℕ, suc, zero, ◌+◌, ◌*◌, ◌/◌, ◌%◌, ◌<◌, Bool, false, ◌&&◌, ltb, List, get_or, map, arith, ap, sym, ◌∙◌}
use Rattle.std.specs.List.{range_with_len}
use Rattle.std.proofs.Math.Nat.{mul_comm}
use Rattle.std.proofs.lemmas.Bool.{lt-ltb}
use Rattle.std.proofs.lemmas.Nat.{div_below, mod_below, mul-add-lt, div-mul-add, mod-mul-add}
use Rattle.std.proofs.lemmas.List.{same_lists}
use Rattle.std.proofs.lemmas.List.FromFn.{length-map-range_with_len, get_or-map-range_with_len}
use Rattle.bit_plane.specs.Pixels.{is_black_at, pixels_where, IsPlane}

-- the list of a plane's pixels
abbrev pixel_list : ℕ → ℕ → (ℕ → ℕ → Bool) → List Bool
pixel_list w h f = map (λ i. f (i % w) (i / w)) (range_with_len 0 (w * h))

-- a plane with a place has a column
pub wide : (w h i : ℕ) → i < w * h → 0 < w
wide zero h i p = omega arith
wide (suc w) h i p = omega arith

same_pixel_list : (w h : ℕ) (f g : ℕ → ℕ → Bool) → ((x y : ℕ) → x < w → y < h → f x y ≡ g x y) → pixel_list w h f ≡ pixel_list w h g
same_pixel_list w h f g same =
    let first = length-map-range_with_len (λ i. f (i % w) (i / w)) 0 (w * h) in
    let second = length-map-range_with_len (λ i. g (i % w) (i / w)) 0 (w * h) in
    same_lists (pixel_list w h f) (pixel_list w h g) (first ∙ sym second)
    (λ i d p.
    let within : i < w * h = omega arith in
    let some = wide w h i within in
    get_or-map-range_with_len (λ i. f (i % w) (i / w)) 0 (w * h) i i d within (omega arith)
    ∙ same (i % w) (i / w) (mod_below i w some) (div_below i w h some (omega (arith, mul_comm w h)))
    ∙ sym (get_or-map-range_with_len (λ i. g (i % w) (i / w)) 0 (w * h) i i d within (omega arith)))

-- planes of tests that agree at each place are one
pub same_where : (w h : ℕ) (f g : ℕ → ℕ → Bool) → ((x y : ℕ) → x < w → y < h → f x y ≡ g x y) → pixels_where w h f ≡ pixels_where w h g
same_where w h f g same = ap (λ (list : List Bool). record { width = w; height = h; black = list }) (same_pixel_list w h f g same)

-- a place within is black where the test says so
pub black_where : (w h : ℕ) (f : ℕ → ℕ → Bool) (x y : ℕ) → x < w → y < h → is_black_at (pixels_where w h f) x y ≡ f x y
black_where w h f x y p q =
    let index = mul-add-lt y w x h q p in
    let column = mod-mul-add y w x p in
    let row = div-mul-add y w x p in
    ap (λ t. (t && ltb y h) && get_or (pixel_list w h f) (y * w + x) false) (lt-ltb x w p)
    ∙ ap (λ t. t && get_or (pixel_list w h f) (y * w + x) false) (lt-ltb y h q)
    ∙ get_or-map-range_with_len (λ i. f (i % w) (i / w)) 0 (w * h) (y * w + x) (y * w + x) false index (omega arith)
    ∙ ap (λ n. f n ((y * w + x) / w)) column ∙ ap (f x) row

-- a plane made by a test has a pixel for each place
pub whole_where : (w h : ℕ) (f : ℕ → ℕ → Bool) → IsPlane (pixels_where w h f)
whole_where w h f = length-map-range_with_len (λ i. f (i % w) (i / w)) 0 (w * h)
