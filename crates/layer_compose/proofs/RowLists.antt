-- Rows one behind the other.
use Rattle.std.proofs.Common.{◌≡◌, ℕ, zero, suc, ◌+◌, ◌*◌, ◌/◌, ◌%◌, ◌<◌, ◌≤◌, List, [], ◌∷◌, ◌++◌, length, take, map, arith, ap, sym, add-zero, add-suc, add-one, append_assoc, ◌∙◌}
use Rattle.std.specs.List.{range_with_len}
use Rattle.std.proofs.Math.Nat.{mul_assoc}
use Rattle.std.proofs.lemmas.Nat.{div_below, mod_below, div-add-mod', div-mul-add, mod-mul-add}
use Rattle.std.proofs.lemmas.List.{same_lists, append-nil}
use Rattle.std.proofs.lemmas.Slice.{take-put_mid}
use Rattle.std.proofs.lemmas.List.FromFn.{length-map-range_with_len, get_or-map-range_with_len, map-range_with_len_more}
use borrow.Rule.Slice.PartMut.{put_mid}
use Rattle.djvu_base.specs.Picture.{Picture}
use Rattle.layer_compose.specs.declared.layers.Layers.{Layers}
use Rattle.layer_compose.specs.Drawing.{samples_by, sample_from_top, samples_of, raster_of, row_of, rows_of, drawing_width, drawing_height}

-- ---- lists made from functions of the index

pub map_same : (f g : ℕ → ℕ) (n : ℕ) → ((i : ℕ) → i < n → f i ≡ g i) → map f (range_with_len 0 n) ≡ map g (range_with_len 0 n)
map_same f g n same =
    let size = length-map-range_with_len g 0 n in
    let first = length-map-range_with_len f 0 n in
    same_lists (map f (range_with_len 0 n)) (map g (range_with_len 0 n)) (first ∙ sym size)
    (λ i d p.
    let within : i < n = omega arith in
    get_or-map-range_with_len f 0 n i i d within (omega arith) ∙ same i within ∙ sym (get_or-map-range_with_len g 0 n i i d within (omega arith)))

pub map_joined : (f : ℕ → ℕ) (a b : ℕ) → map f (range_with_len 0 (a + b)) ≡ map f (range_with_len 0 a) ++ map (λ i. f (a + i)) (range_with_len 0 b)
map_joined f a zero = ap (λ n. map f (range_with_len 0 n)) (add-zero a) ∙ sym (append-nil (map f (range_with_len 0 a)))
map_joined f a (suc b) =
    ap (λ n. map f (range_with_len 0 n)) (add-suc a b ∙ sym (add-one (a + b)))
    ∙ map-range_with_len_more f 0 (a + b) (a + b) (omega arith)
    ∙ ap (λ (xs : List ℕ). xs ++ f (a + b) ∷ []) (map_joined f a b)
    ∙ append_assoc (map f (range_with_len 0 a)) (map (λ i. f (a + i)) (range_with_len 0 b)) (f (a + b) ∷ [])
    ∙ ap (λ (xs : List ℕ). map f (range_with_len 0 a) ++ xs) (sym (map-range_with_len_more (λ i. f (a + i)) 0 b b (omega arith)))
    ∙ ap (λ n. map f (range_with_len 0 a) ++ map (λ i. f (a + i)) (range_with_len 0 n)) (add-one b)

-- ---- samples by column, row and channel

-- samples lie within a width that isn't 0
wide_samples : (width count n : ℕ) → n < 3 * width * count → (0 < width) × (n / 3 < count * width)
wide_samples zero count n below = omega arith
wide_samples (suc width) count n below = (omega arith, omega (arith, mul_assoc 3 (suc width) count))

pub samples_same : (width count : ℕ) (f g : ℕ → ℕ → ℕ → ℕ) → ((x y channel : ℕ) → x < width → y < count → f x y channel ≡ g x y channel) →
    samples_by width count f ≡ samples_by width count g
samples_same width count f g same =
    map_same (λ n. f (n / 3 % width) (n / 3 / width) (n % 3)) (λ n. g (n / 3 % width) (n / 3 / width) (n % 3)) (3 * width * count)
    (λ n below.
    let within = wide_samples width count n below in
    same (n / 3 % width) (n / 3 / width) (n % 3) (mod_below (n / 3) width within.0) (div_below (n / 3) width count within.0 within.1))

-- so many samples further is so many rows further
further : (width count n : ℕ) → 0 < width → ((3 * width * count + n) / 3 % width ≡ n / 3 % width) × ((3 * width * count + n) / 3 / width ≡ count + n / 3 / width) × ((3 * width * count + n) % 3 ≡ n % 3)
further width count n some =
    let flat = mul_assoc 3 width count in
    let turned : width * count ≡ count * width = grind arith in
    let split = div-add-mod' (n / 3) width in
    let both : (count + n / 3 / width) * width ≡ count * width + n / 3 / width * width = grind arith in
    let at : (3 * width * count + n) / 3 ≡ (count + n / 3 / width) * width + n / 3 % width = omega arith in
    let rest = mod_below (n / 3) width some in (
      ap (λ k. k % width) at ∙ mod-mul-add (count + n / 3 / width) width (n / 3 % width) rest,
      ap (λ k. k / width) at ∙ div-mul-add (count + n / 3 / width) width (n / 3 % width) rest,
      omega arith,
    )

pub samples_joined : (width count more : ℕ) (sample : ℕ → ℕ → ℕ → ℕ) →
    samples_by width (count + more) sample ≡ samples_by width count sample ++ samples_by width more (λ x y channel. sample x (count + y) channel)
samples_joined width count more sample =
    let f : ℕ → ℕ = λ n. sample (n / 3 % width) (n / 3 / width) (n % 3) in
    let sizes : 3 * width * (count + more) ≡ 3 * width * count + 3 * width * more = grind arith in
    ap (λ n. map f (range_with_len 0 n)) sizes
    ∙ map_joined f (3 * width * count) (3 * width * more)
    ∙ ap (λ (xs : List ℕ). map f (range_with_len 0 (3 * width * count)) ++ xs)
    (map_same (λ n. f (3 * width * count + n)) (λ n. sample (n / 3 % width) (count + n / 3 / width) (n % 3)) (3 * width * more)
    (λ n below.
    let moved = further width count n (wide_samples width more n below).0 in
    ap (λ x. sample x ((3 * width * count + n) / 3 / width) ((3 * width * count + n) % 3)) moved.0
    ∙ ap (λ y. sample (n / 3 % width) y ((3 * width * count + n) % 3)) moved.1
    ∙ ap (sample (n / 3 % width) (count + n / 3 / width)) moved.2))

-- ---- rows of a drawing

pub all_rows : (layers : Layers) → samples_of layers ≡ rows_of layers 0 (drawing_height layers)
unfolding samples_of rows_of
all_rows layers =
    samples_same (drawing_width layers) (drawing_height layers) (sample_from_top layers) (λ x row channel. sample_from_top layers x (0 + row) channel)
    (λ x row channel column within. ap (λ y. sample_from_top layers x y channel) (omega arith))

pub no_rows : (layers : Layers) (from : ℕ) → rows_of layers from 0 ≡ []
unfolding rows_of
no_rows layers from =
    let none : 3 * drawing_width layers * 0 ≡ 0 = omega arith in
    ap (λ n. map (λ i. sample_from_top layers (i / 3 % drawing_width layers) (from + i / 3 / drawing_width layers) (i % 3)) (range_with_len 0 n)) none

pub one_row : (layers : Layers) (y : ℕ) → rows_of layers y 1 ≡ row_of layers y
unfolding row_of rows_of
one_row layers y =
    samples_same (drawing_width layers) 1 (λ x row channel. sample_from_top layers x (y + row) channel) (λ x row channel. sample_from_top layers x y channel)
    (λ x row channel column within. ap (λ k. sample_from_top layers x k channel) (omega arith))

pub rows_joined : (layers : Layers) (from count more : ℕ) → rows_of layers from (count + more) ≡ rows_of layers from count ++ rows_of layers (from + count) more
unfolding rows_of
rows_joined layers from count more =
    samples_joined (drawing_width layers) count more (λ x row channel. sample_from_top layers x (from + row) channel)
    ∙ ap (λ (xs : List ℕ). samples_by (drawing_width layers) count (λ x row channel. sample_from_top layers x (from + row) channel) ++ xs)
    (samples_same (drawing_width layers) more (λ x row channel. sample_from_top layers x (from + (count + row)) channel) (λ x row channel. sample_from_top layers x (from + count + row) channel)
    (λ x row channel column within. ap (λ y. sample_from_top layers x y channel) (omega arith)))

pub next_row : (layers : Layers) (from count : ℕ) → rows_of layers from (suc count) ≡ rows_of layers from count ++ row_of layers (from + count)
next_row layers from count =
    ap (rows_of layers from) (sym (add-one count))
    ∙ rows_joined layers from count 1
    ∙ ap (λ (xs : List ℕ). rows_of layers from count ++ xs) (one_row layers (from + count))

pub rows_length : (layers : Layers) (from count : ℕ) → length (rows_of layers from count) ≡ 3 * drawing_width layers * count
unfolding rows_of
rows_length layers from count =
    length-map-range_with_len (λ i. sample_from_top layers (i / 3 % drawing_width layers) (from + i / 3 / drawing_width layers) (i % 3)) 0 (3 * drawing_width layers * count)

pub raster_is : (layers : Layers) (width height : ℕ) (rows samples : List ℕ) (result : Picture) → width ≡ drawing_width layers → height ≡ drawing_height layers →
    rows ≡ rows_of layers 0 height → samples ≡ rows → result ≡ record { width = width; height = height; samples = samples } → result ≡ raster_of layers
raster_is layers width height rows samples result wide high drawn same is =
    is
    ∙ ap (λ w. record { width = w; height = height; samples = samples }) wide
    ∙ ap (λ h. record { width = drawing_width layers; height = h; samples = samples }) high
    ∙ ap (λ xs. record { width = drawing_width layers; height = drawing_height layers; samples = xs }) (same ∙ drawn ∙ ap (rows_of layers 0) high ∙ sym (all_rows layers))

pub row_is : (layers : Layers) (y width : ℕ) (out : List ℕ) → width ≡ drawing_width layers →
    out ≡ samples_by width 1 (λ x row channel. sample_from_top layers (x * 1) y channel) → out ≡ row_of layers y
unfolding row_of
row_is layers y width out wide is =
    is
    ∙ ap (λ w. samples_by w 1 (λ x row channel. sample_from_top layers (x * 1) y channel)) wide
    ∙ samples_same (drawing_width layers) 1 (λ x row channel. sample_from_top layers (x * 1) y channel) (λ x row channel. sample_from_top layers x y channel)
    (λ x row channel column within. ap (λ k. sample_from_top layers k y channel) {x = x * 1} {y = x} (omega arith))

-- ---- rows that are put one behind the other

samples_length : (width count : ℕ) (sample : ℕ → ℕ → ℕ → ℕ) → length (samples_by width count sample) ≡ 3 * width * count
samples_length width count sample = length-map-range_with_len (λ n. sample (n / 3 % width) (n / 3 / width) (n % 3)) 0 (3 * width * count)

pub no_samples : (width : ℕ) (sample : ℕ → ℕ → ℕ → ℕ) → samples_by width 0 sample ≡ []
no_samples width sample =
    let none : 3 * width * 0 ≡ 0 = omega arith in
    ap (λ n. map (λ i. sample (i / 3 % width) (i / 3 / width) (i % 3)) (range_with_len 0 n)) none

-- the rows after some more were put behind those before
pub samples_put : (width row more at size : ℕ) (sample : ℕ → ℕ → ℕ → ℕ) (out part : List ℕ) → at ≡ 3 * width * row → take (3 * width * row) out ≡ samples_by width row sample →
    part ≡ samples_by width more (λ x y channel. sample x (row + y) channel) → 3 * width * row ≤ length out →
    take (3 * width * (row + more)) (put_mid at size out part) ≡ samples_by width (row + more) sample
samples_put width row more at size sample out part start before is room =
    let whole : length part ≡ 3 * width * more = ap length is ∙ samples_length width more (λ x y channel. sample x (row + y) channel) in
    let all : 3 * width * (row + more) ≡ 3 * width * row + 3 * width * more = grind arith in
    let end : 3 * width * (row + more) ≡ 3 * width * row + length part = omega arith in
    ap (λ n. take (3 * width * (row + more)) (put_mid n size out part)) start
    ∙ take-put_mid (3 * width * row) size out part (3 * width * (row + more)) end room
    ∙ ap (λ (xs : List ℕ). xs ++ part) before
    ∙ ap (λ (xs : List ℕ). samples_by width row sample ++ xs) is
    ∙ sym (samples_joined width row more sample)

pub row_put : (layers : Layers) (from row at size : ℕ) (out part : List ℕ) → at ≡ 3 * drawing_width layers * row →
    take (3 * drawing_width layers * row) out ≡ rows_of layers from row →
    part ≡ row_of layers (from + row) → 3 * drawing_width layers * row ≤ length out →
    take (3 * drawing_width layers * (row + 1)) (put_mid at size out part) ≡ rows_of layers from (row + 1)
unfolding row_of rows_of
row_put layers from row at size out part start before is room =
    samples_put (drawing_width layers) row 1 at size (λ x y channel. sample_from_top layers x (from + y) channel) out part start before
    (is
    ∙ samples_same (drawing_width layers) 1 (λ x y channel. sample_from_top layers x (from + row) channel) (λ x y channel. sample_from_top layers x (from + (row + y)) channel)
    (λ x y channel column within. ap (λ k. sample_from_top layers x k channel) (omega arith)))
    room

-- the rows after one more of a list of pixels that are so many steps apart
pub steps_put : (layers : Layers) (step columns row at size : ℕ) (out part : List ℕ) → at ≡ 3 * columns * row →
    take (3 * columns * row) out ≡ samples_by columns row (λ x y channel. sample_from_top layers (x * step) (y * step) channel) →
    part ≡ samples_by columns 1 (λ x y channel. sample_from_top layers (x * step) (row * step) channel) → 3 * columns * row ≤ length out →
    take (3 * columns * (row + 1)) (put_mid at size out part) ≡ samples_by columns (row + 1) (λ x y channel. sample_from_top layers (x * step) (y * step) channel)
steps_put layers step columns row at size out part start before is room =
    samples_put columns row 1 at size (λ x y channel. sample_from_top layers (x * step) (y * step) channel) out part start before
    (is
    ∙ samples_same columns 1 (λ x y channel. sample_from_top layers (x * step) (row * step) channel) (λ x y channel. sample_from_top layers (x * step) ((row + y) * step) channel)
    (λ x y channel column within. ap (λ k. sample_from_top layers (x * step) (k * step) channel) (omega arith)))
    room
