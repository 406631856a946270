-- Sums of drawings.
use Rattle.std.proofs.Common.{◌≡◌, ℕ, zero, suc, ◌+◌, ◌-◌, ◌*◌, ◌/◌, ◌%◌, Bool, true, false, not, cond, Some, None, count_by, replicate, arith, refl, ap, sym, ◌∙◌}
use Rattle.std.specs.List.{range_with_len, sum}
use Rattle.std.proofs.Math.Nat.{mul_comm, mul_assoc}
use Rattle.std.proofs.lemmas.Nat.{div-mul-add, mod-mul-add}
use Rattle.std.proofs.lemmas.List.{length-replicate, get_or-replicate}
use Rattle.std.proofs.lemmas.List.FromFn.{fill_by_all}
use Rattle.djvu_base.specs.declared.turns.Turn.{Turn}
use Rattle.djvu_base.specs.declared.turns.Turn.TheVariants.{Upright, Right, Over, Left}
use Rattle.bit_plane.specs.Pixels.{Pixels, IsPlane, is_black_at, black_count}
use Rattle.bit_plane.proofs.Lemmas.{black_places, total, total_same, total_joined, total_front, sum_of_map, sum_of_range}
use Rattle.layer_compose.specs.declared.layers.Layers.{Layers}
use Rattle.layer_compose.specs.Drawing.{MaskFits, in_mask, layer_sample, reduction_in, front_sample, back_sample, sample_at, coded_sample, turned, turned_size, drawing_width, drawing_height, samples_by, samples_of, sum_of, white_count}
use Rattle.layer_compose.specs.Laying.{pixel_sum, row_sum}
use Rattle.layer_compose.proofs.Reducing.{sizes_of}

-- ---- sums over the first numbers

pub total_times : (m : ℕ) (f : ℕ → ℕ) (n : ℕ) → total (λ i. m * f i) n ≡ m * total f n
total_times m f zero = omega arith
total_times m f (suc n) =
    let before = total_times m f n in
    grind arith

pub total_added : (f g : ℕ → ℕ) (n : ℕ) → total (λ i. f i + g i) n ≡ total f n + total g n
total_added f g zero = refl
total_added f g (suc n) =
    let before = total_added f g n in
    omega arith

-- three samples a pixel
total_by_three : (f : ℕ → ℕ → ℕ) (n : ℕ) → total (λ i. f (i / 3) (i % 3)) (3 * n) ≡ total (λ p. f p 0 + f p 1 + f p 2) n
total_by_three f zero = omega arith
total_by_three f (suc n) =
    let before = total_by_three f n in
    let size : 3 * suc n ≡ 3 * n + 3 = omega arith in
    let all = ap (total (λ i. f (i / 3) (i % 3))) size ∙ total_joined (λ i. f (i / 3) (i % 3)) (3 * n) 3 in
    let last : total (λ i. f ((3 * n + i) / 3) ((3 * n + i) % 3)) 3 ≡ total (λ i. f n i) 3 =
    total_same (λ i. f ((3 * n + i) / 3) ((3 * n + i) % 3)) (λ i. f n i) 3
    (λ i p. ap (λ q. f q ((3 * n + i) % 3)) {x = (3 * n + i) / 3} {y = n} (omega arith) ∙ ap (f n) {x = (3 * n + i) % 3} {y = i} (omega arith)) in
    let three : total (λ i. f n i) 3 ≡ f n 0 + f n 1 + f n 2 = omega arith in
    omega arith

total_reversed : (f : ℕ → ℕ) (n : ℕ) → total (λ i. f (n - 1 - i)) n ≡ total f n
total_reversed f zero = refl
total_reversed f (suc n) =
    let before = total_reversed f n in
    let front = total_front (λ i. f (suc n - 1 - i)) n in
    let rest = total_same (λ i. f (suc n - 1 - (1 + i))) (λ i. f (n - 1 - i)) n (λ i p. ap f (omega arith)) in
    let first : f (suc n - 1 - 0) ≡ f n = ap f (omega arith) in
    omega arith

-- row by row
total_rows : (f : ℕ → ℕ → ℕ) (width height : ℕ) → total (λ p. f (p % width) (p / width)) (height * width) ≡ total (λ y. total (λ x. f x y) width) height
total_rows f width zero =
    let none : zero * width ≡ 0 = omega arith in
    ap (total (λ p. f (p % width) (p / width))) none
total_rows f width (suc height) =
    let before = total_rows f width height in
    let size : suc height * width ≡ height * width + width = grind arith in
    let all = ap (total (λ p. f (p % width) (p / width))) size ∙ total_joined (λ p. f (p % width) (p / width)) (height * width) width in
    let last = total_same (λ x. f ((height * width + x) % width) ((height * width + x) / width)) (λ x. f x height) width
    (λ x p. ap (λ column. f column ((height * width + x) / width)) (mod-mul-add height width x p) ∙ ap (f x) (div-mul-add height width x p)) in
    omega arith

total_none : (n : ℕ) → total (λ i. 0) n ≡ 0
total_none zero = refl
total_none (suc n) = omega (arith, total_none n)

-- column by column
total_swapped : (f : ℕ → ℕ → ℕ) (width height : ℕ) → total (λ y. total (λ x. f x y) width) height ≡ total (λ x. total (λ y. f x y) height) width
total_swapped f width zero = sym (total_none width)
total_swapped f width (suc height) =
    let before = total_swapped f width height in
    let last = total_added (λ x. total (λ y. f x y) height) (λ x. f x height) width in
    omega arith

total_both : (f g : ℕ → ℕ) (n : ℕ) → ((i : ℕ) → f i + g i ≡ 1) → total f n + total g n ≡ n
total_both f g zero one = refl
total_both f g (suc n) one =
    let before = total_both f g n one in
    let last = one n in
    omega arith

total_ones : (n : ℕ) → total (λ i. 1) n ≡ n
total_ones zero = refl
total_ones (suc n) =
    let before = total_ones n in
    omega arith

-- ---- sums of rows

-- the sum of rows is the sum of their pixels
rows_sum : (width height : ℕ) (sample : ℕ → ℕ → ℕ → ℕ) →
    sum (samples_by width height sample) ≡ total (λ y. total (λ x. sample x y 0 + sample x y 1 + sample x y 2) width) height
rows_sum width height sample =
    let pixel : ℕ → ℕ → ℕ = λ p channel. sample (p % width) (p / width) channel in
    let size : 3 * width * height ≡ 3 * (height * width) = mul_assoc 3 width height ∙ ap (λ n. 3 * n) (mul_comm width height) in
    sum_of_map (λ n. n) (λ n. pixel (n / 3) (n % 3)) (3 * width * height)
    ∙ ap (total (λ n. pixel (n / 3) (n % 3))) size
    ∙ total_by_three pixel (height * width)
    ∙ total_rows (λ x y. sample x y 0 + sample x y 1 + sample x y 2) width height

-- turning changes no sum
turned_sum : (turn : Turn) (width height : ℕ) (sample : ℕ → ℕ → ℕ → ℕ) →
    sum (samples_by (turned_size turn width height).0 (turned_size turn width height).1 (turned turn width height sample)) ≡ sum (samples_by width height sample)
turned_sum Upright width height sample = refl
turned_sum Right width height sample =
    let pixel : ℕ → ℕ → ℕ = λ x y. sample x y 0 + sample x y 1 + sample x y 2 in
    rows_sum height width (turned Right width height sample)
    ∙ total_same (λ y. total (λ x. pixel y (height - 1 - x)) height) (λ y. total (λ x. pixel y x) height) width (λ y within. total_reversed (pixel y) height)
    ∙ total_swapped (λ x y. pixel y x) height width
    ∙ sym (rows_sum width height sample)
turned_sum Over width height sample =
    let pixel : ℕ → ℕ → ℕ = λ x y. sample x y 0 + sample x y 1 + sample x y 2 in
    rows_sum width height (turned Over width height sample)
    ∙ total_same (λ y. total (λ x. pixel (width - 1 - x) (height - 1 - y)) width) (λ y. total (λ x. pixel x (height - 1 - y)) width) height
    (λ y within. total_reversed (λ x. pixel x (height - 1 - y)) width)
    ∙ total_reversed (λ y. total (λ x. pixel x y) width) height
    ∙ sym (rows_sum width height sample)
turned_sum Left width height sample =
    let pixel : ℕ → ℕ → ℕ = λ x y. sample x y 0 + sample x y 1 + sample x y 2 in
    rows_sum height width (turned Left width height sample)
    ∙ total_reversed (λ y. total (λ x. pixel y x) height) width
    ∙ total_swapped (λ x y. pixel y x) height width
    ∙ sym (rows_sum width height sample)

-- the sum of a drawing is that of the page as it is coded
sum_as_coded : (layers : Layers) → sum_of layers ≡ sum (samples_by layers.width layers.height (coded_sample layers))
unfolding samples_of
sum_as_coded layers = turned_sum layers.turn layers.width layers.height (coded_sample layers)

pub any_turn : (layers : Layers) (turn : Turn) → sum_of (record layers { turn = turn }) ≡ sum_of layers
any_turn layers turn = sum_as_coded (record layers { turn = turn }) ∙ sym (sum_as_coded layers)

sum_by_pixels : (layers : Layers) → sum_of layers ≡ total (λ y. total (λ x. pixel_sum layers x y) layers.width) layers.height
sum_by_pixels layers =
    sum_as_coded layers
    ∙ rows_sum layers.width layers.height (coded_sample layers)
    ∙ total_reversed (λ y. total (λ x. pixel_sum layers x y) layers.width) layers.height

-- the sum of the first rows of the page, from the bottom
abbrev pub rows_total : Layers → ℕ → ℕ
rows_total layers count = total (row_sum layers) count

-- the sum of the first pixels of a row
abbrev pub pixels_total : Layers → ℕ → ℕ → ℕ
pixels_total layers y count = total (λ x. pixel_sum layers x y) count

pub row_total : (layers : Layers) (y : ℕ) → pixels_total layers y layers.width ≡ row_sum layers y
row_total layers y = sym (sum_of_map (λ n. n) (λ x. pixel_sum layers x y) layers.width)

pub sum_by_rows : (layers : Layers) → rows_total layers layers.height ≡ sum_of layers
sum_by_rows layers =
    total_same (row_sum layers) (λ y. total (λ x. pixel_sum layers x y) layers.width) layers.height (λ y within. sym (row_total layers y))
    ∙ sym (sum_by_pixels layers)

-- ---- sums of pages without colours

counted_white : (layers : Layers) → white_count layers ≡ total (λ p. cond (not (in_mask layers.mask (p % layers.width) (p / layers.width))) 1 0) (layers.width * layers.height)
counted_white layers = sum_of_range (λ p. cond (not (in_mask layers.mask (p % layers.width) (p / layers.width))) 1 0) (layers.width * layers.height)

-- a sample without colours
uncoloured : (layers : Layers) (x y channel : ℕ) → layers.front ≡ None → layers.back ≡ None → sample_at layers x y channel ≡ cond (in_mask layers.mask x y) 0 255
uncoloured layers x y channel no_front no_back =
    let front : front_sample layers x y channel ≡ 0 = ap (λ colour. layer_sample colour 0 (reduction_in layers layers.front) x y channel) no_front in
    let back : back_sample layers x y channel ≡ 255 = ap (λ colour. layer_sample colour 255 (reduction_in layers layers.back) x y channel) no_back in
    ap (λ s. cond (in_mask layers.mask x y) s (back_sample layers x y channel)) front
    ∙ ap (λ s. cond (in_mask layers.mask x y) 0 s) back

white_value : (b : Bool) → cond b 0 255 + cond b 0 255 + cond b 0 255 ≡ 765 * cond (not b) 1 0
white_value true = refl
white_value false = refl

white_pixel : (layers : Layers) (x y : ℕ) → layers.front ≡ None → layers.back ≡ None → pixel_sum layers x y ≡ 765 * cond (not (in_mask layers.mask x y)) 1 0
white_pixel layers x y no_front no_back =
    let red = uncoloured layers x y 0 no_front no_back in
    let green = uncoloured layers x y 1 no_front no_back in
    let blue = uncoloured layers x y 2 no_front no_back in
    let value = white_value (in_mask layers.mask x y) in
    let shade : ℕ = cond (in_mask layers.mask x y) 0 255 in
    let all : pixel_sum layers x y ≡ shade + shade + shade = omega arith in
    all ∙ value

pub sum_of_white : (layers : Layers) → layers.front ≡ None → layers.back ≡ None → sum_of layers ≡ 765 * white_count layers
sum_of_white layers no_front no_back =
    let w : ℕ = layers.width in
    let h : ℕ = layers.height in
    let is_white : ℕ → ℕ → ℕ = λ x y. cond (not (in_mask layers.mask x y)) 1 0 in
    let pixels = sum_by_pixels layers in
    let whites : total (λ y. total (λ x. pixel_sum layers x y) w) h ≡ total (λ y. 765 * total (λ x. is_white x y) w) h =
    total_same (λ y. total (λ x. pixel_sum layers x y) w) (λ y. 765 * total (λ x. is_white x y) w) h
    (λ y within.
    total_same (λ x. pixel_sum layers x y) (λ x. 765 * is_white x y) w (λ x below. white_pixel layers x y no_front no_back)
    ∙ total_times 765 (λ x. is_white x y) w) in
    let times = total_times 765 (λ y. total (λ x. is_white x y) w) h in
    let back = total_rows is_white w h in
    let count : white_count layers ≡ total (λ p. is_white (p % w) (p / w)) (h * w) = counted_white layers ∙ ap (total (λ p. is_white (p % w) (p / w))) (mul_comm w h) in
    omega arith

one_or_other : (b : Bool) → cond b 1 0 + cond (not b) 1 0 ≡ 1
one_or_other true = refl
one_or_other false = refl

-- what isn't in the mask is white
pub others_white : (layers : Layers) (plane : Pixels) → layers.mask ≡ Some plane → MaskFits layers → IsPlane plane → black_count plane + white_count layers ≡ layers.width * layers.height
others_white layers plane is fits whole =
    let n : ℕ = layers.width * layers.height in
    let sizes = sizes_of layers plane is fits in
    let places : black_count plane ≡ count_by (λ p. is_black_at plane (p % layers.width) (p / layers.width)) (range_with_len 0 n) =
    black_places plane whole
    ∙ ap (λ w. count_by (λ p. is_black_at plane (p % w) (p / w)) (range_with_len 0 (w * plane.height))) sizes.0
    ∙ ap (λ h. count_by (λ p. is_black_at plane (p % layers.width) (p / layers.width)) (range_with_len 0 (layers.width * h))) sizes.1 in
    let black : black_count plane ≡ total (λ p. cond (in_mask layers.mask (p % layers.width) (p / layers.width)) 1 0) n =
    places
    ∙ sum_of_range (λ p. cond (is_black_at plane (p % layers.width) (p / layers.width)) 1 0) n
    ∙ ap (λ mask. total (λ p. cond (in_mask mask (p % layers.width) (p / layers.width)) 1 0) n) (sym is) in
    let both = total_both (λ p. cond (in_mask layers.mask (p % layers.width) (p / layers.width)) 1 0)
    (λ p. cond (not (in_mask layers.mask (p % layers.width) (p / layers.width))) 1 0) n
    (λ p. one_or_other (in_mask layers.mask (p % layers.width) (p / layers.width))) in
    omega (arith, counted_white layers)

pub all_white : (layers : Layers) → layers.mask ≡ None → white_count layers ≡ layers.width * layers.height
all_white layers is =
    counted_white layers
    ∙ ap (λ mask. total (λ p. cond (not (in_mask mask (p % layers.width) (p / layers.width))) 1 0) (layers.width * layers.height)) is
    ∙ total_ones (layers.width * layers.height)

-- ---- white pages

white_at : (layers : Layers) (x y channel : ℕ) → layers.mask ≡ None → layers.back ≡ None → sample_at layers x y channel ≡ 255
white_at layers x y channel no_mask no_back =
    ap (λ mask. cond (in_mask mask x y) (front_sample layers x y channel) (back_sample layers x y channel)) no_mask
    ∙ ap (λ colour. layer_sample colour 255 (reduction_in layers layers.back) x y channel) no_back

turned_white : (turn : Turn) (width height x y channel : ℕ) (sample : ℕ → ℕ → ℕ → ℕ) → ((x y : ℕ) → sample x y channel ≡ 255) →
    turned turn width height sample x y channel ≡ 255
turned_white Upright width height x y channel sample white = white x y
turned_white Right width height x y channel sample white = white y (height - 1 - x)
turned_white Over width height x y channel sample white = white (width - 1 - x) (height - 1 - y)
turned_white Left width height x y channel sample white = white (width - 1 - y) x

pub white_samples : (layers : Layers) → layers.mask ≡ None → layers.back ≡ None → samples_of layers ≡ replicate (3 * drawing_width layers * drawing_height layers) 255
unfolding samples_of
white_samples layers no_mask no_back =
    let n : ℕ = 3 * drawing_width layers * drawing_height layers in
    let f : ℕ → ℕ = λ k. turned layers.turn layers.width layers.height (coded_sample layers) (k / 3 % drawing_width layers) (k / 3 / drawing_width layers) (k % 3) in
    sym (fill_by_all f (replicate n 255) n 0 (length-replicate n 255)
    (λ k below.
    get_or-replicate n k 255 0 below
    ∙ sym (turned_white layers.turn layers.width layers.height (k / 3 % drawing_width layers) (k / 3 / drawing_width layers) (k % 3) (coded_sample layers)
    (λ x y. white_at layers x (layers.height - 1 - y) (k % 3) no_mask no_back))))

total_same_number : (c n : ℕ) → total (λ i. c) n ≡ c * n
total_same_number c zero = omega arith
total_same_number c (suc n) =
    let before = total_same_number c n in
    grind arith

pub white_sum : (layers : Layers) → layers.mask ≡ None → layers.back ≡ None → sum_of layers ≡ 765 * (layers.width * layers.height)
white_sum layers no_mask no_back =
    let w : ℕ = layers.width in
    let h : ℕ = layers.height in
    let pixel : (x y : ℕ) → pixel_sum layers x y ≡ 765 = λ x y.
    let red = white_at layers x y 0 no_mask no_back in
    let green = white_at layers x y 1 no_mask no_back in
    let blue = white_at layers x y 2 no_mask no_back in
    omega arith in
    sum_by_pixels layers
    ∙ total_same (λ y. total (λ x. pixel_sum layers x y) w) (λ y. 765 * w) h
    (λ y within. total_same (λ x. pixel_sum layers x y) (λ x. 765) w (λ x below. pixel x y) ∙ total_same_number 765 w)
    ∙ total_same_number (765 * w) h
    ∙ mul_assoc 765 w h
