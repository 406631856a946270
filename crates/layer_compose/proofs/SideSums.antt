-- Sums of rows by the two sides of a mask, run by run.
use Rattle.std.proofs.Common.{◌≡◌, ℕ, zero, suc, ◌+◌, ◌-◌, ◌*◌, ◌/◌, ◌%◌, ◌^◌, ◌<◌, ◌≤◌, ◌⊎◌, inl, inr, min, Bool, true, false, not, cond, Option, Some, None, arith, refl, ap, sym, ◌∙◌}
use Rattle.std.specs.Int.Count.{ones}
use Rattle.std.specs.Option.{IfSome}
use Rattle.std.proofs.lemmas.Nat.{div-mul-add, mod-mul-add, div-add-mod'}
use Rattle.std.proofs.lemmas.Bool.{cases_lt}
use Rattle.djvu_base.specs.Picture.{Picture}
use Rattle.bit_plane.specs.Bits.{digit}
use Rattle.bit_plane.specs.Pixels.{Pixels, is_black_at}
use Rattle.bit_plane.proofs.Lemmas.{total, total_same, total_joined, sum_of_map, sum_of_range, ones_total}
use Rattle.layer_compose.specs.declared.layers.Layers.{Layers}
use Rattle.layer_compose.specs.declared.colours.Colour.{Colour}
use Rattle.layer_compose.specs.declared.sums.Side.{Side}
use Rattle.layer_compose.specs.declared.sums.Side.TheVariants.{Front, Back}
use Rattle.layer_compose.specs.Drawing.{in_mask, layer_sample, picture_sample, reduction_in, front_sample, back_sample}
use Rattle.layer_compose.specs.Laying.{IsColour, pixel_sum, row_sum}
use Rattle.layer_compose.specs.Sides.{is_on, shade_of, count_on, layer_sum, sum_on, run_of}
use Rattle.layer_compose.proofs.Summing.{total_times, total_added}

-- ---- pixels on a side, counted

-- the bits of a word that are set, as pixels of a mask
pub ones_on : (mask : Pixels) (x y count word : ℕ) → word < 2 ^ count → ((i : ℕ) → i < count → digit word i ≡ cond (is_black_at mask (x + i) y) 1 0) →
    ones word ≡ count_on Front (Some mask) x y count
ones_on mask x y count word below told =
    ones_total count word below
    ∙ total_same (digit word) (λ i. cond (is_black_at mask (x + i) y) 1 0) count told
    ∙ sym (sum_of_range (λ i. cond (is_black_at mask (x + i) y) 1 0) count)

none_total : (n : ℕ) → total (λ i. 0) n ≡ 0
none_total zero = refl
none_total (suc n) = omega (arith, none_total n)

-- without a mask no pixel is in front
pub none_on : (x y count : ℕ) → 0 ≡ count_on Front None x y count
none_on x y count = sym (sum_of_range (λ i. 0) count ∙ none_total count)

either_side : (b : Bool) → cond b 1 0 + cond (not b) 1 0 ≡ 1
either_side true = refl
either_side false = refl

total_of_both : (f g : ℕ → ℕ) (n : ℕ) → ((i : ℕ) → f i + g i ≡ 1) → total f n + total g n ≡ n
total_of_both f g zero one = refl
total_of_both f g (suc n) one =
    let before = total_of_both f g n one in
    let last = one n in
    omega arith

-- what isn't in front is behind
pub both_sides : (mask : Option Pixels) (x y count : ℕ) → count_on Front mask x y count + count_on Back mask x y count ≡ count
both_sides mask x y count =
    let front = sum_of_range (λ i. cond (in_mask mask (x + i) y) 1 0) count in
    let back = sum_of_range (λ i. cond (not (in_mask mask (x + i) y)) 1 0) count in
    let both = total_of_both (λ i. cond (in_mask mask (x + i) y) 1 0) (λ i. cond (not (in_mask mask (x + i) y)) 1 0) count (λ i. either_side (in_mask mask (x + i) y)) in
    omega arith

-- ---- runs

-- the sum of the first so many pixels that are on a side
abbrev pub sum_first : Side → Option Pixels → Option Picture → ℕ → ℕ → ℕ → ℕ
sum_first side mask layer by y count = total (λ x. cond (is_on side (in_mask mask x y)) (layer_sum layer (shade_of side) by x y) 0) count

pub sum_whole : (side : Side) (mask : Option Pixels) (layer : Option Picture) (by width y : ℕ) → sum_first side mask layer by y width ≡ sum_on side mask layer by width y
sum_whole side mask layer by width y = sym (sum_of_map (λ n. n) (λ x. cond (is_on side (in_mask mask x y)) (layer_sum layer (shade_of side) by x y) 0) width)

same_place : (by x i : ℕ) → x % by ≡ 0 → i < by → (x + i) / by ≡ x / by
same_place by x i whole within =
    let split = div-add-mod' x by in
    let at : x + i ≡ x / by * by + i = omega arith in
    ap (λ n. n / by) at ∙ div-mul-add (x / by) by i within

-- all pixels of a run have the same sample
steady : (layer : Option Picture) (plain by x y i : ℕ) → x % run_of layer by ≡ 0 → i < run_of layer by → layer_sum layer plain by (x + i) y ≡ layer_sum layer plain by x y
steady None plain by x y i whole within = refl
steady (Some picture) plain by x y i whole within =
    ap (λ q. picture_sample picture q (y / by) 0 + picture_sample picture q (y / by) 1 + picture_sample picture q (y / by) 2) (same_place by x i whole within)

times_test : (b : Bool) (v : ℕ) → cond b v 0 ≡ v * cond b 1 0
times_test true v = omega arith
times_test false v = omega arith

pub colour_sum : (colour : Colour) (layer : Option Picture) (plain by x y : ℕ) → IsColour colour (layer_sample layer plain by x y) →
    colour.red + colour.green + colour.blue ≡ layer_sum layer plain by x y
colour_sum colour layer plain by x y is =
    let red = is.red in
    let green = is.green in
    let blue = is.blue in
    omega arith

-- one run more
pub sum_more : (side : Side) (mask : Option Pixels) (layer : Option Picture) (by y x count sum taken before run : ℕ) → x % run_of layer by ≡ 0 → count ≤ run_of layer by →
    before ≡ sum_first side mask layer by y x → sum ≡ layer_sum layer (shade_of side) by x y → taken ≡ count_on side mask x y count → run ≡ sum * taken →
    before + run ≡ sum_first side mask layer by y (x + count)
sum_more side mask layer by y x count sum taken before run whole few so_far is counted product =
    let on : ℕ → Bool = λ p. is_on side (in_mask mask p y) in
    let value : ℕ → ℕ = λ p. layer_sum layer (shade_of side) by p y in
    let v : ℕ = value x in
    let joined = total_joined (λ p. cond (on p) (value p) 0) x count in
    let same : total (λ i. cond (on (x + i)) (value (x + i)) 0) count ≡ total (λ i. v * cond (on (x + i)) 1 0) count =
    total_same (λ i. cond (on (x + i)) (value (x + i)) 0) (λ i. v * cond (on (x + i)) 1 0) count
    (λ i within. ap (λ n. cond (on (x + i)) n 0) (steady layer (shade_of side) by x y i whole (omega arith)) ∙ times_test (on (x + i)) v) in
    let times = total_times v (λ i. cond (on (x + i)) 1 0) count in
    let count_is : taken ≡ total (λ i. cond (on (x + i)) 1 0) count = counted ∙ sum_of_range (λ i. cond (on (x + i)) 1 0) count in
    let product_is : run ≡ v * total (λ i. cond (on (x + i)) 1 0) count = product ∙ ap (λ s. s * taken) is ∙ ap (λ n. v * n) count_is in
    omega arith

-- a pixel before the end begins a run
pub starts : (x run width : ℕ) → x < width → (x % run ≡ 0) ⊎ (x ≡ width) → x % run ≡ 0
starts x run width before (inl whole) = whole
starts x run width before (inr end) = absurd (omega arith)

next_multiple : (x run : ℕ) → 0 < run → x % run ≡ 0 → (x + run) % run ≡ 0
next_multiple x run some whole =
    let split = div-add-mod' x run in
    let next : (x / run + 1) * run ≡ x / run * run + run = grind arith in
    let at : x + run ≡ (x / run + 1) * run + 0 = omega arith in
    ap (λ n. n % run) at ∙ mod-mul-add (x / run + 1) run 0 some

pub next_run : (x count run width : ℕ) → 0 < run → x < width → count ≡ min (width - x) run → (x % run ≡ 0) ⊎ (x ≡ width) → ((x + count) % run ≡ 0) ⊎ (x + count ≡ width)
next_run x count run width some before is (inr end) = absurd (omega arith)
next_run x count run width some before is (inl whole) =
    elim (cases_lt (width - x) run) [
      | inl last ↦ inr (omega arith)
      | inr more ↦
          let full : x + count ≡ x + run = omega arith in
          inl (ap (λ n. n % run) full ∙ next_multiple x run some whole)
    ]

-- ---- both sides of a row

abbrev pixel_sum_at : Layers → ℕ → ℕ → ℕ
pixel_sum_at layers y x = pixel_sum layers x y

three_by_side : (masked : Bool) (a b c d e f : ℕ) → cond masked a d + cond masked b e + cond masked c f ≡ cond masked (a + b + c) 0 + cond (not masked) (d + e + f) 0
three_by_side true a b c d e f = omega arith
three_by_side false a b c d e f = omega arith

-- a row's sum is that of its two sides
pub row_by_sides : (layers : Layers) (y front back : ℕ) → front ≡ reduction_in layers layers.front → back ≡ reduction_in layers layers.back →
    sum_on Front layers.mask layers.front front layers.width y + sum_on Back layers.mask layers.back back layers.width y ≡ row_sum layers y
row_by_sides layers y front back in_front behind =
    let w : ℕ = layers.width in
    let kf : ℕ = reduction_in layers layers.front in
    let kb : ℕ = reduction_in layers layers.back in
    let m : ℕ → Bool = λ x. in_mask layers.mask x y in
    let f : ℕ → ℕ = λ x. cond (m x) (layer_sum layers.front 0 kf x y) 0 in
    let b : ℕ → ℕ = λ x. cond (not (m x)) (layer_sum layers.back 255 kb x y) 0 in
    let first : sum_on Front layers.mask layers.front front w y ≡ total f w = ap (λ k. sum_on Front layers.mask layers.front k w y) in_front ∙ sym (sum_whole Front layers.mask layers.front kf w y) in
    let second : sum_on Back layers.mask layers.back back w y ≡ total b w = ap (λ k. sum_on Back layers.mask layers.back k w y) behind ∙ sym (sum_whole Back layers.mask layers.back kb w y) in
    let added = total_added f b w in
    let same : total (pixel_sum_at layers y) w ≡ total (λ x. f x + b x) w =
    total_same (pixel_sum_at layers y) (λ x. f x + b x) w
    (λ x within. three_by_side (m x) (front_sample layers x y 0) (front_sample layers x y 1) (front_sample layers x y 2) (back_sample layers x y 0) (back_sample layers x y 1) (back_sample layers x y 2)) in
    let row : row_sum layers y ≡ total (pixel_sum_at layers y) w = sum_of_map (λ n. n) (pixel_sum_at layers y) w in
    omega arith

-- ---- what calls require

-- a run has at least one pixel
pub run_some : (layer : Option Picture) (by : ℕ) → 0 < by → 0 < run_of layer by
run_some None by some = omega arith
run_some (Some picture) by some = some

-- the pixels of a run lie in the mask
pub within_mask : (mask : Option Pixels) (width x y count : ℕ) → IfSome mask (λ mask. (mask.width ≡ width) × (y < mask.height)) → x + count ≤ width →
    IfSome mask (λ mask. (x + count ≤ mask.width) × (y < mask.height))
within_mask None width x y count fits within = tt
within_mask (Some mask) width x y count fits within = (omega (arith, fits.0), fits.1)
