-- Samples of planes, and pixels out of them.
use Rattle.std.proofs.Common.{◌≡◌, ℕ, zero, suc, ◌+◌, ◌-◌, ◌*◌, ◌/◌, ◌%◌, ◌<◌, Bool, true, false, ℤ, pos, List, [], ◌∷◌, ◌++◌, length, map, refl}
use Rattle.std.proofs.Common.{ap, sym, ◌∙◌, arith, append_assoc}
use Rattle.std.specs.List.{range_with_len}
use Rattle.djvu_base.specs.Picture.{Picture}
use Rattle.std.proofs.Math.Nat.{mul_assoc}
use Rattle.std.proofs.lemmas.List.{same_lists}
use Rattle.std.proofs.lemmas.List.FromFn.{map-range_with_len_more, length-map-range_with_len, get_or-map-range_with_len}
use Rattle.std.proofs.lemmas.Nat.{div-mul-add, mod-mul-add, mul-add-lt, div_below, mod_below}
use Rattle.std.specs.Prelude.{Option, Some, None}
use Rattle.iw44_blocks.specs.Plane.{Plane}
use Rattle.iw44_blocks.proofs.Lemmas.{by_place, quarter_value, values_same}
use Rattle.iw44_image.specs.declared.headers.Header.{Header}
use Rattle.iw44_image.specs.declared.rasters.ChromaSamples.{ChromaSamples}
use Rattle.iw44_image.specs.declared.colours.Colour.{Colour}
use Rattle.iw44_image.specs.declared.rasters.Samples.{Samples}
use Rattle.iw44_blocks.specs.Lattice.{Lattice, values_by, quarter}
use Rattle.iw44_lifting.specs.Lift.{columns_lifted, rows_lifted, lifted}
use Rattle.iw44_image.specs.Samples.{Components, last_scale, channel_of, grey, colour, sample_of, plane_value, plane_samples, pixel, sample_at, picture}
use Rattle.iw44_image.specs.Samples.{placed_value}
use Rattle.iw44_image.specs.Rasters.{AreChroma, AreSamples, IsOfSize, HaveSize, IsFullChroma, IsFull, number_in, colour_by, colour_at, painted_at, painted}
use Rattle.iw44_image.specs.Rasters.{shared_sample}

-- the transform leaves a grid's size
pub width_stays : (half : Bool) (grid : Lattice) → (lifted (last_scale half) grid).width ≡ grid.width
unfolding columns_lifted rows_lifted
width_stays true grid = refl
width_stays false grid = refl

pub height_stays : (half : Bool) (grid : Lattice) → (lifted (last_scale half) grid).height ≡ grid.height
unfolding columns_lifted rows_lifted
height_stays true grid = refl
height_stays false grid = refl

-- at half size two by two places have the value of one of the quarter
pub half_places : (width height : ℕ) (whole : Lattice) → whole.width ≡ width → whole.height ≡ height →
    values_by width (width * height) (shared_sample true (quarter whole)) ≡ values_by width (width * height) (λ x y. sample_of (placed_value true whole x y))
half_places width height whole across up =
    values_same width height (shared_sample true (quarter whole)) (λ x y. sample_of (placed_value true whole x y)) (λ x y wide tall.
    ap sample_of (quarter_value whole (x / 2) (y / 2) (omega arith) (omega arith)))

three_more : (f : ℕ → ℕ) (n a b c : ℕ) → f n ≡ a → f (n + 1) ≡ b → f (n + 2) ≡ c →
    map f (range_with_len 0 (n + 1 + 1 + 1)) ≡ map f (range_with_len 0 n) ++ a ∷ b ∷ c ∷ []
three_more f n a b c first second third =
    let two : n + 1 + 1 ≡ n + 2 = omega arith in
    map-range_with_len_more f 0 (n + 1 + 1) (n + 1 + 1) (omega arith)
    ∙ ap (λ (v : ℕ). map f (range_with_len 0 (n + 1 + 1)) ++ v ∷ []) (ap f two ∙ third)
    ∙ ap (λ (l : List ℕ). l ++ c ∷ []) (map-range_with_len_more f 0 (n + 1) (n + 1) (omega arith))
    ∙ ap (λ (v : ℕ). (map f (range_with_len 0 (n + 1)) ++ v ∷ []) ++ c ∷ []) second
    ∙ ap (λ (l : List ℕ). (l ++ b ∷ []) ++ c ∷ []) (map-range_with_len_more f 0 n n (omega arith))
    ∙ ap (λ (v : ℕ). ((map f (range_with_len 0 n) ++ v ∷ []) ++ b ∷ []) ++ c ∷ []) first
    ∙ append_assoc (map f (range_with_len 0 n) ++ a ∷ []) (b ∷ []) (c ∷ [])
    ∙ append_assoc (map f (range_with_len 0 n)) (a ∷ []) (b ∷ c ∷ [])

-- one pixel more of a picture
pub pixel_more : (w h row x at : ℕ) (samples : Samples) (it : Colour) (items more : List ℕ) → x < w → at ≡ (h - 1 - row) * w + x → it ≡ colour_at samples at →
    items ≡ painted w h samples (row * w + x) → more ≡ items ++ it.red ∷ it.green ∷ it.blue ∷ [] → more ≡ painted w h samples (row * w + (x + 1))
pixel_more w h row x at samples it items more within place is before e =
    let f : ℕ → ℕ = painted_at w h samples in
    let k : ℕ = row * w + x in
    let column : k % w ≡ x = mod-mul-add row w x within in
    let line : k / w ≡ row = div-mul-add row w x within in
    let here : (h - 1 - k / w) * w + k % w ≡ at = ap (λ (r : ℕ). (h - 1 - r) * w + k % w) line ∙ ap (λ (c : ℕ). (h - 1 - row) * w + c) column ∙ sym place in
    let colour_is : colour_at samples ((h - 1 - k / w) * w + k % w) ≡ it = ap (colour_at samples) here ∙ sym is in
    let third : (3 * k) / 3 ≡ k = omega arith in
    let third1 : (3 * k + 1) / 3 ≡ k = omega arith in
    let third2 : (3 * k + 2) / 3 ≡ k = omega arith in
    let rest : (3 * k) % 3 ≡ 0 = omega arith in
    let rest1 : (3 * k + 1) % 3 ≡ 1 = omega arith in
    let rest2 : (3 * k + 2) % 3 ≡ 2 = omega arith in
    let at_pixel : ℕ → ℕ → ℕ = λ c p. channel_of c (colour_at samples ((h - 1 - p / w) * w + p % w)) in
    let red : f (3 * k) ≡ it.red = ap (λ (c : ℕ). at_pixel c ((3 * k) / 3)) rest ∙ ap (λ (p : ℕ). at_pixel 0 p) third ∙ ap (λ (o : Colour). o.red) colour_is in
    let green : f (3 * k + 1) ≡ it.green = ap (λ (c : ℕ). at_pixel c ((3 * k + 1) / 3)) rest1 ∙ ap (λ (p : ℕ). at_pixel 1 p) third1 ∙ ap
    (λ (o : Colour). o.green) colour_is in
    let blue : f (3 * k + 2) ≡ it.blue = ap (λ (c : ℕ). at_pixel c ((3 * k + 2) / 3)) rest2 ∙ ap (λ (p : ℕ). at_pixel 2 p) third2 ∙ ap
    (λ (o : Colour). o.blue) colour_is in
    let count : 3 * (row * w + (x + 1)) ≡ 3 * k + 1 + 1 + 1 = omega arith in
    e ∙ ap (λ (l : List ℕ). l ++ it.red ∷ it.green ∷ it.blue ∷ []) before
    ∙ sym (three_more f (3 * k) it.red it.green it.blue red green blue)
    ∙ ap (λ (n : ℕ). map f (range_with_len 0 n)) (sym count)

colours_same : (a b c x y z : ℤ) → a ≡ x → b ≡ y → c ≡ z → colour a b c ≡ colour x y z
colours_same a b c x y z d e f = ap (λ (n : ℤ). colour n b c) d ∙ ap (λ (n : ℤ). colour x n c) e ∙ ap (λ (n : ℤ). colour x y n) f

-- lists that are given by the index
map_same : (f g : ℕ → ℕ) (n : ℕ) → ((i : ℕ) → i < n → f i ≡ g i) → map f (range_with_len 0 n) ≡ map g (range_with_len 0 n)
map_same f g n same =
    same_lists (map f (range_with_len 0 n)) (map g (range_with_len 0 n)) (length-map-range_with_len f 0 n ∙ sym (length-map-range_with_len g 0 n))
    (λ i d p.
    let first = length-map-range_with_len f 0 n in
    let within : i < n = omega arith in
    get_or-map-range_with_len f 0 n i i d within (omega arith) ∙ same i within ∙ sym (get_or-map-range_with_len g 0 n i i d within (omega arith)))

wide_samples : (width count n : ℕ) → n < 3 * width * count → (0 < width) × (n / 3 < count * width)
wide_samples zero count n below = omega arith
wide_samples (suc width) count n below = (omega arith, omega (arith, mul_assoc 3 (suc width) count))

-- a plane's samples by their number
samples_length : (half : Bool) (plane : Plane) → length (plane_samples half plane) ≡ plane.width * plane.height
unfolding plane_samples
samples_length half plane =
    let f : ℕ → ℤ = λ n. sample_of (plane_value half plane (n % plane.width) (n / plane.width)) in
    length-map-range_with_len f 0 (plane.width * plane.height)

sample_is : (header : Header) (half : Bool) (plane : Plane) (x y : ℕ) → IsOfSize header plane → x < header.width → y < header.height →
    number_in (plane_samples half plane) (y * header.width + x) ≡ sample_of (plane_value half plane x y)
unfolding plane_samples
sample_is header half plane x y size column row =
    let f : ℕ → ℤ = λ n. sample_of (plane_value half plane (n % plane.width) (n / plane.width)) in
    let wide : x < plane.width = omega (arith, size.0) in
    let high : y < plane.height = omega (arith, size.1) in
    ap (λ (w : ℕ). number_in (map f (range_with_len 0 (plane.width * plane.height))) (y * w + x)) (sym size.0)
    ∙ get_or-map-range_with_len f 0 (plane.width * plane.height) (y * plane.width + x) (y * plane.width + x) (pos 0)
    (mul-add-lt y plane.width x plane.height high wide) (omega arith)
    ∙ by_place plane.width y x (λ c r. sample_of (plane_value half plane c r)) wide

-- the lists are as long as the picture has pixels
length_is : (header : Header) (half : Bool) (plane : Plane) (samples : List ℤ) → IsOfSize header plane → samples ≡ plane_samples half plane →
    length samples ≡ header.width * header.height
length_is header half plane samples size is =
    ap (length {A = ℤ}) is ∙ samples_length half plane ∙ ap (λ (w : ℕ). w * plane.height) size.0 ∙ ap (λ (h : ℕ). header.width * h) size.1

full_chroma : (header : Header) (it : Components) (chroma : Option ChromaSamples) → HaveSize header it → AreChroma header it chroma → IsFullChroma
    (header.width * header.height) chroma
full_chroma header it None size are = tt
full_chroma header it (Some chroma) size are =
    (length_is header header.half it.b chroma.b.items size.b are.1.0, length_is header header.half it.r chroma.r.items size.r are.1.1)

pub full_of : (header : Header) (it : Components) (samples : Samples) → AreSamples header it samples → HaveSize header it → IsFull
    (header.width * header.height) samples
full_of header it samples are size = record {
  y = length_is header false it.y samples.y.items size.y are.y;
  chroma = full_chroma header it samples.chroma size are.chroma;
}

-- the colour of the samples at a place is the pixel's
pixel_by : (header : Header) (it : Components) (ys : List ℤ) (chroma : Option ChromaSamples) (x y : ℕ) → HaveSize header it →
    ys ≡ plane_samples false it.y → AreChroma header it chroma →
    x < header.width → y < header.height → colour_by ys chroma (y * header.width + x) ≡ pixel header it x y
pixel_by header it ys None x y size are grey_is column row =
    let value : number_in ys (y * header.width + x) ≡ sample_of (plane_value false it.y x y) =
    ap (λ (l : List ℤ). number_in l (y * header.width + x)) are ∙ sample_is header false it.y x y size.y column row in
    rw grey_is (ap grey value)
pixel_by header it ys (Some chroma) x y size are coloured column row =
    let first : number_in ys (y * header.width + x) ≡ sample_of (plane_value false it.y x y) =
    ap (λ (l : List ℤ). number_in l (y * header.width + x)) are ∙ sample_is header false it.y x y size.y column row in
    let second : number_in chroma.b.items (y * header.width + x) ≡ sample_of (plane_value header.half it.b x y) =
    ap (λ (l : List ℤ). number_in l (y * header.width + x)) coloured.1.0 ∙ sample_is header header.half it.b x y size.b column row in
    let third : number_in chroma.r.items (y * header.width + x) ≡ sample_of (plane_value header.half it.r x y) =
    ap (λ (l : List ℤ). number_in l (y * header.width + x)) coloured.1.1 ∙ sample_is header header.half it.r x y size.r column row in
    rw coloured.0 (colours_same _ _ _ _ _ _ first second third)

-- the samples of a picture are those that its planes' samples give
pub picture_is : (header : Header) (it : Components) (samples : Samples) → AreSamples header it samples → HaveSize header it →
    painted header.width header.height samples (header.width * header.height) ≡ (picture header it).samples
picture_is header it samples are size =
    let w : ℕ = header.width in
    let h : ℕ = header.height in
    let count : 3 * (w * h) ≡ 3 * w * h = grind arith in
    ap (λ (n : ℕ). map (painted_at w h samples) (range_with_len 0 n)) count
    ∙ map_same (painted_at w h samples) (sample_at header it) (3 * w * h)
    (λ n below.
    let within = wide_samples w h n below in
    let column = mod_below (n / 3) w within.0 in
    let row = div_below (n / 3) w h within.0 within.1 in
    let from_bottom : h - 1 - n / 3 / w < h = omega arith in
    ap (channel_of (n % 3)) (pixel_by header it samples.y.items samples.chroma (n / 3 % w) (h - 1 - n / 3 / w) size are.y are.chroma column from_bottom))

pub painted_length : (w h n : ℕ) (samples : Samples) (out : List ℕ) → out ≡ painted w h samples n → n ≡ w * h → length out ≡ 3 * w * h
painted_length w h n samples out is all =
    let flat : 3 * n ≡ 3 * w * h = grind (arith, all) in
    ap (length {A = ℕ}) is ∙ length-map-range_with_len (painted_at w h samples) 0 (3 * n) ∙ flat

pub raster_is : (header : Header) (it : Components) (samples : Samples) (out : List ℕ) (result : Picture) → AreSamples header it samples → HaveSize header it →
    out ≡ painted header.width header.height samples (header.width * header.height) →
    result ≡ record { width = header.width; height = header.height; samples = out } → result ≡ picture header it
raster_is header it samples out result are size painted_is is =
    is ∙ ap (λ (l : List ℕ). let p : Picture = record { width = header.width; height = header.height; samples = l } in p)
    (painted_is ∙ picture_is header it samples are size)
