-- Rows of a page as it is coded: the background that some of them share, and what the mask has laid over it.
use Rattle.std.proofs.Common.{◌≡◌, ℕ, ◌+◌, ◌-◌, ◌*◌, ◌/◌, ◌%◌, ◌<◌, ◌≤◌, inl, inr, Bool, true, false, cond, ◌&&◌, Option, Some, None, List, ◌++◌, length, take, get_or, arith, refl, ap, sym, subst, ◌∙◌}
use Rattle.std.proofs.lemmas.Bool.{cases_lt, lt-ltb, le-ltb}
use Rattle.std.proofs.Math.Nat.{mod-eq_of_lt}
use Rattle.std.proofs.lemmas.Nat.{div-add-mod', div-mul-add}
use Rattle.std.proofs.lemmas.List.FromFn.{get_or-map-range_with_len}
use borrow.Rule.Slice.PartMut.{put_mid}
use Rattle.djvu_base.specs.Picture.{Picture}
use Rattle.djvu_base.specs.declared.turns.Turn.TheVariants.{Upright}
use Rattle.bit_plane.specs.Pixels.{Pixels, is_black_at}
use Rattle.layer_compose.specs.declared.layers.Layers.{Layers}
use Rattle.layer_compose.specs.Drawing.{MaskFits, in_mask, reduction_in, layer_sample, front_sample, back_sample, sample_at, coded_sample, turned, turned_size, picture_sample, samples_by, row_of, rows_of}
use Rattle.layer_compose.specs.Laying.{Lays, below}
use Rattle.layer_compose.proofs.Reducing.{sizes_of, reduction_some}
use Rattle.layer_compose.proofs.RowLists.{samples_same, samples_joined, samples_put, one_row}
use Rattle.layer_compose.proofs.Laying.{both_layers, row_whole}

first_true : (a b : Bool) → (a && b) ≡ true → a ≡ true
first_true true b is = refl
first_true false b is = is

both_first : (a b c : Bool) → ((a && b) && c) ≡ true → a ≡ true
both_first a b c is = first_true a b (first_true (a && b) c is)

-- a pixel that a mask has is one of its row
inside : (mask : Pixels) (y width p : ℕ) → mask.width ≡ width → is_black_at mask p y ≡ true → below width p ≡ true
inside mask y width p is black =
    let P : ℕ → Type 0 = λ w. below w p ≡ true in
    subst P is (both_first (below mask.width p) (below mask.height y) _ black)

-- ---- the background of a row

-- a row has the samples that it is made of
laid : (width : ℕ) (sample : ℕ → ℕ → ℕ) (out : List ℕ) → out ≡ samples_by width 1 (λ x row channel. sample x channel) → Lays (below width) sample out out
laid width sample out is = λ k.
    elim (cases_lt (k / 3) width) [
      | inl within ↦
          ap (λ xs. get_or xs k 0) is
          ∙ get_or-map-range_with_len (λ n. sample (n / 3 % width) (n % 3)) 0 (3 * width * 1) k k 0 (omega arith) (omega arith)
          ∙ ap (λ x. sample x (k % 3)) (mod-eq_of_lt within)
          ∙ sym (ap (λ b. cond b (sample (k / 3) (k % 3)) (get_or out k 0)) (lt-ltb (k / 3) width within))
      | inr past ↦ sym (ap (λ b. cond b (sample (k / 3) (k % 3)) (get_or out k 0)) (le-ltb (k / 3) width past))
    ]

pub row_behind : (layers : Layers) (y back : ℕ) (old new : List ℕ) → back ≡ reduction_in layers layers.back →
    Lays (below layers.width) (λ x channel. layer_sample layers.back 255 back x y channel) old new → length new ≡ 3 * layers.width →
    new ≡ samples_by layers.width 1 (λ x row channel. back_sample layers x y channel)
row_behind layers y back old new behind lays size =
    row_whole layers.width (λ x channel. layer_sample layers.back 255 back x y channel) old new lays size
    ∙ ap (λ k. samples_by layers.width 1 (λ x row channel. layer_sample layers.back 255 k x y channel)) behind

-- rows down to one that a reduction divides have the same row of a layer
same_quotient : (y k row : ℕ) → 0 < k → row ≤ y % k → (y - row) / k ≡ y / k
same_quotient y k row some within =
    let whole = div-add-mod' y k in
    let rest : y % k - row < k = omega (arith, some) in
    let at : y - row ≡ y / k * k + (y % k - row) = omega arith in
    ap (λ n. n / k) at ∙ div-mul-add (y / k) k (y % k - row) rest

by_quotient : (layer : Option Picture) (plain k x y z channel : ℕ) → y / k ≡ z / k → layer_sample layer plain k x y channel ≡ layer_sample layer plain k x z channel
by_quotient None plain k x y z channel same = refl
by_quotient (Some picture) plain k x y z channel same = ap (λ row. picture_sample picture (x / k) row channel) same

-- so the background of the lowest of them is that of each
pub behind_alike : (layers : Layers) (y k last row : ℕ) (out : List ℕ) → k ≡ reduction_in layers layers.back → last ≤ y % k → row ≤ last →
    out ≡ samples_by layers.width 1 (λ x r channel. back_sample layers x (y - last) channel) →
    out ≡ samples_by layers.width 1 (λ x r channel. back_sample layers x (y - row) channel)
behind_alike layers y k last row out behind most within is =
    let P : ℕ → Type 0 = λ n. last ≤ y % n in
    let by : ℕ = reduction_in layers layers.back in
    let some : 0 < by = reduction_some layers layers.back in
    let all : last ≤ y % by = subst P behind most in
    let same : (y - last) / by ≡ (y - row) / by = same_quotient y by last some all ∙ sym (same_quotient y by row some (omega arith)) in
    is
    ∙ samples_same layers.width 1 (λ x r channel. back_sample layers x (y - last) channel) (λ x r channel. back_sample layers x (y - row) channel)
    (λ x r channel column one. by_quotient layers.back 255 by x (y - last) (y - row) channel same)

-- ---- what stands in front of it

-- a whole row, with the samples that its pixels have
whole : (layers : Layers) (y : ℕ) (sample : ℕ → ℕ → ℕ) (old new : List ℕ) → Lays (below layers.width) sample old new → length new ≡ 3 * layers.width →
    ((x channel : ℕ) → sample x channel ≡ sample_at layers x y channel) → new ≡ samples_by layers.width 1 (λ x row channel. sample_at layers x y channel)
whole layers y sample old new lays size same =
    row_whole layers.width sample old new lays size
    ∙ samples_same layers.width 1 (λ x row channel. sample x channel) (λ x row channel. sample_at layers x y channel) (λ x row channel column within. same x channel)

pub row_masked : (layers : Layers) (mask : Pixels) (y front : ℕ) (old new : List ℕ) → layers.mask ≡ Some mask → MaskFits layers →
    front ≡ reduction_in layers layers.front → old ≡ samples_by layers.width 1 (λ x row channel. back_sample layers x y channel) →
    Lays (λ x. is_black_at mask x y) (λ x channel. layer_sample layers.front 0 front x y channel) old new → length new ≡ 3 * layers.width →
    new ≡ samples_by layers.width 1 (λ x row channel. sample_at layers x y channel)
row_masked layers mask y front old new is fits in_front before after size =
    whole layers y (λ x channel. cond (is_black_at mask x y) (layer_sample layers.front 0 front x y channel) (back_sample layers x y channel)) old new
    (both_layers (λ x. is_black_at mask x y) (λ x channel. layer_sample layers.front 0 front x y channel) (λ x channel. back_sample layers x y channel)
    layers.width old old new (λ p black. inside mask y layers.width p (sizes_of layers mask is fits).0 black)
    (laid layers.width (λ x channel. back_sample layers x y channel) old before) after)
    size
    (λ x channel.
    ap (λ k. cond (is_black_at mask x y) (layer_sample layers.front 0 k x y channel) (back_sample layers x y channel)) in_front
    ∙ ap (λ m. cond (in_mask m x y) (front_sample layers x y channel) (back_sample layers x y channel)) (sym is))

pub row_unmasked : (layers : Layers) (y : ℕ) (out : List ℕ) → layers.mask ≡ None → out ≡ samples_by layers.width 1 (λ x row channel. back_sample layers x y channel) →
    out ≡ samples_by layers.width 1 (λ x row channel. sample_at layers x y channel)
row_unmasked layers y out is before =
    before
    ∙ samples_same layers.width 1 (λ x row channel. back_sample layers x y channel) (λ x row channel. sample_at layers x y channel)
    (λ x row channel column one. ap (λ m. cond (in_mask m x y) (front_sample layers x y channel) (back_sample layers x y channel)) (sym is))

-- ---- rows from one downwards

-- one more of them
pub row_below : (layers : Layers) (y row at size : ℕ) (out part : List ℕ) → at ≡ 3 * layers.width * row →
    take (3 * layers.width * row) out ≡ samples_by layers.width row (λ x r channel. sample_at layers x (y - r) channel) →
    part ≡ samples_by layers.width 1 (λ x r channel. sample_at layers x (y - row) channel) → 3 * layers.width * row ≤ length out →
    take (3 * layers.width * (row + 1)) (put_mid at size out part) ≡ samples_by layers.width (row + 1) (λ x r channel. sample_at layers x (y - r) channel)
row_below layers y row at size out part start before is room =
    samples_put layers.width row 1 at size (λ x r channel. sample_at layers x (y - r) channel) out part start before
    (is
    ∙ samples_same layers.width 1 (λ x r channel. sample_at layers x (y - row) channel) (λ x r channel. sample_at layers x (y - (row + r)) channel)
    (λ x r channel column one. ap (λ k. sample_at layers x k channel) {x = y - row} {y = y - (row + r)} (omega arith)))
    room

-- the lowest of them
pub lowest_row : (layers : Layers) (y last count : ℕ) (above lowest : List ℕ) → count ≡ last + 1 →
    above ≡ samples_by layers.width last (λ x r channel. sample_at layers x (y - r) channel) →
    lowest ≡ samples_by layers.width 1 (λ x r channel. sample_at layers x (y - last) channel) →
    above ++ lowest ≡ samples_by layers.width count (λ x r channel. sample_at layers x (y - r) channel)
lowest_row layers y last count above lowest all before is =
    let sample : ℕ → ℕ → ℕ → ℕ = λ x r channel. sample_at layers x (y - r) channel in
    ap (λ (xs : List ℕ). xs ++ lowest) before
    ∙ ap (λ (xs : List ℕ). samples_by layers.width last sample ++ xs)
    (is
    ∙ samples_same layers.width 1 (λ x r channel. sample_at layers x (y - last) channel) (λ x r channel. sample x (last + r) channel)
    (λ x r channel column one. ap (λ k. sample_at layers x k channel) {x = y - last} {y = y - (last + r)} (omega arith)))
    ∙ sym (samples_joined layers.width last 1 sample)
    ∙ ap (λ n. samples_by layers.width n sample) (sym all)

-- ---- rows of an upright page, from the top

-- some more of them
pub rows_put : (layers : Layers) (from done more y at size : ℕ) (out part : List ℕ) → y ≡ layers.height - 1 - (from + done) → at ≡ 3 * layers.width * done →
    take (3 * layers.width * done) out ≡ samples_by layers.width done (λ x row channel. coded_sample layers x (from + row) channel) →
    part ≡ samples_by layers.width more (λ x r channel. sample_at layers x (y - r) channel) → 3 * layers.width * done ≤ length out →
    take (3 * layers.width * (done + more)) (put_mid at size out part) ≡ samples_by layers.width (done + more) (λ x row channel. coded_sample layers x (from + row) channel)
rows_put layers from done more y at size out part top start before is room =
    samples_put layers.width done more at size (λ x row channel. coded_sample layers x (from + row) channel) out part start before
    (is
    ∙ samples_same layers.width more (λ x r channel. sample_at layers x (y - r) channel) (λ x r channel. coded_sample layers x (from + (done + r)) channel)
    (λ x r channel column one. ap (λ k. sample_at layers x k channel) {x = y - r} {y = layers.height - 1 - (from + (done + r))} (omega arith)))
    room

pub upright_rows : (layers : Layers) (from count : ℕ) (out : List ℕ) → layers.turn ≡ Upright →
    out ≡ samples_by layers.width count (λ x row channel. coded_sample layers x (from + row) channel) → out ≡ rows_of layers from count
unfolding rows_of
upright_rows layers from count out is same =
    same
    ∙ ap (λ t. samples_by (turned_size t layers.width layers.height).0 count (λ x row channel. turned t layers.width layers.height (coded_sample layers) x (from + row) channel)) (sym is)

pub upright_row : (layers : Layers) (y : ℕ) (out : List ℕ) → layers.turn ≡ Upright →
    out ≡ samples_by layers.width 1 (λ x row channel. coded_sample layers x (y + row) channel) → out ≡ row_of layers y
upright_row layers y out is same = upright_rows layers y 1 out is same ∙ one_row layers y
