-- Turned pages: places that fall on one another, and where samples come from.
use Rattle.std.proofs.Common.{◌≡◌, ℕ, ◌+◌, ◌-◌, ◌*◌, ◌/◌, ◌<◌, ◌⊎◌, inl, inr, Bool, true, false, cond, Option, Some, None, length, get_or, arith, refl, ap, ◌∙◌}
use Rattle.std.proofs.lemmas.Bool.{cases_lt}
use Rattle.std.proofs.lemmas.List.{get_or_past}
use Rattle.djvu_base.specs.Picture.{Picture}
use Rattle.djvu_base.specs.declared.turns.Turn.{Turn}
use Rattle.djvu_base.specs.declared.turns.Turn.TheVariants.{Upright, Right, Over, Left}
use Rattle.layer_compose.specs.declared.layers.Layers.{Layers}
use Rattle.layer_compose.specs.Drawing.{in_mask, front_sample, back_sample, layer_sample, reduction_in, sample_at, coded_sample, turned, sample_from_top}
use Rattle.layer_compose.specs.Laying.{IsSampleOf}

pub four_times : (width height x y channel : ℕ) (sample : ℕ → ℕ → ℕ → ℕ) → x < width → y < height →
    turned Right height width (turned Right width height (turned Right height width (turned Right width height sample))) x y channel ≡ sample x y channel
four_times width height x y channel sample column row =
    ap (λ x. sample x (height - 1 - (height - 1 - y)) channel) {x = width - 1 - (width - 1 - x)} {y = x} (omega arith)
    ∙ ap (λ y. sample x y channel) {x = height - 1 - (height - 1 - y)} {y = y} (omega arith)

pub right_then_left : (width height x y channel : ℕ) (sample : ℕ → ℕ → ℕ → ℕ) → x < width → y < height →
    turned Left height width (turned Right width height sample) x y channel ≡ sample x y channel
right_then_left width height x y channel sample column row = ap (λ y. sample x y channel) {x = height - 1 - (height - 1 - y)} {y = y} (omega arith)

-- ---- where samples come from

abbrev Comes : Layers → ℕ → Type 0
Comes layers sample = (sample ≡ 0) ⊎ (sample ≡ 255) ⊎ IsSampleOf layers.front sample ⊎ IsSampleOf layers.back sample

from_picture : (picture : Picture) (n : ℕ) → (get_or picture.samples n 0 ≡ 0) ⊎ IsSampleOf (Some picture) (get_or picture.samples n 0)
from_picture picture n =
    elim (cases_lt n (length picture.samples)) [
      | inl within ↦ inr (n, within, refl)
      | inr past ↦ inl (get_or_past picture.samples n 0 past)
    ]

from_layer : (colour : Option Picture) (plain k x y channel : ℕ) →
    (layer_sample colour plain k x y channel ≡ plain) ⊎ (layer_sample colour plain k x y channel ≡ 0) ⊎ IsSampleOf colour (layer_sample colour plain k x y channel)
from_layer None plain k x y channel = inl refl
from_layer (Some picture) plain k x y channel =
    inr (from_picture picture (3 * ((picture.height - 1 - y / k) * picture.width + x / k) + channel))

comes_by : (layers : Layers) (x y channel : ℕ) (masked : Bool) → Comes layers (cond masked (front_sample layers x y channel) (back_sample layers x y channel))
comes_by layers x y channel true =
    elim (from_layer layers.front 0 (reduction_in layers layers.front) x y channel) [
      | inl plain ↦ inl plain
      | inr (inl none) ↦ inl none
      | inr (inr found) ↦ inr (inr (inl found))
    ]
comes_by layers x y channel false =
    elim (from_layer layers.back 255 (reduction_in layers layers.back) x y channel) [
      | inl plain ↦ inr (inl plain)
      | inr (inl none) ↦ inl none
      | inr (inr found) ↦ inr (inr (inr found))
    ]

pub comes_at : (layers : Layers) (x y channel : ℕ) → Comes layers (sample_at layers x y channel)
comes_at layers x y channel = comes_by layers x y channel (in_mask layers.mask x y)

comes_turned : (layers : Layers) (turn : Turn) (x y channel : ℕ) → Comes layers (turned turn layers.width layers.height (coded_sample layers) x y channel)
comes_turned layers Upright x y channel = comes_at layers x (layers.height - 1 - y) channel
comes_turned layers Right x y channel = comes_at layers y (layers.height - 1 - (layers.height - 1 - x)) channel
comes_turned layers Over x y channel = comes_at layers (layers.width - 1 - x) (layers.height - 1 - (layers.height - 1 - y)) channel
comes_turned layers Left x y channel = comes_at layers (layers.width - 1 - y) (layers.height - 1 - x) channel

pub comes_from_top : (layers : Layers) (x y channel : ℕ) → Comes layers (sample_from_top layers x y channel)
comes_from_top layers x y channel = comes_turned layers layers.turn x y channel
