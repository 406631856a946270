-- Pixels that are so many steps apart.
use Rattle.std.proofs.Common.{◌≡◌, ℕ, ◌+◌, ◌*◌, ◌/◌, ◌<◌, ◌≤◌, inl, inr, List, arith, ap, ◌∙◌}
use Rattle.std.specs.Int.{div_ceil}
use Rattle.std.proofs.lemmas.Bool.{cases_lt}
use Rattle.std.proofs.lemmas.Nat.{mul-le, div-add-mod'}
use Rattle.djvu_base.specs.Picture.{Picture}
use Rattle.layer_compose.specs.declared.layers.Layers.{Layers}
use Rattle.layer_compose.specs.Drawing.{step_of, samples_by, sample_from_top, drawing_width, drawing_height, preview_samples, preview_of}

-- what so many whole steps lead to is within, as long as they are fewer than there are
within_steps : (q n step : ℕ) → 0 < step → q < div_ceil n step → q * step < n
within_steps q n step some fewer =
    let all = div-add-mod' n step in
    elim (cases_lt q (n / step)) [
      | inl below ↦
          let enough : (q + 1) * step ≤ n / step * step = mul-le (q + 1) step (n / step) step (omega arith) (omega arith) in
          let next : (q + 1) * step ≡ q * step + step = grind arith in
          omega arith
      | inr last ↦
          let is : q ≡ n / step = omega arith in
          let same : q * step ≡ n / step * step = ap (λ k. k * step) is in
          omega arith
    ]

-- the same with numbers that are known by equations
pub steps_within : (n wide step count : ℕ) → 0 < step → wide ≡ n → count ≡ div_ceil wide step → (x : ℕ) → x < count → x * step < n
steps_within n wide step count some is fewer x below =
    let few : count ≡ div_ceil n step = fewer ∙ ap (λ k. div_ceil k step) is in
    within_steps x n step some (omega arith)

-- ---- what a preview is

pub preview_is : (layers : Layers) (width height step across down : ℕ) (samples : List ℕ) (result : Picture) → result ≡ record { width = across; height = down; samples = samples } →
    width ≡ drawing_width layers → height ≡ drawing_height layers → step ≡ step_of width height → across ≡ div_ceil width step → down ≡ div_ceil height step →
    samples ≡ samples_by across down (λ x y channel. sample_from_top layers (x * step) (y * step) channel) → result ≡ preview_of layers
unfolding preview_samples
preview_is layers width height step across down samples result is wide high least columns rows same =
    let sample : ℕ → ℕ → ℕ → ℕ → ℕ = λ s x y channel. sample_from_top layers (x * s) (y * s) channel in
    let picture : ℕ → ℕ → ℕ → Picture = λ s w h. record { width = w; height = h; samples = samples_by w h (sample s) } in
    is
    ∙ ap (λ xs. record { width = across; height = down; samples = xs }) same
    ∙ ap (λ w. picture step w down) columns
    ∙ ap (picture step (div_ceil width step)) rows
    ∙ ap (λ s. picture s (div_ceil width s) (div_ceil height s)) least
    ∙ ap (λ w. picture (step_of w height) (div_ceil w (step_of w height)) (div_ceil height (step_of w height))) wide
    ∙ ap (λ h. picture (step_of (drawing_width layers) h) (div_ceil (drawing_width layers) (step_of (drawing_width layers) h)) (div_ceil h (step_of (drawing_width layers) h))) high

-- ---- the least step

-- so many steps of this size cover it
covered : (n step : ℕ) → 1 ≤ step → div_ceil n step ≤ 128 → n ≤ 128 * step
covered n step some few =
    let all = div-add-mod' n step in
    elim (cases_lt (n / step) 128) [
      | inl below ↦
          let enough : (n / step + 1) * step ≤ 128 * step = mul-le (n / step + 1) step 128 step (omega arith) (omega arith) in
          let next : (n / step + 1) * step ≡ n / step * step + step = grind arith in
          omega arith
      | inr full ↦
          let is : n / step ≡ 128 = omega arith in
          let same : n / step * step ≡ 128 * step = ap (λ k. k * step) is in
          omega arith
    ]

pub least_step : (width height step : ℕ) → 1 ≤ step → div_ceil width step ≤ 128 → div_ceil height step ≤ 128 → step_of width height ≤ step
least_step width height step some wide high =
    let across = covered width step some wide in
    let down = covered height step some high in
    omega arith
