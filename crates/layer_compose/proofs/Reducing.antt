-- Reductions: the least number that fits, and which pixel of a layer a place has.
use Rattle.std.proofs.Common.{◌≡◌, ℕ, zero, suc, ◌+◌, ◌-◌, ◌*◌, ◌/◌, ◌%◌, ◌<◌, ◌≤◌, inl, inr, Bool, true, false, ◌&&◌, eqb, cond, Option, Some, None, arith, tests, refl, ap, sym, subst, ◌∙◌}
use Rattle.std.specs.Int.{div_ceil}
use Rattle.std.specs.Option.{IfSome, IsSome, unwrap_or}
use Rattle.std.proofs.lemmas.Bool.{cases_lt}
use Rattle.std.proofs.lemmas.Nat.{mul-le, div-add-mod'}
use Rattle.std.proofs.lemmas.Grind.{div_ceil_times}
use Rattle.djvu_base.specs.Picture.{Picture}
use Rattle.bit_plane.specs.Pixels.{Pixels}
use Rattle.layer_compose.specs.declared.layers.Layers.{Layers}
use Rattle.layer_compose.specs.Reduction.{is_reduced, first_from, reduction_of}
use Rattle.layer_compose.specs.Drawing.{ColourFits, MaskFits, reduction_in}
use Rattle.layer_compose.specs.Laying.{Covers}

-- what the first of so many numbers that passes is
pub record IsFirst (test : ℕ → Bool) (from count k : ℕ) : Type 0 where
  pub passes : test k ≡ true
  pub some : from ≤ k
  pub within : k < from + count
  pub least : (other : ℕ) → from ≤ other → test other ≡ true → k ≤ other

some_same : (a b : ℕ) → Some a ≡ Some b → a ≡ b
some_same a b is = cc

none_some : (k : ℕ) → None ≡ Some k → ⊥
none_some k is = cc

first_by : (test : ℕ → Bool) (from count k : ℕ) (here : Bool) → test from ≡ here → (first_from test (suc from) count ≡ Some k → IsFirst test (suc from) count k) →
    cond here (Some from) (first_from test (suc from) count) ≡ Some k → IsFirst test from (suc count) k
first_by test from count k true here later is =
    let at : from ≡ k = some_same from k is in
    record {
      passes = ap test (sym at) ∙ here;
      some = omega arith;
      within = omega arith;
      least = λ other le passes. omega arith;
    }
first_by test from count k false here later is =
    let rest = later is in
    record {
      passes = rest.passes;
      some = omega (arith, rest.some);
      within = omega (arith, rest.within);
      least = λ other le passes.
          elim (cases_lt from other) [
            | inl after ↦ rest.least other (omega arith) passes
            | inr same ↦
                let at : from ≡ other = omega arith in
                let both : true ≡ false = sym passes ∙ ap test (sym at) ∙ here in
                cc
          ];
    }

pub first_is : (test : ℕ → Bool) (from count k : ℕ) → first_from test from count ≡ Some k → IsFirst test from count k
first_is test from zero k is = absurd (none_some k is)
first_is test from (suc count) k is = first_by test from count k (test from) refl (first_is test (suc from) count k) is

none_by : (test : ℕ → Bool) (from count : ℕ) (here : Bool) → test from ≡ here →
    (first_from test (suc from) count ≡ None → (k : ℕ) → suc from ≤ k → k < suc from + count → test k ≡ true → ⊥) →
    cond here (Some from) (first_from test (suc from) count) ≡ None → (k : ℕ) → from ≤ k → k < from + suc count → test k ≡ true → ⊥
none_by test from count true here later is k le within passes = none_some from (sym is)
none_by test from count false here later is k le within passes =
    elim (cases_lt from k) [
      | inl after ↦ later is k (omega arith) (omega arith) passes
      | inr same ↦
          let at : from ≡ k = omega arith in
          let both : true ≡ false = sym passes ∙ ap test (sym at) ∙ here in
          cc
    ]

pub first_none : (test : ℕ → Bool) (from count : ℕ) → first_from test from count ≡ None → (k : ℕ) → from ≤ k → k < from + count → test k ≡ true → ⊥
first_none test from zero is k le within passes = omega arith
first_none test from (suc count) is k le within passes =
    none_by test from count (test from) refl (first_none test (suc from) count) is k le within passes

pub reduction_is : (page layer : ℕ × ℕ) (k : ℕ) → reduction_of page layer ≡ Some k → IsFirst (is_reduced page layer) 1 12 k
reduction_is page layer k is = first_is (is_reduced page layer) 1 12 k is

-- ---- going through the numbers from 1 to 12: what is left of them after some that don't pass

next_left : (by : ℕ) → by < 13 → 13 - by ≡ suc (12 - by)
next_left by below = omega arith

pub found_here : (test : ℕ → Bool) (by : ℕ) (all : Option ℕ) → by < 13 → all ≡ first_from test by (13 - by) → test by ≡ true → all ≡ Some by
found_here test by all below is passes =
    is ∙ ap (first_from test by) (next_left by below) ∙ ap (λ b. cond b (Some by) (first_from test (suc by) (12 - by))) passes

pub not_here : (test : ℕ → Bool) (by : ℕ) (all : Option ℕ) → by < 13 → all ≡ first_from test by (13 - by) → test by ≡ false → all ≡ first_from test (by + 1) (13 - (by + 1))
not_here test by all below is fails =
    is ∙ ap (first_from test by) (next_left by below) ∙ ap (λ b. cond b (Some by) (first_from test (suc by) (12 - by))) fails
    ∙ ap (λ n. first_from test n (12 - by)) {x = suc by} {y = by + 1} (omega arith)
    ∙ ap (first_from test (by + 1)) {x = 12 - by} {y = 13 - (by + 1)} (omega arith)

pub none_left : (test : ℕ → Bool) (by : ℕ) (all : Option ℕ) → 13 ≤ by → all ≡ first_from test by (13 - by) → all ≡ None
none_left test by all past is = is ∙ ap (first_from test by) {x = 13 - by} {y = 0} (omega arith)

-- ---- sizes of a mask

pub sizes_of : (layers : Layers) (plane : Pixels) → layers.mask ≡ Some plane → MaskFits layers → (plane.width ≡ layers.width) × (plane.height ≡ layers.height)
sizes_of layers plane is fits =
    let P : Option Pixels → Type 0 = λ mask. IfSome mask (λ plane. (plane.width ≡ layers.width) × (plane.height ≡ layers.height)) in
    subst P is fits

-- ---- places of a layer

-- a place of the page, divided, is below the page's size, divided and rounded up
within_layer : (x n k : ℕ) → 0 < k → x < n → x / k < div_ceil n k
within_layer x n k some below =
    let whole = div-add-mod' n k in
    let part = div-add-mod' x k in
    elim (cases_lt (x / k) (n / k)) [
      | inl before ↦ omega arith
      | inr last ↦
          let enough : n / k * k ≤ x / k * k = mul-le (n / k) k (x / k) k last (omega arith) in
          elim (cases_lt (n / k) (x / k)) [
            | inl past ↦
                let more : (n / k + 1) * k ≤ x / k * k = mul-le (n / k + 1) k (x / k) k (omega arith) (omega arith) in
                let next : (n / k + 1) * k ≡ n / k * k + k = grind arith in
                let rest : n % k < k = omega (arith, some) in
                omega arith
            | inr same ↦
                let is : x / k ≡ n / k = omega arith in
                let times : x / k * k ≡ n / k * k = ap (λ q. q * k) is in
                omega arith
          ]
    ]

both_true : (a b : Bool) → (a && b) ≡ true → (a ≡ true) × (b ≡ true)
both_true true b is = (refl, is)
both_true false b is = let no : false ≡ true = is in absurd (let f : true ≡ false = sym no in cc)

equal_is : (a b : ℕ) → eqb a b ≡ true → a ≡ b
equal_is a b is = grind (arith, tests, is)

unwrapped : (k : Option ℕ) → IsSome k → k ≡ Some (unwrap_or k 1)
unwrapped (Some k) is = refl
unwrapped None is = let f : false ≡ true = is in absurd (let g : true ≡ false = sym f in cc)

-- a layer that has a reduction has the page's sizes, divided by it and rounded up
divided : (page : ℕ × ℕ) (picture : Picture) (k : ℕ) → reduction_of page (picture.width, picture.height) ≡ Some k →
    (0 < k) × (div_ceil page.0 k ≡ picture.width) × (div_ceil page.1 k ≡ picture.height)
divided page picture k is =
    let first = reduction_is page (picture.width, picture.height) k is in
    let both = both_true (eqb (div_ceil page.0 k) picture.width) (eqb (div_ceil page.1 k) picture.height) first.passes in
    (omega (arith, first.some), equal_is (div_ceil page.0 k) picture.width both.0, equal_is (div_ceil page.1 k) picture.height both.1)

-- the reduction of a layer of a page that can be drawn
of_layers : (layers : Layers) (picture : Picture) → ColourFits layers (Some picture) →
    reduction_of (layers.width, layers.height) (picture.width, picture.height) ≡ Some (reduction_in layers (Some picture))
of_layers layers picture fits = unwrapped (reduction_of (layers.width, layers.height) (picture.width, picture.height)) fits

-- the pixel of a layer that a place has lies in it
pub covers : (layers : Layers) (colour : Option Picture) (x y : ℕ) → ColourFits layers colour → x < layers.width → y < layers.height →
    Covers colour (reduction_in layers colour) x y
covers layers None x y fits column row = tt
covers layers (Some picture) x y fits column row =
    let k : ℕ = reduction_in layers (Some picture) in
    let sizes = divided (layers.width, layers.height) picture k (of_layers layers picture fits) in (
      subst (λ n. x / k < n) sizes.1 (within_layer x layers.width k sizes.0 column),
      subst (λ n. y / k < n) sizes.2 (within_layer y layers.height k sizes.0 row),
    )

-- so does its row, for a row of the page
pub row_in_layer : (layers : Layers) (colour : Option Picture) (y : ℕ) → ColourFits layers colour → y < layers.height →
    IfSome colour (λ picture. y / reduction_in layers colour < picture.height)
row_in_layer layers None y fits row = tt
row_in_layer layers (Some picture) y fits row =
    let k : ℕ = reduction_in layers (Some picture) in
    let sizes = divided (layers.width, layers.height) picture k (of_layers layers picture fits) in
    subst (λ n. y / k < n) sizes.2 (within_layer y layers.height k sizes.0 row)

-- widened, a layer has all columns of the page
pub wide_enough : (layers : Layers) (colour : Option Picture) → ColourFits layers colour → IfSome colour (λ picture. layers.width ≤ picture.width * reduction_in layers colour)
wide_enough layers None fits = tt
wide_enough layers (Some picture) fits =
    let k : ℕ = reduction_in layers (Some picture) in
    let sizes = divided (layers.width, layers.height) picture k (of_layers layers picture fits) in
    let enough = div_ceil_times layers.width k sizes.0 in
    subst (λ n. layers.width ≤ n * k) sizes.1 enough.0

-- a reduction is at least 1
some_by : (k : Option ℕ) → ((n : ℕ) → k ≡ Some n → 1 ≤ n) → 0 < unwrap_or k 1
some_by None one = omega arith
some_by (Some k) one = omega (arith, one k refl)

pub reduction_some : (layers : Layers) (colour : Option Picture) → 0 < reduction_in layers colour
reduction_some layers None = omega arith
reduction_some layers (Some picture) =
    some_by (reduction_of (layers.width, layers.height) (picture.width, picture.height))
    (λ k is. (reduction_is (layers.width, layers.height) (picture.width, picture.height) k is).some)

-- a reduction is at most 12
most_by : (k : Option ℕ) → ((n : ℕ) → k ≡ Some n → n < 13) → unwrap_or k 1 ≤ 12
most_by None few = omega arith
most_by (Some k) few = omega (arith, few k refl)

pub reduction_most : (layers : Layers) (colour : Option Picture) → reduction_in layers colour ≤ 12
reduction_most layers None = omega arith
reduction_most layers (Some picture) =
    most_by (reduction_of (layers.width, layers.height) (picture.width, picture.height))
    (λ k is.
    let first = reduction_is (layers.width, layers.height) (picture.width, picture.height) k is in
    omega (arith, first.within))
