-- Pixels that are laid over others, one after the other, and what rows of them are.
use Rattle.std.proofs.Common.{◌≡◌, ℕ, zero, suc, ◌+◌, ◌-◌, ◌*◌, ◌/◌, ◌%◌, ◌<◌, ◌≤◌, min, inl, inr, Bool, true, false, cond, ◌||◌, eqb, ltb, List, length, replicate, get_or, arith, tests, refl, ap, sym, subst, ◌∙◌}
use Rattle.std.proofs.lemmas.Bool.{cases_order, cases_lt, lt-ltb, le-ltb}
use Rattle.std.proofs.Math.Nat.{mod-eq_of_lt}
use Rattle.std.proofs.lemmas.List.{length-replicate, get_or-replicate, get_or_past}
use Rattle.std.proofs.lemmas.List.FromFn.{fill_by_all}
use Rattle.std.proofs.lemmas.Nat.{div-mul-add}
use Rattle.layer_compose.specs.declared.colours.Colour.{Colour}
use Rattle.layer_compose.specs.Drawing.{samples_by}
use Rattle.layer_compose.specs.Laying.{IsColour, Lays, channel_of, below, in_span}

-- a colour's channels are the samples that it has
pub channel_is : (colour : Colour) (sample : ℕ → ℕ) (channel : ℕ) → IsColour colour sample → channel < 3 → channel_of colour channel ≡ sample channel
channel_is colour sample zero is below = is.red
channel_is colour sample (suc zero) is below = is.green
channel_is colour sample (suc (suc zero)) is below = is.blue
channel_is colour sample (suc (suc (suc channel))) is below = omega (arith, below)

-- a test that takes nothing changes nothing
pub lays_none : (test : ℕ → Bool) (sample : ℕ → ℕ → ℕ) (out : List ℕ) → ((p : ℕ) → test p ≡ false) → Lays test sample out out
lays_none test sample out none = λ k. ap (λ b. cond b (sample (k / 3) (k % 3)) (get_or out k 0)) (sym (none (k / 3)))

-- the same for a test with the same answers
pub lays_same : (test other : ℕ → Bool) (sample : ℕ → ℕ → ℕ) (old new : List ℕ) → Lays test sample old new → ((p : ℕ) → test p ≡ other p) → Lays other sample old new
lays_same test other sample old new lays same = λ k. lays k ∙ ap (λ b. cond b (sample (k / 3) (k % 3)) (get_or old k 0)) (same (k / 3))

twice : (first second : Bool) (x y : ℕ) → cond second y (cond first y x) ≡ cond (first || second) y x
twice true true x y = refl
twice true false x y = refl
twice false true x y = refl
twice false false x y = refl

-- one test after the other
pub lays_both : (first second both : ℕ → Bool) (sample : ℕ → ℕ → ℕ) (old middle new : List ℕ) → Lays first sample old middle → Lays second sample middle new →
    ((p : ℕ) → both p ≡ (first p || second p)) → Lays both sample old new
lays_both first second both sample old middle new before after is = λ k.
    after k
    ∙ ap (cond (second (k / 3)) (sample (k / 3) (k % 3))) (before k)
    ∙ twice (first (k / 3)) (second (k / 3)) (get_or old k 0) (sample (k / 3) (k % 3))
    ∙ ap (λ b. cond b (sample (k / 3) (k % 3)) (get_or old k 0)) (sym (is (k / 3)))

at_place : (b : Bool) (x y z : ℕ) → (b ≡ true → x ≡ y) → cond b x z ≡ cond b y z
at_place true x y z same = same refl
at_place false x y z same = refl

eqb-is : (p at : ℕ) → eqb p at ≡ true → p ≡ at
eqb-is p at is = grind (arith, tests, is)

-- a colour that is laid over pixels is the sample that each of them has there
pub lays_colour : (colour : Colour) (test : ℕ → Bool) (sample : ℕ → ℕ → ℕ) (old new : List ℕ) → ((p : ℕ) → test p ≡ true → IsColour colour (sample p)) →
    Lays test (λ p channel. channel_of colour channel) old new → Lays test sample old new
lays_colour colour test sample old new is lays = λ k.
    lays k
    ∙ at_place (test (k / 3)) (channel_of colour (k % 3)) (sample (k / 3) (k % 3)) (get_or old k 0)
    (λ here. channel_is colour (sample (k / 3)) (k % 3) (is (k / 3) here) (omega arith))

-- the same for one pixel
pub lays_pixel : (colour : Colour) (sample : ℕ → ℕ → ℕ) (at : ℕ) (old new : List ℕ) → IsColour colour (sample at) →
    Lays (λ p. eqb p at) (λ p channel. channel_of colour channel) old new → Lays (λ p. eqb p at) sample old new
lays_pixel colour sample at old new is lays =
    let P : ℕ → Type 0 = λ p. IsColour colour (sample p) in
    lays_colour colour (λ p. eqb p at) sample old new (λ p here. subst P (sym (eqb-is p at here)) is) lays

-- ---- rows, pixel by pixel

below_none : (p : ℕ) → below 0 p ≡ false
below_none p = grind (arith, tests)

pub row_begun : (sample : ℕ → ℕ → ℕ) (out : List ℕ) → Lays (below 0) sample out out
row_begun sample out = lays_none (below 0) sample out below_none

below_next : (x p : ℕ) → below (x + 1) p ≡ (below x p || eqb p x)
below_next x p =
    elim (cases_order p x) [
      | inl here ↦ grind (arith, tests)
      | inr (inl before) ↦ grind (arith, tests)
      | inr (inr behind) ↦ grind (arith, tests)
    ]

pub row_next : (colour : Colour) (sample : ℕ → ℕ → ℕ) (x : ℕ) (old middle new : List ℕ) → IsColour colour (sample x) → Lays (below x) sample old middle →
    Lays (λ p. eqb p x) (λ p channel. channel_of colour channel) middle new → Lays (below (x + 1)) sample old new
row_next colour sample x old middle new is before after =
    lays_both (below x) (λ p. eqb p x) (below (x + 1)) sample old middle new before (lays_pixel colour sample x middle new is after) (below_next x)

-- once all pixels are there, the row is the list of their samples
pub row_whole : (columns : ℕ) (sample : ℕ → ℕ → ℕ) (old new : List ℕ) → Lays (below columns) sample old new → length new ≡ 3 * columns →
    new ≡ samples_by columns 1 (λ x row channel. sample x channel)
row_whole columns sample old new lays size =
    let one : 3 * columns * 1 ≡ 3 * columns = omega arith in
    fill_by_all (λ k. sample (k / 3 % columns) (k % 3)) new (3 * columns * 1) 0 (size ∙ sym one)
    (λ k within.
    let column : k / 3 < columns = omega arith in
    let taken : ltb (k / 3) columns ≡ true = lt-ltb (k / 3) columns column in
    lays k
    ∙ ap (λ b. cond b (sample (k / 3) (k % 3)) (get_or old k 0)) taken
    ∙ ap (λ x. sample x (k % 3)) (sym (mod-eq_of_lt column)))

-- ---- spans of pixels

span_none : (from p : ℕ) → in_span from from p ≡ false
span_none from p = grind (arith, tests)

pub span_begun : (sample : ℕ → ℕ → ℕ) (from : ℕ) (out : List ℕ) → Lays (in_span from from) sample out out
span_begun sample from out = lays_none (in_span from from) sample out (span_none from)

span_next : (from at p : ℕ) → from ≤ at → in_span from (at + 1) p ≡ (in_span from at p || eqb p at)
span_next from at p le =
    elim (cases_order p at) [
      | inl here ↦ grind (arith, tests)
      | inr (inl before) ↦ grind (arith, tests)
      | inr (inr behind) ↦ grind (arith, tests)
    ]

pub span_more : (sample : ℕ → ℕ → ℕ) (from at : ℕ) (old middle new : List ℕ) → from ≤ at → Lays (in_span from at) sample old middle →
    Lays (λ p. eqb p at) sample middle new → Lays (in_span from (at + 1)) sample old new
span_more sample from at old middle new le before after =
    lays_both (in_span from at) (λ p. eqb p at) (in_span from (at + 1)) sample old middle new before after (λ p. span_next from at p le)

-- ---- a row that is widened

in_column : (by column p : ℕ) → column * by ≤ p → p < column * by + by → p / by ≡ column
in_column by column p from to =
    let at : column * by + (p - column * by) ≡ p = omega arith in
    ap (λ n. n / by) (sym at) ∙ div-mul-add column by (p - column * by) (omega arith)

in_span-is : (from to p : ℕ) → in_span from to p ≡ true → (from ≤ p) × (p < to)
in_span-is from to p is = (grind (arith, tests, is), grind (arith, tests, is))

below_more : (from to p : ℕ) → from ≤ to → below to p ≡ (below from p || in_span from to p)
below_more from to p le =
    elim (cases_lt p from) [
      | inl before ↦ grind (arith, tests)
      | inr behind ↦ grind (arith, tests)
    ]

-- one pixel of the layer more
pub widened_more : (colour : Colour) (sample : ℕ → ℕ → ℕ) (by width column from to : ℕ) (old middle new : List ℕ) → 0 < by → from ≡ min (column * by) width →
    to ≡ min (from + by) width → IsColour colour (sample column) →
    Lays (below from) (λ p. sample (p / by)) old middle → Lays (in_span from to) (λ p channel. channel_of colour channel) middle new →
    Lays (below to) (λ p. sample (p / by)) old new
widened_more colour sample by width column from to old middle new some start end is before after =
    let P : ℕ → Type 0 = λ n. IsColour colour (sample n) in
    lays_both (below from) (in_span from to) (below to) (λ p. sample (p / by)) old middle new before
    (lays_colour colour (in_span from to) (λ p. sample (p / by)) middle new
    (λ p here.
    let within = in_span-is from to p here in
    subst P (sym (in_column by column p (omega (arith, within.0, within.1)) (omega (arith, within.0, within.1)))) is)
    after)
    (λ p. below_more from to p (omega arith))

pub next_start : (by width column from to : ℕ) → from ≡ min (column * by) width → to ≡ min (from + by) width → to ≡ min ((column + 1) * by) width
next_start by width column from to start end =
    let next : (column + 1) * by ≡ column * by + by = grind arith in
    omega arith

-- a whole row of one shade
pub filled : (shade width : ℕ) (old new : List ℕ) → length old ≡ 3 * width → new ≡ replicate (length old) shade → Lays (below width) (λ p channel. shade) old new
filled shade width old new size is = λ k.
    let same : get_or new k 0 ≡ get_or (replicate (length old) shade) k 0 = ap (λ xs. get_or xs k 0) is in
    elim (cases_lt (k / 3) width) [
      | inl within ↦
          same ∙ get_or-replicate (length old) k shade 0 (omega arith) ∙ sym (ap (λ b. cond b shade (get_or old k 0)) (lt-ltb (k / 3) width within))
      | inr past ↦
          let long : length (replicate (length old) shade) ≡ length old = length-replicate (length old) shade in
          same
          ∙ get_or_past (replicate (length old) shade) k 0 (omega arith)
          ∙ sym (get_or_past old k 0 (omega arith))
          ∙ sym (ap (λ b. cond b shade (get_or old k 0)) (le-ltb (k / 3) width past))
    ]

-- ---- the layers of a row

under_or_over : (masked inside : Bool) (front back old : ℕ) → (masked ≡ true → inside ≡ true) → cond masked front (cond inside back old) ≡ cond inside (cond masked front back) old
under_or_over true true front back old within = refl
under_or_over true false front back old within = let no : false ≡ true = within refl in absurd (let f : true ≡ false = sym no in cc)
under_or_over false true front back old within = refl
under_or_over false false front back old within = refl

-- what a mask has, laid over a whole row
pub both_layers : (test : ℕ → Bool) (front back : ℕ → ℕ → ℕ) (width : ℕ) (old middle new : List ℕ) → ((p : ℕ) → test p ≡ true → below width p ≡ true) →
    Lays (below width) back old middle → Lays test front middle new → Lays (below width) (λ p channel. cond (test p) (front p channel) (back p channel)) old new
both_layers test front back width old middle new within before after = λ k.
    after k
    ∙ ap (cond (test (k / 3)) (front (k / 3) (k % 3))) (before k)
    ∙ under_or_over (test (k / 3)) (below width (k / 3)) (front (k / 3) (k % 3)) (back (k / 3) (k % 3)) (get_or old k 0) (within (k / 3))
