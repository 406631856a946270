-- Pixels of a mask that are laid over others, by the digits of words.
use Rattle.std.proofs.Common.{◌≡◌, ℕ, ◌+◌, ◌-◌, ◌/◌, ◌^◌, ◌<◌, ◌≤◌, inl, inr, Bool, true, false, cond, ◌&&◌, ◌||◌, eqb, ltb, w64, List, arith, tests, refl, ap, sym, ◌∙◌}
use Rattle.std.proofs.lemmas.Bool.{cases_order, cases_lt, le-ltb}
use Rattle.std.specs.Int.{trailing_zeros}
use Rattle.std.proofs.lemmas.Nat.{shr-shr}
use Rattle.bit_plane.specs.Bits.{digit}
use Rattle.bit_plane.specs.Pixels.{Pixels, is_black_at}
use Rattle.bit_plane.proofs.Lemmas.{digit-shr, digit_above, lowest, digit-zero}
use Rattle.layer_compose.specs.Laying.{Lays, in_run}
use Rattle.layer_compose.proofs.Laying.{lays_none, lays_same, lays_both}

-- ---- runs

pub run_none : (digits from p : ℕ) → in_run digits from 0 p ≡ false
run_none digits from p = grind (arith, tests)

-- the digits that are left, and where the lowest of them that is 1 stands
pub record Next (digits done count skipped : ℕ) : Type 0 where
  pub within : done + skipped < count
  pub set : digit digits (done + skipped) ≡ 1
  pub between : (i : ℕ) → done ≤ i → i < done + skipped → digit digits i ≡ 0

pub next_of : (digits done rest count : ℕ) → rest ≡ digits / 2 ^ done → (rest ≡ 0 → ⊥) → rest < 2 ^ 64 → digits < 2 ^ count → Next digits done count (trailing_zeros w64 rest)
next_of digits done rest count is some fits below =
    let skipped = trailing_zeros w64 rest in
    let low = lowest rest some fits in
    let set : digit digits (done + skipped) ≡ 1 = sym (digit-shr digits done skipped) ∙ ap (λ n. digit n skipped) (sym is) ∙ low.set in
    record {
      within = elim (cases_lt (done + skipped) count) [
        | inl before ↦ before
        | inr behind ↦ omega (arith, digit_above digits count (done + skipped) below behind)
      ];
      set = set;
      between = λ i from to.
          let at : done + (i - done) ≡ i = omega arith in
          ap (digit digits) (sym at) ∙ sym (digit-shr digits done (i - done)) ∙ ap (λ n. digit n (i - done)) (sym is) ∙ low.below (i - done) (omega arith);
    }

pub rest_next : (digits done rest skipped : ℕ) → rest ≡ digits / 2 ^ done → rest / 2 ^ skipped / 2 ^ 1 ≡ digits / 2 ^ (done + (skipped + 1))
rest_next digits done rest skipped is =
    ap (λ n. n / 2 ^ skipped / 2 ^ 1) is
    ∙ ap (λ n. n / 2 ^ 1) (shr-shr digits done skipped)
    ∙ shr-shr digits (done + skipped) 1
    ∙ ap (λ k. digits / 2 ^ k) {x = done + skipped + 1} {y = done + (skipped + 1)} (omega arith)

run_next : (digits from done count skipped p : ℕ) → Next digits done count skipped →
    in_run digits from (done + (skipped + 1)) p ≡ (in_run digits from done p || eqb p (from + done + skipped))
run_next digits from done count skipped p next =
    elim (cases_lt p (from + done)) [
      | inl before ↦ grind (arith, tests)
      | inr behind ↦
          elim (cases_order p (from + done + skipped)) [
            | inl here ↦
                let at : p - from ≡ done + skipped = omega arith in
                let set : digit digits (p - from) ≡ 1 = ap (digit digits) at ∙ next.set in
                grind (arith, tests)
            | inr (inl between) ↦
                let clear : digit digits (p - from) ≡ 0 = next.between (p - from) (omega arith) (omega arith) in
                grind (arith, tests)
            | inr (inr past) ↦ grind (arith, tests)
          ]
    ]

pub run_goes_on : (digits from done count skipped : ℕ) (sample : ℕ → ℕ → ℕ) (old middle new : List ℕ) → Next digits done count skipped →
    Lays (in_run digits from done) sample old middle → Lays (λ p. eqb p (from + done + skipped)) sample middle new → Lays (in_run digits from (done + (skipped + 1))) sample old new
run_goes_on digits from done count skipped sample old middle new next before after =
    lays_both (in_run digits from done) (λ p. eqb p (from + done + skipped)) (in_run digits from (done + (skipped + 1))) sample old middle new before after
    (λ p. run_next digits from done count skipped p next)

-- with no digit left that is 1, the rest of the run is as it was
run_end : (digits from done count p : ℕ) → digits / 2 ^ done ≡ 0 → digits < 2 ^ count → in_run digits from done p ≡ in_run digits from count p
run_end digits from done count p none below =
    elim (cases_lt p from) [
      | inl before ↦ grind (arith, tests)
      | inr behind ↦
          let i : ℕ = p - from in
          elim (cases_lt i done) [
            | inl early ↦
                elim (cases_lt i count) [
                  | inl within ↦ grind (arith, tests)
                  | inr past ↦
                      let clear : digit digits (p - from) ≡ 0 = digit_above digits count i below past in
                      grind (arith, tests)
                ]
            | inr late ↦
                let at : done + (i - done) ≡ i = omega arith in
                let clear : digit digits (p - from) ≡ 0 =
                ap (digit digits) (sym at) ∙ sym (digit-shr digits done (i - done)) ∙ ap (λ n. digit n (i - done)) none ∙ digit-zero (i - done) in
                grind (arith, tests)
          ]
    ]

pub run_ends : (digits from done count : ℕ) (sample : ℕ → ℕ → ℕ) (old new : List ℕ) → digits / 2 ^ done ≡ 0 → digits < 2 ^ count →
    Lays (in_run digits from done) sample old new → Lays (in_run digits from count) sample old new
run_ends digits from done count sample old new none below lays =
    lays_same (in_run digits from done) (in_run digits from count) sample old new lays (λ p. run_end digits from done count p none below)

-- ---- rows of a mask, a word at a time

-- the first pixels that a test takes
abbrev pub first : ℕ → (ℕ → Bool) → ℕ → Bool
first x test p = ltb p x && test p

none_first : (test : ℕ → Bool) (p : ℕ) → first 0 test p ≡ false
none_first test p = grind (arith, tests)

pub first_none : (test : ℕ → Bool) (sample : ℕ → ℕ → ℕ) (out : List ℕ) → Lays (first 0 test) sample out out
first_none test sample out = lays_none (first 0 test) sample out (none_first test)

as_test : (b : Bool) → eqb (cond b 1 0) 1 ≡ b
as_test true = refl
as_test false = refl

or_false : (b : Bool) → b ≡ (b || false)
or_false true = refl
or_false false = refl

-- the pixels of one word more
more : (test : ℕ → Bool) (d x count p : ℕ) → ((i : ℕ) → i < count → digit d i ≡ cond (test (x + i)) 1 0) →
    first (x + count) test p ≡ (first x test p || in_run d x count p)
more test d x count p told =
    elim (cases_lt p x) [
      | inl before ↦ grind (arith, tests)
      | inr from ↦
          elim (cases_lt p (x + count)) [
            | inl within ↦
                let at : x + (p - x) ≡ p = omega arith in
                let is : eqb (digit d (p - x)) 1 ≡ test p = ap (λ n. eqb n 1) (told (p - x) (omega arith) ∙ ap (λ n. cond (test n) 1 0) at) ∙ as_test (test p) in
                grind (arith, tests)
            | inr behind ↦ grind (arith, tests)
          ]
    ]

pub first_more : (test : ℕ → Bool) (d x count : ℕ) (sample : ℕ → ℕ → ℕ) (old middle new : List ℕ) → ((i : ℕ) → i < count → digit d i ≡ cond (test (x + i)) 1 0) →
    Lays (first x test) sample old middle → Lays (in_run d x count) sample middle new → Lays (first (x + count) test) sample old new
first_more test d x count sample old middle new told before after =
    lays_both (first x test) (in_run d x count) (first (x + count) test) sample old middle new before after (λ p. more test d x count p told)

whole_row : (mask : Pixels) (x y p : ℕ) → mask.width ≤ x → first x (λ p. is_black_at mask p y) p ≡ is_black_at mask p y
whole_row mask x y p all =
    elim (cases_lt p x) [
      | inl within ↦ grind (arith, tests)
      | inr behind ↦
          let outside : ltb p mask.width ≡ false = le-ltb p mask.width (omega arith) in
          let none : ltb p x ≡ false = le-ltb p x behind in
          grind (arith, tests)
    ]

pub first_all : (mask : Pixels) (x y : ℕ) (sample : ℕ → ℕ → ℕ) (old new : List ℕ) → mask.width ≤ x → Lays (first x (λ p. is_black_at mask p y)) sample old new →
    Lays (λ p. is_black_at mask p y) sample old new
first_all mask x y sample old new all lays =
    lays_same (first x (λ p. is_black_at mask p y)) (λ p. is_black_at mask p y) sample old new lays (λ p. whole_row mask x y p all)
