-- Sizes of one coefficient: what a start and a raise make of it.
use Rattle.std.proofs.Common.{◌≡◌, ℕ, zero, suc, ◌+◌, ◌-◌, ◌*◌, ◌/◌, ◌%◌, ◌^◌, ◌≤◌, Bool, true, false, List, [], ◌∷◌, ℤ, unsigned_abs, inl, inr, refl, ap, sym, ◌∙◌, subst, arith}
use Rattle.std.specs.Prelude.{slice_index_or, if◌then◌else◌, ◌⊎◌, ⊤}
use Rattle.std.proofs.lemmas.Bool.Decides.{nat_tests}
use Rattle.std.proofs.lemmas.Int.{ints}
use Rattle.std.proofs.lemmas.Nat.{shr-shr}
use Rattle.iw44_slices.specs.Bands.{band_of, low_thresholds, band_thresholds, first_threshold, threshold, is_in_use}
use Rattle.iw44_slices.specs.Slice.{start_size, signed, is_large, raised}
use Rattle.iw44_slices.specs.Sizes.{IsRaised, IsDue}

-- a first threshold that is halved again and again
pub data Halved : ℕ → Type 0 where
  small : (t : ℕ) → t ≤ 4096 → Halved t
  h13 : Halved 8192
  h14 : Halved 16384
  h15 : Halved 32768
  h16 : Halved 65536
  h17 : Halved 131072
  h18 : Halved 262144
  h19 : Halved 524288

half : (t : ℕ) → Halved t → Halved (t / 2)
half _ (small t low) = small (t / 2) (omega arith)
half _ h13 = small 4096 (omega arith)
half _ h14 = h13
half _ h15 = h14
half _ h16 = h15
half _ h17 = h16
half _ h18 = h17
half _ h19 = h18

times : (t k : ℕ) → Halved t → Halved (t / 2 ^ k)
times t zero h = subst Halved (let same : t ≡ t / 1 = omega arith in same) h
times t (suc k) h = subst Halved (shr-shr t k 1 ∙ ap (λ n. t / 2 ^ n) (let one : k + 1 ≡ suc k = omega arith in one)) (half (t / 2 ^ k) (times t k h))

abbrev AreHalved : List ℕ → Type 0
AreHalved [] = ⊤
AreHalved (x ∷ xs) = Halved x × AreHalved xs

nth : (xs : List ℕ) (i : ℕ) → AreHalved xs → Halved (slice_index_or xs i 0)
nth [] zero h = small 0 (omega arith)
nth [] (suc i) h = small 0 (omega arith)
nth (x ∷ xs) zero h = h.0
nth (x ∷ xs) (suc i) h = nth xs i h.1

first_halved : (band index : ℕ) → Halved (first_threshold band index)
first_halved zero index = nth low_thresholds index (h14, (h15, (h15, (h16, (h16, (h16, (h16, (h16, (h16, (h16, (h16, (h16, (h17, (h17, (h17, (h17, tt))))))))))))))))
first_halved (suc band) index = nth band_thresholds (suc band) (small 0 (omega arith), (h17, (h17, (h18, (h18, (h18, (h19, (h18, (h18, (h19, tt))))))))))

pub halved_at : (slice index : ℕ) → Halved (threshold slice index)
halved_at slice index = times (first_threshold (band_of slice) index) (slice / 10) (first_halved (band_of slice) index)

-- ten slices later the threshold is halved
pub next_threshold : (slice index : ℕ) → threshold (slice + 10) index ≡ threshold slice index / 2
next_threshold slice index =
    let same : (slice + 10) % 10 ≡ slice % 10 = omega arith in
    let more : (slice + 10) / 10 ≡ slice / 10 + 1 = omega arith in
    ap (λ band. first_threshold band index / 2 ^ ((slice + 10) / 10)) same ∙ ap (λ k. first_threshold (band_of slice) index / 2 ^ k) more
    ∙ sym (shr-shr (first_threshold (band_of slice) index) (slice / 10) 1)

-- tests
in_use_facts : (t : ℕ) → is_in_use t ≡ true → (1 ≤ t) × (t ≤ 0x7FFF)
in_use_facts t e = (grind (arith, nat_tests), grind (arith, nat_tests))

idle_facts : (t : ℕ) → is_in_use t ≡ false → (t ≡ 0) ⊎ (0x8000 ≤ t)
idle_facts zero e = inl refl
idle_facts (suc t) e = inr (grind (arith, nat_tests))

-- the size of a number that was made by sign and size
pub abs_signed : (negative : Bool) (size : ℕ) → unsigned_abs (signed negative size) ≡ size
abs_signed true size = omega (arith, ints)
abs_signed false size = refl

due : (t size : ℕ) (negative : Bool) → IsRaised t size → IsDue t (signed negative size)
due t size negative is = inr (subst (IsRaised t) (sym (abs_signed negative size)) is)

-- a coefficient that starts
start_raised : (t : ℕ) → Halved t → 1 ≤ t → t ≤ 0x7FFF → IsRaised (t / 2) (start_size t)
start_raised _ (small t low) some most = record { lower = omega arith; upper = omega arith; most = omega arith; once = λ high. omega arith }
start_raised _ h13 some most = record { lower = omega arith; upper = omega arith; most = omega arith; once = λ high. omega arith }
start_raised _ h14 some most = record { lower = omega arith; upper = omega arith; most = omega arith; once = λ high. omega arith }
start_raised _ h15 some most = absurd (omega arith)
start_raised _ h16 some most = absurd (omega arith)
start_raised _ h17 some most = absurd (omega arith)
start_raised _ h18 some most = absurd (omega arith)
start_raised _ h19 some most = absurd (omega arith)

pub start_due : (t : ℕ) (negative : Bool) → Halved t → is_in_use t ≡ true → IsDue (t / 2) (signed negative (start_size t))
start_due t negative h e = let facts = in_use_facts t e in due (t / 2) (start_size t) negative (start_raised t h facts.0 facts.1)

-- an active coefficient that is raised
abbrev moved_size : ℕ → ℕ → Bool → Bool → ℕ
moved_size t size large bit = (if large then size else size + t / 4) + t / 2 - (if bit then 0 else t)

low_raised : (t size : ℕ) (large bit : Bool) → t ≤ 4096 → 1 ≤ t → IsRaised t size → (large ≡ false → size ≤ 3 * t) → IsRaised (t / 2) (moved_size t size large bit)
low_raised t size true true low some is fits = let a = is.lower in let b = is.upper in let c = is.most in record { lower = omega arith; upper = omega arith; most = omega arith; once = λ high. omega arith }
low_raised t size true false low some is fits = let a = is.lower in let b = is.upper in let c = is.most in record { lower = omega arith; upper = omega arith; most = omega arith; once = λ high. omega arith }
low_raised t size false true low some is fits = let a = is.lower in let b = is.upper in let c = fits refl in record { lower = omega arith; upper = omega arith; most = omega arith; once = λ high. omega arith }
low_raised t size false false low some is fits = let a = is.lower in let b = is.upper in let c = fits refl in record { lower = omega arith; upper = omega arith; most = omega arith; once = λ high. omega arith }

first_raised : (size : ℕ) (large bit : Bool) → IsRaised 8192 size → IsRaised 4096 (moved_size 8192 size large bit)
first_raised size true true is = let a = is.lower in let b = is.once (omega arith) in record { lower = omega arith; upper = omega arith; most = omega arith; once = λ high. omega arith }
first_raised size true false is = let a = is.lower in let b = is.once (omega arith) in record { lower = omega arith; upper = omega arith; most = omega arith; once = λ high. omega arith }
first_raised size false true is = let a = is.lower in let b = is.once (omega arith) in record { lower = omega arith; upper = omega arith; most = omega arith; once = λ high. omega arith }
first_raised size false false is = let a = is.lower in let b = is.once (omega arith) in record { lower = omega arith; upper = omega arith; most = omega arith; once = λ high. omega arith }

raise_raised : (t size : ℕ) (large bit : Bool) → Halved t → 1 ≤ t → IsRaised t size → (large ≡ false → size ≤ 3 * t) → IsRaised (t / 2) (moved_size t size large bit)
raise_raised _ size large bit (small t low) some is fits = low_raised t size large bit low some is fits
raise_raised _ size large bit h13 some is fits = first_raised size large bit is
raise_raised _ size large bit h14 some is fits = let a = is.lower in let b = is.upper in absurd (omega arith)
raise_raised _ size large bit h15 some is fits = let a = is.lower in let b = is.upper in absurd (omega arith)
raise_raised _ size large bit h16 some is fits = let a = is.lower in let b = is.upper in absurd (omega arith)
raise_raised _ size large bit h17 some is fits = let a = is.lower in let b = is.upper in absurd (omega arith)
raise_raised _ size large bit h18 some is fits = let a = is.lower in let b = is.upper in absurd (omega arith)
raise_raised _ size large bit h19 some is fits = let a = is.lower in let b = is.upper in absurd (omega arith)

not_large : (t size : ℕ) → is_large t size ≡ false → size ≤ 3 * t
not_large t size e = grind (arith, nat_tests)

pub raise_due : (t size : ℕ) (negative bit : Bool) → Halved t → is_in_use t ≡ true → IsRaised t size → IsDue (t / 2) (signed negative (raised t size bit))
raise_due t size negative bit h e is =
    due (t / 2) (raised t size bit) negative (raise_raised t size (is_large t size) bit h (in_use_facts t e).0 is (not_large t size))

-- a coefficient that no threshold in use reaches
pub idle_due : (t : ℕ) (value : ℤ) → is_in_use t ≡ false → IsDue t value → IsDue (t / 2) value
idle_due t value e is = elim (idle_facts t e) [
  | inl none ↦ subst (λ (n : ℕ). IsDue n value) (let same : t ≡ t / 2 = omega arith in same) is
  | inr high ↦ elim is [
    | inl empty ↦ inl empty
    | inr more ↦ absurd (let a = more.lower in let b = more.upper in omega arith)
  ]
]

-- no coefficient is above 32,767 in size
pub due_small : (t : ℕ) (value : ℤ) → IsDue t value → unsigned_abs value ≤ 32767
due_small t value (inl empty) = omega arith
due_small t value (inr more) = more.most
