-- Decisions as digits.
use Rattle.std.proofs.Common.{◌≡◌, ◌+◌, ◌*◌, ◌/◌, ◌%◌, ◌==◌, ℕ, zero, suc, add-one, Bool, true, false, [], ◌∷◌, length, refl, ap, ap₂, ◌∙◌, arith}
use Rattle.std.specs.Prelude.{if◌then◌else◌}
use Rattle.std.proofs.lemmas.Grind.{common_steps}
use Rattle.jb2_numbers.specs.Kept.{digits}

last_true : (bits : ℕ) → ((2 * bits + 1) % 2 == 1) ≡ true
last_true bits = grind (arith, common_steps)

last_false : (bits : ℕ) → ((2 * bits + 0) % 2 == 1) ≡ false
last_false bits = grind (arith, common_steps)

rest_true : (bits : ℕ) → (2 * bits + 1) / 2 ≡ bits
rest_true bits = omega arith

rest_false : (bits : ℕ) → (2 * bits + 0) / 2 ≡ bits
rest_false bits = omega arith

-- a digit more is a decision more
pub digit_more : (count bits : ℕ) (decision : Bool) → digits (count + 1) (2 * bits + (if decision then 1 else 0)) ≡ decision ∷ digits count bits
digit_more count bits true =
    ap (λ (n : ℕ). digits n (2 * bits + 1)) (add-one count) ∙ ap₂ (λ (d : Bool) (b : ℕ). d ∷ digits count b) (last_true bits) (rest_true bits)
digit_more count bits false =
    ap (λ (n : ℕ). digits n (2 * bits + 0)) (add-one count) ∙ ap₂ (λ (d : Bool) (b : ℕ). d ∷ digits count b) (last_false bits) (rest_false bits)

pub digit_less : (count before bits : ℕ) → count ≡ before + 1 → digits count bits ≡ (bits % 2 == 1) ∷ digits before (bits / 2)
digit_less count before bits is = ap (λ (n : ℕ). digits n bits) (is ∙ add-one before)

pub no_digit : (count bits : ℕ) → count ≡ 0 → digits count bits ≡ []
no_digit count bits is = ap (λ (n : ℕ). digits n bits) is

pub how_many : (count bits : ℕ) → length (digits count bits) ≡ count
how_many zero bits = refl
how_many (suc count) bits = ap suc (how_many count (bits / 2))
