-- Digits to the base of 256, and the number that they are.
use Rattle.std.specs.Prelude.{◌≡◌, ◌<◌, ◌⊎◌, ℕ, ◌+◌, ◌*◌, ◌++◌, List, length, replicate, Bool, true, false, Some, None, is_some, if◌then◌else◌}
use Rattle.std.specs.Option.{option_to_list, option_map}
use Rattle.zp_encoder.specs.declared.digits.Digits.{Digits}
use Rattle.zp_decoder.specs.Bits.{bits_from}

-- bytes as one number, the first of them the highest
abbrev pub number_of : List ℕ → ℕ
number_of bytes = bits_from bytes 0 (8 * length bytes)

-- the digits that are settled, then the one that may be raised, then those of 255
abbrev pub digits_of : Digits → List ℕ
digits_of digits = digits.settled.items ++ (option_to_list digits.last ++ replicate digits.run 255)

-- whether one may be added to the number
abbrev pub is_raisable : Digits → Bool
is_raisable digits = is_some digits.last

-- a digit that may be raised isn't 255
abbrev pub LeavesRoom : Digits → Type 0
LeavesRoom digits = (byte : ℕ) → digits.last ≡ Some byte → byte < 255

abbrev pub carry_of : Bool → ℕ
carry_of true = 1
carry_of false = 0

-- all digits are settled, with a carry or without one
pub record Settles (raised : Bool) (before after : Digits) : Type 0 where
  pub items : after.settled.items ≡
      before.settled.items ++
      (option_to_list (option_map (λ last. last + carry_of raised) before.last) ++ replicate before.run (if raised then 0 else 255))
  pub last : after.last ≡ None
  pub run : after.run ≡ 0

-- the number is greater by the carry
pub record Carries (raised : Bool) (before after : Digits) : Type 0 where
  pub number : number_of (digits_of after) ≡ number_of (digits_of before) + carry_of raised
  pub length : length (digits_of after) ≡ length (digits_of before)
  pub room : LeavesRoom after
  pub fixed : raised ≡ true → is_raisable after ≡ false
  pub same : raised ≡ false → is_raisable after ≡ is_raisable before

-- one digit more, which is from 0 to 511: what passes 255 is a carry. Where no digit can be raised then, it was so before
-- and the digit is 255, or the greatest
pub record Appends (digit : ℕ) (before after : Digits) : Type 0 where
  pub number : number_of (digits_of after) ≡ 256 * number_of (digits_of before) + digit
  pub length : length (digits_of after) ≡ length (digits_of before) + 1
  pub room : LeavesRoom after
  pub fixed : is_raisable after ≡ false → (digit ≡ 511) ⊎ ((digit ≡ 255) × (is_raisable before ≡ false))
