-- The codes that make decisions: along a range of them, a decoder decides the same bits (DjVu 3 reference, ZP-Coder).
use Rattle.std.specs.Prelude.{ℕ, zero, suc, ◌+◌, ◌-◌, ◌*◌, ◌<◌, ◌≤◌, Bool, true, false, List, length, nat_le, if◌then◌else◌}
use Rattle.zp_table.specs.declared.rows.Row.{Row}
use Rattle.zp_decoder.specs.Bits.{bits_from}
use Rattle.zp_decoder.specs.Decision.{Form, interval, split_of, state_after, probable_of, most_bits}
use Rattle.zp_decoder.specs.States.{is_same_bit}

-- codes are the first 16 + n bits of an input, as numbers. These are the ones from low on, as many as a decoder's interval
-- has numbers: it begins at a and ends at 10000 hexadecimal
pub record Codes : Type 0 where
  pub low : ℕ
  pub a : ℕ
  pub n : ℕ

abbrev pub codes_from : ℕ → ℕ → ℕ → Codes
codes_from low a n = record { low = low; a = a; n = n }

-- before the first decision: all numbers of 16 bits
abbrev pub all_codes : Codes
all_codes = codes_from 0 0 0

-- the more probable bit has the codes from z on, and the other one those below it
abbrev pub part_of : Bool → ℕ → Codes → Codes
part_of true z codes = codes_from (codes.low + (z - codes.a)) z codes.n
part_of false z codes = codes_from codes.low (codes.a + (0x10000 - z)) codes.n

-- the same codes, each with either bit behind it
abbrev pub longer : Codes → Codes
longer codes = codes_from (2 * codes.low) (2 * codes.a - 0x10000) (codes.n + 1)

-- while a is 8000 hexadecimal or more, but by at most so many bits
abbrev pub lengthened : ℕ → Codes → Codes
lengthened zero codes = codes
lengthened (suc most) codes = if nat_le 0x8000 codes.a then lengthened most (longer codes) else codes

abbrev pub is_probable : Form → Bool → Bool
is_probable form bit = is_same_bit (probable_of form) bit

-- of these codes, those that make this bit next
abbrev pub codes_after : List Row → Form → Bool → Codes → Codes
codes_after rows form bit codes = lengthened most_bits (part_of (is_probable form bit) (split_of rows form codes.a) codes)

-- a code of the interval that makes the more probable bit, or the other one
abbrev pub code_with : Bool → ℕ → ℕ → ℕ
code_with true z a = z
code_with false z a = a

-- the state that a decoder leaves a context in, after this bit and from an interval that begins here
abbrev pub state_left : List Row → Form → Bool → ℕ → ℕ
state_left rows form bit a =
    let z = split_of rows form a in
    state_after rows form z (interval a (code_with (is_probable form bit) z a) 0)

-- a payload has one of the codes, of which at most 192 bits lie past its end
pub record IsAmong (payload : List ℕ) (codes : Codes) : Type 0 where
  pub least : codes.low ≤ bits_from payload 0 (16 + codes.n)
  pub most : bits_from payload 0 (16 + codes.n) + codes.a < codes.low + 0x10000
  pub within : codes.n ≤ 8 * length payload + 176
