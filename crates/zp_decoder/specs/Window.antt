-- What a decoder keeps: the interval, and the bits that were taken and aren't shifted in yet.
use Rattle.std.specs.Prelude.{◌≡◌, ℕ, ◌+◌, ◌-◌, ◌*◌, ◌/◌, ◌^◌, ◌≤◌, List, length}
use Rattle.zp_decoder.specs.declared.window.Window.{Window}
use Rattle.zp_decoder.specs.declared.standing.Standing.{Standing}
use Rattle.zp_decoder.specs.Bits.{bits_from}
use Rattle.zp_decoder.specs.Decision.{Interval, interval}

-- the words of a window are the bits of the input from this one on
pub record Holds (payload : List ℕ) (number : ℕ) (words : Window) : Type 0 where
  pub near : words.near ≡ bits_from payload number 64
  pub mid : words.mid ≡ bits_from payload (number + 64) 64
  pub far : words.far ≡ bits_from payload (number + 128) 64

-- how what is kept stands to the bytes that were taken, and to where the decoder is: `spare` bits can be shifted in until
-- 192 bits past these bytes are in use, and the words have all of them
pub record Stands (payload : List ℕ) (at : Interval) (kept : Standing) : Type 0 where
  pub a : kept.a ≡ at.a
  pub code : kept.code ≡ at.code
  pub spare : kept.spare + at.n ≡ 8 * length payload + 176
  pub few : 8 * length payload ≤ at.n + 192
  pub words : Holds payload (16 + at.n) kept.window

-- where so many bits are shifted in at once
abbrev pub moved_on : List ℕ → ℕ → Interval → Interval
moved_on payload count at =
    interval (0x10000 - 2 ^ count * (0x10000 - at.a)) (0x10000 + bits_from payload (16 + at.n) count - 2 ^ count * (0x10000 - at.code)) (at.n + count)

-- what a byte that has so much less than 255 takes away from ones, in a word that ends so many bits behind its first one
abbrev pub dent : ℕ → ℕ → ℕ
dent missing behind = missing * 2 ^ behind / 256
