-- How a decoder stands to the bytes that it took.
use Rattle.std.specs.Prelude.{◌≡◌, ℕ, ◌+◌, ◌-◌, ◌*◌, ◌/◌, ◌≤◌, ◌⊎◌, Bool, false, ◌&&◌, ◌||◌, ◌==◌, List, [], ◌∷◌, length, Option, None, nat_lt, nat_le}
use Rattle.zp_table.specs.declared.rows.Row.{Row}
use Rattle.zp_decoder.specs.Decision.{Interval, interval_at}
use Rattle.zp_decoder.specs.declared.standing.Standing.{Standing}
use Rattle.zp_decoder.specs.Window.{Stands}

-- the state table, whether the bytes taken are the whole chunk, and what only the decoder itself reads
pub record Decoder : Type 0 where
  pub table : List Row
  pub ended : Bool
  pub kept : Standing

-- while bytes may come, the code has bits of the payload alone once something is decided
abbrev pub IsSettled : List ℕ → Option Interval → Bool → Type 0
IsSettled payload place ended = ended ≡ false → (place ≡ None) ⊎ ((interval_at payload place).n + 16 ≤ 8 * length payload)

-- since its chunk began the decoder took this payload, and its last decision led to this place, which is none at the start
unfoldable pub Fed : List ℕ → Option Interval → Decoder → Type 0
Fed payload place decoder = Stands payload (interval_at payload place) decoder.kept × IsSettled payload place decoder.ended

-- it took some payload, and stands at some place
unfoldable pub IsFed : Decoder → Type 0
IsFed decoder = (payload : List ℕ) × (place : Option Interval) × Fed payload place decoder

-- how many bytes more are taken, at most: those with which 192 bits more than were shifted in are there, or fewer
abbrev pub bytes_wanted : List ℕ → Option Interval → ℕ
bytes_wanted payload place = ((interval_at payload place).n + 192 - 8 * length payload) / 8

-- whether bytes taken are a whole chunk, where these are left of its payload, which is all of it or not
abbrev pub is_all : List ℕ → Bool → Bool
is_all [] ended = ended
is_all (byte ∷ left) ended = false

-- how many bits can still be decided, at most, with the bytes so far
unfoldable pub room_left : Decoder → ℕ
room_left decoder = 0x8000 * (decoder.kept.spare + 1) - decoder.kept.a

-- what holds of what is kept, whatever was taken
abbrev pub is_sound : Bool → Standing → Bool
is_sound ended kept =
    nat_lt kept.a 0x8000 && nat_le kept.a kept.code && nat_lt kept.code 0x10000 && nat_le kept.spare 368
    && (ended || (nat_le 176 kept.spare && (nat_le 192 kept.spare || kept.a == 0)))
