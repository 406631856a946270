-- How an encoder stands to the decisions that were written.
use Rattle.std.specs.Prelude.{◌≡◌, ◌+◌, ◌-◌, ◌*◌, ◌^◌, ◌<◌, ◌≤◌, Bool, false, List, length}
use Rattle.zp_table.specs.declared.rows.Row.{Row}
use Rattle.zp_encoder.specs.declared.standing.Standing.{Standing}
use Rattle.zp_encoder.specs.Codes.{Codes, codes_from, all_codes}
use Rattle.zp_encoder.specs.Written.{Written, LeadTo}
use Rattle.zp_encoder.specs.Digits.{digits_of, number_of, is_raisable, LeavesRoom}

-- the codes that what is kept stands for: low are the digits, and 16 bits and some behind them
abbrev pub codes_of : Standing → Codes
codes_of kept =
    codes_from (number_of (digits_of kept.digits) * 2 ^ (16 + kept.bits) + kept.low) kept.a (8 * length (digits_of kept.digits) + kept.bits)

-- what holds of what is kept: the codes' end passes the digits' number by at most one, and where no digit can be raised, not at all
pub record IsSound (kept : Standing) : Type 0 where
  pub room : LeavesRoom kept.digits
  pub few : kept.bits < 8
  pub end : kept.low + (0x10000 - kept.a) ≤ 2 ^ (17 + kept.bits)
  pub fixed : is_raisable kept.digits ≡ false → kept.low + (0x10000 - kept.a) ≤ 2 ^ (16 + kept.bits)

-- between decisions: a is below 8000 hexadecimal
pub record IsReady (kept : Standing) : Type 0 where
  pub sound : IsSound kept
  pub low : kept.a < 0x8000

-- the codes are these, and a next decision can be written
pub record StandsAt (codes : Codes) (kept : Standing) : Type 0 where
  pub ready : IsReady kept
  pub reached : codes_of kept ≡ codes

-- the state table, whether a call found no memory, and the codes of all decisions so far
pub record Encoder : Type 0 where
  pub table : List Row
  pub failed : Bool
  pub codes : Codes

-- these decisions were written, and no others
unfoldable pub Wrote : List Written → Encoder → Type 0
Wrote decisions encoder = LeadTo encoder.table all_codes decisions encoder.codes
