-- Chunks, and what laws of readings assume of a place in one.
use Rattle.std.specs.Prelude.{ℕ, Bool, List, length, Option}
use Rattle.zp_table.specs.declared.rows.Row.{Row}
use Rattle.zp_table.specs.Rows.{IsTable}
use Rattle.zp_decoder.specs.Decision.{Interval}
use Rattle.zp_decoder.specs.Runs.{IsStanding}
use Rattle.zp_decoder.specs.States.{AreBelow}

-- what decisions are read from: the state table, the bytes of the chunk so far, and whether they are all of it
pub record Chunk : Type 0 where
  pub table : List Row
  pub payload : List ℕ
  pub ended : Bool

abbrev pub chunk : List Row → List ℕ → Bool → Chunk
chunk table payload ended = record { table = table; payload = payload; ended = ended }

-- decisions can be read from here on: the table is one, each state is a row of it, and the decoder stands in these bytes
pub record IsReady {Name : Type 0} (from : Chunk) (states : Name → ℕ) (place : Option Interval) : Type 0 where
  pub table : IsTable from.table
  pub below : AreBelow (length from.table) states
  pub standing : IsStanding (length from.payload) place
