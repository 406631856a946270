use Rattle.std.proofs.Common.{◌≡◌, ◌++◌, ◌+◌, ◌*◌, length}
use Rattle.std.specs.Prelude.{vec_len}
use Rattle.zp_table.specs.Reading.{rows_in}
use Rattle.zp_table.proofs.reading.rows_in.Given as goal

-- the rows so far, and those of the rest
abbrev pub invariant-loop-rest : goal.invariant-loop-rest
invariant-loop-rest l = record {
  rows : l.rows.items ++ rows_in l.rest ≡ rows_in l.bytes;
  count : 6 * vec_len l.rows + length l.rest ≡ length l.bytes;
}

abbrev pub decreases-loop-rest : goal.decreases-loop-rest
decreases-loop-rest l = length l.rest
