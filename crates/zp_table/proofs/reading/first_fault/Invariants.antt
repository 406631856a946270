use Rattle.std.proofs.Common.{◌≡◌, length, drop}
use Rattle.zp_table.specs.Reading.{first_fault}
use Rattle.zp_table.proofs.reading.first_fault.Given as goal

-- the rows that are left have what all have
abbrev pub invariant-loop-row : goal.invariant-loop-row
invariant-loop-row l = record {
  number : l.number ≡ l.row-index;
  rest : first_fault (length l.rows) l.number (drop l.row-index l.rows) ≡ first_fault (length l.rows) 0 l.rows;
}
