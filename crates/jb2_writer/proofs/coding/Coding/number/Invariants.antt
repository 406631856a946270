use Rattle.jb2_numbers.specs.Number.{wanted}
use Rattle.jb2_writer.specs.Numbers.{HasDecided}
use Rattle.jb2_writer.proofs.coding.Coding.number.Given as goal

-- the decisions before this one are coded
abbrev pub invariant-loop-count : goal.invariant-loop-count
invariant-loop-count l = HasDecided (wanted l.fn.root l.fn.low l.fn.high) l.fn.value l.count l.path l.phase l.fn.self l.self
