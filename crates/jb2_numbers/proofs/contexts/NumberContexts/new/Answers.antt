use Rattle.std.proofs.Common.{ap, inl, length}
use Rattle.zp_decoder.proofs.Lemmas.{fresh_below}
use Rattle.jb2_numbers.specs.Kept.{states_of}
use Rattle.jb2_numbers.proofs.Cells.{start_names, states_started, none_start}
use Rattle.jb2_numbers.proofs.contexts.NumberContexts.new.Goals as goal

pub invariant_of-result : goal.invariant_of-result
invariant_of-result c = start_names c.new.result.items (none_start c.new.result.items c.new.ensures.items) (inl (ap length c.new.ensures.items))

pub returns-clause-start : goal.returns-clause-start
returns-clause-start c = states_started (record { cells = c.new.result.items }) (none_start c.new.result.items c.new.ensures.items)

pub returns-clause-below : goal.returns-clause-below
returns-clause-below c = fresh_below (states_of (record { cells = c.new.result.items }))
    (states_started (record { cells = c.new.result.items }) (none_start c.new.result.items c.new.ensures.items))
