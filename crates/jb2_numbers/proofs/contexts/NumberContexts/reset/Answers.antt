use Rattle.zp_decoder.proofs.Lemmas.{fresh_below}
use Rattle.jb2_numbers.specs.Kept.{states_of}
use Rattle.jb2_numbers.proofs.Cells.{states_started, none_start}
use Rattle.jb2_numbers.proofs.contexts.NumberContexts.reset.Goals as goal

pub returns-clause-start : goal.returns-clause-start
returns-clause-start c = states_started (record { cells = c.clear.new.self.items }) (none_start c.clear.new.self.items c.clear.ensures.items)

pub returns-clause-below : goal.returns-clause-below
returns-clause-below c = fresh_below (states_of (record { cells = c.clear.new.self.items }))
    (states_started (record { cells = c.clear.new.self.items }) (none_start c.clear.new.self.items c.clear.ensures.items))
