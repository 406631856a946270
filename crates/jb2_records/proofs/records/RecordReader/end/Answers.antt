use Rattle.std.proofs.Common.{sym, subst}
use Rattle.jb2_records.specs.ReaderState.{ReaderState, Fed}
use Rattle.jb2_records.proofs.Feeding.{fed_ended, held_ended}
use Rattle.jb2_records.proofs.records.RecordReader.end.Goals as goal

pub invariant_of-self : goal.invariant_of-self
invariant_of-self c =
    held_ended c.self.inside.step c.self.inside.answer c.self.inside.machine c.end.new.self c.end.ensures.grows c.end.ensures.table c.end.ensures.ended
    c.end.ensures.count c.self.invariant

pub returns-clause-fed : goal.returns-clause-fed
returns-clause-fed c payload fed =
    fed_ended c.self.inside.step c.self.inside.answer c.self.inside.machine c.end.new.self c.end.ensures.grows c.end.ensures.table c.end.ensures.ended
    c.end.ensures.count c.self.invariant
    payload (subst (λ (r : ReaderState). Fed payload r) (sym c.self.view_is) fed)
