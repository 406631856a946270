use Rattle.std.proofs.Common.{◌≡◌, ℤ, to_z, of_z, w32, rules, sym, subst, ◌∙◌}
use Rattle.jb2_numbers.specs.Reader.{AreBounds}
use Rattle.jb2_records.specs.Steps.{low_of}
use Rattle.jb2_records.proofs.Asking.{asked_holds, asked_rank}
use Rattle.jb2_records.proofs.machine.Machine.ask.Goals as goal

pub returns-clause-asks : goal.returns-clause-asks
returns-clause-asks c input stays =
    let low : to_z w32 (of_z w32 c.lowest.result) ≡ c.lowest.result = search rules in
    let high : to_z w32 (of_z w32 c.highest-high.result) ≡ c.highest-high.result = search rules in
    asked_holds input c.args.field c.root.result _ _ c.begin-reader.result c.args.self.now c.ready.ensures c.requires.fits c.root.ensures
    (low ∙ c.lowest.ensures) (high ∙ c.highest-high.ensures.high)
    (subst (λ (h : ℤ). AreBounds (low_of c.args.field) h) (sym high) c.highest-high.ensures.bounds) c.begin-reader.ensures stays

pub returns-clause-rank : goal.returns-clause-rank
returns-clause-rank c = asked_rank c.args.field c.begin-reader.result _ c.begin-reader.ensures
