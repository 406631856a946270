use Rattle.std.proofs.Common.{◌≡◌, ℕ, List, ◌++◌, rules, sym, ap, subst, ◌∙◌}
use Rattle.std.specs.Prelude.{None, OnOk}
use Rattle.jb2_records.specs.ReaderState.{ReaderState, state_of, Fed}
use Rattle.jb2_records.proofs.Feeding.{fed_still, fed_pushed, held_pushed}
use Rattle.jb2_records.proofs.records.RecordReader.push.Goals as goal

pub returns-then-is_none-clause-fed : goal.returns-then-is_none-clause-fed
returns-then-is_none-clause-fed c payload fed =
    let none : c.self.inside.step ≡ None = search rules in
    subst (λ (r : ReaderState). Fed (payload ++ c.args.piece.now) r) c.self.view_is
    (fed_still c.self.inside.step c.self.inside.answer c.self.inside.machine payload c.args.piece.now none (ap (λ (r : ReaderState). r.ended) c.self.view_is
    ∙ c.requires) c.self.invariant
    (subst (λ (r : ReaderState). Fed payload r) (sym c.self.view_is) fed))

pub invariant_of-self : goal.invariant_of-self
invariant_of-self c =
    held_pushed c.args.piece.now c.self.inside.step c.self.inside.answer c.self.inside.machine c.push.new.self c.push.result c.push.ensures.grows
    c.push.ensures.err c.push.ensures.table
    c.push.ensures.open_end c.push.ensures.count (ap (λ (r : ReaderState). r.ended) c.self.view_is ∙ c.requires) c.self.invariant

pub returns-clause-fed : goal.returns-clause-fed
returns-clause-fed c =
    subst (λ (r : ReaderState). OnOk c.push.result ((payload : List ℕ) → Fed payload r → Fed (payload ++ c.args.piece.now)
    (state_of (record { step = c.self.inside.step; answer = c.self.inside.answer; machine = record c.self.inside.machine { coder = c.push.new.self } }))))
    c.self.view_is
    (fed_pushed c.args.piece.now c.self.inside.step c.self.inside.answer c.self.inside.machine c.push.new.self c.push.result c.push.ensures.grows
    c.push.ensures.table c.push.ensures.open_end
    c.push.ensures.count (ap (λ (r : ReaderState). r.ended) c.self.view_is ∙ c.requires) c.self.invariant)
