use Rattle.std.proofs.Common.{◌≡◌, to_z, of_z, w32, rules, sym, ap, ◌∙◌}
use Rattle.jb2_records.specs.Reading.{type_of}
use Rattle.jb2_records.proofs.Entering.{kind_fault, behind_kind, kind_resets, kind_asks, kind_ends, both_true, not_both}
use Rattle.jb2_records.proofs.machine.Machine.kind.Goals as goal

pub returns-in-Some-clause-moves : goal.returns-in-Some-clause-moves
returns-in-Some-clause-moves c input stays =
    let fits : to_z w32 (of_z w32 c.args.number) ≡ c.args.number = search rules in
    kind_fault input c.args.number c.of-kind.result c.args.self.now c.in-Some.fault c.type_fault.result stays
    (c.of-kind.ensures ∙ ap type_of fits) c.in-Some.is
    (c.type_fault.ensures.fault input stays.before stays.keeps)

pub returns-then-resets-clause-moves : goal.returns-then-resets-clause-moves
returns-then-resets-clause-moves c input stays =
    let fits : to_z w32 (of_z w32 c.args.number) ≡ c.args.number = search rules in
    let next = behind_kind input c.args.number c.of-kind.result c.args.self.now c.type_fault.result stays
    (c.of-kind.ensures ∙ ap type_of fits) c.in_default.is (c.type_fault.ensures.fault input stays.before stays.keeps) in
    c.reset.ensures.holds input (kind_resets input c.of-kind.result c.args.self.now next (both_true _ _ (sym c.resets.ensures ∙ c.if-resets.true)).0
    (both_true _ _ (sym c.resets.ensures ∙ c.if-resets.true)).1)

pub returns-in-Some-first_field-clause-moves : goal.returns-in-Some-first_field-clause-moves
returns-in-Some-first_field-clause-moves c input stays =
    let fits : to_z w32 (of_z w32 c.args.number) ≡ c.args.number = search rules in
    let next = behind_kind input c.args.number c.of-kind.result c.args.self.now c.type_fault.result stays
    (c.of-kind.ensures ∙ ap type_of fits) c.in_default.is (c.type_fault.ensures.fault input stays.before stays.keeps) in
    c.ask.ensures.asks input (kind_asks input c.of-kind.result c.args.self.now c.in-Some-first_field.field next
    (sym c.first_field.ensures ∙ c.in-Some-first_field.is) (not_both _ _ (sym c.resets.ensures ∙ c.if-resets.false)))

pub returns-in-None-clause-moves : goal.returns-in-None-clause-moves
returns-in-None-clause-moves c input stays =
    let fits : to_z w32 (of_z w32 c.args.number) ≡ c.args.number = search rules in
    let next = behind_kind input c.args.number c.of-kind.result c.args.self.now c.type_fault.result stays
    (c.of-kind.ensures ∙ ap type_of fits) c.in_default.is (c.type_fault.ensures.fault input stays.before stays.keeps) in
    c.finish.ensures.ends input (kind_ends input c.of-kind.result c.args.self.now next (sym c.first_field.ensures ∙ c.in-None.is))
