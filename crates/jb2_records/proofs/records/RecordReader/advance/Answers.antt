use Rattle.std.proofs.Common.{◌≡◌, ◌≢◌, ◌≤◌, length, rules, sym, subst}
use Rattle.std.specs.Prelude.{Some, None}
use Rattle.djvu_base.specs.Meter.{ticked, TicksExactly}
use Rattle.jb2_records.specs.declared.reader.Jb2Step.TheVariants as answer
use Rattle.jb2_records.specs.Reading.{records_of}
use Rattle.jb2_records.specs.ReaderState.{ReaderState, Fed, input_of, state_of}
use Rattle.jb2_records.proofs.Feeding.{fed_stands, fed_at_most, ran_answer, ran_units, ran_decisions, ran_at_most, ran_fed, ran_held}
use Rattle.jb2_records.proofs.records.RecordReader.advance.Goals as goal

-- an answer stands
pub returns-in_default-clause-answer : goal.returns-in_default-clause-answer
returns-in_default-clause-answer g c payload told memory =
    let none : c.self.inside.step ≡ None = search rules in
    subst (λ (r : ReaderState). c.self.inside.answer ≡ (records_of (input_of r payload)).answer) c.self.view_is
    (sym (fed_stands c.self.inside.step c.self.inside.answer c.self.inside.machine payload none
    (subst (λ (r : ReaderState). Fed payload r) (sym c.self.view_is) told)).answers.same)

pub returns-in_default-clause-units : goal.returns-in_default-clause-units
returns-in_default-clause-units g c payload told memory =
    let none : c.self.inside.step ≡ None = search rules in
    subst (λ (r : ReaderState). TicksExactly (length (records_of (input_of r payload)).records) 0 c.self.inside.machine.units) c.self.view_is
    ((fed_stands c.self.inside.step c.self.inside.answer c.self.inside.machine payload none
    (subst (λ (r : ReaderState). Fed payload r) (sym c.self.view_is) told)).answers.units)

pub returns-in_default-clause-decisions : goal.returns-in_default-clause-decisions
returns-in_default-clause-decisions g c payload told memory =
    let none : c.self.inside.step ≡ None = search rules in
    subst (λ (r : ReaderState). TicksExactly (records_of (input_of r payload)).decisions 0 c.self.inside.machine.coder.count) c.self.view_is
    ((fed_stands c.self.inside.step c.self.inside.answer c.self.inside.machine payload none
    (subst (λ (r : ReaderState). Fed payload r) (sym c.self.view_is) told)).answers.decisions)

pub returns-in_default-clause-at_most : goal.returns-in_default-clause-at_most
returns-in_default-clause-at_most g c payload told =
    subst (λ (r : ReaderState). (c.self.inside.machine.units ≤ ticked (length (records_of (input_of r payload)).records) 0)
    × (c.self.inside.machine.coder.count ≤ ticked (records_of (input_of r payload)).decisions 0)) c.self.view_is
    (fed_at_most c.self.inside.step c.self.inside.answer c.self.inside.machine payload (subst (λ (r : ReaderState). Fed payload r) (sym c.self.view_is) told))

-- the machine ran
pub invariant_of-self-2 : goal.invariant_of-self-2
invariant_of-self-2 g c =
    let some : c.self.inside.step ≡ Some c.in-Some.step = search rules in
    ran_held c.self.inside.step c.step_of.result c.in-Some.step c.self.inside.answer c.answer_of-self-inside.result c.self.inside.machine
    c.run-halt.new.self c.run-halt.result
    some c.answer_of-self-inside.ensures c.step_of.ensures c.run-halt.ensures.later c.run-halt.ensures.halts
    c.run-halt.ensures.fits c.self.invariant

pub returns-clause-answer : goal.returns-clause-answer
returns-clause-answer g c payload =
    let some : c.self.inside.step ≡ Some c.in-Some.step = search rules in
    subst (λ (r : ReaderState). Fed payload r → c.answer_of-self-inside.result ≢ answer.OutOfMemory →
    c.answer_of-self-inside.result ≡ (records_of (input_of r payload)).answer) c.self.view_is
    (ran_answer c.self.inside.step c.step_of.result c.in-Some.step c.self.inside.answer c.answer_of-self-inside.result c.self.inside.machine
    c.run-halt.new.self c.run-halt.result
    some c.answer_of-self-inside.ensures c.step_of.ensures c.run-halt.ensures.later c.run-halt.ensures.halts payload)

pub returns-clause-units : goal.returns-clause-units
returns-clause-units g c payload =
    let some : c.self.inside.step ≡ Some c.in-Some.step = search rules in
    subst (λ (r : ReaderState). Fed payload r → c.answer_of-self-inside.result ≢ answer.OutOfMemory →
    TicksExactly (length (records_of (input_of r payload)).records) 0 c.run-halt.new.self.units) c.self.view_is
    (ran_units c.self.inside.step c.step_of.result c.in-Some.step c.self.inside.answer c.answer_of-self-inside.result c.self.inside.machine
    c.run-halt.new.self c.run-halt.result
    some c.answer_of-self-inside.ensures c.step_of.ensures c.run-halt.ensures.later c.run-halt.ensures.halts payload)

pub returns-clause-decisions : goal.returns-clause-decisions
returns-clause-decisions g c payload =
    let some : c.self.inside.step ≡ Some c.in-Some.step = search rules in
    subst (λ (r : ReaderState). Fed payload r → c.answer_of-self-inside.result ≢ answer.OutOfMemory →
    TicksExactly (records_of (input_of r payload)).decisions 0 c.run-halt.new.self.coder.count) c.self.view_is
    (ran_decisions c.self.inside.step c.step_of.result c.in-Some.step c.self.inside.answer c.answer_of-self-inside.result c.self.inside.machine
    c.run-halt.new.self c.run-halt.result
    some c.answer_of-self-inside.ensures c.step_of.ensures c.run-halt.ensures.later c.run-halt.ensures.halts payload)

pub returns-clause-at_most : goal.returns-clause-at_most
returns-clause-at_most g c payload =
    let some : c.self.inside.step ≡ Some c.in-Some.step = search rules in
    subst (λ (r : ReaderState). Fed payload r → (c.run-halt.new.self.units ≤ ticked (length (records_of (input_of r payload)).records) 0)
    × (c.run-halt.new.self.coder.count ≤ ticked (records_of (input_of r payload)).decisions 0)) c.self.view_is
    (ran_at_most c.self.inside.step c.step_of.result c.in-Some.step c.self.inside.answer c.answer_of-self-inside.result c.self.inside.machine
    c.run-halt.new.self c.run-halt.result
    some c.answer_of-self-inside.ensures c.step_of.ensures c.run-halt.ensures.later c.run-halt.ensures.halts payload)

pub returns-clause-fed : goal.returns-clause-fed
returns-clause-fed g c payload =
    let some : c.self.inside.step ≡ Some c.in-Some.step = search rules in
    subst (λ (r : ReaderState). Fed payload r → Fed payload
    (state_of (record { step = c.step_of.result; answer = c.answer_of-self-inside.result; machine = c.run-halt.new.self }))) c.self.view_is
    (ran_fed c.self.inside.step c.step_of.result c.in-Some.step c.self.inside.answer c.answer_of-self-inside.result c.self.inside.machine
    c.run-halt.new.self c.run-halt.result
    some c.answer_of-self-inside.ensures c.step_of.ensures c.run-halt.ensures.later c.run-halt.ensures.halts payload)
