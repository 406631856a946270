use Rattle.std.proofs.Common.{refl}
use Rattle.std.specs.Prelude.{None}
use Rattle.std.specs.Arc.{arc_value}
use Rattle.jb2_records.specs.declared.machine.Machine.{Machine}
use Rattle.jb2_records.specs.declared.reader.Jb2Step.TheVariants as answer
use Rattle.jb2_records.specs.declared.steps.Step.TheVariants as step
use Rattle.jb2_records.specs.declared.steps.Use.TheVariants as use_of
use Rattle.jb2_records.specs.Reader.{inherited_of}
use Rattle.jb2_records.proofs.Feeding.{new_source, new_unstarted, new_fed, new_held}
use Rattle.jb2_records.proofs.records.RecordReader.new.Goals as goal

pub ask-step-requires-clause-pictured : goal.ask-step-requires-clause-pictured
ask-step-requires-clause-pictured c started =
    let machine : Machine = record { alloc = c.args.alloc; coder = c.in_ok-new.field-0; library = c.new-2.result; picture = None; units = 0 } in
    let not = new_unstarted (arc_value c.args.table) (inherited_of c.args.inherited) c.args.purpose machine (step.Own use_of.Library 0 0) c.new-2.ensures in
    absurd (cc)

pub invariant_of-result : goal.invariant_of-result
invariant_of-result c =
    let machine : Machine = record { alloc = c.args.alloc; coder = c.in_ok-new.field-0; library = c.new-2.result; picture = None; units = 0 } in
    new_held (arc_value c.args.table) (inherited_of c.args.inherited) c.args.purpose machine c.ask-step.result c.new-2.ensures answer.NeedBytes
    c.in_ok-new.ensures.stands c.in_ok-new.ensures.table
    c.in_ok-new.ensures.open_end refl refl c.ask-step.ensures.asks c.ask-step.ensures.fits

pub returns-clause-fed : goal.returns-clause-fed
returns-clause-fed c =
    let machine : Machine = record { alloc = c.args.alloc; coder = c.in_ok-new.field-0; library = c.new-2.result; picture = None; units = 0 } in
    new_fed (arc_value c.args.table) (inherited_of c.args.inherited) c.args.purpose machine c.ask-step.result c.new-2.ensures answer.NeedBytes
    c.in_ok-new.ensures.stands c.in_ok-new.ensures.table
    c.in_ok-new.ensures.open_end refl refl c.ask-step.ensures.asks

pub returns-clause-source : goal.returns-clause-source
returns-clause-source c =
    let machine : Machine = record { alloc = c.args.alloc; coder = c.in_ok-new.field-0; library = c.new-2.result; picture = None; units = 0 } in
    new_source (arc_value c.args.table) (inherited_of c.args.inherited) c.args.purpose machine c.ask-step.result c.new-2.ensures c.in_ok-new.ensures.table
