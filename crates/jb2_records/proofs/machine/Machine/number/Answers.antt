use Rattle.std.proofs.Common.{◌≡◌, to_z, of_z, w32, rules}
use Rattle.jb2_records.specs.declared.steps.Step.TheVariants as step
use Rattle.jb2_records.specs.Steps.{root_of, low_of, most_of}
use Rattle.jb2_records.specs.Machine.{wanted_at, high_at}
use Rattle.jb2_records.proofs.Asking.{number_stays, number_halts, at_value, passed_low, passed_high, halted_fits, later_coder, later_self, number_shrinks}
use Rattle.jb2_records.proofs.machine.Machine.number.Goals as goal

pub read-requires-clause-low : goal.read-requires-clause-low
read-requires-clause-low c =
    let fits : to_z w32 (of_z w32 c.in-Ok.number) ≡ c.in-Ok.number = search rules in
    passed_low (low_of c.args.field) c.in-Ok.number _ (c.in-Ok.ensures.within
    (wanted_at c.args.field c.args.self.now.library c.args.self.now.picture) c.requires.1.0.bounds c.requires.1.1).0 fits

pub read-requires-clause-high : goal.read-requires-clause-high
read-requires-clause-high c =
    let fits : to_z w32 (of_z w32 c.in-Ok.number) ≡ c.in-Ok.number = search rules in
    passed_high (high_at c.args.field c.args.self.now.library c.args.self.now.picture) c.in-Ok.number _
    (c.in-Ok.ensures.within (wanted_at c.args.field c.args.self.now.library c.args.self.now.picture) c.requires.1.0.bounds c.requires.1.1).1 fits

pub returns-in-Ok-clause-later : goal.returns-in-Ok-clause-later
returns-in-Ok-clause-later c =
    later_coder c.args.self.now c.read.new.self c.number.new.self (c.in-Ok.ensures.more
    (wanted_at c.args.field c.args.self.now.library c.args.self.now.picture) c.requires.1.0.bounds c.requires.1.1)
    (c.in-Ok.ensures.room (wanted_at c.args.field c.args.self.now.library c.args.self.now.picture) c.requires.1.0.bounds c.requires.1.1)
    c.in-Ok.ensures.table c.in-Ok.ensures.ended c.read.ensures.later

pub returns-in-Err-clause-later : goal.returns-in-Err-clause-later
returns-in-Err-clause-later c =
    later_self c.args.self.now c.number.new.self (c.in-Err.ensures.more
    (wanted_at c.args.field c.args.self.now.library c.args.self.now.picture) c.requires.1.0.bounds c.requires.1.1)
    (c.in-Err.ensures.room (wanted_at c.args.field c.args.self.now.library c.args.self.now.picture) c.requires.1.0.bounds c.requires.1.1)
    c.in-Err.ensures.table c.in-Err.ensures.ended

pub returns-in-Err-clause-fits : goal.returns-in-Err-clause-fits
returns-in-Err-clause-fits c =
    halted_fits c.in-Err.stop (step.Number c.args.field c.number.new.reader) c.args.self.now.library c.args.self.now.picture c.halted.result c.halted.ensures (
      c.requires.0,
      (
        c.requires.1.0,
        c.in-Err.ensures.underway
            (wanted_at c.args.field c.args.self.now.library c.args.self.now.picture) c.requires.1.0.bounds c.requires.1.1,
      ),
    )

pub returns-in-Ok-clause-moves : goal.returns-in-Ok-clause-moves
returns-in-Ok-clause-moves c input holds =
    let fits : to_z w32 (of_z w32 c.in-Ok.number) ≡ c.in-Ok.number = search rules in
    c.read.ensures.moves input
    (at_value input c.args.field c.in-Ok.number _ _ fits
    (number_stays input c.args.field c.args.reader c.args.self.now c.number.new.self c.in-Ok.number holds
    (c.in-Ok.ensures.goes input.chunk (root_of c.args.field) (low_of c.args.field)
    (most_of input.inherited holds.before c.args.field) holds.at holds.stands_there)))

pub returns-in-Err-clause-moves : goal.returns-in-Err-clause-moves
returns-in-Err-clause-moves c input holds =
    number_halts input c.args.field c.args.reader c.number.new.reader c.args.self.now c.number.new.self c.in-Err.stop c.halted.result c.halted.ensures holds
    (c.in-Err.ensures.goes input.chunk (root_of c.args.field) (low_of c.args.field)
    (most_of input.inherited holds.before c.args.field) holds.at holds.stands_there)

pub returns-in-Ok-clause-shrinks : goal.returns-in-Ok-clause-shrinks
returns-in-Ok-clause-shrinks c =
    number_shrinks c.args.field c.args.reader c.args.self.now.library c.args.self.now.picture c.args.self.now c.number.new.self c.read.new.self
    c.read.result c.requires.1.1
    (c.in-Ok.ensures.room (wanted_at c.args.field c.args.self.now.library c.args.self.now.picture) c.requires.1.0.bounds c.requires.1.1)
    c.in-Ok.ensures.falls c.read.ensures.later c.read.ensures.below
