use Rattle.std.proofs.Common.{length, sym, subst}
use Rattle.zp_decoder.specs.States.{AreBelow}
use Rattle.iw44_slices.specs.Reader.{Reader, Stands, states_of}
use Rattle.iw44_slices.specs.Moves.{EndsAt}
use Rattle.iw44_slices.proofs.Advancing.{told_answer, told_plane, told_states, told_fed, told_ticks, told_rest}
use Rattle.iw44_slices.proofs.Telling.{stands_small}
use Rattle.iw44_slices.proofs.reader.SliceReader.advance.Goals as goal

pub read-requires-clause-below : goal.read-requires-clause-below
read-requires-clause-below g c = subst (λ (r : Reader). AreBelow (length c.args.zp.now.table) (states_of r)) (sym c.self.view_is) c.requires.below

pub returns-clause-answer : goal.returns-clause-answer
returns-clause-answer g c slice decisions course payload place at fed =
    let was = subst (λ (r : Reader). Stands slice course c.args.coefficients.now r) (sym c.self.view_is) at in
    let ends = subst (λ (r : Reader). EndsAt slice decisions payload course place r c.args.zp.now (g.M.Meter.count c.args.meter.now) c.read.new.coefficients
    (record { contexts = c.read.new.contexts; spot = c.read.new.spot }) c.read.new.zp (g.M.Meter.count c.read.new.meter) c.read.result) c.self.view_is
    (c.read.ensures.ends slice decisions payload course place was fed) in
    told_answer slice decisions payload course place c.args.self.now c.args.zp.now (g.M.Meter.count c.args.meter.now) c.read.new.coefficients
    (record { contexts = c.read.new.contexts; spot = c.read.new.spot }) c.read.new.zp (g.M.Meter.count c.read.new.meter) c.read.result ends

pub returns-clause-coefficients : goal.returns-clause-coefficients
returns-clause-coefficients g c slice decisions course payload place at fed =
    let was = subst (λ (r : Reader). Stands slice course c.args.coefficients.now r) (sym c.self.view_is) at in
    let ends = subst (λ (r : Reader). EndsAt slice decisions payload course place r c.args.zp.now (g.M.Meter.count c.args.meter.now) c.read.new.coefficients
    (record { contexts = c.read.new.contexts; spot = c.read.new.spot }) c.read.new.zp (g.M.Meter.count c.read.new.meter) c.read.result) c.self.view_is
    (c.read.ensures.ends slice decisions payload course place was fed) in
    told_plane slice decisions payload course place c.args.self.now c.args.zp.now (g.M.Meter.count c.args.meter.now) c.read.new.coefficients
    (record { contexts = c.read.new.contexts; spot = c.read.new.spot }) c.read.new.zp (g.M.Meter.count c.read.new.meter) c.read.result ends

pub returns-clause-states : goal.returns-clause-states
returns-clause-states g c slice decisions course payload place at fed =
    let was = subst (λ (r : Reader). Stands slice course c.args.coefficients.now r) (sym c.self.view_is) at in
    let ends = subst (λ (r : Reader). EndsAt slice decisions payload course place r c.args.zp.now (g.M.Meter.count c.args.meter.now) c.read.new.coefficients
    (record { contexts = c.read.new.contexts; spot = c.read.new.spot }) c.read.new.zp (g.M.Meter.count c.read.new.meter) c.read.result) c.self.view_is
    (c.read.ensures.ends slice decisions payload course place was fed) in
    told_states slice decisions payload course place c.args.self.now c.args.zp.now (g.M.Meter.count c.args.meter.now) c.read.new.coefficients
    (record { contexts = c.read.new.contexts; spot = c.read.new.spot }) c.read.new.zp (g.M.Meter.count c.read.new.meter) c.read.result ends

pub returns-clause-fed : goal.returns-clause-fed
returns-clause-fed g c slice decisions course payload place at fed =
    let was = subst (λ (r : Reader). Stands slice course c.args.coefficients.now r) (sym c.self.view_is) at in
    let ends = subst (λ (r : Reader). EndsAt slice decisions payload course place r c.args.zp.now (g.M.Meter.count c.args.meter.now) c.read.new.coefficients
    (record { contexts = c.read.new.contexts; spot = c.read.new.spot }) c.read.new.zp (g.M.Meter.count c.read.new.meter) c.read.result) c.self.view_is
    (c.read.ensures.ends slice decisions payload course place was fed) in
    told_fed slice decisions payload course place c.args.self.now c.args.zp.now (g.M.Meter.count c.args.meter.now) c.read.new.coefficients
    (record { contexts = c.read.new.contexts; spot = c.read.new.spot }) c.read.new.zp (g.M.Meter.count c.read.new.meter) c.read.result ends

pub returns-clause-ticks : goal.returns-clause-ticks
returns-clause-ticks g c slice decisions course payload place at fed =
    let was = subst (λ (r : Reader). Stands slice course c.args.coefficients.now r) (sym c.self.view_is) at in
    let ends = subst (λ (r : Reader). EndsAt slice decisions payload course place r c.args.zp.now (g.M.Meter.count c.args.meter.now) c.read.new.coefficients
    (record { contexts = c.read.new.contexts; spot = c.read.new.spot }) c.read.new.zp (g.M.Meter.count c.read.new.meter) c.read.result) c.self.view_is
    (c.read.ensures.ends slice decisions payload course place was fed) in
    told_ticks slice decisions payload course place c.args.self.now c.args.zp.now (g.M.Meter.count c.args.meter.now) c.read.new.coefficients
    (record { contexts = c.read.new.contexts; spot = c.read.new.spot }) c.read.new.zp (g.M.Meter.count c.read.new.meter) c.read.result ends

pub returns-clause-stands : goal.returns-clause-stands
returns-clause-stands g c slice decisions course payload place at fed =
    let was = subst (λ (r : Reader). Stands slice course c.args.coefficients.now r) (sym c.self.view_is) at in
    let ends = subst (λ (r : Reader). EndsAt slice decisions payload course place r c.args.zp.now (g.M.Meter.count c.args.meter.now) c.read.new.coefficients
    (record { contexts = c.read.new.contexts; spot = c.read.new.spot }) c.read.new.zp (g.M.Meter.count c.read.new.meter) c.read.result) c.self.view_is
    (c.read.ensures.ends slice decisions payload course place was fed) in
    told_rest slice decisions payload course place c.args.self.now c.args.zp.now (g.M.Meter.count c.args.meter.now) c.read.new.coefficients
    (record { contexts = c.read.new.contexts; spot = c.read.new.spot }) c.read.new.zp (g.M.Meter.count c.read.new.meter) c.read.result ends

pub returns-clause-next : goal.returns-clause-next
returns-clause-next g c slice course at ended =
    let some = c.was_fed.ensures.some in
    let was = subst (λ (r : Reader). Stands slice course c.args.coefficients.now r) (sym c.self.view_is) at in
    (c.read.ensures.ends slice 0 some.0 course some.1 was some.2).next ended

pub returns-clause-small : goal.returns-clause-small
returns-clause-small g c =
    let some = c.read.ensures.somewhere in
    stands_small some.0 some.1 c.read.new.coefficients (record { contexts = c.read.new.contexts; spot = c.read.new.spot }) some.2
