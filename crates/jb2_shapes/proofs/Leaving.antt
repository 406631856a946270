-- Each pixel that is read leaves room for fewer decisions.
use Rattle.std.proofs.Common.{◌≡◌, ℕ, zero, suc, ◌+◌, ◌<◌, ◌≤◌, Bool, true, false, List, length, ℤ, refl, arith}
use Rattle.zp_table.specs.declared.rows.Row.{Row}
use Rattle.zp_table.specs.Rows.{IsTable}
use Rattle.zp_decoder.specs.declared.decoder.Decision.{Decision}
use Rattle.zp_decoder.specs.declared.decoder.Decision.TheVariants as decision
use Rattle.zp_decoder.specs.Decision.{Outcome, Adaptive, outcome_of}
use Rattle.zp_decoder.specs.Runs.{IsStanding, room}
use Rattle.zp_decoder.proofs.Lemmas.{standing, state_below, fewer}
use Rattle.bit_plane.specs.Pixels.{Pixels}
use Rattle.zp_decoder.specs.States.{AreBelow, with_state}
use Rattle.jb2_shapes.specs.Shape.{Sketch, Progress, Reading, left_of, progress, with_pixel, after_decision, read_pixels, reading_of}
use Rattle.jb2_shapes.proofs.Going.{Context, next_colours}
use Rattle.jb2_shapes.proofs.Cutting.{moved_below}

pub one_more : (sketch : Sketch) (bit : Bool) → (with_pixel sketch bit).number ≡ sketch.number + 1
one_more sketch true = refl
one_more sketch false = refl

-- the pixels that were read since this progress have left room for fewer
pub record Leaves (payload : List ℕ) (at : Progress) (reading : Reading) : Type 0 where
  pub leaves : room payload reading.at.place + reading.at.sketch.number ≤ room payload at.place + at.sketch.number
  pub more : at.sketch.number ≤ reading.at.sketch.number

leaves_by : (context : Context) (rows : List Row) (payload : List ℕ) (ended : Bool) (left : ℕ) (at : Progress) (answer : Decision) →
    IsTable rows → AreBelow (length rows) at.states → IsStanding (length payload) at.place →
    (outcome_of rows (Adaptive (at.states (next_colours context at.sketch))) payload ended at.place).answer ≡ answer →
    ((next : Progress) → AreBelow (length rows) next.states → IsStanding (length payload) next.place → Leaves payload next (read_pixels context rows payload ended left next)) →
    Leaves payload at (after_decision answer (outcome_of rows (Adaptive (at.states (next_colours context at.sketch))) payload ended at.place) (next_colours context at.sketch) at
    (λ next. read_pixels context rows payload ended left next))
leaves_by context rows payload ended left at (decision.Bit bit) table below stands e later =
    let colours : List Bool = next_colours context at.sketch in
    let state : ℕ = at.states colours in
    let within : state < length rows = below colours in
    let outcome : Outcome = outcome_of rows (Adaptive state) payload ended at.place in
    let less = fewer rows (Adaptive state) payload ended at.place bit table within stands e in
    let next : Progress = progress (with_pixel at.sketch bit) (with_state at.states colours outcome.state) outcome.place in
    let one = one_more at.sketch bit in
    let rest = later next (moved_below at.states colours outcome.state (length rows) below (state_below rows state payload ended at.place table within))
    (standing rows (Adaptive state) payload ended at.place table within stands) in
    let first = rest.leaves in
    let second = rest.more in
    record { leaves = omega (arith, first, one, less); more = omega (arith, second, one) }
leaves_by context rows payload ended left at decision.NeedBytes table below stands e later = record { leaves = omega arith; more = omega arith }
leaves_by context rows payload ended left at decision.Exhausted table below stands e later = record { leaves = omega arith; more = omega arith }

pub leaves_at : (context : Context) (rows : List Row) (payload : List ℕ) (ended : Bool) (left : ℕ) (at : Progress) →
    IsTable rows → AreBelow (length rows) at.states → IsStanding (length payload) at.place → Leaves payload at (read_pixels context rows payload ended left at)
leaves_at context rows payload ended zero at table below stands = record { leaves = omega arith; more = omega arith }
leaves_at context rows payload ended (suc left) at table below stands =
    leaves_by context rows payload ended left at (outcome_of rows (Adaptive (at.states (next_colours context at.sketch))) payload ended at.place).answer
    table below stands refl (λ next b s. leaves_at context rows payload ended left next table b s)

pub leaves_room : (context : Pixels → ℤ → ℤ → List Bool) (rows : List Row) (payload : List ℕ) (ended : Bool) (at : Progress) →
    IsTable rows → AreBelow (length rows) at.states → IsStanding (length payload) at.place → Leaves payload at (reading_of context rows payload ended at)
leaves_room context rows payload ended at table below stands = leaves_at context rows payload ended (left_of at.sketch) at table below stands
