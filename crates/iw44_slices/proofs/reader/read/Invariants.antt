use Rattle.iw44_slices.specs.Moves.{Keeps}
use Rattle.iw44_slices.proofs.Advancing.{reader_of}
use Rattle.zp_decoder.specs.Decoder.{room_left}
use Rattle.iw44_slices.proofs.reader.read.Given as goal

abbrev pub invariant-decisions : goal.invariant-decisions
invariant-decisions g l =
    Keeps l.fn.coefficients (reader_of l.fn.contexts l.fn.spot) l.fn.zp (g.M.Meter.count l.fn.meter) l.coefficients (reader_of l.contexts l.spot) l.zp
    (g.M.Meter.count l.meter)

abbrev pub decreases-decisions : goal.decreases-decisions
decreases-decisions g l = room_left l.zp
