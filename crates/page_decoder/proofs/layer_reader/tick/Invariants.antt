use Rattle.djvu_base.specs.Meter.{TicksExactly}
use Rattle.page_decoder.proofs.layer_reader.tick.Given as goal

abbrev pub invariant-ticks : goal.invariant-ticks
invariant-ticks g l = TicksExactly l.counter (g.M.Meter.count l.initial.meter) (g.M.Meter.count l.meter)
