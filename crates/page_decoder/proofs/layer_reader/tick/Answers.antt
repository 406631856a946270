use Rattle.djvu_base.proofs.Ticks.{ticks_both, ticks_one}
use Rattle.page_decoder.proofs.layer_reader.tick.Goals as goal

pub ticks-preserved : goal.ticks-preserved
ticks-preserved g c =
    ticks_both c.ticks.counter 1 (g.M.Meter.count c.args.meter.now) (g.M.Meter.count c.ticks.meter) (g.M.Meter.count c.tick.new.self) c.ticks.invariant
    (ticks_one (g.M.Meter.count c.ticks.meter) (g.M.Meter.count c.tick.new.self) c.tick.ensures)
