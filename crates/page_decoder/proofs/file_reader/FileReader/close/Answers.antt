use Rattle.std.proofs.Common.{rules, ◌≡◌, ◌+◌, ◌-◌, ◌^◌, ℕ, min, ◌∙◌}
use Rattle.djvu_base.specs.Meter.{ticked}
use Rattle.page_decoder.specs.Opened.{decisions_of}
use Rattle.page_decoder.proofs.Shutting.{closed_so, counts_together, left_decisions}
use Rattle.page_decoder.proofs.file_reader.FileReader.close.Goals as goal

pub returns-clause-closes : goal.returns-clause-closes
returns-clause-closes g c =
    let chunks : c.saturating_add-chunks.result ≡ min (c.args.self.now.chunks + 1) (2 ^ 32 - 1) = search rules in
    let decisions : c.saturating_add-self.result ≡ ticked c.close-closed.result.decisions c.args.self.now.decisions = search rules in
    closed_so c.args.chunk c.close-closed.result c.leave.result c.args.self.now c.leave.new.self c.close-closed.new.self c.saturating_add-self.result
    c.saturating_add-chunks.result chunks decisions
    (λ table decoded bytes o w. c.close-closed.ensures.closes table c.args.chunk.head decoded bytes o w) c.close-closed.ensures.layers c.leave.ensures

pub returns-clause-rise : goal.returns-clause-rise
returns-clause-rise g c =
    let decisions : c.saturating_add-self.result ≡ ticked c.close-closed.result.decisions c.args.self.now.decisions = search rules in
    counts_together (decisions_of c.args.chunk.opened) c.close-closed.result.decisions c.args.self.now.decisions c.leave.new.self.decisions
    (g.M.Meter.count c.args.meter.now) (g.M.Meter.count c.close-closed.new.meter) c.close-closed.ensures.counts
    (left_decisions c.args.chunk.head c.saturating_add-chunks.result c.close-closed.result.came c.leave.result _ _ c.leave.ensures ∙ decisions)
