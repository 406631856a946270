use Rattle.layer_compose.specs.Laying.{Lays, in_span, channel_of}
use Rattle.layer_compose.proofs.colours.Colour.lay_run.Given as goal

abbrev pub invariant-loop-at : goal.invariant-loop-at
invariant-loop-at l = Lays (in_span l.from l.at) (λ p channel. channel_of l.self channel) l.initial.out l.out
