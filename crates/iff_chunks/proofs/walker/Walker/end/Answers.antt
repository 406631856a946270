use Rattle.std.proofs.Common.{◌≡◌, ℕ, List, sym, ◌∙◌, subst}
use Rattle.iff_chunks.specs.declared.walker.WalkStep.{WalkStep}
use Rattle.iff_chunks.specs.declared.walker.WalkStep.TheVariants as step
use Rattle.iff_chunks.specs.declared.stages.Stage.{Stage}
use Rattle.iff_chunks.specs.Events.{Event}
use Rattle.iff_chunks.specs.Told.{Told, Over, Stands, StaysClosed}
use Rattle.iff_chunks.proofs.walker.Walker.end.Goals as goal

stood : (from now : Stage) (taken : List ℕ) (told : List Event) → from ≡ now → Told taken told now → Stands from taken told
unfolding Told
stood from now taken told view t = subst (λ p. Stands p taken told) (sym view) t

pub returns-clause-all : goal.returns-clause-all
returns-clause-all c taken told t = c.end-step.ensures.closes.all taken told (stood c.self.inside.stage c.args.self.now taken told c.self.view_is t)

stays_closed : (from now : Stage) (answer given : WalkStep) → from ≡ now → StaysClosed from given → Over answer now → given ≡ answer
unfolding Over
stays_closed from now step.FormEnd given view s o = subst (λ p. StaysClosed p given) (view ∙ o) s
stays_closed from now (step.Broken kind offset) given view s o = subst (λ p. StaysClosed p given) (view ∙ o) s
stays_closed from now (step.Form kind size) given view s o = absurd o
stays_closed from now (step.Header id offset size) given view s o = absurd o
stays_closed from now step.Data given view s o = absurd o
stays_closed from now step.ChunkEnd given view s o = absurd o
stays_closed from now step.NeedBytes given view s o = absurd o

pub returns-clause-stays : goal.returns-clause-stays
returns-clause-stays c answer o = stays_closed c.self.inside.stage c.args.self.now answer c.end-step.result c.self.view_is c.end-step.ensures.stays o
