use Rattle.std.proofs.Common.{◌≡◌, ℕ, refl, sym, subst}
use Rattle.djvu_base.specs.declared.faults.FaultKind.{FaultKind}
use Rattle.iff_chunks.specs.declared.walker.WalkStep.{WalkStep}
use Rattle.iff_chunks.specs.declared.walker.WalkStep.TheVariants as step
use Rattle.iff_chunks.specs.declared.stages.Stage.TheVariants as stage
use Rattle.iff_chunks.specs.Events.{IsLast}
use Rattle.iff_chunks.specs.Told.{Over}
use Rattle.iff_chunks.proofs.walker.last_stage.Goals as goal

broken_over : (answer : WalkStep) (kind : FaultKind) (offset : ℕ) → answer ≡ step.Broken kind offset → Over answer (stage.Broken kind offset)
unfolding Over
broken_over answer kind offset e = subst (λ a. Over a (stage.Broken kind offset)) (sym e) refl

pub returns-in-Broken-clause-over : goal.returns-in-Broken-clause-over
returns-in-Broken-clause-over c l = broken_over c.args.answer c.in-Broken.kind c.in-Broken.offset c.in-Broken.is

ended_over : (answer : WalkStep) → IsLast answer → ((kind : FaultKind) (offset : ℕ) → answer ≡ step.Broken kind offset → ⊥) → Over answer stage.Ended
unfolding Over
ended_over step.FormEnd l other = refl
ended_over (step.Broken kind offset) l other = absurd (other kind offset refl)
ended_over (step.Form kind size) l other = absurd l
ended_over (step.Header id offset size) l other = absurd l
ended_over step.Data l other = absurd l
ended_over step.ChunkEnd l other = absurd l
ended_over step.NeedBytes l other = absurd l

pub returns-in_default-clause-over : goal.returns-in_default-clause-over
returns-in_default-clause-over c l = ended_over c.args.answer l c.in_default.not-Broken
