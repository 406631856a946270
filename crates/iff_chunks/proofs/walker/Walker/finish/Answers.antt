use Rattle.std.proofs.Common.{◌≡◌, ℕ, refl, subst}
use Rattle.djvu_base.specs.declared.faults.FaultKind.{FaultKind}
use Rattle.djvu_base.specs.Library.{Mark, mark_of}
use Rattle.iff_chunks.specs.declared.walker.WalkEnd.TheVariants as walk_end
use Rattle.iff_chunks.specs.declared.walker.WalkStep.{WalkStep}
use Rattle.iff_chunks.specs.declared.walker.WalkStep.TheVariants as step
use Rattle.iff_chunks.specs.Ends.{IsSaid}
use Rattle.iff_chunks.specs.Told.{Walking, Over}
use Rattle.iff_chunks.proofs.walker.Walker.finish.Goals as goal

-- a walker that answers no break from then on answers the FORM's end
form_end : (mark : Mark) (arrived : ℕ) (answer : WalkStep) (walker : Walking) → Over answer walker
    → ((kind : FaultKind) (offset : ℕ) → answer ≡ step.Broken kind offset → ⊥) → IsSaid mark arrived answer walk_end.FormEnd
unfolding Over
form_end mark arrived step.FormEnd walker o other = refl
form_end mark arrived (step.Broken kind offset) walker o other = absurd (other kind offset refl)
form_end mark arrived (step.Form kind size) walker o other = o
form_end mark arrived (step.Header id offset size) walker o other = o
form_end mark arrived step.Data walker o other = o
form_end mark arrived step.ChunkEnd walker o other = o
form_end mark arrived step.NeedBytes walker o other = o

pub returns-in_default-clause-over : goal.returns-in_default-clause-over
returns-in_default-clause-over c = (
  c.end.result,
  c.end.ensures.over,
  form_end (mark_of c.args.end) c.args.arrived c.end.result c.end.new.self c.end.ensures.over c.in_default.not-Broken,
  c.end.ensures.all,
)

pub returns-in_default-clause-stays : goal.returns-in_default-clause-stays
returns-in_default-clause-stays c answer o =
    let same : c.end.result ≡ answer = c.end.ensures.stays answer o in (
      subst (λ a. IsSaid (mark_of c.args.end) c.args.arrived a walk_end.FormEnd) same
          (form_end (mark_of c.args.end) c.args.arrived c.end.result c.end.new.self c.end.ensures.over c.in_default.not-Broken),
      subst (λ a. Over a c.end.new.self) same c.end.ensures.over,
    )
