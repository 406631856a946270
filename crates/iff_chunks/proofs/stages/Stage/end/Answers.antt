use Rattle.std.proofs.Common.{sym, subst}
use Rattle.iff_chunks.specs.declared.stages.Stage.{Stage}
use Rattle.iff_chunks.specs.Told.{Closes}
use Rattle.iff_chunks.proofs.Closing.{data_closes, ended_closes, broken_closes, pad_closes, head_closes}
use Rattle.iff_chunks.proofs.stages.Stage.end.Goals as goal

pub returns-in-Start-clause-closes : goal.returns-in-Start-clause-closes
returns-in-Start-clause-closes c = rw c.truncated.ensures (head_closes c.args.self c.requires c.in-Start.is)

pub returns-in-Data-clause-closes : goal.returns-in-Data-clause-closes
returns-in-Data-clause-closes c =
    subst (λ (p : Stage). Closes p c.truncated-in-Data.result) (sym c.in-Data.is) (rw c.truncated-in-Data.ensures (data_closes c.in-Data.chunk c.in-Data.left))

pub returns-in-Pad-clause-closes : goal.returns-in-Pad-clause-closes
returns-in-Pad-clause-closes c =
    subst (λ (p : Stage). Closes p c.cut_before_pad.result) (sym c.in-Pad.is) (rw c.cut_before_pad.ensures (pad_closes c.in-Pad.chunk))

pub returns-in-Ended-clause-closes : goal.returns-in-Ended-clause-closes
returns-in-Ended-clause-closes c = rw c.in-Ended.is ended_closes

pub returns-in-Broken-clause-closes : goal.returns-in-Broken-clause-closes
returns-in-Broken-clause-closes c = rw c.in-Broken.is (broken_closes c.in-Broken.kind c.in-Broken.offset)
