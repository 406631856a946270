use Rattle.djvu_outside.proofs.CallLemmas.{failures_left-after, failures_left-after_failing}
use Rattle.djvu_outside.proofs.calls.Calls.fails.Goals as goal

pub returns-clause-fewer : goal.returns-clause-fewer
returns-clause-fewer c = rw (c.number_after-self-inside.ensures, ← c.self.view_is) (failures_left-after _)

pub returns-clause-one_fewer : goal.returns-clause-one_fewer
returns-clause-one_fewer c =
    let calls = c.self.inside in
    rw (c.number_after-self-inside.ensures, c.fails_at-fails.ensures, c.as_slice.ensures.value, ← c.self.view_is) (failures_left-after_failing (record { failing = calls.failing.items; next = calls.next }))
