use Rattle.std.proofs.Common.{sym, ◌∙◌}
use Rattle.iw44_slices.proofs.Standing.{slice_begins, slice_is_empty}
use Rattle.iw44_slices.proofs.spots.Spot.begin_slice.Goals as goal

pub returns-then-does_something-clause-left : goal.returns-then-does_something-clause-left
returns-then-does_something-clause-left c slice course plane left =
    slice_begins slice course plane c.args.self.now c.requires (sym c.does_something.ensures ∙ c.if-does_something.true) left

pub returns-else-does_something-clause-left : goal.returns-else-does_something-clause-left
returns-else-does_something-clause-left c slice course plane left =
    slice_is_empty slice course plane c.args.self.now c.requires (sym c.does_something.ensures ∙ c.if-does_something.false) left
