use Rattle.std.proofs.Common.{[], arith}
use Rattle.codec_tests.proofs.places.marks_are_placed.Goals as goal

pub new_row-requires-clause-room : goal.new_row-requires-clause-room
new_row-requires-clause-room g c = (100, [], c.new-places.ensures, omega arith)

pub same_row-requires-clause-room : goal.same_row-requires-clause-room
same_row-requires-clause-room g c = (100, _, c.new_row.ensures.after 100 [] c.new-places.ensures, omega arith)
