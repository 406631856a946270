use Rattle.std.proofs.Common.{[], subst}
use Rattle.file_shelf.specs.Shelves.{TakesAfter}
use Rattle.file_shelf.proofs.Readings.{reads_on}
use Rattle.file_shelf.proofs.shelf.Shelf.claim.Goals as goal

pub returns-in-Taken-eq2-clause-answer : goal.returns-in-Taken-eq2-clause-answer
returns-in-Taken-eq2-clause-answer g c =
    let fits = g.R.Share.fits in
    let lost = c.in-Taken-eq2.ensures.answer in
    subst (λ v. TakesAfter fits [] c.args.file v.hold c.read.new.seat.hold c.read.result) c.seat.view_is
    (reads_on fits c.args.file c.in-Taken-eq2.field-0 c.seat.inside.seat.hold lost.5 [] c.read.new.seat.hold c.read.result c.read.ensures.read
    (subst (λ h. TakesAfter fits [] c.args.file h c.read.new.seat.hold c.read.result) lost.0 c.read.ensures.answer))
