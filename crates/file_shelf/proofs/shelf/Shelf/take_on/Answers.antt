use Rattle.std.proofs.Common.{[], ◌∷◌, subst}
use Rattle.file_shelf.specs.Shelves.{TakesAfter}
use Rattle.file_shelf.proofs.Readings.{takes_on}
use Rattle.file_shelf.proofs.shelf.Shelf.take_on.Goals as goal

pub returns-in-NotYet-eq0-clause-answer : goal.returns-in-NotYet-eq0-clause-answer
returns-in-NotYet-eq0-clause-answer g c =
    let fits = g.R.Share.fits in
    let missed = c.in-NotYet-eq0.ensures.answer in
    subst (λ v. TakesAfter fits (0 ∷ []) c.args.file v.hold c.claim.new.seat.hold c.claim.result) c.seat.view_is
    (subst (λ w. TakesAfter fits (w ∷ []) c.args.file c.seat.inside.seat.hold c.claim.new.seat.hold c.claim.result) c.in-NotYet-eq0.field-0-test
    (takes_on fits c.args.file c.in-NotYet-eq0.field-0 c.seat.inside.seat.hold missed.5 [] c.claim.new.seat.hold c.claim.result
    (subst (λ h. TakesAfter fits [] c.args.file h c.claim.new.seat.hold c.claim.result) missed.0 c.claim.ensures.answer)))
