use Rattle.std.proofs.Common.{arith}
use Rattle.iw44_lifting.proofs.transform.inverse_quarter.Goals as goal

pub lift-requires-2-clause-small : goal.lift-requires-2-clause-small
lift-requires-2-clause-small g c x y h k = let first = c.lift.ensures.bounded 32767 c.requires.small x y h k in omega arith

pub lift-requires-3-clause-small : goal.lift-requires-3-clause-small
lift-requires-3-clause-small g c x y h k = let second = c.lift-2.ensures.bounded 301_092 (c.lift.ensures.bounded 32767 c.requires.small) x y h k in omega arith

pub lift-requires-4-clause-small : goal.lift-requires-4-clause-small
lift-requires-4-clause-small g c x y h k =
    let third = c.lift-3.ensures.bounded 2_766_592 (c.lift-2.ensures.bounded 301_092 (c.lift.ensures.bounded 32767 c.requires.small)) x y h k in omega arith

pub returns-clause-bounded : goal.returns-clause-bounded
returns-clause-bounded g c x y h k =
    let second = c.lift-2.ensures.bounded 301_092 (c.lift.ensures.bounded 32767 c.requires.small) in
    let fourth = c.lift-4.ensures.bounded 25_420_781 (c.lift-3.ensures.bounded 2_766_592 second) x y h k in omega arith

pub lift-requires-clause-fits : goal.lift-requires-clause-fits
lift-requires-clause-fits g c = (32767, c.requires.small, omega (arith, c.requires.fits))

pub lift-requires-2-clause-fits : goal.lift-requires-2-clause-fits
lift-requires-2-clause-fits g c = (301_092, c.lift.ensures.bounded 32767 c.requires.small, omega (arith, c.requires.fits))

pub lift-requires-3-clause-fits : goal.lift-requires-3-clause-fits
lift-requires-3-clause-fits g c = (2_766_592, c.lift-2.ensures.bounded 301_092 (c.lift.ensures.bounded 32767 c.requires.small), omega (arith, c.requires.fits))

pub lift-requires-4-clause-fits : goal.lift-requires-4-clause-fits
lift-requires-4-clause-fits g c =
    let second = c.lift-2.ensures.bounded 301_092 (c.lift.ensures.bounded 32767 c.requires.small) in
    (25_420_781, c.lift-3.ensures.bounded 2_766_592 second, omega (arith, c.requires.fits))
