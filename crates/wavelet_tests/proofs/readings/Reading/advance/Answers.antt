use Rattle.std.proofs.Common.{IsSome, subst, sym, refl}
use Rattle.wavelet_tests.proofs.readings.Reading.advance.Goals as goal

pub returns-clause-known : goal.returns-clause-known
returns-clause-known c = λ before told.
    let size = c.in-Sized.ensures.sized c.in-Sized.width c.in-Sized.height refl in
    let known = subst IsSome (sym size.known) refl in
    subst IsSome (sym (c.advance.ensures.header known)) known
