use Rattle.std.proofs.Common.{◌≡◌, ◌<◌, ℕ, min, sym, ◌∙◌, ap, arith}
use Rattle.iw44_slices.specs.Reader.{place_at}
use Rattle.iw44_slices.proofs.Naming.{some_parents}
use Rattle.iw44_slices.proofs.asking.near_parents.Goals as goal

pub returns-else-band-eq0-clause-is : goal.returns-else-band-eq0-clause-is
returns-else-band-eq0-clause-is c number =
    let some : 0 < c.args.band = omega (arith, c.if-band-eq0.false) in
    let turned : c.min.result ≡ min 3 c.parents.result = omega (arith, c.min.ensures) in
    turned ∙ (ap (λ (n : ℕ). min 3 n) (c.parents.ensures.is number)
    ∙ sym (some_parents c.args.band (place_at number c.args.block c.args.coefficients.now) c.args.bucket some))
