use Rattle.std.proofs.Common.{sym, subst}
use Rattle.zp_decoder.specs.Decoder.{Fed}
use Rattle.zp_decoder.proofs.Feeding.{some_fed, standing_is}
use Rattle.zp_decoder.specs.contracts.decoder.ZpDecoder.{the_view}
use Rattle.zp_decoder.proofs.decoder.ZpDecoder.was_fed.Goals as goal

pub returns-clause-some : goal.returns-clause-some
returns-clause-some c =
    let some = some_fed (the_view c.self.inside) c.self.invariant.1 in
    (some.0, some.1, subst (Fed some.0 some.1) c.self.view_is some.2)

pub returns-clause-standing : goal.returns-clause-standing
returns-clause-standing c payload place fed =
    standing_is payload place (the_view c.self.inside) c.self.invariant.0 (subst (Fed payload place) (sym c.self.view_is) fed)
