use Rattle.std.proofs.Common.{◌≡◌}
use Rattle.djvu_base.specs.Library.{Open}
use Rattle.page_tests.proofs.fed.Reading.feed_pieces.Given as goal

abbrev pub invariant-pieces : goal.invariant-pieces
invariant-pieces l = l.self.decoder.mark ≡ Open
