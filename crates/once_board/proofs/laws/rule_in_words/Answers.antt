use Rattle.once_board.proofs.StatedRule.{stated}
use Rattle.once_board.proofs.laws.rule_in_words.Goals as goal

pub returns : goal.returns
returns g c = λ owners s r. stated g.T.Share.fits owners s r
