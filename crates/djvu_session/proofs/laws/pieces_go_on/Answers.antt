use Rattle.std.proofs.Common.{arith}
use Rattle.djvu_session.proofs.Arriving.{file_goes_on, library_goes_on, names_are}
use Rattle.djvu_session.proofs.laws.pieces_go_on.Goals as goal

pub returns-clause-files : goal.returns-clause-files
returns-clause-files c name xs ys prefix = file_goes_on name xs ys prefix

pub returns-clause-libraries : goal.returns-clause-libraries
returns-clause-libraries c names less more prefix = library_goes_on names 0 less more (λ file inside. prefix file (omega (arith, inside)))

pub returns-clause-names : goal.returns-clause-names
returns-clause-names c names pieces = names_are names 0 pieces
