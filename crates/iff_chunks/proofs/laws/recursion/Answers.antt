use Rattle.iff_chunks.proofs.Fuel.{rest_found, enough_found}
use Rattle.iff_chunks.proofs.laws.recursion.Goals as goal

pub returns-clause-found : goal.returns-clause-found
returns-clause-found c offset left bytes = rest_found offset left bytes

pub returns-clause-count : goal.returns-clause-count
returns-clause-count c most offset left bytes h = enough_found most offset left bytes h
