use Rattle.jb2_numbers.proofs.Names.{same_names, same_parts}
use Rattle.jb2_numbers.proofs.laws.names_differ.Goals as goal

pub returns-clause-same : goal.returns-clause-same
returns-clause-same c = same_names

pub returns-clause-parts : goal.returns-clause-parts
returns-clause-parts c = same_parts
