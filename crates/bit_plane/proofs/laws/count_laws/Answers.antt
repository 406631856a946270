use Rattle.bit_plane.proofs.Counting.{black_places, blank_count}
use Rattle.bit_plane.proofs.laws.count_laws.Goals as goal

pub returns-clause-places : goal.returns-clause-places
returns-clause-places c = black_places

pub returns-clause-blank : goal.returns-clause-blank
returns-clause-blank c = blank_count
