use Rattle.std.proofs.Common.{refl}
use Rattle.zp_decoder.specs.Decision.{most_bits}
use Rattle.jb2_numbers.specs.Number.{most_decisions}
use Rattle.jb2_records.specs.Reading.{most_records}
use Rattle.jb2_records.proofs.laws.worked_dictionaries.Goals as goal

pub returns-clause-inherited : goal.returns-clause-inherited
unfolding most_bits most_decisions most_records
returns-clause-inherited c = refl

pub returns-clause-refining : goal.returns-clause-refining
unfolding most_bits most_decisions most_records
returns-clause-refining c = refl

pub returns-clause-refining_left : goal.returns-clause-refining_left
unfolding most_bits most_decisions most_records
returns-clause-refining_left c = refl

pub returns-clause-inheriting : goal.returns-clause-inheriting
unfolding most_bits most_decisions most_records
returns-clause-inheriting c = refl

pub returns-clause-inheriting_left : goal.returns-clause-inheriting_left
unfolding most_bits most_decisions most_records
returns-clause-inheriting_left c = refl

pub returns-clause-behind : goal.returns-clause-behind
unfolding most_bits most_decisions most_records
returns-clause-behind c = refl

pub returns-clause-behind_drawn : goal.returns-clause-behind_drawn
unfolding most_bits most_decisions most_records
returns-clause-behind_drawn c = refl

pub returns-clause-wide_start : goal.returns-clause-wide_start
unfolding most_bits most_decisions most_records
returns-clause-wide_start c = refl

pub returns-clause-large_shape : goal.returns-clause-large_shape
unfolding most_bits most_decisions most_records
returns-clause-large_shape c = refl

pub returns-clause-too_large : goal.returns-clause-too_large
unfolding most_bits most_decisions most_records
returns-clause-too_large c = refl

pub returns-clause-large_allowed : goal.returns-clause-large_allowed
returns-clause-large_allowed c = refl
