use Rattle.std.proofs.Common.{refl}
use Rattle.std.specs.Fmt.{digits}
use Rattle.viewer_words.proofs.laws.worked_lines.Goals as goal

pub returns-clause-notice : goal.returns-clause-notice
unfolding digits
returns-clause-notice c = refl

pub returns-clause-fault : goal.returns-clause-fault
unfolding digits
returns-clause-fault c = refl

pub returns-clause-other_file : goal.returns-clause-other_file
unfolding digits
returns-clause-other_file c = refl

pub returns-clause-form : goal.returns-clause-form
unfolding digits
returns-clause-form c = refl

pub returns-clause-chunk : goal.returns-clause-chunk
unfolding digits
returns-clause-chunk c = refl

pub returns-clause-words : goal.returns-clause-words
unfolding digits
returns-clause-words c = refl

pub returns-clause-names : goal.returns-clause-names
unfolding digits
returns-clause-names c = refl

pub returns-clause-table : goal.returns-clause-table
unfolding digits
returns-clause-table c = refl
