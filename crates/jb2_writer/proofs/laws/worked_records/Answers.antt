use Rattle.std.proofs.Common.{refl}
use Rattle.zp_decoder.specs.Decision.{most_bits}
use Rattle.jb2_numbers.specs.Number.{most_decisions}
use Rattle.jb2_records.specs.Reading.{most_records}
use Rattle.jb2_writer.proofs.laws.worked_records.Goals as goal

pub returns-clause-eleven : goal.returns-clause-eleven
unfolding most_decisions
returns-clause-eleven c = refl

pub returns-clause-mark : goal.returns-clause-mark
unfolding most_decisions
returns-clause-mark c = refl

pub returns-clause-mark_read : goal.returns-clause-mark_read
unfolding most_bits most_decisions most_records
returns-clause-mark_read c = record { finished = refl; same = refl }

pub returns-clause-dictionary : goal.returns-clause-dictionary
unfolding most_decisions
returns-clause-dictionary c = refl

pub returns-clause-dictionary_read : goal.returns-clause-dictionary_read
unfolding most_bits most_decisions most_records
returns-clause-dictionary_read c = record { finished = refl; same = refl }

pub returns-clause-good : goal.returns-clause-good
unfolding most_decisions
returns-clause-good c = refl

pub returns-clause-no_start : goal.returns-clause-no_start
unfolding most_decisions
returns-clause-no_start c = refl

pub returns-clause-no_end : goal.returns-clause-no_end
unfolding most_decisions
returns-clause-no_end c = refl

pub returns-clause-behind : goal.returns-clause-behind
unfolding most_decisions
returns-clause-behind c = refl

pub returns-clause-no_match : goal.returns-clause-no_match
unfolding most_decisions
returns-clause-no_match c = refl

pub returns-clause-sized : goal.returns-clause-sized
unfolding most_decisions
returns-clause-sized c = refl

pub returns-clause-far : goal.returns-clause-far
unfolding most_decisions
returns-clause-far c = refl

pub returns-clause-required : goal.returns-clause-required
unfolding most_decisions
returns-clause-required c = refl

pub returns-clause-refined_read : goal.returns-clause-refined_read
unfolding most_bits most_decisions most_records
returns-clause-refined_read c = record { finished = refl; same = refl }

pub returns-clause-refining_read : goal.returns-clause-refining_read
unfolding most_bits most_decisions most_records
returns-clause-refining_read c = record { finished = refl; same = refl }

pub returns-clause-copied_read : goal.returns-clause-copied_read
unfolding most_bits most_decisions most_records
returns-clause-copied_read c = record { finished = refl; same = refl }

pub returns-clause-late_read : goal.returns-clause-late_read
unfolding most_bits most_decisions most_records
returns-clause-late_read c = record { finished = refl; same = refl }

pub returns-clause-all_read : goal.returns-clause-all_read
unfolding most_bits most_decisions most_records
returns-clause-all_read c = record { finished = refl; same = refl }

pub returns-clause-late_coded : goal.returns-clause-late_coded
unfolding most_decisions
returns-clause-late_coded c = refl

pub returns-clause-all_coded : goal.returns-clause-all_coded
unfolding most_decisions
returns-clause-all_coded c = refl

pub returns-clause-all_good : goal.returns-clause-all_good
unfolding most_decisions
returns-clause-all_good c = refl

pub returns-clause-second : goal.returns-clause-second
unfolding most_decisions
returns-clause-second c = refl
