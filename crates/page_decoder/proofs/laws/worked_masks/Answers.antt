use lib.Utf8.{encode}
use Rattle.std.proofs.Common.{refl}
use Rattle.std.specs.Fmt.{digits}
use Rattle.std.specs.Str.{chars, is_utf8}
use Rattle.djvu_base.specs.Library.{file_limit}
use Rattle.zp_decoder.specs.Decision.{most_bits}
use Rattle.jb2_numbers.specs.Number.{most_decisions}
use Rattle.jb2_records.specs.Reading.{most_records}
use Rattle.page_decoder.proofs.laws.worked_masks.Goals as goal

pub returns-clause-dot : goal.returns-clause-dot
unfolding digits is_utf8 chars encode file_limit most_bits most_decisions most_records
returns-clause-dot c = refl

pub returns-clause-longer : goal.returns-clause-longer
unfolding digits is_utf8 chars encode file_limit most_bits most_decisions most_records
returns-clause-longer c = refl

pub returns-clause-behind_another : goal.returns-clause-behind_another
unfolding digits is_utf8 chars encode file_limit most_bits most_decisions most_records
returns-clause-behind_another c = refl

pub returns-clause-cut_early : goal.returns-clause-cut_early
unfolding digits is_utf8 chars encode file_limit most_bits most_decisions most_records
returns-clause-cut_early c = refl

pub returns-clause-cut_late : goal.returns-clause-cut_late
unfolding digits is_utf8 chars encode file_limit most_bits most_decisions most_records
returns-clause-cut_late c = refl

pub returns-clause-cut_behind : goal.returns-clause-cut_behind
unfolding digits is_utf8 chars encode file_limit most_bits most_decisions most_records
returns-clause-cut_behind c = refl

pub returns-clause-broken_off : goal.returns-clause-broken_off
unfolding digits is_utf8 chars encode file_limit most_bits most_decisions most_records
returns-clause-broken_off c = refl

pub returns-clause-arriving : goal.returns-clause-arriving
unfolding digits is_utf8 chars encode file_limit most_bits most_decisions most_records
returns-clause-arriving c = refl

pub returns-clause-no_start : goal.returns-clause-no_start
unfolding digits is_utf8 chars encode file_limit most_bits most_decisions most_records
returns-clause-no_start c = refl

pub returns-clause-past_the_end : goal.returns-clause-past_the_end
unfolding digits is_utf8 chars encode file_limit most_bits most_decisions most_records
returns-clause-past_the_end c = refl

pub returns-clause-other_size : goal.returns-clause-other_size
unfolding digits is_utf8 chars encode file_limit most_bits most_decisions most_records
returns-clause-other_size c = refl

pub returns-clause-no_data : goal.returns-clause-no_data
unfolding digits is_utf8 chars encode file_limit most_bits most_decisions most_records
returns-clause-no_data c = refl

pub returns-clause-two_masks : goal.returns-clause-two_masks
unfolding digits is_utf8 chars encode file_limit most_bits most_decisions most_records
returns-clause-two_masks c = refl
