use lib.Utf8.{encode}
use Rattle.std.proofs.Common.{refl}
use Rattle.std.specs.Fmt.{digits}
use Rattle.std.specs.Str.{chars, is_utf8}
use Rattle.djvu_base.specs.Library.{file_limit}
use Rattle.zp_decoder.specs.Decision.{most_bits}
use Rattle.jb2_numbers.specs.Number.{most_decisions}
use Rattle.jb2_records.specs.Reading.{most_records}
use Rattle.page_decoder.proofs.laws.worked_sizes.Goals as goal

pub returns-clause-sizes : goal.returns-clause-sizes
unfolding digits is_utf8 chars encode file_limit most_bits most_decisions most_records
returns-clause-sizes c = refl

pub returns-clause-at_limit : goal.returns-clause-at_limit
unfolding digits is_utf8 chars encode file_limit most_bits most_decisions most_records
returns-clause-at_limit c = refl

pub returns-clause-past_limit : goal.returns-clause-past_limit
unfolding digits is_utf8 chars encode file_limit most_bits most_decisions most_records
returns-clause-past_limit c = refl

pub returns-clause-no_rows : goal.returns-clause-no_rows
unfolding digits is_utf8 chars encode file_limit most_bits most_decisions most_records
returns-clause-no_rows c = refl
