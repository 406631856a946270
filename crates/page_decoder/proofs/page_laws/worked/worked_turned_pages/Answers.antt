use lib.Utf8.{encode}
use Rattle.std.proofs.Common.{refl}
use Rattle.std.specs.Fmt.{digits}
use Rattle.std.specs.Str.{chars, is_utf8}
use Rattle.djvu_base.specs.Library.{file_limit}
use Rattle.zp_decoder.specs.Decision.{most_bits}
use Rattle.jb2_numbers.specs.Number.{most_decisions}
use Rattle.jb2_records.specs.Reading.{most_records}
use Rattle.iw44_lifting.specs.Lift.{columns_lifted, rows_lifted}
use Rattle.layer_compose.specs.Drawing.{samples_of}
use Rattle.page_decoder.proofs.page_laws.worked.worked_turned_pages.Goals as goal

pub returns-clause-right : goal.returns-clause-right
unfolding digits is_utf8 chars encode file_limit most_bits most_decisions most_records columns_lifted rows_lifted samples_of
returns-clause-right c = refl

pub returns-clause-left : goal.returns-clause-left
unfolding digits is_utf8 chars encode file_limit most_bits most_decisions most_records columns_lifted rows_lifted samples_of
returns-clause-left c = refl

pub returns-clause-over : goal.returns-clause-over
unfolding digits is_utf8 chars encode file_limit most_bits most_decisions most_records columns_lifted rows_lifted samples_of
returns-clause-over c = refl

pub returns-clause-other : goal.returns-clause-other
unfolding digits is_utf8 chars encode file_limit most_bits most_decisions most_records columns_lifted rows_lifted samples_of
returns-clause-other c = refl

pub returns-clause-short : goal.returns-clause-short
unfolding digits is_utf8 chars encode file_limit most_bits most_decisions most_records columns_lifted rows_lifted samples_of
returns-clause-short c = refl
