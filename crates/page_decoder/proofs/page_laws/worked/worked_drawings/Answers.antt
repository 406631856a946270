use lib.Utf8.{encode}
use Rattle.std.proofs.Common.{refl}
use Rattle.std.specs.Fmt.{digits}
use Rattle.std.specs.Str.{chars, is_utf8}
use Rattle.djvu_base.specs.Library.{file_limit}
use Rattle.zp_decoder.specs.Decision.{most_bits}
use Rattle.jb2_numbers.specs.Number.{most_decisions}
use Rattle.jb2_records.specs.Reading.{most_records}
use Rattle.iw44_lifting.specs.Lift.{columns_lifted, rows_lifted}
use Rattle.layer_compose.specs.Drawing.{samples_of}
use Rattle.page_decoder.proofs.page_laws.worked.worked_drawings.Goals as goal

pub returns-clause-nothing : goal.returns-clause-nothing
unfolding digits is_utf8 chars encode file_limit most_bits most_decisions most_records columns_lifted rows_lifted samples_of
returns-clause-nothing c = refl

pub returns-clause-first : goal.returns-clause-first
unfolding digits is_utf8 chars encode file_limit most_bits most_decisions most_records columns_lifted rows_lifted samples_of
returns-clause-first c = refl

pub returns-clause-include : goal.returns-clause-include
unfolding digits is_utf8 chars encode file_limit most_bits most_decisions most_records columns_lifted rows_lifted samples_of
returns-clause-include c = refl

pub returns-clause-mask : goal.returns-clause-mask
unfolding digits is_utf8 chars encode file_limit most_bits most_decisions most_records columns_lifted rows_lifted samples_of
returns-clause-mask c = refl

pub returns-clause-beyond : goal.returns-clause-beyond
unfolding digits is_utf8 chars encode file_limit most_bits most_decisions most_records columns_lifted rows_lifted samples_of
returns-clause-beyond c = refl

pub returns-clause-decisions : goal.returns-clause-decisions
unfolding digits is_utf8 chars encode file_limit most_bits most_decisions most_records columns_lifted rows_lifted samples_of
returns-clause-decisions c = refl
