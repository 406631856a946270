use lib.Utf8.{encode}
use Rattle.std.proofs.Common.{refl}
use Rattle.std.specs.Fmt.{digits}
use Rattle.std.specs.Str.{chars, is_utf8}
use Rattle.djvu_base.specs.Library.{file_limit}
use Rattle.zp_decoder.specs.Decision.{most_bits}
use Rattle.jb2_numbers.specs.Number.{most_decisions}
use Rattle.jb2_records.specs.Reading.{most_records}
use Rattle.iw44_lifting.specs.Lift.{columns_lifted, rows_lifted}
use Rattle.layer_compose.specs.Drawing.{samples_of}
use Rattle.page_decoder.proofs.page_laws.worked.worked_refusals.Goals as goal

pub returns-clause-header : goal.returns-clause-header
unfolding digits is_utf8 chars encode file_limit most_bits most_decisions most_records columns_lifted rows_lifted samples_of
returns-clause-header c = record { notices_so = refl; decisions_so = refl; end_so = refl }

pub returns-clause-serial : goal.returns-clause-serial
unfolding digits is_utf8 chars encode file_limit most_bits most_decisions most_records columns_lifted rows_lifted samples_of
returns-clause-serial c = record { notices_so = refl; decisions_so = refl; end_so = refl }

pub returns-clause-version : goal.returns-clause-version
unfolding digits is_utf8 chars encode file_limit most_bits most_decisions most_records columns_lifted rows_lifted samples_of
returns-clause-version c = record { notices_so = refl; decisions_so = refl; end_so = refl }

pub returns-clause-no_width : goal.returns-clause-no_width
unfolding digits is_utf8 chars encode file_limit most_bits most_decisions most_records columns_lifted rows_lifted samples_of
returns-clause-no_width c = record { notices_so = refl; decisions_so = refl; end_so = refl }

pub returns-clause-size : goal.returns-clause-size
unfolding digits is_utf8 chars encode file_limit most_bits most_decisions most_records columns_lifted rows_lifted samples_of
returns-clause-size c = record { notices_so = refl; decisions_so = refl; end_so = refl }
