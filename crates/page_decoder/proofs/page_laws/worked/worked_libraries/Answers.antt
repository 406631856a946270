use lib.Utf8.{encode}
use Rattle.std.proofs.Common.{refl}
use Rattle.std.specs.Fmt.{digits}
use Rattle.std.specs.Str.{chars, is_utf8}
use Rattle.djvu_base.specs.Library.{file_limit}
use Rattle.zp_decoder.specs.Decision.{most_bits}
use Rattle.jb2_numbers.specs.Number.{most_decisions}
use Rattle.jb2_records.specs.Reading.{most_records}
use Rattle.iw44_lifting.specs.Lift.{columns_lifted, rows_lifted}
use Rattle.layer_compose.specs.Drawing.{samples_of}
use Rattle.page_decoder.proofs.page_laws.worked.worked_libraries.Goals as goal

pub returns-clause-first : goal.returns-clause-first
unfolding digits is_utf8 chars encode file_limit most_bits most_decisions most_records columns_lifted rows_lifted samples_of
returns-clause-first c = record { notices_so = refl; decisions_so = refl; end_so = refl }

pub returns-clause-second : goal.returns-clause-second
unfolding digits is_utf8 chars encode file_limit most_bits most_decisions most_records columns_lifted rows_lifted samples_of
returns-clause-second c = record { notices_so = refl; decisions_so = refl; end_so = refl }

pub returns-clause-work : goal.returns-clause-work
unfolding digits is_utf8 chars encode file_limit most_bits most_decisions most_records columns_lifted rows_lifted samples_of
returns-clause-work c = refl

pub returns-clause-round : goal.returns-clause-round
unfolding digits is_utf8 chars encode file_limit most_bits most_decisions most_records columns_lifted rows_lifted samples_of
returns-clause-round c = record { notices_so = refl; decisions_so = refl; end_so = refl }

pub returns-clause-other_way : goal.returns-clause-other_way
unfolding digits is_utf8 chars encode file_limit most_bits most_decisions most_records columns_lifted rows_lifted samples_of
returns-clause-other_way c = record { notices_so = refl; decisions_so = refl; end_so = refl }

pub returns-clause-missing : goal.returns-clause-missing
unfolding digits is_utf8 chars encode file_limit most_bits most_decisions most_records columns_lifted rows_lifted samples_of
returns-clause-missing c = record { notices_so = refl; decisions_so = refl; end_so = refl }

pub returns-clause-other_count : goal.returns-clause-other_count
unfolding digits is_utf8 chars encode file_limit most_bits most_decisions most_records columns_lifted rows_lifted samples_of
returns-clause-other_count c = record { notices_so = refl; decisions_so = refl; end_so = refl }

pub returns-clause-itself : goal.returns-clause-itself
unfolding digits is_utf8 chars encode file_limit most_bits most_decisions most_records columns_lifted rows_lifted samples_of
returns-clause-itself c = record { notices_so = refl; decisions_so = refl; end_so = refl }

pub returns-clause-first_counts : goal.returns-clause-first_counts
unfolding digits is_utf8 chars encode file_limit most_bits most_decisions most_records columns_lifted rows_lifted samples_of
returns-clause-first_counts c = record { notices_so = refl; decisions_so = refl; end_so = refl }

pub returns-clause-empty_hides : goal.returns-clause-empty_hides
unfolding digits is_utf8 chars encode file_limit most_bits most_decisions most_records columns_lifted rows_lifted samples_of
returns-clause-empty_hides c = record { notices_so = refl; decisions_so = refl; end_so = refl }

pub returns-clause-missing_late : goal.returns-clause-missing_late
unfolding digits is_utf8 chars encode file_limit most_bits most_decisions most_records columns_lifted rows_lifted samples_of
returns-clause-missing_late c = record { notices_so = refl; decisions_so = refl; end_so = refl }

pub returns-clause-cut_before : goal.returns-clause-cut_before
unfolding digits is_utf8 chars encode file_limit most_bits most_decisions most_records columns_lifted rows_lifted samples_of
returns-clause-cut_before c = record { notices_so = refl; decisions_so = refl; end_so = refl }

pub returns-clause-other_work : goal.returns-clause-other_work
unfolding digits is_utf8 chars encode file_limit most_bits most_decisions most_records columns_lifted rows_lifted samples_of
returns-clause-other_work c = refl
