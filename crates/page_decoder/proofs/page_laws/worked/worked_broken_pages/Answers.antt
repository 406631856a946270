use lib.Utf8.{encode}
use Rattle.std.proofs.Common.{refl}
use Rattle.std.specs.Fmt.{digits}
use Rattle.std.specs.Str.{chars, is_utf8}
use Rattle.djvu_base.specs.Library.{file_limit}
use Rattle.zp_decoder.specs.Decision.{most_bits}
use Rattle.jb2_numbers.specs.Number.{most_decisions}
use Rattle.jb2_records.specs.Reading.{most_records}
use Rattle.iw44_lifting.specs.Lift.{columns_lifted, rows_lifted}
use Rattle.layer_compose.specs.Drawing.{samples_of}
use Rattle.page_decoder.proofs.page_laws.worked.worked_broken_pages.Goals as goal

pub returns-clause-length_3 : goal.returns-clause-length_3
unfolding digits is_utf8 chars encode file_limit most_bits most_decisions most_records columns_lifted rows_lifted samples_of
returns-clause-length_3 c = record { notices_so = refl; decisions_so = refl; end_so = refl }

pub returns-clause-no_header : goal.returns-clause-no_header
unfolding digits is_utf8 chars encode file_limit most_bits most_decisions most_records columns_lifted rows_lifted samples_of
returns-clause-no_header c = record { notices_so = refl; decisions_so = refl; end_so = refl }

pub returns-clause-in_header : goal.returns-clause-in_header
unfolding digits is_utf8 chars encode file_limit most_bits most_decisions most_records columns_lifted rows_lifted samples_of
returns-clause-in_header c = record { notices_so = refl; decisions_so = refl; end_so = refl }

pub returns-clause-three_left : goal.returns-clause-three_left
unfolding digits is_utf8 chars encode file_limit most_bits most_decisions most_records columns_lifted rows_lifted samples_of
returns-clause-three_left c = record { notices_so = refl; decisions_so = refl; end_so = refl }

pub returns-clause-bad_id : goal.returns-clause-bad_id
unfolding digits is_utf8 chars encode file_limit most_bits most_decisions most_records columns_lifted rows_lifted samples_of
returns-clause-bad_id c = record { notices_so = refl; decisions_so = refl; end_so = refl }

pub returns-clause-too_long : goal.returns-clause-too_long
unfolding digits is_utf8 chars encode file_limit most_bits most_decisions most_records columns_lifted rows_lifted samples_of
returns-clause-too_long c = record { notices_so = refl; decisions_so = refl; end_so = refl }

pub returns-clause-longest : goal.returns-clause-longest
unfolding digits is_utf8 chars encode file_limit most_bits most_decisions most_records columns_lifted rows_lifted samples_of
returns-clause-longest c = record { notices_so = refl; decisions_so = refl; end_so = refl }

pub returns-clause-second_start : goal.returns-clause-second_start
unfolding digits is_utf8 chars encode file_limit most_bits most_decisions most_records columns_lifted rows_lifted samples_of
returns-clause-second_start c = record { notices_so = refl; decisions_so = refl; end_so = refl }

pub returns-clause-no_match : goal.returns-clause-no_match
unfolding digits is_utf8 chars encode file_limit most_bits most_decisions most_records columns_lifted rows_lifted samples_of
returns-clause-no_match c = record { notices_so = refl; decisions_so = refl; end_so = refl }

pub returns-clause-sized_dictionary : goal.returns-clause-sized_dictionary
unfolding digits is_utf8 chars encode file_limit most_bits most_decisions most_records columns_lifted rows_lifted samples_of
returns-clause-sized_dictionary c = record { notices_so = refl; decisions_so = refl; end_so = refl }

pub returns-clause-two_masks : goal.returns-clause-two_masks
unfolding digits is_utf8 chars encode file_limit most_bits most_decisions most_records columns_lifted rows_lifted samples_of
returns-clause-two_masks c = record { notices_so = refl; decisions_so = refl; end_so = refl }

pub returns-clause-two_dictionaries : goal.returns-clause-two_dictionaries
unfolding digits is_utf8 chars encode file_limit most_bits most_decisions most_records columns_lifted rows_lifted samples_of
returns-clause-two_dictionaries c = record { notices_so = refl; decisions_so = refl; end_so = refl }

pub returns-clause-two_fronts : goal.returns-clause-two_fronts
unfolding digits is_utf8 chars encode file_limit most_bits most_decisions most_records columns_lifted rows_lifted samples_of
returns-clause-two_fronts c = record { notices_so = refl; decisions_so = refl; end_so = refl }

pub returns-clause-no_name : goal.returns-clause-no_name
unfolding digits is_utf8 chars encode file_limit most_bits most_decisions most_records columns_lifted rows_lifted samples_of
returns-clause-no_name c = record { notices_so = refl; decisions_so = refl; end_so = refl }
