use lib.Utf8.{encode}
use Rattle.std.proofs.Common.{refl}
use Rattle.std.specs.Fmt.{digits}
use Rattle.std.specs.Str.{chars, is_utf8}
use Rattle.djvu_base.specs.Library.{file_limit}
use Rattle.zp_decoder.specs.Decision.{most_bits}
use Rattle.jb2_numbers.specs.Number.{most_decisions}
use Rattle.jb2_records.specs.Reading.{most_records}
use Rattle.iw44_lifting.specs.Lift.{columns_lifted, rows_lifted}
use Rattle.layer_compose.specs.Drawing.{samples_of}
use Rattle.page_decoder.proofs.page_laws.worked.worked_pages.Goals as goal

pub returns-clause-blank : goal.returns-clause-blank
unfolding digits is_utf8 chars encode file_limit most_bits most_decisions most_records columns_lifted rows_lifted samples_of
returns-clause-blank c = record { notices_so = refl; decisions_so = refl; end_so = refl }

pub returns-clause-mask : goal.returns-clause-mask
unfolding digits is_utf8 chars encode file_limit most_bits most_decisions most_records columns_lifted rows_lifted samples_of
returns-clause-mask c = record { notices_so = refl; decisions_so = refl; end_so = refl }

pub returns-clause-mask_arriving : goal.returns-clause-mask_arriving
unfolding digits is_utf8 chars encode file_limit most_bits most_decisions most_records columns_lifted rows_lifted samples_of
returns-clause-mask_arriving c = record { notices_so = refl; decisions_so = refl; end_so = refl }

pub returns-clause-mask_longer : goal.returns-clause-mask_longer
unfolding digits is_utf8 chars encode file_limit most_bits most_decisions most_records columns_lifted rows_lifted samples_of
returns-clause-mask_longer c = record { notices_so = refl; decisions_so = refl; end_so = refl }

pub returns-clause-cut : goal.returns-clause-cut
unfolding digits is_utf8 chars encode file_limit most_bits most_decisions most_records columns_lifted rows_lifted samples_of
returns-clause-cut c = record { notices_so = refl; decisions_so = refl; end_so = refl }

pub returns-clause-overrun : goal.returns-clause-overrun
unfolding digits is_utf8 chars encode file_limit most_bits most_decisions most_records columns_lifted rows_lifted samples_of
returns-clause-overrun c = record { notices_so = refl; decisions_so = refl; end_so = refl }

pub returns-clause-refused : goal.returns-clause-refused
unfolding digits is_utf8 chars encode file_limit most_bits most_decisions most_records columns_lifted rows_lifted samples_of
returns-clause-refused c = record { notices_so = refl; decisions_so = refl; end_so = refl }

pub returns-clause-passed_over : goal.returns-clause-passed_over
unfolding digits is_utf8 chars encode file_limit most_bits most_decisions most_records columns_lifted rows_lifted samples_of
returns-clause-passed_over c = record { notices_so = refl; decisions_so = refl; end_so = refl }

pub returns-clause-too_large : goal.returns-clause-too_large
unfolding digits is_utf8 chars encode file_limit most_bits most_decisions most_records columns_lifted rows_lifted samples_of
returns-clause-too_large c = record { notices_so = refl; decisions_so = refl; end_so = refl }

pub returns-clause-no_width : goal.returns-clause-no_width
unfolding digits is_utf8 chars encode file_limit most_bits most_decisions most_records columns_lifted rows_lifted samples_of
returns-clause-no_width c = record { notices_so = refl; decisions_so = refl; end_so = refl }

pub returns-clause-second_info : goal.returns-clause-second_info
unfolding digits is_utf8 chars encode file_limit most_bits most_decisions most_records columns_lifted rows_lifted samples_of
returns-clause-second_info c = record { notices_so = refl; decisions_so = refl; end_so = refl }

pub returns-clause-mask_first : goal.returns-clause-mask_first
unfolding digits is_utf8 chars encode file_limit most_bits most_decisions most_records columns_lifted rows_lifted samples_of
returns-clause-mask_first c = record { notices_so = refl; decisions_so = refl; end_so = refl }

pub returns-clause-no_chunk : goal.returns-clause-no_chunk
unfolding digits is_utf8 chars encode file_limit most_bits most_decisions most_records columns_lifted rows_lifted samples_of
returns-clause-no_chunk c = record { notices_so = refl; decisions_so = refl; end_so = refl }

pub returns-clause-no_start : goal.returns-clause-no_start
unfolding digits is_utf8 chars encode file_limit most_bits most_decisions most_records columns_lifted rows_lifted samples_of
returns-clause-no_start c = record { notices_so = refl; decisions_so = refl; end_so = refl }

pub returns-clause-past_the_end : goal.returns-clause-past_the_end
unfolding digits is_utf8 chars encode file_limit most_bits most_decisions most_records columns_lifted rows_lifted samples_of
returns-clause-past_the_end c = record { notices_so = refl; decisions_so = refl; end_so = refl }

pub returns-clause-no_mask : goal.returns-clause-no_mask
unfolding digits is_utf8 chars encode file_limit most_bits most_decisions most_records columns_lifted rows_lifted samples_of
returns-clause-no_mask c = record { notices_so = refl; decisions_so = refl; end_so = refl }

pub returns-clause-own_dictionary : goal.returns-clause-own_dictionary
unfolding digits is_utf8 chars encode file_limit most_bits most_decisions most_records columns_lifted rows_lifted samples_of
returns-clause-own_dictionary c = record { notices_so = refl; decisions_so = refl; end_so = refl }

pub returns-clause-mark_in_dictionary : goal.returns-clause-mark_in_dictionary
unfolding digits is_utf8 chars encode file_limit most_bits most_decisions most_records columns_lifted rows_lifted samples_of
returns-clause-mark_in_dictionary c = record { notices_so = refl; decisions_so = refl; end_so = refl }
