use lib.Utf8.{encode}
use Rattle.std.proofs.Common.{refl}
use Rattle.std.specs.Fmt.{digits}
use Rattle.std.specs.Str.{chars, is_utf8}
use Rattle.djvu_base.specs.Library.{file_limit}
use Rattle.zp_decoder.specs.Decision.{most_bits}
use Rattle.jb2_numbers.specs.Number.{most_decisions}
use Rattle.jb2_records.specs.Reading.{most_records}
use Rattle.layer_compose.specs.Drawing.{samples_of}
use Rattle.viewer_words.specs.Words.{page_limit}
use Rattle.viewer_run.proofs.laws.worked.worked_runs.Goals as goal

pub returns-clause-drawn : goal.returns-clause-drawn
unfolding digits is_utf8 chars encode file_limit page_limit most_bits most_decisions most_records samples_of
returns-clause-drawn c = refl

pub returns-clause-in_order : goal.returns-clause-in_order
unfolding digits is_utf8 chars encode file_limit page_limit most_bits most_decisions most_records samples_of
returns-clause-in_order c = refl

pub returns-clause-second_info : goal.returns-clause-second_info
unfolding digits is_utf8 chars encode file_limit page_limit most_bits most_decisions most_records samples_of
returns-clause-second_info c = refl

pub returns-clause-twice : goal.returns-clause-twice
unfolding digits is_utf8 chars encode file_limit page_limit most_bits most_decisions most_records samples_of
returns-clause-twice c = refl

pub returns-clause-no_page : goal.returns-clause-no_page
unfolding digits is_utf8 chars encode file_limit page_limit most_bits most_decisions most_records samples_of
returns-clause-no_page c = refl

pub returns-clause-table : goal.returns-clause-table
unfolding digits is_utf8 chars encode file_limit page_limit most_bits most_decisions most_records samples_of
returns-clause-table c = refl

pub returns-clause-no_table : goal.returns-clause-no_table
unfolding digits is_utf8 chars encode file_limit page_limit most_bits most_decisions most_records samples_of
returns-clause-no_table c = refl

pub returns-clause-first_refused : goal.returns-clause-first_refused
unfolding digits is_utf8 chars encode file_limit page_limit most_bits most_decisions most_records samples_of
returns-clause-first_refused c = refl

pub returns-clause-listing_failed : goal.returns-clause-listing_failed
unfolding digits is_utf8 chars encode file_limit page_limit most_bits most_decisions most_records samples_of
returns-clause-listing_failed c = refl

pub returns-clause-no_front : goal.returns-clause-no_front
unfolding digits is_utf8 chars encode file_limit page_limit most_bits most_decisions most_records samples_of
returns-clause-no_front c = refl

pub returns-clause-reading_failed : goal.returns-clause-reading_failed
unfolding digits is_utf8 chars encode file_limit page_limit most_bits most_decisions most_records samples_of
returns-clause-reading_failed c = refl
