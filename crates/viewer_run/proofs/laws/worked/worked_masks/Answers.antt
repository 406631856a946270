use lib.Utf8.{encode}
use Rattle.std.proofs.Common.{refl}
use Rattle.std.specs.Fmt.{digits}
use Rattle.std.specs.Str.{chars, is_utf8}
use Rattle.djvu_base.specs.Library.{file_limit}
use Rattle.zp_decoder.specs.Decision.{most_bits}
use Rattle.jb2_numbers.specs.Number.{most_decisions}
use Rattle.jb2_records.specs.Reading.{most_records}
use Rattle.layer_compose.specs.Drawing.{samples_of}
use Rattle.viewer_words.specs.Words.{page_limit}
use Rattle.viewer_run.proofs.laws.worked.worked_masks.Goals as goal

pub returns-clause-black : goal.returns-clause-black
unfolding digits is_utf8 chars encode file_limit page_limit most_bits most_decisions most_records samples_of
returns-clause-black c = refl

pub returns-clause-no_start : goal.returns-clause-no_start
unfolding digits is_utf8 chars encode file_limit page_limit most_bits most_decisions most_records samples_of
returns-clause-no_start c = refl

pub returns-clause-cut : goal.returns-clause-cut
unfolding digits is_utf8 chars encode file_limit page_limit most_bits most_decisions most_records samples_of
returns-clause-cut c = refl

pub returns-clause-listed : goal.returns-clause-listed
unfolding digits is_utf8 chars encode file_limit page_limit most_bits most_decisions most_records samples_of
returns-clause-listed c = refl

pub returns-clause-reading_failed : goal.returns-clause-reading_failed
unfolding digits is_utf8 chars encode file_limit page_limit most_bits most_decisions most_records samples_of
returns-clause-reading_failed c = refl
