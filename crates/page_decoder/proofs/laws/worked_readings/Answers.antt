use lib.Utf8.{encode}
use Rattle.std.proofs.Common.{refl}
use Rattle.std.specs.Fmt.{digits}
use Rattle.std.specs.Str.{chars, is_utf8}
use Rattle.djvu_base.specs.Library.{file_limit}
use Rattle.zp_decoder.specs.Decision.{most_bits}
use Rattle.jb2_numbers.specs.Number.{most_decisions}
use Rattle.jb2_records.specs.Reading.{most_records}
use Rattle.page_decoder.proofs.laws.worked_readings.Goals as goal

pub returns-clause-blank : goal.returns-clause-blank
unfolding digits is_utf8 chars encode file_limit most_bits most_decisions most_records
returns-clause-blank c = refl

pub returns-clause-bare : goal.returns-clause-bare
unfolding digits is_utf8 chars encode file_limit most_bits most_decisions most_records
returns-clause-bare c = refl

pub returns-clause-empty : goal.returns-clause-empty
unfolding digits is_utf8 chars encode file_limit most_bits most_decisions most_records
returns-clause-empty c = refl

pub returns-clause-other_chunk : goal.returns-clause-other_chunk
unfolding digits is_utf8 chars encode file_limit most_bits most_decisions most_records
returns-clause-other_chunk c = refl

pub returns-clause-unread : goal.returns-clause-unread
unfolding digits is_utf8 chars encode file_limit most_bits most_decisions most_records
returns-clause-unread c = refl

pub returns-clause-overrun : goal.returns-clause-overrun
unfolding digits is_utf8 chars encode file_limit most_bits most_decisions most_records
returns-clause-overrun c = refl

pub returns-clause-too_large : goal.returns-clause-too_large
unfolding digits is_utf8 chars encode file_limit most_bits most_decisions most_records
returns-clause-too_large c = refl

pub returns-clause-no_columns : goal.returns-clause-no_columns
unfolding digits is_utf8 chars encode file_limit most_bits most_decisions most_records
returns-clause-no_columns c = refl

pub returns-clause-mask_first : goal.returns-clause-mask_first
unfolding digits is_utf8 chars encode file_limit most_bits most_decisions most_records
returns-clause-mask_first c = refl

pub returns-clause-no_chunk : goal.returns-clause-no_chunk
unfolding digits is_utf8 chars encode file_limit most_bits most_decisions most_records
returns-clause-no_chunk c = refl

pub returns-clause-no_chunk_bare : goal.returns-clause-no_chunk_bare
unfolding digits is_utf8 chars encode file_limit most_bits most_decisions most_records
returns-clause-no_chunk_bare c = refl

pub returns-clause-several : goal.returns-clause-several
unfolding digits is_utf8 chars encode file_limit most_bits most_decisions most_records
returns-clause-several c = refl

pub returns-clause-no_page : goal.returns-clause-no_page
unfolding digits is_utf8 chars encode file_limit most_bits most_decisions most_records
returns-clause-no_page c = refl
