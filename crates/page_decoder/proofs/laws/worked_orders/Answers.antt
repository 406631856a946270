use lib.Utf8.{encode}
use Rattle.std.proofs.Common.{refl}
use Rattle.std.specs.Fmt.{digits}
use Rattle.std.specs.Str.{chars, is_utf8}
use Rattle.djvu_base.specs.Library.{file_limit}
use Rattle.zp_decoder.specs.Decision.{most_bits}
use Rattle.jb2_numbers.specs.Number.{most_decisions}
use Rattle.jb2_records.specs.Reading.{most_records}
use Rattle.page_decoder.proofs.laws.worked_orders.Goals as goal

pub returns-clause-second_and_short : goal.returns-clause-second_and_short
unfolding digits is_utf8 chars encode file_limit most_bits most_decisions most_records
returns-clause-second_and_short c = refl

pub returns-clause-first_and_unread : goal.returns-clause-first_and_unread
unfolding digits is_utf8 chars encode file_limit most_bits most_decisions most_records
returns-clause-first_and_unread c = refl

pub returns-clause-second_and_overrun : goal.returns-clause-second_and_overrun
unfolding digits is_utf8 chars encode file_limit most_bits most_decisions most_records
returns-clause-second_and_overrun c = refl

pub returns-clause-second_and_bad_id : goal.returns-clause-second_and_bad_id
unfolding digits is_utf8 chars encode file_limit most_bits most_decisions most_records
returns-clause-second_and_bad_id c = refl

pub returns-clause-short_and_cut : goal.returns-clause-short_and_cut
unfolding digits is_utf8 chars encode file_limit most_bits most_decisions most_records
returns-clause-short_and_cut c = refl

pub returns-clause-size_and_cut : goal.returns-clause-size_and_cut
unfolding digits is_utf8 chars encode file_limit most_bits most_decisions most_records
returns-clause-size_and_cut c = refl

pub returns-clause-cut : goal.returns-clause-cut
unfolding digits is_utf8 chars encode file_limit most_bits most_decisions most_records
returns-clause-cut c = refl

pub returns-clause-broken_off : goal.returns-clause-broken_off
unfolding digits is_utf8 chars encode file_limit most_bits most_decisions most_records
returns-clause-broken_off c = refl

pub returns-clause-broken_behind : goal.returns-clause-broken_behind
unfolding digits is_utf8 chars encode file_limit most_bits most_decisions most_records
returns-clause-broken_behind c = refl

pub returns-clause-arriving : goal.returns-clause-arriving
unfolding digits is_utf8 chars encode file_limit most_bits most_decisions most_records
returns-clause-arriving c = refl

pub returns-clause-second_mask_and_cut : goal.returns-clause-second_mask_and_cut
unfolding digits is_utf8 chars encode file_limit most_bits most_decisions most_records
returns-clause-second_mask_and_cut c = refl

pub returns-clause-decoding_and_cut : goal.returns-clause-decoding_and_cut
unfolding digits is_utf8 chars encode file_limit most_bits most_decisions most_records
returns-clause-decoding_and_cut c = refl

pub returns-clause-decoding_and_broken_off : goal.returns-clause-decoding_and_broken_off
unfolding digits is_utf8 chars encode file_limit most_bits most_decisions most_records
returns-clause-decoding_and_broken_off c = refl
