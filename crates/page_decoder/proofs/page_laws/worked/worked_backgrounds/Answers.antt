use lib.Utf8.{encode}
use Rattle.std.proofs.Common.{refl}
use Rattle.std.specs.Fmt.{digits}
use Rattle.std.specs.Str.{chars, is_utf8}
use Rattle.djvu_base.specs.Library.{file_limit}
use Rattle.zp_decoder.specs.Decision.{most_bits}
use Rattle.jb2_numbers.specs.Number.{most_decisions}
use Rattle.jb2_records.specs.Reading.{most_records}
use Rattle.iw44_lifting.specs.Lift.{columns_lifted, rows_lifted}
use Rattle.layer_compose.specs.Drawing.{samples_of}
use Rattle.page_decoder.proofs.page_laws.worked.worked_backgrounds.Goals as goal

pub returns-clause-grey : goal.returns-clause-grey
unfolding digits is_utf8 chars encode file_limit most_bits most_decisions most_records columns_lifted rows_lifted samples_of
returns-clause-grey c = record { notices_so = refl; decisions_so = refl; end_so = refl }

pub returns-clause-black : goal.returns-clause-black
unfolding digits is_utf8 chars encode file_limit most_bits most_decisions most_records columns_lifted rows_lifted samples_of
returns-clause-black c = record { notices_so = refl; decisions_so = refl; end_so = refl }

pub returns-clause-white : goal.returns-clause-white
unfolding digits is_utf8 chars encode file_limit most_bits most_decisions most_records columns_lifted rows_lifted samples_of
returns-clause-white c = record { notices_so = refl; decisions_so = refl; end_so = refl }

pub returns-clause-colours : goal.returns-clause-colours
unfolding digits is_utf8 chars encode file_limit most_bits most_decisions most_records columns_lifted rows_lifted samples_of
returns-clause-colours c = record { notices_so = refl; decisions_so = refl; end_so = refl }

pub returns-clause-half : goal.returns-clause-half
unfolding digits is_utf8 chars encode file_limit most_bits most_decisions most_records columns_lifted rows_lifted samples_of
returns-clause-half c = record { notices_so = refl; decisions_so = refl; end_so = refl }

pub returns-clause-pair : goal.returns-clause-pair
unfolding digits is_utf8 chars encode file_limit most_bits most_decisions most_records columns_lifted rows_lifted samples_of
returns-clause-pair c = record { notices_so = refl; decisions_so = refl; end_so = refl }

pub returns-clause-front : goal.returns-clause-front
unfolding digits is_utf8 chars encode file_limit most_bits most_decisions most_records columns_lifted rows_lifted samples_of
returns-clause-front c = record { notices_so = refl; decisions_so = refl; end_so = refl }
