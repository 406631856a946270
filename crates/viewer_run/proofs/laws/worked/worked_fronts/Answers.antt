use lib.Utf8.{encode}
use Rattle.std.proofs.Common.{refl}
use Rattle.std.specs.Fmt.{digits}
use Rattle.std.specs.Str.{chars, is_utf8}
use Rattle.djvu_base.specs.Library.{file_limit}
use Rattle.viewer_words.specs.Words.{page_limit}
use Rattle.viewer_run.proofs.laws.worked.worked_fronts.Goals as goal

pub returns-clause-not_listed : goal.returns-clause-not_listed
unfolding digits is_utf8 chars encode file_limit page_limit
returns-clause-not_listed c = refl

pub returns-clause-table_first : goal.returns-clause-table_first
unfolding digits is_utf8 chars encode file_limit page_limit
returns-clause-table_first c = refl

pub returns-clause-listed : goal.returns-clause-listed
unfolding digits is_utf8 chars encode file_limit page_limit
returns-clause-listed c = refl

pub returns-clause-usual : goal.returns-clause-usual
unfolding digits is_utf8 chars encode file_limit page_limit
returns-clause-usual c = refl

pub returns-clause-flat : goal.returns-clause-flat
unfolding digits is_utf8 chars encode file_limit page_limit
returns-clause-flat c = refl

pub returns-clause-table : goal.returns-clause-table
unfolding digits is_utf8 chars encode file_limit page_limit
returns-clause-table c = refl

pub returns-clause-no_table : goal.returns-clause-no_table
unfolding digits is_utf8 chars encode file_limit page_limit
returns-clause-no_table c = refl

pub returns-clause-no_chance : goal.returns-clause-no_chance
unfolding digits is_utf8 chars encode file_limit page_limit
returns-clause-no_chance c = refl
