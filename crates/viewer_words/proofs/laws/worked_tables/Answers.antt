use lib.Utf8.{encode}
use Rattle.std.proofs.Common.{refl}
use Rattle.std.specs.Str.{chars, is_utf8}
use Rattle.viewer_words.specs.Words.{page_limit}
use Rattle.viewer_words.proofs.laws.worked_tables.Goals as goal

pub returns-clause-djvu : goal.returns-clause-djvu
unfolding page_limit is_utf8 chars encode
returns-clause-djvu c = refl

pub returns-clause-flat : goal.returns-clause-flat
unfolding page_limit is_utf8 chars encode
returns-clause-flat c = refl

pub returns-clause-file : goal.returns-clause-file
unfolding page_limit is_utf8 chars encode
returns-clause-file c = refl

pub returns-clause-same_file : goal.returns-clause-same_file
unfolding page_limit is_utf8 chars encode
returns-clause-same_file c = refl

pub returns-clause-like_a_table : goal.returns-clause-like_a_table
unfolding page_limit is_utf8 chars encode
returns-clause-like_a_table c = refl

pub returns-clause-files : goal.returns-clause-files
unfolding page_limit is_utf8 chars encode
returns-clause-files c = refl

pub returns-clause-files_by_flat : goal.returns-clause-files_by_flat
unfolding page_limit is_utf8 chars encode
returns-clause-files_by_flat c = refl

pub returns-clause-unlisted : goal.returns-clause-unlisted
unfolding page_limit is_utf8 chars encode
returns-clause-unlisted c = refl
