use lib.Utf8.{encode}
use Rattle.std.proofs.Common.{refl}
use Rattle.std.specs.Str.{chars, is_utf8}
use Rattle.viewer_words.specs.Words.{page_limit}
use Rattle.viewer_words.proofs.laws.worked_commands.Goals as goal

pub returns-clause-one : goal.returns-clause-one
unfolding page_limit is_utf8 chars encode
returns-clause-one c = refl

pub returns-clause-two : goal.returns-clause-two
unfolding page_limit is_utf8 chars encode
returns-clause-two c = refl

pub returns-clause-one_dash : goal.returns-clause-one_dash
unfolding page_limit is_utf8 chars encode
returns-clause-one_dash c = refl

pub returns-clause-like_a_command : goal.returns-clause-like_a_command
unfolding page_limit is_utf8 chars encode
returns-clause-like_a_command c = refl

pub returns-clause-limit : goal.returns-clause-limit
unfolding page_limit
returns-clause-limit c = refl
