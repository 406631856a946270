use Rattle.std.proofs.Common.{refl}
use lib.Utf8.{encode}
use Rattle.std.specs.Str.{is_utf8, chars}
use Rattle.djvu_base.proofs.laws.worked_names.Goals as goal

pub returns-clause-plain : goal.returns-clause-plain
unfolding is_utf8 chars encode
returns-clause-plain c = refl

pub returns-clause-three_dots : goal.returns-clause-three_dots
unfolding is_utf8 chars encode
returns-clause-three_dots c = refl

pub returns-clause-two_bytes_of_utf8 : goal.returns-clause-two_bytes_of_utf8
unfolding is_utf8 chars encode
returns-clause-two_bytes_of_utf8 c = refl

pub returns-clause-no_utf8 : goal.returns-clause-no_utf8
unfolding is_utf8 chars encode
returns-clause-no_utf8 c = refl
