use Rattle.std.proofs.Common.{refl}
use Rattle.djvu_base.specs.Library.{file_limit}
use Rattle.iff_chunks.proofs.laws.worked_chunks.Goals as goal

pub returns-clause-whole : goal.returns-clause-whole
unfolding file_limit
returns-clause-whole c = refl

pub returns-clause-byte_behind : goal.returns-clause-byte_behind
unfolding file_limit
returns-clause-byte_behind c byte = refl

pub returns-clause-overrun : goal.returns-clause-overrun
unfolding file_limit
returns-clause-overrun c = refl

pub returns-clause-header_part : goal.returns-clause-header_part
unfolding file_limit
returns-clause-header_part c = refl

pub returns-clause-bad_id : goal.returns-clause-bad_id
unfolding file_limit
returns-clause-bad_id c = refl

pub returns-clause-three_left : goal.returns-clause-three_left
unfolding file_limit
returns-clause-three_left c = refl

pub returns-clause-no_form : goal.returns-clause-no_form
unfolding file_limit
returns-clause-no_form c = refl

pub returns-clause-half_magic : goal.returns-clause-half_magic
unfolding file_limit
returns-clause-half_magic c = refl

pub returns-clause-length_3 : goal.returns-clause-length_3
unfolding file_limit
returns-clause-length_3 c = refl

pub returns-clause-length_4 : goal.returns-clause-length_4
unfolding file_limit
returns-clause-length_4 c = refl
