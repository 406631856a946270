use Rattle.std.proofs.Common.{refl}
use Rattle.djvu_base.specs.Library.{file_limit}
use Rattle.iff_chunks.proofs.laws.worked_ends.Goals as goal

pub returns-clause-empty : goal.returns-clause-empty
unfolding file_limit
returns-clause-empty c = refl

pub returns-clause-no_chunk : goal.returns-clause-no_chunk
unfolding file_limit
returns-clause-no_chunk c = refl

pub returns-clause-first_byte : goal.returns-clause-first_byte
unfolding file_limit
returns-clause-first_byte c = refl

pub returns-clause-between : goal.returns-clause-between
unfolding file_limit
returns-clause-between c = refl

pub returns-clause-in_header : goal.returns-clause-in_header
unfolding file_limit
returns-clause-in_header c = refl

pub returns-clause-data_open : goal.returns-clause-data_open
unfolding file_limit
returns-clause-data_open c = refl

pub returns-clause-in_data : goal.returns-clause-in_data
unfolding file_limit
returns-clause-in_data c = refl

pub returns-clause-before_pad : goal.returns-clause-before_pad
unfolding file_limit
returns-clause-before_pad c = refl

pub returns-clause-behind_pad : goal.returns-clause-behind_pad
unfolding file_limit
returns-clause-behind_pad c = refl

pub returns-clause-pad_open : goal.returns-clause-pad_open
unfolding file_limit
returns-clause-pad_open c = refl

pub returns-clause-no_pad_in_file : goal.returns-clause-no_pad_in_file
unfolding file_limit
returns-clause-no_pad_in_file c = refl

pub returns-clause-no_pad_in_form : goal.returns-clause-no_pad_in_form
unfolding file_limit
returns-clause-no_pad_in_form c = refl

pub returns-clause-broken : goal.returns-clause-broken
unfolding file_limit
returns-clause-broken c = refl
