use Rattle.std.proofs.Common.{refl}
use lib.Utf8.{encode}
use Rattle.std.specs.Str.{is_utf8, chars}
use Rattle.djvu_base.specs.Library.{file_limit}
use Rattle.include_graph.proofs.laws.worked.worked_outlines.Goals as goal

pub returns-clause-includes : goal.returns-clause-includes
unfolding file_limit is_utf8 chars encode
returns-clause-includes c = refl

pub returns-clause-before_pad : goal.returns-clause-before_pad
unfolding file_limit is_utf8 chars encode
returns-clause-before_pad c = refl

pub returns-clause-goes_on : goal.returns-clause-goes_on
unfolding file_limit is_utf8 chars encode
returns-clause-goes_on c = refl

pub returns-clause-truncated : goal.returns-clause-truncated
unfolding file_limit is_utf8 chars encode
returns-clause-truncated c = refl

pub returns-clause-read : goal.returns-clause-read
unfolding file_limit is_utf8 chars encode
returns-clause-read c = refl

pub returns-clause-of_page : goal.returns-clause-of_page
unfolding file_limit is_utf8 chars encode
returns-clause-of_page c = refl

pub returns-clause-misplaced : goal.returns-clause-misplaced
unfolding file_limit is_utf8 chars encode
returns-clause-misplaced c = refl

pub returns-clause-cut_misplaced : goal.returns-clause-cut_misplaced
unfolding file_limit is_utf8 chars encode
returns-clause-cut_misplaced c = refl

pub returns-clause-layer : goal.returns-clause-layer
unfolding file_limit is_utf8 chars encode
returns-clause-layer c = refl

pub returns-clause-directory : goal.returns-clause-directory
unfolding file_limit is_utf8 chars encode
returns-clause-directory c = refl

pub returns-clause-one_dictionary : goal.returns-clause-one_dictionary
unfolding file_limit is_utf8 chars encode
returns-clause-one_dictionary c = refl

pub returns-clause-dictionaries : goal.returns-clause-dictionaries
unfolding file_limit is_utf8 chars encode
returns-clause-dictionaries c = refl

pub returns-clause-no_name : goal.returns-clause-no_name
unfolding file_limit is_utf8 chars encode
returns-clause-no_name c = refl
