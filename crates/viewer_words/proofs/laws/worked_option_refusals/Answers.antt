use lib.Utf8.{encode}
use Rattle.std.proofs.Common.{refl}
use Rattle.std.specs.Str.{chars, is_utf8}
use Rattle.viewer_words.specs.Words.{page_limit}
use Rattle.viewer_words.proofs.laws.worked_option_refusals.Goals as goal

pub returns-clause-no_page : goal.returns-clause-no_page
unfolding page_limit is_utf8 chars encode
returns-clause-no_page c = refl

pub returns-clause-dashes : goal.returns-clause-dashes
unfolding page_limit is_utf8 chars encode
returns-clause-dashes c = refl

pub returns-clause-no_name : goal.returns-clause-no_name
unfolding page_limit is_utf8 chars encode
returns-clause-no_name c = refl

pub returns-clause-option_twice : goal.returns-clause-option_twice
unfolding page_limit is_utf8 chars encode
returns-clause-option_twice c = refl

pub returns-clause-equals_sign : goal.returns-clause-equals_sign
unfolding page_limit is_utf8 chars encode
returns-clause-equals_sign c = refl

pub returns-clause-after_pages : goal.returns-clause-after_pages
unfolding page_limit is_utf8 chars encode
returns-clause-after_pages c = refl

pub returns-clause-of_info : goal.returns-clause-of_info
unfolding page_limit is_utf8 chars encode
returns-clause-of_info c = refl

pub returns-clause-twice : goal.returns-clause-twice
unfolding page_limit is_utf8 chars encode
returns-clause-twice c = refl
