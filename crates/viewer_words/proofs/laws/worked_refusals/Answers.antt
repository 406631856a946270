use lib.Utf8.{encode}
use Rattle.std.proofs.Common.{◌≡◌, ◌+◌, ◌∙◌, length, Err, refl, ap}
use Rattle.std.specs.Str.{chars, is_utf8}
use Rattle.viewer_words.specs.Words.{page_limit}
use Rattle.viewer_words.proofs.Writing.{full_refused}
use Rattle.viewer_words.proofs.laws.worked_refusals.Goals as goal

pub returns-clause-dashes : goal.returns-clause-dashes
unfolding page_limit is_utf8 chars encode
returns-clause-dashes c = refl

pub returns-clause-no_name : goal.returns-clause-no_name
unfolding page_limit is_utf8 chars encode
returns-clause-no_name c = refl

pub returns-clause-twice : goal.returns-clause-twice
unfolding page_limit is_utf8 chars encode
returns-clause-twice c = refl

pub returns-clause-too_many : goal.returns-clause-too_many
unfolding page_limit
returns-clause-too_many c pages words word listed e =
    let full : length pages ≡ page_limit = e in
    full_refused pages words word listed full ∙ ap (λ n. Err (1 + n)) e
