use Rattle.std.proofs.Common.{◌≡◌, ◌∙◌, ℕ, List, Result, IfOk, sym, ap, subst}
use Rattle.djvu_base.specs.Library.{library_of, names_of, file_limit}
use Rattle.viewer_words.specs.declared.commands.TableChoice.TheVariants as choice
use Rattle.page_decoder.specs.Libraries.{names_in}
use Rattle.viewer_run.specs.Plan.{Lists, numbers_of, refused_or}
use Rattle.viewer_run.specs.Start.{line_of}
use Rattle.viewer_run.proofs.Starting.{names_of_library}
use Rattle.viewer_run.proofs.front.front_of_info.Goals as goal

pub returns-in-Ok-clause-failure : goal.returns-in-Ok-clause-failure
returns-in-Ok-clause-failure g c told files = c.in_ok-names.ensures.failure told choice.Djvu files

pub returns-in-Err-clause-failure : goal.returns-in-Err-clause-failure
returns-in-Err-clause-failure g c told files = c.in_ok-names.ensures.failure told choice.Djvu files

pub returns-in-Ok-clause-over : goal.returns-in-Ok-clause-over
returns-in-Ok-clause-over g c told files =
    subst (λ (r : Result (List (List ℕ)) (List ℕ)). IfOk r (λ names. names ≡ names_of told)) c.in-Ok.is (c.in_ok-names.ensures.names told files)

pub returns-in-Ok-clause-told : goal.returns-in-Ok-clause-told
returns-in-Ok-clause-told g c told files =
    let over = subst (λ (r : Result (List (List ℕ)) (List ℕ)). IfOk r (λ names. names ≡ names_of told)) c.in-Ok.is (c.in_ok-names.ensures.names told files) in
    let same = over ∙ sym (names_of_library file_limit told) in
    let none = sym (ap line_of c.in-Ok.is) ∙ c.in_ok-names.ensures.told told files in
    ap (λ names. Lists (numbers_of names c.args.pages)) same
    ∙ ap (λ line. refused_or line (Lists (numbers_of (names_in (library_of told)) c.args.pages))) none
