use Rattle.std.proofs.Common.{map, sym, ap, subst, ◌∙◌}
use Rattle.djvu_base.specs.Library.{file_limit}
use Rattle.viewer_words.specs.Files.{NamedFile, named_files}
use Rattle.viewer_run.specs.Plan.{line_by_names}
use Rattle.viewer_run.specs.Start.{HasNames}
use Rattle.viewer_run.proofs.Starting.{fits, names_of_library}
use Rattle.viewer_run.proofs.front.list_names.Goals as goal

pub returns-in-Some-clause-told : goal.returns-in-Some-clause-told
returns-in-Some-clause-told g c told files =
    let names = c.as_slice.ensures.value ∙ c.in-Ok.ensures.names told files ∙ sym (names_of_library file_limit told) in
    sym c.in-Some.is ∙ c.in_ok-line.ensures ∙ ap (λ n. line_by_names n (named_files c.args.words.now)) names

pub returns-in-None-clause-told : goal.returns-in-None-clause-told
returns-in-None-clause-told g c told files =
    let names = c.as_slice.ensures.value ∙ c.in-Ok.ensures.names told files ∙ sym (names_of_library file_limit told) in
    sym c.in-None.is ∙ c.in_ok-line.ensures ∙ ap (λ n. line_by_names n (named_files c.args.words.now)) names

pub returns-in-None-clause-fits : goal.returns-in-None-clause-fits
returns-in-None-clause-fits g c =
    let named = named_files c.args.words.now in
    subst (λ names. HasNames names (map (λ (file : NamedFile). file.1) named)) (sym c.of.ensures)
    (fits c.in-Ok.names.items named c.in-Ok.ensures.ascending
    (sym (ap (λ n. line_by_names n named) c.as_slice.ensures.value) ∙ sym c.in_ok-line.ensures ∙ c.in-None.is))
