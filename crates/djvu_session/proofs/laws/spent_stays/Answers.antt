use Rattle.std.proofs.Common.{◌<◌, [], refl, sym, subst}
use Rattle.std.proofs.lemmas.List.{length-map}
use Rattle.djvu_base.specs.Library.{File}
use Rattle.page_decoder.specs.Given.{Included}
use Rattle.page_decoder.specs.Libraries.{graph_of, given_in}
use Rattle.djvu_session.proofs.Spending.{served_among, is_outlined, includes_give, spent_on_too}
use Rattle.djvu_session.proofs.laws.spent_stays.Goals as goal

pub returns : goal.returns
returns c table library later less more page file spent result is on results it =
    let made = it.made in
    let below = subst (λ n. made.target < n) (sym (length-map library (λ (f : File). f.name))) made.below in
    let served = served_among (graph_of library) [] made.files file
    (c.lists.ensures.order (graph_of library) made.target made.files below made.list) made.listed in
    let same = c.included_files.ensures.stays (given_in Included table library file less) (given_in Included table later file more) served.1.outline is
    (c.libraries_go_on.ensures.files Included table library later file less more on results) refl
    (is_outlined table library less served.0 file served.1) (includes_give table library less page file served.0 served.1 made) in
    spent_on_too table library later less more page file spent result same (c.made_stays.ensures table library later less more page file is on results made) it
