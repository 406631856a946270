use Rattle.std.proofs.Common.{◌<◌, ◌++◌, ◌∷◌, [], subst}
use Rattle.page_decoder.specs.Given.{Page}
use Rattle.page_decoder.specs.Read.{read}
use Rattle.page_decoder.specs.Libraries.{graph_of, given_in}
use Rattle.page_decoder.specs.Needs.{Because}
use Rattle.page_decoder.proofs.Ruling.{among_behind}
use Rattle.page_decoder.proofs.GoingOn.{length_names}
use Rattle.page_decoder.proofs.Made.{served_at, includes_good}
use Rattle.page_decoder.proofs.page_laws.made.needed_files_are_made.Goals as goal

pub returns : goal.returns
returns c table library results page file e =
    let given = given_in Page table library page results in
    let pending = (read given).left.decoded.pending in
    let graph = graph_of library in
    let next = subst (λ end. Because given.home given.known pending end) e (c.needs.ensures.because given) in
    let order = c.lists.ensures.order graph next.target (next.before ++ file ∷ next.others) next.of_include.below next.list in
    record {
      target = next.target;
      below = subst (λ n. next.target < n) (length_names library) next.of_include.below;
      files = next.before ++ file ∷ next.others;
      list = next.list;
      listed = among_behind file next.before next.others;
      includes = includes_good graph results next.before file (served_at graph [] next.before file next.others order) next.good;
      reached = c.needs.ensures.needed given file e;
    }
