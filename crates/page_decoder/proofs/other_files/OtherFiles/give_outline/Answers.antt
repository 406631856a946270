use Rattle.std.proofs.Common.{◌≡◌, ◌<◌, Some, slice_get, length, sym, ap, ◌∙◌, subst, arith}
use Rattle.std.proofs.lemmas.List.{length-map}
use Rattle.include_graph.specs.Verdicts.{in_list, outline_in}
use Rattle.page_decoder.specs.Resolving.{known_by, given_at, result_from}
use Rattle.page_decoder.proofs.GivenOutlines.{stands_there, stands_elsewhere, known_on}
use Rattle.page_decoder.proofs.other_files.OtherFiles.give_outline.Goals as goal

pub returns-clause-outline : goal.returns-clause-outline
returns-clause-outline c =
    let places = c.self.inside.outlines.items in
    let all = length-map places outline_in in
    let made = ap (λ it. length it.outlines) c.self.view_is ∙ c.in_ok-make_places.ensures.places in
    let below : c.args.file < length places = omega (arith, all, made, c.make_places.ensures.count, c.requires.place) in
    stands_there places c.args.file (Some c.args.outline) below

pub returns-clause-others : goal.returns-clause-others
returns-clause-others c = λ other e.
    stands_elsewhere c.self.inside.outlines.items c.args.file (Some c.args.outline) other e
    ∙ ap (λ it. in_list it.outlines other) c.self.view_is ∙ c.make_places.ensures.same other

pub returns-clause-more : goal.returns-clause-more
returns-clause-more c = record {
  outlines = known_on (known_by c.args.self.now).outlines c.self.inside.outlines.items c.args.file (Some c.args.outline)
      (λ other. ap (λ it. in_list it.outlines other) c.self.view_is ∙ c.make_places.ensures.same other) c.requires.lacking;
  results = λ file result e. subst (λ results. result_from (given_at (slice_get results file)) ≡ Some result)
      (sym (ap (λ it. it.results) c.self.view_is ∙ c.make_places.ensures.results)) e;
}
