use Rattle.std.proofs.Common.{◌<◌, IfSome, length, nat_cmp, sym, ◌∙◌, subst, rules, of_calls}
use Rattle.std.proofs.lemmas.Fn.{always_returns_same}
use Rattle.std.specs.Cmp.Lexicographic.{slice_cmp}
use Rattle.include_graph.proofs.Finding.{place_found, place_within}
use Rattle.include_graph.proofs.items.place_of.Goals as goal

pub returns-clause-place : goal.returns-clause-place
returns-clause-place c =
    let name = c.args.name.now in
    let answers = always_returns_same _ _ _ (λ listed r f called. search (rules, of_calls)) in
    c.ok.ensures.value ∙ place_found c.args.names.now name c.requires c.binary_search_by.result c.binary_search_by.ensures.bound
    (c.binary_search_by.ensures.position (λ listed. slice_cmp nat_cmp listed name) answers)

pub returns-clause-within : goal.returns-clause-within
returns-clause-within c = subst (λ found. IfSome found (λ place. place < length c.args.names.now)) (sym c.ok.ensures.value)
    (place_within c.args.names.now c.binary_search_by.result c.binary_search_by.ensures.bound)
