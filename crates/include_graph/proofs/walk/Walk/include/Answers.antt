use Rattle.std.proofs.Common.{◌≡◌, ℕ, ◌<◌, List, Option, Some, length, map, refl, sym, ap, ◌∙◌, arith}
use Rattle.std.proofs.lemmas.List.{length-map}
use Rattle.include_graph.specs.Verdicts.{Faulty, graph_in, outline_in, number_of, walk_then}
use Rattle.include_graph.specs.Stack.{path_of, down, rest_of_walk}
use Rattle.include_graph.specs.Steps.{frames_of}
use Rattle.include_graph.proofs.Among.{number_below}
use Rattle.include_graph.proofs.Walking.{if_ok, own_mark, include_on_path, include_left, ahead_gives, ahead_works}
use Rattle.include_graph.proofs.walk.Walk.include.Goals as goal

below : (names : List (List ℕ)) (name : List ℕ) (found : Option ℕ) (target : ℕ) → found ≡ number_of name names → found ≡ Some target → target < length names
below names name found target e is = number_below target name names (sym e ∙ is)

pub mark-requires : goal.mark-requires
mark-requires c = let b = below c.args.names.now c.args.name.now c.number_of.result c.in-Some.target c.number_of.ensures c.in-Some.is in let count =
    c.requires.stands.count in omega (arith, b, count)

pub enter-requires-clause-place : goal.enter-requires-clause-place
enter-requires-clause-place c = let b = below c.args.names.now c.args.name.now c.number_of.result c.in-Some.target c.number_of.ensures c.in-Some.is
    in let count = c.requires.places in omega (arith, b, count)

pub enter-requires-clause-mark : goal.enter-requires-clause-mark
enter-requires-clause-mark c = let b = below c.args.names.now c.args.name.now c.number_of.result c.in-Some.target c.number_of.ensures c.in-Some.is in
    let count = c.requires.stands.count in omega (arith, b, count)

pub returns-in-Ahead-clause-gives : goal.returns-in-Ahead-clause-gives
returns-in-Ahead-clause-gives c =
    let graph = graph_in c.args.names.now c.args.outlines.now in
    let target : ℕ = c.in-Some.target in
    let b = below c.args.names.now c.args.name.now c.number_of.result target c.number_of.ensures c.in-Some.is in
    if_ok c.enter.result _ _ c.enter.ensures (λ answer h. ahead_gives graph c.args.self.now c.enter.new.self c.args.file c.args.offset
    (number_of c.args.name.now c.args.names.now) target answer c.requires.stands b (sym c.number_of.ensures ∙ c.in-Some.is) (c.mark.ensures
    ∙ ap Some c.in-Ahead.is) h)

pub returns-in-Ahead-clause-less : goal.returns-in-Ahead-clause-less
returns-in-Ahead-clause-less c =
    let graph = graph_in c.args.names.now c.args.outlines.now in
    let outlines = map outline_in c.args.outlines.now in
    let target : ℕ = c.in-Some.target in
    let b = below c.args.names.now c.args.name.now c.number_of.result target c.number_of.ensures c.in-Some.is in
    let place : target < length outlines = let e = length-map c.args.outlines.now outline_in in let count = c.requires.places in omega (arith, b, e, count) in
    if_ok c.enter.result _ _ c.enter.ensures (λ answer h. ahead_works graph outlines c.args.self.now c.enter.new.self target answer place refl
    (c.mark.ensures ∙ ap Some c.in-Ahead.is) h)

pub returns-in-OnPath-clause-gives : goal.returns-in-OnPath-clause-gives
returns-in-OnPath-clause-gives c =
    let graph = graph_in c.args.names.now c.args.outlines.now in
    let path = path_of (frames_of c.args.self.now) in
    let target : ℕ = c.in-Some.target in
    let b = below c.args.names.now c.args.name.now c.number_of.result target c.number_of.ensures c.in-Some.is in
    ap (λ walked. walk_then walked (rest_of_walk graph (frames_of c.args.self.now)))
    (include_on_path (down graph path) path c.args.file c.args.offset (number_of c.args.name.now c.args.names.now) c.args.self.now.left.items target
    (sym c.number_of.ensures ∙ c.in-Some.is)
    (own_mark graph c.args.self.now target _ c.requires.stands b (c.mark.ensures ∙ ap Some c.in-OnPath.is)))
    ∙ ap Faulty (sym c.fault_at-in-OnPath.ensures)

pub returns-in-Left-clause-gives : goal.returns-in-Left-clause-gives
returns-in-Left-clause-gives c =
    let graph = graph_in c.args.names.now c.args.outlines.now in
    let path = path_of (frames_of c.args.self.now) in
    let target : ℕ = c.in-Some.target in
    let b = below c.args.names.now c.args.name.now c.number_of.result target c.number_of.ensures c.in-Some.is in (
      c.requires.stands,
      ap (λ walked. walk_then walked (rest_of_walk graph (frames_of c.args.self.now)))
          (include_left (down graph path) path c.args.file c.args.offset (number_of c.args.name.now c.args.names.now) c.args.self.now.left.items
          target (sym c.number_of.ensures ∙ c.in-Some.is)
          (own_mark graph c.args.self.now target _ c.requires.stands b (c.mark.ensures ∙ ap Some c.in-Left.is))),
    )
