use Rattle.std.proofs.Common.{◌≡◌, length, sym, ap, ◌∙◌, arith}
use Rattle.std.proofs.lemmas.Bool.{eqb-true}
use Rattle.std.specs.Vec.{vec_len}
use Rattle.include_graph.specs.Verdicts.{in_list}
use Rattle.page_decoder.proofs.GivenOutlines.{places_stand}
use Rattle.page_decoder.proofs.other_files.OtherFiles.make_places.Goals as goal

pub returns-in_ok-self-inside-clause-same : goal.returns-in_ok-self-inside-clause-same
returns-in_ok-self-inside-clause-same c = λ file.
    let none : length c.self.inside.outlines.items ≡ 0 =
    omega (arith, eqb-true (vec_len c.self.inside.outlines) 0 (sym c.is_empty.ensures ∙ c.if-is_empty.true)) in
    places_stand c.self.inside.outlines.items c.in_ok-self-inside.field-0.items c.self.inside.files none c.in_ok-self-inside.ensures file
    ∙ ap (λ it. in_list it.outlines file) c.self.view_is
