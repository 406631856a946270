use Rattle.std.proofs.Common.{◌≡◌, sym, ap, ◌∙◌, true, rules, arith}
use Rattle.std.proofs.lemmas.Grind.{common_steps}
use Rattle.std.specs.Vec.{vec_len}
use Rattle.jb2_numbers.specs.Kept.{states_of}
use Rattle.jb2_numbers.proofs.Cells.{rooted, states_started}
use Rattle.jb2_numbers.proofs.contexts.NumberContexts.make_roots.Goals as goal

pub returns-clause-same : goal.returns-clause-same
returns-clause-same c =
    let empty : c.is_empty.result ≡ true = search rules in
    let none : vec_len c.self.inside.cells ≡ 0 = grind (arith, common_steps, c.is_empty.ensures, empty) in
    let starts = rooted c.self.inside.cells.items c.extend_from_slice.new.self.items c.start.result
    (sym c.self.inside.cells.ok.0 ∙ none) c.start.ensures c.in_ok-extend_from_slice.ensures.items in
    states_started (record { cells = c.extend_from_slice.new.self.items }) starts.1.0
    ∙ (sym (states_started (record { cells = c.self.inside.cells.items }) starts.0) ∙ ap states_of c.self.view_is)
