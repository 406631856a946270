use Rattle.std.proofs.Common.{◌≤◌, None, [], length, map, refl, sym, ap, subst, ◌∙◌, arith}
use Rattle.std.proofs.Math.ListN.{drop_of_length-le}
use Rattle.include_graph.specs.Verdicts.{outline_in}
use Rattle.page_decoder.specs.Resolving.{known_of, home_of, Resolves, IsResolved, AnswersIf}
use Rattle.page_decoder.proofs.ResolveSteps.{kept_is, all_passed}
use Rattle.page_decoder.proofs.resolving.Includes.go_on.Goals as goal

pub returns-in-Some : goal.returns-in-Some
returns-in-Some c = λ table left r.
    let home = home_of c.args.role table c.args.names.now c.args.file in
    let outlines = map outline_in c.args.outlines.now in
    subst (λ stop. AnswersIf home (known_of outlines c.args.results.now) left stop c.pass_files.new.self) c.in-Some.is
    (c.in_ok-stop.ensures.resolves home outlines left (c.includes.invariant table left r))

pub returns-in-Some-2 : goal.returns-in-Some-2
returns-in-Some-2 c = λ table left r.
    let home = home_of c.args.role table c.args.names.now c.args.file in
    let outlines = map outline_in c.args.outlines.now in
    let known = known_of outlines c.args.results.now in
    let passed = subst (λ stop. AnswersIf home known left stop c.pass_files.new.self) c.in_default.is
    (c.in_ok-stop.ensures.resolves home outlines left (c.includes.invariant table left r)) in
    subst (λ stop. AnswersIf home known left stop c.list_next.new.self) c.in-Some-2.is
    (c.in_ok-stop-2.ensures.resolves table c.args.results.now left passed)

pub returns-then-len-self : goal.returns-then-len-self
returns-then-len-self c = λ table left r.
    let home = home_of c.args.role table c.args.names.now c.args.file in
    let outlines = map outline_in c.args.outlines.now in
    let known = known_of outlines c.args.results.now in
    let inherited = c.pass_files.new.self.inherited in
    let passed = subst (λ stop. AnswersIf home known left stop c.pass_files.new.self) c.in_default.is
    (c.in_ok-stop.ensures.resolves home outlines left (c.includes.invariant table left r)) in
    let over : length c.self.inside.read.items ≤ c.self.inside.begun = omega (arith, c.len.ensures) in
    let none_at_hand = c.in_ok-stop.ensures.passed c.in_default.is in
    let none_pending = sym (ap (λ it. it.pending) c.self.view_is) ∙ drop_of_length-le c.self.inside.read.items over in
    let it = c.pass_files.new.self in
    subst (λ it. IsResolved home known left it)
    (sym (kept_is c.forget.new.self inherited None [] it.marks c.forget.ensures.inherited (c.forget.ensures.listed ∙ none_at_hand)
    c.forget.ensures.pending c.forget.ensures.marks))
    (all_passed home known left it
    (subst (λ it. Resolves home known left it) (kept_is it inherited None [] it.marks refl none_at_hand none_pending refl) passed))
