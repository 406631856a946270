use Rattle.std.proofs.Common.{◌≡◌, [], length, map, refl, sym, ap, ◌∙◌, subst, inl, inr}
use Rattle.std.proofs.lemmas.Bool.{true≢false}
use Rattle.include_graph.specs.declared.walk.Step.{Step}
use Rattle.include_graph.specs.declared.walk.Step.TheVariants as step
use Rattle.include_graph.specs.declared.walk.Walk.{Walk}
use Rattle.include_graph.specs.declared.verdicts.Verdict.TheVariants.{Files}
use Rattle.include_graph.specs.Verdicts.{Graph, Walked, graph_in, outline_in, verdict_by, visit}
use Rattle.include_graph.specs.Steps.{StepGives}
use Rattle.include_graph.proofs.Walking.{begin_gives, on_from, goes_on_stands, works_less}
use Rattle.include_graph.proofs.walk.verdict.Goals as goal

pub steps-init : goal.steps-init
steps-init c =
    begin_gives (graph_in c.args.names.now c.args.outlines.now) c.in_ok-walk.walk c.enter.new.self c.args.file (length c.args.names.now)
    c.in_ok-step.step refl c.requires.below
    c.in_ok-walk.ensures.path c.in_ok-walk.ensures.marks c.in_ok-walk.ensures.left c.in_ok-step.ensures

pub step-requires-clause-stands : goal.step-requires-clause-stands
step-requires-clause-stands c =
    let graph = graph_in c.args.names.now c.args.outlines.now in
    goes_on_stands graph (visit graph (length c.args.names.now) [] c.args.file []) c.steps.walk c.steps.step c.steps.invariant
    (c.goes_on.ensures.0 c.steps-test.true)

pub steps-smaller : goal.steps-smaller
steps-smaller c =
    works_less (graph_in c.args.names.now c.args.outlines.now) (map outline_in c.args.outlines.now) c.steps.walk c.step.new.self c.steps.step
    c.in_ok-step-2.step (c.goes_on.ensures.0 c.steps-test.true) c.in_ok-step-2.ensures.less

pub steps-preserved : goal.steps-preserved
steps-preserved c =
    let graph = graph_in c.args.names.now c.args.outlines.now in
    on_from graph (visit graph (length c.args.names.now) [] c.args.file []) c.steps.walk c.step.new.self c.steps.step c.in_ok-step-2.step
    c.steps.invariant (c.goes_on.ensures.0 c.steps-test.true) c.in_ok-step-2.ensures.gives

given : (graph : Graph) (rest : Walked) (found answer : Step) (walk : Walk) → found ≡ answer → StepGives graph rest found walk
    → StepGives graph rest answer walk
given graph rest found answer walk e h = subst (λ s. StepGives graph rest s walk) e h

pub returns-in-Unknown : goal.returns-in-Unknown
returns-in-Unknown c =
    let graph = graph_in c.args.names.now c.args.outlines.now in
    sym (ap verdict_by (given graph (visit graph (length c.args.names.now) [] c.args.file []) c.steps.step (step.Unknown c.in-Unknown.file)
    c.steps.walk c.in-Unknown.is c.steps.invariant))

pub returns-in-Faulty : goal.returns-in-Faulty
returns-in-Faulty c =
    let graph = graph_in c.args.names.now c.args.outlines.now in
    sym (ap verdict_by (given graph (visit graph (length c.args.names.now) [] c.args.file []) c.steps.step (step.Faulty c.in-Faulty.fault)
    c.steps.walk c.in-Faulty.is c.steps.invariant))

pub returns-in-GoesOn : goal.returns-in-GoesOn
returns-in-GoesOn c =
    let graph = graph_in c.args.names.now c.args.outlines.now in
    elim c.in-GoesOn.is [
      | inl e ↦ absurd (true≢false (sym (c.goes_on.ensures.1 e) ∙ c.steps-test.false))
      | inr e ↦ ap Files c.of.ensures ∙ sym (ap verdict_by (given graph (visit graph (length c.args.names.now) [] c.args.file []) c.steps.step
          step.Over c.steps.walk e c.steps.invariant))
    ]
