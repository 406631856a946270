use Rattle.std.proofs.Common.{◌≡◌, ◌+◌, ◌<◌, ◌≤◌, List, ◌∷◌, length, map, get_or, drop, reverse, refl, sym, subst, arith}
use Rattle.include_graph.specs.declared.outline.OutlineItem.{OutlineItem}
use Rattle.include_graph.specs.declared.outline.OutlineItem.TheVariants as item
use Rattle.include_graph.specs.declared.stack.Frame.{Frame}
use Rattle.include_graph.specs.declared.walk.Walk.{Walk}
use Rattle.include_graph.specs.Verdicts.{Graph, graph_in, outline_in}
use Rattle.include_graph.specs.Stack.{items_known, items_left}
use Rattle.include_graph.specs.Steps.{StepGives}
use Rattle.include_graph.proofs.Stepping.{item_next}
use Rattle.include_graph.proofs.Walking.{past, if_ok, popped, pushed, file_below, leave_gives, leave_works, include_rest}
use Rattle.include_graph.proofs.walk.Walk.step.Goals as goal

pub items_known-items-requires : goal.items_known-items-requires
items_known-items-requires c =
    let frame = c.in-Some.frame in
    let e = popped c.args.self.now.path.items c.pop.new.self.items c.pop.result frame c.pop.ensures.items c.in-Some.is in
    let b = file_below (graph_in c.args.names.now c.args.outlines.now) c.args.self.now frame (reverse c.pop.new.self.items) c.requires.stands e in
    let places = c.requires.places in
    omega (arith, b, places)

pub leave-requires : goal.leave-requires
leave-requires c =
    let frame = c.in-Some.frame in
    let e = popped c.args.self.now.path.items c.pop.new.self.items c.pop.result frame c.pop.ensures.items c.in-Some.is in
    let b = file_below (graph_in c.args.names.now c.args.outlines.now) c.args.self.now frame (reverse c.pop.new.self.items) c.requires.stands e in
    let count = c.requires.stands.count in
    omega (arith, b, count)

pub returns-then-items-frame-clause-gives : goal.returns-then-items-frame-clause-gives
returns-then-items-frame-clause-gives c =
    let graph = graph_in c.args.names.now c.args.outlines.now in
    let frame = c.in-Some.frame in
    let e = popped c.args.self.now.path.items c.pop.new.self.items c.pop.result frame c.pop.ensures.items c.in-Some.is in
    let passed : length (items_known (graph.outlines frame.file)) ≤ frame.passed = subst (λ items. length items ≤ frame.passed)
    c.items_known-items.ensures c.if-items-frame.true in
    leave_gives graph c.args.self.now c.leave.new.self frame c.pop.new.self.items c.requires.stands e passed c.leave.ensures.path
    c.in_ok-leave.ensures.marks c.in_ok-leave.ensures.left

pub returns-then-items-frame-clause-less : goal.returns-then-items-frame-clause-less
returns-then-items-frame-clause-less c =
    let graph = graph_in c.args.names.now c.args.outlines.now in
    let frame = c.in-Some.frame in
    let e = popped c.args.self.now.path.items c.pop.new.self.items c.pop.result frame c.pop.ensures.items c.in-Some.is in
    leave_works graph (map outline_in c.args.outlines.now) c.args.self.now c.leave.new.self frame c.pop.new.self.items c.requires.stands e
    c.leave.ensures.path c.in_ok-leave.ensures.marks

next_at : (graph : Graph) (frame : Frame) (items : List OutlineItem) (found next : OutlineItem) → items ≡ items_known (graph.outlines frame.file)
    → frame.passed < length items → found ≡ get_or items frame.passed found → found ≡ next
    → items_left graph frame ≡ next ∷ drop (frame.passed + 1) (items_known (graph.outlines frame.file))
next_at graph frame items found next e b is same =
    item_next graph frame next (subst (λ i. frame.passed < length i) e b) (subst (λ i. next ≡ get_or i frame.passed next) e
    (subst (λ x. x ≡ get_or items frame.passed x) same is))

pub returns-in_ok-push-in-Include-clause-gives : goal.returns-in_ok-push-in-Include-clause-gives
returns-in_ok-push-in-Include-clause-gives c =
    let graph = graph_in c.args.names.now c.args.outlines.now in
    let frame = c.in-Some.frame in
    let rest = c.pop.new.self.items in
    let e = popped c.args.self.now.path.items rest c.pop.result frame c.pop.ensures.items c.in-Some.is in
    let middle : Walk = record { path = c.push.new.self; marks = c.args.self.now.marks; left = c.args.self.now.left } in
    let f = pushed rest (past frame) c.push.new.self.items c.in_ok-push-in-Include.ensures.items in
    let i = next_at graph frame c.items_known-items.result.now c.index-items-frame.result (item.Include c.in-Include.name c.in-Include.offset)
    c.items_known-items.ensures c.if-items-frame.false c.index-items-frame.is c.in-Include.is in
    let same = include_rest graph c.args.self.now middle frame (reverse rest) c.in-Include.name c.in-Include.offset e f refl i in
    if_ok c.include.result _ _ c.include.ensures.gives (λ answer h. subst (λ walked. StepGives graph walked answer c.include.new.self) (sym same) h)
