use Rattle.std.proofs.Common.{ap, ◌∙◌, subst}
use Rattle.zp_decoder.specs.Decoder.{Fed}
use Rattle.jb2_shapes.specs.Shape.{Reading}
use Rattle.jb2_shapes.specs.Numbers.{states_of}
use Rattle.jb2_shapes.proofs.Refining.{refined_is}
use Rattle.jb2_shapes.proofs.refined.RefineReader.advance.Goals as goal

pub returns-clause-answer : goal.returns-clause-answer
returns-clause-answer g c payload place fed =
    (c.read_pixels.ensures.reads payload place fed).answer
    ∙ ap (λ (r : Reading). r.answer) (refined_is c.self.inside.matching c.self.inside.canvas c.args.self.now c.args.zp.now.table payload c.args.zp.now.ended (states_of c.args.contexts.now) place c.self.invariant.0 c.self.invariant.1 c.self.view_is)

pub returns-clause-sketch : goal.returns-clause-sketch
returns-clause-sketch g c payload place fed =
    (c.read_pixels.ensures.reads payload place fed).sketch
    ∙ ap (λ (r : Reading). r.at.sketch) (refined_is c.self.inside.matching c.self.inside.canvas c.args.self.now c.args.zp.now.table payload c.args.zp.now.ended (states_of c.args.contexts.now) place c.self.invariant.0 c.self.invariant.1 c.self.view_is)

pub returns-clause-states : goal.returns-clause-states
returns-clause-states g c payload place fed =
    (c.read_pixels.ensures.reads payload place fed).states
    ∙ ap (λ (r : Reading). r.at.states) (refined_is c.self.inside.matching c.self.inside.canvas c.args.self.now c.args.zp.now.table payload c.args.zp.now.ended (states_of c.args.contexts.now) place c.self.invariant.0 c.self.invariant.1 c.self.view_is)

pub returns-clause-fed : goal.returns-clause-fed
returns-clause-fed g c payload place fed =
    subst (λ (r : Reading). Fed payload r.at.place c.read_pixels.new.zp)
    (refined_is c.self.inside.matching c.self.inside.canvas c.args.self.now c.args.zp.now.table payload c.args.zp.now.ended (states_of c.args.contexts.now) place c.self.invariant.0 c.self.invariant.1 c.self.view_is)
    (c.read_pixels.ensures.reads payload place fed).fed
