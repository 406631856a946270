use Rattle.std.proofs.Common.{◌≡◌, refl, sym, ap, ◌∙◌}
use Rattle.std.proofs.lemmas.List.{take_all}
use Rattle.jb2_shapes.specs.Numbers.{number_of}
use Rattle.jb2_writer.proofs.Sketching.{colour_added, few_number, is_number}
use Rattle.jb2_writer.proofs.pixels.number_of.Goals as goal

pub joined-number-requires : goal.joined-number-requires
joined-number-requires c = few_number c.args.colours.now c.loop-colour.colour-index c.loop-colour.number c.loop-colour.invariant c.requires

pub loop-colour-preserved : goal.loop-colour-preserved
loop-colour-preserved c =
    colour_added c.args.colours.now c.loop-colour.colour-index c.loop-colour.number c.joined-number.result _ c.loop-colour-test.true refl
    c.loop-colour.invariant
    c.joined-number.ensures

pub returns-clause-number : goal.returns-clause-number
returns-clause-number c =
    let all : number_of c.args.colours.now ≡ c.loop-colour.number =
    ap number_of (sym (take_all c.loop-colour.colour-index c.args.colours.now c.loop-colour-test.false)) ∙ c.loop-colour.invariant in
    is_number c.args.colours.now c.loop-colour.number all c.requires
