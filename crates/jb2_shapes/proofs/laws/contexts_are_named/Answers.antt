use Rattle.std.proofs.Common.{refl}
use Rattle.zp_decoder.specs.States.{are_same}
use Rattle.zp_decoder.proofs.Lemmas.{are_same-refl, stored_here}
use Rattle.jb2_shapes.proofs.Numbering.{others_stay, number-injective}
use Rattle.jb2_shapes.proofs.laws.contexts_are_named.Goals as goal

pub returns-clause-ten : goal.returns-clause-ten
returns-clause-ten c shape x y = refl

pub returns-clause-eleven : goal.returns-clause-eleven
returns-clause-eleven c matched shape right up x y = refl

pub returns-clause-moved : goal.returns-clause-moved
returns-clause-moved c states colours state = stored_here are_same states colours colours state (are_same-refl colours)

pub returns-clause-others : goal.returns-clause-others
returns-clause-others c = others_stay

pub returns-clause-numbers : goal.returns-clause-numbers
returns-clause-numbers c = number-injective
