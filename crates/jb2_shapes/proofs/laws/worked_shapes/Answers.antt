use Rattle.std.proofs.Common.{refl}
use Rattle.zp_decoder.specs.Decision.{most_bits}
use Rattle.jb2_shapes.proofs.laws.worked_shapes.Goals as goal

pub returns-clause-six : goal.returns-clause-six
unfolding most_bits
returns-clause-six c = refl

pub returns-clause-pixel : goal.returns-clause-pixel
unfolding most_bits
returns-clause-pixel c = refl

pub returns-clause-refined_pixel : goal.returns-clause-refined_pixel
unfolding most_bits
returns-clause-refined_pixel c = refl

pub returns-clause-first : goal.returns-clause-first
unfolding most_bits
returns-clause-first c = refl

pub returns-clause-first_place : goal.returns-clause-first_place
unfolding most_bits
returns-clause-first_place c = refl

pub returns-clause-second : goal.returns-clause-second
unfolding most_bits
returns-clause-second c = refl

pub returns-clause-second_place : goal.returns-clause-second_place
unfolding most_bits
returns-clause-second_place c = refl

pub returns-clause-needs : goal.returns-clause-needs
unfolding most_bits
returns-clause-needs c = refl

pub returns-clause-exhausted : goal.returns-clause-exhausted
unfolding most_bits
returns-clause-exhausted c = refl

pub returns-clause-exhausted_at : goal.returns-clause-exhausted_at
unfolding most_bits
returns-clause-exhausted_at c = refl
