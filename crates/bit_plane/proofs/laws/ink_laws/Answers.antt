use Rattle.bit_plane.proofs.InkLaws.{is_ink_box, box_within, white_box}
use Rattle.bit_plane.proofs.laws.ink_laws.Goals as goal

pub returns-clause-ends : goal.returns-clause-ends
returns-clause-ends c = is_ink_box

pub returns-clause-inside : goal.returns-clause-inside
returns-clause-inside c = box_within

pub returns-clause-none : goal.returns-clause-none
returns-clause-none c = white_box
