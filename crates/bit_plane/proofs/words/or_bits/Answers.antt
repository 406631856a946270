use Rattle.bit_plane.proofs.Setting.{one_inside, one_outside, two_inside, two_outside}
use Rattle.bit_plane.proofs.words.or_bits.Goals as goal

pub returns-then-shift-count-gt64-clause-inside : goal.returns-then-shift-count-gt64-clause-inside
returns-then-shift-count-gt64-clause-inside c = λ i p. two_inside c.args.words.now c.args.at c.args.bits c.args.count i p c.requires.word c.if-shift-count-gt64.true c.requires.within

pub returns-then-shift-count-gt64-clause-outside : goal.returns-then-shift-count-gt64-clause-outside
returns-then-shift-count-gt64-clause-outside c = λ i apart. two_outside c.args.words.now c.args.at c.args.bits c.args.count i apart c.requires.word c.if-shift-count-gt64.true c.requires.within c.requires.below

pub returns-else-shift-count-gt64-clause-inside : goal.returns-else-shift-count-gt64-clause-inside
returns-else-shift-count-gt64-clause-inside c = λ i p. one_inside c.args.words.now c.args.at c.args.bits c.args.count i p c.if-shift-count-gt64.false c.requires.within

pub returns-else-shift-count-gt64-clause-outside : goal.returns-else-shift-count-gt64-clause-outside
returns-else-shift-count-gt64-clause-outside c = λ i apart. one_outside c.args.words.now c.args.at c.args.bits c.args.count i apart c.requires.some c.requires.within c.requires.below
