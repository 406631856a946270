use Rattle.std.proofs.Common.{◌/◌, ◌^◌, ◌<◌, get_or, bit_and, ap, ◌∙◌, ◌-◌, rules}
use Rattle.bit_plane.specs.Bits.{digit}
use Rattle.bit_plane.proofs.BitLemmas.{masked_below, read_one, read_two}
use Rattle.bit_plane.proofs.words.read_bits.Goals as goal
use Rattle.bit_plane.proofs.words.read_bits.Goals.{then-shift-count-gt64, else-shift-count-gt64}

pub returns-clause-below : goal.returns-clause-below
returns-clause-below c = masked_below _ 64 c.args.count c.requires.word

pub returns-clause-bits : goal.returns-clause-bits
returns-clause-bits c = λ i below.
    elim c.if-shift-count-gt64.branch [
      | then-shift-count-gt64 w ↦
          let fits : get_or c.args.words.now (c.args.at / 64) 0 < 2 ^ 64 = search rules in
          ap (λ b. digit (bit_and b ((2 ^ 64 - 1) / 2 ^ (64 - c.args.count))) i) w.bits-is
          ∙ read_two c.args.words.now c.args.at c.args.count i c.requires.word below w.if-shift-count-gt64.true fits
      | else-shift-count-gt64 w ↦
          ap (λ b. digit (bit_and b ((2 ^ 64 - 1) / 2 ^ (64 - c.args.count))) i) w.bits-is
          ∙ read_one c.args.words.now c.args.at c.args.count i c.requires.word below w.if-shift-count-gt64.false
    ]
