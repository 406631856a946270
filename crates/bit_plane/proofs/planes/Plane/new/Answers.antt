use Rattle.bit_plane.proofs.PaintLemmas.{packed_blank, blank_packed}
use Rattle.bit_plane.proofs.PixelLaws.{blank_pixels}
use Rattle.bit_plane.proofs.planes.Plane.new.Goals as goal

pub invariant_of-result : goal.invariant_of-result
invariant_of-result c = packed_blank c.args.width c.args.height _ _ c.requires c.div_ceil.ensures c.in_ok-zeros.ensures

pub returns-clause-value : goal.returns-clause-value
returns-clause-value c = blank_packed c.args.width c.args.height _ _ c.in_ok-zeros.ensures

pub returns-clause-white : goal.returns-clause-white
returns-clause-white c = blank_pixels _ c.args.width c.args.height (blank_packed c.args.width c.args.height _ _ c.in_ok-zeros.ensures)
