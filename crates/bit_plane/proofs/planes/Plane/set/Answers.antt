use Rattle.std.proofs.Common.{ap, ◌∙◌, arith}
use Rattle.std.proofs.lemmas.List.{with_items_is}
use Rattle.bit_plane.specs.Pixels.{Pixels, with_black}
use Rattle.bit_plane.specs.Packed.{pixels_of}
use Rattle.bit_plane.proofs.PaintLemmas.{set_is}
use Rattle.bit_plane.proofs.PixelLaws.{same_width, same_height, set_pixels}
use Rattle.bit_plane.proofs.planes.Plane.set.Goals as goal

pub returns : goal.returns
returns c =
    let width = ap (λ (plane : Pixels). plane.width) c.self.view_is in
    let height = ap (λ (plane : Pixels). plane.height) c.self.view_is in
    let set =
    set_is c.self.inside.columns c.self.inside.rows c.args.x c.args.y c.self.inside.words.items c.or_bits.new.words (omega arith) (omega arith)
    (rw c.deref_mut.ensures.value at c.or_bits.ensures.inside) (rw c.deref_mut.ensures.value at c.or_bits.ensures.outside) in
    let value =
    ap (pixels_of c.self.inside.columns c.self.inside.rows) (with_items_is c.self.inside.words c.or_bits.new.words (omega arith))
    ∙ set ∙ ap (λ plane. with_black plane c.args.x c.args.y) c.self.view_is in
    record {
      value = value;
      width = same_width _ (with_black c.args.self.now c.args.x c.args.y) value;
      height = same_height _ (with_black c.args.self.now c.args.x c.args.y) value;
      pixels = set_pixels c.args.self.now _ c.args.x c.args.y c.requires.column c.requires.row value;
    }
