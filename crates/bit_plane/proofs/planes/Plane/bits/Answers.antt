use Rattle.bit_plane.proofs.Counting.{read_digits}
use Rattle.std.proofs.Common.{◌+◌, ◌≡◌, arith, ap, cond, ◌∙◌}
use Rattle.bit_plane.specs.Pixels.{Pixels, is_black_at}
use Rattle.bit_plane.proofs.planes.Plane.bits.Goals as goal

pub returns-clause-digits : goal.returns-clause-digits
returns-clause-digits c = λ i below.
    let width : c.self.inside.columns ≡ c.args.self.now.width = ap (λ (plane : Pixels). plane.width) c.self.view_is in
    let height : c.self.inside.rows ≡ c.args.self.now.height = ap (λ (plane : Pixels). plane.height) c.self.view_is in
    read_digits c.self.inside.columns c.self.inside.rows c.self.inside.words.items c.args.x c.args.y c.args.count c.read_bits.result i
    below (omega arith) (omega arith) (rw c.deref.ensures.value at c.read_bits.ensures.bits i below)
    ∙ ap (λ plane. cond (is_black_at plane (c.args.x + i) c.args.y) 1 0) c.self.view_is
