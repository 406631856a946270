use Rattle.std.proofs.Common.{◌≡◌, ◌≤◌, ◌+◌, pos, refl, sym, ap, subst, arith, to_z, of_z, w32, w64, rules}
use Rattle.std.proofs.lemmas.Int.{ints}
use Rattle.bit_plane.specs.Pixels.{side_limit}
use Rattle.jb2_records.specs.Picture.{Picture, Shows}
use Rattle.jb2_records.proofs.Showing.{Paints, shows_plain, painted_at, absolute_equal}
use Rattle.jb2_records.proofs.picture.Picture.place_plain.Goals as goal

pub returns : goal.returns
returns c input before shows =
    let old : Picture = record { mask = c.self.inside.mask; places = c.self.inside.places; count = c.self.inside.count; pixels = c.self.inside.pixels } in
    let new : Picture = record {
      mask = c.paint.new.self;
      places = c.self.inside.places;
      count = c.self.inside.count + 1;
      pixels = c.self.inside.pixels + c.area_of.result;
    } in
    let left_fits : to_z w64 (of_z w64 c.absolute-spot.result.left) ≡ c.absolute-spot.result.left = search rules in
    let bottom_fits : to_z w64 (of_z w64 c.absolute-spot.result.bottom) ≡ c.absolute-spot.result.bottom = search rules in
    let paints : Paints old new c.args.shape.now c.absolute-spot.result.left c.absolute-spot.result.bottom = record {
      mask = painted_at c.paint.new.self c.self.inside.mask c.args.shape.now (to_z w64 (of_z w64 c.absolute-spot.result.left)) c.absolute-spot.result.left
          (to_z w64 (of_z w64 c.absolute-spot.result.bottom)) c.absolute-spot.result.bottom c.paint.ensures.value left_fits bottom_fits;
      count = refl;
      pixels = ap (λ n. c.self.inside.pixels + n) c.area_of.ensures.area;
    } in
    let high : c.args.shape.now.height ≤ side_limit = c.requires.room.sides.height in
    let same : c.height.result ≡ c.args.shape.now.height = c.height.ensures in
    let left_is : to_z w32 (of_z w32 c.args.left) ≡ c.args.left = search rules in
    let top_is : to_z w32 (of_z w32 c.args.top) ≡ c.args.top = search rules in
    let height_is : to_z w32 c.height.result ≡ pos c.args.shape.now.height = omega (arith, ints) in
    shows_plain input before old new c.args.shape.now c.args.left c.args.top c.absolute-spot.result c.requires.some_left c.requires.some_top
    (absolute_equal c.absolute-spot.result (to_z w32 (of_z w32 c.args.left)) c.args.left (to_z w32 (of_z w32 c.args.top)) c.args.top
    (to_z w32 c.height.result) (pos c.args.shape.now.height) c.absolute-spot.ensures left_is top_is height_is)
    refl paints (subst (λ (p : Picture). Shows input before p) (sym c.self.view_is) shows)
