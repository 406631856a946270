use Rattle.std.proofs.Common.{◌≡◌, ◌+◌, ◌-ℤ◌, refl, sym, ap, subst, ◌∙◌, to_z, of_z, w32, w64, rules}
use Rattle.bit_plane.specs.Pixels.{painted}
use Rattle.jb2_records.specs.Records.{Frame, placement_at}
use Rattle.jb2_records.specs.Picture.{Picture, Shows, IsPlaceable, relative_of, mark_at}
use Rattle.jb2_records.proofs.Showing.{Paints, shows_mark, placed_once, picture_painted, painted_at, minus_at}
use Rattle.jb2_records.proofs.picture.Picture.place.Goals as goal

pub invariant_of-self : goal.invariant_of-self
invariant_of-self c =
    let old : Picture = record { mask = c.self.inside.mask; places = c.self.inside.places; count = c.self.inside.count; pixels = c.self.inside.pixels } in
    let new : Picture = record {
      mask = c.paint.new.self;
      places = c.next_spot-spot.new.places;
      count = c.self.inside.count + 1;
      pixels = c.self.inside.pixels + c.area_of.result;
    } in
    let left_fits : to_z w64 (of_z w64 c.corner-left.result) ≡ c.corner-left.result = search rules in
    let bottom_fits : to_z w64 (of_z w64 c.corner-bottom.result) ≡ c.corner-bottom.result = search rules in
    let paints : Paints old new c.args.shape.now c.corner-left.result c.corner-bottom.result = record {
      mask = painted_at c.paint.new.self c.self.inside.mask c.args.shape.now (to_z w64 (of_z w64 c.corner-left.result)) c.corner-left.result
          (to_z w64 (of_z w64 c.corner-bottom.result)) c.corner-bottom.result c.paint.ensures.value left_fits bottom_fits;
      count = refl;
      pixels = ap (λ n. c.self.inside.pixels + n) c.area_of.ensures.area;
    } in
    picture_painted old new c.args.shape.now c.corner-left.result c.corner-bottom.result paints
    (subst (λ (p : Picture). IsPlaceable c.args.shape.now p) (sym c.self.view_is) c.requires.room) c.self.invariant
    (placed_once c.self.inside.count (placement_at (relative_of c.args.steps) c.args.frame) c.self.inside.places c.next_spot-spot.new.places
    c.self.invariant.rows c.next_spot-spot.ensures.after)

pub returns : goal.returns
returns c input before entry is shows =
    let old : Picture = record { mask = c.self.inside.mask; places = c.self.inside.places; count = c.self.inside.count; pixels = c.self.inside.pixels } in
    let new : Picture = record {
      mask = c.paint.new.self;
      places = c.next_spot-spot.new.places;
      count = c.self.inside.count + 1;
      pixels = c.self.inside.pixels + c.area_of.result;
    } in
    let left_fits : to_z w64 (of_z w64 c.corner-left.result) ≡ c.corner-left.result = search rules in
    let bottom_fits : to_z w64 (of_z w64 c.corner-bottom.result) ≡ c.corner-bottom.result = search rules in
    let seen : c.paint.new.self ≡ painted c.self.inside.mask c.args.shape.now c.corner-left.result c.corner-bottom.result =
    painted_at c.paint.new.self c.self.inside.mask c.args.shape.now (to_z w64 (of_z w64 c.corner-left.result)) c.corner-left.result
    (to_z w64 (of_z w64 c.corner-bottom.result)) c.corner-bottom.result c.paint.ensures.value left_fits bottom_fits in
    let spot_left : to_z w64 (of_z w64 c.next_spot-spot.result.left) ≡ c.next_spot-spot.result.left = search rules in
    let spot_bottom : to_z w64 (of_z w64 c.next_spot-spot.result.bottom) ≡ c.next_spot-spot.result.bottom = search rules in
    let frame_left : to_z w32 (of_z w32 c.frame.inside.left) ≡ c.frame.inside.left = search rules in
    let frame_bottom : to_z w32 (of_z w32 c.frame.inside.bottom) ≡ c.frame.inside.bottom = search rules in
    let left_is : c.corner-left.result ≡ c.next_spot-spot.result.left -ℤ c.args.frame.left =
    minus_at c.corner-left.result (to_z w64 (of_z w64 c.next_spot-spot.result.left)) c.next_spot-spot.result.left
    (to_z w32 (of_z w32 c.frame.inside.left)) c.args.frame.left
    c.corner-left.ensures spot_left (frame_left ∙ ap (λ (f : Frame). f.left) c.frame.view_is) in
    let bottom_is : c.corner-bottom.result ≡ c.next_spot-spot.result.bottom -ℤ c.args.frame.bottom =
    minus_at c.corner-bottom.result (to_z w64 (of_z w64 c.next_spot-spot.result.bottom)) c.next_spot-spot.result.bottom
    (to_z w32 (of_z w32 c.frame.inside.bottom)) c.args.frame.bottom
    c.corner-bottom.ensures spot_bottom (frame_bottom ∙ ap (λ (f : Frame). f.bottom) c.frame.view_is) in
    let paints : Paints old new c.args.shape.now (c.next_spot-spot.result.left -ℤ c.args.frame.left)
    (c.next_spot-spot.result.bottom -ℤ c.args.frame.bottom) = record {
      mask = painted_at c.paint.new.self c.self.inside.mask c.args.shape.now c.corner-left.result (c.next_spot-spot.result.left -ℤ c.args.frame.left)
          c.corner-bottom.result (c.next_spot-spot.result.bottom -ℤ c.args.frame.bottom) seen left_is bottom_is;
      count = refl;
      pixels = ap (λ n. c.self.inside.pixels + n) c.area_of.ensures.area;
    } in
    shows_mark input before entry old new (mark_at c.args.shape.now c.args.frame c.args.steps) c.next_spot-spot.result
    is c.next_spot-spot.ensures.spot c.next_spot-spot.ensures.after paints
    (subst (λ (p : Picture). Shows input before p) (sym c.self.view_is) shows)
