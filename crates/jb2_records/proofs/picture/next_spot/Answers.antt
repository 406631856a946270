use Rattle.std.proofs.Common.{◌≡◌, Bool, true, false, sym, ap, subst, ◌∙◌, to_z, of_z, w32, rules}
use Rattle.jb2_places.specs.Place.{place}
use Rattle.jb2_records.specs.Records.{Frame, placement_at}
use Rattle.jb2_records.specs.Picture.{relative_by}
use Rattle.jb2_records.proofs.Showing.{placed_equal}
use Rattle.jb2_records.proofs.picture.next_spot.Goals as goal

pub returns-then-steps-clause-spot : goal.returns-then-steps-clause-spot
returns-then-steps-clause-spot c image_height earlier after =
    let dx : to_z w32 (of_z w32 c.args.steps.dx) ≡ c.args.steps.dx = search rules in
    let dy : to_z w32 (of_z w32 c.args.steps.dy) ≡ c.args.steps.dy = search rules in
    let width : to_z w32 (of_z w32 c.frame.inside.width) ≡ c.frame.inside.width = search rules in
    let height : to_z w32 (of_z w32 c.frame.inside.height) ≡ c.frame.inside.height = search rules in
    subst (λ (b : Bool). c.new_row.result ≡ place image_height earlier (placement_at (relative_by b c.args.steps.dx c.args.steps.dy) c.args.frame))
    (sym c.if-steps.true)
    (placed_equal c.new_row.result image_height earlier true (to_z w32 (of_z w32 c.args.steps.dx)) c.args.steps.dx
    (to_z w32 (of_z w32 c.args.steps.dy)) c.args.steps.dy
    (to_z w32 (of_z w32 c.frame.inside.width)) c.args.frame.width (to_z w32 (of_z w32 c.frame.inside.height)) c.args.frame.height
    (c.new_row.ensures.spot image_height earlier after) dx dy
    (width ∙ ap (λ (f : Frame). f.width) c.frame.view_is) (height ∙ ap (λ (f : Frame). f.height) c.frame.view_is))

pub returns-else-steps-clause-spot : goal.returns-else-steps-clause-spot
returns-else-steps-clause-spot c image_height earlier after =
    let dx : to_z w32 (of_z w32 c.args.steps.dx) ≡ c.args.steps.dx = search rules in
    let dy : to_z w32 (of_z w32 c.args.steps.dy) ≡ c.args.steps.dy = search rules in
    let width : to_z w32 (of_z w32 c.frame.inside.width) ≡ c.frame.inside.width = search rules in
    let height : to_z w32 (of_z w32 c.frame.inside.height) ≡ c.frame.inside.height = search rules in
    subst (λ (b : Bool). c.same_row.result ≡ place image_height earlier (placement_at (relative_by b c.args.steps.dx c.args.steps.dy) c.args.frame))
    (sym c.if-steps.false)
    (placed_equal c.same_row.result image_height earlier false (to_z w32 (of_z w32 c.args.steps.dx)) c.args.steps.dx
    (to_z w32 (of_z w32 c.args.steps.dy)) c.args.steps.dy
    (to_z w32 (of_z w32 c.frame.inside.width)) c.args.frame.width (to_z w32 (of_z w32 c.frame.inside.height)) c.args.frame.height
    (c.same_row.ensures.spot image_height earlier after) dx dy
    (width ∙ ap (λ (f : Frame). f.width) c.frame.view_is) (height ∙ ap (λ (f : Frame). f.height) c.frame.view_is))
