use Rattle.std.proofs.Common.{◌≡◌, ◌*◌, ◌-◌, ap, ◌∙◌, sym, arith}
use Rattle.bit_plane.specs.Pixels.{Pixels}
use Rattle.jb2_shapes.proofs.Placing.{stands_first}
use Rattle.jb2_shapes.proofs.canvas.Canvas.new.Goals as goal

pub invariant_of-result : goal.invariant_of-result
invariant_of-result c =
    let width : c.in_ok-new.field-0.width ≡ c.args.width = ap (λ (p : Pixels). p.width) c.in_ok-new.ensures.value in
    let height : c.in_ok-new.field-0.height ≡ c.args.height = ap (λ (p : Pixels). p.height) c.in_ok-new.ensures.value in
    let area : c.in_ok-new.field-0.width * c.in_ok-new.field-0.height ≡ c.args.width * c.args.height =
    ap (λ w. w * c.in_ok-new.field-0.height) width ∙ ap (λ h. c.args.width * h) height in
    let room = c.requires in
    (omega arith, omega (arith, area, room), stands_first c.in_ok-new.field-0 c.saturating_sub.result c.in_ok-new.ensures.white (c.saturating_sub.ensures ∙ ap (λ h. h - 1) (sym height)), sym area)
