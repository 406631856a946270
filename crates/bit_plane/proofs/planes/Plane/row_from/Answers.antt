use Rattle.std.proofs.Common.{◌≡◌, arith, pos, ◌∙◌, sym, to_z, of_z, w64, refl}
use Rattle.std.proofs.lemmas.Int.{ints, to_z-of_z}
use Rattle.bit_plane.proofs.RowRuns.{beyond_run, left_run, right_run, shifted_run, run_at_place}
use Rattle.bit_plane.proofs.planes.Plane.row_from.Goals as goal
use Rattle.bit_plane.proofs.planes.Plane.row_from.Goals.{else-x-gtminus64-via-then-x-gtminus64+else-x-lt0, else-x-gtminus64-via-else-x-gtminus64}

pub returns-in_default : goal.returns-in_default
returns-in_default c =
    beyond_run c.args.self.now c.args.x c.args.y 64 (λ b p e.
    c.in_default.ensures b (omega arith) (to_z-of_z w64 c.args.y c.ranges.y ∙ e))

pub returns-then-x-lt0 : goal.returns-then-x-lt0
returns-then-x-lt0 c =
    let x : to_z w64 (of_z w64 c.args.x) ≡ c.args.x = to_z-of_z w64 c.args.x c.ranges.x in
    let low = c.if-x-gtminus64.true in
    let high = c.if-x-lt0.true in
    shifted_run c.args.self.now c.args.x c.args.y c.unsigned_abs.result c.row_within-then-x-lt0.result _ (omega (arith, ints)) (omega (arith, ints))
    (run_at_place c.args.self.now c.args.self.now (pos 0) (pos c.in-Some.row) (pos 0) c.args.y 64 c.row_within-then-x-lt0.result refl refl
    (sym c.in-Some.ensures.0 ∙ to_z-of_z w64 c.args.y c.ranges.y) c.row_within-then-x-lt0.ensures) refl

pub returns-else-x-gtminus64 : goal.returns-else-x-gtminus64
returns-else-x-gtminus64 c =
    let x : to_z w64 (of_z w64 c.args.x) ≡ c.args.x = to_z-of_z w64 c.args.x c.ranges.x in
    elim c.else-x-gtminus64.branch [
      | else-x-gtminus64-via-then-x-gtminus64+else-x-lt0 w ↦ right_run c.args.self.now c.args.x c.args.y 64 (omega (arith, ints, w.if-x-lt0.false, x)) (λ a p e.
          c.in_default-place.ensures a (omega arith) (x ∙ e))
      | else-x-gtminus64-via-else-x-gtminus64 w ↦ left_run c.args.self.now c.args.x c.args.y 64 (omega (arith, ints, w.if-x-gtminus64.false, x))
    ]
