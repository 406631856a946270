use Rattle.std.proofs.Common.{◌≡◌, ◌*◌, ◌+◌, ◌-◌, ◌<◌, ◌≤◌, ℕ, arith, refl, sym, subst}
use Rattle.std.proofs.lemmas.Nat.{mul-le}
use Rattle.layer_compose.proofs.Reducing.{reduction_some}
use Rattle.layer_compose.proofs.CodedRows.{rows_put}
use Rattle.layer_compose.proofs.layers.Layers.upright_rows.Goals as goal

pub nonzero_rem-y : goal.nonzero_rem-y
nonzero_rem-y c =
    let P : ℕ → Type 0 = λ k. 0 < k in
    subst P (sym c.reductions-by.ensures.back) (reduction_some c.args.self.now c.args.self.now.back)

pub slice_bounds-alike_rows-end : goal.slice_bounds-alike_rows-end
slice_bounds-alike_rows-end c =
    let room = c.requires.room in
    let width : ℕ = 3 * c.args.self.now.width in
    let done : ℕ = c.loop-done.done in
    let alike : ℕ = c.min-alike.result in
    let within : width * (done + alike) ≤ width * c.args.count = mul-le width (done + alike) width c.args.count (omega arith) (omega (arith, c.min-alike.ensures)) in
    let both : width * (done + alike) ≡ width * done + width * alike = grind arith in
    omega arith

pub loop-done-preserved : goal.loop-done-preserved
loop-done-preserved c =
    let room = c.requires.room in
    let width : ℕ = 3 * c.args.self.now.width in
    let done : ℕ = c.loop-done.done in
    let alike : ℕ = c.min-alike.result in
    let within : width * done ≤ width * c.args.count = mul-le width done width c.args.count (omega arith) (omega arith) in
    record {
      within = omega (arith, c.min-alike.ensures);
      rows =
          rows_put c.args.self.now c.args.from done alike (c.args.self.now.height - 1 - (c.args.from + done)) (width * done) (width * done + width * alike - width * done) c.loop-done.out
          c.alike_rows.new.out refl refl c.loop-done.invariant.rows c.alike_rows.ensures (omega arith);
    }
