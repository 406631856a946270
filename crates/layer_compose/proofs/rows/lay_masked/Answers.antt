use Rattle.std.proofs.Common.{ℕ, Bool, arith}
use Rattle.bit_plane.specs.Pixels.{is_black_at}
use Rattle.layer_compose.specs.Drawing.{layer_sample}
use Rattle.layer_compose.proofs.Masking.{first_more}
use Rattle.layer_compose.proofs.rows.lay_masked.Goals as goal

pub loop-x-preserved : goal.loop-x-preserved
loop-x-preserved c =
    let test : ℕ → Bool = λ p. is_black_at c.args.mask.now p c.args.y in
    record {
      lays =
          first_more test c.bits-digits.result c.loop-x.x c.min-count.result (λ x channel. layer_sample c.args.front.now 0 c.args.by x c.args.y channel) c.args.out.now c.loop-x.out
          c.lay_digits.new.out c.bits-digits.ensures.digits c.loop-x.invariant.lays c.lay_digits.ensures;
      within = omega arith;
    }
