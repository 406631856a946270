use Rattle.std.proofs.Common.{◌≡◌, ℕ, ◌*◌, ◌∙◌, ap, arith, pos, replicate}
use Rattle.iw44_blocks.specs.Plane.{blocks_along}
use Rattle.iw44_blocks.proofs.Words.{new_words, zero_valid}
use Rattle.iw44_blocks.proofs.coefficients.Coefficients.new.Goals as goal

pub invariant_of-result : goal.invariant_of-result
invariant_of-result c =
    let count : ℕ = 64 * (c.blocks_along.result * c.blocks_along-2.result) in
    let size : 1024 * (c.blocks_along.result * c.blocks_along-2.result) ≡ 16 * count = omega arith in
    let all = c.in_ok-numbers.ensures in
    let same : c.blocks_along.result * c.blocks_along-2.result ≡ blocks_along c.args.width * blocks_along c.args.height =
    ap (λ (n : ℕ). n * c.blocks_along-2.result) c.blocks_along.ensures ∙ ap (λ (n : ℕ). blocks_along c.args.width * n) c.blocks_along-2.ensures in
    record {
      plane = zero_valid c.args.width c.args.height c.in_ok-numbers.numbers.items c.requires.some c.requires.fits
          (all ∙ ap (λ (n : ℕ). replicate (1024 * n) (pos 0)) same);
      words = new_words count c.in_ok-numbers.numbers.items c.in_ok-words.words.items (all ∙ ap (λ (n : ℕ). replicate n (pos 0)) size) c.in_ok-words.ensures;
    }
