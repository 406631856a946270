use Rattle.std.proofs.Common.{◌+◌, ◌*◌, ◌∙◌, ap}
use Rattle.iw44_blocks.specs.Plane.{Plane, block_count}
use Rattle.iw44_blocks.proofs.Words.{word_of_block, word_within, or_any}
use Rattle.iw44_blocks.proofs.coefficients.Coefficients.nonzero.Goals as goal

pub returns : goal.returns
returns c =
    let words = c.self.inside.words.items in
    let place = 64 * c.args.block + c.args.bucket in
    let within = word_within c.self.inside.numbers.items words c.args.self.now c.args.block c.args.bucket
    (c.self.invariant.plane.full ∙ ap (λ (p : Plane). 1024 * block_count p) c.self.view_is) c.self.invariant.words
    c.requires.block c.requires.bucket in
    word_of_block c.self.inside.numbers.items words c.args.self.now c.args.block c.args.bucket c.index.result.now
    c.self.invariant.words (ap (λ (p : Plane). p.numbers) c.self.view_is) within (c.index.ensures ∙ or_any words place c.index.result.now 0 within)
