use Rattle.std.proofs.Common.{◌≡◌, ◌*◌, ◌^◌, ◌<◌, get_or, length, arith, rules, refl, ap}
use Rattle.std.specs.Int.Count.{ones-le}
use Rattle.bit_plane.specs.Bits.{bit}
use Rattle.bit_plane.proofs.BitLemmas.{bit-lt}
use Rattle.bit_plane.proofs.Totals.{total, total_le}
use Rattle.bit_plane.proofs.Counting.{word_more, all_set}
use Rattle.bit_plane.proofs.words.count_set.Goals as goal

pub overflow_add-count : goal.overflow_add-count
overflow_add-count c =
    let fits : get_or c.args.words.now c.loop-word.word-index 0 < 2 ^ 64 = search rules in
    let before = total_le (bit c.args.words.now) (64 * c.loop-word.word-index) (bit-lt c.args.words.now) in
    omega (arith, ones-le 64 _ fits)

pub loop-word-preserved : goal.loop-word-preserved
loop-word-preserved c =
    let fits : get_or c.args.words.now c.loop-word.word-index 0 < 2 ^ 64 = search rules in
    omega (arith, word_more c.args.words.now c.loop-word.word-index _ refl fits)

pub returns : goal.returns
returns c =
    let all = all_set c.args.words.now in
    let ends : total (bit c.args.words.now) (64 * c.loop-word.word-index) ≡ total (bit c.args.words.now) (64 * length c.args.words.now) =
    ap (λ n. total (bit c.args.words.now) (64 * n)) (omega arith) in
    omega arith
