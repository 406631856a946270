use Rattle.std.proofs.Common.{drop, ap, arith}
use Rattle.std.proofs.lemmas.List.{drop_all}
use Rattle.iff_chunks.specs.Start.{common_front}
use Rattle.iff_chunks.proofs.CommonFront.{common_none}
use Rattle.iff_chunks.proofs.fronts.common_front.Goals as goal

pub returns-else-common-bytes : goal.returns-else-common-bytes
returns-else-common-bytes c =
    let n = c.loop-common.common in
    let left = drop n c.args.wanted.now in
    let none = drop_all n c.args.bytes.now (omega arith) in
    let same = ap (common_front left) none in
    omega (arith, same, common_none left)
