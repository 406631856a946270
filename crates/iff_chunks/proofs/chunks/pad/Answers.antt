use Rattle.std.proofs.Common.{refl, ◌<◌, ◌-◌, ◌+◌, false, length, drop, arith, subst}
use Rattle.std.proofs.lemmas.Bool.Decides.{nat_tests}
use Rattle.iff_chunks.specs.declared.stages.ChunkPlace.{ChunkPlace}
use Rattle.iff_chunks.specs.declared.stages.Stage.TheVariants as stage
use Rattle.iff_chunks.specs.Told.{Feeds}
use Rattle.iff_chunks.proofs.Moving.{feeds_behind}
use Rattle.iff_chunks.proofs.Passing.{pad_leads}
use Rattle.iff_chunks.proofs.chunks.pad.Goals as goal

pub returns : goal.returns
returns c =
    let from = stage.Pad c.args.chunk_before in
    let piece = c.args.piece.now in
    let some : 0 < length piece = grind (arith, nat_tests) in
    let there : ChunkPlace =
    record { offset = c.args.chunk_before.offset + 9 + c.args.chunk_before.length; left = c.args.chunk_before.behind - 1; is_first = false } in
    let rest : Feeds (stage.Header c.place_behind_pad-place.result c.new.result) (drop 1 piece) c.chunk.result =
    subst (λ p. Feeds (stage.Header c.place_behind_pad-place.result c.new.result) p c.chunk.result) c.rest_of.ensures c.chunk.ensures.feeds in
    let to : Feeds (stage.Header there c.new.result) (drop 1 piece) c.chunk.result =
    subst (λ p. Feeds (stage.Header p c.new.result) (drop 1 piece) c.chunk.result) c.place_behind_pad-place.ensures rest in
    rw c.behind.ensures (feeds_behind from (stage.Header there c.new.result) piece 1 c.chunk.result
    (pad_leads c.args.chunk_before c.new.result piece some c.new.ensures.bytes) refl to c.chunk.ensures.no_data tt)
