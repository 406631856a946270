use Rattle.std.proofs.Common.{◌≡◌, ℕ, ◌+◌, Bool, None, refl, ap, sym, ◌∙◌, subst}
use Rattle.iw44_image.specs.contracts.image.IwImage.{the_view}
use Rattle.iw44_image.specs.declared.steps.Stage.{Stage}
use Rattle.iw44_image.specs.declared.steps.Stage.TheVariants as stage
use Rattle.iw44_image.specs.Layer.{Layer, Done, ends, chunk_end}
use Rattle.iw44_image.specs.Image.{Image, image_by, Holds, HoldsAt, InRest, AreNextAt, frame_of, header_of, planes_in, layer_of, reading_of}
use Rattle.iw44_image.proofs.Giving.{rest_reads}
use Rattle.iw44_image.proofs.image.IwImage.end_chunk.Goals as goal

pub returns-then-not-is_whole-clause-steps : goal.returns-then-not-is_whole-clause-steps
unfolding Holds
returns-then-not-is_whole-clause-steps c = λ layer bytes decisions holds.
    let im : Image = c.args.self.now in
    let rest : InRest (frame_of im) layer bytes decisions im.planes im.zp c.args.count =
    subst (λ (s : Stage). HoldsAt s (frame_of im) layer bytes decisions im.planes im.zp im.left) c.requires.stage holds in (
      rest_reads (frame_of im) layer bytes decisions im.planes im.zp c.args.count rest
          ∙ ap (λ (w : Bool). chunk_end w c.args.count (layer_of im decisions)) (sym c.is_whole.ensures ∙ c.if-not-is_whole.true),
      holds,
    )

pub returns-clause-steps : goal.returns-clause-steps
unfolding Holds
returns-clause-steps c = λ layer bytes decisions holds.
    let im : Image = the_view c.self.inside in
    let new : Image = image_by im.limit im.header None im.planes im.zp c.clear.new.self (im.chunks + 1) (im.slices + c.from.result) stage.Header in
    let stage_is = ap (λ (i : Image). i.stage) c.self.view_is ∙ c.requires.stage in
    let before = subst (λ (i : Image). Holds layer bytes decisions i) (sym c.self.view_is) holds in
    let rest : InRest (frame_of im) layer bytes decisions im.planes im.zp c.args.count =
    subst (λ (s : Stage). HoldsAt s (frame_of im) layer bytes decisions im.planes im.zp im.left) stage_is before in
    let all = ap (λ (i : Image). Rattle.iw44_image.specs.Image.is_whole i.to_come) c.self.view_is ∙ sym c.is_whole.ensures ∙ c.if-not-is_whole.false in
    let reads : reading_of im bytes layer ≡ ends Done (layer_of new decisions) =
    rest_reads (frame_of im) layer bytes decisions im.planes im.zp c.args.count rest
    ∙ ap (λ (w : Bool). chunk_end w c.args.count (layer_of im decisions)) all
    ∙ ap (λ (n : ℕ). ends Done (let l : Layer = record {
      header = im.header;
      planes = planes_in
          (header_of im) im.planes;
      slices = im.slices + n;
      chunks = im.chunks + 1;
      decisions = decisions;
    } in l)) (sym c.from.ensures) in (
      subst (λ (i : Image). reading_of i bytes layer ≡ ends Done (layer_of new decisions)) c.self.view_is reads,
      record {
        layer_is = refl;
        left_is = c.clear.ensures;
        placed = subst (λ (n : ℕ). AreNextAt (header_of im) (im.slices + n) im.planes) (sym c.from.ensures) rest.placed;
      },
    )
