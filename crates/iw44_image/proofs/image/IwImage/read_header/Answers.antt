use Rattle.std.proofs.Common.{◌≡◌, ℕ, List, ap, sym, ◌∙◌, subst}
use Rattle.iw44_image.specs.contracts.image.IwImage.{the_view}
use Rattle.iw44_image.specs.declared.steps.Stage.{Stage}
use Rattle.iw44_image.specs.Header.{Short, Wrong, open_chunk}
use Rattle.iw44_image.specs.Layer.{Need, Fault, ends}
use Rattle.iw44_image.specs.Image.{Image, Holds, HoldsAt, InHeader, frame_of, layer_of, reading_of, is_whole}
use Rattle.iw44_image.proofs.Headed.{header_reads}
use Rattle.iw44_image.proofs.image.IwImage.read_header.Goals as goal

pub returns-in-Short-clause-steps : goal.returns-in-Short-clause-steps
unfolding Holds
returns-in-Short-clause-steps c = λ layer bytes decisions holds.
    let im : Image = the_view c.self.inside in
    let stage_is = ap (λ (i : Image). i.stage) c.self.view_is ∙ c.requires.stage in
    let before = subst (λ (i : Image). Holds layer bytes decisions i) (sym c.self.view_is) holds in
    let here : InHeader (frame_of im) layer bytes decisions im.planes im.left =
    subst (λ (s : Stage). HoldsAt s (frame_of im) layer bytes decisions im.planes im.zp im.left) stage_is before in
    let whole = c.is_whole-whole.ensures ∙ ap (λ (i : Image). is_whole i.to_come) (sym c.self.view_is) in
    let is : open_chunk im.limit im.chunks im.header im.left (is_whole im.to_come) ≡ Short =
    sym (c.in-Short.ensures.opening ∙ ap (λ (l : List ℕ). open_chunk im.limit im.chunks im.header l c.is_whole-whole.result) c.left.ensures
    ∙ ap (open_chunk im.limit im.chunks im.header im.left) whole) in
    let reads = header_reads (frame_of im) layer bytes im.left decisions im.planes Short here is in
    (subst (λ (i : Image). reading_of i bytes layer ≡ ends Need (layer_of i decisions)) c.self.view_is reads, holds)

pub returns-in-Wrong-clause-steps : goal.returns-in-Wrong-clause-steps
unfolding Holds
returns-in-Wrong-clause-steps c = λ layer bytes decisions holds.
    let im : Image = the_view c.self.inside in
    let stage_is = ap (λ (i : Image). i.stage) c.self.view_is ∙ c.requires.stage in
    let before = subst (λ (i : Image). Holds layer bytes decisions i) (sym c.self.view_is) holds in
    let here : InHeader (frame_of im) layer bytes decisions im.planes im.left =
    subst (λ (s : Stage). HoldsAt s (frame_of im) layer bytes decisions im.planes im.zp im.left) stage_is before in
    let whole = c.is_whole-whole.ensures ∙ ap (λ (i : Image). is_whole i.to_come) (sym c.self.view_is) in
    let is : open_chunk im.limit im.chunks im.header im.left (is_whole im.to_come) ≡ Wrong c.in-Wrong.kind =
    sym (c.in-Wrong.ensures.opening ∙ ap (λ (l : List ℕ). open_chunk im.limit im.chunks im.header l c.is_whole-whole.result) c.left.ensures
    ∙ ap (open_chunk im.limit im.chunks im.header im.left) whole) in
    let reads = header_reads (frame_of im) layer bytes im.left decisions im.planes (Wrong c.in-Wrong.kind) here is in
    (subst (λ (i : Image). reading_of i bytes layer ≡ ends (Fault c.in-Wrong.kind) (layer_of im decisions)) c.self.view_is reads, reads)
