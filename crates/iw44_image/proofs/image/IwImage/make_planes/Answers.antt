use Rattle.std.proofs.Common.{rules, ◌≡◌, Option, Some, None, sym, subst}
use Rattle.iw44_image.specs.contracts.image.IwImage.{the_view}
use Rattle.iw44_image.specs.declared.headers.Header.{Header}
use Rattle.iw44_image.specs.declared.planes.PlaneReaders.{PlaneReaders}
use Rattle.iw44_image.specs.Layer.{header_or}
use Rattle.iw44_image.specs.Readers.{AreNew}
use Rattle.iw44_image.specs.Image.{Image, image_by, Holds, HoldsAt, frame_of, header_in}
use Rattle.iw44_image.proofs.PlaneMaking.{made_holds, made_kept, no_planes}
use Rattle.iw44_image.proofs.image.IwImage.make_planes.Goals as goal

pub returns-in_ok-new-clause-holds : goal.returns-in_ok-new-clause-holds
unfolding Holds
returns-in_ok-new-clause-holds c = λ layer bytes decisions holds.
    let im : Image = the_view c.self.inside in
    let before = subst (λ (i : Image). Holds layer bytes decisions i) (sym c.self.view_is) holds in
    let none : im.planes ≡ None = no_planes im.planes c.is_none.result c.is_none.ensures c.if-is_none.true in
    let new : AreNew (header_in (frame_of im)) c.in_ok-new.field-0 =
    subst (λ (o : Option Header). AreNew (header_or o) c.in_ok-new.field-0) (sym c.in-Some.is) c.in_ok-new.ensures.new in
    let there = made_holds im.stage (frame_of im) layer bytes im.left decisions c.in_ok-new.field-0 im.zp new
    (subst (λ (p : Option PlaneReaders). HoldsAt im.stage (frame_of im) layer bytes decisions p im.zp im.left) none before) in
    let made : c.match-self-2.self ≡ image_by im.limit im.header im.to_come (Some c.in_ok-new.field-0) im.zp im.left im.chunks im.slices im.stage =
    search rules in
    subst (λ (i : Image). Holds layer bytes decisions i) (sym made) there

pub invariant_of-self-in_ok-new-3 : goal.invariant_of-self-in_ok-new-3
invariant_of-self-in_ok-new-3 c =
    let im : Image = the_view c.self.inside in
    let none : im.planes ≡ None = no_planes im.planes c.is_none.result c.is_none.ensures c.if-is_none.true in
    made_kept im c.in-Some.header c.in_ok-new.field-0 c.self.invariant c.in-Some.is none c.in_ok-new.ensures.sound
