use Rattle.std.proofs.Common.{rules, ◌≡◌, ◌≤◌, ℕ, List, [], Option, Some, None, length, drop, refl, ap, sym, ◌∙◌, subst}
use Rattle.std.specs.Prelude.{IsSome}
use Rattle.zp_decoder.specs.Decoder.{is_all}
use Rattle.iw44_image.specs.contracts.image.IwImage.{the_view}
use Rattle.iw44_image.specs.declared.headers.Header.{Header}
use Rattle.iw44_image.specs.declared.steps.Stage.{Stage}
use Rattle.iw44_image.specs.Starting.{HasArea}
use Rattle.iw44_image.specs.Header.{Opened, open_chunk}
use Rattle.iw44_image.specs.Layer.{Layer}
use Rattle.iw44_image.specs.Image.{Image, Frame, frame_by, Holds, HoldsAt, InHeader, frame_of, reading_of, is_whole}
use Rattle.iw44_image.specs.Keeping.{first_stage}
use Rattle.iw44_image.proofs.Beginning.{known_header}
use Rattle.iw44_image.proofs.Headed.{first_kept, first_planes, no_header, opened_holds, opened_header, size_told}
use Rattle.iw44_image.proofs.image.IwImage.begin.Goals as goal

pub invariant_of-self : goal.invariant_of-self
invariant_of-self c =
    let im : Image = the_view c.self.inside in
    let stage_is = ap (λ (i : Image). i.stage) c.self.view_is ∙ c.requires.stage in
    let whole = c.is_whole-whole.ensures ∙ ap (λ (i : Image). is_whole i.to_come) (sym c.self.view_is) in
    let told : c.finish.new.zp.ended ≡ is_all c.skip.new.self (is_whole im.to_come) = c.finish.ensures.ended ∙ c.is_all.ensures
    ∙ ap (λ (l : List ℕ). is_all l c.is_whole-whole.result) c.left.ensures ∙ ap (is_all c.skip.new.self) whole in
    let few : im.chunks ≤ 255 = subst (λ (i : Image). i.chunks ≤ 255) (sym c.self.view_is) c.requires.chunks in
    let running : IsSome im.to_come = subst (λ (i : Image). IsSome i.to_come) (sym c.self.view_is) c.requires.running in
    let known : IsSome im.header = sym c.is_some.ensures ∙ c.if-is_some.true in
    first_kept im im.header im.planes c.finish.new.zp c.skip.new.self c.args.slices c.first_stage-self-inside.result c.self.invariant stage_is running few known
    (c.finish.ensures.table ∙ c.restart.ensures.table) c.self.invariant.planes told c.first_stage-self-inside.ensures

pub returns-then-is_some-clause-steps : goal.returns-then-is_some-clause-steps
unfolding Holds
returns-then-is_some-clause-steps c = λ layer bytes decisions holds.
    let im : Image = the_view c.self.inside in
    let stage_is = ap (λ (i : Image). i.stage) c.self.view_is ∙ c.requires.stage in
    let whole = c.is_whole-whole.ensures ∙ ap (λ (i : Image). is_whole i.to_come) (sym c.self.view_is) in
    let told : c.finish.new.zp.ended ≡ is_all c.skip.new.self (is_whole im.to_come) = c.finish.ensures.ended ∙ c.is_all.ensures
    ∙ ap (λ (l : List ℕ). is_all l c.is_whole-whole.result) c.left.ensures ∙ ap (is_all c.skip.new.self) whole in
    let before = subst (λ (i : Image). Holds layer bytes decisions i) (sym c.self.view_is) holds in
    let here : InHeader (frame_of im) layer bytes decisions im.planes im.left =
    subst (λ (s : Stage). HoldsAt s (frame_of im) layer bytes decisions im.planes im.zp im.left) stage_is before in
    let opened : open_chunk im.limit im.chunks im.header im.left (is_whole im.to_come) ≡ Opened c.args.header c.args.slices c.skip.new.self =
    subst (λ (i : Image). open_chunk i.limit i.chunks i.header i.left (is_whole i.to_come) ≡ Opened c.args.header c.args.slices
    (drop c.args.size i.left)) (sym c.self.view_is) c.requires.opened ∙ ap (Opened c.args.header c.args.slices) (sym c.skip.ensures) in
    let frame : Option Header → Frame = λ (h : Option Header). frame_by c.finish.new.zp.table im.limit h im.to_come im.chunks im.slices in
    let there = opened_holds (frame_of im) c.finish.new.zp.table c.args.header layer bytes im.left c.skip.new.self decisions c.args.slices
    (length im.zp.table) im.planes c.finish.new.zp here c.self.invariant.planes opened (c.finish.ensures.fed [] None c.restart.ensures.fed) told in
    let known : IsSome im.header = sym c.is_some.ensures ∙ c.if-is_some.true in
    let same = known_header im.limit im.chunks im.header im.left (is_whole im.to_come) c.args.header c.args.slices c.skip.new.self known opened in
    subst (λ (s : Stage). HoldsAt s (frame im.header) layer bytes decisions im.planes c.finish.new.zp c.skip.new.self) (sym c.first_stage-self-inside.ensures)
    (subst (λ (h : Option Header). HoldsAt (first_stage c.args.slices) (frame h) layer bytes decisions im.planes c.finish.new.zp c.skip.new.self) same there)

pub invariant_of-self-2 : goal.invariant_of-self-2
invariant_of-self-2 c =
    let im : Image = the_view c.self.inside in
    let stage_is = ap (λ (i : Image). i.stage) c.self.view_is ∙ c.requires.stage in
    let whole = c.is_whole-whole.ensures ∙ ap (λ (i : Image). is_whole i.to_come) (sym c.self.view_is) in
    let told : c.finish.new.zp.ended ≡ is_all c.skip.new.self (is_whole im.to_come) = c.finish.ensures.ended ∙ c.is_all.ensures
    ∙ ap (λ (l : List ℕ). is_all l c.is_whole-whole.result) c.left.ensures ∙ ap (is_all c.skip.new.self) whole in
    let few : im.chunks ≤ 255 = subst (λ (i : Image). i.chunks ≤ 255) (sym c.self.view_is) c.requires.chunks in
    let running : IsSome im.to_come = subst (λ (i : Image). IsSome i.to_come) (sym c.self.view_is) c.requires.running in
    let area : im.header ≡ None → HasArea im.limit c.args.header =
    subst (λ (i : Image). i.header ≡ None → HasArea i.limit c.args.header) (sym c.self.view_is) c.requires.area in
    let none : im.header ≡ None = no_header im.header (sym c.is_some.ensures ∙ c.if-is_some.false) in
    let planes = first_planes im c.args.header c.self.invariant area none in
    first_kept im (Some c.args.header) im.planes c.finish.new.zp c.skip.new.self c.args.slices c.first_stage-self-inside.result c.self.invariant stage_is
    running few refl (c.finish.ensures.table ∙ c.restart.ensures.table) planes.0 told c.first_stage-self-inside.ensures

pub returns-clause-steps : goal.returns-clause-steps
unfolding Holds
returns-clause-steps c = λ layer bytes decisions holds.
    let im : Image = the_view c.self.inside in
    let stage_is = ap (λ (i : Image). i.stage) c.self.view_is ∙ c.requires.stage in
    let whole = c.is_whole-whole.ensures ∙ ap (λ (i : Image). is_whole i.to_come) (sym c.self.view_is) in
    let told : c.finish.new.zp.ended ≡ is_all c.skip.new.self (is_whole im.to_come) = c.finish.ensures.ended ∙ c.is_all.ensures
    ∙ ap (λ (l : List ℕ). is_all l c.is_whole-whole.result) c.left.ensures ∙ ap (is_all c.skip.new.self) whole in
    let before = subst (λ (i : Image). Holds layer bytes decisions i) (sym c.self.view_is) holds in
    let here : InHeader (frame_of im) layer bytes decisions im.planes im.left =
    subst (λ (s : Stage). HoldsAt s (frame_of im) layer bytes decisions im.planes im.zp im.left) stage_is before in
    let opened : open_chunk im.limit im.chunks im.header im.left (is_whole im.to_come) ≡ Opened c.args.header c.args.slices c.skip.new.self =
    subst (λ (i : Image). open_chunk i.limit i.chunks i.header i.left (is_whole i.to_come) ≡ Opened c.args.header c.args.slices
    (drop c.args.size i.left)) (sym c.self.view_is) c.requires.opened ∙ ap (Opened c.args.header c.args.slices) (sym c.skip.ensures) in
    let frame : Option Header → Frame = λ (h : Option Header). frame_by c.finish.new.zp.table im.limit h im.to_come im.chunks im.slices in
    let there = opened_holds (frame_of im) c.finish.new.zp.table c.args.header layer bytes im.left c.skip.new.self decisions c.args.slices
    (length im.zp.table) im.planes c.finish.new.zp here c.self.invariant.planes opened (c.finish.ensures.fed [] None c.restart.ensures.fed) told in
    let area : im.header ≡ None → HasArea im.limit c.args.header =
    subst (λ (i : Image). i.header ≡ None → HasArea i.limit c.args.header) (sym c.self.view_is) c.requires.area in
    let none : im.header ≡ None = no_header im.header (sym c.is_some.ensures ∙ c.if-is_some.false) in
    let planes = first_planes im c.args.header c.self.invariant area none in
    record {
      first = subst (λ (i : Image). i.header ≡ None) c.self.view_is none;
      told = refl;
      known = subst (λ (i : Image). Some c.args.header ≡ (reading_of i bytes layer).layer.header) c.self.view_is
          (opened_header (frame_of im) layer bytes im.left c.skip.new.self decisions c.args.slices im.planes c.args.header here none opened);
      none_read = sym (ap (λ (l : Layer). l.decisions) here.layer_is);
      width_is = refl;
      height_is = refl;
      planes = planes.1;
      holds = subst (λ (s : Stage). HoldsAt s (frame (Some c.args.header)) layer bytes decisions im.planes c.finish.new.zp c.skip.new.self)
          (sym c.first_stage-self-inside.ensures) there;
    }

pub returns-clause-stepped : goal.returns-clause-stepped
returns-clause-stepped c =
    let none : c.self.inside.told ≡ None = no_header c.self.inside.told (sym c.is_some.ensures ∙ c.if-is_some.false) in
    let before : c.args.self.now.header ≡ None = sym (ap (λ (i : Image). i.header) c.self.view_is) ∙ none in
    record {
      to_come = search rules;
      refusal = search rules;
      header = search rules;
      keeps = search rules;
      same_header = λ other. absurd (other c.args.header.width c.args.header.height refl);
      sized = λ width height. size_told c.args.self.now.header c.args.header width height before;
      done = search rules;
      whole = search rules;
      made = search rules;
      less = search rules;
      memory = search rules;
      table = search rules;
      limit = search rules;
    }
