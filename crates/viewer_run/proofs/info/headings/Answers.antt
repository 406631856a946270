use Rattle.std.proofs.Common.{◌++◌, sym, ap, subst, ◌∙◌}
use Rattle.viewer_run.specs.Info.{Informs}
use Rattle.iff_chunks.proofs.Lemmas.{walk_nears_its_end}
use Rattle.viewer_run.proofs.Informing.{informs_on, informs_whole, informs_start}
use Rattle.viewer_run.proofs.info.headings.Goals as goal

pub loop-rest-init : goal.loop-rest-init
loop-rest-init c =
    subst (λ l. Informs c.args.file.now c.args.file.now c.args.name.now l c.args.walker.now) (sym c.new-lines.ensures.items)
    (informs_start c.args.file.now c.args.name.now c.args.walker.now c.requires)

pub loop-rest-smaller : goal.loop-rest-smaller
loop-rest-smaller c =
    walk_nears_its_end c.loop-rest.rest.now c.rest_of-rest.result.now c.loop-rest.walker c.feed-used.new.self c.feed-used.result.0 c.feed-used.result.1
    c.feed-used.ensures.fed (sym c.is_event.ensures ∙ c.if-not-is_event.false) c.rest_of-rest.ensures

pub returns-then-not-is_event : goal.returns-then-not-is_event
returns-then-not-is_event c =
    let feeds = c.feed-used.ensures.fed in
    informs_whole c.args.file.now c.loop-rest.rest.now c.args.name.now c.loop-rest.lines.items c.loop-rest.walker c.feed-used.new.self c.feed-used.result.0
    c.feed-used.result.1 c.loop-rest.invariant feeds (sym c.is_event.ensures ∙ c.if-not-is_event.true)

pub loop-rest-preserved : goal.loop-rest-preserved
loop-rest-preserved c =
    let feeds = c.feed-used.ensures.fed in
    let now = c.in_ok-extend_from_slice.ensures.items ∙ ap (λ l. c.loop-rest.lines.items ++ l) (c.as_slice.ensures.value ∙ c.in_ok-line.ensures) in
    informs_on c.args.file.now c.loop-rest.rest.now c.rest_of-rest.result.now c.args.name.now c.loop-rest.lines.items c.extend_from_slice.new.self.items
    c.loop-rest.walker c.feed-used.new.self c.feed-used.result.0 c.feed-used.result.1 c.loop-rest.invariant feeds
    (sym c.is_event.ensures ∙ c.if-not-is_event.false) c.rest_of-rest.ensures now
