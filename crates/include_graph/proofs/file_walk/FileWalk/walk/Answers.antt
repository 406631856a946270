use Rattle.std.proofs.Common.{◌++◌, refl, sym, ap, ◌∙◌}
use Rattle.iff_chunks.proofs.Lemmas.{walk_nears_its_end}
use Rattle.include_graph.specs.declared.file_walk.FileWalk.{FileWalk}
use Rattle.include_graph.specs.Reading.{after_step}
use Rattle.include_graph.specs.Fed.{progress_of}
use Rattle.include_graph.proofs.Feeding.{reach_begins, reach_goes_on, reach_knows, reach_pauses}
use Rattle.include_graph.proofs.Walking.{if_ok}
use Rattle.include_graph.proofs.file_walk.FileWalk.walk.Goals as goal

pub events-init : goal.events-init
events-init c bytes w = reach_begins bytes c.args.piece.now c.args.self.now (c.chunks_stay.ensures.events bytes c.args.piece.now) w

pub events-smaller : goal.events-smaller
events-smaller c =
    walk_nears_its_end c.events.rest.now c.rest_of-rest.result.now c.events.self.walker c.feed-used.new.self c.feed-used.result.0
    c.feed-used.result.1 c.feed-used.ensures.fed
    (sym c.is_event.ensures ∙ c.if-not-is_event.false) c.rest_of-rest.ensures

pub events-preserved : goal.events-preserved
events-preserved c bytes w =
    let after : FileWalk = record {
      alloc = c.events.self.alloc;
      walker = c.feed-used.new.self;
      arrived = c.events.self.arrived;
      progress =
          c.apply.new.self;
    } in
    reach_goes_on (bytes ++ c.args.piece.now) c.events.rest.now c.rest_of-rest.result.now c.events.self after c.feed-used.result.0
    c.feed-used.result.1 (c.events.invariant bytes w) c.feed-used.ensures.fed c.rest_of-rest.ensures
    (c.in_ok-apply.ensures ∙ ap (after_step (progress_of c.events.self.progress) c.feed-used.result.1) c.first.ensures) (sym c.is_known.ensures
    ∙ c.if-is_known.false) refl

pub returns-then-not-is_event : goal.returns-then-not-is_event
returns-then-not-is_event c =
    let middle : FileWalk = record {
      alloc = c.events.self.alloc;
      walker = c.feed-used.new.self;
      arrived = c.events.self.arrived;
      progress =
          c.events.self.progress;
    } in
    if_ok c.at_pause.result _ _ c.at_pause.ensures (λ answer h bytes w.
    reach_pauses bytes c.args.piece.now c.events.rest.now c.events.self middle c.at_pause.new.self c.feed-used.result.0 c.feed-used.result.1 answer
    (c.events.invariant bytes w) c.feed-used.ensures.fed refl refl
    (sym c.is_event.ensures ∙ c.if-not-is_event.true) h)

pub returns-then-is_known : goal.returns-then-is_known
returns-then-is_known c bytes w =
    let after : FileWalk = record {
      alloc = c.events.self.alloc;
      walker = c.feed-used.new.self;
      arrived = c.events.self.arrived;
      progress =
          c.apply.new.self;
    } in
    reach_knows (bytes ++ c.args.piece.now) c.events.rest.now c.events.self after c.feed-used.result.0 c.feed-used.result.1
    (c.events.invariant bytes w) c.feed-used.ensures.fed
    (c.in_ok-apply.ensures ∙ ap (after_step (progress_of c.events.self.progress) c.feed-used.result.1) c.first.ensures) (sym c.is_known.ensures
    ∙ c.if-is_known.true)
