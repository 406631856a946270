use Rattle.std.proofs.Common.{◌≡◌, ◌<◌, true, not, is_some, length, sym, ap, ◌∙◌, subst}
use Rattle.std.specs.Prelude.{slice_get}
use Rattle.std.specs.Arc.{arc_value}
use Rattle.djvu_base.specs.Library.{mark_of}
use Rattle.replay_core.specs.Core.{CoreParts, CoreSeen, core_of}
use Rattle.replay_core.specs.CoreSteps.{DecodesBy, end_mark}
use Rattle.replay_core.proofs.Listing.{some_same}
use Rattle.replay_core.proofs.Decoding.{DoneBy, done_so, end_told, known_there}
use Rattle.replay_core.proofs.Receiving.{file_there}
use Rattle.replay_core.proofs.core_calls.Core.decoded.Goals as goal

pub returns-clause-decodes : goal.returns-clause-decodes
returns-clause-decodes g c part e =
    let parts : CoreParts = record { files = c.self.inside.files.items; pages = c.self.inside.pages.items; results = c.self.inside.results.items } in
    let names = arc_value c.self.inside.names in
    let core = core_of (arc_value c.self.inside.table) names parts in
    let kept = c.index-kept.result.now in
    let less : c.args.file < length names = subst (λ n. c.args.file < n) c.self.invariant.files
    (subst (λ (s : CoreSeen). c.args.file < length s.inside.files) (sym c.self.view_is) c.requires) in
    let is_kept = file_there names parts c.self.invariant c.args.file kept less c.index-kept.ensures in
    let same : kept ≡ part = some_same kept part
    (sym is_kept ∙ ap (λ (s : CoreSeen). slice_get s.inside.files c.args.file) c.self.view_is ∙ e) in
    let known : is_some kept.outline ≡ true =
    ap is_some (sym c.outline.ensures) ∙ known_there c.outline.result.now (c.is_none.ensures ∙ ap not c.if-is_none.false) in
    let done : DoneBy (arc_value c.in-Ok.table) c.slice.result.now c.args.file c.bytes.result.now (mark_of c.unwrap_or.result) c.as_slice.result.now
    c.decode_done.result.result c.decode_done.result.decisions = record {
      result = c.decode_done.ensures.result;
      exactly = c.decode_done.ensures.decisions;
      at_most = c.decode_done.ensures.at_most;
    } in
    let ends : mark_of c.unwrap_or.result ≡ end_mark kept.end =
    ap mark_of c.unwrap_or.ensures ∙ end_told c.end.result ∙ ap end_mark c.end.ensures in
    subst (λ p. DecodesBy c.args.self.now c.args.file p c.decode_done.result.result c.decode_done.result.decisions) same
    (subst (λ s. DecodesBy s c.args.file kept c.decode_done.result.result c.decode_done.result.decisions) c.self.view_is
    (done_so core c.args.file kept (arc_value c.in-Ok.table) c.slice.result.now c.bytes.result.now (mark_of c.unwrap_or.result) c.as_slice.result.now
    c.decode_done.result.result c.decode_done.result.decisions done c.in-Ok.ensures (c.slice.ensures ∙ c.deref.ensures) c.bytes.ensures ends
    c.as_slice.ensures.value known))
