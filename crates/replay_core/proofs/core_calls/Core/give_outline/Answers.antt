use Rattle.std.proofs.Common.{◌≡◌, Some, None, length, refl, sym, ap, ◌∙◌}
use Rattle.std.specs.Prelude.{slice_get}
use Rattle.std.proofs.lemmas.Option.{slice_get_read}
use Rattle.std.specs.Arc.{arc_value}
use Rattle.include_graph.specs.Verdicts.{outline_in}
use Rattle.replay_core.specs.Core.{CoreSeen}
use Rattle.replay_core.proofs.Going.{outline_by}
use Rattle.replay_core.proofs.Receiving.{none_of}
use Rattle.replay_core.proofs.core_calls.Core.give_outline.Goals as goal

pub returns-in-Some-outline-clause-outline : goal.returns-in-Some-outline-clause-outline
returns-in-Some-outline-clause-outline c =
    let kept = c.in-Some.kept.now in
    let there : slice_get c.args.self.now.inside.files c.args.file ≡ Some kept =
    ap (λ (s : CoreSeen). slice_get s.inside.files c.args.file) (sym c.self.view_is) ∙ ap (λ l. slice_get l c.args.file) (sym c.deref.ensures.value)
    ∙ slice_get_read c.deref.result.now (length c.deref.result.now) c.args.file kept refl c.in-Some.ensures.lookup.3.0 c.in-Some.ensures.lookup.1 in
    let read : kept.reader ≡ None = none_of kept.reader (sym c.is_open.ensures ∙ c.if-is_open.false) in
    let known : kept.outline ≡ Some (arc_value c.in-Some-outline.outline) = sym c.outline.ensures ∙ ap outline_in c.in-Some-outline.is in
    outline_by c.args.self.now.inside.files c.args.file c.args.decoder.now c.hand_on.new.decoder kept (arc_value c.in-Some-outline.outline) c.hand_on.result
    c.stop_at.result c.stop_at.ensures there read known c.hand_on.ensures.fed c.hand_on.ensures.ok
