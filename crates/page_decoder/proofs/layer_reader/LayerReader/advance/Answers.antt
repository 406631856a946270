use Rattle.std.proofs.Common.{◌≡◌, ℕ, ◌+◌, ◌-◌, min, sym, ap, ◌∙◌, subst}
use Rattle.djvu_base.specs.Meter.{TicksExactly}
use Rattle.page_decoder.specs.LayerState.{LayerState, Reads, KeepsOpen}
use Rattle.page_decoder.proofs.Tallying.{Tallied, tallied}
use Rattle.page_decoder.proofs.layer_reader.LayerReader.advance.Goals as goal

pub returns-clause-answers : goal.returns-clause-answers
returns-clause-answers g c chunks bytes lays =
    let n : LayerState = record { image = c.self.inside.iw; page = c.self.inside.page_size; decisions = c.self.inside.count } in
    let o : LayerState = c.args.self.now in
    let view : n ≡ c.read-step.new.self = c.self.view_is in
    let count : c.self.inside.count ≡ o.decisions = ap (λ (it : LayerState). it.decisions) view ∙ c.read-step.ensures.count in
    let sum : c.saturating_add-self-inside.result ≡ min (o.decisions + c.read-step.new.meter) 0xffff_ffff_ffff_ffff =
    c.saturating_add-self-inside.ensures ∙ ap (λ a. min (a + c.count.result) 0xffff_ffff_ffff_ffff) count
    ∙ ap (λ b. min (o.decisions + b) 0xffff_ffff_ffff_ffff) c.count.ensures in
    let kept : KeepsOpen c.read-step.result o n = subst (λ (it : LayerState). KeepsOpen c.read-step.result o it) (sym view) c.read-step.ensures.kept in
    let got = c.read-step.ensures.answers lays.total chunks bytes lays.stands in
    let all : Tallied c.read-step.result o n c.saturating_add-self-inside.result chunks bytes =
    tallied c.read-step.result o n c.new-own.result c.read-step.new.meter c.saturating_add-self-inside.result chunks bytes lays kept
    (got.0, (subst (λ (it : LayerState). Reads c.read-step.result got.0 chunks bytes o it) (sym view) got.1.0, got.1.1)) c.new-own.ensures sum in
    all.answers

pub returns-clause-decisions : goal.returns-clause-decisions
returns-clause-decisions g c chunks bytes lays =
    let n : LayerState = record { image = c.self.inside.iw; page = c.self.inside.page_size; decisions = c.self.inside.count } in
    let o : LayerState = c.args.self.now in
    let view : n ≡ c.read-step.new.self = c.self.view_is in
    let count : c.self.inside.count ≡ o.decisions = ap (λ (it : LayerState). it.decisions) view ∙ c.read-step.ensures.count in
    let sum : c.saturating_add-self-inside.result ≡ min (o.decisions + c.read-step.new.meter) 0xffff_ffff_ffff_ffff =
    c.saturating_add-self-inside.ensures ∙ ap (λ a. min (a + c.count.result) 0xffff_ffff_ffff_ffff) count
    ∙ ap (λ b. min (o.decisions + b) 0xffff_ffff_ffff_ffff) c.count.ensures in
    let kept : KeepsOpen c.read-step.result o n = subst (λ (it : LayerState). KeepsOpen c.read-step.result o it) (sym view) c.read-step.ensures.kept in
    let got = c.read-step.ensures.answers lays.total chunks bytes lays.stands in
    let all : Tallied c.read-step.result o n c.saturating_add-self-inside.result chunks bytes =
    tallied c.read-step.result o n c.new-own.result c.read-step.new.meter c.saturating_add-self-inside.result chunks bytes lays kept
    (got.0, (subst (λ (it : LayerState). Reads c.read-step.result got.0 chunks bytes o it) (sym view) got.1.0, got.1.1)) c.new-own.ensures sum in
    all.all

pub returns-clause-at_most : goal.returns-clause-at_most
returns-clause-at_most g c chunks bytes lays =
    let n : LayerState = record { image = c.self.inside.iw; page = c.self.inside.page_size; decisions = c.self.inside.count } in
    let o : LayerState = c.args.self.now in
    let view : n ≡ c.read-step.new.self = c.self.view_is in
    let count : c.self.inside.count ≡ o.decisions = ap (λ (it : LayerState). it.decisions) view ∙ c.read-step.ensures.count in
    let sum : c.saturating_add-self-inside.result ≡ min (o.decisions + c.read-step.new.meter) 0xffff_ffff_ffff_ffff =
    c.saturating_add-self-inside.ensures ∙ ap (λ a. min (a + c.count.result) 0xffff_ffff_ffff_ffff) count
    ∙ ap (λ b. min (o.decisions + b) 0xffff_ffff_ffff_ffff) c.count.ensures in
    let kept : KeepsOpen c.read-step.result o n = subst (λ (it : LayerState). KeepsOpen c.read-step.result o it) (sym view) c.read-step.ensures.kept in
    let got = c.read-step.ensures.answers lays.total chunks bytes lays.stands in
    let all : Tallied c.read-step.result o n c.saturating_add-self-inside.result chunks bytes =
    tallied c.read-step.result o n c.new-own.result c.read-step.new.meter c.saturating_add-self-inside.result chunks bytes lays kept
    (got.0, (subst (λ (it : LayerState). Reads c.read-step.result got.0 chunks bytes o it) (sym view) got.1.0, got.1.1)) c.new-own.ensures sum in
    all.at_most

pub returns-clause-ticks : goal.returns-clause-ticks
returns-clause-ticks g c =
    let count : c.self.inside.count ≡ c.args.self.now.decisions =
    ap (λ (it : LayerState). it.decisions) c.self.view_is ∙ c.read-step.ensures.count in
    subst (λ (n : ℕ). TicksExactly (c.saturating_add-self-inside.result - n) (g.M.Meter.count c.args.meter.now) (g.M.Meter.count c.tick.new.meter)) count
    c.tick.ensures
