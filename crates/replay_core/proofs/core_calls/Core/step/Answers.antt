use Rattle.std.proofs.Common.{◌≡◌, ◌<◌, length, Some, None, refl, sym, ap, ◌∙◌, subst}
use Rattle.std.specs.Prelude.{slice_get}
use Rattle.replay_core.specs.Core.{CoreSeen, Stands, Steps, answer_at, end_with}
use Rattle.replay_core.specs.CoreSteps.{SetsAside, without_decoder}
use Rattle.replay_core.proofs.Answering.{ended_steps}
use Rattle.replay_core.proofs.Advancing.{runs_steps}
use Rattle.replay_core.proofs.Asides.{ended_same, ended_again, ended_seen, runs_not_ended, part_aside, put_seen, put_others, put_frame}
use Rattle.replay_core.proofs.core_calls.Core.step.Goals as goal

pub end_of-requires : goal.end_of-requires
end_of-requires g c =
    let sets : SetsAside c.args.page c.args.self.now c.set_aside.new.self None =
    subst (SetsAside c.args.page c.args.self.now c.set_aside.new.self) c.in_default.is c.set_aside.ensures in
    subst (λ (s : CoreSeen). c.args.page < length s.pages) (sym (ended_same c.args.page c.args.self.now c.set_aside.new.self sets)) c.requires

pub returns-in_default-clause-steps : goal.returns-in_default-clause-steps
unfolding Stands
returns-in_default-clause-steps g c state counts stands =
    let sets : SetsAside c.args.page c.args.self.now c.set_aside.new.self None =
    subst (SetsAside c.args.page c.args.self.now c.set_aside.new.self) c.in_default.is c.set_aside.ensures in
    let same = ended_same c.args.page c.args.self.now c.set_aside.new.self sets in
    let answer : c.end_of.result ≡ answer_at sets.part.end =
    c.end_of.ensures sets.part (ap (λ (s : CoreSeen). slice_get s.inside.pages c.args.page) same ∙ sets.is_part) in
    let meter = g.M.Meter.count c.args.meter.now in
    subst (λ s. Steps state counts c.args.page c.args.self.now s c.end_of.result meter meter) (sym same)
    (subst (λ r. Steps state counts c.args.page c.args.self.now c.args.self.now r meter meter) (sym answer)
    (ended_steps state counts c.args.self.now stands c.args.page sets.part sets.is_part sets.had meter))

pub returns-in_default-clause-again : goal.returns-in_default-clause-again
returns-in_default-clause-again g c it end is e =
    let sets : SetsAside c.args.page c.args.self.now c.set_aside.new.self None =
    subst (SetsAside c.args.page c.args.self.now c.set_aside.new.self) c.in_default.is c.set_aside.ensures in
    let same = ended_same c.args.page c.args.self.now c.set_aside.new.self sets in
    let answer : c.end_of.result ≡ answer_at sets.part.end =
    c.end_of.ensures sets.part (ap (λ (s : CoreSeen). slice_get s.inside.pages c.args.page) same ∙ sets.is_part) in
    (answer ∙ ap answer_at (ended_again c.args.page c.args.self.now c.set_aside.new.self sets it end is e), same, refl)

pub returns-in_default-clause-seen : goal.returns-in_default-clause-seen
returns-in_default-clause-seen g c it is =
    let sets : SetsAside c.args.page c.args.self.now c.set_aside.new.self None =
    subst (SetsAside c.args.page c.args.self.now c.set_aside.new.self) c.in_default.is c.set_aside.ensures in
    let same = ended_same c.args.page c.args.self.now c.set_aside.new.self sets in
    let answer : c.end_of.result ≡ answer_at sets.part.end =
    c.end_of.ensures sets.part (ap (λ (s : CoreSeen). slice_get s.inside.pages c.args.page) same ∙ sets.is_part) in
    ap (λ (s : CoreSeen). slice_get s.pages c.args.page) same ∙ ended_seen c.args.page c.args.self.now c.set_aside.new.self sets it is
    ∙ ap (λ r. Some (record it { end = end_with r })) (sym answer)

pub returns-in_default-clause-others : goal.returns-in_default-clause-others
returns-in_default-clause-others g c other apart =
    let sets : SetsAside c.args.page c.args.self.now c.set_aside.new.self None =
    subst (SetsAside c.args.page c.args.self.now c.set_aside.new.self) c.in_default.is c.set_aside.ensures in
    ap (λ (s : CoreSeen). slice_get s.pages other) (ended_same c.args.page c.args.self.now c.set_aside.new.self sets)

pub returns-in_default-clause-frame : goal.returns-in_default-clause-frame
returns-in_default-clause-frame g c =
    let sets : SetsAside c.args.page c.args.self.now c.set_aside.new.self None =
    subst (SetsAside c.args.page c.args.self.now c.set_aside.new.self) c.in_default.is c.set_aside.ensures in
    let same = ended_same c.args.page c.args.self.now c.set_aside.new.self sets in
    record {
      table = ap (λ (s : CoreSeen). s.table) same;
      names = ap (λ (s : CoreSeen). s.names) same;
      count = ap (λ (s : CoreSeen). length s.pages) same;
    }

pub put_back-requires : goal.put_back-requires
put_back-requires g c =
    let sets : SetsAside c.args.page c.args.self.now c.set_aside.new.self (Some c.in-Some.decoder) =
    subst (SetsAside c.args.page c.args.self.now c.set_aside.new.self) c.in-Some.is c.set_aside.ensures in
    record {
      part = without_decoder sets.part;
      is_part = part_aside c.args.page c.args.self.now c.set_aside.new.self c.run-answer.new.self c.in-Some.decoder sets c.run-answer.ensures.same;
      out = refl;
      open_ = λ closed. c.run-answer.ensures.mark ∙ sets.open_ c.in-Some.decoder refl closed;
    }

pub returns-clause-steps : goal.returns-clause-steps
returns-clause-steps g c state counts stands =
    let sets : SetsAside c.args.page c.args.self.now c.set_aside.new.self (Some c.in-Some.decoder) =
    subst (SetsAside c.args.page c.args.self.now c.set_aside.new.self) c.in-Some.is c.set_aside.ensures in
    runs_steps state counts c.args.self.now c.set_aside.new.self c.run-answer.new.self c.put_back.new.self c.in-Some.decoder c.run-answer.new.decoder
    c.run-answer.result c.put_back.result c.args.page (g.M.Meter.count c.args.meter.now) (g.M.Meter.count c.run-answer.new.meter) stands sets
    c.run-answer.ensures.goes c.run-answer.ensures.same c.put_back.ensures.part c.put_back.ensures.answer c.steps_count_within.ensures

pub returns-clause-again : goal.returns-clause-again
returns-clause-again g c it end is e =
    let sets : SetsAside c.args.page c.args.self.now c.set_aside.new.self (Some c.in-Some.decoder) =
    subst (SetsAside c.args.page c.args.self.now c.set_aside.new.self) c.in-Some.is c.set_aside.ensures in
    runs_not_ended c.args.page c.args.self.now c.set_aside.new.self c.in-Some.decoder sets it end is e

pub returns-clause-seen : goal.returns-clause-seen
returns-clause-seen g c it is =
    let sets : SetsAside c.args.page c.args.self.now c.set_aside.new.self (Some c.in-Some.decoder) =
    subst (SetsAside c.args.page c.args.self.now c.set_aside.new.self) c.in-Some.is c.set_aside.ensures in
    put_seen c.args.page c.args.self.now c.set_aside.new.self c.run-answer.new.self c.in-Some.decoder sets c.run-answer.ensures.same
    c.put_back.new.self c.run-answer.new.decoder c.put_back.result c.put_back.ensures.part it is

pub returns-clause-others : goal.returns-clause-others
returns-clause-others g c other apart =
    let sets : SetsAside c.args.page c.args.self.now c.set_aside.new.self (Some c.in-Some.decoder) =
    subst (SetsAside c.args.page c.args.self.now c.set_aside.new.self) c.in-Some.is c.set_aside.ensures in
    put_others c.args.page c.args.self.now c.set_aside.new.self c.run-answer.new.self c.in-Some.decoder sets c.run-answer.ensures.same
    c.put_back.new.self c.run-answer.new.decoder c.put_back.result c.put_back.ensures.part other apart

pub returns-clause-frame : goal.returns-clause-frame
returns-clause-frame g c =
    let sets : SetsAside c.args.page c.args.self.now c.set_aside.new.self (Some c.in-Some.decoder) =
    subst (SetsAside c.args.page c.args.self.now c.set_aside.new.self) c.in-Some.is c.set_aside.ensures in
    put_frame c.args.page c.args.self.now c.set_aside.new.self c.run-answer.new.self c.in-Some.decoder sets c.run-answer.ensures.same
    c.put_back.new.self c.run-answer.new.decoder c.put_back.result c.put_back.ensures.part
