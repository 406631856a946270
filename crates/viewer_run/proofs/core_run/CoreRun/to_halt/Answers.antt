use Rattle.std.proofs.Common.{◌<◌, ◌++◌, Some, None, length, refl, sym, ap, ◌∙◌, subst, arith}
use Rattle.std.specs.Prelude.{slice_get}
use Rattle.std.proofs.lemmas.Option.{slice_get_within}
use Rattle.std.proofs.lemmas.Result.{err_from_is_err_and}
use Rattle.djvu_outside.specs.declared.stops.Stop.TheVariants as stop
use Rattle.page_decoder.specs.PageRead.{AscendFrom, Finished, Refused, NeedFile}
use Rattle.page_decoder.specs.Libraries.{run_given}
use Rattle.replay_core.specs.declared.core_calls.CoreStep.TheVariants as step
use Rattle.replay_core.specs.Machine.{PageState}
use Rattle.viewer_words.specs.Lines.{name_at, notice_line}
use Rattle.viewer_run.specs.declared.core_run.Halt.TheVariants as halt
use Rattle.viewer_run.proofs.Stepping.{page_of, mapped_at, steps_first, going_on, stops_so, halts_so, never_bytes}
use Rattle.viewer_run.proofs.core_run.CoreRun.to_halt.Goals as goal

pub step-requires : goal.step-requires
step-requires g c =
    let can = c.requires.can.can in
    slice_get_within c.steps.self.core.pages c.args.page _ (c.steps.invariant.seen can.seen can.is)

pub steps-init : goal.steps-init
steps-init g c = steps_first c.args.page c.args.self.now c.args.lines.now.items (g.M.Meter.count c.args.meter.now) c.requires.can.can

pub add_line-requires : goal.add_line-requires
add_line-requires g c =
    let can = c.requires.can in
    let here = page_of can.can.state can.can.counts c.args.self.now c.args.page can.file can.can.follows can.is_file in
    let b = (c.steps.invariant.going can.can.state can.can.counts here.0 can.can.follows here.1).stepped in
    record {
      listed = (
        can.file,
        ap (λ l. slice_get l c.args.page) b.pages ∙ can.is_file,
        subst (λ l. can.file < length l) (sym b.names) (can.can.follows.below c.args.page can.file can.is_file),
      );
    }

pub returns-in_err-add_line-in-Drew-clause-halts : goal.returns-in_err-add_line-in-Drew-clause-halts
returns-in_err-add_line-in-Drew-clause-halts g c state counts here follows is =
    let p = err_from_is_err_and c.from_residual.result c.from_residual.ensures.1 in
    let going = c.steps.invariant.going state counts here follows is in
    let said = c.in-Drew.ensures in
    rw p.1 (stops_so c.args.page here state counts c.args.self.now c.steps.self _ (step.Drew c.in-Drew.notice) c.args.lines.now.items c.steps.lines.items
    _ _ _ c.steps.counter going (said.steps going.stepped.after going.stepped.counted_so going.stepped.follows.stands) said.frame said.others refl refl
    refl refl p.0 _)

pub returns-in-OutOfMemory-clause-halts : goal.returns-in-OutOfMemory-clause-halts
returns-in-OutOfMemory-clause-halts g c state counts here follows is =
    let going = c.steps.invariant.going state counts here follows is in
    let said = c.in-OutOfMemory.ensures in
    stops_so c.args.page here state counts c.args.self.now c.steps.self _ step.OutOfMemory c.args.lines.now.items c.steps.lines.items _ _ _
    c.steps.counter going (said.steps going.stepped.after going.stepped.counted_so going.stepped.follows.stands) said.frame said.others refl refl
    refl refl stop.Memory _

pub unreachable-requires : goal.unreachable-requires
unreachable-requires g c =
    never_bytes c.needs_are_open.ensures.bytes c.args.page c.args.self.now c.steps.self _ _ _ _ _ c.steps.invariant c.requires.can
    (λ state counts stands. (c.in-NeedBytes.ensures.steps state counts stands).answers)

pub unreachable-requires-2 : goal.unreachable-requires-2
unreachable-requires-2 g c =
    let can = c.requires.can in
    let here = page_of can.can.state can.can.counts c.args.self.now c.args.page can.file can.can.follows can.is_file in
    let few = (c.steps.invariant.going can.can.state can.can.counts here.0 can.can.follows here.1).few in
    omega (arith, few, c.steps-test.false)

pub steps-preserved : goal.steps-preserved
steps-preserved g c =
    let said = c.in-Drew.ensures in
    let line = c.in_ok-add_line-in-Drew.ensures in
    record {
      going = λ state counts here follows is.
          let going = c.steps.invariant.going state counts here follows is in
          let b = going.stepped in
          let file =
          ap (λ l. slice_get l c.args.page) (b.pages ∙ sym follows.pages) ∙ mapped_at (λ (it : PageState). it.file) state.pages c.args.page here is in
          going_on c.args.self.now.core.table c.args.page here state counts c.args.self.now c.steps.self _ c.in-Drew.notice c.args.lines.now.items
          c.steps.lines.items c.add_line.new.lines.items _ _ _ c.steps.counter
          (λ drawings is_so. subst (AscendFrom 0 0) (sym is_so) (c.ascend.ensures.order (run_given c.args.self.now.core.table state.library here.file)))
          going (said.steps b.after b.counted_so b.follows.stands) said.frame said.others refl refl refl refl
          (line.line here.file file
          ∙ ap (λ l. c.steps.lines.items ++ notice_line (name_at l here.file) c.in-Drew.notice.chunks c.in-Drew.notice.sum) b.names)
          line.small;
      seen = λ it found. said.seen _ (c.steps.invariant.seen it found);
    }

pub returns-in-NeedFile-clause-halts : goal.returns-in-NeedFile-clause-halts
returns-in-NeedFile-clause-halts g c state counts here follows is =
    let going = c.steps.invariant.going state counts here follows is in
    let said = c.in-NeedFile.ensures in
    let steps = said.steps going.stepped.after going.stepped.counted_so going.stepped.follows.stands in
    halts_so c.args.page here state counts c.args.self.now c.steps.self _ (step.NeedFile c.in-NeedFile.file) c.args.lines.now.items c.steps.lines.items _ _ _
    c.steps.counter going steps said.frame said.others refl refl refl refl (halt.Need c.in-NeedFile.file) (NeedFile c.in-NeedFile.file) steps.answers refl refl
    (λ it found. said.seen _ (c.steps.invariant.seen it found))

pub returns-in-Finished-clause-halts : goal.returns-in-Finished-clause-halts
returns-in-Finished-clause-halts g c state counts here follows is =
    let going = c.steps.invariant.going state counts here follows is in
    let said = c.in-Finished.ensures in
    let steps = said.steps going.stepped.after going.stepped.counted_so going.stepped.follows.stands in
    halts_so c.args.page here state counts c.args.self.now c.steps.self _ step.Finished c.args.lines.now.items c.steps.lines.items _ _ _
    c.steps.counter going steps said.frame said.others refl refl refl refl (halt.End None) Finished steps.answers refl refl
    (λ it found. said.seen _ (c.steps.invariant.seen it found))

pub returns-in-Refused-clause-halts : goal.returns-in-Refused-clause-halts
returns-in-Refused-clause-halts g c state counts here follows is =
    let going = c.steps.invariant.going state counts here follows is in
    let said = c.in-Refused.ensures in
    let steps = said.steps going.stepped.after going.stepped.counted_so going.stepped.follows.stands in
    halts_so c.args.page here state counts c.args.self.now c.steps.self _ (step.Refused c.in-Refused.fault) c.args.lines.now.items c.steps.lines.items _ _ _
    c.steps.counter going steps said.frame said.others refl refl refl refl (halt.End (Some c.in-Refused.fault))
    (Refused c.in-Refused.fault) steps.answers refl refl
    (λ it found. said.seen _ (c.steps.invariant.seen it found))
