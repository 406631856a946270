use Rattle.std.proofs.Common.{length, refl, sym, ap, ◌∙◌, subst, arith}
use Rattle.std.specs.Prelude.{slice_get}
use Rattle.std.proofs.lemmas.List.{length-map}
use Rattle.std.proofs.lemmas.Result.{err_from_is_err_and}
use Rattle.djvu_base.specs.Library.{File}
use Rattle.replay_core.specs.Machine.{PageState, unread_page}
use Rattle.viewer_run.specs.CoreRun.{FileComes, StopsBefore}
use Rattle.viewer_run.proofs.Stepping.{mapped_at}
use Rattle.viewer_run.proofs.Opening.{file_of}
use Rattle.viewer_run.proofs.Paging.{steps_stop}
use Rattle.viewer_run.proofs.OnPage.{on_first}
use Rattle.viewer_run.proofs.Halted.{halt_takes, fault_fits}
use Rattle.viewer_run.proofs.Ending.{draws_end}
use Rattle.viewer_run.proofs.Needing.{HaltsSo, here_of, halted_can, its_names, its_core, its_need, its_failed, draws_less, draws_more, draws_stop}
use Rattle.viewer_run.proofs.core_run.CoreRun.draw.Goals as goal

pub needs-init : goal.needs-init
needs-init g c =
    let opened = c.in_ok-open.ensures in
    let can = c.requires.can in
    let page = c.args.page in
    record {
      draws = record {
        on = λ state counts file follows found.
            let its_file = ap (λ l. slice_get l page) (sym follows.pages) ∙ mapped_at (λ (it : PageState). it.file) state.pages page (unread_page file) found in
            on_first _ page file state counts c.args.self.now c.open.new.self c.args.lines.now.items _ _ _
            (opened.opens state counts file _ follows its_file) found c.requires.empty;
        can = opened.can;
        names = (opened.opens can.state can.counts _ 0 can.follows (file_of page c.args.self.now can)).gone.went.same.names;
        failed = opened.counts;
      };
      files = opened.same_files;
    }

pub read-requires-clause-over : goal.read-requires-clause-over
read-requires-clause-over g c told is =
    let halts =
    subst (λ h. HaltsSo h c.args.page c.needs.self c.to_halt.new.self c.needs.lines.items c.to_halt.new.lines.items (g.M.Meter.count c.needs.meter)
    (g.M.Meter.count c.to_halt.new.meter)) c.in-Need.is
    c.in_ok-file.ensures.halts in
    its_names _ c.args.page c.args.self.now c.needs.self c.to_halt.new.self _ _ _ _ _ _ _ _ _ _ c.needs.invariant.draws halts
    ∙ c.requires.over told (sym c.needs.invariant.files ∙ is)

pub read-requires-clause-unread : goal.read-requires-clause-unread
read-requires-clause-unread g c =
    let halts =
    subst (λ h. HaltsSo h c.args.page c.needs.self c.to_halt.new.self c.needs.lines.items c.to_halt.new.lines.items (g.M.Meter.count c.needs.meter)
    (g.M.Meter.count c.to_halt.new.meter)) c.in-Need.is
    c.in_ok-file.ensures.halts in
    (its_need _ c.args.page c.args.self.now c.needs.self c.to_halt.new.self _ _ _ _ _ _ _ _ _ _ c.needs.invariant.draws halts
    c.needs_are_open.ensures.file c.in-Need.file refl).0

pub read-requires-clause-listed : goal.read-requires-clause-listed
read-requires-clause-listed g c =
    let halts =
    subst (λ h. HaltsSo h c.args.page c.needs.self c.to_halt.new.self c.needs.lines.items c.to_halt.new.lines.items (g.M.Meter.count c.needs.meter)
    (g.M.Meter.count c.to_halt.new.meter)) c.in-Need.is
    c.in_ok-file.ensures.halts in
    (its_need _ c.args.page c.args.self.now c.needs.self c.to_halt.new.self _ _ _ _ _ _ _ _ _ _ c.needs.invariant.draws halts
    c.needs_are_open.ensures.file c.in-Need.file refl).1

pub read-requires-clause-core : goal.read-requires-clause-core
read-requires-clause-core g c =
    let halts =
    subst (λ h. HaltsSo h c.args.page c.needs.self c.to_halt.new.self c.needs.lines.items c.to_halt.new.lines.items (g.M.Meter.count c.needs.meter)
    (g.M.Meter.count c.to_halt.new.meter)) c.in-Need.is
    c.in_ok-file.ensures.halts in
    its_core _ c.args.page c.args.self.now c.needs.self c.to_halt.new.self _ _ _ _ _ _ _ _ _ _ c.needs.invariant.draws halts

pub needs-smaller : goal.needs-smaller
needs-smaller g c =
    let halts =
    subst (λ h. HaltsSo h c.args.page c.needs.self c.to_halt.new.self c.needs.lines.items c.to_halt.new.lines.items (g.M.Meter.count c.needs.meter)
    (g.M.Meter.count c.to_halt.new.meter)) c.in-Need.is
    c.in_ok-file.ensures.halts in
    let less =
    draws_less _ c.args.page c.in-Need.file c.args.self.now c.needs.self c.to_halt.new.self c.read.new.self _ _ _ _ _ _ _ _ _ _ _
    c.needs.invariant.draws halts c.needs_are_open.ensures.file c.requires.over
    (λ state counts follows. subst (λ told. FileComes told c.in-Need.file state counts c.to_halt.new.self c.read.new.self (g.F.Folder.failures c.needs.folder)
    (g.F.Folder.failures c.read.new.folder) (g.F.Folder.faults c.needs.folder)
    (g.F.Folder.faults c.read.new.folder)) c.needs.invariant.files
    (c.in_ok-read-in-Need.ensures.comes state counts follows)) in
    omega (arith, less)

pub needs-preserved : goal.needs-preserved
needs-preserved g c =
    let halts =
    subst (λ h. HaltsSo h c.args.page c.needs.self c.to_halt.new.self c.needs.lines.items c.to_halt.new.lines.items (g.M.Meter.count c.needs.meter)
    (g.M.Meter.count c.to_halt.new.meter)) c.in-Need.is
    c.in_ok-file.ensures.halts in
    record {
      draws =
          draws_more _ c.args.page c.in-Need.file c.args.self.now c.needs.self c.to_halt.new.self c.read.new.self _ _ _ _ _ _ _ _ _ _ _
          c.needs.invariant.draws halts c.needs_are_open.ensures.file c.requires.over
          (λ state counts follows. subst (λ told. FileComes told c.in-Need.file state counts c.to_halt.new.self c.read.new.self
          (g.F.Folder.failures c.needs.folder) (g.F.Folder.failures c.read.new.folder) (g.F.Folder.faults c.needs.folder)
          (g.F.Folder.faults c.read.new.folder))
          c.needs.invariant.files (c.in_ok-read-in-Need.ensures.comes state counts follows))
          c.states_go_on.ensures.library c.libraries_go_on.ensures.both c.drawn_are_notices.ensures.next c.standing_counts.ensures.sound
          c.in_ok-read-in-Need.ensures.counts;
      files = c.read.ensures.same_files ∙ c.needs.invariant.files;
    }

pub returns-in_err-read-in-Need-clause-ends : goal.returns-in_err-read-in-Need-clause-ends
returns-in_err-read-in-Need-clause-ends g c state counts file follows found =
    let p = err_from_is_err_and c.from_residual-in_err-read-in-Need.result c.from_residual-in_err-read-in-Need.ensures.1 in
    let halts =
    subst (λ h. HaltsSo h c.args.page c.needs.self c.to_halt.new.self c.needs.lines.items c.to_halt.new.lines.items (g.M.Meter.count c.needs.meter)
    (g.M.Meter.count c.to_halt.new.meter)) c.in-Need.is
    c.in_ok-file.ensures.halts in
    rw p.1 (draws_stop _ c.args.page c.in-Need.file c.args.self.now c.needs.self c.to_halt.new.self c.read.new.self _ _ _ _ _ _ _ _ _ _ _
    c.needs.invariant.draws halts c.needs_are_open.ensures.file c.requires.over
    (λ now so is. subst (λ told. StopsBefore told c.in-Need.file c.to_halt.new.self (g.F.Folder.failures c.needs.folder) (g.F.Folder.failures c.read.new.folder)
    (g.F.Folder.faults c.needs.folder) (g.F.Folder.faults c.read.new.folder)) c.needs.invariant.files
    (c.in_err-read-in-Need.ensures.comes now so is)) state counts file follows found)

pub returns-in_err-file-clause-ends : goal.returns-in_err-file-clause-ends
returns-in_err-file-clause-ends g c state counts file follows found =
    let p = err_from_is_err_and c.from_residual-in_err-file.result c.from_residual-in_err-file.ensures.1 in
    let on = c.needs.invariant.draws.on state counts file follows found in
    let was = on.gone.went in
    rw p.1 (steps_stop _ c.args.page file on.here state counts c.args.self.now c.needs.self c.to_halt.new.self _ _ _ _ _ on.gone
    (c.in_err-file.ensures.halts was.after was.counted_so on.here was.follows on.is_here).stepped)

pub take-requires : goal.take-requires
take-requires g c =
    let halts =
    subst (λ h. HaltsSo h c.args.page c.needs.self c.to_halt.new.self c.needs.lines.items c.to_halt.new.lines.items (g.M.Meter.count c.needs.meter)
    (g.M.Meter.count c.to_halt.new.meter)) c.in-End.is
    c.in_ok-file.ensures.halts in
    let can = c.needs.invariant.draws.can.can in
    let halted = halted_can _ c.args.page c.args.self.now c.needs.self c.to_halt.new.self _ _ _ _ _ _ _ _ _ _ c.needs.invariant.draws halts in
    halt_takes c.args.page c.needs.self c.to_halt.new.self c.in-End.fault can.seen (halted.seen can.seen can.is) can.there

pub returns-in-End-clause-ends : goal.returns-in-End-clause-ends
returns-in-End-clause-ends g c state counts file follows found =
    let halts =
    subst (λ h. HaltsSo h c.args.page c.needs.self c.to_halt.new.self c.needs.lines.items c.to_halt.new.lines.items (g.M.Meter.count c.needs.meter)
    (g.M.Meter.count c.to_halt.new.meter)) c.in-End.is
    c.in_ok-file.ensures.halts in
    let can = c.needs.invariant.draws.can.can in
    let on = c.needs.invariant.draws.on state counts file follows found in
    let was = on.gone.went in
    draws_end _ c.args.page file state counts c.args.self.now c.needs.self c.to_halt.new.self _ c.needs.lines.items c.to_halt.new.lines.items _ _ _ _ _
    c.in-End.fault on (halts was.after was.counted_so on.here was.follows on.is_here) c.take.ensures.takes c.take.ensures.stands refl refl refl refl
    c.standing_counts.ensures.sound c.shows.ensures.layers c.take.result c.take.ensures.layers can.seen can.is

pub returns-in-End-clause-counts : goal.returns-in-End-clause-counts
returns-in-End-clause-counts g c =
    let halts =
    subst (λ h. HaltsSo h c.args.page c.needs.self c.to_halt.new.self c.needs.lines.items c.to_halt.new.lines.items (g.M.Meter.count c.needs.meter)
    (g.M.Meter.count c.to_halt.new.meter)) c.in-End.is
    c.in_ok-file.ensures.halts in
    its_failed _ c.args.page c.args.self.now c.needs.self c.to_halt.new.self _ _ _ _ _ _ _ _ _ _ c.needs.invariant.draws halts

pub returns-in-End-clause-fits : goal.returns-in-End-clause-fits
returns-in-End-clause-fits g c =
    let halts =
    subst (λ h. HaltsSo h c.args.page c.needs.self c.to_halt.new.self c.needs.lines.items c.to_halt.new.lines.items (g.M.Meter.count c.needs.meter)
    (g.M.Meter.count c.to_halt.new.meter)) c.in-End.is
    c.in_ok-file.ensures.halts in
    let draws = c.needs.invariant.draws in
    let library = draws.can.can.state.library in
    let here = here_of _ c.args.page c.args.self.now c.needs.self c.to_halt.new.self _ _ _ _ _ _ _ _ _ _ draws halts in
    let halted = halted_can _ c.args.page c.args.self.now c.needs.self c.to_halt.new.self _ _ _ _ _ _ _ _ _ _ draws halts in
    let many = ap length draws.can.can.follows.names in
    let count = length-map library (λ (f : File). f.name) in
    let same = ap length draws.names in
    let below = draws.can.can.follows.below c.args.page draws.can.file draws.can.is_file in
    let file = here.2 in
    fault_fits c.in-End.fault c.args.self.now.names _ halted.halts
    (λ its e.
    let inside = c.faults_stand_in_files.ensures c.needs.self.core.table library here.0.file its (omega (arith, below, many, count, file)) e in
    omega (arith, inside, many, count, same))
