use Rattle.std.proofs.Common.{◌≡◌, ℤ, to_z, of_z, w32, rules, ap, ◌∙◌}
use Rattle.jb2_records.specs.Coding.{checked}
use Rattle.jb2_records.specs.Reading.{start_fault}
use Rattle.jb2_records.specs.Steps.{from_start}
use Rattle.jb2_records.specs.declared.steps.Step.TheVariants as step
use Rattle.jb2_records.proofs.Asking.{flag_stays, flag_halts}
use Rattle.jb2_records.specs.Machine.{halt_of}
use Rattle.jb2_records.proofs.Entering.{at_sizes}
use Rattle.jb2_records.proofs.machine.Machine.flag.Goals as goal

pub returns-in-Ok-clause-moves : goal.returns-in-Ok-clause-moves
returns-in-Ok-clause-moves c input holds =
    let wide : to_z w32 (of_z w32 c.args.width) ≡ c.args.width = search rules in
    let high : to_z w32 (of_z w32 c.args.height) ≡ c.args.height = search rules in
    c.flagged.ensures.moves input
    (at_sizes input c.args.width c.args.height _ _ (λ later before width height at. checked (start_fault later.purpose width height) at
    (λ at. from_start width height c.in-Ok.flag at)) _ wide high
    (flag_stays input c.args.width c.args.height c.args.self.now c.flag.new.self c.in-Ok.flag holds
    (c.in-Ok.ensures.goes input.chunk holds.at holds.stands_there)))

pub returns-in-Err-clause-moves : goal.returns-in-Err-clause-moves
returns-in-Err-clause-moves c input holds =
    let wide : to_z w32 (of_z w32 c.args.width) ≡ c.args.width = search rules in
    let high : to_z w32 (of_z w32 c.args.height) ≡ c.args.height = search rules in
    flag_halts input c.args.width c.args.height c.args.self.now c.flag.new.self c.in-Err.stop c.halted.result
    (c.halted.ensures ∙ ap (λ (w : ℤ). halt_of c.in-Err.stop (step.Flag w (to_z w32 (of_z w32 c.args.height)))) wide ∙ ap
    (λ (h : ℤ). halt_of c.in-Err.stop (step.Flag c.args.width h)) high) holds
    (c.in-Err.ensures.goes input.chunk holds.at holds.stands_there)
