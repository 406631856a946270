use Rattle.std.proofs.Common.{◌≡◌, ℤ, to_z, of_z, w32, rules, sym, ap, ◌∙◌}
use Rattle.jb2_records.specs.Reading.{start_fault}
use Rattle.jb2_records.specs.Steps.{from_start, rest_of}
use Rattle.jb2_records.proofs.Stepping.{refused_by}
use Rattle.jb2_records.proofs.Entering.{passed_by, at_sizes}
use Rattle.jb2_records.proofs.machine.Machine.flagged.Goals as goal

pub returns-in-Some-clause-moves : goal.returns-in-Some-clause-moves
returns-in-Some-clause-moves c input stays =
    let wide : to_z w32 (of_z w32 c.args.width) ≡ c.args.width = search rules in
    let high : to_z w32 (of_z w32 c.args.height) ≡ c.args.height = search rules in
    refused_by input (λ later before. start_fault later.purpose c.args.width c.args.height)
    (λ later before text at. from_start c.args.width c.args.height c.args.flag at) c.args.self.now c.in-Some.fault c.start_fault.result stays
    c.in-Some.is (c.start_fault.ensures.fault input stays.before stays.keeps ∙ ap
    (λ (w : ℤ). start_fault input.purpose w (to_z w32 (of_z w32 c.args.height))) wide ∙ ap (λ (h : ℤ). start_fault input.purpose c.args.width h) high)

pub returns-clause-moves : goal.returns-clause-moves
unfolding rest_of
returns-clause-moves c input stays =
    let wide : to_z w32 (of_z w32 c.args.width) ≡ c.args.width = search rules in
    let high : to_z w32 (of_z w32 c.args.height) ≡ c.args.height = search rules in
    at_sizes input c.args.width c.args.height (to_z w32 (of_z w32 c.args.width)) (to_z w32 (of_z w32 c.args.height))
    (λ later before width height at. from_start width height c.args.flag at) c.args.self.now wide high
    (passed_by input (λ later before. start_fault later.purpose c.args.width c.args.height)
    (λ later before text at. from_start c.args.width c.args.height c.args.flag at) c.args.self.now stays
    (sym (c.start_fault.ensures.fault input stays.before stays.keeps ∙ ap
    (λ (w : ℤ). start_fault input.purpose w (to_z w32 (of_z w32 c.args.height))) wide ∙ ap
    (λ (h : ℤ). start_fault input.purpose c.args.width h) high) ∙ c.in_default.is)
    (λ later same. same))

pub returns-clause-fits : goal.returns-clause-fits
returns-clause-fits c =
    let wide : to_z w32 (of_z w32 c.args.width) ≡ c.args.width = search rules in
    let high : to_z w32 (of_z w32 c.args.height) ≡ c.args.height = search rules in
    (c.requires.0, (c.requires.1, sym c.start_fault.ensures.here ∙ c.in_default.is))
