use Rattle.std.proofs.Common.{ℕ, ◌+◌, w64, arith, sym, ◌∙◌}
use Rattle.std.specs.Int.{trailing_zeros}
use Rattle.layer_compose.specs.Drawing.{layer_sample}
use Rattle.layer_compose.proofs.Laying.{lays_pixel}
use Rattle.layer_compose.proofs.Masking.{next_of, rest_next, run_goes_on, run_ends}
use Rattle.layer_compose.proofs.rows.lay_digits.Goals as goal

pub overflow_add-x : goal.overflow_add-x
overflow_add-x c =
    let next = next_of c.args.digits c.loop-rest.done c.loop-rest.rest c.args.count c.loop-rest.invariant.left c.loop-rest-test.true (omega arith) c.requires.digits in
    omega (arith, next.within)

pub overflow_add-x-in-loop-rest : goal.overflow_add-x-in-loop-rest
overflow_add-x-in-loop-rest c =
    let next = next_of c.args.digits c.loop-rest.done c.loop-rest.rest c.args.count c.loop-rest.invariant.left c.loop-rest-test.true (omega arith) c.requires.digits in
    omega (arith, next.within)

pub in_layer-colour-requires-clause-covers : goal.in_layer-colour-requires-clause-covers
in_layer-colour-requires-clause-covers c =
    let next = next_of c.args.digits c.loop-rest.done c.loop-rest.rest c.args.count c.loop-rest.invariant.left c.loop-rest-test.true (omega arith) c.requires.digits in
    c.requires.covers (c.args.from + c.loop-rest.done + trailing_zeros w64 c.loop-rest.rest) (omega (arith, next.within))

pub lay-requires : goal.lay-requires
lay-requires c =
    let next = next_of c.args.digits c.loop-rest.done c.loop-rest.rest c.args.count c.loop-rest.invariant.left c.loop-rest-test.true (omega arith) c.requires.digits in
    omega (arith, next.within)

pub overflow_add-done-in-loop-rest : goal.overflow_add-done-in-loop-rest
overflow_add-done-in-loop-rest c =
    let next = next_of c.args.digits c.loop-rest.done c.loop-rest.rest c.args.count c.loop-rest.invariant.left c.loop-rest-test.true (omega arith) c.requires.digits in
    omega (arith, next.within)

pub loop-rest-preserved : goal.loop-rest-preserved
loop-rest-preserved c =
    let next = next_of c.args.digits c.loop-rest.done c.loop-rest.rest c.args.count c.loop-rest.invariant.left c.loop-rest-test.true (omega arith) c.requires.digits in
    let skipped : ℕ = trailing_zeros w64 c.loop-rest.rest in
    let sample : ℕ → ℕ → ℕ = λ x channel. layer_sample c.args.front.now 0 c.args.by x c.args.y channel in
    record {
      left = rest_next c.args.digits c.loop-rest.done c.loop-rest.rest skipped c.loop-rest.invariant.left;
      lays =
          run_goes_on c.args.digits c.args.from c.loop-rest.done c.args.count skipped sample c.args.out.now c.loop-rest.out c.lay.new.out
          next c.loop-rest.invariant.lays
          (lays_pixel c.in_layer-colour.result sample (c.args.from + c.loop-rest.done + skipped) c.loop-rest.out c.lay.new.out c.in_layer-colour.ensures c.lay.ensures);
    }

pub returns : goal.returns
returns c =
    run_ends c.args.digits c.args.from c.loop-rest.done c.args.count (λ x channel. layer_sample c.args.front.now 0 c.args.by x c.args.y channel) c.args.out.now c.loop-rest.out
    (sym c.loop-rest.invariant.left ∙ c.loop-rest-test.false) c.requires.digits c.loop-rest.invariant.lays
