use Rattle.std.proofs.Common.{◌≡◌, ◌%◌, ◌<◌, ℕ, arith, sym, ap, subst, ◌∙◌}
use Rattle.layer_compose.specs.Drawing.{layer_sample}
use Rattle.layer_compose.specs.Laying.{IsColour}
use Rattle.layer_compose.specs.Sides.{shade_of, run_of}
use Rattle.layer_compose.proofs.SideSums.{sum_first, sum_whole, sum_more, colour_sum, next_run, run_some, starts}
use Rattle.layer_compose.proofs.sums.sum_on.Goals as goal

pub loop-x-preserved : goal.loop-x-preserved
loop-x-preserved c =
    let l = c.loop-x in
    let a = c.args in
    let run : c.run_of-run.result ≡ run_of a.layer.now a.by = c.run_of-run.ensures in
    let count = c.min-count.ensures in
    let some : 0 < c.run_of-run.result = subst (λ n. 0 < n) (sym run) (run_some a.layer.now a.by c.requires.by) in
    let start : l.x % run_of a.layer.now a.by ≡ 0 = subst (λ n. l.x % n ≡ 0) run (starts l.x c.run_of-run.result a.width c.loop-x-test.true l.invariant.start) in
    let P : ℕ → Type 0 = λ shade. IsColour c.in_layer-colour.result (layer_sample a.layer.now shade a.by l.x a.y) in
    let value =
    colour_sum c.in_layer-colour.result a.layer.now (shade_of a.side) a.by l.x a.y (subst P c.shade_of.ensures c.in_layer-colour.ensures) in
    record {
      sum =
          sum_more a.side a.mask.now a.layer.now a.by a.y l.x c.min-count.result _ c.count_on.result l.total c.sum_of_run-total.result start (omega (arith, count, run))
          l.invariant.sum value c.count_on.ensures.count c.sum_of_run-total.ensures.sum;
      most = omega (arith, l.invariant.most, c.sum_of_run-total.ensures.most, c.count_on.ensures.most);
      start = next_run l.x c.min-count.result c.run_of-run.result a.width some c.loop-x-test.true count l.invariant.start;
      within = omega (arith, count, c.loop-x-test.true);
    }

pub returns-clause-sum : goal.returns-clause-sum
returns-clause-sum c =
    let l = c.loop-x in
    let a = c.args in
    let all : l.x ≡ a.width = omega (arith, l.invariant.within, c.loop-x-test.false) in
    l.invariant.sum ∙ ap (sum_first a.side a.mask.now a.layer.now a.by a.y) all ∙ sum_whole a.side a.mask.now a.layer.now a.by a.width a.y
