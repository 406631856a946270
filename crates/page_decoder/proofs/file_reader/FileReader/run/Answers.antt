use Rattle.std.proofs.Common.{rules, ◌≡◌, ◌-◌, ℕ, List, None, drop, map, refl, sym, ◌∙◌, subst, arith}
use Rattle.include_graph.specs.Verdicts.{outline_in}
use Rattle.page_decoder.specs.FileReading.{decisions_in, IsReady, Moves, ComesTo, Answers}
use Rattle.page_decoder.proofs.Further.{Grows}
use Rattle.page_decoder.proofs.Coming.{data_on}
use Rattle.page_decoder.proofs.Lifting.{of_at, stands_before, rise_none}
use Rattle.page_decoder.proofs.Looping.{steps_on, ready_on, rest_on, none_used, rise_both}
use Rattle.page_decoder.proofs.file_reader.FileReader.run.Goals as goal

pub events-init : goal.events-init
events-init g c = record {
  ready = c.requires.ready;
  moves = λ before given is stands.
      let grows : Grows before.home.table = record {
        verdicts = c.verdicts_stay.ensures;
        more_data = data_on before.home.table (of_at before c.args.self.now.stage c.args.self.now stands).is_table c.more_bytes_go_on.ensures.more (record {
          refused = c.layers_grow.ensures.refused;
          decisions = c.layers_grow.ensures.decisions;
        });
      } in
      record { drawn = refl; stands = stands_before _ _ _ c.args.piece.now c.args.end before given c.args.self.now is grows stands };
  within = omega arith;
  rest_is = none_used c.args.piece.now;
  home = λ names. refl;
  rise = rise_none _ _ _ _ refl refl;
}

pub returns-in-Some-clause-answers : goal.returns-in-Some-clause-answers
returns-in-Some-clause-answers g c before given is stands =
    let inv = c.events.invariant in
    let rest : List ℕ = c.events.rest.now in
    let after = rest_on c.args.piece.now rest c.rest_of-rest.result.now c.go_on-used.result.0 inv.rest_is inv.within c.go_on-used.ensures.within
    c.rest_of-rest.ensures in
    let comes = steps_on _ _ _ c.args.end c.args.piece.now rest c.go_on-used.result.0 c.go_on-used.result.1 c.args.self.now c.events.self
    c.go_on-used.new.self before given is (inv.moves before given is stands) c.go_on-used.ensures.comes in
    subst (λ r. Answers given r c.in-Some.answer c.args.self.now c.go_on-used.new.self) (sym c.rest_of-rest.ensures ∙ after.1)
    (subst (λ a. ComesTo given (drop c.go_on-used.result.0 rest) a c.args.self.now c.go_on-used.new.self) c.in-Some.is comes)

pub returns-in-Some-clause-rise : goal.returns-in-Some-clause-rise
returns-in-Some-clause-rise g c =
    rise_both (decisions_in c.args.self.now) (decisions_in c.events.self) (decisions_in c.go_on-used.new.self)
    (g.M.Meter.count c.args.meter.now) (g.M.Meter.count c.events.meter) (g.M.Meter.count c.go_on-used.new.meter)
    c.events.invariant.rise c.go_on-used.ensures.rise

pub returns-in-Some-clause-home : goal.returns-in-Some-clause-home
returns-in-Some-clause-home g c names = c.go_on-used.ensures.home names ∙ c.events.invariant.home names

pub events-preserved : goal.events-preserved
events-preserved g c =
    let inv = c.events.invariant in
    let rest : List ℕ = c.events.rest.now in
    let used : ℕ = c.go_on-used.result.0 in
    let none : c.go_on-used.result.1 ≡ None = search rules in
    let after = rest_on c.args.piece.now rest c.rest_of-rest.result.now used inv.rest_is inv.within c.go_on-used.ensures.within c.rest_of-rest.ensures in
    record {
      ready = subst (λ r. IsReady c.args.names.now (map outline_in c.args.outlines.now) c.args.results.now r c.args.end c.go_on-used.new.self)
          (sym c.rest_of-rest.ensures) (ready_on _ _ _ c.args.end rest used c.events.self c.go_on-used.new.self inv.ready
          (λ before given is stands. subst (λ a. ComesTo given (drop used rest) a c.events.self c.go_on-used.new.self) none
          (c.go_on-used.ensures.comes before given is stands)));
      moves = λ before given is stands. subst (λ r. Moves given r c.args.self.now c.go_on-used.new.self) (sym c.rest_of-rest.ensures)
          (subst (λ a. ComesTo given (drop used rest) a c.args.self.now c.go_on-used.new.self) none
          (steps_on _ _ _ c.args.end c.args.piece.now rest used c.go_on-used.result.1 c.args.self.now c.events.self c.go_on-used.new.self before given is
          (inv.moves before given is stands) c.go_on-used.ensures.comes));
      within = after.0;
      rest_is = after.1;
      home = λ names. c.go_on-used.ensures.home names ∙ inv.home names;
      rise = rise_both (decisions_in c.args.self.now) (decisions_in c.events.self) (decisions_in c.go_on-used.new.self)
          (g.M.Meter.count c.args.meter.now) (g.M.Meter.count c.events.meter) (g.M.Meter.count c.go_on-used.new.meter)
          inv.rise c.go_on-used.ensures.rise;
    }
