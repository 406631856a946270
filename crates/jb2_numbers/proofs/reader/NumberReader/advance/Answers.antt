use Rattle.std.proofs.Common.{◌≡◌, ℕ, ℤ, sym, ap, ◌∙◌, to_z, of_z, w32, rules}
use Rattle.jb2_numbers.specs.declared.reader.NumberStep.TheVariants as told
use Rattle.zp_decoder.specs.Chunk.{Chunk}
use Rattle.jb2_numbers.specs.Kept.{phase_in}
use Rattle.jb2_numbers.specs.Number.{Wanted, Reading}
use Rattle.jb2_numbers.specs.Phases.{Known}
use Rattle.jb2_numbers.specs.Reader.{Reader, Stands}
use Rattle.jb2_numbers.proofs.Sound.{few_reader}
use Rattle.jb2_numbers.proofs.Stepping.{Comes, stands_moved, known_ends, ends_there, told_within, number_same}
use Rattle.jb2_numbers.proofs.reader.NumberReader.advance.Goals as goal

pub returns-in-Known-clause-answer : goal.returns-in-Known-clause-answer
returns-in-Known-clause-answer g c wanted chunk before reading memory start =
    let fits : to_z w32 (of_z w32 c.in-Known.value) ≡ c.in-Known.value = search rules in
    let few = few_reader c.self.inside.path (phase_in c.self.inside.phase) c.args.self.now.decisions
    (ap (λ (r : Reader). r.decisions) c.self.view_is) c.self.invariant in
    let known : c.args.self.now.phase ≡ Known c.in-Known.value = ap (λ (r : Reader). r.phase) (sym c.self.view_is) ∙ ap phase_in c.in-Known.is in
    let comes = ends_there wanted chunk before reading (told.Number c.in-Known.value) c.args.self.now c.args.self.now c.args.contexts.now c.args.zp.now
    (g.M.Meter.count c.args.meter.now)
    (known_ends wanted chunk before reading c.args.self.now c.args.contexts.now c.args.zp.now
    (g.M.Meter.count c.args.meter.now) c.in-Known.value few known start) in
    ap (λ (v : ℤ). told.Number v) fits ∙ comes.answer (λ none. cc)

pub returns-in-Known-clause-stands : goal.returns-in-Known-clause-stands
returns-in-Known-clause-stands g c wanted chunk before reading memory start =
    let few = few_reader c.self.inside.path (phase_in c.self.inside.phase) c.args.self.now.decisions
    (ap (λ (r : Reader). r.decisions) c.self.view_is) c.self.invariant in
    let known : c.args.self.now.phase ≡ Known c.in-Known.value = ap (λ (r : Reader). r.phase) (sym c.self.view_is) ∙ ap phase_in c.in-Known.is in
    let comes = ends_there wanted chunk before reading (told.Number c.in-Known.value) c.args.self.now c.args.self.now c.args.contexts.now c.args.zp.now
    (g.M.Meter.count c.args.meter.now)
    (known_ends wanted chunk before reading c.args.self.now c.args.contexts.now c.args.zp.now
    (g.M.Meter.count c.args.meter.now) c.in-Known.value few known start) in
    comes.stands (λ none. cc)

pub returns-in-Known-clause-within : goal.returns-in-Known-clause-within
returns-in-Known-clause-within g c wanted bounds underway =
    let fits : to_z w32 (of_z w32 c.in-Known.value) ≡ c.in-Known.value = search rules in
    let known : c.args.self.now.phase ≡ Known c.in-Known.value = ap (λ (r : Reader). r.phase) (sym c.self.view_is) ∙ ap phase_in c.in-Known.is in
    record {
      value = λ value is. told_within wanted c.args.self.now value bounds underway
          (known ∙ ap (λ (v : ℤ). Known v) (sym fits ∙ number_same (to_z w32 (of_z w32 c.in-Known.value)) value is));
      goes = underway;
    }

pub returns-in-Ok : goal.returns-in-Ok
returns-in-Ok g c =
    let comes : (wanted : Wanted) (chunk : Chunk) (before : ℕ) (reading : Reading) →
    Stands wanted chunk before reading c.args.self.now c.args.contexts.now c.args.zp.now (g.M.Meter.count c.args.meter.now) →
    Comes wanted chunk before reading c.read_on.result c.read_on.new.self c.read_on.new.contexts c.read_on.new.zp
    (g.M.Meter.count c.read_on.new.meter) = λ wanted chunk before reading start.
    ends_there wanted chunk before reading c.read_on.result c.args.self.now c.read_on.new.self c.read_on.new.contexts c.read_on.new.zp
    (g.M.Meter.count c.read_on.new.meter)
    (c.read_on.ensures.ends wanted chunk before reading
    (stands_moved wanted chunk before reading c.args.self.now c.args.contexts.now c.find.new.self c.args.zp.now
    (g.M.Meter.count c.args.meter.now) c.find.ensures.same start)) in
    record {
      answer = λ wanted chunk before reading memory start. (comes wanted chunk before reading start).answer memory;
      stands = λ wanted chunk before reading memory start. (comes wanted chunk before reading start).stands memory;
      out_of_memory = λ wanted chunk before reading memory start.
          let ends = c.read_on.ensures.ends wanted chunk before reading
          (stands_moved wanted chunk before reading c.args.self.now c.args.contexts.now c.find.new.self c.args.zp.now
          (g.M.Meter.count c.args.meter.now) c.find.ensures.same start) in
          (ends.count, ends.stands);
      within = λ wanted bounds underway. record {
        value = λ value is. told_within wanted c.read_on.new.self value bounds (c.read_on.ensures.underway wanted underway) (c.read_on.ensures.known value is);
        goes = c.read_on.ensures.underway wanted underway;
      };
      below = c.read_on.ensures.below;
      table = c.read_on.ensures.table;
      ended = c.read_on.ensures.ended;
    }
