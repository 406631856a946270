use Rattle.std.proofs.Common.{◌≡◌, ℕ, List, sym, ap, ◌∙◌, ◌%◌}
use Rattle.std.specs.Arc.{arc_value}
use Rattle.zp_table.specs.declared.rows.Row.{Row}
use Rattle.std.specs.Prelude.{nat_eq}
use Rattle.zp_table.specs.Rows.{row_at}
use Rattle.zp_decoder.specs.Decision.{Adaptive, adaptive_split, next_state, interval}
use Rattle.zp_encoder.specs.Encoder.{Encoder}
use Rattle.zp_encoder.proofs.Writing.{wrote_on, same_bits}
use Rattle.zp_encoder.proofs.encoder.ZpEncoder.encode.Goals as goal

pub returns-clause-wrote : goal.returns-clause-wrote
returns-clause-wrote c decisions =
    let table : arc_value c.self.inside.table ≡ c.args.self.now.table = ap (λ (e : Encoder). e.table) c.self.view_is in
    let row : c.row-row.result ≡ row_at c.args.self.now.table c.args.ctx.now =
    c.row-row.ensures.row ∙ ap (λ (rows : List Row). row_at rows c.args.ctx.now) (c.deref.ensures ∙ table) in
    let a : c.in_ok-a.a ≡ c.args.self.now.codes.a = c.in_ok-a.ensures.start.0 in
    let split : adaptive_split (row_at c.args.self.now.table c.args.ctx.now).p c.args.self.now.codes.a ≡ c.adaptive_split-z.result =
    rw (← row, ← a) (sym c.adaptive_split-z.ensures) in
    let more = same_bits (nat_eq (c.args.ctx.now % 2) 1) c.args.bit in
    let next : c.next_state.result ≡ next_state c.row-row.result c.args.ctx.now c.adaptive_split-z.result (interval c.in_ok-a.a c.code_with.result 0) =
    c.next_state.ensures.next in
    wrote_on decisions (Adaptive c.args.ctx.now) c.args.bit c.next_state.result c.adaptive_split-z.result _ c.args.self.now c.write.new.self
    (record {
      form_of = c.requires;
      more = more;
      split = split;
      codes = c.in_ok-write.ensures.codes;
      table = c.in_ok-write.ensures.table;
      state_is = rw (split, ← row, ← a, ← more) (next ∙ ap (λ (code : ℕ). next_state c.row-row.result c.args.ctx.now c.adaptive_split-z.result
          (interval c.in_ok-a.a code 0)) c.code_with.ensures);
    })
