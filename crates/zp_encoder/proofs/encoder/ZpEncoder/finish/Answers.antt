use Rattle.std.proofs.Common.{true, None, subst, ap, ◌∙◌, ◌≡◌, ◌≤◌, ◌+◌, ◌*◌, ◌/◌, length}
use Rattle.std.proofs.lemmas.Result.{IfOk-weaker}
use Rattle.zp_table.specs.Rows.{IsTable}
use Rattle.zp_decoder.specs.Runs.{answers}
use Rattle.zp_encoder.specs.Codes.{Codes, IsAmong}
use Rattle.zp_encoder.specs.Written.{forms_of, bits_of, states_of, states_read}
use Rattle.zp_encoder.specs.Encoder.{codes_of, Encoder, Wrote}
use Rattle.zp_encoder.proofs.Decoding.{bits_read, states_are_read, few_bytes}
use Rattle.zp_encoder.proofs.encoder.ZpEncoder.finish.Goals as goal

pub returns-clause-answers : goal.returns-clause-answers
unfolding Wrote
returns-clause-answers c decisions wrote =
    let table : IsTable c.args.self.table = subst IsTable (c.deref.ensures ∙ ap (λ (e : Encoder). e.table) c.self.view_is) c.len-rows.ensures.table in
    IfOk-weaker c.finish.result (λ bytes. IsAmong bytes.items (codes_of c.self.inside.kept))
    (λ bytes. answers c.args.self.table bytes.items true None (forms_of decisions) ≡ bits_of decisions)
    (λ bytes among. bits_read c.args.self.table bytes.items decisions c.args.self.codes table
    wrote (subst (IsAmong bytes.items) (ap (λ (e : Encoder). e.codes) c.self.view_is) among)) c.finish.ensures.among

pub returns-clause-states : goal.returns-clause-states
unfolding Wrote
returns-clause-states c decisions wrote =
    let table : IsTable c.args.self.table = subst IsTable (c.deref.ensures ∙ ap (λ (e : Encoder). e.table) c.self.view_is) c.len-rows.ensures.table in
    IfOk-weaker c.finish.result (λ bytes. IsAmong bytes.items (codes_of c.self.inside.kept))
    (λ bytes. states_read c.args.self.table bytes.items (forms_of decisions) ≡ states_of decisions)
    (λ bytes among. states_are_read c.args.self.table bytes.items decisions c.args.self.codes table
    wrote (subst (IsAmong bytes.items) (ap (λ (e : Encoder). e.codes) c.self.view_is) among)) c.finish.ensures.among

pub returns-clause-size : goal.returns-clause-size
unfolding Wrote
returns-clause-size c decisions wrote =
    let codes : codes_of c.self.inside.kept ≡ c.args.self.codes = ap (λ (e : Encoder). e.codes) c.self.view_is in
    IfOk-weaker c.finish.result (λ bytes. length bytes.items ≡ (codes_of c.self.inside.kept).n / 8 + 1)
    (λ bytes. length bytes.items ≤ 2 * length decisions + 1)
    (λ bytes count. few_bytes c.args.self.table decisions c.args.self.codes (length bytes.items) wrote
    (count ∙ ap (λ (at : Codes). at.n / 8 + 1) codes)) c.finish.ensures.length
