use Rattle.std.proofs.Common.{◌≡◌, ℕ, length, get_or, List, refl, sym, ◌∙◌, ap, subst, arith}
use Rattle.zp_table.specs.declared.rows.Row.{Row}
use Rattle.zp_decoder.specs.Decision.{Form, outcome_of}
use Rattle.zp_decoder.specs.Decoder.{Fed}
use Rattle.zp_decoder.specs.States.{AreBelow}
use Rattle.iw44_slices.specs.Reading.{states_after}
use Rattle.iw44_slices.specs.Kept.{Names, states_in}
use Rattle.iw44_slices.specs.declared.contexts.Question.{Question}
use Rattle.iw44_slices.specs.declared.contexts.Question.TheVariants as question
use Rattle.iw44_slices.proofs.Numbering.{form_in, states_put, put_below, state_below}
use Rattle.iw44_slices.proofs.contexts.Contexts.decide.Goals as goal

pub decode-requires : goal.decode-requires
decode-requires g c =
    let known = c.requires.known in
    let names : Names known.0 (question.In c.in-In.number) = subst (λ (q : Question). Names known.0 q) c.in-In.is known.1 in
    state_below known.0 c.in-In.number c.args.self.now (get_or c.args.self.now.states c.in-In.number 0) (length c.args.zp.now.table) names refl
    c.requires.below

pub returns-in-In-clause-answer : goal.returns-in-In-clause-answer
returns-in-In-clause-answer g c asked payload place known fed =
    let names : Names asked (question.In c.in-In.number) = subst (λ (q : Question). Names asked q) c.in-In.is known in
    let form = form_in asked c.in-In.number c.args.self.now (get_or c.args.self.now.states c.in-In.number 0) names refl in
    subst (λ (f : Form). c.decode.result ≡ (outcome_of c.args.zp.now.table f payload c.args.zp.now.ended place).answer) form
    (c.decode.ensures.answer payload place fed)

pub returns-in-In-clause-fed : goal.returns-in-In-clause-fed
returns-in-In-clause-fed g c asked payload place known fed =
    let names : Names asked (question.In c.in-In.number) = subst (λ (q : Question). Names asked q) c.in-In.is known in
    let form = form_in asked c.in-In.number c.args.self.now (get_or c.args.self.now.states c.in-In.number 0) names refl in
    subst (λ (f : Form). Fed payload (outcome_of c.args.zp.now.table f payload c.args.zp.now.ended place).place c.decode.new.self) form
    (c.decode.ensures.fed payload place fed)

pub returns-in-In-clause-states : goal.returns-in-In-clause-states
returns-in-In-clause-states g c asked payload place known fed =
    let names : Names asked (question.In c.in-In.number) = subst (λ (q : Question). Names asked q) c.in-In.is known in
    let form = form_in asked c.in-In.number c.args.self.now (get_or c.args.self.now.states c.in-In.number 0) names refl in
    let size : length c.args.self.now.states ≡ 98 = omega arith in
    let next : c.decode.new.ctx ≡ _ =
    subst (λ (f : Form). c.decode.new.ctx ≡ (outcome_of c.args.zp.now.table f payload c.args.zp.now.ended place).state) form
    (c.decode.ensures.context payload place fed) in
    states_put asked c.in-In.number c.args.self.now _ c.decode.new.ctx names size refl
    ∙ ap (λ (s : ℕ). states_after asked s (states_in c.args.self.now)) next

pub returns-in-In-clause-below : goal.returns-in-In-clause-below
returns-in-In-clause-below g c =
    let known = c.requires.known in
    let names : Names known.0 (question.In c.in-In.number) = subst (λ (q : Question). Names known.0 q) c.in-In.is known.1 in
    let size : length c.args.self.now.states ≡ 98 = omega arith in
    let rows = ap (λ (rows : List Row). length rows) c.decode.ensures.table in
    put_below known.0 c.in-In.number c.args.self.now _ c.decode.new.ctx (length c.decode.new.self.table) names size refl
    (subst (λ (n : ℕ). AreBelow n (states_in c.args.self.now)) (sym rows) c.requires.below) c.decode.ensures.below
