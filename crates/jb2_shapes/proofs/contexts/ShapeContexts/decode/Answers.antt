use Rattle.std.proofs.Common.{◌≡◌, ◌<◌, ℕ, length, refl, sym, ap, subst, ◌∙◌, arith}
use Rattle.zp_decoder.specs.Decision.{Adaptive, outcome_of}
use Rattle.zp_decoder.specs.Decoder.{Fed}
use Rattle.zp_decoder.specs.States.{with_state}
use Rattle.jb2_shapes.specs.Numbers.{Cells, states_of}
use Rattle.jb2_shapes.specs.contracts.contexts.ShapeContexts.{the_view}
use Rattle.jb2_shapes.proofs.Cutting.{moved_below}
use Rattle.jb2_shapes.proofs.Numbering.{set_state, state_in}
use Rattle.jb2_shapes.proofs.contexts.ShapeContexts.decode.Goals as goal

pub decode-requires : goal.decode-requires
decode-requires g c =
    let is = state_in (the_view c.self.inside) c.requires.number.colours c.args.number c.index_mut.result.now c.requires.number.is c.requires.number.within c.self.invariant
    c.index_mut.ensures.value in
    subst (λ (state : ℕ). state < length c.args.zp.now.table) (ap (λ (cells : Cells). states_of cells c.requires.number.colours) (sym c.self.view_is) ∙ sym is)
    (c.requires.below c.requires.number.colours)

pub returns-clause-answer : goal.returns-clause-answer
returns-clause-answer g c colours payload place n fed =
    let is = state_in (the_view c.self.inside) colours c.args.number c.index_mut.result.now n c.requires.number.within c.self.invariant c.index_mut.ensures.value in
    let state = is ∙ ap (λ (cells : Cells). states_of cells colours) c.self.view_is in
    subst (λ (s : ℕ). c.decode.result ≡ (outcome_of c.args.zp.now.table (Adaptive s) payload c.args.zp.now.ended place).answer) state (c.decode.ensures.answer payload place fed)

pub returns-clause-fed : goal.returns-clause-fed
returns-clause-fed g c colours payload place n fed =
    let is = state_in (the_view c.self.inside) colours c.args.number c.index_mut.result.now n c.requires.number.within c.self.invariant c.index_mut.ensures.value in
    let state = is ∙ ap (λ (cells : Cells). states_of cells colours) c.self.view_is in
    subst (λ (s : ℕ). Fed payload (outcome_of c.args.zp.now.table (Adaptive s) payload c.args.zp.now.ended place).place c.decode.new.self) state
    (c.decode.ensures.fed payload place fed)

pub returns-clause-states : goal.returns-clause-states
returns-clause-states g c colours payload place n fed =
    let is = state_in (the_view c.self.inside) colours c.args.number c.index_mut.result.now n c.requires.number.within c.self.invariant c.index_mut.ensures.value in
    let state = is ∙ ap (λ (cells : Cells). states_of cells colours) c.self.view_is in
    let next = subst (λ (s : ℕ). c.decode.new.ctx ≡ (outcome_of c.args.zp.now.table (Adaptive s) payload c.args.zp.now.ended place).state) state
    (c.decode.ensures.context payload place fed) in
    set_state (the_view c.self.inside) _ colours c.args.number c.decode.new.ctx n (omega (arith, c.self.invariant, c.requires.number.within)) refl
    ∙ (ap (λ (cells : Cells). with_state (states_of cells) colours c.decode.new.ctx) c.self.view_is
    ∙ ap (λ (s : ℕ). with_state (states_of c.args.self.now) colours s) next)

pub returns-clause-below : goal.returns-clause-below
returns-clause-below g c =
    let moved = set_state (the_view c.self.inside) _ c.requires.number.colours c.args.number c.decode.new.ctx c.requires.number.is
    (omega (arith, c.self.invariant, c.requires.number.within)) refl
    ∙ ap (λ (cells : Cells). with_state (states_of cells) c.requires.number.colours c.decode.new.ctx) c.self.view_is in
    let size = ap (λ rows. length rows) c.decode.ensures.table in
    subst (λ states. (name : _) → states name < length c.decode.new.self.table) (sym moved)
    (moved_below (states_of c.args.self.now) c.requires.number.colours c.decode.new.ctx (length c.decode.new.self.table)
    (subst (λ (count : ℕ). (name : _) → states_of c.args.self.now name < count) (sym size) c.requires.below) c.decode.ensures.below)
