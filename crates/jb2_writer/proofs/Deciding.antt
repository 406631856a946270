-- Bits that were written are decided, in the contexts that a reading has for them.
use Rattle.std.proofs.Common.{◌≡◌, ℕ, Bool, true, List, [], ◌∷◌, map, refl, sym, ap, subst, ◌∙◌}
use Rattle.std.specs.Prelude.{Option}
use Rattle.zp_table.specs.declared.rows.Row.{Row}
use Rattle.zp_decoder.specs.declared.decoder.Decision.{Decision}
use Rattle.zp_decoder.specs.declared.decoder.Decision.TheVariants as decision
use Rattle.zp_decoder.specs.Decision.{Form, Adaptive, Interval, Outcome, outcome_of}
use Rattle.zp_decoder.specs.Runs.{outcomes}
use Rattle.zp_decoder.specs.Chunk.{Chunk, chunk}
use Rattle.zp_encoder.specs.Written.{Written, forms_of, bits_of, states_of}
use Rattle.jb2_records.specs.Coding.{Coder, chunk_start}
use Rattle.jb2_records.specs.Reading.{with_fresh_numbers}
use Rattle.jb2_writer.specs.Coded.{Context, Number, Pixel, Flag, RowStart, Coded, Bit, Anew}
use Rattle.jb2_writer.specs.Contexts.{Contexts, state_in, with_state_in, AreCodedAs, AreWritten}
use Rattle.jb2_writer.specs.Decided.{coder_state, coder_behind, coder_outcome, AreDecided}

-- the contexts of a coder
abbrev contexts_of : Coder → Contexts
contexts_of at = record { numbers = at.numbers; pixels = at.pixels; flag = at.flag; row = at.row }

state_same : (at : Coder) (context : Context) → state_in (contexts_of at) context ≡ coder_state at context
state_same at (Number name) = refl
state_same at (Pixel colours) = refl
state_same at Flag = refl
state_same at RowStart = refl

contexts_behind : (at : Coder) (context : Context) (o : Outcome) →
    with_state_in (contexts_of at) context o.state ≡ contexts_of (coder_behind at context o)
contexts_behind at (Number name) o = refl
contexts_behind at (Pixel colours) o = refl
contexts_behind at Flag o = refl
contexts_behind at RowStart o = refl

same_head : {A : Type 0} (a b : A) (as' bs : List A) → a ∷ as' ≡ b ∷ bs → a ≡ b
same_head a b as' bs e = cc

same_tail : {A : Type 0} (a b : A) (as' bs : List A) → a ∷ as' ≡ b ∷ bs → as' ≡ bs
same_tail a b as' bs e = cc

abbrev answers_at : List Row → List ℕ → Option Interval → List Written → List Decision
answers_at rows payload place decisions = map (λ (o : Outcome). o.answer) (outcomes rows payload true place (forms_of decisions))

abbrev states_at : List Row → List ℕ → Option Interval → List Written → List ℕ
states_at rows payload place decisions = map (λ (o : Outcome). o.state) (outcomes rows payload true place (forms_of decisions))

-- read from a place on
record Reads (rows : List Row) (payload : List ℕ) (place : Option Interval) (decisions : List Written) : Type 0 where
  answers : answers_at rows payload place decisions ≡ bits_of decisions
  states : states_at rows payload place decisions ≡ states_of decisions

pub record Leads (source : Chunk) (at : Coder) (bits : List Coded) : Type 0 where
  pub to : Coder
  pub decided : AreDecided source at bits to

module _ (rows : List Row) (payload : List ℕ) where
  abbrev source : Chunk
  source = chunk rows payload true

  decided_from : (bits : List Coded) (decisions : List Written) (at : Coder) (end : Contexts) → AreCodedAs (contexts_of at) bits decisions end →
      Reads rows payload at.place decisions → Leads source at bits
  decided_from [] decisions at end coded reads = record { to = at; decided = refl }
  decided_from (Anew ∷ later) decisions at end coded reads =
      let more = decided_from later decisions (with_fresh_numbers at) end coded reads in
      record { to = more.to; decided = more.decided }
  decided_from (Bit context bit ∷ later) [] at end coded reads = absurd coded
  decided_from (Bit context bit ∷ later) (first ∷ decisions) at end coded reads =
      let o : Outcome = outcome_of rows first.form payload true at.place in
      let o' : Outcome = coder_outcome source at context in
      let form : first.form ≡ Adaptive (coder_state at context) = coded.0 ∙ ap (λ (s : ℕ). Adaptive s) (state_same at context) in
      let same : o ≡ o' = ap (λ (f : Form). outcome_of rows f payload true at.place) form in
      let answered : o.answer ≡ decision.Bit first.bit =
      same_head o.answer (decision.Bit first.bit) (answers_at rows payload o.place decisions) (bits_of decisions) reads.answers in
      let stays : o.state ≡ first.state = same_head o.state first.state (states_at rows payload o.place decisions) (states_of decisions) reads.states in
      let contexts : with_state_in (contexts_of at) context first.state ≡ contexts_of (coder_behind at context o') =
      ap (λ (s : ℕ). with_state_in (contexts_of at) context s) (sym stays)
      ∙ (ap (λ (x : Outcome). with_state_in (contexts_of at) context x.state) same ∙ contexts_behind at context o') in
      let more : Reads rows payload o.place decisions = record {
        answers = same_tail o.answer (decision.Bit first.bit) (answers_at rows payload o.place decisions) (bits_of decisions) reads.answers;
        states = same_tail o.state first.state (states_at rows payload o.place decisions) (states_of decisions) reads.states;
      } in
      let leads = decided_from later decisions (coder_behind at context o') end (subst (λ (c : Contexts). AreCodedAs c later decisions end) contexts coded.2)
      (subst (λ (x : Outcome). Reads rows payload x.place decisions) same more) in
      record {
        to = leads.to;
        decided = (ap (λ (x : Outcome). x.answer) (sym same) ∙ (answered ∙ ap (λ (b : Bool). decision.Bit b) coded.1), leads.decided);
      }

  pub written_decided : (bits : List Coded) → AreWritten rows payload bits → Leads source chunk_start bits
  written_decided bits written =
      decided_from bits written.decisions chunk_start written.end written.coded (record { answers = written.read.bits; states = written.read.states })
