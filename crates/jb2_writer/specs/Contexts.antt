-- States of all contexts of a chunk, and bits as decisions in them.
use Rattle.std.specs.Prelude.{◌≡◌, ℕ, true, List, [], ◌∷◌, None}
use Rattle.zp_table.specs.declared.rows.Row.{Row}
use Rattle.zp_decoder.specs.Decision.{Adaptive}
use Rattle.zp_decoder.specs.Runs.{answers}
use Rattle.zp_decoder.specs.States.{States, fresh, with_state}
use Rattle.jb2_numbers.specs.Contexts.{Name, store}
use Rattle.zp_encoder.specs.Written.{Written, forms_of, bits_of, states_of, states_read}
use Rattle.jb2_writer.specs.Coded.{Context, Number, Pixel, Flag, RowStart, Coded, Bit, Anew}

pub record Contexts : Type 0 where
  pub numbers : Name → ℕ
  pub pixels : States
  pub flag : ℕ
  pub row : ℕ

-- at the beginning of a chunk
abbrev pub all_fresh : Contexts
all_fresh = record { numbers = fresh; pixels = fresh; flag = 0; row = 0 }

abbrev pub state_in : Contexts → Context → ℕ
state_in contexts (Number at) = contexts.numbers at
state_in contexts (Pixel colours) = contexts.pixels colours
state_in contexts Flag = contexts.flag
state_in contexts RowStart = contexts.row

-- with this state in a context
abbrev pub with_state_in : Contexts → Context → ℕ → Contexts
with_state_in contexts (Number at) state = record contexts { numbers = store contexts.numbers at state }
with_state_in contexts (Pixel colours) state = record contexts { pixels = with_state contexts.pixels colours state }
with_state_in contexts Flag state = record contexts { flag = state }
with_state_in contexts RowStart state = record contexts { row = state }

-- these decisions have the bits, each in the state of its context, and leave the contexts in their states
abbrev pub AreCodedAs : Contexts → List Coded → List Written → Contexts → Type 0
AreCodedAs from [] [] to = from ≡ to
AreCodedAs from [] (decision ∷ decisions) to = ⊥
AreCodedAs from (Bit context bit ∷ later) [] to = ⊥
AreCodedAs from (Bit context bit ∷ later) (decision ∷ decisions) to =
    (decision.form ≡ Adaptive (state_in from context)) × (decision.bit ≡ bit)
    × AreCodedAs (with_state_in from context decision.state) later decisions to
AreCodedAs from (Anew ∷ later) decisions to = AreCodedAs (record from { numbers = fresh }) later decisions to

-- a decoder decides these from the bytes of a whole chunk as they were written, in order
pub record AreReadAs (rows : List Row) (payload : List ℕ) (decisions : List Written) : Type 0 where
  pub bits : answers rows payload true None (forms_of decisions) ≡ bits_of decisions
  pub states : states_read rows payload (forms_of decisions) ≡ states_of decisions

-- so it decides decisions that have these bits
pub record AreWritten (rows : List Row) (payload : List ℕ) (bits : List Coded) : Type 0 where
  pub decisions : List Written
  pub end : Contexts
  pub coded : AreCodedAs all_fresh bits decisions end
  pub read : AreReadAs rows payload decisions
