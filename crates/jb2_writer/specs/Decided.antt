-- What a reading finds where a decoder decides the bits that were written.
use Rattle.std.specs.Prelude.{◌≡◌, ℕ, ◌+◌, List, [], ◌∷◌, Option, Some, None, reverse, ⊤}
use Rattle.bit_plane.specs.Pixels.{Pixels, IsPlane}
use Rattle.zp_decoder.specs.declared.decoder.Decision.TheVariants as decision
use Rattle.zp_decoder.specs.Decision.{Adaptive, Outcome, outcome_of}
use Rattle.zp_decoder.specs.Chunk.{Chunk}
use Rattle.zp_decoder.specs.States.{with_state}
use Rattle.jb2_numbers.specs.Contexts.{store}
use Rattle.jb2_records.specs.declared.reader.Jb2Step.TheVariants as answer
use Rattle.jb2_records.specs.Records.{Record, own_shape}
use Rattle.jb2_records.specs.Coding.{Coder}
use Rattle.jb2_records.specs.Reading.{Input, records_of, with_fresh_numbers}
use Rattle.jb2_writer.specs.Coded.{Context, Number, Pixel, Flag, RowStart, Coded, Bit, Anew}

abbrev pub coder_state : Coder → Context → ℕ
coder_state at (Number name) = at.numbers name
coder_state at (Pixel colours) = at.pixels colours
coder_state at Flag = at.flag
coder_state at RowStart = at.row

abbrev pub with_coder_state : Coder → Context → ℕ → Coder
with_coder_state at (Number name) state = record at { numbers = store at.numbers name state }
with_coder_state at (Pixel colours) state = record at { pixels = with_state at.pixels colours state }
with_coder_state at Flag state = record at { flag = state }
with_coder_state at RowStart state = record at { row = state }

-- a decision further
abbrev pub coder_behind : Coder → Context → Outcome → Coder
coder_behind at context outcome = record (with_coder_state at context outcome.state) { place = outcome.place; decisions = at.decisions + 1 }

abbrev pub coder_outcome : Chunk → Coder → Context → Outcome
coder_outcome source at context = outcome_of source.table (Adaptive (coder_state at context)) source.payload source.ended at.place

-- from here on the bits of a chunk are these, and lead there
abbrev pub AreDecided : Chunk → Coder → List Coded → Coder → Type 0
AreDecided source at [] to = at ≡ to
AreDecided source at (Bit context bit ∷ later) to =
    ((coder_outcome source at context).answer ≡ decision.Bit bit) × AreDecided source (coder_behind at context (coder_outcome source at context)) later to
AreDecided source at (Anew ∷ later) to = AreDecided source (with_fresh_numbers at) later to

-- a reading finds these records, in order and field by field, and their end
pub record AreReadBack (input : Input) (records : List Record) : Type 0 where
  pub finished : (records_of input).answer ≡ answer.Finished
  pub same : (records_of input).records ≡ reverse records

abbrev pub IsPlaneIn : Option Pixels → Type 0
IsPlaneIn None = ⊤
IsPlaneIn (Some shape) = IsPlane shape

-- each shape that the records bring has a pixel for each place
abbrev pub HavePlanes : List Record → Type 0
HavePlanes [] = ⊤
HavePlanes (entry ∷ later) = IsPlaneIn (own_shape entry) × HavePlanes later
