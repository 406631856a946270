-- The order of events: the FORM; then of each chunk its header, its data if there are some, and its end.
use Rattle.std.specs.Prelude.{⊤, List, [], ◌∷◌}
use Rattle.iff_chunks.specs.Events.{Event, Begun, Header, Data, ChunkEnd}

-- which event may come next
pub data Turn : Type 0 where
  AtForm : Turn
  AtHeader : Turn
  AtData : Turn
  AtEnd : Turn

abbrev pub InOrder : Turn → List Event → Type 0
InOrder turn [] = ⊤
InOrder AtForm (Begun kind size ∷ events) = InOrder AtHeader events
InOrder AtForm (Header id offset size ∷ events) = ⊥
InOrder AtForm (Data bytes ∷ events) = ⊥
InOrder AtForm (ChunkEnd ∷ events) = ⊥
InOrder AtHeader (Header id offset size ∷ events) = InOrder AtData events
InOrder AtHeader (Begun kind size ∷ events) = ⊥
InOrder AtHeader (Data bytes ∷ events) = ⊥
InOrder AtHeader (ChunkEnd ∷ events) = ⊥
-- a chunk may have no data
InOrder AtData (Data bytes ∷ events) = InOrder AtEnd events
InOrder AtData (ChunkEnd ∷ events) = InOrder AtHeader events
InOrder AtData (Begun kind size ∷ events) = ⊥
InOrder AtData (Header id offset size ∷ events) = ⊥
InOrder AtEnd (ChunkEnd ∷ events) = InOrder AtHeader events
InOrder AtEnd (Begun kind size ∷ events) = ⊥
InOrder AtEnd (Header id offset size ∷ events) = ⊥
InOrder AtEnd (Data bytes ∷ events) = ⊥
