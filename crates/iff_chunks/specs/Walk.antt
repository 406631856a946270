-- A walk over a file: what a walker's answers to its pieces say of the file.
use Rattle.std.specs.Prelude.{ℕ, ◌≡◌, ◌+◌, ◌*◌, ◌<◌, ◌≤◌, ◌++◌, ◌⊎◌, true, List, [], ◌∷◌, length, take}
use Rattle.iff_chunks.specs.declared.walker.WalkStep.{WalkStep}
use Rattle.iff_chunks.specs.declared.walker.WalkStep.TheVariants as step
use Rattle.iff_chunks.specs.Chunks.{chunks_of, chunks_in_all}
use Rattle.iff_chunks.specs.Events.{Event, ChunkEnd, events_of, tell, GoesOn, IsOpen, Ends, Takes, is_event}
use Rattle.iff_chunks.specs.Order.{InOrder, AtForm}
use Rattle.iff_chunks.specs.Told.{Walking, Told, pending}

-- a walker was fed this piece: it used so many bytes of it, answered so, and stands there then
pub record IsFed (before : Walking) (piece : List ℕ) (used : ℕ) (answer : WalkStep) (after : Walking) : Type 0 where
  pub within : used ≤ length piece
  pub told : (taken : List ℕ) (told : List Event) → Told taken told before → Told (taken ++ take used piece) (tell told answer (take used piece)) after
  -- the events are those of the file, whatever follows the used bytes
  pub events : (taken more : List ℕ) (told : List Event) → Told taken told before
      → GoesOn (tell told answer (take used piece)) (events_of (chunks_of (taken ++ (take used piece ++ more))))
  -- they come in their order
  pub order : (taken : List ℕ) (told : List Event) → Told taken told before → InOrder AtForm (tell told answer (take used piece))
  -- the FORM's end and a break are answered once every event was told and the used bytes settle it, whatever follows
  pub ends : (taken more : List ℕ) (told : List Event) → Told taken told before → Ends answer told (chunks_of (taken ++ (take used piece ++ more)))
  -- more bytes are asked for only where all were used, every event was told, and the FORM goes on
  pub needs : (taken : List ℕ) (told : List Event) → Told taken told before → answer ≡ step.NeedBytes
      → (used ≡ length piece) × (events_of (chunks_of (taken ++ piece)) ≡ told) × IsOpen (chunks_of (taken ++ piece)).tail
  -- a FORM, a header and data take at least one byte; data are told as far as the piece and the chunk go
  pub takes : Takes answer used
  pub all_data : (taken more : List ℕ) (told : List Event) → Told taken told before → answer ≡ step.Data
      → (used ≡ length piece) ⊎ GoesOn (tell told answer (take used piece) ++ ChunkEnd ∷ []) (events_of (chunks_of (taken ++ (take used piece ++ more))))
  -- with each event less is left: bytes, or an event that needs none
  pub fewer : is_event answer ≡ true → pending after < 2 * used + pending before

-- the walker told these events of the file, and this is the rest of it
pub record HasTold (file rest : List ℕ) (told : List Event) (walker : Walking) : Type 0 where
  pub taken : List ℕ
  pub parts : file ≡ taken ++ rest
  pub is_told : Told taken told walker
  pub goes : GoesOn told (events_of (chunks_of file))

-- it told every event of the file, and took the bytes that settle its end
pub record HasToldAll (file : List ℕ) (walker : Walking) : Type 0 where
  pub taken : List ℕ
  pub is_told : Told taken (events_of (chunks_of file)) walker
  pub same_end : (chunks_in_all taken).tail ≡ (chunks_in_all file).tail
