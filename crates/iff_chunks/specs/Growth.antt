-- A chunk whose data are arriving, once more bytes have come.
use Rattle.std.specs.Prelude.{ℕ, ◌≡◌, ◌++◌, ◌⊎◌, List, ◌∷◌}
use Rattle.iff_chunks.specs.Chunks.{Chunk, Chunks, InData}

-- the same header, and more data
pub record IsGrown (chunk grown : Chunk) : Type 0 where
  pub id : grown.id ≡ chunk.id
  pub offset : grown.offset ≡ chunk.offset
  pub size : grown.size ≡ chunk.size
  pub later : List ℕ
  pub bytes : grown.bytes ≡ chunk.bytes ++ later

-- after these complete chunks it is the next complete one, or its data are still arriving
pub record IsStillThere (whole : List Chunk) (chunk : Chunk) (chunks : Chunks) : Type 0 where
  pub grown : Chunk
  pub is_grown : IsGrown chunk grown
  pub there : ((later : List Chunk) × (chunks.whole ≡ whole ++ (grown ∷ later))) ⊎ ((chunks.whole ≡ whole) × (chunks.tail ≡ InData grown))
