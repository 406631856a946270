-- Plain pages, which have a mask at most: no included file, no dictionary, no colour, and no turn. `Reading` has their shorter definition.
use Rattle.std.specs.Prelude.{ℕ, ◌≡◌, ⊤, List, [], ◌∷◌, map, slice_get}
use Rattle.djvu_base.specs.declared.turns.Turn.TheVariants.{Upright}
use Rattle.djvu_base.specs.Turn.{turn_of}
use Rattle.iff_chunks.specs.Chunks.{Chunk, Chunks, Tail, InHead, InHeader, InData, InPad, FormEnd, Broken}
use Rattle.include_graph.specs.Verdicts.{fault_at}
use Rattle.page_decoder.specs.Kinds.{ChunkKind, kind_of}
use Rattle.page_decoder.specs.Kinds as kind
use Rattle.page_decoder.specs.Reading as short
use Rattle.page_decoder.specs.PageRead.{Drawing, Ending, Finished, Refused, NeedBytes, PageRead}

abbrev pub IsPlainKind : ChunkKind → Type 0
IsPlainKind kind.Info = ⊤
IsPlainKind kind.Include = ⊥
IsPlainKind kind.Dictionary = ⊥
IsPlainKind kind.Mask = ⊤
IsPlainKind kind.Front = ⊥
IsPlainKind kind.Back = ⊥
IsPlainKind kind.Refused = ⊤
IsPlainKind kind.Passed = ⊤

-- the tenth byte of an INFO doesn't turn the page
abbrev pub IsUpright : ChunkKind → List ℕ → Type 0
IsUpright kind.Info bytes = turn_of (slice_get bytes 9) ≡ Upright
IsUpright other bytes = ⊤

pub record IsPlain (chunk : Chunk) : Type 0 where
  pub of : IsPlainKind (kind_of chunk.id)
  pub upright : IsUpright (kind_of chunk.id) chunk.bytes

abbrev pub ArePlain : List Chunk → Type 0
ArePlain [] = ⊤
ArePlain (chunk ∷ chunks) = IsPlain chunk × ArePlain chunks

abbrev pub EndsPlain : Tail → Type 0
EndsPlain InHead = ⊤
EndsPlain (InHeader offset bytes) = ⊤
EndsPlain (InData chunk) = IsPlainKind (kind_of chunk.id)
EndsPlain (InPad offset is_last) = ⊤
EndsPlain FormEnd = ⊤
EndsPlain (Broken kind offset) = ⊤

pub record IsPlainPage (chunks : Chunks) : Type 0 where
  pub whole : ArePlain chunks.whole
  pub tail : EndsPlain chunks.tail

-- ---- the two readings

abbrev pub notice_in : Drawing → short.Notice
notice_in drawing = record { chunks = drawing.chunks; layers = drawing.layers }

-- an end, in the file of this number
abbrev pub end_in : ℕ → short.Ending → Ending
end_in file short.Finished = Finished
end_in file (short.Fault kind offset) = Refused (fault_at kind file offset)
end_in file short.NeedBytes = NeedBytes

-- both tell the same drawings and decisions, and end in the same way. No other file is reached
pub record IsReadSo (file : ℕ) (it : short.Reading) (read : PageRead) : Type 0 where
  pub notices : map notice_in read.left.told.drawings ≡ it.notices
  pub decisions : read.left.told.decisions ≡ it.decisions
  pub reached : read.left.told.reached ≡ []
  pub end : read.end ≡ end_in file it.end
