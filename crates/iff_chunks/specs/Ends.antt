-- Where a file ends whose bytes end, by what is known of its end.
use Rattle.std.specs.Prelude.{ℕ, ◌≡◌, Bool, true, false, List, length, if◌then◌else◌}
use Rattle.djvu_base.specs.declared.faults.FaultKind.{FaultKind}
use Rattle.djvu_base.specs.declared.faults.FaultKind.TheVariants.{Truncated, Read}
use Rattle.djvu_base.specs.Library.{Mark, Open, Whole}
use Rattle.djvu_base.specs.Library as library
use Rattle.iff_chunks.specs.declared.walker.WalkEnd.{WalkEnd}
use Rattle.iff_chunks.specs.declared.walker.WalkEnd.TheVariants as walk_end
use Rattle.iff_chunks.specs.declared.walker.WalkStep.{WalkStep}
use Rattle.iff_chunks.specs.declared.walker.WalkStep.TheVariants as step
use Rattle.iff_chunks.specs.Chunks.{Chunk, Tail, InHead, InHeader, InData, InPad, FormEnd, Broken, chunks_of, end_of}

-- the bytes ended too early
abbrev pub is_cut : FaultKind → Bool
is_cut Truncated = true
is_cut kind = false

-- where a file broke off after so many bytes, its cut is told as a failed reading, and has that place
abbrev pub broken_off : ℕ → Tail → Tail
broken_off arrived InHead = InHead
broken_off arrived (InHeader offset bytes) = InHeader offset bytes
broken_off arrived (InData chunk) = InData chunk
broken_off arrived (InPad offset is_last) = InPad offset is_last
broken_off arrived FormEnd = FormEnd
broken_off arrived (Broken kind offset) = if is_cut kind then Broken Read arrived else Broken kind offset

-- the end of a file after these complete chunks: an open file goes on, and one that has no more bytes is cut
abbrev pub closed : Mark → ℕ → List Chunk → Tail → Tail
closed Open arrived whole tail = tail
closed Whole arrived whole tail = end_of whole tail
closed library.Broken arrived whole tail = broken_off arrived (end_of whole tail)

-- the end of a file with these bytes
abbrev pub file_end : Mark → List ℕ → Tail
file_end mark bytes = closed mark (length bytes) (chunks_of bytes).whole (chunks_of bytes).tail

-- the end that a walker says of its file
abbrev pub tail_of : WalkEnd → Tail
tail_of walk_end.FormEnd = FormEnd
tail_of (walk_end.Broken kind offset) = Broken kind offset

-- where a file is said to end that can't be read on, by what is known of its end
abbrev pub broken_end : Mark → ℕ → FaultKind → ℕ → WalkEnd
broken_end Open arrived kind offset = walk_end.Broken kind offset
broken_end Whole arrived kind offset = walk_end.Broken kind offset
broken_end library.Broken arrived kind offset = if is_cut kind then walk_end.Broken Read arrived else walk_end.Broken kind offset

-- the end of a file that is said where its walker answers so, and nothing else any more
abbrev pub IsSaid : Mark → ℕ → WalkStep → WalkEnd → Type 0
IsSaid mark arrived step.FormEnd said = said ≡ walk_end.FormEnd
IsSaid mark arrived (step.Broken kind offset) said = said ≡ broken_end mark arrived kind offset
IsSaid mark arrived (step.Form kind size) said = ⊥
IsSaid mark arrived (step.Header id offset size) said = ⊥
IsSaid mark arrived step.Data said = ⊥
IsSaid mark arrived step.ChunkEnd said = ⊥
IsSaid mark arrived step.NeedBytes said = ⊥
