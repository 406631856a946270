-- The acts of a file in their order, and what stands behind the last one.
use Rattle.std.specs.Prelude.{ℕ, ◌+◌, true, false, List, [], ◌∷◌, ◌++◌, Option, Some, None}
use Rattle.djvu_base.specs.declared.faults.FaultKind.{FaultKind}
use Rattle.djvu_base.specs.Library.{Mark}
use Rattle.iff_chunks.specs.Chunks.{Form, Chunk, Chunks, Tail, InHead, InHeader, InData, InPad, FormEnd, Broken, chunks_of}
use Rattle.iff_chunks.specs.Ends.{file_end}
use Rattle.iw44_image.specs.Layer.{Data, data_of}
use Rattle.page_decoder.specs.Headers.{Head, head_of}

pub data Act : Type 0 where
  -- the FORM's kind is there
  Kind : List ℕ → Act
  -- the header of a chunk is there, and so are these data of it
  Reads : Head → Data → Act

pub data Close : Type 0 where
  -- more bytes may come
  Waits : Close
  -- the file can't be read on: why, and at which place
  Breaks : FaultKind → ℕ → Close
  -- the FORM has ended. Its first chunk may begin at this place
  Over : ℕ → Close

abbrev pub form_acts : Option Form → List Act
form_acts None = []
form_acts (Some form) = Kind form.kind ∷ []

abbrev pub complete_act : Chunk → Act
complete_act chunk = Reads (head_of chunk) (data_of chunk.bytes true)

abbrev pub open_act : Chunk → Act
open_act chunk = Reads (head_of chunk) (data_of chunk.bytes false)

abbrev pub complete_acts : List Chunk → List Act
complete_acts [] = []
complete_acts (chunk ∷ chunks) = complete_act chunk ∷ complete_acts chunks

abbrev pub tail_acts : Tail → List Act
tail_acts InHead = []
tail_acts (InHeader offset bytes) = []
tail_acts (InData chunk) = open_act chunk ∷ []
tail_acts (InPad offset is_last) = []
tail_acts FormEnd = []
tail_acts (Broken kind offset) = []

abbrev pub acts_of : Chunks → List Act
acts_of chunks = form_acts chunks.form ++ (complete_acts chunks.whole ++ tail_acts chunks.tail)

-- where the first chunk of a FORM may begin
abbrev pub origin_of : Option Form → ℕ
origin_of None = 0
origin_of (Some form) = form.offset + 12

abbrev pub close_of : ℕ → Tail → Close
close_of origin InHead = Waits
close_of origin (InHeader offset bytes) = Waits
close_of origin (InData chunk) = Waits
close_of origin (InPad offset is_last) = Waits
close_of origin FormEnd = Over origin
close_of origin (Broken kind offset) = Breaks kind offset

-- behind the acts of a file with these bytes, of whose end this is known
abbrev pub close_in : Mark → List ℕ → Close
close_in mark bytes = close_of (origin_of (chunks_of bytes).form) (file_end mark bytes)
