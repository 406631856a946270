-- The chunks of a component file, by cases on all of its bytes.
use Rattle.std.specs.Prelude.{ℕ, Bool, ◌+◌, ◌-◌, ◌%◌, ◌&&◌, ◌==◌, zero, suc, List, [], ◌∷◌, length, take, drop, Option, Some, None, if◌then◌else◌, nat_lt, nat_le, codes}
use Rattle.std.specs.List.{list_all}
use Rattle.byteorder.specs.Endian.{big_number}
use Rattle.djvu_base.specs.declared.faults.FaultKind.{FaultKind}
use Rattle.djvu_base.specs.declared.faults.FaultKind.TheVariants.{Truncated, NotForm, TooLarge, ShortHeader, BadId, Overrun}
use Rattle.djvu_base.specs.Library.{file_limit}
use Rattle.iff_chunks.specs.Start.{Start, Begins, Arriving, Differs, start_of}

-- a FORM: its place in the file, its kind, and its length, which counts the kind and the chunks
pub record Form : Type 0 where
  pub offset : ℕ
  pub kind : List ℕ
  pub size : ℕ

-- a chunk: its identifier, the place of the identifier in the file, the length that its header gives, and its data
pub record Chunk : Type 0 where
  pub id : List ℕ
  pub offset : ℕ
  pub size : ℕ
  pub bytes : List ℕ

-- where the bytes end
pub data Tail : Type 0 where
  -- before the FORM's kind and length are there
  InHead : Tail
  -- before the header of the chunk at this place is there, of which these bytes arrived
  InHeader : ℕ → List ℕ → Tail
  -- within a chunk's data, of which these arrived
  InData : Chunk → Tail
  -- behind the data of the chunk at this place and before their pad byte, which is or isn't the last byte of the FORM
  InPad : ℕ → Bool → Tail
  -- behind the FORM
  FormEnd : Tail
  -- where they can't be read on: why, and at which place
  Broken : FaultKind → ℕ → Tail

-- what the bytes of a file are so far
pub record Chunks : Type 0 where
  pub form : Option Form
  pub whole : List Chunk
  pub tail : Tail

-- the chunks from a place of the FORM on
pub record Rest : Type 0 where
  pub whole : List Chunk
  pub tail : Tail

-- what stands behind a chunk's data: the bytes end in front of the pad byte, or a chunk may begin at this place, in front
-- of so many bytes of the FORM, of which these and what follows the FORM arrived
pub data Behind : Type 0 where
  Waits : Tail → Behind
  On : ℕ → ℕ → List ℕ → Behind

-- what is found where a chunk may begin: no whole chunk, or one and what stands behind it
pub data Found : Type 0 where
  Stops : Tail → Found
  Has : Chunk → Behind → Found

-- behind the pad byte, or in front of it
abbrev pub pad_at : ℕ → ℕ → ℕ → List ℕ → Behind
pad_at offset next left [] = Waits (InPad offset (left == 1))
pad_at offset next left (pad ∷ bytes) = On next (left - 1) bytes

-- data of odd length have a pad byte, unless the FORM ends before it
abbrev pub is_padded : ℕ → ℕ → Bool
is_padded size left = size % 2 == 1 && nat_lt 0 left

-- behind the data of a chunk, in front of so many bytes of the FORM
abbrev pub behind_data : ℕ → ℕ → ℕ → List ℕ → Behind
behind_data offset size left bytes = if is_padded size left then pad_at offset (offset + 9 + size) left bytes else On (offset + 8 + size) left bytes

abbrev pub data_at : List ℕ → ℕ → ℕ → ℕ → List ℕ → Found
data_at id offset size left bytes =
    if nat_lt (length bytes) size
    then Stops (InData (record { id = id; offset = offset; size = size; bytes = bytes }))
    else Has (record { id = id; offset = offset; size = size; bytes = take size bytes }) (behind_data offset size left (drop size bytes))

-- printable ASCII
abbrev pub is_id_byte : ℕ → Bool
is_id_byte byte = nat_le 0x20 byte && nat_le byte 0x7E

-- why a chunk with this identifier and length can't stand in front of so many bytes of the FORM
abbrev pub header_fault : List ℕ → ℕ → ℕ → Option FaultKind
header_fault id size left =
    if list_all is_id_byte id
    then (if nat_lt left size then Some Overrun else None)
    else Some BadId

-- behind a chunk's header, in front of so many bytes of the FORM
abbrev pub header_at : Option FaultKind → List ℕ → ℕ → ℕ → ℕ → List ℕ → Found
header_at (Some kind) id offset size left bytes = Stops (Broken kind offset)
header_at None id offset size left bytes = data_at id offset size (left - size) bytes

-- with all eight bytes of the header, in front of so many bytes of the FORM
abbrev pub whole_header : List ℕ → ℕ → ℕ → ℕ → List ℕ → Found
whole_header id offset size left bytes = header_at (header_fault id size left) id offset size left bytes

-- where a chunk may begin: at this place, in front of so many bytes of the FORM
abbrev pub found_at : ℕ → ℕ → List ℕ → Found
found_at offset left bytes =
    if left == 0 then Stops FormEnd
    else if nat_lt left 8 then Stops (Broken ShortHeader offset)
    else if nat_lt (length bytes) 8 then Stops (InHeader offset bytes)
    else whole_header (take 4 bytes) offset (big_number 4 (take 4 (drop 4 bytes))) (left - 8) (drop 8 bytes)

-- with what comes behind it, where this says what chunks there are from a place on
abbrev pub behind_so : (ℕ → ℕ → List ℕ → Rest) → Behind → Rest
behind_so next (Waits tail) = record { whole = []; tail = tail }
behind_so next (On offset left bytes) = next offset left bytes

abbrev pub found_so : (ℕ → ℕ → List ℕ → Rest) → Found → Rest
found_so next (Stops tail) = record { whole = []; tail = tail }
found_so next (Has chunk behind) = record { whole = chunk ∷ (behind_so next behind).whole; tail = (behind_so next behind).tail }

-- at most so many chunks, from this place on
abbrev pub chunks_from : ℕ → ℕ → ℕ → List ℕ → Rest
chunks_from zero offset left bytes = record { whole = []; tail = FormEnd }
chunks_from (suc most) offset left bytes = found_so (chunks_from most) (found_at offset left bytes)

-- all chunks from this place on: there are fewer of them than bytes of the FORM
abbrev pub rest_at : ℕ → ℕ → List ℕ → Rest
rest_at offset left bytes = chunks_from left offset left bytes

abbrev pub in_head : Chunks
in_head = record { form = None; whole = []; tail = InHead }

abbrev pub no_form : FaultKind → Chunks
no_form kind = record { form = None; whole = []; tail = Broken kind 0 }

abbrev pub in_form : Form → Rest → Chunks
in_form form rest = record { form = Some form; whole = rest.whole; tail = rest.tail }

-- behind the FORM's length, where the FORM is at this place
abbrev pub kind_at : ℕ → ℕ → List ℕ → Chunks
kind_at offset size bytes =
    if nat_lt (length bytes) 4
    then in_head
    else in_form (record { offset = offset; kind = take 4 bytes; size = size }) (rest_at (offset + 12) (size - 4) (drop 4 bytes))

-- a FORM's length has room for the kind, and the FORM ends within what is read of a file
abbrev pub length_fault : ℕ → ℕ → Option FaultKind
length_fault offset size =
    if nat_lt size 4 then Some NotForm
    else if nat_lt file_limit (offset + 8 + size) then Some TooLarge
    else None

abbrev pub size_at : Option FaultKind → ℕ → ℕ → List ℕ → Chunks
size_at (Some kind) offset size bytes = no_form kind
size_at None offset size bytes = kind_at offset size bytes

abbrev pub whole_length : ℕ → ℕ → List ℕ → Chunks
whole_length offset size bytes = size_at (length_fault offset size) offset size bytes

abbrev pub length_at : ℕ → List ℕ → Chunks
length_at offset bytes = if nat_lt (length bytes) 4 then in_head else whole_length offset (big_number 4 (take 4 bytes)) (drop 4 bytes)

-- what may stand at the very start
abbrev pub magic : List ℕ
magic = codes "AT&T"

abbrev pub form_word : List ℕ
form_word = codes "FORM"

-- the FORM at this place, by whether its word is there
abbrev pub form_at : ℕ → Start → Chunks
form_at offset (Begins bytes) = length_at offset bytes
form_at offset Arriving = in_head
form_at offset Differs = no_form NotForm

abbrev pub after_magic : Start → List ℕ → Chunks
after_magic (Begins rest) bytes = form_at 4 (start_of form_word rest)
after_magic Arriving bytes = in_head
after_magic Differs bytes = form_at 0 (start_of form_word bytes)

-- the bytes of a file so far
abbrev pub chunks_of : List ℕ → Chunks
chunks_of bytes = after_magic (start_of magic bytes) bytes

-- where the file has no more bytes than these: it is cut, but for a pad byte that would be the last byte of the FORM.
-- A cut has the place of the chunk that it stands in or before, and 0 where no byte of a chunk is there.
abbrev pub end_of : List Chunk → Tail → Tail
end_of whole InHead = Broken Truncated 0
end_of [] (InHeader offset []) = Broken Truncated 0
end_of [] (InHeader offset (byte ∷ bytes)) = Broken Truncated offset
end_of (chunk ∷ whole) (InHeader offset bytes) = Broken Truncated offset
end_of whole (InData chunk) = Broken Truncated chunk.offset
end_of whole (InPad offset is_last) = if is_last then FormEnd else Broken Truncated offset
end_of whole FormEnd = FormEnd
end_of whole (Broken kind offset) = Broken kind offset

-- all bytes of a file
abbrev pub chunks_in_all : List ℕ → Chunks
chunks_in_all bytes = record { form = (chunks_of bytes).form; whole = (chunks_of bytes).whole; tail = end_of (chunks_of bytes).whole (chunks_of bytes).tail }
