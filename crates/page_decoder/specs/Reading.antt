-- The reading of a page with a mask at most, in a short form: which drawings it has, where it ends, and how many decisions its
-- chunks have. `Read` has pages with every kind of chunk; law `plain_pages` says that both are the same for the pages that `Plain` covers.
use Rattle.std.specs.Prelude.{ℕ, zero, suc, Bool, true, false, not, ◌+◌, ◌*◌, ◌&&◌, ◌||◌, ◌==◌, List, [], ◌∷◌, length, drop, Option, Some, None, is_some, codes, bytes_eq, nat_lt, nat_le, if◌then◌else◌}
use Rattle.byteorder.specs.Endian.{big_number}
use Rattle.djvu_base.specs.declared.faults.FaultKind.{FaultKind}
use Rattle.djvu_base.specs.declared.faults.FaultKind.TheVariants as fault
use Rattle.djvu_base.specs.Library.{Mark}
use Rattle.djvu_base.specs.Name.{is_listed}
use Rattle.iff_chunks.specs.Start.{Start, Begins, Arriving, Differs, start_of}
use Rattle.iff_chunks.specs.Chunks.{Form, Chunk, Chunks, Tail, magic, chunks_of}
use Rattle.iff_chunks.specs.Chunks.{InHead, InHeader, InData, InPad, FormEnd}
use Rattle.iff_chunks.specs.Chunks as grammar
use Rattle.iff_chunks.specs.Ends.{closed}
use Rattle.iff_chunks.specs.Refused.{refused_ids}
use Rattle.zp_table.specs.declared.rows.Row.{Row}
use Rattle.bit_plane.specs.Pixels.{Pixels, area_limit}
use Rattle.zp_decoder.specs.Chunk.{chunk}
use Rattle.jb2_records.specs.declared.reader.Jb2Step.{Jb2Step}
use Rattle.jb2_records.specs.declared.reader.Jb2Step.TheVariants as answer
use Rattle.jb2_records.specs.declared.purpose.Purpose.TheVariants as purpose
use Rattle.jb2_records.specs.Reading as jb2
use Rattle.jb2_records.specs.Mask.{mask_drawn}
use Rattle.djvu_base.specs.declared.turns.Turn.TheVariants.{Upright}
use Rattle.layer_compose.specs.declared.layers.Layers.{Layers}
use Rattle.page_decoder.specs.declared.page.Size.{Size}

-- a drawing: after how many chunks of the page, and of which layers
pub record Notice : Type 0 where
  pub chunks : ℕ
  pub layers : Layers

-- where the reading stands
pub data Ending : Type 0 where
  -- behind the last chunk
  Finished : Ending
  -- at the first fault: what is wrong, and at which place
  Fault : FaultKind → ℕ → Ending
  -- at the end of the bytes, and more may come
  NeedBytes : Ending

pub record Reading : Type 0 where
  pub notices : List Notice
  pub end : Ending
  -- those of the chunks that were read, a chunk that is cut among them as far as its bytes determine them
  pub decisions : ℕ

-- a FORM's kind: a page, a kind that isn't drawn, or another one
abbrev pub other_kinds : List (List ℕ)
other_kinds = codes "DJVM" ∷ codes "PM44" ∷ codes "BM44" ∷ codes "THUM" ∷ []

abbrev pub kind_fault : List ℕ → Option FaultKind
kind_fault kind =
    if bytes_eq kind (codes "DJVU") then None
    else if is_listed other_kinds kind then Some fault.Unsupported
    else Some fault.WrongForm

-- chunks that aren't read here
abbrev pub unread_ids : List (List ℕ)
unread_ids = codes "INCL" ∷ codes "Djbz" ∷ codes "FG44" ∷ codes "BG44" ∷ []

abbrev pub is_info : List ℕ → Bool
is_info id = bytes_eq id (codes "INFO")

abbrev pub is_mask : List ℕ → Bool
is_mask id = bytes_eq id (codes "Sjbz")

-- what is wrong with a chunk by its header, of the page's first chunk or of a later one, where the page has a mask or not
abbrev pub header_fault : Bool → Bool → List ℕ → ℕ → Option FaultKind
header_fault is_first has_mask id size =
    if is_first && not (is_info id) then Some fault.NoInfo
    else if not is_first && is_info id then Some fault.SecondInfo
    else if is_listed refused_ids id || is_listed unread_ids id then Some fault.Unsupported
    else if is_mask id && has_mask then Some fault.SecondMask
    else if is_info id && nat_lt size 5 then Some fault.BadInfo
    else None

-- an INFO holds width and height first, two bytes each, the higher byte first
abbrev pub size_in : List ℕ → Size
size_in bytes = record { width = big_number 2 bytes; height = big_number 2 (drop 2 bytes) }

abbrev pub size_fault : Size → Option FaultKind
size_fault size =
    if size.width == 0 || size.height == 0 then Some fault.BadInfo
    else if nat_lt area_limit (size.width * size.height) then Some fault.TooLarge
    else None

-- a page of this size on which nothing is laid
abbrev pub blank_page : Size → Layers
blank_page size = record { width = size.width; height = size.height; turn = Upright; mask = None; front = None; back = None }

abbrev pub with_mask : Layers → Pixels → Layers
with_mask layers mask = record layers { mask = Some mask }

abbrev pub mask_in : Option Layers → Option Pixels
mask_in None = None
mask_in (Some layers) = layers.mask

-- what the data of a chunk come to: what is wrong, the layers that the page has once the chunk is done, and the decisions
pub record Came : Type 0 where
  pub fault : Option FaultKind
  pub layers : Option Layers
  pub decisions : ℕ

abbrev pub nothing_came : Option Layers → Came
nothing_came layers = record { fault = None; layers = layers; decisions = 0 }

abbrev pub size_came : Option Layers → Option FaultKind → Size → Came
size_came layers (Some kind) size = record { fault = Some kind; layers = layers; decisions = 0 }
size_came layers None size = record { fault = None; layers = Some (blank_page size); decisions = 0 }

-- a size is judged once its four bytes are there
abbrev pub info_came : Option Layers → List ℕ → Came
info_came layers bytes =
    if nat_le 4 (length bytes) then size_came layers (size_fault (size_in bytes)) (size_in bytes) else nothing_came layers

-- the records of a mask of the page's size, after these bytes of its chunk, which are all of it or not. No shapes are
-- inherited
abbrev pub mask_input : List Row → List ℕ → Bool → Layers → jb2.Input
mask_input rows bytes ended layers = record {
  chunk = chunk rows bytes ended;
  inherited = [];
  purpose = purpose.Mask layers.width layers.height;
}

-- a mask that has ended is laid on the page, whatever bytes of its chunk are left
abbrev pub mask_by : Jb2Step → Layers → Pixels → ℕ → Came
mask_by answer.Finished layers mask decisions = record { fault = None; layers = Some (with_mask layers mask); decisions = decisions }
mask_by answer.NeedBytes layers mask decisions = record { fault = None; layers = Some layers; decisions = decisions }
mask_by (answer.Refused kind) layers mask decisions = record { fault = Some kind; layers = Some layers; decisions = decisions }
mask_by answer.OutOfMemory layers mask decisions = record { fault = None; layers = Some layers; decisions = decisions }

abbrev pub mask_from : jb2.Input → Layers → Came
mask_from input layers = mask_by (jb2.records_of input).answer layers (mask_drawn layers.width layers.height input) (jb2.records_of input).decisions

-- no mask stands before the page's size: a page's first chunk is its INFO
abbrev pub mask_came : List Row → Bool → Option Layers → List ℕ → Came
mask_came rows ended None bytes = nothing_came None
mask_came rows ended (Some layers) bytes = mask_from (mask_input rows bytes ended layers) layers

abbrev pub data_came : List Row → Bool → Option Layers → List ℕ → List ℕ → Came
data_came rows ended layers id bytes =
    if is_info id then info_came layers bytes
    else if is_mask id then mask_came rows ended layers bytes
    else nothing_came layers

abbrev pub came_by : Option FaultKind → List Row → Bool → Option Layers → List ℕ → List ℕ → Came
came_by (Some kind) rows ended layers id bytes = record { fault = Some kind; layers = layers; decisions = 0 }
came_by None rows ended layers id bytes = data_came rows ended layers id bytes

-- a chunk of a page with these layers, the first one or a later one, of which these bytes arrived, all of it or not
abbrev pub came : List Row → Bool → Bool → Option Layers → Chunk → Came
came rows is_first ended layers chunk =
    came_by (header_fault is_first (is_some (mask_in layers)) chunk.id chunk.size) rows ended layers chunk.id chunk.bytes

-- a chunk of these brings a drawing with its end
abbrev pub is_drawn : List ℕ → Bool
is_drawn id = is_info id || is_mask id

abbrev pub notice_by : Bool → ℕ → Option Layers → List Notice → List Notice
notice_by false chunks layers notices = notices
notice_by true chunks None notices = notices
notice_by true chunks (Some layers) notices = record { chunks = chunks; layers = layers } ∷ notices

-- in front of the reading of the chunks behind it
abbrev pub with_chunk : Chunk → ℕ → Came → Reading → Reading
with_chunk chunk chunks came rest = record {
  notices = notice_by (is_drawn chunk.id) chunks came.layers rest.notices;
  end = rest.end;
  decisions = came.decisions + rest.decisions;
}

abbrev pub stopped : FaultKind → ℕ → ℕ → Reading
stopped kind offset decisions = record { notices = []; end = Fault kind offset; decisions = decisions }

-- a chunk that makes so many, and what is read behind it
abbrev pub after_chunk : Option FaultKind → Chunk → ℕ → Came → (Option Layers → Reading) → Reading
after_chunk (Some kind) chunk chunks came rest = stopped kind chunk.offset came.decisions
after_chunk None chunk chunks came rest = with_chunk chunk chunks came (rest came.layers)

abbrev pub after_came : Came → Chunk → ℕ → (Option Layers → Reading) → Reading
after_came came chunk chunks rest = after_chunk came.fault chunk chunks came rest

-- the whole chunks of a page behind so many of them, which left these layers, and then the rest
abbrev pub read_chunks : List Row → ℕ → Option Layers → List Chunk → (ℕ → Option Layers → Reading) → Reading
read_chunks rows done layers [] rest = rest done layers
read_chunks rows done layers (chunk ∷ chunks) rest =
    after_came (came rows (done == 0) true layers chunk) chunk (suc done) (λ next. read_chunks rows (suc done) next chunks rest)

-- where a page stands that is read up to the end of its file, or up to the end of the bytes
abbrev pub ending_of : Tail → Ending
ending_of InHead = NeedBytes
ending_of (InHeader offset bytes) = NeedBytes
ending_of (InData chunk) = NeedBytes
ending_of (InPad offset is_last) = NeedBytes
ending_of FormEnd = Finished
ending_of (grammar.Broken kind offset) = Fault kind offset

-- the end of a page without a chunk, at the FORM's end
abbrev pub without_chunks : ℕ → Ending → Ending
without_chunks place Finished = Fault fault.NoInfo place
without_chunks place (Fault kind offset) = Fault kind offset
without_chunks place NeedBytes = NeedBytes

abbrev pub ends : Ending → ℕ → Reading
ends end decisions = record { notices = []; end = end; decisions = decisions }

-- a chunk that is cut is read as far as its bytes go, and a fault in it comes before the cut
abbrev pub cut_by : Option FaultKind → ℕ → Ending → ℕ → Reading
cut_by (Some kind) offset end decisions = stopped kind offset decisions
cut_by None offset end decisions = ends end decisions

abbrev pub cut_chunk : Came → ℕ → Ending → Reading
cut_chunk came offset end = cut_by came.fault offset end came.decisions

abbrev pub at_end : ℕ → ℕ → Ending → Ending
at_end zero place end = without_chunks place end
at_end (suc done) place end = end

-- behind so many whole chunks; a page without one has this place
abbrev pub read_tail : List Row → ℕ → Tail → Ending → ℕ → Option Layers → Reading
read_tail rows place InHead end done layers = ends (at_end done place end) 0
read_tail rows place (InHeader offset bytes) end done layers = ends (at_end done place end) 0
read_tail rows place (InData chunk) end done layers = cut_chunk (came rows (done == 0) false layers chunk) chunk.offset end
read_tail rows place (InPad offset is_last) end done layers = ends (at_end done place end) 0
read_tail rows place FormEnd end done layers = ends (at_end done place end) 0
read_tail rows place (grammar.Broken kind offset) end done layers = ends (at_end done place end) 0

-- where the FORM stands in a file
abbrev pub place_of : Start → ℕ
place_of (Begins bytes) = 4
place_of Arriving = 0
place_of Differs = 0

-- where the first chunk of a file may begin; a FORM without a chunk ends there
abbrev pub chunks_place : List ℕ → ℕ
chunks_place bytes = place_of (start_of magic bytes) + 12

abbrev pub read_page : Option FaultKind → List Row → ℕ → List Chunk → Tail → Ending → Reading
read_page (Some kind) rows place whole tail end = stopped kind 0 0
read_page None rows place whole tail end = read_chunks rows 0 None whole (read_tail rows place tail end)

abbrev pub read_form : Option Form → List Row → ℕ → List Chunk → Tail → Ending → Reading
read_form None rows place whole tail end = ends end 0
read_form (Some form) rows place whole tail end = read_page (kind_fault form.kind) rows place whole tail end

abbrev pub reading_by : List Row → Mark → ℕ → ℕ → Chunks → Reading
reading_by rows mark place arrived chunks =
    read_form chunks.form rows place chunks.whole chunks.tail (ending_of (closed mark arrived chunks.whole chunks.tail))

-- the reading of a page with these bytes, with a state table, and by what is known of the bytes' end
abbrev pub reading : List Row → Mark → List ℕ → Reading
reading rows mark bytes = reading_by rows mark (chunks_place bytes) (length bytes) (chunks_of bytes)
