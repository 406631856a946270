-- What the data of a chunk come to.
use Rattle.std.specs.Prelude.{ℕ, ◌-◌, List, [], ◌∷◌, ◌++◌, length, Option, Some, None, is_some, nat_le, slice_get, unwrap_or, if◌then◌else◌}
use Rattle.djvu_base.specs.declared.faults.FaultKind.{FaultKind}
use Rattle.djvu_base.specs.declared.faults.FaultKind.TheVariants as fault
use Rattle.djvu_base.specs.Picture.{Picture}
use Rattle.djvu_base.specs.Turn.{turn_of}
use Rattle.zp_table.specs.declared.rows.Row.{Row}
use Rattle.zp_decoder.specs.Chunk.{chunk}
use Rattle.bit_plane.specs.Pixels.{Pixels}
use Rattle.include_graph.specs.Included.{include_name}
use Rattle.jb2_records.specs.declared.purpose.Purpose.{Purpose}
use Rattle.jb2_records.specs.declared.purpose.Purpose.TheVariants as purpose
use Rattle.jb2_records.specs.declared.reader.Jb2Step.{Jb2Step}
use Rattle.jb2_records.specs.declared.reader.Jb2Step.TheVariants as records
use Rattle.jb2_records.specs.Reading as jb2
use Rattle.jb2_records.specs.Mask.{mask_drawn, library_left}
use Rattle.iw44_image.specs.Layer.{Data, Layer, Answer, LayerReading, Allowed, header_or, read_layer}
use Rattle.iw44_image.specs.Layer as iw44
use Rattle.iw44_image.specs.Samples.{components_of, picture}
use Rattle.layer_compose.specs.declared.layers.Layers.{Layers}
use Rattle.layer_compose.specs.Reduction.{reduction_of}
use Rattle.page_decoder.specs.Reading.{size_in, size_fault, blank_page, with_mask}
use Rattle.page_decoder.specs.Kinds.{ChunkKind, kind_of}
use Rattle.page_decoder.specs.Kinds as kind
use Rattle.page_decoder.specs.Headers.{Head}
use Rattle.page_decoder.specs.PageRead.{Decoded, in_force}

-- the most pixels of a background, and of a foreground
abbrev pub back_limit : ℕ
back_limit = 16_777_216

abbrev pub front_limit : ℕ
front_limit = 1_048_576

pub data Outcome : Type 0 where
  -- the chunk is complete, and leaves this
  Leaves : Decoded → Outcome
  -- its data aren't all there
  Unfinished : Outcome
  -- the file is refused
  Fails : FaultKind → Outcome

-- what data come to, and how many decisions they determine
pub record Came : Type 0 where
  pub outcome : Outcome
  pub decisions : ℕ

-- without a decision
abbrev pub plainly : Outcome → Came
plainly outcome = record { outcome = outcome; decisions = 0 }

-- nothing is left by a chunk whose data aren't all there
abbrev pub once_complete : Data → Decoded → Outcome
once_complete given decoded = if given.ended then Leaves decoded else Unfinished

abbrev pub with_layers : Layers → Decoded → Decoded
with_layers layers decoded = record decoded { layers = Some layers }

-- ---- the page's size

-- a page on which nothing is laid. The tenth byte of an INFO has the flags, which turn the page
abbrev pub page_of : List ℕ → Layers
page_of bytes = record (blank_page (size_in bytes)) { turn = turn_of (slice_get bytes 9) }

abbrev pub sized : Option FaultKind → Data → Decoded → Outcome
sized (Some kind) given decoded = Fails kind
sized None given decoded = once_complete given (with_layers (page_of given.bytes) decoded)

-- a size is judged once its four bytes are there
abbrev pub info_outcome : Data → Decoded → Outcome
info_outcome given decoded = if nat_le 4 (length given.bytes) then sized (size_fault (size_in given.bytes)) given decoded else Unfinished

-- ---- the name of an included file

-- an include with this name, whose chunk begins there, is to be resolved
abbrev pub with_include : List ℕ → ℕ → Decoded → Decoded
with_include name offset decoded = record decoded { pending = decoded.pending ++ record { name = name; offset = offset } ∷ [] }

-- an include by the name that its data hold, and where its chunk begins
abbrev pub named : Option (List ℕ) → ℕ → Decoded → Outcome
named None offset decoded = Fails fault.BadIncludeName
named (Some name) offset decoded = Leaves (with_include name offset decoded)

-- a name is judged once all data are there
abbrev pub include_outcome : Data → ℕ → Decoded → Outcome
include_outcome given offset decoded = if given.ended then named (include_name given.bytes) offset decoded else Unfinished

-- ---- shapes

-- the records of a chunk, over the dictionary in force
abbrev pub records_in : List Row → Purpose → Data → Decoded → jb2.Input
records_in table purpose given decoded = record {
  chunk = chunk table given.bytes given.ended;
  inherited = unwrap_or (in_force decoded) [];
  purpose = purpose;
}

-- the answer of the records of a chunk, which leaves this once it is complete
abbrev pub records_outcome : Jb2Step → Data → Decoded → Outcome
records_outcome records.Finished given decoded = once_complete given decoded
records_outcome records.NeedBytes given decoded = Unfinished
records_outcome (records.Refused kind) given decoded = Fails kind
records_outcome records.OutOfMemory given decoded = Unfinished

abbrev pub records_came : jb2.Input → Data → Decoded → Came
records_came input given decoded = record {
  outcome = records_outcome (jb2.records_of input).answer given decoded;
  decisions = (jb2.records_of input).decisions;
}

abbrev pub with_dictionary : List Pixels → Decoded → Decoded
with_dictionary shapes decoded = record decoded { own = Some shapes }

abbrev pub dictionary_by : jb2.Input → Data → Decoded → Came
dictionary_by input given decoded = records_came input given (with_dictionary (library_left input) decoded)

abbrev pub dictionary_came : List Row → Data → Decoded → Came
dictionary_came table given decoded = dictionary_by (records_in table purpose.Dictionary given decoded) given decoded

abbrev pub mask_by : Layers → jb2.Input → Data → Decoded → Came
mask_by layers input given decoded = records_came input given (with_layers (with_mask layers (mask_drawn layers.width layers.height input)) decoded)

-- a mask has the page's size, which stands before it
abbrev pub mask_came : Option Layers → List Row → Data → Decoded → Came
mask_came None table given decoded = plainly Unfinished
mask_came (Some layers) table given decoded = mask_by layers (records_in table (purpose.Mask layers.width layers.height) given decoded) given decoded

-- ---- layers of colour

-- a layer of at most so many pixels lies on a page of this size by a reduction. No decision is read before its size is judged
abbrev pub allowed_by : ℕ × ℕ → ℕ → Allowed
allowed_by page limit = record { area = limit; fits = λ width height. is_some (reduction_of page (width, height)) }

abbrev pub allowed_on : Layers → ℕ → Allowed
allowed_on layers limit = allowed_by (layers.width, layers.height) limit

-- the picture of what was read of a layer
abbrev pub picture_in : Layer → Picture
picture_in layer = picture (header_or layer.header) (components_of layer.planes)

abbrev pub layer_outcome : Answer → Data → Decoded → Outcome
layer_outcome iw44.Done given decoded = once_complete given decoded
layer_outcome iw44.Need given decoded = Unfinished
layer_outcome (iw44.Fault kind) given decoded = Fails kind

-- a layer that was read so far, which had so many decisions before this chunk, and leaves this with its picture
abbrev pub layer_by : LayerReading → ℕ → Data → (Picture → Decoded) → Came
layer_by read before given leaves = record {
  outcome = layer_outcome read.answer given (leaves (picture_in read.layer));
  decisions = read.layer.decisions - before;
}

abbrev pub with_front : Layers → Decoded → Picture → Decoded
with_front layers decoded picture = with_layers (record layers { front = Some picture }) decoded

-- a foreground is one chunk
abbrev pub front_came : Option Layers → List Row → Data → Decoded → Came
front_came None table given decoded = plainly Unfinished
front_came (Some layers) table given decoded =
    layer_by (read_layer table (allowed_on layers front_limit) (given ∷ [])) 0 given (with_front layers decoded)

abbrev pub with_back : Layers → Data → Decoded → Picture → Decoded
with_back layers given decoded picture = record decoded { layers = Some (record layers { back = Some picture }); back = decoded.back ++ given ∷ [] }

-- the background so far, and with this chunk
abbrev pub back_before : Layers → List Row → Decoded → LayerReading
back_before layers table decoded = read_layer table (allowed_on layers back_limit) decoded.back

abbrev pub back_with : Layers → List Row → Data → Decoded → LayerReading
back_with layers table given decoded = read_layer table (allowed_on layers back_limit) (decoded.back ++ given ∷ [])

-- a background goes on with each of its chunks
abbrev pub back_came : Option Layers → List Row → Data → Decoded → Came
back_came None table given decoded = plainly Unfinished
back_came (Some layers) table given decoded =
    layer_by (back_with layers table given decoded) (back_before layers table decoded).layer.decisions given (with_back layers given decoded)

-- ---- by the kind of the chunk

abbrev pub came_by : ChunkKind → List Row → Data → ℕ → Decoded → Came
came_by kind.Info table given offset decoded = plainly (info_outcome given decoded)
came_by kind.Include table given offset decoded = plainly (include_outcome given offset decoded)
came_by kind.Dictionary table given offset decoded = dictionary_came table given decoded
came_by kind.Mask table given offset decoded = mask_came decoded.layers table given decoded
came_by kind.Front table given offset decoded = front_came decoded.layers table given decoded
came_by kind.Back table given offset decoded = back_came decoded.layers table given decoded
came_by kind.Refused table given offset decoded = plainly (once_complete given decoded)
came_by kind.Passed table given offset decoded = plainly (once_complete given decoded)

-- the data of a chunk without a fault in its header, with a state table, behind chunks that left this
abbrev pub came : List Row → Head → Data → Decoded → Came
came table head given decoded = came_by (kind_of head.id) table given head.offset decoded
