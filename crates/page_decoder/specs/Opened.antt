-- A chunk between its header and its end: how what is kept of it stands to the bytes of its data that came.
use Rattle.std.specs.Prelude.{◌≡◌, ◌≢◌, ℕ, ◌+◌, ◌-◌, ◌≤◌, true, false, List, [], length, take, Option, Some, None, ⊤, ◌⊎◌, unwrap_or, IfSome}
use Rattle.djvu_base.specs.Announced.{Announced}
use Rattle.djvu_base.specs.Meter.{ticked, TicksExactly}
use Rattle.djvu_base.specs.declared.faults.FaultKind.TheVariants as fault
use Rattle.zp_table.specs.declared.rows.Row.{Row}
use Rattle.zp_table.specs.Rows.{IsTable}
use Rattle.jb2_records.specs.declared.purpose.Purpose.{Purpose}
use Rattle.jb2_records.specs.declared.purpose.Purpose.TheVariants as purpose
use Rattle.jb2_records.specs.declared.reader.Jb2Step.{Jb2Step}
use Rattle.jb2_records.specs.declared.reader.Jb2Step.TheVariants as records
use Rattle.jb2_records.specs.ReaderState.{ReaderState, Fed, input_of}
use Rattle.jb2_records.specs.Mask.{library_left}
use Rattle.bit_plane.specs.Pixels.{Pixels}
use Rattle.include_graph.specs.Included.{include_name}
use Rattle.iw44_image.specs.Layer.{Data}
use Rattle.iw44_image.specs.Layer as iw44
use Rattle.layer_compose.specs.declared.layers.Layers.{Layers}
use Rattle.layer_compose.specs.Drawing.{ColourFits, sum_of, preview_of}
use Rattle.page_decoder.specs.declared.open_chunks.ChunkReader.{ChunkReader}
use Rattle.page_decoder.specs.declared.open_chunks.ChunkReader.TheVariants as reader
use Rattle.page_decoder.specs.declared.open_chunks.OpenStep.{OpenStep}
use Rattle.page_decoder.specs.declared.open_chunks.OpenStep.TheVariants as step
use Rattle.page_decoder.specs.declared.closing.Closed.{Closed}
use Rattle.page_decoder.specs.declared.closing.ChunkCame.{ChunkCame}
use Rattle.page_decoder.specs.declared.closing.ChunkCame.TheVariants as came
use Rattle.page_decoder.specs.declared.page_layers.PageLayer.{PageLayer}
use Rattle.page_decoder.specs.declared.page_layers.PageLayer.TheVariants as layer
use Rattle.page_decoder.specs.Kinds.{ChunkKind, kind_of, brings_drawing}
use Rattle.page_decoder.specs.Kinds as kind
use Rattle.page_decoder.specs.Headers.{Head}
use Rattle.page_decoder.specs.PageRead.{Decoded, in_force}
use Rattle.page_decoder.specs.ChunkData.{Came, Outcome, Leaves, Unfinished, Fails, back_limit, front_limit, with_include}
use Rattle.page_decoder.specs.LayerState.{LayerState, Lays, reading_with}
use Rattle.page_decoder.specs.Kept.{Keeping, Background, Keeps}

-- how many bytes of the chunk are still to come, and what reads its data
pub record OpenState : Type 0 where
  pub to_come : ℕ
  pub reads : ChunkReader

-- the decisions of its data that were read
abbrev pub decisions_by : ChunkReader → ℕ
decisions_by reader.Passed = 0
decisions_by (reader.Info bytes) = 0
decisions_by (reader.Name bytes) = 0
decisions_by (reader.Dictionary it) = it.decisions
decisions_by (reader.Mask it) = it.decisions
decisions_by (reader.Front it) = it.decisions
decisions_by (reader.Back it) = it.decisions

abbrev pub decisions_of : OpenState → ℕ
decisions_of it = decisions_by it.reads

-- a chunk that leaves nothing
abbrev pub IsPassed : ChunkKind → Type 0
IsPassed of = (of ≡ kind.Passed) ⊎ (of ≡ kind.Refused)

-- the first ten bytes of an INFO, of which these bytes came
pub record ReadsInfo (of : ChunkKind) (decoded : Decoded) (bytes first : List ℕ) (to_come : ℕ) : Type 0 where
  pub is_kind : of ≡ kind.Info
  pub enough : 5 ≤ length bytes + to_come
  pub sizeless : decoded.layers ≡ None
  pub first_are : first ≡ take 10 bytes

-- the name of an include, of which these bytes came
pub record ReadsName (of : ChunkKind) (bytes name : List ℕ) : Type 0 where
  pub is_kind : of ≡ kind.Include
  pub name_is : name ≡ bytes

-- the records of a chunk, over the dictionary in force
pub record ReadsRecords (purpose : Purpose) (table : List Row) (decoded : Decoded) (bytes : List ℕ) (it : ReaderState) : Type 0 where
  pub rows : IsTable table
  pub table_is : it.source.table ≡ table
  pub inherited_is : it.source.inherited ≡ unwrap_or (in_force decoded) []
  pub purpose_is : it.source.purpose ≡ purpose
  pub open_end : it.ended ≡ false
  pub fed : Fed bytes it

pub record ReadsDictionary (of : ChunkKind) (table : List Row) (decoded : Decoded) (bytes : List ℕ) (it : ReaderState) : Type 0 where
  pub is_kind : of ≡ kind.Dictionary
  pub records : ReadsRecords purpose.Dictionary table decoded bytes it

-- a mask of the page's size
pub record ReadsMask (of : ChunkKind) (table : List Row) (decoded : Decoded) (bytes : List ℕ) (it : ReaderState) : Type 0 where
  pub is_kind : of ≡ kind.Mask
  pub layers : Layers
  pub sized : decoded.layers ≡ Some layers
  pub records : ReadsRecords (purpose.Mask layers.width layers.height) table decoded bytes it

-- a chunk of this kind behind these chunks of its layer
pub record ReadsLayer (wanted of : ChunkKind) (limit : ℕ) (chunks : List Data) (table : List Row) (decoded : Decoded) (bytes : List ℕ) (to_come : ℕ)
    (it : LayerState) : Type 0 where
  pub is_kind : of ≡ wanted
  pub layers : Layers
  pub sized : decoded.layers ≡ Some layers
  pub table_is : it.image.zp.table ≡ table
  pub limit_is : it.image.limit ≡ limit
  pub page_is : it.page ≡ (layers.width, layers.height)
  pub to_come_is : it.image.to_come ≡ Some to_come
  pub lays : Lays chunks bytes it

abbrev pub ReadsOn : ChunkReader → ChunkKind → List Row → Decoded → List ℕ → ℕ → Type 0
ReadsOn reader.Passed of table decoded bytes to_come = IsPassed of
ReadsOn (reader.Info first) of table decoded bytes to_come = ReadsInfo of decoded bytes first.items to_come
ReadsOn (reader.Name name) of table decoded bytes to_come = ReadsName of bytes name.items
ReadsOn (reader.Dictionary it) of table decoded bytes to_come = ReadsDictionary of table decoded bytes it
ReadsOn (reader.Mask it) of table decoded bytes to_come = ReadsMask of table decoded bytes it
ReadsOn (reader.Front it) of table decoded bytes to_come = ReadsLayer kind.Front of front_limit [] table decoded bytes to_come it
ReadsOn (reader.Back it) of table decoded bytes to_come = ReadsLayer kind.Back of back_limit decoded.back table decoded bytes to_come it

-- while a chunk of the background is open, its reader is there
abbrev pub Stays : ChunkReader → List Row → Decoded → Keeping → Type 0
Stays (reader.Back it) table decoded kept = ⊤
Stays other table decoded kept = Background table decoded.layers decoded.back kept.back

-- behind chunks that left this, a chunk with this header is open, of which these bytes came
pub record Opens (table : List Row) (head : Head) (decoded : Decoded) (bytes : List ℕ) (kept : Keeping) (it : OpenState) : Type 0 where
  pub layers_are : kept.layers ≡ decoded.layers
  pub own_is : kept.own ≡ decoded.own
  pub background : Stays it.reads table decoded kept
  pub count : length bytes + it.to_come ≡ head.size
  pub reads : ReadsOn it.reads (kind_of head.id) table decoded bytes it.to_come

-- none of the data of the chunk with this header came
abbrev pub Begins : ChunkReader → List Row → Head → Decoded → Keeping → Type 0
Begins reads table head decoded kept = ReadsOn reads (kind_of head.id) table decoded [] head.size × Stays reads table decoded kept

-- ---- answers

-- of a chunk whose data aren't all there
abbrev pub Answers : OpenStep → Outcome → Type 0
Answers step.NeedBytes outcome = outcome ≡ Unfinished
Answers (step.Refused kind) outcome = outcome ≡ Fails kind
Answers step.OutOfMemory outcome = ⊤

-- an answer is what the data come to, and so many decisions were read; they are at most the definition's, whatever is answered
pub record AdvancesTo (result : OpenStep) (it : Came) (decisions : ℕ) : Type 0 where
  pub answers : Answers result it.outcome
  pub all : result ≢ step.OutOfMemory → TicksExactly it.decisions 0 decisions
  pub at_most : decisions ≤ ticked it.decisions 0

-- what is told of the drawing of these layers, behind so many chunks of the page
abbrev pub announced : ℕ → Layers → Announced
announced chunks layers = record { chunks = chunks; sum = sum_of layers; preview = preview_of layers }

-- the chunk leaves what is kept now, and brings a drawing
pub record Draws (notice : Announced) (chunks : ℕ) (table : List Row) (head : Head) (outcome : Outcome) (kept : Keeping) : Type 0 where
  pub decoded : Decoded
  pub layers : Layers
  pub leaves : outcome ≡ Leaves decoded
  pub keeps : Keeps table decoded kept
  pub sized : decoded.layers ≡ Some layers
  pub notice_is : notice ≡ announced chunks layers
  pub brings : brings_drawing (kind_of head.id) ≡ true

-- the chunk leaves what is kept now, and brings none
pub record LeavesKept (table : List Row) (head : Head) (outcome : Outcome) (kept : Keeping) : Type 0 where
  pub decoded : Decoded
  pub leaves : outcome ≡ Leaves decoded
  pub keeps : Keeps table decoded kept
  pub brings : brings_drawing (kind_of head.id) ≡ false
  pub others : kind_of head.id ≢ kind.Include

-- the chunk holds the name of a file
pub record LeavesInclude (name : List ℕ) (table : List Row) (head : Head) (before : Decoded) (outcome : Outcome) (kept : Keeping) : Type 0 where
  pub leaves : outcome ≡ Leaves (with_include name head.offset before)
  pub keeps : Keeps table before kept
  pub is_kind : kind_of head.id ≡ kind.Include

-- of a complete chunk behind chunks that left this, with which the page has so many chunks
abbrev pub Closes : ChunkCame → ℕ → List Row → Head → Decoded → Outcome → Keeping → Type 0
Closes (came.Drew notice) chunks table head before outcome kept = Draws notice chunks table head outcome kept
Closes came.Left chunks table head before outcome kept = LeavesKept table head outcome kept
Closes (came.Include name) chunks table head before outcome kept = LeavesInclude name table head before outcome kept
Closes (came.Refused kind) chunks table head before outcome kept = outcome ≡ Fails kind
Closes came.OutOfMemory chunks table head before outcome kept = ⊤

-- an answer is what the complete data come to, and so many decisions were read; they are at most the definition's, whatever is answered
pub record ClosesTo (result : Closed) (chunks : ℕ) (table : List Row) (head : Head) (before : Decoded) (it : Came) (kept : Keeping) : Type 0 where
  pub closes : Closes result.came chunks table head before it.outcome kept
  pub all : result.came ≢ came.OutOfMemory → TicksExactly it.decisions 0 result.decisions
  pub at_most : result.decisions ≤ ticked it.decisions 0

-- decisions rose to so many, and a meter with them
pub record CountsOn (before after : ℕ) (old new : ℕ) : Type 0 where
  pub more : before ≤ after
  pub ticks : TicksExactly (after - before) old new

-- where no drawing came, the page's layers stay
abbrev pub LayersStay : ChunkCame → Option Layers → Option Layers → Type 0
LayersStay (came.Drew notice) old new = ⊤
LayersStay came.Left old new = new ≡ old
LayersStay (came.Include name) old new = new ≡ old
LayersStay (came.Refused kind) old new = new ≡ old
LayersStay came.OutOfMemory old new = new ≡ old

-- ---- for the code's own functions

-- the data of a chunk can go on, of which so many bytes are to come
abbrev pub IsRunning : ℕ → ChunkReader → Type 0
IsRunning to_come reader.Passed = ⊤
IsRunning to_come (reader.Info first) = ⊤
IsRunning to_come (reader.Name name) = ⊤
IsRunning to_come (reader.Dictionary it) = it.ended ≡ false
IsRunning to_come (reader.Mask it) = it.ended ≡ false
IsRunning to_come (reader.Front it) = it.image.to_come ≡ Some to_come
IsRunning to_come (reader.Back it) = it.image.to_come ≡ Some to_come

-- so many bytes of a chunk are to come, with room for some more
pub record HasRoomFor (count : ℕ) (it : ChunkReader) : Type 0 where
  pub to_come : ℕ
  pub running : IsRunning to_come it
  pub room : count ≤ to_come

-- the background's reader stays in its chunk
abbrev pub StaysWith : ChunkReader → ChunkReader → Type 0
StaysWith old new = (table : List Row) (decoded : Decoded) (kept : Keeping) → Stays old table decoded kept → Stays new table decoded kept

-- a layer of the page, or none in its place
abbrev pub with_layer : PageLayer → Layers → Layers
with_layer (layer.Mask mask) layers = record layers { mask = mask }
with_layer (layer.Front front) layers = record layers { front = front }
with_layer (layer.Back back) layers = record layers { back = back }

-- it can be drawn on the page
abbrev pub FitsOn : Layers → PageLayer → Type 0
FitsOn layers (layer.Mask mask) = IfSome mask (λ it. (it.width ≡ layers.width) × (it.height ≡ layers.height))
FitsOn layers (layer.Front front) = ColourFits layers front
FitsOn layers (layer.Back back) = ColourFits layers back

-- where it was laid, the page has it, and its drawing was told; else the page stays, and where the layer fits it isn't refused
abbrev pub HasLaid : PageLayer → ℕ → ChunkCame → Option Layers → Option Layers → Type 0
HasLaid it chunks (came.Drew notice) old new = (layers : Layers) × ((old ≡ Some layers) × ((new ≡ Some (with_layer it layers))
    × (notice ≡ announced chunks (with_layer it layers))))
HasLaid it chunks came.Left old new = ⊥
HasLaid it chunks (came.Include name) old new = ⊥
HasLaid it chunks (came.Refused kind) old new = (new ≡ old) × ((layers : Layers) → old ≡ Some layers → FitsOn layers it → ⊥)
HasLaid it chunks came.OutOfMemory old new = new ≡ old

-- the page without a layer
abbrev pub HasPage : Layers → ℕ → ChunkCame → Option Layers → Option Layers → Type 0
HasPage layers chunks (came.Drew notice) old new = (new ≡ Some layers) × (notice ≡ announced chunks layers)
HasPage layers chunks came.Left old new = ⊥
HasPage layers chunks (came.Include name) old new = ⊥
HasPage layers chunks (came.Refused kind) old new = ⊥
HasPage layers chunks came.OutOfMemory old new = new ≡ old

-- what a reader of a dictionary brought
abbrev pub HasDictionary : ReaderState → ChunkCame → Keeping → Keeping → Type 0
HasDictionary it (came.Drew notice) old new = ⊥
HasDictionary it came.Left old new = (shapes : List Pixels) × ((new ≡ record old { own = Some shapes })
    × ((payload : List ℕ) → Fed payload it → shapes ≡ library_left (input_of it payload)))
HasDictionary it (came.Include name) old new = ⊥
HasDictionary it (came.Refused kind) old new = ⊥
HasDictionary it came.OutOfMemory old new = new ≡ old

-- what these bytes of an include hold
abbrev pub NameCame : ChunkCame → List ℕ → Type 0
NameCame (came.Drew notice) bytes = ⊥
NameCame came.Left bytes = ⊥
NameCame (came.Include name) bytes = include_name bytes ≡ Some name
NameCame (came.Refused kind) bytes = (include_name bytes ≡ None) × (kind ≡ fault.BadIncludeName)
NameCame came.OutOfMemory bytes = ⊤

-- all but the page's layers stays
pub record StaysBeside (old new : Keeping) : Type 0 where
  pub own : new.own ≡ old.own
  pub back : new.back ≡ old.back

-- the answer of records, behind which more bytes may come
abbrev pub records_step : Jb2Step → OpenStep
records_step records.Finished = step.NeedBytes
records_step records.NeedBytes = step.NeedBytes
records_step (records.Refused kind) = step.Refused kind
records_step records.OutOfMemory = step.OutOfMemory

-- the answer of a layer of whose chunk more bytes are to come
abbrev pub LayerAnswers : OpenStep → List Data → List ℕ → LayerState → LayerState → Type 0
LayerAnswers step.NeedBytes chunks bytes old new = ((reading_with old chunks bytes).answer ≡ iw44.Need) × Lays chunks bytes new
LayerAnswers (step.Refused kind) chunks bytes old new = (reading_with old chunks bytes).answer ≡ iw44.Fault kind
LayerAnswers step.OutOfMemory chunks bytes old new = ⊤
