-- What contracts see of the reader of a layer of colour, and how it stands to the chunks of its layer.
use Rattle.std.specs.Prelude.{◌≡◌, ◌≢◌, ℕ, ◌-◌, ◌≤◌, List, [], ◌∷◌, ◌++◌, Option, Some, None, is_some, ⊤, IsSome, true}
use Rattle.djvu_base.specs.Meter.{TicksExactly}
use Rattle.iw44_image.specs.declared.headers.Header.{Header}
use Rattle.iw44_image.specs.Layer.{Data, LayerReading, Answer, data_of, read_layer}
use Rattle.iw44_image.specs.Layer as iw44
use Rattle.iw44_image.specs.Image.{Image, Holds, is_whole, picture_of}
use Rattle.layer_compose.specs.Reduction.{reduction_of}
use Rattle.page_decoder.specs.declared.layer_reader.LayerStep.{LayerStep}
use Rattle.page_decoder.specs.declared.layer_reader.LayerStep.TheVariants as step
use Rattle.page_decoder.specs.ChunkData.{allowed_by, picture_in}

-- the image of the layer, the page's width and height, and the decisions of the chunk at hand
pub record LayerState : Type 0 where
  pub image : Image
  pub page : ℕ × ℕ
  pub decisions : ℕ

-- what some chunks of the layer come to
abbrev pub reading_of : LayerState → List Data → LayerReading
reading_of it chunks = read_layer it.image.zp.table (allowed_by it.page it.image.limit) chunks

-- the open chunk, of which these bytes came
abbrev pub open_data : LayerState → List ℕ → Data
open_data it bytes = data_of bytes (is_whole it.image.to_come)

-- what they come to with it
abbrev pub reading_with : LayerState → List Data → List ℕ → LayerReading
reading_with it chunks bytes = reading_of it (chunks ++ open_data it bytes ∷ [])

-- the decisions of the open chunk that its bytes determine
abbrev pub decisions_with : LayerState → List Data → List ℕ → ℕ
decisions_with it chunks bytes = (reading_with it chunks bytes).layer.decisions - (reading_of it chunks).layer.decisions

-- a size that was told lies on the page
abbrev pub FitsPage : ℕ × ℕ → Option Header → Type 0
FitsPage page None = ⊤
FitsPage page (Some header) = is_some (reduction_of page (header.width, header.height)) ≡ true

-- these chunks of the layer were read, and none is open
pub record Rests (chunks : List Data) (it : LayerState) : Type 0 where
  pub done : (reading_of it chunks).answer ≡ iw44.Done
  pub known : (reading_of it chunks).layer.header ≡ it.image.header
  pub fits : FitsPage it.page it.image.header
  pub holds : Holds (reading_of it chunks).layer [] (reading_of it chunks).layer.decisions it.image

-- a header that earlier chunks told stays
abbrev pub StaysKnown : Option Header → Option Header → Type 0
StaysKnown None now = ⊤
StaysKnown (Some header) now = now ≡ Some header

-- these chunks of the layer were read, and of the open one behind them these bytes came, with so many decisions of the layer read
pub record Stands (total : ℕ) (chunks : List Data) (bytes : List ℕ) (it : LayerState) : Type 0 where
  pub done : (reading_of it chunks).answer ≡ iw44.Done
  pub known : StaysKnown (reading_of it chunks).layer.header it.image.header
  pub fits : FitsPage it.page it.image.header
  pub since : (reading_of it chunks).layer.decisions ≤ total
  pub within : total ≤ (reading_with it chunks bytes).layer.decisions
  pub holds : Holds (reading_of it chunks).layer bytes total it.image

pub record Lays (chunks : List Data) (bytes : List ℕ) (it : LayerState) : Type 0 where
  pub total : ℕ
  pub stands : Stands total chunks bytes it
  pub count : TicksExactly (total - (reading_of it chunks).layer.decisions) 0 it.decisions

-- an answer is the definition's. Behind a chunk that is done the image has the layer's picture
abbrev pub Answers : LayerStep → List Data → List ℕ → LayerState → LayerState → Type 0
Answers step.ChunkDone chunks bytes old new = ((reading_with old chunks bytes).answer ≡ iw44.Done)
    × (Rests (chunks ++ open_data old bytes ∷ []) new × (picture_in (reading_with old chunks bytes).layer ≡ picture_of new.image))
Answers step.NeedBytes chunks bytes old new = ((reading_with old chunks bytes).answer ≡ iw44.Need) × Lays chunks bytes new
Answers (step.Refused kind) chunks bytes old new = (reading_with old chunks bytes).answer ≡ iw44.Fault kind
Answers step.OutOfMemory chunks bytes old new = Lays chunks bytes new

-- what stays while a chunk is read, which is open until it is done, and then has all its data and a size
pub record KeepsOpen (result : LayerStep) (old new : LayerState) : Type 0 where
  pub whole : result ≡ step.ChunkDone → old.image.to_come ≡ Some 0
  pub closed : result ≡ step.ChunkDone → new.image.to_come ≡ None
  pub told : result ≡ step.ChunkDone → IsSome new.image.header
  pub still_open : result ≢ step.ChunkDone → new.image.to_come ≡ old.image.to_come
  pub table : new.image.zp.table ≡ old.image.zp.table
  pub limit : new.image.limit ≡ old.image.limit
  pub page : new.page ≡ old.page

-- ---- for the code's own functions

-- the definition's answer, after so many decisions of the layer
abbrev pub ReadsAll : ℕ → LayerReading → Answer → Type 0
ReadsAll now reading answer = (reading.answer ≡ answer) × (reading.layer.decisions ≡ now)

-- an answer, after which so many decisions of the layer were read
abbrev pub Reads : LayerStep → ℕ → List Data → List ℕ → LayerState → LayerState → Type 0
Reads step.ChunkDone now chunks bytes old new = ReadsAll now (reading_with old chunks bytes) iw44.Done
    × (Rests (chunks ++ open_data old bytes ∷ []) new × (picture_in (reading_with old chunks bytes).layer ≡ picture_of new.image))
Reads step.NeedBytes now chunks bytes old new = ReadsAll now (reading_with old chunks bytes) iw44.Need × Stands now chunks bytes new
Reads (step.Refused kind) now chunks bytes old new = ReadsAll now (reading_with old chunks bytes) (iw44.Fault kind)
Reads step.OutOfMemory now chunks bytes old new = Stands now chunks bytes new
