-- For the code's own functions: what is true of every image.
use Rattle.std.specs.Prelude.{◌≡◌, ◌≢◌, ℕ, ◌+◌, ◌-◌, ◌*◌, ◌^◌, ◌<◌, ◌≤◌, ◌==◌, nat_lt, if◌then◌else◌, Bool, true, List, ◌++◌, length, Option, Some, None, ⊤}
use Rattle.std.specs.Prelude.{IsSome}
use Rattle.zp_table.specs.Rows.{IsTable}
use Rattle.zp_decoder.specs.Decoder.{is_all}
use Rattle.iw44_image.specs.declared.headers.Header.{Header}
use Rattle.iw44_image.specs.declared.planes.Channel.{Channel}
use Rattle.iw44_image.specs.declared.planes.Channel.TheVariants.{Y, B, R}
use Rattle.iw44_image.specs.declared.planes.PlaneReaders.{PlaneReaders}
use Rattle.iw44_image.specs.declared.steps.Stage.{Stage}
use Rattle.iw44_image.specs.declared.steps.Stage.TheVariants as stage
use Rattle.djvu_base.specs.declared.faults.FaultKind.{FaultKind}
use Rattle.iw44_image.specs.declared.steps.IwStep.{IwStep}
use Rattle.iw44_image.specs.declared.steps.IwStep.TheVariants as step
use Rattle.iw44_image.specs.Starting.{HasArea}
use Rattle.iw44_image.specs.Layer.{has_chroma}
use Rattle.iw44_image.specs.Readers.{AreSound}
use Rattle.iw44_image.specs.Image.{Image, header_of, is_whole, refused, open_after, HasSize}

-- so many bytes may still come
abbrev pub HasRoom : ℕ → Option ℕ → Type 0
HasRoom count None = ⊥
HasRoom count (Some left) = count ≤ left

-- bytes are kept until all slices of a chunk were read, or it was refused
abbrev pub kept_at : Stage → List ℕ → List ℕ → List ℕ
kept_at stage.Header left piece = left ++ piece
kept_at (stage.Slice channel done count) left piece = left ++ piece
kept_at (stage.Rest count) left piece = left
kept_at (stage.Refused kind) left piece = left

-- planes are made once a header is known
abbrev pub AreMade : Option Header → Option PlaneReaders → Type 0
AreMade None planes = ⊤
AreMade (Some header) None = ⊥
AreMade (Some header) (Some planes) = ⊤

abbrev pub ArePlanesMade : Image → Type 0
ArePlanesMade image = AreMade image.header image.planes

abbrev pub ArePlanesSound : ℕ → Option Header → Option PlaneReaders → Type 0
ArePlanesSound count None None = ⊤
ArePlanesSound count None (Some planes) = ⊥
ArePlanesSound count (Some header) None = HasArea (2 ^ 24) header
ArePlanesSound count (Some header) (Some planes) = HasArea (2 ^ 24) header × AreSound count header planes

-- chroma has begun where one of its planes is at hand
abbrev pub ChannelFits : Header → Channel → ℕ → Type 0
ChannelFits header Y slice = ⊤
ChannelFits header B slice = has_chroma header slice ≡ true
ChannelFits header R slice = has_chroma header slice ≡ true

pub record IsInSlice (image : Image) (channel : Channel) (done count : ℕ) : Type 0 where
  pub known : IsSome image.header
  pub chunks : image.chunks ≤ 255
  pub slices : image.slices ≤ 255 * image.chunks
  pub some : done < count
  pub told : image.zp.ended ≡ is_all image.left (is_whole image.to_come)
  pub channel_fits : ChannelFits (header_of image) channel (image.slices + done)

pub record IsInRest (image : Image) (count : ℕ) : Type 0 where
  pub known : IsSome image.header
  pub chunks : image.chunks ≤ 255
  pub slices : image.slices ≤ 255 * image.chunks

pub record IsInHeader (image : Image) : Type 0 where
  pub chunks : image.chunks ≤ 256
  pub slices : image.slices ≤ 255 * image.chunks

abbrev pub IsAt : Stage → Image → Type 0
IsAt stage.Header image = IsInHeader image
IsAt (stage.Slice channel done count) image = IsInSlice image channel done count
IsAt (stage.Rest count) image = IsInRest image count
IsAt (stage.Refused kind) image = ⊤

pub record IsKept (image : Image) : Type 0 where
  pub table : IsTable image.zp.table
  pub limit : image.limit ≤ 2 ^ 24
  pub planes : ArePlanesSound (length image.zp.table) image.header image.planes
  pub at : IsAt image.stage image
  pub closed : image.to_come ≡ None → image.stage ≡ stage.Header

-- where a chunk goes on behind a slice of the image, and behind a slice of a plane
abbrev pub stage_behind : ℕ → ℕ → Stage
stage_behind done count = if nat_lt (done + 1) count then stage.Slice Y (done + 1) count else stage.Rest count

abbrev pub next_stage : Bool → Channel → ℕ → ℕ → Stage
next_stage chroma Y done count = if chroma then stage.Slice B done count else stage_behind done count
next_stage chroma B done count = stage.Slice R done count
next_stage chroma R done count = stage_behind done count

abbrev pub first_stage : ℕ → Stage
first_stage count = if count == 0 then stage.Rest 0 else stage.Slice Y 0 count

-- the slices of planes that are left of a chunk, at most
abbrev pub channel_number : Channel → ℕ
channel_number Y = 0
channel_number B = 1
channel_number R = 2

abbrev pub slices_left : Stage → ℕ
slices_left stage.Header = 0
slices_left (stage.Slice channel done count) = 3 * (count - done) - channel_number channel
slices_left (stage.Rest count) = 0
slices_left (stage.Refused kind) = 0

-- what is left to do: bytes, and slices
abbrev pub work : Image → ℕ
work image = 1000 * length image.left + slices_left image.stage

abbrev pub refused_after : Option IwStep → Option FaultKind
refused_after None = None
refused_after (Some (step.Sized width height)) = None
refused_after (Some step.ChunkDone) = None
refused_after (Some step.NeedBytes) = None
refused_after (Some (step.Refused kind)) = Some kind
refused_after (Some step.OutOfMemory) = None

abbrev pub open_behind : Option IwStep → Option ℕ → Option ℕ
open_behind None left = left
open_behind (Some answer) left = open_after answer left

-- what is true of each step, for which no memory is taken: a header that is known stays, and one comes with the size alone; a
-- chunk that is done has one, and all its data; without an answer less is left to do
pub record HasStepped (result : Option IwStep) (old new : Image) : Type 0 where
  pub to_come : new.to_come ≡ open_behind result old.to_come
  pub refusal : refused new ≡ refused_after result
  pub header : result ≡ None → new.header ≡ old.header
  pub keeps : IsSome old.header → new.header ≡ old.header
  pub same_header : ((width height : ℕ) → result ≢ Some (step.Sized width height)) → new.header ≡ old.header
  pub sized : (width height : ℕ) → result ≡ Some (step.Sized width height) → HasSize width height old.header new.header
  pub done : result ≡ Some step.ChunkDone → IsSome new.header
  pub whole : result ≡ Some step.ChunkDone → old.to_come ≡ Some 0
  pub made : result ≡ None → ArePlanesMade new
  pub less : result ≡ None → work new < work old
  pub memory : result ≢ Some step.OutOfMemory
  pub table : new.zp.table ≡ old.zp.table
  pub limit : new.limit ≡ old.limit
