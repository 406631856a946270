-- An image behind the header of a chunk.
use Rattle.std.proofs.Common.{◌≡◌, ℕ, zero, suc, ◌+◌, ◌*◌, ◌^◌, ◌≤◌, Bool, true, false, List, [], ◌∷◌, length}
use Rattle.std.proofs.Common.{Option, Some, None, refl, ap, sym, ◌∙◌, subst, arith}
use Rattle.std.specs.Prelude.{IsSome, is_some, if◌then◌else◌, ◌==◌}
use Rattle.std.proofs.lemmas.Grind.{common_steps}
use Rattle.zp_table.specs.declared.rows.Row.{Row}
use Rattle.zp_table.specs.Rows.{IsTable}
use Rattle.zp_decoder.specs.Chunk.{Chunk, chunk}
use Rattle.zp_decoder.specs.Decision.{Interval}
use Rattle.zp_decoder.specs.Decoder.{Decoder, Fed, is_all}
use Rattle.iw44_slices.specs.Slice.{slice_course}
use Rattle.iw44_blocks.specs.Plane.{zero_plane}
use Rattle.iw44_slices.specs.declared.steps.SliceStep.{SliceStep}
use Rattle.iw44_slices.specs.declared.steps.SliceStep.TheVariants as step
use Rattle.iw44_image.specs.declared.headers.Header.{Header}
use Rattle.iw44_image.specs.declared.planes.Channel.TheVariants.{Y}
use Rattle.iw44_image.specs.declared.planes.PlaneReaders.{PlaneReaders}
use Rattle.iw44_image.specs.declared.steps.IwStep.TheVariants.{Sized}
use Rattle.iw44_image.specs.declared.steps.Stage.{Stage}
use Rattle.iw44_image.specs.declared.steps.Stage.TheVariants as stage
use Rattle.iw44_image.specs.Header.{Opening, Opened, open_chunk}
use Rattle.iw44_image.specs.Layer.{Task, Layer, LayerReading, tasks, task_reading, with_header, layer_after, after_slice, chunk_end, read_tasks, read_opened}
use Rattle.iw44_image.specs.Starting.{HasArea}
use Rattle.iw44_image.specs.Image.{Image, Frame, header_in, layer_in, planes_in, is_whole, reading_in, Begun, ArePlaced, InSlice, InRest, InHeader, AreNextAt}
use Rattle.iw44_image.specs.Image.{frame_by, image_by, HoldsAt, HasSize}
use Rattle.iw44_image.specs.Keeping.{ArePlanesSound, IsInHeader, IsInSlice, IsAt, IsKept, first_stage}
use Rattle.iw44_image.proofs.Beginning.{opened_alike, told_stays}
use Rattle.iw44_image.proofs.Checking.{any_checked}
use Rattle.iw44_image.proofs.Choosing.{told_all}

-- the reading of a chunk, by how its header opens
pub header_reads : (frame : Frame) (layer : Layer) (bytes left : List ℕ) (decisions : ℕ) (planes : Option PlaneReaders) (opening : Opening) →
    InHeader frame layer bytes decisions planes left → open_chunk frame.limit frame.chunks frame.header left (is_whole frame.to_come) ≡ opening →
    reading_in frame bytes layer ≡ read_opened frame.table (is_whole frame.to_come) opening (layer_in frame planes decisions)
header_reads frame layer bytes left decisions planes opening here is =
    ap (λ (l : Layer). reading_in frame bytes l) here.layer_is
    ∙ ap (λ (b : List ℕ). reading_in frame b (layer_in frame planes decisions)) (sym here.left_is)
    ∙ ap (λ (o : Opening). read_opened frame.table (is_whole frame.to_come) o (layer_in frame planes decisions))
    (any_checked frame.header (open_chunk frame.limit frame.chunks frame.header left (is_whole frame.to_come)) ∙ is)

-- slices keep the header
end_header : (ended : Bool) (slices : ℕ) (layer : Layer) → (chunk_end ended slices layer).layer.header ≡ layer.header
end_header true slices layer = refl
end_header false slices layer = refl

after_header : (answer : SliceStep) (layer : Layer) (place : Option Interval) (rest : Layer → Option Interval → LayerReading) →
    (rest layer place).layer.header ≡ layer.header → (after_slice answer layer place rest).layer.header ≡ layer.header
after_header step.SliceEnd layer place rest keeps = keeps
after_header step.NeedBytes layer place rest keeps = refl
after_header step.Exhausted layer place rest keeps = refl

pub tasks_header : (from : Chunk) (slices : ℕ) (all : List Task) (layer : Layer) (place : Option Interval) →
    (read_tasks from slices all layer place).layer.header ≡ layer.header
tasks_header from slices [] layer place = end_header from.ended slices layer
tasks_header from slices (next ∷ later) layer place =
    after_header (task_reading from next layer place).answer (layer_after layer next.channel (task_reading from next layer place))
    (task_reading from next layer place).at.place (λ after at. read_tasks from slices later after at)
    (tasks_header from slices later (layer_after layer next.channel (task_reading from next layer place)) (task_reading from next layer place).at.place)

-- ---- before the first slice

pub not_none : (n : ℕ) → (suc n == 0) ≡ false
not_none n = grind (arith, common_steps)

next_placed : (header : Header) (slice : ℕ) (planes : Option PlaneReaders) → AreNextAt header slice planes →
    ArePlaced header Y slice (slice_course slice (planes_in header planes).y.plane) planes
next_placed header slice None first = (refl, (first, ap (λ (n : ℕ). slice_course n (zero_plane header.width header.height)) first))
next_placed header slice (Some planes) next = next

first_holds : (frame : Frame) (layer : Layer) (bytes left : List ℕ) (decisions count : ℕ) (planes : Option PlaneReaders) (zp : Decoder) →
    Begun frame layer bytes count left → with_header layer.header layer (header_in frame) ≡ layer_in frame planes decisions →
    layer.slices ≡ frame.slices → Fed [] None zp → zp.ended ≡ is_all left (is_whole frame.to_come) → AreNextAt (header_in frame) frame.slices planes →
    HoldsAt (first_stage count) frame layer bytes decisions planes zp left
first_holds frame layer bytes left decisions zero planes zp begun is slices fed told placed =
    let rests : InRest frame layer bytes decisions planes zp 0 = record {
      taken = [];
      rest = left;
      begun = begun;
      fits = told_all left zp.ended (is_whole frame.to_come) told;
      placed = let e : frame.slices ≡ frame.slices + 0 = omega arith in subst (λ (n : ℕ). AreNextAt (header_in frame) n planes) e placed;
      goes = λ more ended fits. ap (λ (l : Layer). chunk_end ended 0 l) is;
    } in
    rests
first_holds frame layer bytes left decisions (suc later) planes zp begun is slices fed told placed =
    let here : InSlice frame layer bytes decisions planes zp left Y 0 (suc later) = record {
      taken = [];
      place = None;
      course = slice_course frame.slices (planes_in (header_in frame) planes).y.plane;
      slice = frame.slices;
      later = later;
      begun = begun;
      fed = fed;
      slice_is = omega arith;
      count_is = omega arith;
      placed = next_placed (header_in frame) frame.slices planes placed;
      goes = λ more ended fits.
          ap (λ (l : Layer). read_tasks (chunk frame.table more ended) (suc later) (tasks (header_in frame) (suc later) layer.slices) l None) is
          ∙ ap (λ (n : ℕ). read_tasks (chunk frame.table more ended) (suc later) (tasks (header_in frame) (suc later) n)
          (layer_in frame planes decisions) None) slices;
    } in
    subst (λ (t : Bool). HoldsAt (if t then stage.Rest 0 else stage.Slice Y 0 (suc later)) frame layer bytes decisions planes zp left)
    (sym (not_none later)) here

-- ---- behind the header

-- before a header no plane is there, and none moves
opened_by : (limit : ℕ) (known : Option Header) (to_come : Option ℕ) (chunks slices decisions count : ℕ) (header : Header) (bytes rest : List ℕ)
    (planes : Option PlaneReaders) (table : List Row) (layer : Layer) (zp : Decoder) (rows : ℕ) →
    layer ≡ layer_in (frame_by table limit known to_come chunks slices) planes decisions →
    ((ended : Bool) → open_chunk limit chunks known bytes ended ≡ Opened header count rest) → ArePlanesSound rows known planes →
    AreNextAt (header_in (frame_by table limit known to_come chunks slices)) slices planes →
    Fed [] None zp → zp.ended ≡ is_all rest (is_whole to_come) →
    HoldsAt (first_stage count) (frame_by table limit (Some header) to_come chunks slices)
    layer bytes decisions planes zp rest
opened_by limit None to_come chunks slices decisions count header bytes rest (Some planes) table layer zp rows is opened sound next fed told = absurd sound
opened_by limit None to_come chunks slices decisions count header bytes rest None table layer zp rows is opened sound next fed told =
    let old : Frame = frame_by table limit None to_come chunks slices in
    let frame : Frame = frame_by table limit (Some header) to_come chunks slices in
    subst (λ (l : Layer). HoldsAt (first_stage count) frame l bytes decisions None zp rest) (sym is)
    (first_holds frame (layer_in old None decisions) bytes rest decisions count None zp (record { known = refl; opened = opened }) refl refl fed told next)
opened_by limit (Some first) to_come chunks slices decisions count header bytes rest planes table layer zp rows is opened sound next fed told =
    let frame : Frame = frame_by table limit (Some first) to_come chunks slices in
    let same : header ≡ first = told_stays limit chunks (Some first) first bytes true header count rest refl (opened true) in
    subst (λ (h : Header). HoldsAt (first_stage count) (frame_by table limit (Some h) to_come chunks slices)
    layer bytes decisions planes zp rest) (sym same)
    (subst (λ (l : Layer). HoldsAt (first_stage count) frame l bytes decisions planes zp rest) (sym is)
    (first_holds frame (layer_in frame planes decisions) bytes rest decisions count planes zp
    (record { known = refl; opened = λ ended. opened ended ∙ ap (λ (h : Header). Opened h count rest) same }) refl refl fed told next))

pub opened_holds : (old : Frame) (table : List Row) (header : Header) (layer : Layer) (bytes left rest : List ℕ) (decisions count rows : ℕ)
    (planes : Option PlaneReaders) (zp : Decoder) →
    InHeader old layer bytes decisions planes left → ArePlanesSound rows old.header planes →
    open_chunk old.limit old.chunks old.header left (is_whole old.to_come) ≡ Opened header count rest →
    Fed [] None zp → zp.ended ≡ is_all rest (is_whole old.to_come) →
    HoldsAt (first_stage count) (frame_by table old.limit (Some header) old.to_come old.chunks old.slices)
    layer bytes decisions planes zp rest
opened_holds old table header layer bytes left rest decisions count rows planes zp here sound is fed told =
    opened_by old.limit old.header old.to_come old.chunks old.slices decisions count header bytes rest planes table layer zp rows here.layer_is
    (λ ended. opened_alike old.limit old.chunks old.header bytes (is_whole old.to_come) ended header count rest
    (subst (λ (b : List ℕ). open_chunk old.limit old.chunks old.header b (is_whole old.to_come) ≡ Opened header count rest) here.left_is is))
    sound here.placed fed told

-- where the size is told, the reading knows it
pub opened_header : (frame : Frame) (layer : Layer) (bytes left rest : List ℕ) (decisions count : ℕ) (planes : Option PlaneReaders) (header : Header) →
    InHeader frame layer bytes decisions planes left → frame.header ≡ None →
    open_chunk frame.limit frame.chunks frame.header left (is_whole frame.to_come) ≡ Opened header count rest →
    Some header ≡ (reading_in frame bytes layer).layer.header
opened_header frame layer bytes left rest decisions count planes header here none is =
    let whole : Bool = is_whole frame.to_come in
    let it : Layer = layer_in frame planes decisions in
    let told : (with_header frame.header it header).header ≡ Some header =
    subst (λ (o : Option Header). (with_header o it header).header ≡ Some header) (sym none) refl in
    sym (ap (λ (r : LayerReading). r.layer.header) (header_reads frame layer bytes left decisions planes (Opened header count rest) here is)
    ∙ tasks_header (chunk frame.table rest whole) count (tasks header count frame.slices) (with_header frame.header it header) None ∙ told)

-- ---- what stays true of the image

first_at : (count : ℕ) (limit : ℕ) (header : Option Header) (to_come : Option ℕ) (planes : Option PlaneReaders) (zp : Decoder) (left : List ℕ)
    (chunks slices : ℕ) (now : Stage) →
    IsSome header → chunks ≤ 255 → slices ≤ 255 * chunks → zp.ended ≡ is_all left (is_whole to_come) →
    IsAt (first_stage count) (image_by limit header to_come planes zp left chunks slices now)
first_at zero limit header to_come planes zp left chunks slices now known few done told = record { known = known; chunks = few; slices = done }
first_at (suc count) limit header to_come planes zp left chunks slices now known few done told =
    let im : Image = image_by limit header to_come planes zp left chunks slices now in
    let here : IsInSlice im Y 0 (suc count) = record { known = known; chunks = few; slices = done; some = omega arith; told = told; channel_fits = tt } in
    subst (λ (t : Bool). IsAt (if t then stage.Rest 0 else stage.Slice Y 0 (suc count)) im) (sym (not_none count)) here

-- the planes, once the header is known
planes_told : (rows limit : ℕ) (known : Option Header) (header : Header) (planes : Option PlaneReaders) → limit ≤ 2 ^ 24 →
    (known ≡ None → HasArea limit header) → known ≡ None →
    ArePlanesSound rows known planes → ArePlanesSound rows (Some header) planes × (planes ≡ None)
planes_told rows limit None header (Some planes) low area none sound = absurd sound
planes_told rows limit None header None low area none sound =
    let fits = area refl in (record { some = fits.some; most = omega (arith, fits.most, low) }, refl)
planes_told rows limit (Some first) header planes low area none sound = absurd (let wrong : Some first ≡ None = none in cc)

pub first_planes : (old : Image) (header : Header) → IsKept old → (old.header ≡ None → HasArea old.limit header) → old.header ≡ None →
    ArePlanesSound (length old.zp.table) (Some header) old.planes × (old.planes ≡ None)
first_planes old header kept area none = planes_told (length old.zp.table) old.limit old.header header old.planes kept.limit area none kept.planes

still_open : (to_come : Option ℕ) → IsSome to_come → to_come ≡ None → ⊥
still_open None running none = let wrong : false ≡ true = running in cc
still_open (Some left) running none = let wrong : Some left ≡ None = none in cc

pub first_kept : (old : Image) (header : Option Header) (planes : Option PlaneReaders) (zp : Decoder) (left : List ℕ) (count : ℕ) (now : Stage) →
    IsKept old → old.stage ≡ stage.Header → IsSome old.to_come → old.chunks ≤ 255 → IsSome header → zp.table ≡ old.zp.table →
    ArePlanesSound (length old.zp.table) header planes → zp.ended ≡ is_all left (is_whole old.to_come) → now ≡ first_stage count →
    IsKept (image_by old.limit header old.to_come planes zp left old.chunks old.slices now)
first_kept old header planes zp left count now kept at running few known table sound told is =
    let before : IsInHeader old = subst (λ (s : Stage). IsAt s old) at kept.at in
    record {
      table = subst IsTable (sym table) kept.table;
      limit = kept.limit;
      planes = subst (λ (t : List Row). ArePlanesSound (length t) header planes) (sym table) sound;
      at = subst (λ (s : Stage). IsAt s (image_by old.limit header old.to_come planes zp left old.chunks old.slices now))
          (sym is) (first_at count old.limit header old.to_come planes zp left old.chunks old.slices now known few before.slices told);
      closed = λ none. absurd (still_open old.to_come running none);
    }

pub no_header : (known : Option Header) → is_some known ≡ false → known ≡ None
no_header None none = refl
no_header (Some header) none = absurd (let wrong : true ≡ false = none in cc)

-- the size is that of the header
pub size_told : (known : Option Header) (header : Header) (width height : ℕ) → known ≡ None →
    Some (Sized header.width header.height) ≡ Some (Sized width height) → HasSize width height known (Some header)
size_told known header width height none is = record { first = none; header = header; known = refl; width_is = cc; height_is = cc }
