-- The size that the reading of a chunk has told.
use Rattle.std.proofs.Common.{◌≡◌, ℕ, Bool, true, false, List, Option, Some, None, refl, ap, sym, ◌∙◌, subst}
use Rattle.djvu_base.specs.declared.faults.FaultKind.TheVariants as fault
use Rattle.zp_table.specs.declared.rows.Row.{Row}
use Rattle.zp_decoder.specs.Chunk.{chunk}
use Rattle.iw44_image.specs.declared.headers.Header.{Header}
use Rattle.iw44_image.specs.Header.{Opening, Short, Wrong, Opened}
use Rattle.iw44_image.specs.Layer.{Allowed, Data, any_size, opening_of, Layer, Fault, ends, tasks, with_header, read_opened, read_chunk}
use Rattle.iw44_image.proofs.Checking.{refused_first, taken_first, short_same, wrong_same}
use Rattle.iw44_image.proofs.Headed.{tasks_header}

-- a header that was there
record Told (it : Opening) (header : Header) : Type 0 where
  slices : ℕ
  zp : List ℕ
  opened : it ≡ Opened header slices zp

header_of_first : (table : List Row) (ended : Bool) (layer : Layer) (header : Header) (slices : ℕ) (zp : List ℕ) → layer.header ≡ None →
    (read_opened table ended (Opened header slices zp) layer).layer.header ≡ Some header
header_of_first table ended layer header slices zp none =
    let first : (with_header layer.header layer header).header ≡ Some header =
    subst (λ (o : Option Header). (with_header o layer header).header ≡ Some header) (sym none) refl in
    tasks_header (chunk table zp ended) slices (tasks header slices layer.slices) (with_header layer.header layer header) None ∙ first

told_by : (table : List Row) (ended : Bool) (it : Opening) (layer : Layer) (header : Header) → layer.header ≡ None →
    (read_opened table ended it layer).layer.header ≡ Some header → Told it header
told_by table ended Short layer header none is = absurd (let wrong : None ≡ Some header = sym none ∙ is in cc)
told_by table ended (Wrong kind) layer header none is = absurd (let wrong : None ≡ Some header = sym none ∙ is in cc)
told_by table ended (Opened first slices zp) layer header none is =
    let some : Some first ≡ Some header = sym (header_of_first table ended layer first slices zp none) ∙ is in
    let same : first ≡ header = cc in
    record { slices = slices; zp = zp; opened = ap (λ (h : Header). Opened h slices zp) same }

pub told_taken : (table : List Row) (allowed : Allowed) (given : Data) (layer : Layer) (header : Header) → layer.header ≡ None →
    (read_chunk table (any_size allowed.area) given layer).layer.header ≡ Some header → allowed.fits header.width header.height ≡ true →
    read_chunk table allowed given layer ≡ read_chunk table (any_size allowed.area) given layer
told_taken table allowed given layer header none is fits =
    let told = told_by table given.ended (opening_of (any_size allowed.area) given layer) layer header none is in
    taken_first table allowed given layer header told.slices told.zp told.opened fits

pub told_refused : (table : List Row) (allowed : Allowed) (given : Data) (layer : Layer) (header : Header) → layer.header ≡ None →
    (read_chunk table (any_size allowed.area) given layer).layer.header ≡ Some header → allowed.fits header.width header.height ≡ false →
    read_chunk table allowed given layer ≡ ends (Fault fault.LayerSize) layer
told_refused table allowed given layer header none is over =
    let told = told_by table given.ended (opening_of (any_size allowed.area) given layer) layer header none is in
    refused_first table allowed given layer header told.slices told.zp none told.opened over

untold_by : (table : List Row) (allowed : Allowed) (given : Data) (layer : Layer) (it : Opening) → opening_of (any_size allowed.area) given layer ≡ it →
    layer.header ≡ None → (read_opened table given.ended it layer).layer.header ≡ None →
    read_chunk table allowed given layer ≡ read_chunk table (any_size allowed.area) given layer
untold_by table allowed given layer Short is none untold = short_same table allowed given layer is
untold_by table allowed given layer (Wrong kind) is none untold = wrong_same table allowed given layer kind is
untold_by table allowed given layer (Opened first slices zp) is none untold =
    absurd (let wrong : Some first ≡ None = sym (header_of_first table given.ended layer first slices zp none) ∙ untold in cc)

pub untold_same : (table : List Row) (allowed : Allowed) (given : Data) (layer : Layer) → layer.header ≡ None →
    (read_chunk table (any_size allowed.area) given layer).layer.header ≡ None →
    read_chunk table allowed given layer ≡ read_chunk table (any_size allowed.area) given layer
untold_same table allowed given layer none untold =
    untold_by table allowed given layer (opening_of (any_size allowed.area) given layer) refl none untold
