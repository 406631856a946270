-- Headers of the chunks of a layer.
use Rattle.std.specs.Prelude.{ℕ, zero, suc, ◌+◌, ◌*◌, ◌%◌, ◌==◌, Bool, false, not, ◌&&◌, ◌||◌, nat_le, nat_lt, if◌then◌else◌, List, [], ◌∷◌}
use Rattle.std.specs.Prelude.{Option, Some, None}
use Rattle.djvu_base.specs.declared.faults.FaultKind.{FaultKind}
use Rattle.djvu_base.specs.declared.faults.FaultKind.TheVariants as fault
use Rattle.iw44_image.specs.declared.headers.Header.{Header}

-- the start of a chunk's data: more of them must come; or the chunk is refused; or the header is there, and then so many
-- slices and the ZP data so far
pub data Opening : Type 0 where
  Short : Opening
  Wrong : FaultKind → Opening
  Opened : Header → ℕ → List ℕ → Opening

-- data that end inside the header are refused once all are there
abbrev pub missing : Bool → Opening
missing ended = if ended then Wrong fault.IwHeader else Short

-- the sizes are checked after the last byte of the header
abbrev pub sized : ℕ → Header → ℕ → List ℕ → Opening
sized limit header slices zp =
    if (header.width == 0) || (header.height == 0) then Wrong fault.IwHeader
    else if nat_lt limit (header.width * header.height) then Wrong fault.TooLarge
    else Opened header slices zp

abbrev pub is_grey : ℕ → Bool
is_grey major = nat_le 128 major

-- before minor version 2 chroma is full and begins at once
abbrev pub plain_header : ℕ → ℕ → ℕ → Header
plain_header major width height = record { width = width; height = height; grey = is_grey major; half = false; delay = 0 }

abbrev pub header_by : ℕ → ℕ → ℕ → ℕ → Header
header_by major width height last =
    record { width = width; height = height; grey = is_grey major; half = not (nat_le 128 last); delay = last % 128 }

-- the last byte of a header is there from minor version 2 on
abbrev pub after_sizes : ℕ → ℕ → ℕ → ℕ → ℕ → ℕ → List ℕ → Bool → Opening
after_sizes limit slices major zero width height zp ended = sized limit (plain_header major width height) slices zp
after_sizes limit slices major (suc zero) width height zp ended = sized limit (plain_header major width height) slices zp
after_sizes limit slices major (suc (suc minor)) width height [] ended = missing ended
after_sizes limit slices major (suc (suc minor)) width height (last ∷ zp) ended = sized limit (header_by major width height last) slices zp

-- width and height, of two bytes each, the higher first
abbrev pub read_sizes : ℕ → ℕ → ℕ → ℕ → List ℕ → Bool → Opening
read_sizes limit slices major minor [] ended = missing ended
read_sizes limit slices major minor (a ∷ []) ended = missing ended
read_sizes limit slices major minor (a ∷ b ∷ []) ended = missing ended
read_sizes limit slices major minor (a ∷ b ∷ c ∷ []) ended = missing ended
read_sizes limit slices major minor (a ∷ b ∷ c ∷ d ∷ later) ended = after_sizes limit slices major minor (256 * a + b) (256 * c + d) later ended

-- the version is checked once both of its bytes are there
abbrev pub read_version : ℕ → ℕ → List ℕ → Bool → Opening
read_version limit slices [] ended = missing ended
read_version limit slices (major ∷ []) ended = missing ended
read_version limit slices (major ∷ minor ∷ later) ended =
    if (major % 128 == 1) && nat_le minor 2 then read_sizes limit slices major minor later ended else Wrong fault.IwVersion

-- the first chunk of a layer tells its header, and a later one has none
abbrev pub read_rest : ℕ → Option Header → ℕ → List ℕ → Bool → Opening
read_rest limit None slices later ended = read_version limit slices later ended
read_rest limit (Some header) slices later ended = Opened header slices later

-- a chunk of a layer of at most so many pixels, before which so many chunks came, and of which this header is known. The
-- serial is checked once the number of slices is there
abbrev pub open_chunk : ℕ → ℕ → Option Header → List ℕ → Bool → Opening
open_chunk limit number known [] ended = missing ended
open_chunk limit number known (serial ∷ []) ended = missing ended
open_chunk limit number known (serial ∷ slices ∷ later) ended =
    if serial == number then read_rest limit known slices later ended else Wrong fault.IwSerial

-- a size that isn't taken is refused once the first header is there, before anything behind it is read
abbrev pub checked : (ℕ → ℕ → Bool) → Option Header → Opening → Opening
checked fits (Some header) opening = opening
checked fits None Short = Short
checked fits None (Wrong kind) = Wrong kind
checked fits None (Opened header slices zp) = if fits header.width header.height then Opened header slices zp else Wrong fault.LayerSize
