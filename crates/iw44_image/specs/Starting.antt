-- For the code's own functions: the start of a chunk, as the code tells it.
use Rattle.std.specs.Prelude.{ℕ, ◌*◌, ◌%◌, ◌≤◌, not, nat_le, List, drop, ⊤}
use Rattle.iw44_image.specs.declared.headers.Header.{Header}
use Rattle.iw44_image.specs.declared.headers.Start.{Start}
use Rattle.iw44_image.specs.declared.headers.Start.TheVariants as start
use Rattle.iw44_image.specs.Header.{Opening, Short, Wrong, Opened}

-- the start of these bytes
abbrev pub opening_in : List ℕ → Start → Opening
opening_in bytes start.Short = Short
opening_in bytes (start.Wrong kind) = Wrong kind
opening_in bytes (start.Told header slices length) = Opened header slices (drop length bytes)

-- the header ends within so many bytes
abbrev pub IsInside : ℕ → Start → Type 0
IsInside bytes start.Short = ⊤
IsInside bytes (start.Wrong kind) = ⊤
IsInside bytes (start.Told header slices length) = length ≤ bytes

-- an area of 1 to so many pixels
pub record HasArea (limit : ℕ) (header : Header) : Type 0 where
  pub some : 1 ≤ header.width * header.height
  pub most : header.width * header.height ≤ limit

-- the header that was read has such an area
abbrev pub IsSized : ℕ → Start → Type 0
IsSized limit start.Short = ⊤
IsSized limit (start.Wrong kind) = ⊤
IsSized limit (start.Told header slices length) = HasArea limit header

-- where the header is there, so many chunks came before that a byte has their number
abbrev pub HasSerial : ℕ → Start → Type 0
HasSerial number start.Short = ⊤
HasSerial number (start.Wrong kind) = ⊤
HasSerial number (start.Told header slices length) = number ≤ 255

-- with the last byte of a header
abbrev pub with_last : Header → ℕ → Header
with_last header last = record { width = header.width; height = header.height; grey = header.grey; half = not (nat_le 128 last); delay = last % 128 }
