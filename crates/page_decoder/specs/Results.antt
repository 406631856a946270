-- What an included file gives to the files that include it.
use Rattle.std.specs.Prelude.{List, Option, Some, None}
use Rattle.djvu_base.specs.declared.faults.Fault.{Fault}
use Rattle.bit_plane.specs.Pixels.{Pixels}

pub data Result : Type 0 where
  -- the shapes of its dictionary
  Dictionary : List Pixels → Result
  -- it has no dictionary
  Nothing : Result
  -- it has a fault
  Refused : Fault → Result

abbrev pub result_of : Option (List Pixels) → Result
result_of (Some shapes) = Dictionary shapes
result_of None = Nothing
