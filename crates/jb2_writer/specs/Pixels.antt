-- How a shape is coded, pixel after pixel.
use Rattle.std.specs.Prelude.{◌≡◌, ◌-◌, ◌*◌, ℤ, ◌++◌, List, Bool}
use Rattle.bit_plane.specs.Pixels.{Pixels}
use Rattle.jb2_shapes.specs.Shape.{Sketch}
use Rattle.jb2_writer.specs.declared.coding.Coding.{Coding}
use Rattle.jb2_writer.specs.Coded.{Coded, pixels_coded, shape_coded}
use Rattle.jb2_writer.specs.Coding.{Adds}

-- the pixels before this one were coded, and a sketch has them
pub record HasDrawn (context : Pixels → ℤ → ℤ → List Bool) (shape : Pixels) (old new : Coding) (sketch : Sketch) : Type 0 where
  pub bits : List Coded
  pub adds : Adds bits old new
  pub rest : bits ++ pixels_coded context shape (shape.width * shape.height - sketch.number) sketch ≡ shape_coded context shape
  pub width : sketch.shape.width ≡ shape.width
  pub height : sketch.shape.height ≡ shape.height
