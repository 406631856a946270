-- What numbers stand for.
use Rattle.std.specs.Prelude.{ℕ, Bool, ◌==◌}
use Rattle.jb2_numbers.specs.declared.roots.Root.{Root}
use Rattle.jb2_numbers.specs.declared.roots.Root.TheVariants.{RecordType, InheritedCount, ImageSize, Match, ShapeWidth, ShapeHeight, WidthDifference, HeightDifference, AbsoluteLeft, AbsoluteTop, NewRowX, NewRowY, SameRowX, SameRowY, CommentLength, CommentByte}

-- the sixteen kinds of numbers, counted from 0
abbrev pub root_index : Root → ℕ
root_index RecordType = 0
root_index InheritedCount = 1
root_index ImageSize = 2
root_index Match = 3
root_index ShapeWidth = 4
root_index ShapeHeight = 5
root_index WidthDifference = 6
root_index HeightDifference = 7
root_index AbsoluteLeft = 8
root_index AbsoluteTop = 9
root_index NewRowX = 10
root_index NewRowY = 11
root_index SameRowX = 12
root_index SameRowY = 13
root_index CommentLength = 14
root_index CommentByte = 15

abbrev pub is_same_root : Root → Root → Bool
is_same_root a b = root_index a == root_index b
