-- Records of all twelve types, and a chunk that codes them with the table of one row: worked out by another program. The tests
-- of records read the same chunk.
use Rattle.std.specs.Prelude.{ℕ, pos, negsuc, Bool, true, false, List, [], ◌∷◌}
use Rattle.bit_plane.specs.Pixels.{Pixels}
use Rattle.jb2_records.specs.declared.purpose.Purpose.TheVariants as purpose
use Rattle.jb2_records.specs.Records.{Record, Start, MarkBoth, MarkLibrary, MarkImage, RefineBoth, RefineLibrary, RefineImage, Copy, Plain, Require, Comment, End, NewRow, SameRow}
use Rattle.jb2_records.specs.Reading.{Input}
use Rattle.jb2_records.specs.Worked.{dot, dash, input}

abbrev pub shape : ℕ → ℕ → List Bool → Pixels
shape width height black = record { width = width; height = height; black = black }

-- the rows of a shape stand from the bottom up
abbrev pub all_types : List Record
all_types =
    Comment (104 ∷ 105 ∷ [])
    ∷ Require 0
    ∷ Start 9 5 true
    ∷ MarkLibrary (shape 3 3 (false ∷ false ∷ false ∷ false ∷ true ∷ true ∷ false ∷ false ∷ true ∷ []))
    ∷ MarkBoth (shape 2 2 (true ∷ false ∷ true ∷ true ∷ [])) (NewRow (pos 1) (pos 0))
    ∷ MarkImage dot (SameRow (pos 2) (negsuc 0))
    ∷ RefineBoth 0 (shape 2 2 (true ∷ true ∷ true ∷ false ∷ [])) (SameRow (pos 1) (pos 1))
    ∷ RefineLibrary 1 (shape 3 1 (false ∷ true ∷ false ∷ []))
    ∷ RefineImage 0 (shape 1 2 (true ∷ true ∷ [])) (NewRow (pos 0) (negsuc 0))
    ∷ Copy 0 (SameRow (pos 3) (pos 0))
    ∷ Copy 3 (SameRow (pos 2) (negsuc 0))
    ∷ Require 0
    ∷ Plain dash 8 1
    ∷ Comment []
    ∷ End
    ∷ []

abbrev pub payload : List ℕ
payload =
    0x11 ∷ 0x01 ∷ 0x58 ∷ 0x0A ∷ 0xA2 ∷ 0xE3 ∷ 0x4A ∷ 0x47 ∷ 0x3E ∷ 0x9D ∷ 0xA4 ∷ 0x23 ∷ 0x4E ∷ 0xDA ∷ 0x59 ∷ 0xAA
    ∷ 0x93 ∷ 0x32 ∷ 0xA7 ∷ 0xD2 ∷ 0x74 ∷ 0x38 ∷ 0xF8 ∷ 0xE8 ∷ 0xE4 ∷ 0xB1 ∷ 0x46 ∷ 0x4C ∷ 0x2C ∷ 0x48 ∷ 0x7F ∷ []

abbrev pub chunk_of_all_types : Input
chunk_of_all_types = input payload true [] (purpose.Mask 9 5)
