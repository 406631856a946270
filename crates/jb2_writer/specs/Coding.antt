-- How a writer keeps the states of contexts, and what it has coded.
use Rattle.std.specs.Prelude.{◌≡◌, ℕ, ◌+◌, ◌*◌, ◌<◌, Bool, ◌&&◌, List, [], ◌∷◌, ◌++◌, length, nat_eq, slice_index_or, unwrap_or}
use Rattle.std.specs.declared.hash.FoldHasher.{FoldHasher}
use Rattle.std.specs.declared.hash.BuildHasherDefault.{BuildHasherDefault}
use Rattle.std.specs.HashMap.{get, HashMap}
use Rattle.zp_decoder.specs.States.{States, AreBelow}
use Rattle.bit_plane.specs.Bits.{digit_of}
use Rattle.jb2_numbers.specs.Roots.{root_index}
use Rattle.jb2_numbers.specs.Contexts.{Name}
use Rattle.jb2_shapes.specs.Numbers.{number_of, number_limit}
use Rattle.zp_encoder.specs.Written.{Written}
use Rattle.zp_encoder.specs.Encoder.{Wrote}
use Rattle.jb2_writer.specs.declared.coding.Coding.{Coding}
use Rattle.jb2_writer.specs.Coded.{Coded}
use Rattle.jb2_writer.specs.Contexts.{Contexts, all_fresh, AreCodedAs}

-- states of numbers, by a root and the number of the decisions
abbrev pub NumberStates : Type 0
NumberStates = HashMap (ℕ × ℕ) ℕ (BuildHasherDefault FoldHasher)

-- decisions as binary digits behind a one, the last one lowest
abbrev pub path_number : List Bool → ℕ
path_number [] = 1
path_number (decision ∷ decisions) = 2 * path_number decisions + digit_of decision

abbrev pub key_of : Name → ℕ × ℕ
key_of name = (root_index name.root, path_number name.decisions)

abbrev pub is_same_key : ℕ × ℕ → ℕ × ℕ → Bool
is_same_key a b = nat_eq a.0 b.0 && nat_eq a.1 b.1

abbrev pub numbers_of : NumberStates → Name → ℕ
numbers_of kept name = unwrap_or (get is_same_key kept (key_of name)) 0

-- states of pixels, each under the number of its colours
abbrev pub pixels_of : List ℕ → States
pixels_of kept colours = slice_index_or kept (number_of colours) 0

abbrev pub contexts_of : Coding → Contexts
contexts_of coding = record { numbers = numbers_of coding.numbers; pixels = pixels_of coding.pixels.items; flag = coding.flag; row = coding.row }

-- each state is a row of the table, and each number of a context has a place
pub record IsSound (coding : Coding) : Type 0 where
  pub numbers : AreBelow (length coding.encoder.table) (numbers_of coding.numbers)
  pub pixels : AreBelow (length coding.encoder.table) (pixels_of coding.pixels.items)
  pub flag : coding.flag < length coding.encoder.table
  pub row : coding.row < length coding.encoder.table
  pub places : length coding.pixels.items ≡ number_limit

-- these bits were coded, and no others
pub record HasCoded (bits : List Coded) (coding : Coding) : Type 0 where
  pub decisions : List Written
  pub wrote : Wrote decisions coding.encoder
  pub coded : AreCodedAs all_fresh bits decisions (contexts_of coding)

-- these bits were coded behind all before
pub record Adds (bits : List Coded) (old new : Coding) : Type 0 where
  pub on : (before : List Coded) → HasCoded before old → HasCoded (before ++ bits) new
  pub sound : IsSound new
  pub table : new.encoder.table ≡ old.encoder.table
