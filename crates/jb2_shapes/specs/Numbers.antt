-- Numbers of contexts: their colours as digits, behind a one.
use Rattle.std.specs.Prelude.{◌≡◌, ℕ, ◌+◌, ◌*◌, ◌<◌, Bool, List, [], ◌∷◌, slice_index}
use Rattle.bit_plane.specs.Bits.{digit_of}
use Rattle.zp_decoder.specs.States.{States}

-- a number with these colours as further binary digits, of which black is 1
abbrev pub number_from : ℕ → List Bool → ℕ
number_from number [] = number
number_from number (colour ∷ colours) = number_from (2 * number + digit_of colour) colours

abbrev pub number_of : List Bool → ℕ
number_of colours = number_from 1 colours

-- up to 11 colours behind a one
unfoldable pub number_limit : ℕ
number_limit = 4096

-- what only the contexts themselves read: their states, each under its number
pub record Cells : Type 0 where
  pub cells : List ℕ

-- the states of all contexts
unfoldable pub states_of : Cells → States
states_of contexts colours = slice_index contexts.cells (number_of colours)

-- a number of a context
pub record IsNumber (number : ℕ) : Type 0 where
  pub colours : List Bool
  pub is : number_of colours ≡ number
  pub within : number < number_limit
