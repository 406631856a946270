-- How contexts and tests are kept.
use Rattle.std.specs.Prelude.{◌≡◌, ℕ, ◌+◌, ◌*◌, ◌<◌, ◌&&◌, nat_lt, slice_index, if◌then◌else◌}
use Rattle.iw44_slices.specs.Contexts.{Context, Root, Bucket, Start, Mantissa}
use Rattle.iw44_slices.specs.Slice.{Asked, In, Plain}
use Rattle.iw44_slices.specs.Reading.{States}
use Rattle.iw44_slices.specs.declared.contexts.Contexts.{Contexts}
use Rattle.iw44_slices.specs.declared.contexts.Question.{Question}
use Rattle.iw44_slices.specs.declared.contexts.Question.TheVariants as question

-- how many contexts a plane has
abbrev pub context_count : ℕ
context_count = 98

-- the number of a context; names that no context has are past the last one
abbrev pub number_of : Context → ℕ
number_of Root = 0
number_of Mantissa = 1
number_of (Start number) = if nat_lt number 16 then 2 + number else context_count
number_of (Bucket band number) = if nat_lt band 10 && nat_lt number 8 then 18 + 8 * band + number else context_count

-- the states of all contexts
unfoldable pub states_in : Contexts → States
states_in contexts context = slice_index contexts.states (number_of context)

-- a decision that is read in this way
abbrev pub Names : Asked → Question → Type 0
Names (In context) (question.In number) = (number_of context ≡ number) × (number < context_count)
Names (In context) question.Plain = ⊥
Names Plain (question.In number) = ⊥
Names Plain question.Plain = Unit {0}
