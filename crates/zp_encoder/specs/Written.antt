-- Decisions that are written, one after the other, and their codes.
use Rattle.std.specs.Prelude.{◌≡◌, ℕ, Bool, true, List, [], ◌∷◌, map, None}
use Rattle.zp_table.specs.declared.rows.Row.{Row}
use Rattle.zp_decoder.specs.declared.decoder.Decision.{Decision}
use Rattle.zp_decoder.specs.declared.decoder.Decision.TheVariants as decision
use Rattle.zp_decoder.specs.Decision.{Form}
use Rattle.zp_decoder.specs.Runs.{IsFormOf, outcomes}
use Rattle.zp_encoder.specs.Codes.{Codes, codes_after, state_left}

-- a decision, its bit, and the state in which it leaves its context; without a context this is 0
pub record Written : Type 0 where
  pub form : Form
  pub bit : Bool
  pub state : ℕ

abbrev pub written : Form → Bool → ℕ → Written
written form bit state = record { form = form; bit = bit; state = state }

-- from codes on, decisions of the table's forms lead to codes, and leave the states that they say
abbrev pub LeadTo : List Row → Codes → List Written → Codes → Type 0
LeadTo rows from [] to = from ≡ to
LeadTo rows from (first ∷ later) to =
    IsFormOf rows first.form × (first.state ≡ state_left rows first.form first.bit from.a) × LeadTo rows (codes_after rows first.form first.bit from) later to

abbrev pub forms_of : List Written → List Form
forms_of decisions = map (λ each. each.form) decisions

-- what a decoder answers to them, where it reads them as they were written
abbrev pub bits_of : List Written → List Decision
bits_of decisions = map (λ each. decision.Bit each.bit) decisions

abbrev pub states_of : List Written → List ℕ
states_of decisions = map (λ each. each.state) decisions

-- the states in which a decoder leaves the contexts of decisions, over all bytes of a chunk
abbrev pub states_read : List Row → List ℕ → List Form → List ℕ
states_read rows bytes forms = map (λ outcome. outcome.state) (outcomes rows bytes true None forms)
