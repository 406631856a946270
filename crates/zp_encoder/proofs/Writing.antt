-- A decision that is written behind others.
use Rattle.std.proofs.Common.{◌≡◌, ℕ, Bool, true, false, List, [], ◌∷◌, ◌++◌, refl, sym, ap, subst, ◌∙◌}
use Rattle.std.specs.Prelude.{not}
use mathlib.Core.Bool.{beq}
use Rattle.zp_table.specs.declared.rows.Row.{Row}
use Rattle.zp_decoder.specs.Decision.{Form, split_of, most_bits}
use Rattle.zp_decoder.specs.Runs.{IsFormOf}
use Rattle.zp_decoder.specs.States.{is_same_bit}
use Rattle.zp_encoder.specs.Codes.{Codes, all_codes, part_of, lengthened, is_probable, codes_after, state_left}
use Rattle.zp_encoder.specs.Written.{Written, written, LeadTo}
use Rattle.zp_encoder.specs.Encoder.{Encoder, Wrote}

leads_on : (rows : List Row) (from at to : Codes) (decisions : List Written) (last : Written) → LeadTo rows from decisions at → IsFormOf rows last.form →
    last.state ≡ state_left rows last.form last.bit at.a → codes_after rows last.form last.bit at ≡ to → LeadTo rows from (decisions ++ last ∷ []) to
leads_on rows from at to [] last leads form state after =
    let same : from ≡ at = leads in (
      form,
      state ∙ ap (λ (codes : Codes). state_left rows last.form last.bit codes.a) (sym same),
      ap (λ (codes : Codes). codes_after rows last.form last.bit codes) same ∙ after,
    )
leads_on rows from at to (first ∷ later) last leads form state after =
    (leads.0, leads.1, leads_on rows (codes_after rows first.form first.bit from) at to later last leads.2 form state after)

-- before and after a decision with this z, which leaves this state
pub record Follows (form : Form) (bit : Bool) (state z : ℕ) (probable : Bool) (before after : Encoder) : Type 0 where
  pub form_of : IsFormOf before.table form
  pub more : probable ≡ is_probable form bit
  pub split : split_of before.table form before.codes.a ≡ z
  pub codes : after.codes ≡ lengthened most_bits (part_of probable z before.codes)
  pub table : after.table ≡ before.table
  pub state_is : state ≡ state_left before.table form bit before.codes.a

pub wrote_on : (decisions : List Written) (form : Form) (bit : Bool) (state z : ℕ) (probable : Bool) (before after : Encoder) →
    Follows form bit state z probable before after → Wrote decisions before → Wrote (decisions ++ written form bit state ∷ []) after
unfolding Wrote
wrote_on decisions form bit state z probable before after f wrote =
    let reached : codes_after before.table form bit before.codes ≡ after.codes =
    rw f.split (rw (← f.more) (sym f.codes)) in
    subst (λ (rows : List Row). LeadTo rows all_codes (decisions ++ written form bit state ∷ []) after.codes) (sym f.table)
    (leads_on before.table all_codes before.codes after.codes decisions (written form bit state) wrote f.form_of f.state_is reached)

pub same_bits : (a b : Bool) → beq a b ≡ is_same_bit a b
same_bits true true = refl
same_bits true false = refl
same_bits false true = refl
same_bits false false = refl

pub other_bit : (bit : Bool) → not bit ≡ is_same_bit false bit
other_bit true = refl
other_bit false = refl
