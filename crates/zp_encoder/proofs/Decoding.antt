-- A payload that has one of the codes of decisions is read as they were written.
use Rattle.std.proofs.Common.{◌≡◌, ◌<◌, ◌≤◌, ◌+◌, ◌-◌, ◌*◌, ◌/◌, ℕ, true, List, [], ◌∷◌, length, refl, sym, ap, subst, ◌∙◌, arith}
use Rattle.std.proofs.Common.{map}
use Rattle.std.specs.Prelude.{Option, Some, None}
use Rattle.zp_table.specs.declared.rows.Row.{Row}
use Rattle.zp_table.specs.Rows.{IsTable}
use Rattle.zp_decoder.specs.declared.decoder.Decision.{Decision}
use Rattle.zp_decoder.specs.declared.decoder.Decision.TheVariants as decision
use Rattle.zp_decoder.specs.Bits.{bits_from}
use Rattle.zp_decoder.specs.Decision.{Interval, interval, interval_at, Outcome}
use Rattle.zp_decoder.specs.Runs.{outcomes, answers, with_later}
use Rattle.zp_encoder.specs.Codes.{Codes, all_codes, codes_after, state_left, IsAmong}
use Rattle.zp_encoder.specs.Written.{Written, LeadTo, forms_of, bits_of, states_of, states_read}
use Rattle.zp_encoder.proofs.Leading.{standing_in, Decides, decides, after-low, after-n}

among_before : (rows : List Row) (payload : List ℕ) (decisions : List Written) (from to : Codes) → IsTable rows → LeadTo rows from decisions to →
    from.a < 0x8000 → IsAmong payload to → IsAmong payload from
among_before rows payload [] from to t leads low among = subst (IsAmong payload) (sym leads) among
among_before rows payload (first ∷ later) from to t leads low among =
    let next : Codes = codes_after rows first.form first.bit from in
    let rest : IsAmong payload (codes_after rows first.form first.bit from) =
    among_before rows payload later next to t leads.2 (after-low rows first.form first.bit from t leads.0 low) among in
    (decides rows first.form first.bit payload from t leads.0 low rest).among

-- read from a place on
record Reads (rows : List Row) (payload : List ℕ) (place : Option Interval) (decisions : List Written) : Type 0 where
  bits : answers rows payload true place (forms_of decisions) ≡ bits_of decisions
  states : map (λ (outcome : Outcome). outcome.state) (outcomes rows payload true place (forms_of decisions)) ≡ states_of decisions

reads_from : (rows : List Row) (payload : List ℕ) (place : Option Interval) (decisions : List Written) (from to : Codes) → IsTable rows →
    LeadTo rows from decisions to → from.a < 0x8000 → IsAmong payload to → interval_at payload place ≡ standing_in payload from →
    Reads rows payload place decisions
reads_from rows payload place [] from to t leads low among there = record { bits = refl; states = refl }
reads_from rows payload place (first ∷ later) from to t leads low among there =
    let next : Codes = codes_after rows first.form first.bit from in
    let next_low : (codes_after rows first.form first.bit from).a < 0x8000 = after-low rows first.form first.bit from t leads.0 low in
    let rest : IsAmong payload (codes_after rows first.form first.bit from) = among_before rows payload later next to t leads.2 next_low among in
    let one : Decides rows first.form first.bit payload from = decides rows first.form first.bit payload from t leads.0 low rest in
    let comes = one.outcome place there in
    let more : Reads rows payload (Some (standing_in payload next)) later =
    reads_from rows payload (Some (standing_in payload next)) later next to t leads.2 next_low among refl in
    let left : ℕ = state_left rows first.form first.bit from.a in
    record {
      bits = ap (λ (outcome : Outcome). map (λ (o : Outcome). o.answer)
          (with_later outcome (λ (at : Option Interval). outcomes rows payload true at (forms_of later)))) comes
          ∙ ap (λ (rest : List Decision). decision.Bit first.bit ∷ rest) more.bits;
      states = ap (λ (outcome : Outcome). map (λ (o : Outcome). o.state)
          (with_later outcome (λ (at : Option Interval). outcomes rows payload true at (forms_of later)))) comes
          ∙ (ap (λ (rest : List ℕ). left ∷ rest) more.states ∙ ap (λ (state : ℕ). state ∷ states_of later) (sym leads.1));
    }

starts_there : (payload : List ℕ) → interval_at payload None ≡ standing_in payload all_codes
starts_there payload =
    let code : bits_from payload 0 16 ≡ bits_from payload 0 16 + 0 - 0 = omega arith in
    ap (λ (code : ℕ). interval 0 code 0) code

reads : (rows : List Row) (payload : List ℕ) (decisions : List Written) (codes : Codes) → IsTable rows → LeadTo rows all_codes decisions codes →
    IsAmong payload codes → Reads rows payload None decisions
reads rows payload decisions codes t leads among =
    reads_from rows payload None decisions all_codes codes t leads (omega arith) among (starts_there payload)

pub bits_read : (rows : List Row) (payload : List ℕ) (decisions : List Written) (codes : Codes) → IsTable rows → LeadTo rows all_codes decisions codes →
    IsAmong payload codes → answers rows payload true None (forms_of decisions) ≡ bits_of decisions
bits_read rows payload decisions codes t leads among = (reads rows payload decisions codes t leads among).bits

pub states_are_read : (rows : List Row) (payload : List ℕ) (decisions : List Written) (codes : Codes) → IsTable rows → LeadTo rows all_codes decisions codes →
    IsAmong payload codes → states_read rows payload (forms_of decisions) ≡ states_of decisions
states_are_read rows payload decisions codes t leads among = (reads rows payload decisions codes t leads among).states

bits_most : (rows : List Row) (decisions : List Written) (from to : Codes) → LeadTo rows from decisions to → to.n ≤ from.n + 16 * length decisions
bits_most rows [] from to leads = let same : from.n ≡ to.n = ap (λ (codes : Codes). codes.n) leads in omega (arith, same)
bits_most rows (first ∷ later) from to leads =
    let one = after-n rows first.form first.bit from in
    let more = bits_most rows later (codes_after rows first.form first.bit from) to leads.2 in
    omega (arith, one, more)

-- a byte for eight bits, and one more
pub few_bytes : (rows : List Row) (decisions : List Written) (codes : Codes) (count : ℕ) → LeadTo rows all_codes decisions codes →
    count ≡ codes.n / 8 + 1 → count ≤ 2 * length decisions + 1
few_bytes rows decisions codes count leads e = let bits = bits_most rows decisions all_codes codes leads in omega (arith, bits, e)
