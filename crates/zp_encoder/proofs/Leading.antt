-- A payload that has one of the codes that are left after a decision makes this decision.
use Rattle.std.proofs.Common.{◌≡◌, ◌<◌, ◌≤◌, ◌+◌, ◌-◌, ◌*◌, ℕ, zero, suc, Bool, true, false, List, length, refl, sym, ap, ◌∙◌, arith}
use Rattle.std.proofs.Common.{zero-add, inl, inr}
use Rattle.std.specs.Prelude.{Option, Some, nat_lt, not, if◌then◌else◌}
use Rattle.std.proofs.lemmas.Grind.{common_steps}
use Rattle.zp_table.specs.declared.rows.Row.{Row}
use Rattle.zp_table.specs.Rows.{IsTable}
use Rattle.zp_decoder.specs.declared.decoder.Decision.TheVariants as decision
use Rattle.zp_decoder.specs.Bits.{bit_at, bits_from}
use Rattle.zp_decoder.specs.Decision.{Outcome, Form, Adaptive, Pass, Iw, Interval, interval, interval_at, split_of, cut, shift, shifted, most_bits, after}
use Rattle.zp_decoder.specs.Decision.{outcome_of, outcome_at, state_after, bit_of, probable_of, is_exhausted, moved}
use Rattle.zp_decoder.specs.Runs.{IsFormOf}
use Rattle.zp_decoder.specs.States.{is_same_bit}
use Rattle.zp_decoder.proofs.Lemmas.{SplitFacts, split_facts, high_or_low, bit_at-lt, IsEnough, enough_at_first, enough_later}
use Rattle.zp_encoder.specs.Codes.{Codes, part_of, longer, lengthened, is_probable, codes_after, code_with, state_left, IsAmong}

-- where a decoder stands then, of a payload that has one of the codes
abbrev pub standing_in : List ℕ → Codes → Interval
standing_in payload codes = interval codes.a (bits_from payload 0 (16 + codes.n) + codes.a - codes.low) codes.n

-- a bit more

code-suc : (payload : List ℕ) (n : ℕ) → bits_from payload 0 (16 + (n + 1)) ≡ 2 * bits_from payload 0 (16 + n) + bit_at payload (16 + n)
code-suc payload n =
    let count : 16 + (n + 1) ≡ suc (16 + n) = omega arith in
    rw (count, zero-add (16 + n)) refl

pub record Longer (payload : List ℕ) (codes : Codes) : Type 0 where
  pub among : IsAmong payload codes
  pub shifts : shift payload (standing_in payload codes) ≡ standing_in payload (longer codes)

one_longer : (payload : List ℕ) (codes : Codes) → 0x8000 ≤ codes.a → codes.a < 0x10000 → IsAmong payload (longer codes) → Longer payload codes
one_longer payload codes high below among =
    let next = code-suc payload codes.n in
    let bit = bit_at-lt payload (16 + codes.n) in
    let least : 2 * codes.low ≤ bits_from payload 0 (16 + (codes.n + 1)) = among.least in
    let most : bits_from payload 0 (16 + (codes.n + 1)) + (2 * codes.a - 0x10000) < 2 * codes.low + 0x10000 = among.most in
    let within : codes.n + 1 ≤ 8 * length payload + 176 = among.within in
    let code : 2 * (bits_from payload 0 (16 + codes.n) + codes.a - codes.low) - 0x10000 + bit_at payload (16 + codes.n) ≡
    bits_from payload 0 (16 + (codes.n + 1)) + (2 * codes.a - 0x10000) - 2 * codes.low = omega (arith, next, bit, least, most) in
    record {
      among = record { least = omega (arith, next, bit, least); most = omega (arith, next, most); within = omega (arith, within) };
      shifts = ap (λ (code : ℕ). interval (2 * codes.a - 0x10000) code (codes.n + 1)) code;
    }

lengthened-step : (k : ℕ) (codes : Codes) → 0x8000 ≤ codes.a → lengthened (suc k) codes ≡ lengthened k (longer codes)
lengthened-step k codes high = grind (arith, common_steps)

pub lengthened-stop : (k : ℕ) (codes : Codes) → codes.a < 0x8000 → lengthened k codes ≡ codes
lengthened-stop zero codes low = refl
lengthened-stop (suc k) codes low = grind (arith, common_steps)

shifted-on : (payload : List ℕ) (k : ℕ) (at : Interval) → 0x8000 ≤ at.a → shifted payload (suc k) at ≡ shifted payload k (shift payload at)
shifted-on payload k at high = grind (arith, common_steps)

shifted-off : (payload : List ℕ) (k : ℕ) (at : Interval) → at.a < 0x8000 → shifted payload k at ≡ at
shifted-off payload zero at low = refl
shifted-off payload (suc k) at low = grind (arith, common_steps)

-- of the steps that are enough, one is done
pub record FewerSteps (from to : Codes) (a : ℕ) : Type 0 where
  pub most : ℕ
  pub same : lengthened most from ≡ to
  pub enough : IsEnough most a

pub fewer_steps : (most : ℕ) (codes to : Codes) → 0x8000 ≤ codes.a → lengthened most codes ≡ to → IsEnough most codes.a →
    FewerSteps (longer codes) to (2 * codes.a - 0x10000)
fewer_steps zero codes to high same enough = absurd (omega (arith, enough.enough))
fewer_steps (suc most) codes to high same enough = record {
  most = most;
  same = sym (lengthened-step most codes high) ∙ same;
  enough = enough_later most codes.a enough high;
}

record Lengthens (payload : List ℕ) (k : ℕ) (codes : Codes) : Type 0 where
  among : IsAmong payload codes
  shifts : shifted payload k (standing_in payload codes) ≡ standing_in payload (lengthened k codes)

stays_short : (payload : List ℕ) (k : ℕ) (codes : Codes) → codes.a < 0x8000 → IsAmong payload (lengthened k codes) → Lengthens payload k codes
stays_short payload k codes low among =
    let same = lengthened-stop k codes low in
    record { among = rw same at among; shifts = shifted-off payload k (standing_in payload codes) low ∙ ap (standing_in payload) (sym same) }

lengthens : (payload : List ℕ) (k : ℕ) (codes : Codes) → codes.a < 0x10000 → IsAmong payload (lengthened k codes) → Lengthens payload k codes
lengthens payload zero codes below among = record { among = among; shifts = refl }
lengthens payload (suc k) codes below among =
    elim (high_or_low codes.a) [
      | inl high ↦
          let step = lengthened-step k codes high in
          let later : Lengthens payload k (longer codes) = lengthens payload k (longer codes) (omega arith) (rw step at among) in
          let first : Longer payload codes = one_longer payload codes high below later.among in
          record {
            among = first.among;
            shifts = shifted-on payload k (standing_in payload codes) high
                ∙ (ap (shifted payload k) first.shifts ∙ (later.shifts ∙ ap (standing_in payload) (sym step)));
          }
      | inr low ↦ stays_short payload (suc k) codes low among
    ]

lengthened-low : (k : ℕ) (codes : Codes) → IsEnough k codes.a → (lengthened k codes).a < 0x8000
lengthened-low zero codes enough = omega (arith, enough.enough)
lengthened-low (suc k) codes enough =
    elim (high_or_low codes.a) [
      | inl high ↦ rw (lengthened-step k codes high) (lengthened-low k (longer codes) (enough_later k codes.a enough high))
      | inr low ↦ rw (lengthened-stop (suc k) codes low) low
    ]

-- the part of a bit

record Parts (payload : List ℕ) (z : ℕ) (probable : Bool) (codes : Codes) : Type 0 where
  among : IsAmong payload codes
  test : nat_lt (standing_in payload codes).code z ≡ not probable
  cuts : cut z (standing_in payload codes) ≡ standing_in payload (part_of probable z codes)

parts : (payload : List ℕ) (z : ℕ) (probable : Bool) (codes : Codes) → codes.a < z → z < 0x10000 → IsAmong payload (part_of probable z codes) →
    Parts payload z probable codes
parts payload z true codes above below among =
    let code : ℕ = bits_from payload 0 (16 + codes.n) in
    let least : codes.low + (z - codes.a) ≤ bits_from payload 0 (16 + codes.n) = among.least in
    let most : bits_from payload 0 (16 + codes.n) + z < codes.low + (z - codes.a) + 0x10000 = among.most in
    let within : codes.n ≤ 8 * length payload + 176 = among.within in
    let test : nat_lt (bits_from payload 0 (16 + codes.n) + codes.a - codes.low) z ≡ false = grind (arith, common_steps) in
    let same : bits_from payload 0 (16 + codes.n) + codes.a - codes.low ≡ bits_from payload 0 (16 + codes.n) + z - (codes.low + (z - codes.a)) =
    omega (arith, least) in
    record {
      among = record { least = omega (arith, least); most = omega (arith, most); within = within };
      test = test;
      cuts = rw test (ap (λ (code : ℕ). interval z code codes.n) same);
    }
parts payload z false codes above below among =
    let least : codes.low ≤ bits_from payload 0 (16 + codes.n) = among.least in
    let most : bits_from payload 0 (16 + codes.n) + (codes.a + (0x10000 - z)) < codes.low + 0x10000 = among.most in
    let within : codes.n ≤ 8 * length payload + 176 = among.within in
    let test : nat_lt (bits_from payload 0 (16 + codes.n) + codes.a - codes.low) z ≡ true = grind (arith, common_steps) in
    let same : bits_from payload 0 (16 + codes.n) + codes.a - codes.low + (0x10000 - z) ≡
    bits_from payload 0 (16 + codes.n) + (codes.a + (0x10000 - z)) - codes.low = omega (arith, least) in
    record {
      among = record { least = least; most = omega (arith, most); within = within };
      test = test;
      cuts = rw test (ap (λ (code : ℕ). interval (codes.a + (0x10000 - z)) code codes.n) same);
    }

-- bit and state

bit_is : (probable bit : Bool) → (if not (is_same_bit probable bit) then not probable else probable) ≡ bit
bit_is true true = refl
bit_is true false = refl
bit_is false true = refl
bit_is false false = refl

code_with-test : (probable : Bool) (z a : ℕ) → a < z → nat_lt (code_with probable z a) z ≡ not probable
code_with-test true z a above = grind (arith, common_steps)
code_with-test false z a above = grind (arith, common_steps)

state_same : (rows : List Row) (form : Form) (z a code n other : ℕ) (less : Bool) → nat_lt code z ≡ less → nat_lt other z ≡ less →
    state_after rows form z (interval a code n) ≡ state_after rows form z (interval a other 0)
state_same rows (Adaptive state) z a code n other less e o = rw (e, o) refl
state_same rows Pass z a code n other less e o = refl
state_same rows Iw z a code n other less e o = refl

-- a bit was decided
abbrev decided : Bool → Interval → ℕ → Outcome
decided bit next state = record { answer = decision.Bit bit; place = Some next; state = state }

-- what a decision comes to, where the payload has one of the codes after it
pub record Decides (rows : List Row) (form : Form) (bit : Bool) (payload : List ℕ) (codes : Codes) : Type 0 where
  pub among : IsAmong payload codes
  pub outcome : (place : Option Interval) → interval_at payload place ≡ standing_in payload codes →
      outcome_of rows form payload true place ≡ decided bit (standing_in payload (codes_after rows form bit codes)) (state_left rows form bit codes.a)

not_exhausted : (payload : List ℕ) (at : Interval) → at.n ≤ 8 * length payload + 176 → is_exhausted payload true at ≡ false
not_exhausted payload at within = grind (arith, common_steps)

outcome_is : (rows : List Row) (form : Form) (bit : Bool) (payload : List ℕ) (place : Option Interval) (z : ℕ) (at next : Interval) →
    after payload z at ≡ next → next.n ≤ 8 * length payload + 176 → nat_lt at.code z ≡ not (is_same_bit (probable_of form) bit) →
    outcome_at rows form payload true place z at ≡ decided bit next (state_after rows form z at)
outcome_is rows form bit payload place z at next e within test =
    let open_end : is_exhausted payload true (after payload z at) ≡ false = rw e (not_exhausted payload next within) in
    let bit_same : bit_of form z at ≡ bit = rw test (bit_is (probable_of form) bit) in
    let first : outcome_at rows form payload true place z at ≡ moved rows form z at (after payload z at) = rw open_end refl in
    first ∙ (ap (λ (next : Interval). moved rows form z at next) e
    ∙ ap (λ (bit : Bool). decided bit next (state_after rows form z at)) bit_same)

part_below : (z : ℕ) (probable : Bool) (codes : Codes) → codes.a < z → z < 0x10000 → (part_of probable z codes).a < 0x10000
part_below z true codes above below = below
part_below z false codes above below = omega arith

decides_by : (rows : List Row) (form : Form) (bit : Bool) (payload : List ℕ) (codes : Codes) (z : ℕ) → split_of rows form codes.a ≡ z → codes.a < z →
    z < 0x10000 → IsAmong payload (codes_after rows form bit codes) → Decides rows form bit payload codes
decides_by rows form bit payload codes z e above below among =
    let left : codes_after rows form bit codes ≡ lengthened most_bits (part_of (is_probable form bit) z codes) = rw e refl in
    let later : Lengthens payload most_bits (part_of (is_probable form bit) z codes) =
    lengthens payload most_bits (part_of (is_probable form bit) z codes) (part_below z (is_probable form bit) codes above below) (rw left at among) in
    let first : Parts payload z (is_probable form bit) codes = parts payload z (is_probable form bit) codes above below later.among in
    let reached : after payload z (standing_in payload codes) ≡ standing_in payload (codes_after rows form bit codes) =
    ap (shifted payload most_bits) first.cuts ∙ (later.shifts ∙ ap (standing_in payload) (sym left)) in
    let state : state_after rows form z (standing_in payload codes) ≡ state_left rows form bit codes.a =
    rw e (state_same rows form z codes.a (standing_in payload codes).code codes.n (code_with (is_probable form bit) z codes.a)
    (not (is_probable form bit)) first.test (code_with-test (is_probable form bit) z codes.a above)) in
    record {
      among = first.among;
      outcome = λ place there.
          let at_place : outcome_of rows form payload true place ≡ outcome_at rows form payload true place z (standing_in payload codes) =
          rw (there, e) refl in
          at_place ∙ (outcome_is rows form bit payload place z (standing_in payload codes) (standing_in payload (codes_after rows form bit codes)) reached
          among.within first.test
          ∙ ap (decided bit (standing_in payload (codes_after rows form bit codes))) state);
    }

pub decides : (rows : List Row) (form : Form) (bit : Bool) (payload : List ℕ) (codes : Codes) → IsTable rows → IsFormOf rows form → codes.a < 0x8000 →
    IsAmong payload (codes_after rows form bit codes) → Decides rows form bit payload codes
decides rows form bit payload codes t below low among =
    let split : SplitFacts codes.a (split_of rows form codes.a) = split_facts rows form codes.a t below low in
    decides_by rows form bit payload codes (split_of rows form codes.a) refl split.above split.below among

pub after-low : (rows : List Row) (form : Form) (bit : Bool) (codes : Codes) → IsTable rows → IsFormOf rows form → codes.a < 0x8000 →
    (codes_after rows form bit codes).a < 0x8000
unfolding most_bits
after-low rows form bit codes t below low =
    let split : SplitFacts codes.a (split_of rows form codes.a) = split_facts rows form codes.a t below low in
    let part : Codes = part_of (is_probable form bit) (split_of rows form codes.a) codes in
    lengthened-low 16 part (enough_at_first part.a (part_below (split_of rows form codes.a) (is_probable form bit) codes split.above split.below))

-- how many bits a decision adds

part-n : (z : ℕ) (probable : Bool) (codes : Codes) → (part_of probable z codes).n ≡ codes.n
part-n z true codes = refl
part-n z false codes = refl

lengthened-n : (k : ℕ) (codes : Codes) → (lengthened k codes).n ≤ codes.n + k
lengthened-n zero codes = omega arith
lengthened-n (suc k) codes =
    elim (high_or_low codes.a) [
      | inl high ↦ let later = lengthened-n k (longer codes) in rw (lengthened-step k codes high) (omega (arith, later))
      | inr low ↦ rw (lengthened-stop (suc k) codes low) (omega arith)
    ]

pub after-n : (rows : List Row) (form : Form) (bit : Bool) (codes : Codes) → (codes_after rows form bit codes).n ≤ codes.n + 16
unfolding most_bits
after-n rows form bit codes =
    let z : ℕ = split_of rows form codes.a in
    let same : (part_of (is_probable form bit) z codes).n ≡ codes.n = part-n z (is_probable form bit) codes in
    let more : (lengthened 16 (part_of (is_probable form bit) z codes)).n ≤ (part_of (is_probable form bit) z codes).n + 16 =
    lengthened-n 16 (part_of (is_probable form bit) z codes) in
    omega (arith, same, more)
