-- However the bytes are cut, the reading is the same.
use Rattle.std.proofs.Common.{◌≡◌, ℕ, zero, suc, ◌<◌, Bool, true, false, List, length, ◌++◌, Option, ℤ, refl, ap, sym, ◌∙◌, arith, inl, inr}
use Rattle.bit_plane.specs.Pixels.{Pixels}
use Rattle.std.proofs.lemmas.Bool.{cases_Bool}
use Rattle.zp_table.specs.declared.rows.Row.{Row}
use Rattle.zp_table.specs.Rows.{IsTable}
use Rattle.zp_decoder.specs.declared.decoder.Decision.{Decision}
use Rattle.zp_decoder.specs.declared.decoder.Decision.TheVariants as decision
use Rattle.zp_decoder.specs.Decision.{Interval, Form, Outcome, Adaptive, interval_at, is_determined, outcome_of}
use Rattle.zp_decoder.specs.Runs.{IsStanding}
use Rattle.zp_decoder.proofs.Lemmas.{grown, standing, state_below, stored_below}
use Rattle.zp_decoder.specs.States.{States, AreBelow, are_same, with_state}
use Rattle.jb2_shapes.specs.Shape.{Progress, Reading, IsUnread, left_of, progress, with_pixel, after_decision, read_pixels, reading_of}
use Rattle.jb2_shapes.proofs.Going.{Context, next_colours, after_bit, left_after}

-- a bit comes only where the bytes determine it
determined_by : (rows : List Row) (form : Form) (payload : List ℕ) (ended : Bool) (place : Option Interval) (bit : Bool) →
    (outcome_of rows form payload ended place).answer ≡ decision.Bit bit → is_determined payload ended (interval_at payload place) ≡ true
determined_by rows form payload ended place bit e =
    elim (cases_Bool (is_determined payload ended (interval_at payload place))) [
      | inl there ↦ there
      | inr missing ↦ let needs : (outcome_of rows form payload ended place).answer ≡ decision.NeedBytes = rw missing refl in absurd (let same = sym e ∙ needs in cc)
    ]

pub moved_below : (states : States) (colours : List Bool) (state count : ℕ) → AreBelow count states → state < count → AreBelow count (with_state states colours state)
moved_below = stored_below are_same

-- the pixels that can be read with more bytes, from where the reading stands and from where it stood
abbrev GoesFrom : Context → List Row → List ℕ → List ℕ → Bool → ℕ → Progress → Type 0
GoesFrom context rows payload more ended left at =
    reading_of context rows (payload ++ more) ended (read_pixels context rows payload false left at).at ≡ reading_of context rows (payload ++ more) ended at

-- after a decision of the next pixel
abbrev read_after : Context → List Row → List ℕ → ℕ → Decision → Progress → Reading
read_after context rows payload left answer at =
    after_decision answer (outcome_of rows (Adaptive (at.states (next_colours context at.sketch))) payload false at.place) (next_colours context at.sketch) at
    (λ next. read_pixels context rows payload false left next)

cut_by : (context : Context) (rows : List Row) (payload more : List ℕ) (ended : Bool) (left : ℕ) (at : Progress) (answer : Decision) →
    IsTable rows → AreBelow (length rows) at.states → IsStanding (length payload) at.place → suc left ≡ left_of at.sketch →
    (outcome_of rows (Adaptive (at.states (next_colours context at.sketch))) payload false at.place).answer ≡ answer →
    ((next : Progress) → AreBelow (length rows) next.states → IsStanding (length payload) next.place → left ≡ left_of next.sketch → GoesFrom context rows payload more ended left next) →
    reading_of context rows (payload ++ more) ended (read_after context rows payload left answer at).at ≡ reading_of context rows (payload ++ more) ended at
cut_by context rows payload more ended left at (decision.Bit bit) table below stands count e later =
    let unread : IsUnread at.sketch = omega arith in
    let form = Adaptive (at.states (next_colours context at.sketch)) in
    let within = below (next_colours context at.sketch) in
    let same = grown rows form payload more ended at.place table within stands (determined_by rows form payload false at.place bit e) in
    let outcome = outcome_of rows form payload false at.place in
    let told = ap (λ (o : Outcome). o.answer) same ∙ e in
    let fewer = left_after at.sketch bit unread in
    later (progress (with_pixel at.sketch bit) (with_state at.states (next_colours context at.sketch) outcome.state) outcome.place)
    (moved_below at.states (next_colours context at.sketch) outcome.state (length rows) below (state_below rows (at.states (next_colours context at.sketch)) payload false at.place table within))
    (standing rows form payload false at.place table within stands)
    (omega arith)
    ∙ sym (after_bit context rows (payload ++ more) ended at bit unread told
    ∙ ap (λ (o : Outcome). reading_of context rows (payload ++ more) ended (progress (with_pixel at.sketch bit) (with_state at.states (next_colours context at.sketch) o.state) o.place)) same)
cut_by context rows payload more ended left at decision.NeedBytes table below stands count e later = refl
cut_by context rows payload more ended left at decision.Exhausted table below stands count e later = refl

cut_at : (context : Context) (rows : List Row) (payload more : List ℕ) (ended : Bool) (left : ℕ) (at : Progress) →
    IsTable rows → AreBelow (length rows) at.states → IsStanding (length payload) at.place → left ≡ left_of at.sketch → GoesFrom context rows payload more ended left at
cut_at context rows payload more ended zero at table below stands count = refl
cut_at context rows payload more ended (suc left) at table below stands count =
    cut_by context rows payload more ended left at (outcome_of rows (Adaptive (at.states (next_colours context at.sketch))) payload false at.place).answer
    table below stands count refl (λ next b s l. cut_at context rows payload more ended left next table b s l)

pub cut_anywhere : (context : Pixels → ℤ → ℤ → List Bool) (rows : List Row) (payload more : List ℕ) (ended : Bool) (at : Progress) →
    IsTable rows → AreBelow (length rows) at.states → IsStanding (length payload) at.place →
    reading_of context rows (payload ++ more) ended (reading_of context rows payload false at).at ≡ reading_of context rows (payload ++ more) ended at
cut_anywhere context rows payload more ended at table below stands = cut_at context rows payload more ended (left_of at.sketch) at table below stands refl

-- states stay rows of the table, and the decoder stands where decisions lead
abbrev Stays : List Row → List ℕ → Reading → Type 0
Stays rows payload reading = AreBelow (length rows) reading.at.states × IsStanding (length payload) reading.at.place

stays_by : (context : Context) (rows : List Row) (payload : List ℕ) (ended : Bool) (left : ℕ) (at : Progress) (answer : Decision) →
    IsTable rows → AreBelow (length rows) at.states → IsStanding (length payload) at.place →
    ((next : Progress) → AreBelow (length rows) next.states → IsStanding (length payload) next.place → Stays rows payload (read_pixels context rows payload ended left next)) →
    Stays rows payload (after_decision answer (outcome_of rows (Adaptive (at.states (next_colours context at.sketch))) payload ended at.place) (next_colours context at.sketch) at
    (λ next. read_pixels context rows payload ended left next))
stays_by context rows payload ended left at (decision.Bit bit) table below stands later =
    let state = at.states (next_colours context at.sketch) in
    let within = below (next_colours context at.sketch) in
    let outcome = outcome_of rows (Adaptive state) payload ended at.place in
    later (progress (with_pixel at.sketch bit) (with_state at.states (next_colours context at.sketch) outcome.state) outcome.place)
    (moved_below at.states (next_colours context at.sketch) outcome.state (length rows) below (state_below rows state payload ended at.place table within))
    (standing rows (Adaptive state) payload ended at.place table within stands)
stays_by context rows payload ended left at decision.NeedBytes table below stands later = (below, stands)
stays_by context rows payload ended left at decision.Exhausted table below stands later = (below, stands)

stays_at : (context : Context) (rows : List Row) (payload : List ℕ) (ended : Bool) (left : ℕ) (at : Progress) →
    IsTable rows → AreBelow (length rows) at.states → IsStanding (length payload) at.place → Stays rows payload (read_pixels context rows payload ended left at)
stays_at context rows payload ended zero at table below stands = (below, stands)
stays_at context rows payload ended (suc left) at table below stands =
    stays_by context rows payload ended left at (outcome_of rows (Adaptive (at.states (next_colours context at.sketch))) payload ended at.place).answer
    table below stands (λ next b s. stays_at context rows payload ended left next table b s)

pub stays_within : (context : Pixels → ℤ → ℤ → List Bool) (rows : List Row) (payload : List ℕ) (ended : Bool) (at : Progress) →
    IsTable rows → AreBelow (length rows) at.states → IsStanding (length payload) at.place →
    AreBelow (length rows) (reading_of context rows payload ended at).at.states × IsStanding (length payload) (reading_of context rows payload ended at).at.place
stays_within context rows payload ended at table below stands = stays_at context rows payload ended (left_of at.sketch) at table below stands
