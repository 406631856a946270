-- What a coder's question for a bit comes to, by what its decoder answers.
use Rattle.std.proofs.Common.{◌≡◌, ◌+◌, ℕ, Bool, List, refl, sym, ap, subst, ◌∙◌, arith}
use Rattle.std.specs.Prelude.{Option, Result}
use Rattle.djvu_base.specs.Meter.{ticked, TicksExactly}
use Rattle.djvu_base.proofs.Ticks.{ticks_both, ticks_one}
use Rattle.zp_table.specs.declared.rows.Row.{Row}
use Rattle.zp_decoder.specs.declared.decoder.Decision.{Decision}
use Rattle.zp_decoder.specs.declared.decoder.Decision.TheVariants as decision
use Rattle.zp_decoder.specs.Decision.{Interval, Form, Adaptive, Outcome, interval_at, split_of, outcome_of, outcome_at, unmoved}
use Rattle.zp_decoder.specs.Decision as coding
use Rattle.zp_decoder.specs.Chunk.{Chunk}
use Rattle.zp_decoder.specs.Runs.{room}
use Rattle.zp_decoder.proofs.Lemmas.{Comes as HasCome, comes, needs, exhausts, moves}
use Rattle.jb2_numbers.specs.Kept.{states_of}
use Rattle.jb2_shapes.specs.Numbers as cells
use Rattle.jb2_records.specs.declared.stops.Stop.{Stop}
use Rattle.jb2_records.specs.Coding.{Coder, Read, Got, after_flag, read_flag, after_row, read_row, bit_by}
use Rattle.jb2_records.specs.Growth.{IsSound}
use Rattle.jb2_records.specs.Taking.{Takes, Decides}
use Rattle.jb2_records.specs.Telling.{Parts, Stands, Goes, bit_result}
use Rattle.jb2_records.proofs.Keeping.{flag_leaves, row_leaves}

still_by : (rows : List Row) (form : Form) (payload : List ℕ) (ended : Bool) (place : Option Interval) (z : ℕ) (at : Interval) →
    HasCome rows form payload ended place z at →
    (outcome_at rows form payload ended place z at).answer ≡ decision.NeedBytes →
    outcome_at rows form payload ended place z at ≡ unmoved decision.NeedBytes form place
still_by rows form payload ended place z at (needs d e) answered = e
still_by rows form payload ended place z at (exhausts d x e) answered = absurd (let same = sym (ap (λ (o : Outcome). o.answer) e) ∙ answered in cc)
still_by rows form payload ended place z at (moves d x e) answered = absurd (let same = sym (ap (λ (o : Outcome). o.answer) e) ∙ answered in cc)

-- a decision that waits changes nothing
still : (source : Chunk) (state : ℕ) (place : Option Interval) →
    (outcome_of source.table (Adaptive state) source.payload source.ended place).answer ≡ decision.NeedBytes →
    outcome_of source.table (Adaptive state) source.payload source.ended place ≡ unmoved decision.NeedBytes (Adaptive state) place
still source state place answered =
    let from : Interval = interval_at source.payload place in
    still_by source.table (Adaptive state) source.payload source.ended place (split_of source.table (Adaptive state) from.a) from
    (comes source.table (Adaptive state) source.payload source.ended place (split_of source.table (Adaptive state) from.a) from) answered

-- what the decision of a bit did with the parts of a coder
pub record Bits (old new : Parts) (state next : ℕ) (given : Decision) : Type 0 where
  pub decides : (source : Chunk) (place : Option Interval) → Takes source place old.unread old.zp →
      Decides source place state old.count given next new.unread new.zp new.count
  pub numbers : new.numbers ≡ old.numbers
  pub pixels : new.pixels ≡ old.pixels

-- which is this outcome
record HasOutcome (source : Chunk) (state next : ℕ) (at : Coder) (given : Decision) (new : Parts) : Type 0 where
  answer : given ≡ (outcome_of source.table (Adaptive state) source.payload source.ended at.place).answer
  context : next ≡ (outcome_of source.table (Adaptive state) source.payload source.ended at.place).state
  takes : Takes source (outcome_of source.table (Adaptive state) source.payload source.ended at.place).place new.unread new.zp
  ticks : new.count ≡ coding.counted given (ticked at.decisions 0)
  numbers : states_of new.numbers ≡ at.numbers
  pixels : cells.states_of new.pixels ≡ at.pixels

outcome_there : (source : Chunk) (at : Coder) (old new : Parts) (state next there : ℕ) (given : Decision) → Bits old new state next given →
    Stands source at old → state ≡ there → HasOutcome source there next at given new
outcome_there source at old new state next there given on stands same =
    let here : Decides source at.place there old.count given next new.unread new.zp new.count =
    subst (λ (s : ℕ). Decides source at.place s old.count given next new.unread new.zp new.count) same (on.decides source at.place stands.takes) in
    record {
      answer = here.answer;
      context = here.context;
      takes = here.takes;
      ticks = here.ticks ∙ ap (coding.counted given) stands.count;
      numbers = ap states_of on.numbers ∙ stands.numbers;
      pixels = ap cells.states_of on.pixels ∙ stands.pixels;
    }

-- what was answered is a bit, or why there is none
bit_goes : (source : Chunk) (at next : Coder) (told : Read Bool) (given : Decision) (new : Parts) → told ≡ bit_by given next at.decisions →
    new.count ≡ coding.counted given (ticked at.decisions 0) →
    ((bit : Bool) → given ≡ decision.Bit bit → told ≡ Got bit next → Stands source next new) → (given ≡ decision.NeedBytes → Stands source at new) →
    Goes (λ (b : Bool). b) source told (Stands source at new) (bit_result given) new
bit_goes source at next told (decision.Bit bit) new is ticks reads waits = record { next = next; got = is; stands = reads bit refl is }
bit_goes source at next told decision.NeedBytes new is ticks reads waits =
    (record { decisions = at.decisions; stops = is; count = ticks }, waits refl)
bit_goes source at next told decision.Exhausted new is ticks reads waits = record { decisions = at.decisions; stops = is; count = ticks }

module _ (source : Chunk) (at : Coder) (given : Decision) (new : Parts) (sound : IsSound source at) where
  -- a decision more
  one_more : (bit : Bool) → given ≡ decision.Bit bit → new.count ≡ coding.counted given (ticked at.decisions 0) → TicksExactly (at.decisions + 1) 0 new.count
  one_more bit e ticks =
      ticks_both at.decisions 1 0 (ticked at.decisions 0) new.count refl
      (ticks_one (ticked at.decisions 0) new.count (ticks ∙ ap (λ (d : Decision). coding.counted d (ticked at.decisions 0)) e))

  -- and none
  no_more : given ≡ decision.NeedBytes → new.count ≡ coding.counted given (ticked at.decisions 0) → TicksExactly at.decisions 0 new.count
  no_more e ticks = ticks ∙ ap (λ (d : Decision). coding.counted d (ticked at.decisions 0)) e

  flag_goes : HasOutcome source at.flag new.flag at given new → new.row ≡ at.row →
      Goes (λ (b : Bool). b) source (read_flag source at) (Stands source at new) (bit_result given) new
  flag_goes has row =
      let next : Coder = after_flag at (outcome_of source.table (Adaptive at.flag) source.payload source.ended at.place) in
      bit_goes source at next (read_flag source at) given new (ap (λ (d : Decision). bit_by d next at.decisions) (sym has.answer)) has.ticks
      (λ bit e got. record {
        numbers = has.numbers;
        pixels = has.pixels;
        flag = has.context;
        row = row;
        takes = has.takes;
        count = one_more bit e has.ticks;
        sound = ((flag_leaves source (room source.payload at.place) at.decisions at sound (omega arith) (omega arith)).got bit next got).sound;
      })
      (λ e.
      let same = still source at.flag at.place (sym has.answer ∙ e) in
      record {
        numbers = has.numbers;
        pixels = has.pixels;
        flag = has.context ∙ ap (λ (o : Outcome). o.state) same;
        row = row;
        takes = subst (λ (o : Outcome). Takes source o.place new.unread new.zp) same has.takes;
        count = no_more e has.ticks;
        sound = sound;
      })

  row_goes : HasOutcome source at.row new.row at given new → new.flag ≡ at.flag →
      Goes (λ (b : Bool). b) source (read_row source at) (Stands source at new) (bit_result given) new
  row_goes has flag =
      let next : Coder = after_row at (outcome_of source.table (Adaptive at.row) source.payload source.ended at.place) in
      bit_goes source at next (read_row source at) given new (ap (λ (d : Decision). bit_by d next at.decisions) (sym has.answer)) has.ticks
      (λ bit e got. record {
        numbers = has.numbers;
        pixels = has.pixels;
        flag = flag;
        row = has.context;
        takes = has.takes;
        count = one_more bit e has.ticks;
        sound = ((row_leaves source (room source.payload at.place) at.decisions at sound (omega arith) (omega arith)).got bit next got).sound;
      })
      (λ e.
      let same = still source at.row at.place (sym has.answer ∙ e) in
      record {
        numbers = has.numbers;
        pixels = has.pixels;
        flag = flag;
        row = has.context ∙ ap (λ (o : Outcome). o.state) same;
        takes = subst (λ (o : Outcome). Takes source o.place new.unread new.zp) same has.takes;
        count = no_more e has.ticks;
        sound = sound;
      })

pub flag_told : (old new : Parts) (given : Decision) (result : Result Bool Stop) → Bits old new old.flag new.flag given → new.row ≡ old.row →
    result ≡ bit_result given →
    (source : Chunk) (at : Coder) → Stands source at old → Goes (λ (b : Bool). b) source (read_flag source at) (Stands source at new) result new
flag_told old new given result on row is source at stands =
    subst (λ (r : Result Bool Stop). Goes (λ (b : Bool). b) source (read_flag source at) (Stands source at new) r new) (sym is)
    (flag_goes source at given new stands.sound (outcome_there source at old new old.flag new.flag at.flag given on stands stands.flag) (row ∙ stands.row))

pub row_told : (old new : Parts) (given : Decision) (result : Result Bool Stop) → Bits old new old.row new.row given → new.flag ≡ old.flag →
    result ≡ bit_result given →
    (source : Chunk) (at : Coder) → Stands source at old → Goes (λ (b : Bool). b) source (read_row source at) (Stands source at new) result new
row_told old new given result on flag is source at stands =
    subst (λ (r : Result Bool Stop). Goes (λ (b : Bool). b) source (read_row source at) (Stands source at new) r new) (sym is)
    (row_goes source at given new stands.sound (outcome_there source at old new old.row new.row at.row given on stands stands.row) (flag ∙ stands.flag))
