-- A step of the reader is a step of the definition.
use Rattle.std.proofs.Common.{◌≡◌, ◌≢◌, ◌≤◌, ◌<◌, ◌+◌, ℕ, zero, suc, ℤ, Bool, false, List, [], ◌∷◌, length, ◌≤ℤ◌, refl, sym, ap, subst, ◌∙◌, inl, inr, arith}
use Rattle.std.specs.Prelude.{◌⊎◌, Option, Some, None, Result, Ok, Err, IfOk, IfErr, OnOk, int_le, IsTrue}
use Rattle.djvu_base.specs.Meter.{ticked_once}
use Rattle.djvu_base.proofs.Ticks.{ticks_next, ticks_none}
use Rattle.zp_decoder.specs.declared.decoder.Decision.{Decision}
use Rattle.zp_decoder.specs.declared.decoder.Decision.TheVariants as decision
use Rattle.zp_decoder.specs.Decision.{Adaptive, Interval, Outcome, outcome_of}
use Rattle.zp_decoder.specs.Decoder.{Decoder, Fed}
use Rattle.zp_decoder.specs.Chunk.{Chunk, chunk}
use Rattle.jb2_numbers.specs.declared.reader.NumberStep.{NumberStep}
use Rattle.jb2_numbers.specs.declared.reader.NumberStep.TheVariants as told
use Rattle.jb2_numbers.specs.Contexts.{Name, name, further, store}
use Rattle.jb2_numbers.specs.Kept.{Numbers, IsCell, states_of, state_in}
use Rattle.jb2_numbers.specs.Phases.{Phase, Sign, Doubling, Halving, Known, next_phase, implied, is_known, allows}
use Rattle.jb2_numbers.specs.Number.{Wanted, Reading, phase_after, begun, name_at, next_coded, with_implied, with_coded, with_next, step_in, step, steps, most_decisions, read_on, answer_without, answer_in, answer_at}
use Rattle.jb2_numbers.specs.Reader.{AreBounds, Reader, Reads, Stands, Ends, IsUnderway, step_of}
use Rattle.jb2_numbers.specs.Steps.{Takes, Decides, Stops, IsNext, EndsBy, decision_of, state_at}
use Rattle.jb2_numbers.proofs.Bounds.{within_bounds}

reads_on : (wanted : Wanted) (decisions : List Bool) (old new : Reader) (bit : Bool) → Takes old bit new → Reads wanted decisions old →
    Reads wanted (bit ∷ decisions) new
unfolding Reads
reads_on wanted decisions old new bit takes reads =
    (takes.root ∙ reads.0, takes.decisions ∙ ap (λ (ds : List Bool). bit ∷ ds) reads.1, takes.phase ∙ ap (λ (p : Phase). next_phase p bit) reads.2)

pub phase_of : (wanted : Wanted) (decisions : List Bool) (reader : Reader) → Reads wanted decisions reader → reader.phase ≡ phase_after wanted decisions
unfolding Reads
phase_of wanted decisions reader reads = reads.2

name_of_reader : (wanted : Wanted) (decisions : List Bool) (reader : Reader) → Reads wanted decisions reader →
    name reader.root reader.decisions ≡ name wanted.root decisions
unfolding Reads
name_of_reader wanted decisions reader reads = λ i. name (reads.0 i) (reads.1 i)

-- a decision that the phase allows is a possible one
pub underway_on : (wanted : Wanted) (old new : Reader) (bit : Bool) → Takes old bit new → IsTrue (allows old.phase bit) → IsUnderway wanted old →
    IsUnderway wanted new
underway_on wanted old new bit takes allowed underway =
    let reads = underway.1.0 in (
      bit ∷ underway.0,
      (
        reads_on wanted underway.0 old new bit takes reads,
        (underway.1.1, subst (λ (p : Phase). IsTrue (allows p bit)) (phase_of wanted underway.0 old reads) allowed),
      ),
    )

pub stands_begun : (wanted : Wanted) (payload : List ℕ) (place : Option Interval) (reader : Reader) (contexts : Numbers) (zp : Decoder) (count : ℕ) →
    Reads wanted [] reader → Fed payload place zp →
    Stands wanted (chunk zp.table payload zp.ended) count (begun (states_of contexts) place) reader contexts zp count
stands_begun wanted payload place reader contexts zp count reads fed =
    record { reads = reads; states = refl; fed = fed; table = refl; ended = refl; ticks = ticks_none count }

pub step_in_implied : (wanted : Wanted) (chunk : Chunk) (reading : Reading) (phase : Phase) (bit : Bool) → implied phase ≡ Some bit →
    step_in wanted chunk reading phase ≡ with_implied reading bit
step_in_implied wanted chunk reading (Sign low high) bit e = ap (with_next wanted chunk reading) e
step_in_implied wanted chunk reading (Doubling side cutoff) bit e = ap (with_next wanted chunk reading) e
step_in_implied wanted chunk reading (Halving side cutoff range) bit e = ap (with_next wanted chunk reading) e
step_in_implied wanted chunk reading (Known value) bit e = absurd (cc)

pub step_in_coded : (wanted : Wanted) (chunk : Chunk) (reading : Reading) (phase : Phase) → is_known phase ≡ false → implied phase ≡ None →
    step_in wanted chunk reading phase ≡ with_coded reading (name_at wanted reading) (next_coded wanted chunk reading) (next_coded wanted chunk reading).answer
step_in_coded wanted chunk reading (Sign low high) unknown e = ap (with_next wanted chunk reading) e
step_in_coded wanted chunk reading (Doubling side cutoff) unknown e = ap (with_next wanted chunk reading) e
step_in_coded wanted chunk reading (Halving side cutoff range) unknown e = ap (with_next wanted chunk reading) e
step_in_coded wanted chunk reading (Known value) unknown e = absurd (cc)

pub answer_in_coded : (wanted : Wanted) (chunk : Chunk) (reading : Reading) (phase : Phase) → is_known phase ≡ false →
    answer_in wanted chunk reading phase ≡ answer_without (next_coded wanted chunk reading).answer
answer_in_coded wanted chunk reading (Sign low high) unknown = refl
answer_in_coded wanted chunk reading (Doubling side cutoff) unknown = refl
answer_in_coded wanted chunk reading (Halving side cutoff range) unknown = refl
answer_in_coded wanted chunk reading (Known value) unknown = absurd (cc)

pub state_of_cell : (contexts : Numbers) (of : Name) (at : ℕ) → IsCell contexts of at → state_at contexts at ≡ states_of contexts of
unfolding states_of
state_of_cell contexts of at cell = ap (state_in contexts.cells) (sym cell.leads)

module _ (wanted : Wanted) (chunk : Chunk) (before : ℕ) (reading : Reading) (old new : Reader) (contexts contexts' : Numbers) (zp zp' : Decoder)
    (count count' : ℕ) (stands : Stands wanted chunk before reading old contexts zp count) where
  -- an implied decision
  pub stands_implied : (bit : Bool) → Takes old bit new → implied old.phase ≡ Some bit →
      Stands wanted chunk before (step wanted chunk reading) new contexts zp count
  stands_implied bit takes given =
      let phase : implied (phase_after wanted reading.decisions) ≡ Some bit = ap implied (sym (phase_of wanted reading.decisions old stands.reads)) ∙ given in
      let same : step wanted chunk reading ≡ with_implied reading bit = step_in_implied wanted chunk reading (phase_after wanted reading.decisions) bit phase in
      subst (λ (r : Reading). Stands wanted chunk before r new contexts zp count) (sym same) (record {
        reads = reads_on wanted reading.decisions old new bit takes stands.reads;
        states = stands.states;
        fed = stands.fed;
        table = stands.table;
        ended = stands.ended;
        ticks = stands.ticks;
      })

  name_is : name old.root old.decisions ≡ name_at wanted reading
  name_is = name_of_reader wanted reading.decisions old stands.reads

  module _ (at : ℕ) (cell : IsCell contexts (name old.root old.decisions) at) where
    cell_is : IsCell contexts (name_at wanted reading) at
    cell_is = subst (λ (n : Name). IsCell contexts n at) name_is cell

    state_is : state_at contexts at ≡ reading.states (name_at wanted reading)
    state_is = state_of_cell contexts (name_at wanted reading) at cell_is ∙ ap (λ (s : Name → ℕ). s (name_at wanted reading)) stands.states

    outcome_is : outcome_of zp.table (Adaptive (state_at contexts at)) chunk.payload zp.ended reading.place ≡ next_coded wanted chunk reading
    outcome_is =
        ap (λ (s : ℕ). outcome_of zp.table (Adaptive s) chunk.payload zp.ended reading.place) state_is
        ∙ (ap (λ t. outcome_of t (Adaptive (reading.states (name_at wanted reading))) chunk.payload zp.ended reading.place) stands.table
        ∙ ap (λ (e : Bool). outcome_of chunk.table (Adaptive (reading.states (name_at wanted reading))) chunk.payload e reading.place) stands.ended)

    phase_unknown : is_known old.phase ≡ false → is_known (phase_after wanted reading.decisions) ≡ false
    phase_unknown unknown = ap is_known (sym (phase_of wanted reading.decisions old stands.reads)) ∙ unknown

    coded_is : is_known old.phase ≡ false → implied old.phase ≡ None →
        step wanted chunk reading ≡ with_coded reading (name_at wanted reading) (next_coded wanted chunk reading) (next_coded wanted chunk reading).answer
    coded_is unknown coded =
        step_in_coded wanted chunk reading (phase_after wanted reading.decisions) (phase_unknown unknown)
        (ap implied (sym (phase_of wanted reading.decisions old stands.reads)) ∙ coded)

    -- a coded one
    pub stands_coded : (bit : Bool) → Takes old bit new → is_known old.phase ≡ false → implied old.phase ≡ None → Decides at contexts zp bit contexts' zp' →
        zp'.table ≡ zp.table → zp'.ended ≡ zp.ended → count' ≡ ticked_once count →
        Stands wanted chunk before (step wanted chunk reading) new contexts' zp' count'
    stands_coded bit takes unknown coded decides table ended ticks =
        let o : Outcome = next_coded wanted chunk reading in
        let answered : o.answer ≡ decision.Bit bit = ap (λ (x : Outcome). x.answer) (sym outcome_is) ∙ decides.answers chunk.payload reading.place stands.fed in
        let same : step wanted chunk reading ≡ with_coded reading (name_at wanted reading) o (decision.Bit bit) = coded_is unknown coded
        ∙ ap (with_coded reading (name_at wanted reading) o) answered in
        subst (λ (r : Reading). Stands wanted chunk before r new contexts' zp' count') (sym same) (record {
          reads = reads_on wanted reading.decisions old new bit takes stands.reads;
          states = decides.stores chunk.payload reading.place (name_at wanted reading) stands.fed cell_is
              ∙ (ap (λ (x : Outcome). store (states_of contexts) (name_at wanted reading) x.state) outcome_is
              ∙ ap (λ (s : Name → ℕ). store s (name_at wanted reading) o.state) stands.states);
          fed = subst (λ (x : Outcome). Fed chunk.payload x.place zp') outcome_is (decides.feeds chunk.payload reading.place stands.fed);
          table = table ∙ stands.table;
          ended = ended ∙ stands.ended;
          ticks = ticks_next reading.coded before count count' stands.ticks ticks;
        })

    -- the definition ends where no bit is decoded
    ends_by : (stop : NumberStep) (given : Decision) → decision_of stop ≡ Some given → step_of (answer_without given) ≡ stop →
        ((o : Outcome) → with_coded reading (name_at wanted reading) o given ≡ reading) →
        is_known old.phase ≡ false → implied old.phase ≡ None → Stops at contexts zp stop → Ends wanted chunk reading stop
    ends_by stop given is answers still unknown coded stops =
        let o : Outcome = next_coded wanted chunk reading in
        let answered : o.answer ≡ given = ap (λ (x : Outcome). x.answer) (sym outcome_is) ∙ stops.answers chunk.payload reading.place given stands.fed is in
        record {
          last = coded_is unknown coded ∙ (ap (with_coded reading (name_at wanted reading) o) answered ∙ still o);
          answer = ap step_of (answer_in_coded wanted chunk reading (phase_after wanted reading.decisions) (phase_unknown unknown)
              ∙ ap answer_without answered) ∙ answers;
        }

    pub ends_coded : (stop : NumberStep) → is_known old.phase ≡ false → implied old.phase ≡ None → Stops at contexts zp stop → Ends wanted chunk reading stop
    ends_coded (told.Number value) unknown coded stops = absurd (cc (stops.kind))
    ends_coded told.NeedBytes unknown coded stops = ends_by told.NeedBytes decision.NeedBytes refl refl (λ o. refl) unknown coded stops
    ends_coded told.Exhausted unknown coded stops = ends_by told.Exhausted decision.Exhausted refl refl (λ o. refl) unknown coded stops
    ends_coded told.OutOfMemory unknown coded stops = absurd (cc (stops.kind))

  -- where no bit is decoded, all stand as before
  pub stands_still : new ≡ old → states_of contexts' ≡ states_of contexts → zp' ≡ zp → count' ≡ count →
      Stands wanted chunk before reading new contexts' zp' count'
  stands_still same states zp_same count_same = record {
    reads = subst (Reads wanted reading.decisions) (sym same) stands.reads;
    states = states ∙ stands.states;
    fed = subst (Fed chunk.payload reading.place) (sym zp_same) stands.fed;
    table = ap (λ (d : Decoder). d.table) zp_same ∙ stands.table;
    ended = ap (λ (d : Decoder). d.ended) zp_same ∙ stands.ended;
    ticks = count_same ∙ stands.ticks;
  }

  pub ends_known : (value : ℤ) → old.phase ≡ Known value → Ends wanted chunk reading (told.Number value)
  ends_known value known =
      let phase : phase_after wanted reading.decisions ≡ Known value = sym (phase_of wanted reading.decisions old stands.reads) ∙ known in
      record {
        last = ap (step_in wanted chunk reading) phase;
        answer = ap (λ (p : Phase). step_of (answer_in wanted chunk reading p)) phase;
      }

-- steps after the last one

last_or_before : (n m : ℕ) → n ≤ suc m → (n ≡ suc m) ⊎ (n ≤ m)
last_or_before n m h = search arith

pub steps_ended : (wanted : Wanted) (chunk : Chunk) (reading : Reading) (m n : ℕ) → n ≤ m →
    step wanted chunk (steps n wanted chunk reading) ≡ steps n wanted chunk reading →
    steps m wanted chunk reading ≡ steps n wanted chunk reading
steps_ended wanted chunk reading zero n less last = let none : zero ≡ n = omega arith in ap (λ (k : ℕ). steps k wanted chunk reading) none
steps_ended wanted chunk reading (suc m) n less last =
    elim (last_or_before n m less) [
      | inl same ↦ ap (λ (k : ℕ). steps k wanted chunk reading) (sym same)
      | inr before ↦ ap (step wanted chunk) (steps_ended wanted chunk reading m n before last) ∙ last
    ]

pub read_on-ended : (wanted : Wanted) (chunk : Chunk) (reading : Reading) (n : ℕ) → n ≤ 36 →
    step wanted chunk (steps n wanted chunk reading) ≡ steps n wanted chunk reading →
    read_on wanted chunk reading ≡ steps n wanted chunk reading
unfolding most_decisions
read_on-ended wanted chunk reading n few last = steps_ended wanted chunk reading 36 n few last

-- ---- a run of steps, which ends

pub steps_add : (wanted : Wanted) (from : Chunk) (reading : Reading) (m n : ℕ) →
    steps m wanted from (steps n wanted from reading) ≡ steps (m + n) wanted from reading
steps_add wanted from reading zero n = let e : n ≡ zero + n = omega arith in ap (λ (k : ℕ). steps k wanted from reading) e
steps_add wanted from reading (suc m) n =
    let e : suc (m + n) ≡ suc m + n = omega arith in
    ap (step wanted from) (steps_add wanted from reading m n) ∙ ap (λ (k : ℕ). steps k wanted from reading) e

-- it began earlier
pub ends_earlier : (wanted : Wanted) (chunk : Chunk) (before : ℕ) (reading : Reading) (given : NumberStep) (first old new : Reader) (contexts : Numbers)
    (zp : Decoder) (ticks n : ℕ) →
    length old.decisions ≡ n + length first.decisions → EndsBy wanted chunk before (steps n wanted chunk reading) given old new contexts zp ticks →
    EndsBy wanted chunk before reading given first new contexts zp ticks
ends_earlier wanted chunk before reading given first old new contexts zp ticks n later ends =
    let all = steps_add wanted chunk reading ends.count n in
    let more : length new.decisions ≡ ends.count + length old.decisions = ends.more in
    record {
      count = ends.count + n;
      more = omega arith;
      few = ends.few;
      stands = subst (λ (r : Reading). Stands wanted chunk before r new contexts zp ticks) all ends.stands;
      ends = λ memory. subst (λ (r : Reading). Ends wanted chunk r given) all (ends.ends memory);
    }

-- so what the definition reads on to
pub record Comes (wanted : Wanted) (chunk : Chunk) (before : ℕ) (reading : Reading) (given : NumberStep) (new : Reader) (contexts : Numbers) (zp : Decoder)
    (ticks : ℕ) : Type 0 where
  pub answer : given ≢ told.OutOfMemory → given ≡ step_of (answer_at wanted chunk (read_on wanted chunk reading))
  pub stands : given ≢ told.OutOfMemory → Stands wanted chunk before (read_on wanted chunk reading) new contexts zp ticks

pub ends_there : (wanted : Wanted) (chunk : Chunk) (before : ℕ) (reading : Reading) (given : NumberStep) (old new : Reader) (contexts : Numbers)
    (zp : Decoder) (ticks : ℕ) →
    EndsBy wanted chunk before reading given old new contexts zp ticks → Comes wanted chunk before reading given new contexts zp ticks
ends_there wanted chunk before reading given old new contexts zp ticks ends =
    let more : length new.decisions ≡ ends.count + length old.decisions = ends.more in
    let few : length new.decisions ≤ 36 = ends.few in
    let within : ends.count ≤ 36 = omega (arith, more, few) in
    record {
      answer = λ memory. let end = ends.ends memory in sym (ap (λ (r : Reading). step_of (answer_at wanted chunk r))
          (read_on-ended wanted chunk reading ends.count within end.last) ∙ end.answer);
      stands = λ memory. let end = ends.ends memory in subst (λ (r : Reading). Stands wanted chunk before r new contexts zp ticks)
          (sym (read_on-ended wanted chunk reading ends.count within end.last)) ends.stands;
    }

-- ---- a step of the reader

-- where room was made, all else stands
pub stands_moved : (wanted : Wanted) (chunk : Chunk) (before : ℕ) (reading : Reading) (reader : Reader) (contexts contexts' : Numbers) (zp : Decoder)
    (count : ℕ) → states_of contexts' ≡ states_of contexts →
    Stands wanted chunk before reading reader contexts zp count → Stands wanted chunk before reading reader contexts' zp count
stands_moved wanted chunk before reading reader contexts contexts' zp count same stands = record {
  reads = stands.reads;
  states = same ∙ stands.states;
  fed = stands.fed;
  table = stands.table;
  ended = stands.ended;
  ticks = stands.ticks;
}

-- what a decision does to all that stands
abbrev pub Moves : Reader → Numbers → Decoder → ℕ → Reader → Numbers → Decoder → ℕ → Type 0
Moves old contexts zp count new contexts' zp' count' = (wanted : Wanted) (chunk : Chunk) (before : ℕ) (reading : Reading) →
    Stands wanted chunk before reading old contexts zp count → Stands wanted chunk before (step wanted chunk reading) new contexts' zp' count'

module _ (old : Reader) (at : ℕ) (contexts contexts' : Numbers) (zp zp' : Decoder) (count count' : ℕ) where
  abbrev Decided : Bool → Type 0
  Decided bit = (new : Reader) (wanted : Wanted) (chunk : Chunk) (before : ℕ) (reading : Reading) → Takes old bit new →
      Stands wanted chunk before reading old contexts zp count → Stands wanted chunk before (step wanted chunk reading) new contexts' zp' count'

  abbrev Ended : NumberStep → Type 0
  Ended end = (wanted : Wanted) (chunk : Chunk) (before : ℕ) (reading : Reading) → Stands wanted chunk before reading old contexts zp count →
      Ends wanted chunk reading end

  pub decide_goes : (result : Result Bool NumberStep) → IsCell contexts (name old.root old.decisions) at → is_known old.phase ≡ false →
      implied old.phase ≡ None →
      IfOk result (λ (bit : Bool). Decides at contexts zp bit contexts' zp') → zp'.table ≡ zp.table → zp'.ended ≡ zp.ended →
      OnOk result (count' ≡ ticked_once count) → IfOk result Decided
  decide_goes (Ok bit) cell unknown coded decides table ended ticks = λ new wanted chunk before reading takes stands.
      stands_coded wanted chunk before reading old new contexts contexts' zp zp' count count' stands at cell bit takes unknown coded decides table ended ticks
  decide_goes (Err stop) cell unknown coded decides table ended ticks = tt

  pub decide_ends : (result : Result Bool NumberStep) → IsCell contexts (name old.root old.decisions) at → is_known old.phase ≡ false →
      implied old.phase ≡ None →
      IfErr result (λ (stop : NumberStep). Stops at contexts zp stop) → IfErr result Ended
  decide_ends (Ok bit) cell unknown coded stops = tt
  decide_ends (Err stop) cell unknown coded stops = λ wanted chunk before reading stands.
      ends_coded wanted chunk before reading old old contexts contexts zp zp count count stands at cell stop unknown coded stops

pub decide_implied : (old : Reader) (contexts : Numbers) (zp : Decoder) (count : ℕ) (bit : Bool) → implied old.phase ≡ Some bit →
    (new : Reader) (wanted : Wanted) (chunk : Chunk) (before : ℕ) (reading : Reading) → Takes old bit new →
    Stands wanted chunk before reading old contexts zp count → Stands wanted chunk before (step wanted chunk reading) new contexts zp count
decide_implied old contexts zp count bit given new wanted chunk before reading takes stands =
    stands_implied wanted chunk before reading old new contexts contexts zp zp count count stands bit takes given

pub on_ok : {T E P : Type 0} (result : Result T E) → P → OnOk result P
on_ok (Ok value) p = p
on_ok (Err error) p = tt

-- what the cell of the next decision answers, where there is none
abbrev pub Finds : Reader → NumberStep → Type 0
Finds new end = (end ≡ told.OutOfMemory) ⊎ ((value : ℤ) × (new.phase ≡ Known value) × (end ≡ told.Number value))

ended_by : (wanted : Wanted) (chunk : Chunk) (before : ℕ) (reading : Reading) (new : Reader) (contexts : Numbers) (zp : Decoder) (count : ℕ)
    (end : NumberStep) → Finds new end →
    Stands wanted chunk before reading new contexts zp count → end ≢ told.OutOfMemory → Ends wanted chunk reading end
ended_by wanted chunk before reading new contexts zp count end (inl memory) stands some = absurd (some memory)
ended_by wanted chunk before reading new contexts zp count end (inr found) stands some =
    subst (Ends wanted chunk reading) (sym found.2) (ends_known wanted chunk before reading new new contexts contexts zp zp count count stands found.0 found.1)

pub step_ends : (result : Result ℕ NumberStep) (old new : Reader) (contexts contexts' : Numbers) (zp zp' : Decoder) (count count' : ℕ) →
    IfErr result (Finds new) →
    length new.decisions ≡ suc (length old.decisions) → length old.decisions < 36 → Moves old contexts zp count new contexts' zp' count' →
    IfErr result (λ (end : NumberStep). (wanted : Wanted) (chunk : Chunk) (before : ℕ) (reading : Reading) →
    Stands wanted chunk before reading old contexts zp count →
    EndsBy wanted chunk before reading end old new contexts' zp' count')
step_ends (Ok next) old new contexts contexts' zp zp' count count' found more few moves = tt
step_ends (Err end) old new contexts contexts' zp zp' count count' found more few moves = λ wanted chunk before reading stands. record {
  count = 1;
  more = omega (arith, more);
  few = omega (arith, more, few);
  stands = moves wanted chunk before reading stands;
  ends = ended_by wanted chunk before (step wanted chunk reading) new contexts' zp' count' end found (moves wanted chunk before reading stands);
}

-- no decision was made
pub none_ends : (wanted : Wanted) (chunk : Chunk) (before : ℕ) (reading : Reading) (reader : Reader) (contexts : Numbers) (zp : Decoder) (count : ℕ)
    (end : NumberStep) → length reader.decisions ≤ 36 →
    Stands wanted chunk before reading reader contexts zp count → Ends wanted chunk reading end →
    EndsBy wanted chunk before reading end reader reader contexts zp count
none_ends wanted chunk before reading reader contexts zp count end few stands ends = record {
  count = 0;
  more = omega arith;
  few = few;
  stands = stands;
  ends = λ memory. ends;
}

pub known_ends : (wanted : Wanted) (chunk : Chunk) (before : ℕ) (reading : Reading) (reader : Reader) (contexts : Numbers) (zp : Decoder) (count : ℕ)
    (value : ℤ) → length reader.decisions ≤ 36 → reader.phase ≡ Known value →
    Stands wanted chunk before reading reader contexts zp count → EndsBy wanted chunk before reading (told.Number value) reader reader contexts zp count
known_ends wanted chunk before reading reader contexts zp count value few known stands =
    none_ends wanted chunk before reading reader contexts zp count (told.Number value) few stands
    (ends_known wanted chunk before reading reader reader contexts contexts zp zp count count stands value known)

name_taken : (old new : Reader) (bit : Bool) → Takes old bit new → name new.root new.decisions ≡ further (name old.root old.decisions) bit
name_taken old new bit takes = λ i. name (takes.root i) (takes.decisions i)

pub step_next : (result : Result ℕ NumberStep) (old new : Reader) (bit : Bool) (at : ℕ) (contexts contexts' : Numbers) →
    IfOk result (λ (next : ℕ). (of : Name) → IsCell contexts of at → IsCell contexts' (further of bit) next) →
    OnOk result (is_known new.phase ≡ false) → IsCell contexts (name old.root old.decisions) at → Takes old bit new → length old.decisions < 36 →
    IfOk result (λ (next : ℕ). IsNext old new contexts' next)
step_next (Ok next) old new bit at contexts contexts' leads unknown cell takes few =
    let more : length new.decisions ≡ suc (length old.decisions) = ap length takes.decisions in
    record {
      unknown = unknown;
      cell = subst (λ (of : Name). IsCell contexts' of next) (sym (name_taken old new bit takes)) (leads (name old.root old.decisions) cell);
      one = omega (arith, more);
      few = omega (arith, more, few);
    }
step_next (Err end) old new bit at contexts contexts' leads unknown cell takes few = tt

-- ---- bounds of an answer

le_of : (a b : ℤ) → IsTrue (int_le a b) → a ≤ℤ b
le_of a b h = search (arith, h)

pub number_same : (a b : ℤ) → told.Number a ≡ told.Number b → a ≡ b
number_same a b e = cc

pub told_within : (wanted : Wanted) (reader : Reader) (value : ℤ) → AreBounds wanted.low wanted.high → IsUnderway wanted reader → reader.phase ≡ Known value →
    (wanted.low ≤ℤ value) × (value ≤ℤ wanted.high)
told_within wanted reader value bounds underway known =
    let within = within_bounds wanted underway.0 value underway.1.1 (sym (phase_of wanted underway.0 reader underway.1.0) ∙ known) in
    (le_of wanted.low value within.0, le_of value wanted.high within.1)

-- ---- exits

pub exit_by : (result : Result ℕ NumberStep) (P : NumberStep → Type 0) (end : NumberStep) → (y : NumberStep) × (result ≡ Err y) × (y ≡ end) → P end →
    IfErr result P
exit_by result P end exit p = subst (λ (r : Result ℕ NumberStep). IfErr r P) (sym (exit.1 ∙ ap Err exit.2)) p
