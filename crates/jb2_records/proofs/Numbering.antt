-- A number that is read while a decoder takes a chunk piece by piece, beside the number that the chunk has.
use Rattle.std.proofs.Common.{◌≡◌, ◌≢◌, ◌≤◌, ◌<◌, ◌+◌, ℕ, zero, suc, Bool, false, List, [], length, refl, sym, ap, subst, ◌∙◌, arith}
use Rattle.std.specs.Prelude.{Option, ℤ}
use Rattle.zp_table.specs.declared.rows.Row.{Row}
use Rattle.zp_table.specs.Rows.{IsTable}
use Rattle.djvu_base.proofs.Ticks.{ticked_grows, ticks_none}
use Rattle.zp_decoder.specs.declared.decoder.Decision.{Decision}
use Rattle.zp_decoder.specs.declared.decoder.Decision.TheVariants as decision
use Rattle.zp_decoder.specs.Decision.{Interval, Adaptive, outcome_of}
use Rattle.zp_decoder.specs.Runs.{IsStanding, room}
use Rattle.zp_decoder.specs.Decoder.{Decoder, Fed, bytes_wanted, room_left}
use Rattle.zp_decoder.specs.Chunk.{Chunk, chunk, IsReady}
use Rattle.zp_decoder.specs.States.{AreBelow}
use Rattle.zp_decoder.proofs.Lemmas.{room_is, wanted as wants_bytes}
use Rattle.jb2_numbers.specs.Phases.{Phase, Sign, Doubling, Halving, Known}
use Rattle.jb2_numbers.specs.declared.reader.NumberStep.{NumberStep}
use Rattle.jb2_numbers.specs.declared.reader.NumberStep.TheVariants as step
use Rattle.jb2_numbers.specs.Answer.{Answer}
use Rattle.jb2_numbers.specs.Answer as number
use Rattle.jb2_numbers.specs.Kept.{Numbers, states_of}
use Rattle.jb2_numbers.specs.Contexts.{Name}
use Rattle.jb2_numbers.specs.Number.{Wanted, Reading, begun, phase_after, name_at, next_coded, with_coded}
use Rattle.jb2_numbers.specs.Number.{step as further, steps, most_decisions, read_on, answer_without, answer_in, answer_at, ArePossible}
use Rattle.jb2_numbers.specs.Reader as reading
use Rattle.jb2_numbers.specs.Reader.{Reader, AreBounds, Reads, IsUnderway, step_of}
use Rattle.jb2_numbers.proofs.Lemmas.{Behind, step_in_implied, step_in_coded, answer_in_coded, steps_add, read_on-ends_from, possible_from, stays_behind}
use Rattle.jb2_numbers.proofs.Lemmas.{never_exhausted, stopped_anywhere, number_stays, Turns, turns, knows, implies, codes}
use Rattle.jb2_records.specs.Taking.{Unread, Feeds, Takes, TakesMore, with_bytes, Becomes, stays, grows, Advances, Pends, Counts}
use Rattle.jb2_records.proofs.Offering.{takes_more, standing_there, becomes_after, becomes_whole, becomes_taken, all_taken}

-- ---- one reading

number_without : (d : Decision) (value : ℤ) → answer_without d ≡ number.Number value → ⊥
number_without (decision.Bit bit) value e = cc
number_without decision.NeedBytes value e = cc
number_without decision.Exhausted value e = cc

exhausted_without : (d : Decision) → answer_without d ≡ number.Exhausted → d ≡ decision.Exhausted
exhausted_without (decision.Bit bit) e = absurd (cc)
exhausted_without decision.NeedBytes e = absurd (cc)
exhausted_without decision.Exhausted e = refl

module _ (wanted : Wanted) (from : Chunk) (at : Reading) where
  -- a number that is answered is known
  known_in : (phase : Phase) (value : ℤ) → answer_in wanted from at phase ≡ number.Number value → phase ≡ Known value
  known_in (Sign low high) value e = absurd (number_without (next_coded wanted from at).answer value e)
  known_in (Doubling side cutoff) value e = absurd (number_without (next_coded wanted from at).answer value e)
  known_in (Halving side cutoff range) value e = absurd (number_without (next_coded wanted from at).answer value e)
  known_in (Known other) value e = cc

  exhausted_in : (phase : Phase) → answer_in wanted from at phase ≡ number.Exhausted → (next_coded wanted from at).answer ≡ decision.Exhausted
  exhausted_in (Sign low high) e = exhausted_without (next_coded wanted from at).answer e
  exhausted_in (Doubling side cutoff) e = exhausted_without (next_coded wanted from at).answer e
  exhausted_in (Halving side cutoff range) e = exhausted_without (next_coded wanted from at).answer e
  exhausted_in (Known other) e = absurd (cc)

  -- where no step follows, and bytes are wanted, the next decision isn't determined
  waits_by : (given : Decision) → (next_coded wanted from at).answer ≡ given →
      with_coded at (name_at wanted at) (next_coded wanted from at) (next_coded wanted from at).answer ≡ at →
      answer_without (next_coded wanted from at).answer ≡ number.NeedBytes → (next_coded wanted from at).answer ≡ decision.NeedBytes
  waits_by (decision.Bit bit) e last needs =
      let more : suc (length at.decisions) ≡ length at.decisions =
      ap (λ (r : Reading). length r.decisions) (sym (ap (with_coded at (name_at wanted at) (next_coded wanted from at)) e) ∙ last) in
      absurd (omega arith)
  waits_by decision.NeedBytes e last needs = e
  waits_by decision.Exhausted e last needs = absurd (let other = sym (ap answer_without e) ∙ needs in cc)

  waits_in : Turns wanted at.decisions → further wanted from at ≡ at → answer_at wanted from at ≡ number.NeedBytes →
      (next_coded wanted from at).answer ≡ decision.NeedBytes
  waits_in (knows value e) last needs = absurd (let other = sym (ap (answer_in wanted from at) e) ∙ needs in cc)
  waits_in (implies bit e) last needs =
      let more : suc (length at.decisions) ≡ length at.decisions =
      ap (λ (r : Reading). length r.decisions) (sym (step_in_implied wanted from at (phase_after wanted at.decisions) bit e) ∙ last) in
      absurd (omega arith)
  waits_in (codes unknown none) last needs =
      waits_by (next_coded wanted from at).answer refl (sym (step_in_coded wanted from at (phase_after wanted at.decisions) unknown none) ∙ last)
      (sym (answer_in_coded wanted from at (phase_after wanted at.decisions) unknown) ∙ needs)

-- a reading that has ended stands still
still : (wanted : Wanted) (from : Chunk) (at : Reading) (count : ℕ) → further wanted from at ≡ at → steps count wanted from at ≡ at
still wanted from at zero last = refl
still wanted from at (suc count) last = ap (further wanted from) (still wanted from at count last) ∙ last

-- a reading that stopped after any number of steps goes on to where it would have come
again : (wanted : Wanted) (from : Chunk) (at : Reading) (count : ℕ) → AreBounds wanted.low wanted.high → ArePossible wanted at.decisions →
    read_on wanted from (steps count wanted from at) ≡ read_on wanted from at
again wanted from at count bounds possible =
    let turned : most_decisions + count ≡ count + most_decisions = omega arith in
    steps_add wanted from at most_decisions count ∙ ap (λ (n : ℕ). steps n wanted from at) turned ∙ sym (steps_add wanted from at count most_decisions)
    ∙ still wanted from (read_on wanted from at) count (read_on-ends_from wanted from at bounds possible)

-- the same with whatever comes behind the bytes so far
again_later : (wanted : Wanted) (from later : Chunk) (at : Reading) (count : ℕ) → AreBounds wanted.low wanted.high → ArePossible wanted at.decisions →
    IsReady from at.states at.place → Becomes from later → read_on wanted later (steps count wanted from at) ≡ read_on wanted later at
again_later wanted from later at count bounds possible ready (stays e) =
    subst (λ (c : Chunk). read_on wanted c (steps count wanted from at) ≡ read_on wanted c at) (sym e) (again wanted from at count bounds possible)
again_later wanted from later at count bounds possible ready (grows goes more ended e) =
    let short : chunk from.table from.payload false ≡ from = ap (λ (b : Bool). chunk from.table from.payload b) (sym goes) in
    subst (λ (c : Chunk). read_on wanted c (steps count wanted from at) ≡ read_on wanted c at) (sym e)
    (subst (λ (c : Chunk). read_on wanted (with_bytes from more ended) (steps count wanted c at) ≡ read_on wanted (with_bytes from more ended) at) short
    (stopped_anywhere wanted from.table from.payload more ended at count bounds possible
    (record { table = ready.table; below = ready.below; standing = ready.standing })))

-- a number that some bytes determine stays
known_later : (wanted : Wanted) (from later : Chunk) (at : Reading) (value : ℤ) → AreBounds wanted.low wanted.high → ArePossible wanted at.decisions →
    IsReady from at.states at.place → answer_at wanted from (read_on wanted from at) ≡ number.Number value → Becomes from later →
    read_on wanted later at ≡ read_on wanted from at
known_later wanted from later at value bounds possible ready known (stays e) = ap (λ (c : Chunk). read_on wanted c at) e
known_later wanted from later at value bounds possible ready known (grows goes more ended e) =
    let short : chunk from.table from.payload false ≡ from = ap (λ (b : Bool). chunk from.table from.payload b) (sym goes) in
    ap (λ (c : Chunk). read_on wanted c at) e
    ∙ subst (λ (c : Chunk). read_on wanted (with_bytes from more ended) at ≡ read_on wanted c at) short
    (number_stays wanted from.table from.payload more ended at value bounds possible
    (record { table = ready.table; below = ready.below; standing = ready.standing })
    (subst (λ (c : Chunk). answer_at wanted c (read_on wanted c at) ≡ number.Number value) (sym short) known))

-- ---- a reader

-- what a reader tells is what the reading comes to
pub answer_number : (a : Answer) (value : ℤ) → step_of a ≡ step.Number value → a ≡ number.Number value
answer_number (number.Number other) value e = cc
answer_number number.NeedBytes value e = absurd (cc)
answer_number number.Exhausted value e = absurd (cc)

pub answer_needs : (a : Answer) → step_of a ≡ step.NeedBytes → a ≡ number.NeedBytes
answer_needs (number.Number other) e = absurd (cc)
answer_needs number.NeedBytes e = refl
answer_needs number.Exhausted e = absurd (cc)

pub answer_exhausted : (a : Answer) → step_of a ≡ step.Exhausted → a ≡ number.Exhausted
answer_exhausted (number.Number other) e = absurd (cc)
answer_exhausted number.NeedBytes e = absurd (cc)
answer_exhausted number.Exhausted e = refl

-- after so many steps
record Moves (wanted : Wanted) (from : Chunk) (before : ℕ) (at : Reading) (new : Reader) (contexts : Numbers) (next : Decoder) (later : ℕ) : Type 0 where
  count : ℕ
  stands : reading.Stands wanted from before (steps count wanted from at) new contexts next later

module _ (wanted : Wanted) (from : Chunk) (before : ℕ) (at : Reading) (old new : Reader) (contexts next_contexts : Numbers) (zp next : Decoder)
    (count later : ℕ) where
  moves_by : (given kind : NumberStep) → given ≡ kind → Advances old new contexts next_contexts zp next count later given →
      reading.Stands wanted from before at old contexts zp count → Moves wanted from before at new next_contexts next later
  moves_by given step.OutOfMemory e on stands =
      let (more, there) = on.out_of_memory wanted from before at e stands in record { count = more; stands = there }
  moves_by given (step.Number value) e on stands =
      record { count = most_decisions; stands = on.stands wanted from before at (λ memory. let other = sym e ∙ memory in cc) stands }
  moves_by given step.NeedBytes e on stands =
      record { count = most_decisions; stands = on.stands wanted from before at (λ memory. let other = sym e ∙ memory in cc) stands }
  moves_by given step.Exhausted e on stands =
      record { count = most_decisions; stands = on.stands wanted from before at (λ memory. let other = sym e ∙ memory in cc) stands }

module _ (wanted : Wanted) (source : Chunk) (before : ℕ) (states : Name → ℕ) (place : Option Interval) (old new : Reader) (contexts next_contexts : Numbers)
    (unread : Unread) (zp next : Decoder) (count later : ℕ) (given : NumberStep) (bounds : AreBounds wanted.low wanted.high)
    (on : Advances old new contexts next_contexts zp next count later given) (feeds : Feeds unread zp)
    (pends : Pends wanted source before states place old contexts unread zp count) where
  abbrev short : Chunk
  short = chunk source.table pends.takes.taken zp.ended

  abbrev there : Reading
  there = read_on wanted short pends.at

  abbrev takes_there : (at : Reading) → reading.Stands wanted short before at new next_contexts next later → Takes source at.place unread next
  takes_there at stands = record {
    taken = pends.takes.taken;
    payload = pends.takes.payload;
    fed = stands.fed;
    standing = on.standing pends.takes.taken at.place stands.fed;
    table = on.table ∙ pends.takes.table;
    ended = pends.takes.ended;
  }

  pends_by : Moves wanted short before pends.at new next_contexts next later → Pends wanted source before states place new next_contexts unread next later
  pends_by moves =
      let at : Reading = steps moves.count wanted short pends.at in
      let behind : Behind short pends.at at = stays_behind wanted short pends.ready.table pends.at moves.count pends.ready.below pends.ready.standing in
      subst (λ (e : Bool). reading.Stands wanted (chunk source.table pends.takes.taken e) before at new next_contexts next later →
      IsReady (chunk source.table pends.takes.taken e) at.states at.place →
      ((later : Chunk) → Becomes (chunk source.table pends.takes.taken e) later → read_on wanted later at ≡ read_on wanted later (begun states place)) →
      Pends wanted source before states place new next_contexts unread next later)
      on.ended
      (λ stands ready goes. record {
        at = at;
        takes = takes_there at moves.stands;
        stands = stands;
        possible = possible_from wanted short pends.at moves.count bounds pends.possible;
        ready = ready;
        goes = goes;
      })
      moves.stands
      (record { table = pends.ready.table; below = behind.states; standing = behind.stands })
      (λ after becomes. again_later wanted short after pends.at moves.count bounds pends.possible pends.ready becomes ∙ pends.goes after becomes)

  -- whatever was answered, the reader goes on from there
  pub pends_on : Pends wanted source before states place new next_contexts unread next later
  pends_on = pends_by (moves_by wanted short before pends.at old new contexts next_contexts zp next count later given given refl on pends.stands)

  module _ (some : given ≢ step.OutOfMemory) where
    here : reading.Stands wanted short before there new next_contexts next later
    here = on.stands wanted short before pends.at some pends.stands

    told : given ≡ step_of (answer_at wanted short there)
    told = on.answer wanted short before pends.at some pends.stands

    -- where this is what the chunk has
    counts_by : there ≡ read_on wanted source (begun states place) → given ≡ step_of (answer_at wanted source (read_on wanted source (begun states place))) →
        Counts wanted source before states place given next_contexts unread next later
    counts_by same answer =
        let now : reading.Stands wanted short before (read_on wanted source (begun states place)) new next_contexts next later =
        subst (λ (r : Reading). reading.Stands wanted short before r new next_contexts next later) same here in
        record { answer = answer; states_are = now.states; takes = takes_there (read_on wanted source (begun states place)) now; ticks = now.ticks }

    counts_whole : source ≡ short → Counts wanted source before states place given next_contexts unread next later
    counts_whole e =
        let same : there ≡ read_on wanted source (begun states place) = ap (λ (c : Chunk). read_on wanted c pends.at) (sym e) ∙ pends.goes source (stays e) in
        counts_by same (told ∙ ap (λ (c : Chunk). step_of (answer_at wanted c there)) (sym e) ∙ ap (λ (r : Reading). step_of (answer_at wanted source r)) same)

    counts_known : (value : ℤ) → given ≡ step.Number value → Becomes short source →
        Counts wanted source before states place given next_contexts unread next later
    counts_known value e becomes =
        let answered : answer_at wanted short there ≡ number.Number value = answer_number _ value (sym told ∙ e) in
        let known : phase_after wanted there.decisions ≡ Known value = known_in wanted short there (phase_after wanted there.decisions) value answered in
        let same : there ≡ read_on wanted source (begun states place) =
        sym (known_later wanted short source pends.at value bounds pends.possible pends.ready answered becomes) ∙ pends.goes source becomes in
        counts_by same
        (e ∙ sym (ap (λ (p : Phase). step_of (answer_in wanted source there p)) known) ∙ ap (λ (r : Reading). step_of (answer_at wanted source r)) same)

    counts_part : Becomes short source → zp.ended ≡ false → (kind : NumberStep) → given ≡ kind → given ≢ step.NeedBytes →
        Counts wanted source before states place given next_contexts unread next later
    counts_part becomes goes (step.Number value) e known = counts_known value e becomes
    counts_part becomes goes step.NeedBytes e known = absurd (known e)
    counts_part becomes goes step.Exhausted e known =
        let past : (next_coded wanted short there).answer ≡ decision.Exhausted =
        exhausted_in wanted short there (phase_after wanted there.decisions) (answer_exhausted _ (sym told ∙ e)) in
        absurd (never_exhausted source.table (Adaptive (there.states (name_at wanted there))) pends.takes.taken there.place
        (ap (λ (b : Bool). (outcome_of source.table (Adaptive (there.states (name_at wanted there))) pends.takes.taken b there.place).answer) (sym goes)
        ∙ past))
    counts_part becomes goes step.OutOfMemory e known = absurd (some e)

    counts_become : Becomes short source → given ≢ step.NeedBytes → Counts wanted source before states place given next_contexts unread next later
    counts_become (stays e) known = counts_whole e
    counts_become (grows goes more ended e) known = counts_part (grows goes more ended e) goes given refl known

    -- a reader that answered without wanting bytes
    pub counts_end : given ≢ step.NeedBytes → Counts wanted source before states place given next_contexts unread next later
    counts_end known = counts_become (becomes_whole source pends.at.place unread zp feeds pends.takes) known

    -- one that wants bytes where none are left
    pub counts_need : given ≡ step.NeedBytes → (new_unread : Unread) (last : Decoder) →
        ((taken : List ℕ) (place : Option Interval) → Fed taken place next → 0 < bytes_wanted taken place → unread.left ≡ []) →
        TakesMore unread new_unread next last → Counts wanted source before states place given next_contexts new_unread last later
    counts_need needs new_unread last none more =
        let waits : (next_coded wanted short there).answer ≡ decision.NeedBytes =
        waits_in wanted short there (turns wanted there.decisions) (read_on-ends_from wanted short pends.at bounds pends.possible)
        (answer_needs _ (sym told ∙ needs)) in
        let left : unread.left ≡ [] = none pends.takes.taken there.place here.fed
        (wants_bytes source.table (Adaptive (there.states (name_at wanted there))) pends.takes.taken zp.ended there.place waits) in
        let counts : Counts wanted source before states place given next_contexts unread next later =
        counts_whole (sym (all_taken source pends.at.place unread zp feeds pends.takes left)) in
        record {
          answer = counts.answer;
          states_are = counts.states_are;
          takes = takes_more source _ unread new_unread next last more counts.takes;
          ticks = counts.ticks;
        }

-- a reader that waits does so with more bytes taken
offered : (wanted : Wanted) (source : Chunk) (before : ℕ) (states : Name → ℕ) (place : Option Interval) (reader : Reader) (contexts : Numbers)
    (old new : Unread) (zp next : Decoder) (count : ℕ) → Feeds old zp → Feeds new next → TakesMore old new zp next →
    Pends wanted source before states place reader contexts old zp count → Pends wanted source before states place reader contexts new next count
offered wanted source before states place reader contexts old new zp next count feeds later on pends =
    let after : Takes source pends.at.place new next = takes_more source pends.at.place old new zp next on pends.takes in
    record {
      at = pends.at;
      takes = after;
      stands = record {
        reads = pends.stands.reads;
        states = pends.stands.states;
        fed = after.fed;
        table = after.table;
        ended = refl;
        ticks = pends.stands.ticks;
      };
      possible = pends.possible;
      ready = record { table = pends.ready.table; below = pends.ready.below; standing = after.standing };
      goes = λ last becomes.
          pends.goes last (becomes_after (chunk source.table pends.takes.taken zp.ended) (chunk source.table after.taken next.ended) last
          (becomes_taken source.table pends.takes.taken old new zp next feeds later on) becomes);
    }

pub pends_more : (wanted : Wanted) (source : Chunk) (before : ℕ) (states : Name → ℕ) (place : Option Interval) (old new : Reader)
    (contexts next_contexts : Numbers) (unread : Unread) (zp next : Decoder) (count later : ℕ) (given : NumberStep) → AreBounds wanted.low wanted.high →
    Advances old new contexts next_contexts zp next count later given → Feeds unread zp →
    Pends wanted source before states place old contexts unread zp count → (new_unread : Unread) (last : Decoder) → Feeds new_unread last →
    TakesMore unread new_unread next last → Pends wanted source before states place new next_contexts new_unread last later
pends_more wanted source before states place old new contexts next_contexts unread zp next count later given bounds on feeds pends new_unread last fed more =
    offered wanted source before states place new next_contexts unread new_unread next last later
    (record { table = subst (λ (t : List Row). IsTable t) (sym on.table) feeds.table; told = on.ended ∙ feeds.told }) fed more
    (pends_on wanted source before states place old new contexts next_contexts unread zp next count later given bounds on feeds pends)

-- no more decisions were counted than the number has
pub pends_within : (wanted : Wanted) (source : Chunk) (before : ℕ) (states : Name → ℕ) (place : Option Interval) (reader : Reader) (contexts : Numbers)
    (unread : Unread) (zp : Decoder) (count : ℕ) → Feeds unread zp → (pends : Pends wanted source before states place reader contexts unread zp count) →
    pends.at.coded ≤ (read_on wanted source (begun states place)).coded
pends_within wanted source before states place reader contexts unread zp count feeds pends =
    let becomes : Becomes (chunk source.table pends.takes.taken zp.ended) source = becomes_whole source pends.at.place unread zp feeds pends.takes in
    let behind : Behind source pends.at (read_on wanted source pends.at) =
    stays_behind wanted source pends.ready.table pends.at most_decisions pends.ready.below (standing_there source pends.at.place unread zp pends.takes) in
    subst (λ (r : Reading). pends.at.coded ≤ r.coded) (pends.goes source becomes) behind.more

-- a reader never ticks back, and leaves no more room
pub record Ahead (count later : ℕ) (zp next : Decoder) : Type 0 where
  pub more : count ≤ later
  pub room : room_left next ≤ room_left zp

pub ahead : (wanted : Wanted) (old new : Reader) (contexts next_contexts : Numbers) (zp next : Decoder) (count later : ℕ) (given : NumberStep) →
    Advances old new contexts next_contexts zp next count later given → (payload : List ℕ) (place : Option Interval) → Fed payload place zp →
    IsStanding (length payload) place → IsTable zp.table → AreBelow (length zp.table) (states_of contexts) → IsUnderway wanted old → Ahead count later zp next
ahead wanted old new contexts next_contexts zp next count later given on payload place fed standing table below (decisions, known) =
    let from : Chunk = chunk zp.table payload zp.ended in
    let at : Reading = record { decisions = decisions; states = states_of contexts; place = place; coded = 0 } in
    let stands : reading.Stands wanted from count at old contexts zp count =
    record { reads = known.0; states = refl; fed = fed; table = refl; ended = refl; ticks = ticks_none count } in
    let moves : Moves wanted from count at new next_contexts next later =
    moves_by wanted from count at old new contexts next_contexts zp next count later given given refl on stands in
    let end : Reading = steps moves.count wanted from at in
    let behind : Behind from at end = stays_behind wanted from table at moves.count below standing in
    let before : room_left zp ≡ room payload place = room_is payload place zp fed in
    let after : room_left next ≡ room payload end.place = room_is payload end.place next moves.stands.fed in
    let leaves : room payload end.place + end.coded ≤ room payload place + 0 = behind.leaves in
    record {
      more = subst (λ (n : ℕ). count ≤ n) (sym moves.stands.ticks) (ticked_grows end.coded count);
      room = less_by (room_left next) (room_left zp) (room payload end.place) (room payload place) end.coded after before leaves;
    }
  where
    less_by : (next zp there here coded : ℕ) → next ≡ there → zp ≡ here → there + coded ≤ here + 0 → next ≤ zp
    less_by next zp there here coded after before leaves = omega (arith, after, before, leaves)
