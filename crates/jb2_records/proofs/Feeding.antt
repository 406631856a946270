-- What a reader was fed, at each step and in each answer.
use Rattle.std.proofs.Common.{◌≡◌, ◌≢◌, ◌≤◌, ℕ, Bool, true, false, suc, List, [], ◌++◌, length, refl, sym, ap, subst, ◌∙◌, arith}
use Rattle.std.specs.Prelude.{Option, Some, None, Result, Ok, Err, OnOk, OnErr}
use Rattle.std.proofs.lemmas.List.{append-nil}
use Rattle.zp_table.specs.declared.rows.Row.{Row}
use Rattle.zp_table.specs.Rows.{IsTable}
use Rattle.djvu_base.specs.Meter.{ticked, TicksExactly}
use Rattle.zp_decoder.specs.Chunk.{Chunk, chunk}
use Rattle.bit_plane.specs.Pixels.{Pixels}
use Rattle.jb2_records.specs.declared.steps.Field.TheVariants as field
use Rattle.jb2_records.specs.declared.steps.Step.{Step}
use Rattle.jb2_records.specs.declared.machine.Machine.{Machine}
use Rattle.jb2_records.specs.declared.machine.Halt.{Halt}
use Rattle.jb2_records.specs.declared.machine.Halt.TheVariants as halt
use Rattle.jb2_records.specs.declared.reader.Jb2Step.{Jb2Step}
use Rattle.jb2_records.specs.declared.reader.Jb2Step.TheVariants as answer
use Rattle.jb2_records.specs.Coding.{chunk_start}
use Rattle.jb2_records.specs.Reading.{Input, Purpose, Outcome, records_of, most_records}
use Rattle.jb2_records.specs.Growth.{IsSound}
use Rattle.jb2_records.specs.Taking.{Becomes, stays, grows, with_bytes}
use Rattle.jb2_records.specs.Telling.{Parts, Stands, Grows}
use Rattle.jb2_records.specs.Library.{Library, library_of, Keeps}
use Rattle.jb2_records.specs.Picture.{Picture, Draws}
use Rattle.jb2_records.specs.Steps.{behind, from_number}
use Rattle.jb2_records.specs.Machine.{with_chunk, Follows, Holds, Stays, HaltsAt, HaltFits, IsLater, Fits}
use Rattle.jb2_records.specs.ReaderState.{Kept, ReaderState, Source, input_of, state_of, Settles, IsAt, Fed, KeptFits}
use Rattle.jb2_records.specs.ReaderState.{IsHeld, answer_of, step_of}
use Rattle.jb2_records.proofs.Ending.{any_count}
use Rattle.jb2_records.proofs.Growing.{records_go_on}
use Rattle.jb2_records.proofs.Adding.{blank_first}
use Rattle.jb2_records.proofs.Suspending.{sound_becomes}
use Rattle.jb2_records.proofs.Lengthening.{holds_units, holds_decisions, keeps_there, draws_there, holds_grows}

-- an answer that stands, where its counts and what it came to are the same
pub settles_along : (input later : Input) (told : Jb2Step) (old new : Machine) → records_of later ≡ records_of input → later.inherited ≡ input.inherited →
    later.purpose ≡ input.purpose →
    new.coder.count ≡ old.coder.count → new.library ≡ old.library → new.picture ≡ old.picture → new.units ≡ old.units → Settles input told old →
    Settles later told new
settles_along input later told old new same inherited purpose count same_library same_picture units settles = record {
  answers = record {
    same = ap (λ (o : Outcome). o.answer) same ∙ settles.answers.same;
    units = units ∙ settles.answers.units ∙ ap (λ (o : Outcome). ticked (length o.records) 0) (sym same);
    decisions = count ∙ settles.answers.decisions ∙ ap (λ (o : Outcome). ticked o.decisions 0) (sym same);
  };
  keeps = λ ends. subst (λ (l : Library). Keeps later (records_of later).records l) (sym same_library)
      (subst (λ (o : Outcome). Keeps later o.records old.library) (sym same)
      (keeps_there input later (records_of input).records old.library inherited purpose (settles.keeps ends)));
  draws = λ ends. subst (λ (p : Option Picture). Draws later (records_of later).records p) (sym same_picture)
      (subst (λ (o : Outcome). Draws later o.records old.picture) (sym same)
      (draws_there input later (records_of input).records old.picture inherited purpose (settles.draws ends)));
}

-- ---- what is answered

pub halts_answer : (input : Input) (halts : Halt) (machine : Machine) → HaltsAt input halts machine → answer_of halts ≢ answer.OutOfMemory →
    answer_of halts ≡ (records_of input).answer
halts_answer input (halt.NeedBytes at) machine (holds, answers) some = sym answers.same
halts_answer input (halt.OutOfMemory at) machine holds some = absurd (some refl)
halts_answer input (halt.Refused kind) machine answers some = sym answers.same
halts_answer input halt.Finished machine finishes some = sym finishes.answers.same

pub halts_units : (input : Input) (halts : Halt) (machine : Machine) → HaltsAt input halts machine → answer_of halts ≢ answer.OutOfMemory →
    TicksExactly (length (records_of input).records) 0 machine.units
halts_units input (halt.NeedBytes at) machine (holds, answers) some = answers.units
halts_units input (halt.OutOfMemory at) machine holds some = absurd (some refl)
halts_units input (halt.Refused kind) machine answers some = answers.units
halts_units input halt.Finished machine finishes some = finishes.answers.units

pub halts_decisions : (input : Input) (halts : Halt) (machine : Machine) → HaltsAt input halts machine → answer_of halts ≢ answer.OutOfMemory →
    TicksExactly (records_of input).decisions 0 machine.coder.count
halts_decisions input (halt.NeedBytes at) machine (holds, answers) some = answers.decisions
halts_decisions input (halt.OutOfMemory at) machine holds some = absurd (some refl)
halts_decisions input (halt.Refused kind) machine answers some = answers.decisions
halts_decisions input halt.Finished machine finishes some = finishes.answers.decisions

pub halts_at : (input : Input) (halts : Halt) (machine : Machine) → HaltsAt input halts machine → IsAt input (step_of halts) (answer_of halts) machine
halts_at input (halt.NeedBytes at) machine (holds, answers) = holds
halts_at input (halt.OutOfMemory at) machine holds = holds
halts_at input (halt.Refused kind) machine answers = record { answers = answers; keeps = λ ends. absurd (cc); draws = λ ends. absurd (cc) }
halts_at input halt.Finished machine finishes = record { answers = finishes.answers; keeps = λ ends. finishes.keeps; draws = λ ends. finishes.draws }

pub halts_fit : (halts : Halt) (machine : Machine) → HaltFits halts machine.library machine.picture → KeptFits (step_of halts) (answer_of halts) machine
halts_fit (halt.NeedBytes at) machine fits = fits
halts_fit (halt.OutOfMemory at) machine fits = fits
halts_fit (halt.Refused kind) machine fits = ((λ e. cc, λ e. cc), λ ends. absurd (cc))
halts_fit halt.Finished machine fits = ((λ e. cc, λ e. cc), λ ends. fits)

-- ---- counts in each state

pub at_units : (input : Input) (at : Option Step) (told : Jb2Step) (machine : Machine) → IsAt input at told machine →
    machine.units ≤ ticked (length (records_of input).records) 0
at_units input (Some at) told machine holds = holds_units input at machine holds
at_units input None told machine settles = let is = settles.answers.units in omega (arith, is)

pub at_decisions : (input : Input) (at : Option Step) (told : Jb2Step) (machine : Machine) → IsAt input at told machine →
    machine.coder.count ≤ ticked (records_of input).decisions 0
at_decisions input (Some at) told machine holds = holds_decisions input at machine holds
at_decisions input None told machine settles = let is = settles.answers.decisions in omega (arith, is)

-- ---- bytes that come

-- what is kept, in its parts
abbrev pub kept_at : Option Step → Jb2Step → Machine → Kept
kept_at at told machine = record { step = at; answer = told; machine = machine }

abbrev input_at : List Row → List ℕ → Bool → Machine → Input
input_at rows payload ended machine = record { chunk = chunk rows payload ended; inherited = machine.library.inherited; purpose = machine.library.purpose }

same_on : (input : Input) (later : Chunk) → Becomes input.chunk later → IsTable input.chunk.table → (records_of input).answer ≢ answer.NeedBytes →
    records_of (with_chunk input later) ≡ records_of input
same_on input later (stays is) table final = ap (λ (from : Chunk). records_of (with_chunk input from)) is
same_on input later (grows goes more ended is) table final =
    ap (λ (from : Chunk). records_of (with_chunk input from)) is ∙ (records_go_on input more ended table goes).settled final

settles_on : (later : Chunk) (rows : List Row) (payload : List ℕ) (ended : Bool) (told : Jb2Step) (old new : Machine) →
    Becomes (chunk rows payload ended) later → IsTable rows → told ≢ answer.NeedBytes →
    new.coder.count ≡ old.coder.count → new.library ≡ old.library → new.picture ≡ old.picture → new.units ≡ old.units →
    Settles (input_at rows payload ended old) told old →
    Settles (with_chunk (input_at rows payload ended old) later) told new
settles_on later rows payload ended told old new becomes table final count same_library same_picture same_units settles =
    settles_along (input_at rows payload ended old) (with_chunk (input_at rows payload ended old) later) told old new
    (same_on (input_at rows payload ended old) later becomes table (λ needs. final (sym settles.answers.same ∙ needs))) refl refl count same_library
    same_picture same_units settles

is_at_on : (at : Option Step) (told : Jb2Step) (machine : Machine) (coder : Parts) (rows : List Row) (payload : List ℕ) (ended : Bool) (later : Chunk) →
    Becomes (chunk rows payload ended) later → Grows (chunk rows payload ended) later machine.coder coder → coder.count ≡ machine.coder.count →
    IsTable rows → KeptFits at told machine →
    IsAt (input_at rows payload ended machine) at told machine →
    IsAt (with_chunk (input_at rows payload ended machine) later) at told (record machine { coder = coder })
is_at_on (Some at) told machine coder rows payload ended later becomes on count table fits holds =
    holds_grows (input_at rows payload ended machine) later at machine (record machine { coder = coder }) becomes on refl refl refl holds
is_at_on None told machine coder rows payload ended later becomes on count table fits settles =
    settles_on later rows payload ended told machine (record machine { coder = coder }) becomes table fits.0.0 count refl refl refl settles

fed_on : (at : Option Step) (told : Jb2Step) (machine : Machine) (coder : Parts) (payload all : List ℕ) (ended : Bool) →
    Becomes (chunk machine.coder.zp.table payload machine.coder.unread.ended) (chunk machine.coder.zp.table all ended) →
    Grows (chunk machine.coder.zp.table payload machine.coder.unread.ended) (chunk machine.coder.zp.table all ended) machine.coder coder →
    coder.zp.table ≡ machine.coder.zp.table → coder.unread.ended ≡ ended → coder.count ≡ machine.coder.count → IsTable machine.coder.zp.table →
    KeptFits at told machine →
    Fed payload (state_of (kept_at at told machine)) → Fed all (state_of (kept_at at told (record machine { coder = coder })))
unfolding Fed
fed_on at told machine coder payload all ended becomes on same_table same_end count table fits fed =
    subst (λ (rows : List Row). IsAt (input_at rows all coder.unread.ended machine) at told (record machine { coder = coder })) (sym same_table)
    (subst (λ (e : Bool). IsAt (input_at machine.coder.zp.table all e machine) at told (record machine { coder = coder })) (sym same_end)
    (is_at_on at told machine coder machine.coder.zp.table payload machine.coder.unread.ended (chunk machine.coder.zp.table all ended) becomes on count
    table fits fed))

fits_with : (at : Option Step) (told : Jb2Step) (machine : Machine) (coder : Parts) → KeptFits at told machine →
    KeptFits at told (record machine { coder = coder })
fits_with (Some at) told machine coder fits = fits
fits_with None told machine coder fits = fits

-- bytes behind an answer that stands
pub fed_still : (at : Option Step) (told : Jb2Step) (machine : Machine) (payload piece : List ℕ) → at ≡ None → machine.coder.unread.ended ≡ false →
    IsHeld (kept_at at told machine) →
    Fed payload (state_of (kept_at at told machine)) → Fed (payload ++ piece) (state_of (kept_at at told machine))
unfolding Fed
fed_still (Some at) told machine payload piece is goes held fed = absurd (cc)
fed_still None told machine payload piece is goes held fed =
    settles_on (chunk machine.coder.zp.table (payload ++ piece) machine.coder.unread.ended) machine.coder.zp.table payload machine.coder.unread.ended told
    machine machine
    (grows goes piece machine.coder.unread.ended refl) held.table held.fits.0.0 refl refl refl refl fed

module _ {T E : Type 0} (piece : List ℕ) (at : Option Step) (told : Jb2Step) (machine : Machine) (coder : Parts) where
  pub fed_pushed : (result : Result T E) → OnOk result ((source : Chunk) → Grows source (with_bytes source piece false) machine.coder coder) →
      coder.zp.table ≡ machine.coder.zp.table → coder.unread.ended ≡ false → coder.count ≡ machine.coder.count → machine.coder.unread.ended ≡ false →
      IsHeld (kept_at at told machine) →
      OnOk result ((payload : List ℕ) → Fed payload (state_of (kept_at at told machine)) →
      Fed (payload ++ piece) (state_of (kept_at at told (record machine { coder = coder }))))
  fed_pushed (Ok value) on same_table same_end count goes held = λ payload fed.
      fed_on at told machine coder payload (payload ++ piece) false (grows goes piece false refl)
      (on (chunk machine.coder.zp.table payload machine.coder.unread.ended)) same_table same_end count held.table held.fits fed
  fed_pushed (Err error) on same_table same_end count goes held = tt

  pub held_pushed : (result : Result T E) → OnOk result ((source : Chunk) → Grows source (with_bytes source piece false) machine.coder coder) →
      OnErr result (coder ≡ machine.coder) →
      coder.zp.table ≡ machine.coder.zp.table → coder.unread.ended ≡ false → coder.count ≡ machine.coder.count → machine.coder.unread.ended ≡ false →
      IsHeld (kept_at at told machine) →
      IsHeld (kept_at at told (record machine { coder = coder }))
  held_pushed (Ok value) on same same_table same_end count goes held = record {
    table = subst IsTable (sym same_table) held.table;
    fits = fits_with at told machine coder held.fits;
    payload = held.payload ++ piece;
    fed = fed_on at told machine coder held.payload (held.payload ++ piece) false (grows goes piece false refl)
        (on (chunk machine.coder.zp.table held.payload machine.coder.unread.ended))
        same_table same_end count held.table held.fits held.fed;
  }
  held_pushed (Err error) on same same_table same_end count goes held = subst (λ (p : Parts). IsHeld (kept_at at told (record machine { coder = p })))
      (sym same) held

-- the end
becomes_ended : (rows : List Row) (payload : List ℕ) (ended : Bool) → Becomes (chunk rows payload ended) (chunk rows payload true)
becomes_ended rows payload true = stays refl
becomes_ended rows payload false = grows refl [] true (ap (λ (l : List ℕ). chunk rows l true) (sym (append-nil payload)))

module _ (at : Option Step) (told : Jb2Step) (machine : Machine) (coder : Parts) (on : (source : Chunk) →
    Grows source (chunk source.table source.payload true) machine.coder coder)
    (same_table : coder.zp.table ≡ machine.coder.zp.table) (same_end : coder.unread.ended ≡ true) (count : coder.count ≡ machine.coder.count)
    (held : IsHeld (kept_at at told machine)) where
  pub fed_ended : (payload : List ℕ) → Fed payload (state_of (kept_at at told machine)) →
      Fed payload (state_of (kept_at at told (record machine { coder = coder })))
  fed_ended payload fed =
      fed_on at told machine coder payload payload true (becomes_ended machine.coder.zp.table payload machine.coder.unread.ended)
      (on (chunk machine.coder.zp.table payload machine.coder.unread.ended)) same_table same_end count held.table held.fits fed

  pub held_ended : IsHeld (kept_at at told (record machine { coder = coder }))
  held_ended = record {
    table = subst IsTable (sym same_table) held.table;
    fits = fits_with at told machine coder held.fits;
    payload = held.payload;
    fed = fed_ended held.payload held.fed;
  }

-- ---- a new reader

module _ (rows : List Row) (inherited : List Pixels) (purpose : Purpose) (machine : Machine) (first : Step)
    (keeps : (input : Input) → input.inherited ≡ inherited → input.purpose ≡ purpose → Keeps input [] machine.library) where
  abbrev no_bytes : Input
  no_bytes = record { chunk = chunk rows [] false; inherited = inherited; purpose = purpose }

  pub new_source : machine.coder.zp.table ≡ rows →
      ◌≡◌ {A = Source} (record { table = machine.coder.zp.table; inherited = machine.library.inherited; purpose = machine.library.purpose })
      (record { table = rows; inherited = inherited; purpose = purpose })
  new_source table =
      ap (λ (r : List Row). record { table = r; inherited = machine.library.inherited; purpose = machine.library.purpose }) table
      ∙ ap (λ (l : Library). record { table = rows; inherited = l.inherited; purpose = l.purpose }) (keeps no_bytes refl refl).is

  pub new_unstarted : machine.library.started ≡ false
  new_unstarted = ap (λ (l : Library). l.started) (keeps no_bytes refl refl).is

  new_follows : (later : Chunk) → Becomes (chunk rows [] false) later → Stands (chunk rows [] false) chunk_start machine.coder →
      Follows (with_chunk no_bytes later) [] chunk_start (from_number (with_chunk no_bytes later) [] [] field.Kind chunk_start)
  unfolding behind
  new_follows later becomes stands =
      let sound : IsSound later chunk_start = sound_becomes (chunk rows [] false) later chunk_start becomes stands.sound in
      record {
        same = sym (any_count (with_chunk no_bytes later) (suc (most_records later.payload)) sound.table (omega arith));
        less = omega arith;
      }

  pub new_stays : Stands (chunk rows [] false) chunk_start machine.coder → machine.picture ≡ None → machine.units ≡ 0 →
      Stays no_bytes (λ later before text at. from_number later before text field.Kind at) machine
  new_stays stands none units = record {
    before = [];
    text = [];
    at = chunk_start;
    sound = stands.sound;
    goes = λ later becomes. new_follows later becomes stands;
    stands_there = stands;
    keeps = keeps no_bytes refl refl;
    draws = subst (λ (p : Option Picture). Draws no_bytes [] p) (sym none) (blank_first no_bytes);
    count = units;
  }

  pub new_fed : (told : Jb2Step) → Stands (chunk rows [] false) chunk_start machine.coder → machine.coder.zp.table ≡ rows →
      machine.coder.unread.ended ≡ false → machine.picture ≡ None → machine.units ≡ 0 →
      ((input : Input) → Stays input (λ later before text at. from_number later before text field.Kind at) machine → Holds input first machine) →
      Fed [] (state_of (kept_at (Some first) told machine))
  unfolding Fed
  new_fed told stands table ended none units asks =
      let same : machine.library ≡ library_of no_bytes [] = (keeps no_bytes refl refl).is in
      subst (λ (r : List Row). Holds
      (record { chunk = chunk r [] machine.coder.unread.ended; inherited = machine.library.inherited; purpose = machine.library.purpose }) first machine)
      (sym table)
      (subst (λ (e : Bool). Holds (record { chunk = chunk rows [] e; inherited = machine.library.inherited; purpose = machine.library.purpose }) first
      machine) (sym ended)
      (subst (λ (l : Library). Holds (record { chunk = chunk rows [] false; inherited = l.inherited; purpose = l.purpose }) first machine) (sym same)
      (asks no_bytes (new_stays stands none units))))

  pub new_held : (told : Jb2Step) → Stands (chunk rows [] false) chunk_start machine.coder → machine.coder.zp.table ≡ rows →
      machine.coder.unread.ended ≡ false → machine.picture ≡ None → machine.units ≡ 0 →
      ((input : Input) → Stays input (λ later before text at. from_number later before text field.Kind at) machine → Holds input first machine) →
      Fits first machine.library machine.picture → IsHeld (kept_at (Some first) told machine)
  new_held told stands table ended none units asks fits = record {
    table = subst IsTable (sym table) stands.sound.table;
    fits = fits;
    payload = [];
    fed = new_fed told stands table ended none units asks;
  }

-- ---- what is answered, of what is kept

module _ (at : Option Step) (told : Jb2Step) (machine : Machine) where
  abbrev there : ReaderState
  there = state_of (kept_at at told machine)

  pub fed_at_most : (payload : List ℕ) → Fed payload there →
      (machine.units ≤ ticked (length (records_of (input_of there payload)).records) 0) ×
      (machine.coder.count ≤ ticked (records_of (input_of there payload)).decisions 0)
  unfolding Fed
  fed_at_most payload fed = (at_units (input_of there payload) at told machine fed, at_decisions (input_of there payload) at told machine fed)

  pub fed_stands : (payload : List ℕ) → at ≡ None → Fed payload there → Settles (input_of there payload) told machine
  unfolding Fed
  fed_stands payload is fed = subst (λ (a : Option Step). IsAt (input_of there payload) a told machine) is fed

-- ---- a run of the machine

module _ (at : Step) (told : Jb2Step) (old new : Machine) (halts : Halt) (later : IsLater old new) (runs : (input : Input) → Holds input at old →
    HaltsAt input halts new) where
  run_fed : (payload : List ℕ) → Fed payload (state_of (kept_at (Some at) told old)) → Fed payload (state_of (kept_at (step_of halts) (answer_of halts) new))
  unfolding Fed
  run_fed payload fed =
      let (count, units, room, same_table, same_end, inherited, purpose) = later in
      subst (λ (r : List Row). IsAt
      (record { chunk = chunk r payload new.coder.unread.ended; inherited = new.library.inherited; purpose = new.library.purpose }) (step_of halts)
      (answer_of halts) new) (sym same_table)
      (subst (λ (e : Bool). IsAt (record { chunk = chunk old.coder.zp.table payload e; inherited = new.library.inherited; purpose = new.library.purpose })
      (step_of halts) (answer_of halts) new) (sym same_end)
      (subst (λ (l : List Pixels). IsAt
      (record { chunk = chunk old.coder.zp.table payload old.coder.unread.ended; inherited = l; purpose = new.library.purpose }) (step_of halts)
      (answer_of halts) new) (sym inherited)
      (subst (λ (p : Purpose). IsAt (record {
        chunk = chunk old.coder.zp.table payload old.coder.unread.ended;
        inherited = old.library.inherited;
        purpose =
            p;
      }) (step_of halts) (answer_of halts) new) (sym purpose)
      (halts_at (input_at old.coder.zp.table payload old.coder.unread.ended old) halts new
      (runs (input_at old.coder.zp.table payload old.coder.unread.ended old) fed)))))

  run_halts : (payload : List ℕ) → Fed payload (state_of (kept_at (Some at) told old)) →
      HaltsAt (input_of (state_of (kept_at (Some at) told old)) payload) halts new
  unfolding Fed
  run_halts payload fed = runs (input_of (state_of (kept_at (Some at) told old)) payload) fed

  run_at_most : (payload : List ℕ) → Fed payload (state_of (kept_at (Some at) told old)) →
      (new.units ≤ ticked (length (records_of (input_of (state_of (kept_at (Some at) told old)) payload)).records) 0)
      × (new.coder.count ≤ ticked (records_of (input_of (state_of (kept_at (Some at) told old)) payload)).decisions 0)
  run_at_most payload fed =
      let input : Input = input_of (state_of (kept_at (Some at) told old)) payload in
      let there : IsAt input (step_of halts) (answer_of halts) new = halts_at input halts new (run_halts payload fed) in
      (at_units input (step_of halts) (answer_of halts) new there, at_decisions input (step_of halts) (answer_of halts) new there)

  run_held : HaltFits halts new.library new.picture → IsHeld (kept_at (Some at) told old) → IsHeld (kept_at (step_of halts) (answer_of halts) new)
  run_held fits held =
      let (count, units, room, same_table, same_end, inherited, purpose) = later in
      record {
        table = subst IsTable (sym same_table) held.table;
        fits = halts_fit halts new fits;
        payload = held.payload;
        fed = run_fed held.payload held.fed;
      }

module _ (found next : Option Step) (at : Step) (told given : Jb2Step) (old new : Machine) (halts : Halt) (some : found ≡ Some at)
    (given_is : given ≡ answer_of halts) (next_is : next ≡ step_of halts)
    (later : IsLater old new) (runs : (input : Input) → Holds input at old → HaltsAt input halts new) where
  abbrev was : ReaderState
  was = state_of (kept_at found told old)

  ran_at : (payload : List ℕ) → Fed payload was → HaltsAt (input_of was payload) halts new
  ran_at payload fed = run_halts at told old new halts later runs payload (subst (λ (f : Option Step). Fed payload (state_of (kept_at f told old))) some fed)

  pub ran_answer : (payload : List ℕ) → Fed payload was → given ≢ answer.OutOfMemory → given ≡ (records_of (input_of was payload)).answer
  ran_answer payload fed memory = given_is ∙ halts_answer (input_of was payload) halts new (ran_at payload fed) (λ e. memory (given_is ∙ e))

  pub ran_units : (payload : List ℕ) → Fed payload was → given ≢ answer.OutOfMemory →
      TicksExactly (length (records_of (input_of was payload)).records) 0 new.units
  ran_units payload fed memory = halts_units (input_of was payload) halts new (ran_at payload fed) (λ e. memory (given_is ∙ e))

  pub ran_decisions : (payload : List ℕ) → Fed payload was → given ≢ answer.OutOfMemory →
      TicksExactly (records_of (input_of was payload)).decisions 0 new.coder.count
  ran_decisions payload fed memory = halts_decisions (input_of was payload) halts new (ran_at payload fed) (λ e. memory (given_is ∙ e))

  pub ran_at_most : (payload : List ℕ) → Fed payload was →
      (new.units ≤ ticked (length (records_of (input_of was payload)).records) 0) × (new.coder.count ≤ ticked (records_of (input_of was payload)).decisions 0)
  ran_at_most payload fed = run_at_most at told old new halts later runs payload
      (subst (λ (f : Option Step). Fed payload (state_of (kept_at f told old))) some fed)

  pub ran_fed : (payload : List ℕ) → Fed payload was → Fed payload (state_of (kept_at next given new))
  ran_fed payload fed =
      subst (λ (n : Option Step). Fed payload (state_of (kept_at n given new))) (sym next_is)
      (subst (λ (g : Jb2Step). Fed payload (state_of (kept_at (step_of halts) g new))) (sym given_is)
      (run_fed at told old new halts later runs payload (subst (λ (f : Option Step). Fed payload (state_of (kept_at f told old))) some fed)))

  pub ran_held : HaltFits halts new.library new.picture → IsHeld (kept_at found told old) → IsHeld (kept_at next given new)
  ran_held fits held =
      subst (λ (n : Option Step). IsHeld (kept_at n given new)) (sym next_is)
      (subst (λ (g : Jb2Step). IsHeld (kept_at (step_of halts) g new)) (sym given_is)
      (run_held at told old new halts later runs fits (subst (λ (f : Option Step). IsHeld (kept_at f told old)) some held)))
