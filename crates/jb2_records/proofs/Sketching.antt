-- A shape that is read while a decoder takes a chunk piece by piece, beside the shape that the chunk has.
use Rattle.std.proofs.Common.{◌≡◌, ◌≢◌, ◌≤◌, ◌<◌, ◌+◌, ◌-◌, ◌*◌, ℕ, zero, suc, Bool, true, false, List, [], ◌++◌, length, refl, sym, ap, subst, ◌∙◌, arith}
use Rattle.std.specs.Prelude.{Option, ℤ, ◌||◌, nat_le}
use Rattle.std.proofs.lemmas.List.{append-nil}
use Rattle.djvu_base.specs.Meter.{TicksExactly}
use Rattle.djvu_base.proofs.Ticks.{ticks_both}
use Rattle.zp_table.specs.declared.rows.Row.{Row}
use Rattle.zp_table.specs.Rows.{IsTable}
use Rattle.zp_decoder.specs.declared.decoder.Decision.{Decision}
use Rattle.zp_decoder.specs.declared.decoder.Decision.TheVariants as decision
use Rattle.zp_decoder.specs.Decision.{Interval, Form, Adaptive, interval_at, split_of, outcome_of, outcome_at, Outcome}
use Rattle.zp_decoder.specs.Decoder.{Decoder, Fed, bytes_wanted}
use Rattle.zp_decoder.specs.Chunk.{Chunk, chunk, IsReady}
use Rattle.zp_decoder.specs.States.{States, AreBelow}
use Rattle.zp_decoder.proofs.Lemmas.{Comes, comes, needs, exhausts, moves, wanted}
use Rattle.bit_plane.specs.Pixels.{Pixels}
use Rattle.jb2_numbers.proofs.Lemmas.{never_exhausted}
use Rattle.jb2_shapes.specs.declared.steps.ShapeStep.{ShapeStep}
use Rattle.jb2_shapes.specs.declared.steps.ShapeStep.TheVariants as shape
use Rattle.jb2_shapes.specs.Shape.{Sketch, Progress, Reading, left_of, progress, stands, after_decision, read_pixels, reading_of}
use Rattle.jb2_shapes.specs.Steps.{IsReading, Reads}
use Rattle.jb2_shapes.proofs.Lemmas.{next_colours, stays_within}
use Rattle.jb2_records.specs.Taking.{Unread, Feeds, Takes, TakesMore, with_bytes, Becomes, stays, grows, context_of, IsOf, Sketches, DrawsOn, HasDrawn}
use Rattle.jb2_records.proofs.Offering.{takes_more, becomes_after, becomes_whole, becomes_taken, all_taken}

abbrev Context : Type 0
Context = Pixels → ℤ → ℤ → List Bool

-- ---- one reading

-- after a decision of the next pixel
abbrev read_after : Context → List Row → List ℕ → Bool → ℕ → Decision → Progress → Reading
read_after context rows payload ended left answer at =
    after_decision answer (outcome_of rows (Adaptive (at.states (next_colours context at.sketch))) payload ended at.place) (next_colours context at.sketch) at
    (λ next. read_pixels context rows payload ended left next)

-- what no decision answers, no reading does
module _ (context : Pixels → ℤ → ℤ → List Bool) (rows : List Row) (payload : List ℕ) (ended : Bool) where
  never_by : (left : ℕ) (at : Progress) (answer : Decision) →
      (outcome_of rows (Adaptive (at.states (next_colours context at.sketch))) payload ended at.place).answer ≡ answer → ended ≡ false →
      ((next : Progress) → (read_pixels context rows payload ended left next).answer ≡ shape.Exhausted → ⊥) →
      (read_after context rows payload ended left answer at).answer ≡ shape.Exhausted → ⊥
  never_by left at (decision.Bit bit) e open_end later is = later _ is
  never_by left at decision.NeedBytes e open_end later is = cc
  never_by left at decision.Exhausted e open_end later is =
      never_exhausted rows (Adaptive (at.states (next_colours context at.sketch))) payload at.place
      (ap (λ (b : Bool). (outcome_of rows (Adaptive (at.states (next_colours context at.sketch))) payload b at.place).answer) (sym open_end) ∙ e)

  -- before the end no shape is exhausted
  never_drawn : (left : ℕ) (at : Progress) → ended ≡ false → (read_pixels context rows payload ended left at).answer ≡ shape.Exhausted → ⊥
  never_drawn zero at open_end is = cc
  never_drawn (suc left) at open_end is =
      never_by left at (outcome_of rows (Adaptive (at.states (next_colours context at.sketch))) payload ended at.place).answer refl open_end
      (λ next. never_drawn left next open_end) is

  needs_by : (form : Form) (place : Option Interval) (z : ℕ) (at : Interval) → Comes rows form payload ended place z at →
      (outcome_at rows form payload ended place z at).answer ≡ decision.NeedBytes → ended ≡ false
  needs_by form place z at (needs d e) answered = open_of ended d
    where
      open_of : (b : Bool) → (b || nat_le (at.n + 32) (8 * length payload)) ≡ false → b ≡ false
      open_of true e = cc
      open_of false e = refl
  needs_by form place z at (exhausts d x e) answered = absurd (let same = sym (ap (λ (o : Outcome). o.answer) e) ∙ answered in cc)
  needs_by form place z at (moves d x e) answered = absurd (let same = sym (ap (λ (o : Outcome). o.answer) e) ∙ answered in cc)

  wants_by : (left : ℕ) (at : Progress) (answer : Decision) →
      (outcome_of rows (Adaptive (at.states (next_colours context at.sketch))) payload ended at.place).answer ≡ answer →
      ((next : Progress) → (read_pixels context rows payload ended left next).answer ≡ shape.NeedBytes →
      (ended ≡ false) × (0 < bytes_wanted payload (read_pixels context rows payload ended left next).at.place)) →
      (read_after context rows payload ended left answer at).answer ≡ shape.NeedBytes →
      (ended ≡ false) × (0 < bytes_wanted payload (read_after context rows payload ended left answer at).at.place)
  wants_by left at (decision.Bit bit) e later is = later _ is
  wants_by left at decision.NeedBytes e later is =
      let form : Form = Adaptive (at.states (next_colours context at.sketch)) in
      let from : Interval = interval_at payload at.place in (
        needs_by form at.place (split_of rows form from.a) from (comes rows form payload ended at.place (split_of rows form from.a) from) e,
        wanted rows form payload ended at.place e,
      )
  wants_by left at decision.Exhausted e later is = absurd (cc)

  -- a shape that wants bytes stands where a decision does, before the end
  wants_drawn : (left : ℕ) (at : Progress) → (read_pixels context rows payload ended left at).answer ≡ shape.NeedBytes →
      (ended ≡ false) × (0 < bytes_wanted payload (read_pixels context rows payload ended left at).at.place)
  wants_drawn zero at is = absurd (cc)
  wants_drawn (suc left) at is =
      wants_by left at (outcome_of rows (Adaptive (at.states (next_colours context at.sketch))) payload ended at.place).answer refl
      (λ next. wants_drawn left next) is

-- ---- a reader

-- contexts by the matched shape and the size
context_is : (matched given : Option Pixels) (width height : ℕ) (sketch : Sketch) → IsOf matched width height given sketch →
    context_of given sketch.shape.width sketch.shape.height ≡ context_of matched width height
context_is matched given width height sketch is =
    ap (λ (o : Option Pixels). context_of o sketch.shape.width sketch.shape.height) is.same
    ∙ ap (λ (w : ℕ). context_of matched w sketch.shape.height) is.columns ∙ ap (λ (h : ℕ). context_of matched width h) is.rows

-- what a reader did in its own contexts
pub sketched : (matched given : Option Pixels) (width height : ℕ) (zp next : Decoder) (sketch new_sketch : Sketch) (states new_states : States)
    (told : ShapeStep) → IsOf matched width height given sketch →
    Sketches (context_of given sketch.shape.width sketch.shape.height) zp next sketch new_sketch states new_states told →
    Sketches (context_of matched width height) zp next sketch new_sketch states new_states told
sketched matched given width height zp next sketch new_sketch states new_states told is on =
    subst (λ (c : Pixels → ℤ → ℤ → List Bool). Sketches c zp next sketch new_sketch states new_states told)
    (context_is matched given width height sketch is) on

-- the law of cuts
abbrev pub Cuts : Type 0
Cuts = (context : Pixels → ℤ → ℤ → List Bool) (rows : List Row) (payload more : List ℕ) (ended : Bool) (at : Progress) →
    IsReady (chunk rows payload false) at.states at.place →
    reading_of context rows (payload ++ more) ended (reading_of context rows payload false at).at ≡ reading_of context rows (payload ++ more) ended at

-- a reader that waits does so with more bytes taken
offered : (context : Pixels → ℤ → ℤ → List Bool) (source : Chunk) (start : Progress) (sketch : Sketch) (states : States) (old new : Unread)
    (zp next : Decoder) → Feeds old zp → Feeds new next → TakesMore old new zp next →
    DrawsOn context source start sketch states old zp → DrawsOn context source start sketch states new next
offered context source start sketch states old new zp next feeds later on draws =
    let after : Takes source draws.place new next = takes_more source draws.place old new zp next on draws.takes in
    record {
      place = draws.place;
      takes = after;
      ready = record { table = draws.ready.table; below = draws.ready.below; standing = after.standing };
      goes = λ last becomes.
          draws.goes last (becomes_after (chunk source.table draws.takes.taken zp.ended) (chunk source.table after.taken next.ended) last
          (becomes_taken source.table draws.takes.taken old new zp next feeds later on) becomes);
    }

module _ (cut : Cuts) (context : Pixels → ℤ → ℤ → List Bool) (source : Chunk) (unread : Unread) (zp next : Decoder) (sketch new_sketch : Sketch)
    (states new_states : States) (told : ShapeStep) (on : Sketches context zp next sketch new_sketch states new_states told) (start : Progress)
    (feeds : Feeds unread zp) (draws : DrawsOn context source start sketch states unread zp) where
  abbrev short : Chunk
  short = chunk source.table draws.takes.taken zp.ended

  abbrev first : Progress
  first = progress sketch states draws.place

  abbrev reading : Chunk → Progress → Reading
  reading from at = reading_of context from.table from.payload from.ended at

  here : Reads context source.table draws.takes.taken zp.ended first told new_sketch new_states next
  here =
      subst (λ (rows : List Row). Reads context rows draws.takes.taken zp.ended first told new_sketch new_states next) draws.takes.table
      (on.reads draws.takes.taken draws.place draws.takes.fed)

  abbrev takes_there : (place : Option Interval) → Fed draws.takes.taken place next → Takes source place unread next
  takes_there place fed = record {
    taken = draws.takes.taken;
    payload = draws.takes.payload;
    fed = fed;
    standing = on.standing draws.takes.taken place fed;
    table = on.table ∙ draws.takes.table;
    ended = draws.takes.ended;
  }

  at_is : (reading short first).at ≡ progress new_sketch new_states (reading short first).at.place
  at_is =
      ap (λ (s : Sketch). progress s (reading short first).at.states (reading short first).at.place) (sym here.sketch)
      ∙ ap (λ (s : States). progress new_sketch s (reading short first).at.place) (sym here.states)

  -- with whatever comes behind an open front
  goes_open : (more : List ℕ) (ended : Bool) → zp.ended ≡ false →
      reading (with_bytes short more ended) (progress new_sketch new_states (reading short first).at.place) ≡ reading (with_bytes short more ended) first
  goes_open more ended open_end =
      ap (reading (with_bytes short more ended)) (sym at_is)
      ∙ subst (λ (b : Bool). reading (with_bytes short more ended) (reading (chunk source.table draws.takes.taken b) first).at ≡ reading
      (with_bytes short more ended) first)
      (sym open_end)
      (cut context source.table draws.takes.taken more ended first
      (record { table = draws.ready.table; below = draws.ready.below; standing = draws.ready.standing }))

  goes_later : (later : Chunk) → zp.ended ≡ false → Becomes short later →
      reading later (progress new_sketch new_states (reading short first).at.place) ≡ reading later first
  goes_later later open_end (grows goes more ended e) =
      subst (λ (c : Chunk). reading c (progress new_sketch new_states (reading short first).at.place) ≡ reading c first) (sym e)
      (goes_open more ended open_end)
  goes_later later open_end (stays e) =
      let same : with_bytes short [] zp.ended ≡ later = ap (λ (l : List ℕ). chunk source.table l zp.ended) (append-nil draws.takes.taken) ∙ sym e in
      subst (λ (c : Chunk). reading c (progress new_sketch new_states (reading short first).at.place) ≡ reading c first) same (goes_open [] zp.ended open_end)

  -- a reader that waits goes on from there
  pub draws_on : zp.ended ≡ false → DrawsOn context source start new_sketch new_states unread next
  draws_on open_end =
      let place : Option Interval = (reading short first).at.place in
      let within = stays_within context source.table draws.takes.taken zp.ended first draws.ready.table draws.ready.below draws.ready.standing in
      let below : AreBelow (length source.table) new_states = subst (AreBelow (length source.table)) (sym here.states) within.0 in
      record {
        place = place;
        takes = takes_there place here.fed;
        ready = record { table = draws.ready.table; below = below; standing = within.1 };
        goes = λ later becomes.
            let was : Becomes short later = subst (λ (e : Bool). Becomes (chunk source.table draws.takes.taken e) later) on.ended becomes in
            goes_later later open_end was ∙ draws.goes later was;
      }

  -- where this is what the chunk has
  drawn_by : reading short first ≡ reading source start → HasDrawn (reading source start) source told new_sketch new_states unread next
  drawn_by same =
      let now : IsReading (reading source start) draws.takes.taken told new_sketch new_states next =
      subst (λ (r : Reading). IsReading r draws.takes.taken told new_sketch new_states next) same here in
      record { answer = now.answer; sketch_is = now.sketch; states_are = now.states; takes = takes_there (reading source start).at.place now.fed }

  drawn_whole : source ≡ short → HasDrawn (reading source start) source told new_sketch new_states unread next
  drawn_whole e = drawn_by (ap (λ (c : Chunk). reading c first) (sym e) ∙ draws.goes source (stays e))

  -- every pixel was read
  drawn_done : zp.ended ≡ false → told ≡ shape.Done → Becomes short source → HasDrawn (reading source start) source told new_sketch new_states unread next
  drawn_done open_end is becomes =
      let place : Option Interval = (reading short first).at.place in
      let is_whole = on.done is in
      let none : left_of new_sketch ≡ 0 = omega (arith, is_whole) in
      let ended : reading source (progress new_sketch new_states place) ≡ stands shape.Done (progress new_sketch new_states place) =
      ap (λ (left : ℕ). read_pixels context source.table source.payload source.ended left (progress new_sketch new_states place)) none in
      let same : stands shape.Done (progress new_sketch new_states place) ≡ reading source start =
      sym ended ∙ goes_later source open_end becomes ∙ draws.goes source becomes in
      subst (λ (r : Reading). HasDrawn r source told new_sketch new_states unread next) same
      (record { answer = is; sketch_is = refl; states_are = refl; takes = takes_there place here.fed })

  drawn_part : Becomes short source → zp.ended ≡ false → (step : ShapeStep) → told ≡ step → told ≢ shape.NeedBytes →
      HasDrawn (reading source start) source told new_sketch new_states unread next
  drawn_part becomes open_end shape.Done e some = drawn_done open_end e becomes
  drawn_part becomes open_end shape.NeedBytes e some = absurd (some e)
  drawn_part becomes open_end shape.Exhausted e some =
      absurd (never_drawn context source.table draws.takes.taken zp.ended (left_of sketch) first open_end (sym here.answer ∙ e))

  drawn_become : Becomes short source → told ≢ shape.NeedBytes → HasDrawn (reading source start) source told new_sketch new_states unread next
  drawn_become (stays e) some = drawn_whole e
  drawn_become (grows goes more ended e) some = drawn_part (grows goes more ended e) goes told refl some

  -- a reader that answered without wanting bytes
  pub drawn_end : told ≢ shape.NeedBytes →
      HasDrawn (reading_of context source.table source.payload source.ended start) source told new_sketch new_states unread next
  drawn_end some = drawn_become (becomes_whole source draws.place unread zp feeds draws.takes) some

  wants_there : told ≡ shape.NeedBytes → (zp.ended ≡ false) × (0 < bytes_wanted draws.takes.taken (reading short first).at.place)
  wants_there e = wants_drawn context source.table draws.takes.taken zp.ended (left_of sketch) first (sym here.answer ∙ e)

  -- one that wants bytes waits, with more of them taken
  pub draws_more : told ≡ shape.NeedBytes → (new : Unread) (last : Decoder) → Feeds new last → TakesMore unread new next last →
      DrawsOn context source start new_sketch new_states new last
  draws_more e new last fed more =
      offered context source start new_sketch new_states unread new next last
      (record { table = subst (λ (t : List Row). IsTable t) (sym on.table) feeds.table; told = on.ended ∙ feeds.told }) fed more
      (draws_on (wants_there e).0)

  -- and where none are left, so does the definition
  pub drawn_need : told ≡ shape.NeedBytes → (new : Unread) (last : Decoder) →
      ((taken : List ℕ) (place : Option Interval) → Fed taken place next → 0 < bytes_wanted taken place → unread.left ≡ []) → TakesMore unread new next last →
      HasDrawn (reading_of context source.table source.payload source.ended start) source told new_sketch new_states new last
  drawn_need e new last none more =
      let left : unread.left ≡ [] = none draws.takes.taken (reading short first).at.place here.fed (wants_there e).1 in
      let has : HasDrawn (reading source start) source told new_sketch new_states unread next =
      drawn_whole (sym (all_taken source draws.place unread zp feeds draws.takes left)) in
      record { answer = has.answer; sketch_is = has.sketch_is; states_are = has.states_are; takes = takes_more source _ unread new next last more has.takes }

-- pixels that were read tick, in two parts as in one
pub drawn_ticks : (first now last : Sketch) (a b c : ℕ) → first.number ≤ now.number → now.number ≤ last.number →
    TicksExactly (now.number - first.number) a b → TicksExactly (last.number - now.number) b c → TicksExactly (last.number - first.number) a c
drawn_ticks first now last a b c early late before after =
    let sum : (now.number - first.number) + (last.number - now.number) ≡ last.number - first.number = omega (arith, early, late) in
    subst (λ (n : ℕ). TicksExactly n a c) sum (ticks_both (now.number - first.number) (last.number - now.number) a b c before after)
