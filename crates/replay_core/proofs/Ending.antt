-- Pages at their ends, and looks at pages.
use Rattle.std.proofs.Common.{◌≡◌, ◌≤◌, ◌+◌, ℕ, zero, suc, Bool, true, false, cond, eqb, Option, Some, None, ◌⊎◌, inl, inr, List, [], ◌∷◌, length, map, refl, sym, ap, ◌∙◌, subst, arith}
use Rattle.std.specs.Prelude.{slice_get, replicate}
use Rattle.std.specs.List.{Contains}
use Rattle.std.proofs.lemmas.Bool.{eqb-true}
use Rattle.std.proofs.lemmas.List.{length-map}
use Rattle.std.proofs.lemmas.List.Elements.{Contains-append_cases}
use Rattle.std.proofs.lemmas.Option.{slice_get_past, slice_get_within}
use Rattle.djvu_base.specs.Library.{Library}
use Rattle.djvu_base.specs.Announced.{Announced}
use Rattle.zp_table.specs.declared.rows.Row.{Row}
use Rattle.page_decoder.specs.PageRead.{Drawing, Ending, NeedBytes, PageRead, notice_of, last_layers}
use Rattle.page_decoder.specs.Libraries.{run, LibraryGoesOn}
use Rattle.page_decoder.specs.Needs.{IsOver}
use Rattle.replay_core.specs.Machine.{PageState, State, Event, Feed, End, Step, Look, Answer, Taken, Drew, AtEnd, Looked, last_of, page_notices, page_layers, layers_drawn, next_notice, step_answer, page_step, page_look, state_after, state_after_all, answer, answers, ends_told, told_at, ends_in, IsSound, LooksRise, HasEnded, GoesWell, Draws, Ends, drawn_with, stepped}
use Rattle.replay_core.proofs.Listing.{changed_here, none_left, last_front}
use Rattle.replay_core.proofs.Moving.{Same, Both, library_after_all}
use Rattle.replay_core.proofs.Told.{NoticesOn, Reaches, reaches, sound_after_all}

-- ---- an end that is answered

pub at_end : (next : Option Announced) (its end : Ending) → step_answer next its ≡ AtEnd end → (next ≡ None) × (its ≡ end)
at_end None its end e = (refl, cc)
at_end (Some notice) its end e = absurd (let wrong : Drew notice ≡ AtEnd end = e in cc)

pub ended_at : (table : List Row) (library : Library) (it : PageState) (end : Ending) → it.drawn ≤ length (page_notices table library it.file) → IsOver end
    → page_step table library (Some it) ≡ AtEnd end → HasEnded table library it end
ended_at table library it end le over e =
    let so = at_end (next_notice table library it) (run table library it.file).end end e in
    record { over = over; end_so = so.1; all = none_left (page_notices table library it.file) it.drawn le so.0 }

pub answers_end : (table : List Row) (library : Library) (it : PageState) (end : Ending) → HasEnded table library it end
    → page_step table library (Some it) ≡ AtEnd end
answers_end table library it end ended =
    ap (λ o. step_answer o (run table library it.file).end)
    (slice_get_past (page_notices table library it.file) it.drawn (let all = ended.all in omega (arith, all))) ∙ ap AtEnd ended.end_so

-- a page of which an over end is answered is there
pub is_there : (table : List Row) (library : Library) (found : Option PageState) (end : Ending) → IsOver end → page_step table library found ≡ AtEnd end
    → (it : PageState) × (found ≡ Some it)
is_there table library None end over e = absurd (subst IsOver (sym (let same : NeedBytes ≡ end = cc in same)) over)
is_there table library (Some it) end over e = (it, refl)

-- ---- pages at their ends, in libraries that go on

-- the law of readings that are over

abbrev pub RunsStay : List Row → Type 0
RunsStay table = (library later : Library) (file : ℕ) → LibraryGoesOn library later → IsOver (run table library file).end
    → run table later file ≡ run table library file

module _ (same : Same) (both : Both) (table : List Row) (on : NoticesOn table) (runs : RunsStay table) (state : State) (sound : IsSound table state)
    (events : List Event) where
  grows : LibraryGoesOn state.library (state_after_all table state events).library
  grows = library_after_all same both table state events

  over_there : (it : PageState) (end : Ending) → HasEnded table state.library it end
      → run table (state_after_all table state events).library it.file ≡ run table state.library it.file
  over_there it end ended = runs state.library (state_after_all table state events).library it.file grows (subst IsOver (sym ended.end_so) ended.over)

  pub ended_then : (page : ℕ) (it next : PageState) (end : Ending) → Reaches table state events page it next → HasEnded table state.library it end
      → HasEnded table (state_after_all table state events).library next end
  ended_then page it next end there ended =
      let run_so = over_there it end ended in
      let notices_so = ap (λ (r : PageRead). map notice_of r.left.told.drawings) run_so in
      let many = ap length notices_so in
      let room = there.draws.room in
      let rises = there.rises in
      let all = ended.all in
      let count : next.drawn ≡ length (page_notices table (state_after_all table state events).library it.file) = omega (arith, many, room, rises, all) in
      let end_so : (run table (state_after_all table state events).library it.file).end ≡ end = ap (λ (r : PageRead). r.end) run_so ∙ ended.end_so in
      record {
        over = ended.over;
        end_so = subst (λ f. (run table (state_after_all table state events).library f).end ≡ end) (sym there.file) end_so;
        all = subst (λ f. next.drawn ≡ length (page_notices table (state_after_all table state events).library f)) (sym there.file) count;
      }

  pub stays_ended : (page : ℕ) (end : Ending) → IsOver end → answer table state (Step page) ≡ AtEnd end
      → answer table (state_after_all table state events) (Step page) ≡ AtEnd end
  stays_ended page end over e =
      let found = is_there table state.library (slice_get state.pages page) end over e in
      let it = found.0 in
      let room = sound page it found.1 in
      let its : page_step table state.library (Some it) ≡ AtEnd end = ap (page_step table state.library) (sym found.1) ∙ e in
      let then = reaches same table on state events page it found.1 room in
      let ended = ended_then page it then.0 end then.1 (ended_at table state.library it end room over its) in
      ap (page_step table (state_after_all table state events).library) then.1.found
      ∙ answers_end table (state_after_all table state events).library then.0 end ended

-- ---- ends that were answered

none_among : {A : Type 0} (item : A) → Contains [] item → ⊥
none_among item has = let less = has.1 in omega (arith, less)

one_among : {A : Type 0} (one item : A) → Contains (one ∷ []) item → one ≡ item
one_among one item (zero, less, e) = e
one_among one item (suc k, less, e) = absurd (omega (arith, less))

told_end : (given : Answer) (end : Ending) → Contains (ends_told given) end → given ≡ AtEnd end
told_end Taken end has = absurd (none_among end has)
told_end (Drew notice) end has = absurd (none_among end has)
told_end (Looked notice) end has = absurd (none_among end has)
told_end (AtEnd its) end has = ap AtEnd (one_among its end has)

by_step : (table : List Row) (state : State) (page other : ℕ) (end : Ending)
    → Contains (told_at ends_told page (Step other) (answer table state (Step other))) end
    → answer table state (Step page) ≡ AtEnd end
by_step table state page other end has = by (eqb page other) refl has
  where
    by : (b : Bool) → eqb page other ≡ b → Contains (cond b (ends_told (answer table state (Step other))) []) end → answer table state (Step page) ≡ AtEnd end
    by false is has = absurd (none_among end has)
    by true is has = ap (λ n. answer table state (Step n)) (eqb-true page other is) ∙ told_end (answer table state (Step other)) end has

answered_at : (table : List Row) (state : State) (event : Event) (page : ℕ) (end : Ending)
    → Contains (told_at ends_told page event (answer table state event)) end → answer table state (Step page) ≡ AtEnd end
answered_at table state (Feed file piece) page end has = absurd (none_among end has)
answered_at table state (End file how) page end has = absurd (none_among end has)
answered_at table state (Look viewer other) page end has = absurd (none_among end has)
answered_at table state (Step other) page end has = by_step table state page other end has

pub answered_in : Same → Both → (table : List Row) → NoticesOn table → RunsStay table → (state : State) → IsSound table state → (events : List Event)
    (page : ℕ) (end : Ending) → IsOver end → Contains (ends_in page events (answers table state events)) end
    → answer table (state_after_all table state events) (Step page) ≡ AtEnd end
answered_in same both table on runs state sound [] page end over has = absurd (none_among end has)
answered_in same both table on runs state sound (event ∷ events) page end over has =
    by (Contains-append_cases (told_at ends_told page event (answer table state event))
    (ends_in page events (answers table (state_after table state event) events)) end has)
    (answered_in same both table on runs (state_after table state event) (sound_after_all same table on state sound (event ∷ [])) events page end over)
  where
    by : Contains (told_at ends_told page event (answer table state event)) end
        ⊎ Contains (ends_in page events (answers table (state_after table state event) events)) end
        → (Contains (ends_in page events (answers table (state_after table state event) events)) end
        → answer table (state_after_all table state (event ∷ events)) (Step page) ≡ AtEnd end)
        → answer table (state_after_all table state (event ∷ events)) (Step page) ≡ AtEnd end
    by (inl first) rest = stays_ended same both table on runs state sound (event ∷ events) page end over (answered_at table state event page end first)
    by (inr later) rest = rest later

-- ---- the drawing of a page

last_is : (drawings : List Drawing) → last_of (map (λ (d : Drawing). d.layers) drawings) (length drawings) ≡ last_layers drawings
last_is [] = refl
last_is (drawing ∷ []) = refl
last_is (drawing ∷ next ∷ drawings) = last_is (next ∷ drawings)

pub layers_of_all : (table : List Row) (library : Library) (it : PageState) (end : Ending) → HasEnded table library it end
    → layers_drawn table library it ≡ last_layers (run table library it.file).left.told.drawings
layers_of_all table library it end ended =
    ap (last_of (page_layers table library it.file)) (ended.all ∙ length-map (run table library it.file).left.told.drawings notice_of)
    ∙ last_is (run table library it.file).left.told.drawings

-- ---- looks

pub looks_on : (table : List Row) → NoticesOn table → (state : State) (events : List Event) (page viewer other : ℕ) (it next : PageState)
    → LibraryGoesOn state.library (state_after_all table state events).library → slice_get state.pages page ≡ Some it
    → it.drawn ≤ length (page_notices table state.library it.file) → Reaches table state events page it next
    → LooksRise (page_notices table (state_after_all table state events).library it.file) (answer table state (Look viewer page))
    (answer table (state_after_all table state events) (Look other page))
looks_on table on state events page viewer other it next goes e le there = record {
  before = it.drawn;
  after = next.drawn;
  rising = there.rises;
  there = there.draws.room;
  earlier_so =
      ap (page_look table state.library) e
      ∙ ap Looked (sym (last_front (page_notices table state.library it.file)
      (page_notices table (state_after_all table state events).library it.file) it.drawn le
      (on state.library (state_after_all table state events).library it.file goes)));
  later_so =
      ap (page_look table (state_after_all table state events).library) there.found
      ∙ ap (λ f. Looked (last_of (page_notices table (state_after_all table state events).library f) next.drawn)) there.file;
}

-- ---- files that are all closed

pub goes_well : (table : List Row) (library : Library) (it : PageState) → IsOver (run table library it.file).end → GoesWell (page_step table library (Some it))
goes_well table library it over = by (next_notice table library it)
  where
    by : (next : Option Announced) → GoesWell (step_answer next (run table library it.file).end)
    by None = Ends (run table library it.file).end over
    by (Some notice) = Draws notice

-- a step on a page alone
next_page : (table : List Row) (state : State) (page : ℕ) (it : PageState) → slice_get state.pages page ≡ Some it
    → slice_get (state_after table state (Step page)).pages page ≡ Some (stepped table state.library it)
next_page table state page it e = changed_here (stepped table state.library) state.pages page it e

drawn_more : (table : List Row) (library : Library) (it : PageState) (count : ℕ) → it.drawn ≤ length (page_notices table library it.file)
    → length (page_notices table library it.file) ≤ it.drawn + suc count
    → ((stepped table library it).file ≡ it.file) × (length (page_notices table library it.file) ≤ (stepped table library it).drawn + count)
    × ((stepped table library it).drawn ≤ length (page_notices table library it.file))
drawn_more table library it count le many = by (next_notice table library it) refl
  where
    by : (next : Option Announced) → next_notice table library it ≡ next
        → ((drawn_with next it).file ≡ it.file) × (length (page_notices table library it.file) ≤ (drawn_with next it).drawn + count)
        × ((drawn_with next it).drawn ≤ length (page_notices table library it.file))
    by None e = let all = none_left (page_notices table library it.file) it.drawn le e in (refl, omega (arith, all), le)
    by (Some notice) e =
        let within = slice_get_within (page_notices table library it.file) it.drawn notice e in
        (refl, omega (arith, many), omega (arith, within))

pub steps_end : (table : List Row) (state : State) (page count : ℕ) (it : PageState) → slice_get state.pages page ≡ Some it
    → it.drawn ≤ length (page_notices table state.library it.file) → length (page_notices table state.library it.file) ≤ it.drawn + count
    → answer table (state_after_all table state (replicate count (Step page))) (Step page) ≡ AtEnd (run table state.library it.file).end
steps_end table state page zero it e le many =
    ap (page_step table state.library) e
    ∙ ap (λ o. step_answer o (run table state.library it.file).end) (slice_get_past (page_notices table state.library it.file) it.drawn (omega (arith, many)))
steps_end table state page (suc count) it e le many =
    let more = drawn_more table state.library it count le many in
    let next = stepped table state.library it in
    let rest = steps_end table (state_after table state (Step page)) page count next (next_page table state page it e)
    (subst (λ f. next.drawn ≤ length (page_notices table state.library f)) (sym more.0) more.2)
    (subst (λ f. length (page_notices table state.library f) ≤ next.drawn + count) (sym more.0) more.1) in
    rest ∙ ap (λ f. AtEnd (run table state.library f).end) more.0
