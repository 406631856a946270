-- What steps draw of a page, in a library that goes on.
use Rattle.std.proofs.Common.{◌≡◌, ◌≤◌, ℕ, zero, suc, Bool, true, false, cond, eqb, Option, Some, None, List, [], ◌∷◌, ◌++◌, length, take, map, refl, sym, ap, ◌∙◌, subst, append_assoc, arith}
use Rattle.std.specs.Prelude.{slice_get}
use Rattle.std.proofs.lemmas.Bool.{eqb-true}
use Rattle.std.proofs.lemmas.List.{append-nil, length-append, take-append-le}
use Rattle.std.proofs.lemmas.Option.{slice_get_within}
use Rattle.djvu_base.specs.Library.{Library}
use Rattle.djvu_base.specs.Announced.{Announced}
use Rattle.zp_table.specs.declared.rows.Row.{Row}
use Rattle.zp_table.specs.Rows.{IsTable}
use Rattle.page_decoder.specs.Given.{Given, Front, Within}
use Rattle.page_decoder.specs.PageRead.{notices_of}
use Rattle.page_decoder.specs.Read.{read}
use Rattle.page_decoder.specs.Libraries.{run_given, run, LibraryGoesOn}
use Rattle.replay_core.specs.Machine.{PageState, State, Event, Feed, End, Step, Look, page_notices, next_notice, drawn_with, stepped, step_answer, page_step, state_after, state_after_all, answer, answers, notices_told, told_at, drawn_in, unread_page, start, IsSound}
use Rattle.replay_core.proofs.Listing.{some_same, take_next}
use Rattle.replay_core.proofs.Moving.{Same, library_after, page_after, page_on, found_after, nowhere_then}

-- the notices of a page go on with the library
abbrev pub NoticesOn : List Row → Type 0
NoticesOn table = (library later : Library) (file : ℕ) → LibraryGoesOn library later → Front (page_notices table library file) (page_notices table later file)

-- a page of this file, of which so many notices were drawn before and after these
pub record Draws (table : List Row) (library later : Library) (file before after : ℕ) (drew : List Announced) : Type 0 where
  pub room : after ≤ length (page_notices table later file)
  pub told : take after (page_notices table later file) ≡ take before (page_notices table library file) ++ drew

-- the laws of readings that this rests on
abbrev pub NoticesGrow : Type 0
NoticesGrow = (less more : Given) → IsTable less.home.table → Within less more → Front (notices_of (read less).left.told) (notices_of (read more).left.told)

abbrev pub GivenGrows : Type 0
GivenGrows = (table : List Row) (library later : Library) (page : ℕ) → IsTable table → LibraryGoesOn library later
    → Within (run_given table library page) (run_given table later page)

pub notices_on : NoticesGrow → GivenGrows → (table : List Row) → IsTable table → NoticesOn table
notices_on grow within table is library later file goes =
    grow (run_given table library file) (run_given table later file) is (within table library later file is goes)

draws_none : (table : List Row) (library later : Library) (file count : ℕ) → Front (page_notices table library file) (page_notices table later file)
    → count ≤ length (page_notices table library file) → Draws table library later file count count []
draws_none table library later file count front le = record {
  room =
      let many = ap length front.1 ∙ length-append (page_notices table library file) front.0 in
      omega (arith, le, many);
  told = ap (take count) front.1 ∙ take-append-le count (page_notices table library file) front.0 le
      ∙ sym (append-nil (take count (page_notices table library file)));
}

module _ (table : List Row) (library : Library) (it : PageState) (le : it.drawn ≤ length (page_notices table library it.file)) where
  stays : Draws table library library it.file it.drawn it.drawn []
  stays = draws_none table library library it.file it.drawn ([], sym (append-nil (page_notices table library it.file))) le

  by_next : (next : Option Announced) → next_notice table library it ≡ next
      → Draws table library library it.file it.drawn (drawn_with next it).drawn (notices_told (step_answer next (run table library it.file).end))
  by_next None e = stays
  by_next (Some notice) e = record {
    room = let within = slice_get_within (page_notices table library it.file) it.drawn notice e in omega (arith, within);
    told = take_next (page_notices table library it.file) it.drawn notice e;
  }

  by_page : (is_it : Bool) (found : Option PageState) → (is_it ≡ true → found ≡ Some it)
      → Draws table library library it.file it.drawn (cond is_it (stepped table library it) it).drawn
      (cond is_it (notices_told (page_step table library found)) [])
  by_page false found so = stays
  by_page true found so =
      subst (λ f. Draws table library library it.file it.drawn (stepped table library it).drawn (notices_told (page_step table library f)))
      (sym (so refl)) (by_next (next_notice table library it) refl)

pub draws_after : Same → (table : List Row) → NoticesOn table → (state : State) (event : Event) (page : ℕ) (it : PageState)
    → slice_get state.pages page ≡ Some it → it.drawn ≤ length (page_notices table state.library it.file)
    → Draws table state.library (state_after table state event).library it.file it.drawn (page_after table state.library page event it).drawn
    (told_at notices_told page event (answer table state event))
draws_after same table on state (Feed file piece) page it e le =
    draws_none table state.library (state_after table state (Feed file piece)).library it.file it.drawn
    (on state.library (state_after table state (Feed file piece)).library it.file (library_after same table state (Feed file piece))) le
draws_after same table on state (End file how) page it e le =
    draws_none table state.library (state_after table state (End file how)).library it.file it.drawn
    (on state.library (state_after table state (End file how)).library it.file (library_after same table state (End file how))) le
draws_after same table on state (Look viewer other) page it e le = stays table state.library it le
draws_after same table on state (Step other) page it e le =
    by_page table state.library it le (eqb page other) (slice_get state.pages other)
    (λ is. subst (λ n. slice_get state.pages n ≡ Some it) (eqb-true page other is) e)

draws_then : (table : List Row) (library later latest : Library) (file before between after : ℕ) (drew more : List Announced)
    → Draws table library later file before between drew → Draws table later latest file between after more
    → Draws table library latest file before after (drew ++ more)
draws_then table library later latest file before between after drew more one two = record {
  room = two.room;
  told = two.told ∙ ap (λ l. l ++ more) one.told ∙ append_assoc (take before (page_notices table library file)) drew more;
}

-- a page behind some events, and what they drew of it
pub record Reaches (table : List Row) (state : State) (events : List Event) (page : ℕ) (it next : PageState) : Type 0 where
  pub found : slice_get (state_after_all table state events).pages page ≡ Some next
  pub file : next.file ≡ it.file
  pub rises : it.drawn ≤ next.drawn
  pub draws : Draws table state.library (state_after_all table state events).library it.file it.drawn next.drawn
      (drawn_in page events (answers table state events))

pub reaches : Same → (table : List Row) → NoticesOn table → (state : State) (events : List Event) (page : ℕ) (it : PageState)
    → slice_get state.pages page ≡ Some it → it.drawn ≤ length (page_notices table state.library it.file)
    → (next : PageState) × Reaches table state events page it next
reaches same table on state [] page it e le = (it, record { found = e; file = refl; rises = omega arith; draws = stays table state.library it le })
reaches same table on state (event ∷ events) page it e le =
    let first = page_after table state.library page event it in
    let goes = page_on table state.library page event it in
    let draws = draws_after same table on state event page it e le in
    let room : first.drawn ≤ length (page_notices table (state_after table state event).library first.file) =
    subst (λ f. first.drawn ≤ length (page_notices table (state_after table state event).library f)) (sym goes.file) draws.room in
    let rest = reaches same table on (state_after table state event) events page first (found_after table state event page it e) room in
    let more = subst (λ f. Draws table (state_after table state event).library (state_after_all table (state_after table state event) events).library f
    first.drawn rest.0.drawn (drawn_in page events (answers table (state_after table state event) events))) goes.file rest.1.draws in (
      rest.0,
      record {
        found = rest.1.found;
        file = rest.1.file ∙ goes.file;
        rises = omega (arith, goes.drawn, rest.1.rises);
        draws = draws_then table state.library (state_after table state event).library (state_after_all table (state_after table state event) events).library
            it.file it.drawn first.drawn rest.0.drawn (told_at notices_told page event (answer table state event))
            (drawn_in page events (answers table (state_after table state event) events)) draws more;
      },
    )

-- the same for a page that is known to stand there
pub reaches_it : Same → (table : List Row) → NoticesOn table → (state : State) → IsSound table state → (events : List Event) (page : ℕ)
    (it next : PageState) → slice_get state.pages page ≡ Some it → slice_get (state_after_all table state events).pages page ≡ Some next
    → Reaches table state events page it next
reaches_it same table on state sound events page it next e f =
    let then = reaches same table on state events page it e (sound page it e) in
    subst (λ n. Reaches table state events page it n) (some_same then.0 next (sym then.1.found ∙ f)) then.1

pub sound_after_all : Same → (table : List Row) → NoticesOn table → (state : State) → IsSound table state → (events : List Event)
    → IsSound table (state_after_all table state events)
sound_after_all same table on state sound events page next f = by (slice_get state.pages page) refl
  where
    by : (found : Option PageState) → slice_get state.pages page ≡ found
        → next.drawn ≤ length (page_notices table (state_after_all table state events).library next.file)
    by None e = absurd (let wrong : Some next ≡ None = sym f ∙ nowhere_then table state events page e in cc)
    by (Some it) e =
        let there = reaches_it same table on state sound events page it next e f in
        subst (λ n. next.drawn ≤ length (page_notices table (state_after_all table state events).library n)) (sym there.file) there.draws.room

-- ---- before the first event

pub unread : (files : List ℕ) (page file : ℕ) → slice_get files page ≡ Some file → slice_get (map unread_page files) page ≡ Some (unread_page file)
unread [] page file e = absurd (let wrong : None ≡ Some file = e in cc)
unread (first ∷ files) zero file e = ap (λ f. Some (unread_page f)) (some_same first file e)
unread (first ∷ files) (suc page) file e = unread files page file e

pub none_drawn : (files : List ℕ) (page : ℕ) (it : PageState) → slice_get (map unread_page files) page ≡ Some it → it.drawn ≡ 0
none_drawn [] page it e = absurd (let wrong : None ≡ Some it = e in cc)
none_drawn (file ∷ files) zero it e = sym (ap (λ (p : PageState). p.drawn) (some_same (unread_page file) it e))
none_drawn (file ∷ files) (suc page) it e = none_drawn files page it e

pub sound_at_start : (table : List Row) (names : List (List ℕ)) (files : List ℕ) → IsSound table (start names files)
sound_at_start table names files page it e = let none = none_drawn files page it e in omega (arith, none)
