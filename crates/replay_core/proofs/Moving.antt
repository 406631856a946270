-- What an event makes of the library and of one page.
use Rattle.std.proofs.Common.{◌≡◌, ℕ, zero, suc, Bool, true, false, cond, eqb, Option, Some, None, inl, inr, List, [], ◌∷◌, refl, sym, ◌∙◌, subst, arith}
use Rattle.std.specs.Prelude.{slice_get}
use Rattle.std.proofs.lemmas.Bool.{eqb-true, eqb-false}
use Rattle.std.proofs.lemmas.List.{append-nil}
use Rattle.djvu_base.specs.Library.{Mark, Open, Whole, Broken, File, Library}
use Rattle.djvu_base.specs.Announced.{Announced}
use Rattle.djvu_base.specs.declared.ends.FileEnd.{FileEnd}
use Rattle.zp_table.specs.declared.rows.Row.{Row}
use Rattle.page_decoder.specs.Libraries.{FileGoesOn, LibraryGoesOn}
use Rattle.replay_core.specs.Machine.{PageState, State, Event, Feed, End, Step, Look, change_at, fed_by, fed, ended_by, ended, next_notice, drawn_with, stepped, state_after, state_after_all, PageGoesOn}
use Rattle.replay_core.proofs.Listing.{changed_here, changed_apart, changed_nowhere}

-- ---- the library

pub same_file : (file : File) → FileGoesOn file file
same_file file = record { name = refl; bytes = inr (refl, refl) }

pub fed_on : (piece : List ℕ) (file : File) → FileGoesOn file (fed piece file)
fed_on piece file = by file.mark refl
  where
    by : (mark : Mark) → file.mark ≡ mark → FileGoesOn file (fed_by mark piece file)
    by Open e = record { name = refl; bytes = inl (e, (piece, refl)) }
    by Whole e = same_file file
    by Broken e = same_file file

pub ended_on : (how : FileEnd) (file : File) → FileGoesOn file (ended how file)
ended_on how file = by file.mark refl
  where
    by : (mark : Mark) → file.mark ≡ mark → FileGoesOn file (ended_by mark how file)
    by Open e = record { name = refl; bytes = inl (e, ([], sym (append-nil file.bytes))) }
    by Whole e = same_file file
    by Broken e = same_file file

abbrev pub Same : Type 0
Same = (library : Library) → LibraryGoesOn library library

abbrev pub Both : Type 0
Both = (library later latest : Library) → LibraryGoesOn library later → LibraryGoesOn later latest → LibraryGoesOn library latest

pub changed_on : Same → (change : File → File) → ((file : File) → FileGoesOn file (change file)) → (number : ℕ) (library : Library)
    → LibraryGoesOn library (change_at change number library)
changed_on same change on number [] = tt
changed_on same change on zero (file ∷ library) = (on file, same library)
changed_on same change on (suc number) (file ∷ library) = (same_file file, changed_on same change on number library)

pub library_after : Same → (table : List Row) (state : State) (event : Event) → LibraryGoesOn state.library (state_after table state event).library
library_after same table state (Feed file piece) = changed_on same (fed piece) (fed_on piece) file state.library
library_after same table state (End file how) = changed_on same (ended how) (ended_on how) file state.library
library_after same table state (Step page) = same state.library
library_after same table state (Look viewer page) = same state.library

pub library_after_all : Same → Both → (table : List Row) (state : State) (events : List Event)
    → LibraryGoesOn state.library (state_after_all table state events).library
library_after_all same both table state [] = same state.library
library_after_all same both table state (event ∷ events) =
    both state.library (state_after table state event).library (state_after_all table (state_after table state event) events).library
    (library_after same table state event) (library_after_all same both table (state_after table state event) events)

-- ---- a page

abbrev pub page_after : List Row → Library → ℕ → Event → PageState → PageState
page_after table library page (Step other) it = cond (eqb page other) (stepped table library it) it
page_after table library page other it = it

pub found_after : (table : List Row) (state : State) (event : Event) (page : ℕ) (it : PageState) → slice_get state.pages page ≡ Some it
    → slice_get (state_after table state event).pages page ≡ Some (page_after table state.library page event it)
found_after table state (Feed file piece) page it e = e
found_after table state (End file how) page it e = e
found_after table state (Look viewer other) page it e = e
found_after table state (Step other) page it e = by (eqb page other) refl
  where
    by : (b : Bool) → eqb page other ≡ b
        → slice_get (change_at (stepped table state.library) other state.pages) page ≡ Some (cond b (stepped table state.library it) it)
    by true is =
        let here = changed_here (stepped table state.library) state.pages page it e in
        subst (λ n. slice_get (change_at (stepped table state.library) n state.pages) page ≡ Some (stepped table state.library it))
        (eqb-true page other is) here
    by false is = changed_apart (stepped table state.library) state.pages other page (eqb-false page other is) ∙ e

pub nowhere_after : (table : List Row) (state : State) (event : Event) (page : ℕ) → slice_get state.pages page ≡ None
    → slice_get (state_after table state event).pages page ≡ None
nowhere_after table state (Feed file piece) page e = e
nowhere_after table state (End file how) page e = e
nowhere_after table state (Look viewer other) page e = e
nowhere_after table state (Step other) page e = changed_nowhere (stepped table state.library) state.pages other page e

drawn_on : (o : Option Announced) (it : PageState) → PageGoesOn it (drawn_with o it)
drawn_on None it = record { file = refl; drawn = omega arith }
drawn_on (Some notice) it = record { file = refl; drawn = omega arith }

pub page_on : (table : List Row) (library : Library) (page : ℕ) (event : Event) (it : PageState) → PageGoesOn it (page_after table library page event it)
page_on table library page (Feed file piece) it = record { file = refl; drawn = omega arith }
page_on table library page (End file how) it = record { file = refl; drawn = omega arith }
page_on table library page (Look viewer other) it = record { file = refl; drawn = omega arith }
page_on table library page (Step other) it = by (eqb page other)
  where
    by : (b : Bool) → PageGoesOn it (cond b (stepped table library it) it)
    by true = drawn_on (next_notice table library it) it
    by false = record { file = refl; drawn = omega arith }

pub page_both : (a b c : PageState) → PageGoesOn a b → PageGoesOn b c → PageGoesOn a c
page_both a b c on more = record { file = more.file ∙ on.file; drawn = omega (arith, on.drawn, more.drawn) }

-- a page behind some events
pub record IsThen (table : List Row) (state : State) (events : List Event) (page : ℕ) (it : PageState) : Type 0 where
  pub next : PageState
  pub found : slice_get (state_after_all table state events).pages page ≡ Some next
  pub on : PageGoesOn it next

pub page_then : (table : List Row) (state : State) (events : List Event) (page : ℕ) (it : PageState) → slice_get state.pages page ≡ Some it
    → IsThen table state events page it
page_then table state [] page it e = record { next = it; found = e; on = record { file = refl; drawn = omega arith } }
page_then table state (event ∷ events) page it e =
    let first = page_after table state.library page event it in
    let then = page_then table (state_after table state event) events page first (found_after table state event page it e) in
    record { next = then.next; found = then.found; on = page_both it first then.next (page_on table state.library page event it) then.on }

pub nowhere_then : (table : List Row) (state : State) (events : List Event) (page : ℕ) → slice_get state.pages page ≡ None
    → slice_get (state_after_all table state events).pages page ≡ None
nowhere_then table state [] page e = e
nowhere_then table state (event ∷ events) page e = nowhere_then table (state_after table state event) events page (nowhere_after table state event page e)
