use Rattle.std.proofs.Common.{◌≡◌, ℕ, Option, Some, None, List, refl, sym, subst}
use Rattle.std.specs.Prelude.{slice_get}
use Rattle.zp_table.specs.declared.rows.Row.{Row}
use Rattle.zp_table.specs.Rows.{IsTable}
use Rattle.page_decoder.specs.Libraries.{run_given, run}
use Rattle.replay_core.specs.Machine.{State, PageState, Event, Look, page_look, page_notices, answer, state_after_all, IsSound, LooksRise, ShowsNoLess}
use Rattle.replay_core.proofs.Moving.{library_after_all}
use Rattle.replay_core.proofs.Told.{notices_on, reaches}
use Rattle.replay_core.proofs.Ending.{looks_on}
use Rattle.replay_core.proofs.Drawings.{shows_no_less}
use Rattle.replay_core.proofs.laws.looks_rise.Goals as goal

rise : (c : goal.After-libraries_go_on) (table : List Row) (state : State) (events : List Event) (page viewer other : ℕ) (it : PageState) → IsTable table
    → IsSound table state → slice_get state.pages page ≡ Some it
    → LooksRise (page_notices table (state_after_all table state events).library it.file) (answer table state (Look viewer page))
    (answer table (state_after_all table state events) (Look other page))
rise c table state events page viewer other it is sound e =
    let on = notices_on c.growth.ensures.notices c.libraries_go_on.ensures.given table is in
    let then = reaches c.libraries_go_on.ensures.same table on state events page it e (sound page it e) in
    looks_on table on state events page viewer other it then.0
    (library_after_all c.libraries_go_on.ensures.same c.libraries_go_on.ensures.both table state events) e (sound page it e) then.1

pub returns-clause-places : goal.returns-clause-places
returns-clause-places c table state events page viewer other it is sound e = rise c table state events page viewer other it is sound e

pub returns-clause-chunks : goal.returns-clause-chunks
returns-clause-chunks c table state events page viewer other is sound = by (slice_get state.pages page) refl
  where
    by : (found : Option PageState) → slice_get state.pages page ≡ found
        → ShowsNoLess (answer table state (Look viewer page)) (answer table (state_after_all table state events) (Look other page))
    by None e = subst (λ f. ShowsNoLess (page_look table state.library f) (answer table (state_after_all table state events) (Look other page))) (sym e) tt
    by (Some it) e =
        let library = (state_after_all table state events).library in
        shows_no_less (run table library it.file).left.told.drawings (c.ascend.ensures.order (run_given table library it.file))
        (answer table state (Look viewer page)) (answer table (state_after_all table state events) (Look other page))
        (rise c table state events page viewer other it is sound e)
