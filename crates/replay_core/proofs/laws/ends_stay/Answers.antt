use Rattle.std.proofs.Common.{◌≡◌, ℕ, Option, Some, None, List, ◌++◌, take, refl, sym, ap, ◌∙◌}
use Rattle.std.specs.Prelude.{slice_get}
use Rattle.std.specs.List.{Contains}
use Rattle.std.proofs.Math.Seq.{take-length}
use Rattle.zp_table.specs.declared.rows.Row.{Row}
use Rattle.zp_table.specs.Rows.{IsTable}
use Rattle.page_decoder.specs.PageRead.{Ending}
use Rattle.page_decoder.specs.Libraries.{run_given, run, shown_by}
use Rattle.page_decoder.specs.Needs.{IsOver}
use Rattle.replay_core.specs.Machine.{PageState, Event, page_step, state_after_all, answers, start, drawn_in, ends_in, page_notices, layers_drawn, HasEnded, TellsPage}
use Rattle.replay_core.proofs.Moving.{nowhere_then}
use Rattle.replay_core.proofs.Told.{NoticesOn, notices_on, reaches_it, sound_after_all, none_drawn, sound_at_start}
use Rattle.replay_core.proofs.Ending.{RunsStay, ended_at, stays_ended, answered_in, layers_of_all}
use Rattle.replay_core.proofs.laws.ends_stay.Goals as goal

module _ (c : goal.After-libraries_go_on) (table : List Row) (is : IsTable table) where
  on : NoticesOn table
  on = notices_on c.growth.ensures.notices c.libraries_go_on.ensures.given table is

  runs : RunsStay table
  runs library later file goes over = c.libraries_go_on.ensures.over table library later file is goes over

  module _ (names : List (List ℕ)) (files : List ℕ) (events : List Event) (page : ℕ) (it : PageState)
      (e : slice_get (state_after_all table (start names files) events).pages page ≡ Some it) where
    ended : (end : Ending) → IsOver end → Contains (ends_in page events (answers table (start names files) events)) end
        → HasEnded table (state_after_all table (start names files) events).library it end
    ended end over has =
        let later = state_after_all table (start names files) events in
        let sound = sound_after_all c.libraries_go_on.ensures.same table on (start names files) (sound_at_start table names files) events in
        let answered = answered_in c.libraries_go_on.ensures.same c.libraries_go_on.ensures.both table on runs (start names files)
        (sound_at_start table names files) events page end over has in
        ended_at table later.library it end (sound page it e) over (ap (page_step table later.library) (sym e) ∙ answered)

    drew : (first : Option PageState) → slice_get (start names files).pages page ≡ first
        → take it.drawn (page_notices table (state_after_all table (start names files) events).library it.file)
        ≡ drawn_in page events (answers table (start names files) events)
    drew None f = absurd (let wrong : Some it ≡ None = sym e ∙ nowhere_then table (start names files) events page f in cc)
    drew (Some first) f =
        let there = reaches_it c.libraries_go_on.ensures.same table on (start names files) (sound_at_start table names files) events page first it f e in
        ap (λ file. take it.drawn (page_notices table (state_after_all table (start names files) events).library file)) there.file ∙ there.draws.told
        ∙ ap (λ count. take count (page_notices table (start names files).library first.file)
        ++ drawn_in page events (answers table (start names files) events))
        (none_drawn files page first f)

    tells : (end : Ending) → HasEnded table (state_after_all table (start names files) events).library it end
        → TellsPage table (state_after_all table (start names files) events).library it (drawn_in page events (answers table (start names files) events)) end
    tells end ended =
        let library = (state_after_all table (start names files) events).library in
        record {
          ended = ended;
          notices = sym (drew (slice_get (start names files).pages page) refl)
              ∙ ap (λ count. take count (page_notices table library it.file)) ended.all ∙ take-length (page_notices table library it.file);
          page_so = ap (λ e. shown_by e (layers_drawn table library it)) (sym ended.end_so)
              ∙ ap (shown_by (run table library it.file).end)
              (layers_of_all table library it end ended ∙ sym (c.shows.ensures.layers (run_given table library it.file)));
        }

pub returns-clause-ended : goal.returns-clause-ended
returns-clause-ended c table state page it end sound e over answered =
    ended_at table state.library it end (sound page it e) over (ap (page_step table state.library) (sym e) ∙ answered)

pub returns-clause-stays : goal.returns-clause-stays
returns-clause-stays c table state events page end is sound over answered =
    stays_ended c.libraries_go_on.ensures.same c.libraries_go_on.ensures.both table (on c table is) (runs c table is) state sound events page end over answered

pub returns-clause-pages : goal.returns-clause-pages
returns-clause-pages c table names files events page it end is e has over =
    tells c table is names files events page it e end (ended c table is names files events page it e end over has)
