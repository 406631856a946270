use Rattle.std.proofs.Common.{◌≡◌, List, [], ◌∷◌, ◌++◌, refl, ap}
use Rattle.zp_table.specs.declared.rows.Row.{Row}
use Rattle.replay_core.specs.Machine.{State, Event, state_after, state_after_all, answer, answers}
use Rattle.replay_core.proofs.Moving.{library_after_all, page_then}
use Rattle.replay_core.proofs.Told.{notices_on, sound_after_all, sound_at_start}
use Rattle.replay_core.proofs.laws.states_go_on.Goals as goal

joined : (table : List Row) (state : State) (events others : List Event)
    → state_after_all table state (events ++ others) ≡ state_after_all table (state_after_all table state events) others
joined table state [] others = refl
joined table state (event ∷ events) others = joined table (state_after table state event) events others

answered : (table : List Row) (state : State) (events others : List Event)
    → answers table state (events ++ others) ≡ answers table state events ++ answers table (state_after_all table state events) others
answered table state [] others = refl
answered table state (event ∷ events) others = ap (λ l. answer table state event ∷ l) (answered table (state_after table state event) events others)

pub returns-clause-library : goal.returns-clause-library
returns-clause-library c table state events = library_after_all c.libraries_go_on.ensures.same c.libraries_go_on.ensures.both table state events

pub returns-clause-pages : goal.returns-clause-pages
returns-clause-pages c table state events page it e = let then = page_then table state events page it e in (then.next, then.found, then.on)

pub returns-clause-joined : goal.returns-clause-joined
returns-clause-joined c table state events others = joined table state events others

pub returns-clause-answered : goal.returns-clause-answered
returns-clause-answered c table state events others = answered table state events others

pub returns-clause-started : goal.returns-clause-started
returns-clause-started c table names files = sound_at_start table names files

pub returns-clause-sound : goal.returns-clause-sound
returns-clause-sound c table state events is sound =
    sound_after_all c.libraries_go_on.ensures.same table (notices_on c.growth.ensures.notices c.libraries_go_on.ensures.given table is) state sound events
