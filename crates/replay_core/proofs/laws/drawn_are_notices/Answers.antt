use Rattle.std.proofs.Common.{◌≡◌, ◌≤◌, length, List, ◌++◌, take, drop, sym, ap, ◌∙◌, append_assoc, arith}
use Rattle.std.proofs.lemmas.List.{take-append-drop, length-take-le}
use Rattle.djvu_base.specs.Announced.{Announced}
use Rattle.replay_core.specs.Machine.{Looked, last_of, page_look, unread_page, state_after_all, answers, start, drawn_in, page_notices}
use Rattle.replay_core.proofs.Listing.{last_front}
use Rattle.replay_core.proofs.Told.{notices_on, reaches, reaches_it, unread}
use Rattle.replay_core.proofs.laws.drawn_are_notices.Goals as goal

pub returns-clause-first : goal.returns-clause-first
returns-clause-first c table names files events page file later is e goes =
    let state = start names files in
    let on = notices_on c.growth.ensures.notices c.libraries_go_on.ensures.given table is in
    let then = reaches c.libraries_go_on.ensures.same table on state events page (unread_page file) (unread files page file e) (omega arith) in
    let now = page_notices table (state_after_all table state events).library file in
    let grown = on (state_after_all table state events).library later file goes in
    let drew : take then.0.drawn now ≡ drawn_in page events (answers table state events) = then.1.draws.told in (
      drop then.0.drawn now ++ grown.0,
      grown.1 ∙ ap (λ l. l ++ grown.0) (sym (take-append-drop then.0.drawn now))
          ∙ append_assoc (take then.0.drawn now) (drop then.0.drawn now) grown.0 ∙ ap (λ l. l ++ (drop then.0.drawn now ++ grown.0)) drew,
    )

pub returns-clause-looked : goal.returns-clause-looked
returns-clause-looked c table names files events page file viewer is e =
    let state = start names files in
    let on = notices_on c.growth.ensures.notices c.libraries_go_on.ensures.given table is in
    let then = reaches c.libraries_go_on.ensures.same table on state events page (unread_page file) (unread files page file e) (omega arith) in
    let library = (state_after_all table state events).library in
    let now = page_notices table library file in
    let drew : take then.0.drawn now ≡ drawn_in page events (answers table state events) = then.1.draws.told in
    let room : then.0.drawn ≤ length now = then.1.draws.room in
    let many = length-take-le then.0.drawn now room in
    let last : last_of now then.0.drawn ≡ last_of (take then.0.drawn now) then.0.drawn =
    last_front (take then.0.drawn now) now then.0.drawn (omega (arith, many)) (drop then.0.drawn now, sym (take-append-drop then.0.drawn now)) in
    ap (page_look table library) then.1.found ∙ ap (λ f. Looked (last_of (page_notices table library f) then.0.drawn)) then.1.file
    ∙ ap Looked (last ∙ ap (last_of (take then.0.drawn now)) (sym many) ∙ ap (λ (l : List Announced). last_of l (length l)) drew)

pub returns-clause-next : goal.returns-clause-next
returns-clause-next c table state events page it next is sound e f =
    let on = notices_on c.growth.ensures.notices c.libraries_go_on.ensures.given table is in
    (reaches_it c.libraries_go_on.ensures.same table on state sound events page it next e f).draws.told
