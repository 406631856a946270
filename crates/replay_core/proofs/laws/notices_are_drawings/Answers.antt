use Rattle.std.proofs.Common.{◌≡◌, ℕ, zero, suc, Option, Some, None, List, sym, ap, ◌∙◌}
use Rattle.std.specs.Prelude.{slice_get}
use Rattle.djvu_base.specs.Announced.{Announced}
use Rattle.zp_table.specs.declared.rows.Row.{Row}
use Rattle.djvu_base.specs.Library.{Library}
use Rattle.page_decoder.specs.PageRead.{Ending}
use Rattle.page_decoder.specs.Libraries.{run_given, run}
use Rattle.replay_core.specs.Machine.{Drew, AtEnd, Looked, last_of, page_notices, next_notice, step_answer, page_step, page_look, TellsDrawing}
use Rattle.replay_core.proofs.Drawings.{tells_drawing}
use Rattle.replay_core.proofs.laws.notices_are_drawings.Goals as goal

tells : (c : goal.After-shown) (table : List Row) (library : Library) (file number : ℕ) (notice : Announced)
    → slice_get (page_notices table library file) number ≡ Some notice → TellsDrawing table library file notice
tells c table library file number notice e =
    tells_drawing table library file number notice (c.ascend.ensures.order (run_given table library file))
    (λ page chunks picture found. c.shown.ensures.told table library page chunks picture found) e

drew : (next : Option Announced) (end : Ending) (notice : Announced) → step_answer next end ≡ Drew notice → next ≡ Some notice
drew None end notice e = absurd (let wrong : AtEnd end ≡ Drew notice = e in cc)
drew (Some other) end notice e = let same : other ≡ notice = cc in ap Some same

looked : (items : List Announced) (count : ℕ) (notice : Announced) → Looked (last_of items count) ≡ Looked (Some notice)
    → (number : ℕ) × (slice_get items number ≡ Some notice)
looked items zero notice e = absurd (let wrong : None ≡ Some notice = cc in cc)
looked items (suc number) notice e = (number, let same : slice_get items number ≡ Some notice = cc in same)

pub returns-clause-steps : goal.returns-clause-steps
returns-clause-steps c table state page it notice e answered =
    tells c table state.library it.file it.drawn notice
    (drew (next_notice table state.library it) (run table state.library it.file).end notice (ap (page_step table state.library) (sym e) ∙ answered))

pub returns-clause-looks : goal.returns-clause-looks
returns-clause-looks c table state page viewer it notice e answered =
    let found = looked (page_notices table state.library it.file) it.drawn notice (ap (page_look table state.library) (sym e) ∙ answered) in
    tells c table state.library it.file found.0 notice found.1
