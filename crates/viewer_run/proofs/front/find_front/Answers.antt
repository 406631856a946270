use Rattle.std.proofs.Common.{◌≡◌, ◌∙◌, ℕ, Result, Ok, IfOk, ap, sym, subst}
use Rattle.djvu_base.specs.Library.{library_of}
use Rattle.viewer_words.specs.declared.commands.Command.{Command}
use Rattle.viewer_words.specs.declared.commands.Command.TheVariants.{Draw, Info}
use Rattle.viewer_words.specs.Files.{named_files}
use Rattle.viewer_run.specs.Plan.{plan_by_words}
use Rattle.viewer_run.specs.Start.{plan_by}
use Rattle.viewer_run.proofs.Starting.{are_distinct}
use Rattle.viewer_run.proofs.front.find_front.Goals as goal

pub front_of_draw-requires-clause-distinct : goal.front_of_draw-requires-clause-distinct
front_of_draw-requires-clause-distinct g c =
    let command = c.in-Ok-Draw.ensures.command ∙ ap Ok c.in-Ok-Draw.field-0-is in
    are_distinct c.in-Ok-Draw.pages (c.named_files_are_words.ensures.pages c.args.words.now (Draw c.in-Ok-Draw.table c.in-Ok-Draw.pages) command).distinct

pub front_of_draw-requires-clause-named : goal.front_of_draw-requires-clause-named
front_of_draw-requires-clause-named g c =
    let command = c.in-Ok-Draw.ensures.command ∙ ap Ok c.in-Ok-Draw.field-0-is in
    c.named_files_are_words.ensures.names c.args.words.now (Draw c.in-Ok-Draw.table c.in-Ok-Draw.pages) command

pub front_of_info-requires-clause-distinct : goal.front_of_info-requires-clause-distinct
front_of_info-requires-clause-distinct g c =
    let command = c.in-Ok-Info.ensures.command ∙ ap Ok c.in-Ok-Info.field-0-is in
    are_distinct c.in-Ok-Info.pages (c.named_files_are_words.ensures.pages c.args.words.now (Info c.in-Ok-Info.pages) command).distinct

pub front_of_info-requires-clause-named : goal.front_of_info-requires-clause-named
front_of_info-requires-clause-named g c =
    let command = c.in-Ok-Info.ensures.command ∙ ap Ok c.in-Ok-Info.field-0-is in
    c.named_files_are_words.ensures.names c.args.words.now (Info c.in-Ok-Info.pages) command

pub returns-in-Ok-Draw-clause-told : goal.returns-in-Ok-Draw-clause-told
returns-in-Ok-Draw-clause-told g c told files =
    let command = c.in-Ok-Draw.ensures.command ∙ ap Ok c.in-Ok-Draw.field-0-is in
    subst (λ (r : Result Command ℕ).
    IfOk c.front_of_draw.result (λ front. plan_by front ≡ plan_by_words (library_of told) (named_files c.args.words.now) r))
    (sym command) (c.front_of_draw.ensures.told told files)
