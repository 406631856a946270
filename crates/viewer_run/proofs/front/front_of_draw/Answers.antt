use Rattle.std.proofs.Common.{◌≡◌, ◌∙◌, ℕ, List, Result, Err, IfOk, map, ap, sym, subst}
use Rattle.std.proofs.lemmas.Result.{err_from_is_err_and}
use Rattle.djvu_outside.specs.declared.stops.Stop.{Stop}
use Rattle.viewer_run.specs.declared.front.Front.{Front}
use Rattle.djvu_base.specs.Library.{library_of, names_of, file_limit}
use Rattle.page_decoder.specs.Libraries.{names_in}
use Rattle.viewer_words.specs.Files.{NamedFile, named_files}
use Rattle.viewer_run.specs.Plan.{numbers_of, plan_by_table, refused_or, table_of}
use Rattle.viewer_run.specs.Start.{HasNames, Starts, line_of}
use Rattle.viewer_run.proofs.Starting.{can_read, names_of_library}
use Rattle.viewer_run.proofs.front.front_of_draw.Goals as goal

pub returns-in-Err-clause-failure : goal.returns-in-Err-clause-failure
returns-in-Err-clause-failure g c told files = c.in_ok-names.ensures.failure told c.args.table.now files

pub choose_table-requires : goal.choose_table-requires
choose_table-requires g c told files =
    let before = sym c.in_ok-names.ensures.same_files ∙ files in
    let over = subst (λ (r : Result (List (List ℕ)) (List ℕ)). IfOk r (λ names. names ≡ names_of told)) c.in-Ok.is
    (c.in_ok-names.ensures.names told before) in
    let named = map (λ (file : NamedFile). file.1) (named_files c.args.words.now) in
    let has = subst (λ (r : Result (List (List ℕ)) (List ℕ)). IfOk r (λ names. HasNames names named)) c.in-Ok.is c.in_ok-names.ensures.fits in
    can_read told c.in-Ok.names c.args.table.now c.args.pages named over c.requires.named has

pub returns-in_err-table-clause-failure : goal.returns-in_err-table-clause-failure
returns-in_err-table-clause-failure g c told files =
    let new = g.F.Folder.failures c.choose_table.new.folder in
    let result = c.from_residual-in_err-table.result in
    let p = err_from_is_err_and result c.from_residual-in_err-table.ensures.1 in
    let there = c.in_err-table.ensures.failure told (c.in_ok-names.ensures.same_files ∙ files) in
    subst (λ (r : Result Front Stop). Starts r c.args.table.now (g.F.Folder.failures c.args.folder.now) new) (sym (p.1 ∙ ap Err p.2))
    (subst (λ f. Starts {T = Front} (Err c.in_err-table.field-0.0) c.args.table.now f new) (c.in_ok-names.ensures.failure told c.args.table.now files) there)

pub returns-in_err-line-in-Err-2-clause-failure : goal.returns-in_err-line-in-Err-2-clause-failure
returns-in_err-line-in-Err-2-clause-failure g c told files =
    let same = c.in_ok-table.ensures.failure told (c.in_ok-names.ensures.same_files ∙ files) ∙ c.in_ok-names.ensures.failure told c.args.table.now files in
    let result = c.from_residual-in_err-line-in-Err-2.result in
    let p = err_from_is_err_and result c.from_residual-in_err-line-in-Err-2.ensures.1 in
    subst (λ (r : Result Front Stop). Starts r c.args.table.now (g.F.Folder.failures c.args.folder.now) (g.F.Folder.failures c.choose_table.new.folder))
    (sym (p.1 ∙ ap Err p.2)) same

pub returns-in-Ok-2-clause-failure : goal.returns-in-Ok-2-clause-failure
returns-in-Ok-2-clause-failure g c told files =
    c.in_ok-table.ensures.failure told (c.in_ok-names.ensures.same_files ∙ files) ∙ c.in_ok-names.ensures.failure told c.args.table.now files

pub returns-in_ok-line-in-Err-2-clause-failure : goal.returns-in_ok-line-in-Err-2-clause-failure
returns-in_ok-line-in-Err-2-clause-failure g c told files =
    c.in_ok-table.ensures.failure told (c.in_ok-names.ensures.same_files ∙ files) ∙ c.in_ok-names.ensures.failure told c.args.table.now files

pub returns-in-Ok-2-clause-over : goal.returns-in-Ok-2-clause-over
returns-in-Ok-2-clause-over g c told files =
    subst (λ (r : Result (List (List ℕ)) (List ℕ)). IfOk r (λ names. names ≡ names_of told)) c.in-Ok.is (c.in_ok-names.ensures.names told files)

pub returns-in-Ok-2-clause-told : goal.returns-in-Ok-2-clause-told
returns-in-Ok-2-clause-told g c told files =
    let over = subst (λ (r : Result (List (List ℕ)) (List ℕ)). IfOk r (λ names. names ≡ names_of told)) c.in-Ok.is (c.in_ok-names.ensures.names told files) in
    let same = over ∙ sym (names_of_library file_limit told) in
    let none = sym (ap line_of c.in-Ok.is) ∙ c.in_ok-names.ensures.told told files in
    let numbers = numbers_of (names_in (library_of told)) c.args.pages in
    let table = sym c.in-Ok-2.is ∙ c.in_ok-table.ensures.told told (c.in_ok-names.ensures.same_files ∙ files) in
    ap (λ found. plan_by_table found (numbers_of c.in-Ok.names c.args.pages)) table
    ∙ ap (λ names. plan_by_table (table_of (library_of told) c.args.table.now) (numbers_of names c.args.pages)) same
    ∙ ap (λ line. refused_or line (plan_by_table (table_of (library_of told) c.args.table.now) numbers)) none
