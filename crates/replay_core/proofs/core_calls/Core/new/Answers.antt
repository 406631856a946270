use Rattle.std.proofs.Common.{◌≡◌, ◌<◌, ℕ, Some, None, length, map, replicate, sym, ap, ◌∙◌, subst}
use Rattle.std.specs.Prelude.{slice_get}
use Rattle.std.specs.Arc.{arc_value}
use Rattle.std.proofs.lemmas.Option.{slice_get_within, get_or_from_slice_get}
use Rattle.zp_table.specs.Rows.{IsTable}
use Rattle.replay_core.specs.Counts.{no_counts}
use Rattle.replay_core.specs.CorePages.{untouched}
use Rattle.replay_core.specs.Core.{Stands, StandsSo, ArePages, IsCore, core_of}
use Rattle.replay_core.specs.Machine.{start}
use Rattle.replay_core.proofs.Beginning.{begins, is_core, seen_at_start}
use Rattle.replay_core.proofs.core_calls.Core.new.Goals as goal

pub invariant_of-result : goal.invariant_of-result
invariant_of-result c =
    let table = arc_value c.args.table in
    let names = c.args.names.items in
    let numbers = c.args.pages.items in
    let pages = c.in_ok-begun.begun.items in
    let files = c.begin_pages.new.files.items in
    let names_are : arc_value c.in_ok-names.names ≡ names = c.in_ok-names.ensures.ok ∙ c.of.ensures in
    let count : c.len-count.result ≡ length names = c.len-count.ensures ∙ c.args.names.ok.0 in
    let many : length c.in_ok-files.files.items ≡ length names = c.in_ok-files.ensures.many ∙ count in
    let are : ArePages table names (length names) numbers pages files =
    subst (λ l. ArePages table names (length names) l pages files) c.as_slice.ensures.value
    (subst (λ n. ArePages table names n c.as_slice.result.now pages files) many
    (subst (λ n. ArePages table n (length c.in_ok-files.files.items) c.as_slice.result.now pages files) names_are c.in_ok-begun.ensures)) in
    let below = λ (place file : ℕ) (e : slice_get numbers place ≡ Some file).
    subst (λ n. n < length names) (get_or_from_slice_get numbers place file 0 e)
    (c.requires.below place 0 (slice_get_within numbers place file e)) in
    let is : IsTable table = subst IsTable c.deref.ensures c.len.ensures.table in
    let results : c.in_ok-results.results.items ≡ replicate (length names) None = c.in_ok-results.ensures ∙ ap (λ n. replicate n None) count in
    subst (λ n. IsCore n (record { files = files; pages = pages; results = c.in_ok-results.results.items })) (sym names_are)
    (subst (λ r. IsCore names (record { files = files; pages = pages; results = r })) (sym results)
    (is_core table is names numbers pages files are below c.requires.ascending c.requires.few c.requires.apart))

pub returns-clause-stands : goal.returns-clause-stands
unfolding Stands
returns-clause-stands c =
    let table = arc_value c.args.table in
    let names = c.args.names.items in
    let numbers = c.args.pages.items in
    let pages = c.in_ok-begun.begun.items in
    let files = c.begin_pages.new.files.items in
    let names_are : arc_value c.in_ok-names.names ≡ names = c.in_ok-names.ensures.ok ∙ c.of.ensures in
    let count : c.len-count.result ≡ length names = c.len-count.ensures ∙ c.args.names.ok.0 in
    let many : length c.in_ok-files.files.items ≡ length names = c.in_ok-files.ensures.many ∙ count in
    let are : ArePages table names (length names) numbers pages files =
    subst (λ l. ArePages table names (length names) l pages files) c.as_slice.ensures.value
    (subst (λ n. ArePages table names n c.as_slice.result.now pages files) many
    (subst (λ n. ArePages table n (length c.in_ok-files.files.items) c.as_slice.result.now pages files) names_are c.in_ok-begun.ensures)) in
    let below = λ (place file : ℕ) (e : slice_get numbers place ≡ Some file).
    subst (λ n. n < length names) (get_or_from_slice_get numbers place file 0 e)
    (c.requires.below place 0 (slice_get_within numbers place file e)) in
    let is : IsTable table = subst IsTable c.deref.ensures c.len.ensures.table in
    let results : c.in_ok-results.results.items ≡ replicate (length names) None = c.in_ok-results.ensures ∙ ap (λ n. replicate n None) count in
    subst (λ n. StandsSo (start names numbers) (no_counts (length names) numbers)
    (core_of table n (record { files = files; pages = pages; results = c.in_ok-results.results.items }))) (sym names_are)
    (subst (λ r. StandsSo (start names numbers) (no_counts (length names) numbers)
    (core_of table names (record { files = files; pages = pages; results = r }))) (sym results)
    (begins table is names numbers pages files are below))

pub returns-clause-pages : goal.returns-clause-pages
returns-clause-pages c =
    seen_at_start (arc_value c.args.table) (arc_value c.in_ok-names.names) (length c.in_ok-files.files.items) c.as_slice.result.now
    c.in_ok-begun.begun.items c.begin_pages.new.files.items c.in_ok-begun.ensures
    ∙ ap (map untouched) c.as_slice.ensures.value
