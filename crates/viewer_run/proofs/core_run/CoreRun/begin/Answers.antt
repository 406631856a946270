use Rattle.std.proofs.Common.{rules, ◌≡◌, ◌<◌, false, length, map, replicate, get_or, refl, ap, sym, subst, ◌∙◌}
use Rattle.zp_table.specs.Rows.{IsTable}
use Rattle.replay_core.specs.Core.{AreApart, Stands}
use Rattle.replay_core.specs.CorePages.{untouched}
use Rattle.replay_core.specs.Counts.{no_counts}
use Rattle.replay_core.specs.Machine.{start}
use Rattle.viewer_run.specs.declared.core_run.CoreRun.{CoreRun}
use Rattle.viewer_run.specs.Plan.{numbers_of}
use Rattle.viewer_run.proofs.Apart.{are_apart, numbers_below}
use Rattle.viewer_run.proofs.Beginning.{begins}
use Rattle.viewer_run.proofs.core_run.CoreRun.begin.Goals as goal

pub new-requires-clause-below : goal.new-requires-clause-below
new-requires-clause-below g at d less =
    let numbers = g.in_ok-numbers.ensures ∙ ap (λ n. numbers_of n g.args.pages.now) g.slice.ensures in
    let copies = g.in_ok-copies.ensures ∙ g.slice-2.ensures in
    subst (λ l. get_or l at d < length g.in_ok-copies.copies.items) (sym numbers)
    (subst (λ l. get_or (numbers_of g.args.names g.args.pages.now) at d < length l) (sym copies)
    (numbers_below g.args.names g.args.pages.now g.requires.listed.listed at d (subst (λ l. at < length l) numbers less)))

pub new-requires-clause-apart : goal.new-requires-clause-apart
new-requires-clause-apart g =
    let numbers = g.in_ok-numbers.ensures ∙ ap (λ n. numbers_of n g.args.pages.now) g.slice.ensures in
    subst AreApart (sym numbers) (are_apart g.args.names g.args.pages.now g.requires.listed.listed g.requires.distinct)

pub returns-clause-follows : goal.returns-clause-follows
returns-clause-follows g =
    let names = g.args.names in
    let numbers = g.in_ok-numbers.ensures ∙ ap (λ n. numbers_of n g.args.pages.now) g.slice.ensures in
    let copies = g.in_ok-copies.ensures ∙ g.slice-2.ensures in
    let core = g.in_ok-core.ensures in
    let run : CoreRun = record { core = g.in_ok-core.core; names = names; pages = g.of.result; read = g.in_ok-read.read; broken = false } in
    let pages : run.pages ≡ numbers_of names g.args.pages.now = search rules in
    let read : run.read.items ≡ replicate (length names) false = search rules in
    begins names g.args.pages.now run g.requires.listed refl pages read (core.names ∙ copies) (core.pages ∙ ap (map untouched) numbers)
    (subst IsTable (g.deref.ensures ∙ sym core.table) g.len.ensures.table)
    (subst (λ n. Stands (start names n) (no_counts (length names) n) g.in_ok-core.core) numbers
    (subst (λ c. Stands (start c g.in_ok-numbers.numbers.items) (no_counts (length c) g.in_ok-numbers.numbers.items) g.in_ok-core.core) copies core.stands))
