-- What a core counts comes to the work of its pages, once they are over: `draw_pages`.
use Rattle.std.proofs.Common.{◌≡◌, ◌*◌, ℕ, Bool, true, false, Some, None, List, [], ◌∷◌, ◌||◌, map, replicate, refl, sym, ap, ◌∙◌, arith}
use Rattle.std.specs.Prelude.{sum_by}
use Rattle.std.specs.List.{list_any}
use Rattle.std.proofs.lemmas.List.Folds.{sum_by-replicate}
use Rattle.std.proofs.lemmas.List.Sums.{sum_by-cons}
use Rattle.djvu_base.specs.Library.{Library}
use Rattle.zp_table.specs.declared.rows.Row.{Row}
use Rattle.include_graph.specs.Verdicts.{is_among}
use Rattle.page_decoder.specs.PageRead.{PageRead}
use Rattle.page_decoder.specs.Libraries.{run, res_of, is_reached}
use Rattle.page_decoder.specs.Needs.{IsOver}
use Rattle.page_decoder.specs.Read.{FileDone}
use Rattle.replay_core.specs.Counts.{PageCount, Counts, files_of, spent_on, no_counts, counted, CountsAll}
use Rattle.replay_core.specs.CorePages.{uncounted}
use Rattle.viewer_run.proofs.Over.{AllOverIn, over_at}
use Rattle.viewer_run.proofs.Stepping.{mapped_at}

-- before anything is decoded it is nothing
pages_none : (files : List ℕ) → sum_by (λ (page : PageCount). page.decisions) (map uncounted files) ≡ 0
pages_none [] = refl
pages_none (file ∷ files) =
    let first = sum_by-cons (λ (page : PageCount). page.decisions) (uncounted file) (map uncounted files) in
    let rest = pages_none files in
    omega (arith, first, rest)

pub none_counted : (names : ℕ) (files : List ℕ) → counted (no_counts names files) ≡ 0
none_counted names files =
    let pages = pages_none files in
    let others : sum_by spent_on (replicate names None) ≡ names * 0 = sum_by-replicate spent_on names None in
    omega (arith, pages, others)

-- one of the pages that passes
any_page : (test : ℕ → Bool) (pages : List ℕ) → list_any test pages ≡ true → (page : ℕ) × (test page ≡ true)
any_page test [] e = cc
any_page test (page ∷ pages) e = by (test page) refl e (any_page test pages)
  where
    by : (t : Bool) → test page ≡ t → (t || list_any test pages) ≡ true → (list_any test pages ≡ true → (other : ℕ) × (test other ≡ true))
        → (other : ℕ) × (test other ≡ true)
    by true is e more = (page, is)
    by false is e more = more e

module _ (rows : List Row) (library later : Library)
    (over : (page : ℕ) → IsOver (run rows library page).end → run rows later page ≡ run rows library page)
    (stay : (file page : ℕ) → is_reached rows library file page ≡ true
    → (is_reached rows later file page ≡ true) × (res_of rows library file ≡ res_of rows later file)) where
  -- pages that are over reach what they reached
  any_same : (file : ℕ) (pages : List ℕ) → AllOverIn rows library pages
      → list_any (is_reached rows later file) pages ≡ list_any (is_reached rows library file) pages
  any_same file [] all = refl
  any_same file (page ∷ pages) all =
      ap (λ (r : PageRead). is_among file r.left.told.reached || list_any (is_reached rows later file) pages) (over page all.0)
      ∙ ap (λ b. is_reached rows library file page || b) (any_same file pages all.1)

  -- so all of it was decoded in the later library, too
  pub all_stays : (counts : Counts) → AllOverIn rows library (files_of counts.pages) → CountsAll rows library counts → CountsAll rows later counts
  all_stays counts all counts_all = record {
    own = λ number page found.
        counts_all.own number page found
        ∙ ap (λ (r : PageRead). r.left.told.decisions)
        (sym (over page.file
        (over_at rows library (files_of counts.pages) number page.file all (mapped_at (λ (it : PageCount). it.file) counts.pages number page found))));
    reached = λ file it found any.
        let was = sym (any_same file (files_of counts.pages) all) ∙ any in
        let its = any_page (is_reached rows library file) (files_of counts.pages) was in
        counts_all.reached file it found was ∙ ap (λ (d : FileDone). Some d.decisions) (stay file its.0 its.1).1;
  }
