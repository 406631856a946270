use Rattle.std.proofs.Common.{◌≡◌, ◌≢◌, ◌<◌, ℕ, Option, Some, None, List, length, refl, sym, ◌∙◌, subst}
use Rattle.std.specs.Prelude.{slice_get}
use Rattle.djvu_base.specs.Library.{Open, File, Library}
use Rattle.zp_table.specs.declared.rows.Row.{Row}
use Rattle.page_decoder.specs.PageRead.{Ending, Finished, Refused, NeedBytes, NeedOutline, NeedFile}
use Rattle.page_decoder.specs.Read.{read}
use Rattle.page_decoder.specs.Libraries.{mark_in, run_given, run_end}
use Rattle.page_decoder.specs.Needs.{Because, IsOver}
use Rattle.page_decoder.proofs.GoingOn.{length_names}
use Rattle.page_decoder.proofs.Working.{never_lacks, page_known, closed_known, some_there}
use Rattle.page_decoder.proofs.page_laws.libraries.closed_libraries.Goals as goal

module _ (c : goal.After-outlines_stay) (table : List Row) (library : Library) (page : ℕ) (below : page < length library)
    (closed : (file : ℕ) (it : File) → slice_get library file ≡ Some it → it.mark ≢ Open) where
  mark_closed : (found : Option File) → slice_get library page ≡ found → mark_in found ≢ Open
  mark_closed (Some it) s = closed page it s
  mark_closed None s = absurd (let some = some_there library page below in let wrong : None ≡ Some some.0 = sym s ∙ some.1 in cc)

  over : (end : Ending) → (read (run_given table library page)).end ≡ end → IsOver (run_end end)
  over Finished e = tt
  over (Refused fault) e = tt
  over NeedBytes e = absurd (c.needs.ensures.closed (run_given table library page) (mark_closed (slice_get library page) refl) e)
  over (NeedOutline file) e =
      let lacking = c.needs.ensures.outline (run_given table library page) file e in
      absurd (closed_known library closed c.outlines_stay.ensures.whole c.outlines_stay.ensures.broken file
      (subst (λ n. file < n) (length_names library) lacking.1) lacking.0)
  over (NeedFile file) e =
      let pending = (read (run_given table library page)).left.decoded.pending in
      absurd (never_lacks c.lists.ensures.listed table library page file pending
      (subst (λ end. Because (run_given table library page).home (run_given table library page).known pending end) e
      (c.needs.ensures.because (run_given table library page))))

pub returns-clause-over : goal.returns-clause-over
returns-clause-over c table library page below closed = over c table library page below closed (read (run_given table library page)).end refl

pub returns-clause-known : goal.returns-clause-known
returns-clause-known c table library page below closed =
    page_known table library page c.shows.ensures.drawn c.shows.ensures.layers
    (over c table library page below closed (read (run_given table library page)).end refl)
