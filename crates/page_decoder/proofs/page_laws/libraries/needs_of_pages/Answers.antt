use Rattle.std.proofs.Common.{◌≡◌, ◌<◌, ℕ, None, List, length, refl, subst}
use Rattle.djvu_base.specs.Library.{Library}
use Rattle.zp_table.specs.declared.rows.Row.{Row}
use Rattle.page_decoder.specs.PageRead.{Ending, Finished, Refused, NeedBytes, NeedOutline, NeedFile}
use Rattle.page_decoder.specs.Read.{read}
use Rattle.page_decoder.specs.Libraries.{outlines_in, run_given, run_end}
use Rattle.page_decoder.specs.Needs.{Because}
use Rattle.page_decoder.proofs.GoingOn.{length_names}
use Rattle.page_decoder.proofs.Working.{never_lacks}
use Rattle.page_decoder.proofs.page_laws.libraries.needs_of_pages.Goals as goal

module _ (c : goal.After-lists) (table : List Row) (library : Library) (page file : ℕ) where
  by : (end : Ending) → (read (run_given table library page)).end ≡ end → run_end end ≡ NeedFile file
      → (outlines_in library file ≡ None) × (file < length library)
  by Finished s e = absurd (cc)
  by (Refused fault) s e = absurd (cc)
  by NeedBytes s e = absurd (cc)
  by (NeedOutline other) s e =
      let need : NeedFile other ≡ NeedFile file = e in
      let same : other ≡ file = cc in
      let lacking = c.needs.ensures.outline (run_given table library page) other s in
      subst (λ f. (outlines_in library f ≡ None) × (f < length library)) same
      (lacking.0, subst (λ n. other < n) (length_names library) lacking.1)
  by (NeedFile other) s e =
      let given = run_given table library page in
      let pending = (read given).left.decoded.pending in
      absurd (never_lacks c.lists.ensures.listed table library page other pending
      (subst (λ end. Because given.home given.known pending end) s (c.needs.ensures.because given)))

pub returns : goal.returns
returns c table library page file e = by c table library page file (read (run_given table library page)).end refl e
