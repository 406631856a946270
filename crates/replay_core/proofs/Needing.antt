-- What steps need.
use Rattle.std.proofs.Common.{◌≡◌, ◌<◌, ℕ, Bool, true, Option, Some, None, is_some, List, length, refl, sym, ap, ◌∙◌}
use Rattle.std.specs.Prelude.{slice_get, ◌≢◌}
use Rattle.djvu_base.specs.Library.{Mark, Open, Whole, Broken, File, Library}
use Rattle.zp_table.specs.declared.rows.Row.{Row}
use Rattle.include_graph.specs.Outlines.{outline_of}
use Rattle.page_decoder.specs.PageRead.{Ending, Finished, Refused, NeedBytes, NeedOutline, NeedFile}
use Rattle.page_decoder.specs.Read.{read}
use Rattle.page_decoder.specs.Libraries.{mark_in, outline_in_file, outlines_in, run_given, run, run_end}
use Rattle.replay_core.specs.Machine.{PageState, AtEnd, next_notice, page_step}
use Rattle.replay_core.proofs.Ending.{at_end}
use Rattle.replay_core.proofs.Drawings.{there}

-- the end that a step answers is that of the page's reading
pub end_of : (table : List Row) (library : Library) (it : PageState) (end : Ending) → page_step table library (Some it) ≡ AtEnd end
    → (run table library it.file).end ≡ end
end_of table library it end e = (at_end (next_notice table library it) (run table library it.file).end end e).1

-- a page of which another end than a need of bytes is answered is there
pub page_there : (table : List Row) (library : Library) (found : Option PageState) (end : Ending) → (NeedBytes ≡ end → ⊥)
    → page_step table library found ≡ AtEnd end → (it : PageState) × (page_step table library (Some it) ≡ AtEnd end)
page_there table library None end other e = absurd (other (let same : NeedBytes ≡ end = cc in same))
page_there table library (Some it) end other e = (it, e)

open_by : (mark : Mark) → (mark ≢ Open → ⊥) → mark ≡ Open
open_by Open closed = refl
open_by Whole closed = absurd (closed (λ e. let wrong : Whole ≡ Open = e in cc))
open_by Broken closed = absurd (closed (λ e. let wrong : Broken ≡ Open = e in cc))

read_needs : (end : Ending) → run_end end ≡ NeedBytes → end ≡ NeedBytes
read_needs Finished e = absurd (let wrong : Finished ≡ NeedBytes = e in cc)
read_needs (Refused fault) e = absurd (let wrong : Refused fault ≡ NeedBytes = e in cc)
read_needs NeedBytes e = refl
read_needs (NeedOutline file) e = absurd (let wrong : NeedFile file ≡ NeedBytes = e in cc)
read_needs (NeedFile file) e = absurd (let wrong : NeedFile file ≡ NeedBytes = e in cc)

pub open_page : (table : List Row) (library : Library) (page : ℕ) (file : File) → slice_get library page ≡ Some file
    → ((run_given table library page).mark ≢ Open → (read (run_given table library page)).end ≢ NeedBytes)
    → (run table library page).end ≡ NeedBytes → file.mark ≡ Open
open_page table library page file e closed needs =
    open_by file.mark (λ shut. closed (λ so. shut (ap mark_in (sym e) ∙ so)) (read_needs (read (run_given table library page)).end needs))

pub no_outline : (end : Ending) (file : ℕ) → run_end end ≡ NeedOutline file → ⊥
no_outline Finished file e = let wrong : Finished ≡ NeedOutline file = e in cc
no_outline (Refused fault) file e = let wrong : Refused fault ≡ NeedOutline file = e in cc
no_outline NeedBytes file e = let wrong : NeedBytes ≡ NeedOutline file = e in cc
no_outline (NeedOutline other) file e = let wrong : NeedFile other ≡ NeedOutline file = e in cc
no_outline (NeedFile other) file e = let wrong : NeedFile other ≡ NeedOutline file = e in cc

some_known : {A : Type 0} (o : Option A) → is_some o ≡ true → o ≡ None → ⊥
some_known None some e = let wrong : Bool.false ≡ true = some in cc
some_known (Some x) some e = let wrong : Some x ≡ None = e in cc

unknown_open : (mark : Mark) (bytes : List ℕ) → is_some (outline_of Whole bytes) ≡ true → is_some (outline_of Broken bytes) ≡ true
    → outline_of mark bytes ≡ None → mark ≡ Open
unknown_open Open bytes whole broken e = refl
unknown_open Whole bytes whole broken e = absurd (some_known (outline_of Whole bytes) whole e)
unknown_open Broken bytes whole broken e = absurd (some_known (outline_of Broken bytes) broken e)

pub open_file : (library : Library) (file : ℕ) → ((bytes : List ℕ) → is_some (outline_of Whole bytes) ≡ true)
    → ((bytes : List ℕ) → is_some (outline_of Broken bytes) ≡ true) → outlines_in library file ≡ None → file < length library
    → (it : File) × (slice_get library file ≡ Some it) × (it.mark ≡ Open) × (outline_of it.mark it.bytes ≡ None)
open_file library file whole broken unknown less =
    let it = there library file less in
    let none : outline_of it.0.mark it.0.bytes ≡ None = ap outline_in_file (sym it.1) ∙ unknown in
    (it.0, it.1, unknown_open it.0.mark it.0.bytes (whole it.0.bytes) (broken it.0.bytes) none, none)
