-- Pages that ended, and all that their readings reached.
use Rattle.std.proofs.Common.{◌≡◌, ◌≢◌, ℕ, true, Option, Some, None, ◌⊎◌, inl, inr, refl, sym, ◌∙◌, subst}
use Rattle.djvu_base.specs.Meter.{TicksExactly}
use Rattle.djvu_base.specs.declared.faults.Fault.{Fault}
use Rattle.jb2_records.specs.declared.results.FileResult.{FileResult}
use Rattle.jb2_records.specs.declared.results.FileResult.TheVariants as gift
use Rattle.include_graph.specs.Verdicts.{is_among}
use Rattle.page_decoder.specs.Results.{Result}
use Rattle.page_decoder.specs.Resolving.{result_from}
use Rattle.page_decoder.specs.PageRead.{NeedFile, PageRead}
use Rattle.page_decoder.specs.PageRead as reading
use Rattle.port_log.specs.declared.entries.PageEnd.{PageEnd}
use Rattle.port_log.specs.declared.entries.PageEnd.TheVariants as page_end
use Rattle.djvu_session.specs.Passes.{PageState}
use Rattle.djvu_session.specs.Pages.{EndsSo, HasEnded}
use Rattle.djvu_session.specs.Spent.{results_from}
use Rattle.djvu_session.proofs.Spending.{memory_for}

-- the page ended as this reading, which needs no file and is the other one, too
pub record IsDone (read other : PageRead) (page : PageState) : Type 0 where
  pub same : other ≡ read
  pub no_need : (file : ℕ) → read.end ≢ NeedFile file
  pub decisions : TicksExactly read.left.told.decisions 0 page.decisions

finished_isnt : (read : PageRead) → read.end ≡ reading.Finished → (file : ℕ) → read.end ≢ NeedFile file
finished_isnt read e file n = absurd (let wrong : reading.Finished ≡ NeedFile file = sym e ∙ n in cc)

refused_isnt : (read : PageRead) (fault : Fault) → read.end ≡ reading.Refused fault → (file : ℕ) → read.end ≢ NeedFile file
refused_isnt read fault e file n = absurd (let wrong : reading.Refused fault ≡ NeedFile file = sym e ∙ n in cc)

pub is_done : (read other : PageRead) (page : PageState) (how : Option PageEnd) → HasEnded how → EndsSo read page how
    → (read.end ≡ reading.Finished → other ≡ read) → ((fault : Fault) → read.end ≡ reading.Refused fault → other ≡ read) → IsDone read other page
is_done read other page None ended so finished refused = absurd ended
is_done read other page (Some page_end.Finished) ended so finished refused =
    record { same = finished so.end; no_need = finished_isnt read so.end; decisions = so.decisions }
is_done read other page (Some (page_end.Refused fault)) ended so finished refused =
    record { same = refused fault so.end; no_need = refused_isnt read fault so.end; decisions = so.decisions }
is_done read other page (Some page_end.NoMemory) ended so finished refused = absurd ended

pub decisions_at_end : (read : PageRead) (page : PageState) (how : Option PageEnd) → HasEnded how → EndsSo read page how
    → TicksExactly read.left.told.decisions 0 page.decisions
decisions_at_end read page None ended so = absurd ended
decisions_at_end read page (Some page_end.Finished) ended so = so.decisions
decisions_at_end read page (Some (page_end.Refused fault)) ended so = so.decisions
decisions_at_end read page (Some page_end.NoMemory) ended so = absurd ended

-- what was found of a file, where it gives something that is known
pub record Gives (known : ℕ → Option FileResult) (file : ℕ) : Type 0 where
  pub found : FileResult
  pub is_known : known file ≡ Some found
  pub memory : found ≢ gift.NoMemory

pub gives : (known : ℕ → Option FileResult) (file : ℕ) (result : Result) → results_from known file ≡ Some result → Gives known file
gives known file result e = by (known file) refl e
  where
    by : (it : Option FileResult) → known file ≡ it → result_from it ≡ Some result → Gives known file
    by None is e = absurd (let wrong : None ≡ Some result = e in cc)
    by (Some found) is e = record { found = found; is_known = is; memory = memory_for found result e }

-- each file that such a page reached gives something
pub reached_gives : (known : ℕ → Option FileResult) (read other : PageRead) (page : PageState) (file : ℕ) → IsDone read other page
    → (is_among file read.left.told.reached ≡ true → ((result : Result) × (results_from known file ≡ Some result)) ⊎ (read.end ≡ NeedFile file))
    → is_among file other.left.told.reached ≡ true → Gives known file
reached_gives known read other page file done reached among =
    by (reached (subst (λ (r : PageRead). is_among file r.left.told.reached ≡ true) done.same among))
  where
    by : ((result : Result) × (results_from known file ≡ Some result)) ⊎ (read.end ≡ NeedFile file) → Gives known file
    by (inl known_so) = gives known file known_so.0 known_so.1
    by (inr need) = absurd (done.no_need file need)
