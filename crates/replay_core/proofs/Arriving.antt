-- What a page keeps when bytes of its file come, or the file's end.
use Rattle.std.proofs.Common.{◌≡◌, ℕ, true, false, Option, Some, None, List, ◌++◌, sym, ap, ◌∙◌, subst}
use Rattle.std.specs.Prelude.{slice_get, Result as Answered, Ok, Err, OnOk, is_err}
use Rattle.djvu_base.specs.Library.{Open, mark_of, File, Library}
use Rattle.djvu_base.specs.declared.ends.FileEnd.{FileEnd}
use Rattle.zp_table.specs.declared.rows.Row.{Row}
use Rattle.page_decoder.specs.Results.{Result}
use Rattle.page_decoder.specs.Given.{Given}
use Rattle.page_decoder.specs.PageFed.{Decoding, Fed, StaysSo}
use Rattle.page_decoder.specs.PageRead.{Ending, Finished, Refused}
use Rattle.page_decoder.specs.Libraries.{outlines_in, bytes_in, mark_in, LibraryGoesOn}
use Rattle.replay_core.specs.declared.pages.CoreEnd.{CoreEnd}
use Rattle.replay_core.specs.declared.pages.CoreEnd.TheVariants as core_end
use Rattle.replay_core.specs.Counts.{PageCount}
use Rattle.replay_core.specs.CorePages.{PagePart, Lives, IsOverSo, EndedBy, PageBy, PageStands}
use Rattle.replay_core.specs.Machine.{PageState, fed, ended}
use Rattle.replay_core.proofs.Filing.{fed_mark, fed_keeps, ended_mark}
use Rattle.replay_core.proofs.Lasting.{PageLaws, ResultsOn, knows_both, goes, stands_with, ended_page_on}

-- what holds where there was memory
pub where_ok : {A E : Type 0} (P : Type 0) (result : Answered A E) → OnOk result P → is_err result ≡ false → P
where_ok P (Ok done) holds e = holds
where_ok P (Err error) holds e = absurd (let wrong : true ≡ false = e in cc)

module _ (table : List Row) (laws : PageLaws table) (library later : Library) (on : LibraryGoesOn library later) (results : ℕ → Option Result)
    (page : PageState) (count : PageCount) where
  same : ResultsOn results results
  same file result e = e

  -- the decoder is there before and behind, and lives
  pub live_with : (part new : PagePart) (was is : Decoding) → new.file ≡ part.file → new.last ≡ part.last → new.decisions ≡ part.decisions
      → part.decoder ≡ Some was → new.decoder ≡ Some is
      → (Lives table library results page count was → Lives table later results page count is)
      → PageStands table library results page count part → PageStands table later results page count new
  live_with part new was is file last decisions was_is is_is goes_on stands =
      stands_with table laws library later on results results same page count part new file last decisions stands
      (subst (λ d. PageBy d table later results page count new) (sym is_is)
      (goes_on (subst (λ d. PageBy d table library results page count part) was_is stands.by)))

  -- there was no memory
  pub lost_with : (part new : PagePart) → new.file ≡ part.file → new.last ≡ part.last → new.decisions ≡ part.decisions → new.decoder ≡ None
      → new.end ≡ core_end.OutOfMemory → PageStands table library results page count part → PageStands table later results page count new
  lost_with part new file last decisions none end stands =
      stands_with table laws library later on results results same page count part new file last decisions stands
      (subst (λ d. PageBy d table later results page count new) (sym none)
      (subst (λ e. EndedBy e table later results page count new) (sym end) tt))

  over_with : (part new : PagePart) (end : Ending) → new.layers ≡ part.layers → new.taken ≡ part.taken
      → IsOverSo table later results page count part end → IsOverSo table later results page count new end
  over_with part new end layers taken is = record {
    ended = is.ended;
    decisions = is.decisions;
    reached = is.reached;
    layers = λ left. layers ∙ is.layers (sym taken ∙ left);
  }

  -- the page had ended
  pub ended_with : (part new : PagePart) → new.file ≡ part.file → new.last ≡ part.last → new.decisions ≡ part.decisions → part.decoder ≡ None
      → new.decoder ≡ None → new.end ≡ part.end → new.layers ≡ part.layers → new.taken ≡ part.taken
      → PageStands table library results page count part → PageStands table later results page count new
  ended_with part new file last decisions none none' end layers taken stands =
      let then = ended_page_on table laws library later on results results same page count part none stands in
      stands_with table laws library later on results results same page count part new file last decisions stands
      (subst (λ d. PageBy d table later results page count new) (sym none')
      (subst (λ e. EndedBy e table later results page count new) (sym end)
      (by part.end (subst (λ d. PageBy d table later results page count part) none then.by))))
    where
      by : (end : CoreEnd) → EndedBy end table later results page count part → EndedBy end table later results page count new
      by core_end.Finished is = over_with part new Finished layers taken is
      by (core_end.Refused fault) is = over_with part new (Refused fault) layers taken is
      by core_end.OutOfMemory is = tt

  -- its decoder was fed a piece
  pub fed_lives : (piece : List ℕ) (it : File) (was is : Decoding) → slice_get library page.file ≡ Some it → it.mark ≡ Open
      → slice_get later page.file ≡ Some (fed piece it)
      → ((given : Given) → Fed given was → Fed (record given { bytes = given.bytes ++ piece }) is) → StaysSo was is → is.failed ≡ false
      → Lives table library results page count was → Lives table later results page count is
  fed_lives piece it was is before open_ after feeds stays works lives =
      let on = goes table laws library later on results results same page count in
      record {
        given = record lives.given { bytes = lives.given.bytes ++ piece };
        fed = feeds lives.given lives.fed;
        home = lives.home ∙ on.home;
        known = knows_both lives.given.known (record { outlines = outlines_in library; results = results })
            (record { outlines = outlines_in later; results = results }) lives.known on.known;
        bytes = ap (λ b. b ++ piece) (lives.bytes ∙ ap bytes_in before) ∙ ap (λ (f : File). f.bytes) (sym (fed_mark piece it open_))
            ∙ ap bytes_in (sym after);
        mark = lives.mark ∙ ap mark_in before ∙ sym (fed_keeps piece it) ∙ ap mark_in (sym after);
        drawn = stays.drawn_is ∙ lives.drawn;
        decisions = stays.decisions_are ∙ lives.decisions;
        works = works;
      }

  -- its decoder was told the end
  pub ended_lives : (how : FileEnd) (it : File) (was is : Decoding) → slice_get library page.file ≡ Some it → it.mark ≡ Open
      → slice_get later page.file ≡ Some (ended how it)
      → ((given : Given) → Fed given was → Fed (record given { mark = mark_of how }) is) → StaysSo was is → is.failed ≡ was.failed
      → Lives table library results page count was → Lives table later results page count is
  ended_lives how it was is before open_ after ends stays works lives =
      let on = goes table laws library later on results results same page count in
      record {
        given = record lives.given { mark = mark_of how };
        fed = ends lives.given lives.fed;
        home = lives.home ∙ on.home;
        known = knows_both lives.given.known (record { outlines = outlines_in library; results = results })
            (record { outlines = outlines_in later; results = results }) lives.known on.known;
        bytes = lives.bytes ∙ ap bytes_in before ∙ ap (λ (f : File). f.bytes) (sym (ended_mark how it open_)) ∙ ap bytes_in (sym after);
        mark = ap (λ (f : File). f.mark) (sym (ended_mark how it open_)) ∙ ap mark_in (sym after);
        drawn = stays.drawn_is ∙ lives.drawn;
        decisions = stays.decisions_are ∙ lives.decisions;
        works = works ∙ lives.works;
      }
