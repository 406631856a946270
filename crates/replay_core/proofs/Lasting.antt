-- What a core keeps of a page lasts while its library goes on, and more results are known.
use Rattle.std.proofs.Common.{◌≡◌, ℕ, true, Option, Some, None, List, length, map, refl, sym, ap, ◌∙◌, subst, arith}
use Rattle.std.specs.Prelude.{slice_get}
use Rattle.std.proofs.lemmas.List.{length-append}
use Rattle.djvu_base.specs.Library.{Library}
use Rattle.zp_table.specs.declared.rows.Row.{Row}
use Rattle.zp_table.specs.Rows.{IsTable}
use Rattle.include_graph.specs.Verdicts.{is_among}
use Rattle.page_decoder.specs.Results.{Result}
use Rattle.page_decoder.specs.Given.{Role, Page, Known, KnowsMore, Within}
use Rattle.page_decoder.specs.PageFed.{Decoding}
use Rattle.page_decoder.specs.PageRead.{Drawing, Ending, Finished, Refused, PageRead, notice_of}
use Rattle.page_decoder.specs.Libraries.{outlines_in, bytes_in, mark_in, given_in, run, LibraryGoesOn}
use Rattle.page_decoder.specs.Needs.{Below, IsOver}
use Rattle.replay_core.specs.declared.pages.CoreEnd.{CoreEnd}
use Rattle.replay_core.specs.declared.pages.CoreEnd.TheVariants as core_end
use Rattle.replay_core.specs.Counts.{PageCount}
use Rattle.replay_core.specs.Machine.{PageState, page_notices, last_of}
use Rattle.replay_core.specs.CorePages.{PagePart, Lives, IsOverSo, EndedBy, PageBy, PageStands}
use Rattle.replay_core.proofs.Listing.{last_front}
use Rattle.replay_core.proofs.Told.{NoticesGrow, GivenGrows, NoticesOn, notices_on}

-- what is known stays known
abbrev pub ResultsOn : (ℕ → Option Result) → (ℕ → Option Result) → Type 0
ResultsOn less more = (file : ℕ) (result : Result) → less file ≡ Some result → more file ≡ Some result

-- the laws of libraries that go on
abbrev pub GivenOn : Type 0
GivenOn = (role : Role) (table : List Row) (library later : Library) (file : ℕ) (less more : ℕ → Option Result) → LibraryGoesOn library later
    → ResultsOn less more → Within (given_in role table library file less) (given_in role table later file more)

abbrev pub ToldOn : List Row → Type 0
ToldOn table = (library later : Library) (page : ℕ) → LibraryGoesOn library later → Below (run table library page).left.told (run table later page).left.told

abbrev pub RunsOn : List Row → Type 0
RunsOn table = (library later : Library) (page : ℕ) → LibraryGoesOn library later → IsOver (run table library page).end
    → run table later page ≡ run table library page

pub record PageLaws (table : List Row) : Type 0 where
  pub notices : NoticesOn table
  pub given : GivenOn
  pub told : ToldOn table
  pub over : RunsOn table

-- the same laws, of every table
abbrev pub TellsMore : Type 0
TellsMore = (table : List Row) (library later : Library) (page : ℕ) → IsTable table → LibraryGoesOn library later
    → Below (run table library page).left.told (run table later page).left.told

abbrev pub StaysOver : Type 0
StaysOver = (table : List Row) (library later : Library) (page : ℕ) → IsTable table → LibraryGoesOn library later
    → IsOver (run table library page).end → run table later page ≡ run table library page

pub page_laws : NoticesGrow → GivenGrows → GivenOn → TellsMore → StaysOver → (table : List Row) → IsTable table → PageLaws table
page_laws notices grows given told over table is = record {
  notices = notices_on notices grows table is;
  given = given;
  told = λ library later page on. told table library later page is on;
  over = λ library later page on ends. over table library later page is on ends;
}

pub knows_both : (one other another : Known) → KnowsMore one other → KnowsMore other another → KnowsMore one another
knows_both one other another first then = record {
  outlines = λ file outline e. then.outlines file outline (first.outlines file outline e);
  results = λ file result e. then.results file result (first.results file result e);
}

-- a library that went on, with the file of a page as it was
module _ (table : List Row) (laws : PageLaws table) (library later : Library) (on : LibraryGoesOn library later) (less more : ℕ → Option Result)
    (known : ResultsOn less more) (page : PageState) (count : PageCount) where
  pub goes : Within (given_in Page table library page.file less) (given_in Page table later page.file more)
  goes = laws.given Page table library later page.file less more on known

  pub lives_on : (decoder : Decoding) → slice_get later page.file ≡ slice_get library page.file → Lives table library less page count decoder
      → Lives table later more page count decoder
  lives_on decoder same lives = record {
    given = lives.given;
    fed = lives.fed;
    home = lives.home ∙ goes.home;
    known = knows_both lives.given.known (record { outlines = outlines_in library; results = less })
        (record { outlines = outlines_in later; results = more }) lives.known goes.known;
    bytes = lives.bytes ∙ ap bytes_in (sym same);
    mark = lives.mark ∙ ap mark_in (sym same);
    drawn = lives.drawn;
    decisions = lives.decisions;
    works = lives.works;
  }

  over_on : (part : PagePart) (end : Ending) → IsOverSo table library less page count part end → IsOverSo table later more page count part end
  over_on part end is =
      let same : run table later page.file ≡ run table library page.file =
      laws.over library later page.file on (subst IsOver (sym is.ended.end_so) is.ended.over) in
      record {
        ended = record {
          over = is.ended.over;
          end_so = ap (λ (r : PageRead). r.end) same ∙ is.ended.end_so;
          all = is.ended.all ∙ ap (λ (r : PageRead). length (map notice_of r.left.told.drawings)) (sym same);
        };
        decisions = is.decisions ∙ ap (λ (r : PageRead). r.left.told.decisions) (sym same);
        reached = λ file yes.
            let there = is.reached file (subst (λ (r : PageRead). is_among file r.left.told.reached ≡ true) same yes) in
            (there.0, known file there.0 there.1);
        layers = λ left. is.layers left
            ∙ ap (λ (r : PageRead). last_of (map (λ (drawing : Drawing). drawing.layers) r.left.told.drawings) page.drawn) (sym same);
      }

  ended_on : (end : CoreEnd) (part : PagePart) → EndedBy end table library less page count part → EndedBy end table later more page count part
  ended_on core_end.Finished part is = over_on part Finished is
  ended_on (core_end.Refused fault) part is = over_on part (Refused fault) is
  ended_on core_end.OutOfMemory part is = tt

  -- what doesn't change of a page whose decoder is another one
  pub stands_with : (part new : PagePart) → new.file ≡ part.file → new.last ≡ part.last → new.decisions ≡ part.decisions
      → PageStands table library less page count part → PageBy new.decoder table later more page count new
      → PageStands table later more page count new
  stands_with part new file last decisions stands by =
      let front = laws.notices library later page.file on in
      let told = laws.told library later page.file on in
      record {
        file = file ∙ stands.file;
        counted = stands.counted;
        sound =
            let many = ap length front.1 ∙ length-append (page_notices table library page.file) front.0 in
            let room = stands.sound in
            omega (arith, many, room);
        last = last ∙ stands.last ∙ sym (last_front (page_notices table library page.file) (page_notices table later page.file) page.drawn stands.sound front);
        decisions = decisions ∙ stands.decisions;
        most = let most = stands.most in let more = told.decisions in omega (arith, most, more);
        by = by;
      }

  pub page_on : (part : PagePart) → slice_get later page.file ≡ slice_get library page.file → PageStands table library less page count part
      → PageStands table later more page count part
  page_on part same stands = stands_with part part refl refl refl stands (by part.decoder stands.by)
    where
      by : (decoder : Option Decoding) → PageBy decoder table library less page count part → PageBy decoder table later more page count part
      by (Some decoder) lives = lives_on decoder same lives
      by None ended = ended_on part.end part ended

  -- a page that has ended needs no bytes
  pub ended_page_on : (part : PagePart) → part.decoder ≡ None → PageStands table library less page count part
      → PageStands table later more page count part
  ended_page_on part none stands = stands_with part part refl refl refl stands (by part.decoder none stands.by)
    where
      by : (decoder : Option Decoding) → decoder ≡ None → PageBy decoder table library less page count part
          → PageBy decoder table later more page count part
      by (Some decoder) wrong lives = absurd (let w : Some decoder ≡ None = wrong in cc)
      by None none ended = ended_on part.end part ended
