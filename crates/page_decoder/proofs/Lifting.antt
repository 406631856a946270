-- Where the reader of a file stands, once more is known.
use Rattle.std.proofs.Common.{◌≡◌, ◌+◌, ℕ, List, ◌++◌, Option, refl, sym, ◌∙◌, arith}
use Rattle.std.proofs.lemmas.Grind.{common_steps}
use Rattle.djvu_base.specs.Meter.{ticked}
use Rattle.djvu_base.specs.declared.ends.FileEnd.{FileEnd}
use Rattle.include_graph.specs.declared.outline.Outline.{Outline}
use Rattle.jb2_records.specs.declared.results.FileResult.{FileResult}
use Rattle.page_decoder.specs.declared.file_reader.FileReader.{FileReader}
use Rattle.page_decoder.specs.declared.file_reader.Stage.{Stage}
use Rattle.page_decoder.specs.declared.file_reader.Stage.TheVariants as stage
use Rattle.page_decoder.specs.Given.{Known, Given, KnowsMore}
use Rattle.page_decoder.specs.PageRead.{Left, at_start}
use Rattle.page_decoder.specs.Kinds.{ChunkKind, kind_of}
use Rattle.page_decoder.specs.Kinds as kind
use Rattle.page_decoder.specs.Decoder.{RiseTogether}
use Rattle.page_decoder.specs.FileReading.{IsOf, ResolvesAt, StandsAt, Stands, IsGiven, StandsBefore}
use Rattle.page_decoder.proofs.ResolveSteps.{resolves_on, waits_on}
use Rattle.page_decoder.proofs.Further.{Grows}
use Rattle.page_decoder.proofs.Onward.{through_on}
use Rattle.page_decoder.proofs.Telling.{holds_on}

knows_same : (known : Known) → KnowsMore known known
knows_same known = record { outlines = λ file outline e. e; results = λ file result e. e }

knows_both : (less more most : Known) → KnowsMore less more → KnowsMore more most → KnowsMore less most
knows_both less more most on up = record {
  outlines = λ file outline e. up.outlines file outline (on.outlines file outline e);
  results = λ file result e. up.results file result (on.results file result e);
}

module _ (before : Given) (more : Known) (on : KnowsMore before.known more) (grows : Grows before.home.table) (reader : FileReader) where
  abbrev lifted : Given
  lifted = record { home = before.home; known = more; bytes = before.bytes; mark = before.mark }

  of_so : IsOf before reader → IsOf lifted reader
  of_so o = record { home_is = o.home_is; is_table = o.is_table; origin_is = o.origin_is; counts = o.counts }

  at_on : (of : ChunkKind) (left : Left) → ResolvesAt of before.home before.known left reader.includes → ResolvesAt of before.home more left reader.includes
  at_on kind.Info left r = waits_on before.home before.known more left.decoded reader.includes on r
  at_on kind.Include left r = waits_on before.home before.known more left.decoded reader.includes on r
  at_on kind.Dictionary left r = resolves_on before.home before.known more left reader.includes on r
  at_on kind.Mask left r = resolves_on before.home before.known more left reader.includes on r
  at_on kind.Front left r = waits_on before.home before.known more left.decoded reader.includes on r
  at_on kind.Back left r = waits_on before.home before.known more left.decoded reader.includes on r
  at_on kind.Refused left r = waits_on before.home before.known more left.decoded reader.includes on r
  at_on kind.Passed left r = waits_on before.home before.known more left.decoded reader.includes on r

  -- with more known the reader stands where it stood
  pub lifts : (at : Stage) → StandsAt before at reader → StandsAt lifted at reader
  lifts stage.Walking s = record {
    so_far = s.so_far;
    left = s.left;
    of = of_so s.of;
    walks = record { told = s.walks.told; is_told = s.walks.is_told; acts_are = s.walks.acts_are; goes = s.walks.goes; is_open = s.walks.is_open };
    holds = holds_on before.home before.known more on grows s.so_far s.left reader s.holds;
  }
  lifts (stage.Before head) s = record {
    acts = s.acts;
    left = s.left;
    of = of_so s.of;
    walks = record { told = s.walks.told; is_told = s.walks.is_told; acts_are = s.walks.acts_are; goes = s.walks.goes; is_open = s.walks.is_open };
    on = through_on before.home before.known more on grows s.acts at_start s.left s.on;
    fine = s.fine;
    none = s.none;
    keeps = s.keeps;
    resolves = at_on (kind_of head.id) s.left s.resolves;
    decisions_are = s.decisions_are;
    tallies = s.tallies;
  }
  lifts stage.AtEnd s = record {
    left = s.left;
    of = of_so s.of;
    ends = λ later w. s.ends later (record { home = w.home; known = knows_both before.known more later.known on w.known; bytes = w.bytes });
    none = s.none;
    like = s.like;
    resolves = resolves_on before.home before.known more s.left reader.includes on s.resolves;
    decisions_are = s.decisions_are;
    tallies = s.tallies;
  }

-- the file that it reads
pub of_at : (given : Given) (at : Stage) (reader : FileReader) → StandsAt given at reader → IsOf given reader
of_at given stage.Walking reader s = s.of
of_at given (stage.Before head) reader s = s.of
of_at given stage.AtEnd reader s = s.of

-- in front of the rest of the bytes that are given
pub stands_before : (names : List (List ℕ)) (outlines : List (Option Outline)) (results : List (Option FileResult)) (rest : List ℕ) (end : Option FileEnd)
    (before given : Given) (reader : FileReader) → IsGiven names outlines results rest end before given → Grows before.home.table → Stands before reader
    → StandsBefore given rest reader
stands_before names outlines results rest end before given reader g grows s = record {
  now = record { home = before.home; known = given.known; bytes = before.bytes; mark = before.mark };
  within = record { home = g.within.home; known = knows_same given.known; bytes = g.within.bytes };
  bytes_are = g.bytes_are;
  known_is = refl;
  stands = lifts before given.known g.within.known grows reader reader.stage s;
}

-- where nothing was read, nothing rises
pub rise_none : (a b m n : ℕ) → b ≡ a → n ≡ m → RiseTogether a b m n
rise_none a b m n e f = (0, e ∙ sym (none a), f ∙ sym (none m))
  where
    none : (k : ℕ) → ticked 0 k ≡ k
    none k = grind (arith, common_steps)
