-- A gift to a page's decoder that found memory, or not; and the end of its file.
use Rattle.std.proofs.Common.{◌≡◌, ◌≢◌, ◌≤◌, ◌<◌, ℕ, ◌+◌, Bool, true, false, cond, eqb, Option, Some, None, is_none, ◌⊎◌, [], ◌∷◌, ◌++◌, refl, sym, ap, ◌∙◌, arith}
use Rattle.std.specs.Prelude.{Result as Answered, Ok, Err, IfOk, slice_get}
use Rattle.std.proofs.lemmas.Bool.{eqb-true, eq-eqb, true≢false}
use Rattle.djvu_base.specs.Library.{Open, mark_of}
use Rattle.djvu_base.specs.declared.ends.FileEnd.{FileEnd}
use Rattle.djvu_base.specs.declared.ends.FileEnd.TheVariants as file_end
use Rattle.include_graph.specs.declared.outline.Outline.{Outline}
use Rattle.include_graph.specs.Verdicts.{in_list}
use Rattle.page_decoder.specs.declared.decoder.Standing.{Standing}
use Rattle.page_decoder.specs.declared.decoder.Standing.TheVariants as standing
use Rattle.page_decoder.specs.Results.{Result}
use Rattle.page_decoder.specs.Given.{Known, Given}
use Rattle.page_decoder.specs.PageRead.{NeedOutline, NeedFile}
use Rattle.page_decoder.specs.Resolving.{Gifts, known_by, given_at, result_from}
use Rattle.page_decoder.specs.Decoder.{KnowsOutline, KnowsResult}
use Rattle.page_decoder.specs.FileReading.{mark_by}
use Rattle.page_decoder.specs.PageFed.{Kept, with_known, IsFed, stands_by, standing_after, decoding_of}
use Rattle.page_decoder.proofs.Decoding.{GrowthLaws, known_within, outline_more, result_more, fed_more, outline_lacks, file_lacks, outline_fed, file_fed}

-- this is known of one file more
abbrev pub outlined_too : ℕ → Outline → Known → Known
outlined_too file outline known =
    record { outlines = λ other. cond (eqb other file) (Some outline) (known.outlines other); results = known.results }

abbrev pub resulted_too : ℕ → Option Result → Known → Known
resulted_too file gift known = record { outlines = known.outlines; results = λ other. cond (eqb other file) gift (known.results other) }

cond_there : {A : Type 0} (other file : ℕ) (a b : A) → other ≡ file → cond (eqb other file) a b ≡ a
cond_there other file a b same = ap (λ t. cond t a b) (eq-eqb other file same)

cond_elsewhere : {A : Type 0} (other file : ℕ) (a b : A) → other ≢ file → cond (eqb other file) a b ≡ b
cond_elsewhere other file a b differs = by (eqb other file) refl
  where
    by : (t : Bool) → eqb other file ≡ t → cond t a b ≡ b
    by true e = absurd (differs (eqb-true other file e))
    by false e = refl

pub knows_outline : (file : ℕ) (outline : Outline) (known : Known) → KnowsOutline file outline known (outlined_too file outline known)
knows_outline file outline known = record {
  given = cond_there file file (Some outline) (known.outlines file) refl;
  others = λ other differs. cond_elsewhere other file (Some outline) (known.outlines other) differs;
  results = λ other. refl;
}

pub knows_result : (file : ℕ) (gift : Option Result) (known : Known) → KnowsResult file gift known (resulted_too file gift known)
knows_result file gift known = record {
  given = cond_there file file gift (known.results file) refl;
  others = λ other differs. cond_elsewhere other file gift (known.results other) differs;
  outlines = λ other. refl;
}

module _ (laws : GrowthLaws) (kept : Kept) (given : Given) (known : Known) (file : ℕ) (gifts : Gifts) (fed : IsFed given (decoding_of kept)) where
  abbrev After : Standing → Kept
  After at = record kept { others = gifts; standing = at }

  pub outline_gifted : {A E : Type 0} (outline : Outline) (answer : Answered A E) → stands_by kept.standing ≡ Some (NeedOutline file)
      → KnowsOutline file outline given.known known → IfOk answer (λ done. (known_by gifts).outlines file ≡ Some outline)
      → ((other : ℕ) → other ≢ file → (known_by gifts).outlines other ≡ (known_by kept.others).outlines other) → gifts.results ≡ kept.others.results
      → IsFed (with_known known given) (decoding_of (After (standing_after answer)))
  outline_gifted outline (Ok done) s k there others results =
      outline_fed laws kept given known file outline gifts s k
      (record { given = there; others = others; results = λ other. ap (λ r. result_from (given_at (slice_get r other))) results }) fed
  outline_gifted outline (Err error) s k there others results =
      fed_more laws given (with_known known given) (decoding_of kept) (decoding_of (After standing.Failed)) fed
      (known_within given known (outline_more file outline given.known known (outline_lacks laws kept given file s fed).0 k))
      (record { home_is = refl; drawn_is = refl; decisions_are = refl; layers_are = refl }) fed.mark_is tt

  pub file_gifted : {A E : Type 0} (gift : Option Result) (answer : Answered A E) → stands_by kept.standing ≡ Some (NeedFile file)
      → KnowsResult file gift given.known known → IfOk answer (λ done. (known_by gifts).results file ≡ gift)
      → ((other : ℕ) → other ≢ file → (known_by gifts).results other ≡ (known_by kept.others).results other) → gifts.outlines ≡ kept.others.outlines
      → IsFed (with_known known given) (decoding_of (After (standing_after answer)))
  file_gifted gift (Ok done) s k there others outlines =
      file_fed laws kept given known file gift gifts s k
      (record { given = there; others = others; outlines = λ other. ap (λ o. in_list o other) outlines }) fed
  file_gifted gift (Err error) s k there others outlines =
      fed_more laws given (with_known known given) (decoding_of kept) (decoding_of (After standing.Failed)) fed
      (known_within given known (result_more file gift given.known known (file_lacks laws kept given file s fed).0 k))
      (record { home_is = refl; drawn_is = refl; decisions_are = refl; layers_are = refl }) fed.mark_is tt

-- ---- the end of the file

closed_end : (end : FileEnd) → mark_of end ≡ Open → ⊥
closed_end file_end.Whole e = cc
closed_end file_end.Broken e = cc

pub none_open : (end : Option FileEnd) → is_none end ≡ true → mark_by end ≡ Open
none_open None e = refl
none_open (Some end) e = absurd (true≢false (sym e))

pub some_closed : (end : Option FileEnd) → is_none end ≡ false → mark_by end ≡ Open → ⊥
some_closed None e o = true≢false e
some_closed (Some end) e o = closed_end end o
