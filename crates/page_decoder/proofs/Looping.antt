-- The reader of a file, step after step.
use Rattle.std.proofs.Common.{◌≡◌, ◌≤◌, ◌+◌, ◌-◌, ℕ, List, Option, None, length, drop, sym, ap, ◌∙◌, arith}
use Rattle.std.proofs.lemmas.List.{length-drop, drop-drop}
use Rattle.std.proofs.lemmas.Grind.{common_steps}
use Rattle.djvu_base.specs.Meter.{TicksExactly}
use Rattle.page_decoder.specs.Decoder.{RiseTogether}
use Rattle.djvu_base.specs.declared.ends.FileEnd.{FileEnd}
use Rattle.include_graph.specs.declared.outline.Outline.{Outline}
use Rattle.jb2_records.specs.declared.results.FileResult.{FileResult}
use Rattle.page_decoder.specs.declared.file_reader.FileReader.{FileReader}
use Rattle.page_decoder.specs.declared.decoder.PageStep.{PageStep}
use Rattle.page_decoder.specs.Given.{Given}
use Rattle.page_decoder.specs.FileReading.{Stands, StandsBefore, IsGiven, IsReady, Moves, ComesTo}
use Rattle.page_decoder.proofs.Answering.{comes_same}

module _ (names : List (List ℕ)) (outlines : List (Option Outline)) (results : List (Option FileResult)) (end : Option FileEnd) where
  -- what is given of the rest
  given_on : (piece rest : List ℕ) (before given : Given) (reader : FileReader) → IsGiven names outlines results piece end before given
      → (s : StandsBefore given rest reader) → IsGiven names outlines results rest end s.now given
  given_on piece rest before given reader is s = record {
    names_are = is.names_are;
    known_is = is.known_is;
    within = s.within;
    bytes_are = s.bytes_are;
    mark_is = is.mark_is;
  }

  abbrev pub Steps : List ℕ → ℕ → Option PageStep → FileReader → FileReader → Type 0
  Steps rest used answer old new = (before given : Given) → IsGiven names outlines results rest end before given → Stands before old
      → ComesTo given (drop used rest) answer old new

  -- one more step of a reader that came so far
  pub steps_on : (piece rest : List ℕ) (used : ℕ) (answer : Option PageStep) (first old new : FileReader) (before given : Given)
      → IsGiven names outlines results piece end before given → Moves given rest first old → Steps rest used answer old new
      → ComesTo given (drop used rest) answer first new
  steps_on piece rest used answer first old new before given is m steps =
      comes_same given (drop used rest) answer old first new m.drawn
      (steps m.stands.now given (given_on piece rest before given old is m.stands) m.stands.stands)

  -- it is ready for the next one
  pub ready_on : (rest : List ℕ) (used : ℕ) (old new : FileReader) → IsReady names outlines results rest end old → Steps rest used None old new
      → IsReady names outlines results (drop used rest) end new
  ready_on rest used old new r steps =
      let m = steps r.before r.given r.is_given r.stands in
      record {
        before = m.stands.now;
        given = r.given;
        is_given = given_on rest (drop used rest) r.before r.given new r.is_given m.stands;
        stands = m.stands.stands;
      }

-- ---- the rest of the bytes

pub rest_on : (piece rest next : List ℕ) (used : ℕ) → rest ≡ drop (length piece - length rest) piece → length rest ≤ length piece → used ≤ length rest
    → next ≡ drop used rest → (length next ≤ length piece) × (next ≡ drop (length piece - length next) piece)
rest_on piece rest next used is within most e =
    let size : length next ≡ length rest - used = ap length e ∙ length-drop used rest in
    let count : length piece - length rest + used ≡ length piece - length next = omega (arith, size, within, most) in (
      omega (arith, size, within),
      e ∙ ap (drop used) is ∙ drop-drop used (length piece - length rest) piece ∙ ap (λ n. drop n piece) count,
    )

pub none_used : (piece : List ℕ) → piece ≡ drop (length piece - length piece) piece
none_used piece = let none : length piece - length piece ≡ 0 = omega arith in sym (ap (λ n. drop n piece) none)

pub rise_both : (a b c m n o : ℕ) → RiseTogether a b m n → RiseTogether b c n o → RiseTogether a c m o
rise_both a b c m n o f g = (f.0 + g.0, twice f.0 g.0 a b c f.1 g.1, twice f.0 g.0 m n o f.2 g.2)
  where
    twice : (t u x y z : ℕ) → TicksExactly t x y → TicksExactly u y z → TicksExactly (t + u) x z
    twice t u x y z e f = grind (arith, common_steps)
