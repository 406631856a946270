-- The bytes by which the outline of a file became known suffice to decode it.
use Rattle.std.proofs.Common.{◌≡◌, ℕ, Option, Some, ◌⊎◌, inl, inr, List, [], ◌++◌, refl, sym, ◌∙◌, subst}
use Rattle.std.specs.Prelude.{slice_get}
use Rattle.std.proofs.lemmas.List.{append-nil}
use Rattle.djvu_base.specs.Library.{Mark, Open, File, Library}
use Rattle.zp_table.specs.declared.rows.Row.{Row}
use Rattle.zp_table.specs.Rows.{IsTable}
use Rattle.include_graph.specs.declared.outline.Outline.{Outline}
use Rattle.include_graph.specs.Outlines.{outline_of}
use Rattle.page_decoder.specs.Results.{Result}
use Rattle.page_decoder.specs.Given.{Included, Known, Given, Front, Within}
use Rattle.page_decoder.specs.Read.{decode}
use Rattle.page_decoder.specs.Libraries.{names_in, bytes_in, mark_in, given_in, FileGoesOn}
use Rattle.page_decoder.specs.Needs.{IsOutlined, IncludesFile, IsMade}
use Rattle.page_decoder.specs.FileDecoding.{included}
use Rattle.replay_core.proofs.Making.{HasOutline, DecodeStays, made_includes}

abbrev pub OutlinesStay : Type 0
OutlinesStay = (mark : Mark) (bytes more : List ℕ) (outline : Outline) → outline_of Open bytes ≡ Some outline → outline_of mark (bytes ++ more) ≡ Some outline

-- other results of files that aren't included make no difference
abbrev pub Alone : Type 0
Alone = (given : Given) (known : Known) (outline : Outline) → given.home.role ≡ Included → IsOutlined given outline
    → ((file : ℕ) → IncludesFile given.home.names outline file → given.known.results file ≡ known.results file)
    → decode (record given { known = known }) ≡ decode given

-- the outline of a file became known by these bytes, and the file went on from there
module _ (table : List Row) (is : IsTable table) (library : Library) (results : ℕ → Option Result) (page file : ℕ)
    (made : IsMade table library results page file) (has : HasOutline library file) (alone : Alone) (stays : DecodeStays) (outlines : OutlinesStay)
    (it seen : File) (here : slice_get library file ≡ Some it) (on : FileGoesOn seen it) (known_then : outline_of seen.mark seen.bytes ≡ Some has.outline) where
  abbrev Now : Given
  Now = given_in Included table library file results

  abbrev Then : Mark → Given
  Then mark = included table (names_in library) file Now.known seen.bytes mark

  then_outlined : IsOutlined (Then seen.mark) has.outline
  then_outlined = record { known = known_then; clean = has.clean }

  within_now : Within (Then seen.mark) Now
  within_now = record {
    home = refl;
    known = record { outlines = λ other found e. e; results = λ other found e. e };
    bytes = subst (λ f. ((seen.mark ≡ Open) × Front seen.bytes (bytes_in f)) ⊎ ((seen.bytes ≡ bytes_in f) × (seen.mark ≡ mark_in f))) (sym here) on.bytes;
  }

  within_ended : (mark : Mark) → (seen.mark ≡ Open) ⊎ (mark ≡ seen.mark) → Within (Then seen.mark) (Then mark)
  within_ended mark (inl still) = record {
    home = refl;
    known = record { outlines = λ other found e. e; results = λ other found e. e };
    bytes = inl (still, ([], sym (append-nil seen.bytes)));
  }
  within_ended mark (inr same) = record {
    home = refl;
    known = record { outlines = λ other found e. e; results = λ other found e. e };
    bytes = inr (refl, sym same);
  }

  outlined_ended : (mark : Mark) → (seen.mark ≡ Open) ⊎ (mark ≡ seen.mark) → outline_of mark seen.bytes ≡ Some has.outline
  outlined_ended mark (inl still) =
      subst (λ bytes. outline_of mark bytes ≡ Some has.outline) (append-nil seen.bytes)
      (outlines mark seen.bytes [] has.outline (subst (λ m. outline_of m seen.bytes ≡ Some has.outline) still known_then))
  outlined_ended mark (inr same) = subst (λ m. outline_of m seen.bytes ≡ Some has.outline) (sym same) known_then

  includes : (other : ℕ) → IncludesFile (names_in library) has.outline other → (found : Result) × (results other ≡ Some found)
  includes = made_includes table library results page file has made

  -- it is decoded by these bytes as it is in the library, whatever is told of its end where that wasn't known then
  pub outlined_decoded : (mark : Mark) (known : Known) → (seen.mark ≡ Open) ⊎ (mark ≡ seen.mark) → ((other : ℕ) → known.results other ≡ results other)
      → decode (included table (names_in library) file known seen.bytes mark) ≡ decode Now
  outlined_decoded mark known ended agree =
      alone (Then mark) known has.outline refl (record { known = outlined_ended mark ended; clean = has.clean }) (λ other it. sym (agree other))
      ∙ stays (Then seen.mark) (Then mark) has.outline is (within_ended mark ended) refl then_outlined includes
      ∙ sym (stays (Then seen.mark) Now has.outline is within_now refl then_outlined includes)
