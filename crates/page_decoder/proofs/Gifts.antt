-- The decoding of an included file, by what its reader answers.
use Rattle.std.proofs.Common.{◌≡◌, ◌≢◌, ◌<◌, ◌≤◌, ℕ, min, Option, Some, None, List, [], ◌∷◌, length, refl, sym, ap, ◌∙◌, subst, arith}
use Rattle.std.proofs.lemmas.Grind.{common_steps}
use Rattle.djvu_base.specs.Library.{Open, mark_of}
use Rattle.djvu_base.specs.declared.ends.FileEnd.{FileEnd}
use Rattle.djvu_base.specs.declared.ends.FileEnd.TheVariants as file_end
use Rattle.djvu_base.specs.Meter.{ticked, TicksExactly, TicksAtMost}
use Rattle.djvu_base.specs.declared.faults.Fault.{Fault}
use Rattle.bit_plane.specs.Pixels.{Pixels}
use Rattle.zp_table.specs.Rows.{IsTable}
use Rattle.include_graph.specs.declared.verdicts.Verdict.TheVariants as verdict
use Rattle.page_decoder.specs.declared.decoder.PageStep.{PageStep}
use Rattle.page_decoder.specs.declared.decoder.PageStep.TheVariants as step
use Rattle.page_decoder.specs.declared.file_reader.FileReader.{FileReader}
use Rattle.page_decoder.specs.Results.{result_of}
use Rattle.page_decoder.specs.Given.{Included, Home, Known, Given, Within}
use Rattle.page_decoder.specs.PageRead.{Ending, Finished, Refused, NeedBytes, NeedOutline, NeedFile, Include, Decoded, in_force}
use Rattle.page_decoder.specs.Read.{listing, read, result_by, decode}
use Rattle.page_decoder.specs.Needs.{Because, Lacks, IsUnknown}
use Rattle.page_decoder.specs.Resolving.{result_in}
use Rattle.page_decoder.specs.Decoder.{Ends, entry_at, next_entry, answer_at, answer_to, decisions_to}
use Rattle.page_decoder.specs.FileDecoding.{dictionary_gift, gift_of}
use Rattle.page_decoder.specs.FileReading.{Answers, decisions_in, dictionary_in}
use Rattle.page_decoder.proofs.Drawless.{drawless}

-- what this file takes from the laws
pub record Laws : Type 0 where
  pub finished : (less more : Given) → IsTable less.home.table → Within less more → (read less).end ≡ Finished → read more ≡ read less
  pub refused : (less more : Given) (fault : Fault) → IsTable less.home.table → Within less more → (read less).end ≡ Refused fault → read more ≡ read less
  pub unmet : (less more : Given) → IsTable less.home.table → Within less more → Lacks less more (read less).end → read more ≡ read less
  pub because : (given : Given) → Because given.home given.known (read given).left.decoded.pending (read given).end
  pub file : (given : Given) (file : ℕ) → (read given).end ≡ NeedFile file → (given.known.results file ≡ None) × (file < length given.home.names)
  pub closed : (given : Given) → given.mark ≢ Open → (read given).end ≢ NeedBytes

-- an included file asks for no outline
no_outline : (home : Home) (known : Known) (pending : List Include) (file : ℕ) → home.role ≡ Included → IsUnknown home known pending file → ⊥
no_outline home known pending file r u =
    let asked : verdict.Files (u.target ∷ []) ≡ verdict.NeedOutline file = sym (ap (λ x. listing x home known u.target) r) ∙ u.list in
    cc

-- so only what is known of other files' results counts
module _ (laws : Laws) (less more : Given) (is : IsTable less.home.table) (within : Within less more) (role : less.home.role ≡ Included)
    (shut : less.mark ≢ Open) (same : (file : ℕ) → less.known.results file ≡ more.known.results file) where
  same_end : (end : Ending) → (read less).end ≡ end → read more ≡ read less
  same_end Finished e = laws.finished less more is within e
  same_end (Refused fault) e = laws.refused less more fault is within e
  same_end NeedBytes e = absurd (laws.closed less shut e)
  same_end (NeedOutline file) e =
      absurd (no_outline less.home less.known (read less).left.decoded.pending file role
      (subst (λ x. Because less.home less.known (read less).left.decoded.pending x) e (laws.because less)))
  same_end (NeedFile file) e =
      laws.unmet less more is within (subst (λ x. Lacks less more x) (sym e) (sym (same file) ∙ (laws.file less file e).0))

  pub same_reading : read more ≡ read less
  same_reading = same_end (read less).end refl

dictionary_is : (dictionary : Option (List Pixels)) → result_in (dictionary_gift dictionary) ≡ Some (result_of dictionary)
dictionary_is None = refl
dictionary_is (Some shapes) = refl

gift_is : (end : Ending) (decoded : Decoded) (dictionary : Option (List Pixels)) → (end ≡ Finished → in_force decoded ≡ dictionary)
    → result_in (gift_of (answer_at end) dictionary) ≡ Some (result_by end decoded)
gift_is Finished decoded dictionary e = dictionary_is dictionary ∙ ap (λ d. Some (result_of d)) (sym (e refl))
gift_is (Refused fault) decoded dictionary e = refl
gift_is NeedBytes decoded dictionary e = refl
gift_is (NeedOutline file) decoded dictionary e = refl
gift_is (NeedFile file) decoded dictionary e = refl

finished_at : (end : Ending) → end ≡ Finished → answer_at end ≡ step.Finished
finished_at end e = ap answer_at e

-- what a reader answered over all bytes of an included file
module _ (given : Given) (rest : List ℕ) (answer : PageStep) (before after : FileReader) (role : given.home.role ≡ Included)
    (start : before.drawn ≡ 0) (told : Answers given rest answer before after) where
  the_end : next_entry (read given) before.drawn ≡ Ends (read given).end
  the_end = ap (λ n. next_entry (read given) n) start ∙ ap (λ ds. entry_at ds 0 (read given).end) (drawless given role)

  pub answered : answer ≢ step.OutOfMemory → answer ≡ answer_at (read given).end
  answered some = told.told some ∙ ap answer_to the_end

  pub gives : answer ≢ step.OutOfMemory → result_in (gift_of answer (dictionary_in after)) ≡ Some (decode given).result
  gives some =
      ap (λ a. result_in (gift_of a (dictionary_in after))) (answered some)
      ∙ gift_is (read given).end (read given).left.decoded (dictionary_in after)
      (λ e. told.finished (answered some ∙ finished_at (read given).end e))

  pub counts : answer ≢ step.OutOfMemory → TicksExactly (decode given).decisions 0 (decisions_in after)
  counts some = told.decisions some ∙ ap (λ x. ticked (decisions_to x (read given)) 0) the_end

pub closed_end : (end : FileEnd) → mark_of end ≢ Open
closed_end file_end.Whole e = cc
closed_end file_end.Broken e = cc

-- what was counted up to an end ticked at most so often
pub ticked_at_most : (most ticks count before after : ℕ) → TicksExactly ticks 0 count → count ≤ ticked most 0 → TicksExactly ticks before after
    → TicksAtMost most before after
ticked_at_most most ticks count before after counted le ticked_so =
    let counted_is : count ≡ min ticks 0xffff_ffff_ffff_ffff = grind (arith, common_steps, counted) in
    let le_is : count ≤ min most 0xffff_ffff_ffff_ffff = grind (arith, common_steps, le) in
    let few : min ticks most ≤ most = omega arith in
    let same : after ≡ ticked (min ticks most) before = grind (arith, common_steps, counted_is, le_is, ticked_so) in
    (min ticks most, few, same)
