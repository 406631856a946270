-- The reader of a file behind all its acts.
use Rattle.std.proofs.Common.{◌≡◌, ℕ, zero, suc, ◌==◌, true, false, None, List, [], refl, sym, ap, ◌∙◌, subst, arith}
use Rattle.std.proofs.lemmas.Bool.{true≢false, eqb-true}
use Rattle.djvu_base.specs.declared.faults.FaultKind.{FaultKind}
use Rattle.djvu_base.specs.declared.faults.FaultKind.TheVariants as fault
use Rattle.include_graph.specs.Verdicts.{fault_at}
use Rattle.page_decoder.specs.declared.file_reader.FileReader.{FileReader}
use Rattle.page_decoder.specs.declared.file_reader.FileClose.{FileClose}
use Rattle.page_decoder.specs.declared.file_reader.FileClose.TheVariants as close
use Rattle.page_decoder.specs.declared.file_reader.Stage.TheVariants as stage
use Rattle.page_decoder.specs.declared.decoder.PageStep.TheVariants as step
use Rattle.page_decoder.specs.Given.{Role, Page, Included, Home, Known, Given}
use Rattle.page_decoder.specs.PageRead.{NeedBytes, last_layers, Left}
use Rattle.page_decoder.specs.Read.{refused_at, after, all_resolved, finished, at_over, at_close, read}
use Rattle.page_decoder.specs.FileReading.{Answers, IsClosing, close_of, decisions_in}
use Rattle.page_decoder.specs.FileSteps.{IsFinishing, lacks_info}
use Rattle.page_decoder.specs.Resolving.{role_of}
use Rattle.djvu_base.proofs.Ticks.{ticked_none}
use Rattle.page_decoder.proofs.Answering.{ends_answer}
use Rattle.page_decoder.proofs.ResolveSteps.{resolves_first}

over_lacks : (role : Role) (chunks : ℕ) (home : Home) (known : Known) (origin : ℕ) (left : Left) → lacks_info role chunks ≡ true
    → at_over role chunks home known origin left ≡ record { left = left; end = refused_at home fault.NoInfo origin }
over_lacks Page zero home known origin left e = refl
over_lacks Page (suc chunks) home known origin left e = absurd (omega (arith, eqb-true (suc chunks) 0 e))
over_lacks Included chunks home known origin left e = absurd (true≢false (sym e))

over_goes : (role : Role) (chunks : ℕ) (home : Home) (known : Known) (origin : ℕ) (left : Left) → lacks_info role chunks ≡ false
    → at_over role chunks home known origin left ≡ after (all_resolved home known left) finished
over_goes Page zero home known origin left e = absurd (true≢false e)
over_goes Page (suc chunks) home known origin left e = refl
over_goes Included chunks home known origin left e = refl

-- ---- where nothing but this is left

module _ (given : Given) (rest : List ℕ) (behind : FileClose) (reader : FileReader) (k : IsClosing given rest behind reader) where
  abbrev now : Given
  now = k.now

  layers : reader.kept.layers ≡ last_layers k.left.told.drawings
  layers = k.like.layers_are ∙ k.tallies.last_is

  file_is : now.home.file ≡ reader.file
  file_is = ap (λ h. h.file) k.of.home_is

  role_is : now.home.role ≡ role_of reader.role
  role_is = ap (λ h. h.role) k.of.home_is

  -- a fault of the file itself
  pub own_fault : (kind : FaultKind) (offset : ℕ) (later : FileReader) → later.drawn ≡ reader.drawn → decisions_in later ≡ decisions_in reader
      → later.kept.layers ≡ reader.kept.layers → read given ≡ record { left = k.left; end = refused_at now.home kind offset }
      → Answers given rest (step.Refused (fault_at kind reader.file offset)) reader later
  own_fault kind offset later d t l e =
      subst (λ file. Answers given rest (step.Refused (fault_at kind file offset)) reader later) file_is
      (ends_answer given rest reader later k.left (refused_at now.home kind offset) e k.tallies.drawn_are d (t ∙ k.decisions_are) (l ∙ layers)
      (λ w. absurd (cc)) (λ p. absurd p))

  -- more bytes may come
  pub waits_here : behind ≡ close.Waits → Answers given rest step.NeedBytes reader reader
  waits_here e =
      ends_answer given rest reader reader k.left NeedBytes (k.reads ∙ ap (λ b. at_close now.home now.known (close_of reader.origin b) k.left) e)
      k.tallies.drawn_are refl k.decisions_are layers (λ w. absurd (cc)) (λ p. k.waits e)

  -- the file can't be read on
  pub breaks_here : (kind : FaultKind) (offset : ℕ) → behind ≡ close.Breaks kind offset
      → Answers given rest (step.Refused (fault_at kind reader.file offset)) reader reader
  breaks_here kind offset e =
      own_fault kind offset reader refl refl refl (k.reads ∙ ap (λ b. at_close now.home now.known (close_of reader.origin b) k.left) e)

  -- without the chunk at hand
  abbrev dropped : FileReader
  dropped = record reader { chunk = None; decisions = decisions_in reader }

  dropped_same : decisions_in dropped ≡ decisions_in reader
  dropped_same = ticked_none (decisions_in reader)

  over_here : behind ≡ close.Over → read given ≡ at_over now.home.role k.left.chunks now.home now.known reader.origin k.left
  over_here e = k.reads ∙ ap (λ b. at_close now.home now.known (close_of reader.origin b) k.left) e

  -- behind a FORM without chunks
  pub lacks_here : behind ≡ close.Over → lacks_info (role_of reader.role) reader.chunks ≡ true
      → Answers given rest (step.Refused (fault_at fault.NoInfo reader.file reader.origin)) reader dropped
  lacks_here e l =
      own_fault fault.NoInfo reader.origin dropped refl dropped_same refl
      (over_here e ∙ over_lacks now.home.role k.left.chunks now.home now.known reader.origin k.left
      (ap (λ r. lacks_info r k.left.chunks) role_is ∙ ap (λ n. lacks_info (role_of reader.role) n) (sym k.tallies.chunks_are) ∙ l))

  -- behind another FORM
  pub finishes_here : behind ≡ close.Over → lacks_info (role_of reader.role) reader.chunks ≡ false
      → IsFinishing given rest (record dropped { stage = stage.AtEnd })
  finishes_here e l = record {
    stage_is = refl;
    stands = record {
      now = now;
      within = k.within;
      bytes_are = k.bytes_are;
      known_is = k.known_is;
      stands = record {
        left = k.left;
        of = record { home_is = k.of.home_is; is_table = k.of.is_table; origin_is = k.of.origin_is; counts = k.of.counts };
        ends = λ later w. k.stays e later w ∙ over_goes later.home.role k.left.chunks later.home later.known reader.origin k.left
            (ap (λ r. lacks_info r k.left.chunks) (sym (ap (λ h. h.role) w.home) ∙ role_is)
            ∙ ap (λ n. lacks_info (role_of reader.role) n) (sym k.tallies.chunks_are) ∙ l);
        none = refl;
        like = record { layers_are = k.like.layers_are; own_is = k.like.own_is };
        resolves = resolves_first now.home now.known k.left reader.includes k.includes_wait;
        decisions_are = k.decisions_are;
        tallies = record { chunks_are = k.tallies.chunks_are; drawn_are = k.tallies.drawn_are; last_is = k.tallies.last_is };
      };
    };
  }
