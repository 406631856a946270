-- The bits of records that are decided are read as these records, in order, and they end.
use Rattle.std.proofs.Common.{◌≡◌, ◌≤◌, ◌+◌, ℕ, zero, suc, Bool, true, false, not, List, [], ◌∷◌, ◌++◌, length, refl, sym, ap, subst, ◌∙◌, arith}
use Rattle.std.specs.Prelude.{Option, Some, None, reverse, if◌then◌else◌}
use Rattle.std.proofs.lemmas.List.{append_assoc, append-nil, reverse-append}
use Rattle.zp_decoder.specs.Chunk.{Chunk}
use Rattle.bit_plane.specs.Pixels.{Pixels}
use Rattle.jb2_records.specs.declared.reader.Jb2Step.TheVariants as answer
use Rattle.jb2_records.specs.declared.purpose.Purpose.{Purpose}
use Rattle.jb2_records.specs.Records.{Record, is_end}
use Rattle.jb2_records.specs.Coding.{Coder, chunk_start, Read}
use Rattle.jb2_records.specs.Reading.{Input, Outcome, after_end, after_record, records_from, most_records, records_of}
use Rattle.jb2_writer.specs.Fields.{records_coded}
use Rattle.jb2_writer.specs.Refusal.{rules, can_follow, refused_behind, refused_from, refused}
use Rattle.jb2_writer.specs.Decided.{AreDecided, AreReadBack, HavePlanes}
use Rattle.jb2_writer.proofs.Drawing.{PlaneLaws}
use Rattle.jb2_writer.proofs.Ranging.{NumberLaws}
use Rattle.jb2_writer.proofs.Recording.{record_codes}
use Rattle.jb2_writer.proofs.Bounding.{Counts, few_of, no_counts, counts_on}

-- records in order behind others, which have the latest first
onto : List Record → List Record → List Record
onto [] before = before
onto (entry ∷ later) before = onto later (entry ∷ before)

onto_is : (later before : List Record) → onto later before ≡ reverse later ++ before
unfolding onto
onto_is [] before = refl
onto_is (entry ∷ later) before =
    onto_is later (entry ∷ before)
    ∙ (sym (append_assoc (reverse later) (entry ∷ []) before) ∙ ap (λ (all : List Record). all ++ before) (sym (reverse-append (entry ∷ []) later)))

-- ---- what isn't refused

not_refused : (number : ℕ) (can end : Bool) (behind rest : Option ℕ) →
    (if not can then Some number else if end then behind else rest) ≡ None → can ≡ true
not_refused number true end behind rest e = refl
not_refused number false end behind rest e = absurd (cc)

not_behind : (number : ℕ) (can : Bool) (behind rest : Option ℕ) → (if not can then Some number else if true then behind else rest) ≡ None → behind ≡ None
not_behind number true behind rest e = e
not_behind number false behind rest e = absurd (cc)

not_later : (number : ℕ) (can : Bool) (behind rest : Option ℕ) → (if not can then Some number else if false then behind else rest) ≡ None → rest ≡ None
not_later number true behind rest e = e
not_later number false behind rest e = absurd (cc)

nothing_behind : (number : ℕ) (later : List Record) → refused_behind number later ≡ None → later ≡ []
nothing_behind number [] e = refl
nothing_behind number (entry ∷ later) e = absurd (cc)

record Ends (result : Outcome) (records : List Record) : Type 0 where
  finished : result.answer ≡ answer.Finished
  same : result.records ≡ records

module _ (source : Chunk) (inherited : List Pixels) (purpose : Purpose) (numbers : NumberLaws) (planes : PlaneLaws) (all : length inherited ≤ 65536) where
  abbrev input : Input
  input = record { chunk = source; inherited = inherited; purpose = purpose }

  abbrev rest_from : ℕ → List Record → Coder → Outcome
  rest_from count before at = records_from count input before at

  after_one : (count : ℕ) (entry : Record) (before later : List Record) (next : Coder) (end : Bool) → is_end entry ≡ end →
      (end ≡ true → later ≡ []) → (end ≡ false → Ends (rest_from count (entry ∷ before) next) (onto later (entry ∷ before))) →
      Ends (after_end end (entry ∷ before) next (λ records at. records_from count input records at)) (onto later (entry ∷ before))
  unfolding onto
  after_one count entry before later next true e none more =
      record { finished = refl; same = ap (λ (rest : List Record). onto rest (entry ∷ before)) (sym (none refl)) }
  after_one count entry before later next false e none more = more refl

  records_read : (later before : List Record) (number count : ℕ) (at to : Coder) → Counts inherited before → HavePlanes later →
      refused_from (rules inherited purpose) number before later ≡ None → length later ≤ count →
      AreDecided source at (records_coded inherited before later) to → Ends (records_from count input before at) (onto later before)
  unfolding onto
  records_read [] before number count at to counts whole e few given = absurd (cc)
  records_read (entry ∷ later) before number zero at to counts whole e few given = absurd (omega (arith, few))
  records_read (entry ∷ later) before number (suc count) at to counts whole e few given =
      let can : Bool = can_follow (rules inherited purpose) before entry in
      let behind : Option ℕ = refused_behind (number + 1) later in
      let rest : Option ℕ = refused_from (rules inherited purpose) (number + 1) (entry ∷ before) later in
      let follows : can_follow (rules inherited purpose) before entry ≡ true = not_refused number can (is_end entry) behind rest e in
      let one = record_codes source inherited purpose numbers planes before entry (few_of inherited before counts) whole.0 follows at to
      (records_coded inherited (entry ∷ before) later) given in
      let read : records_from (suc count) input before at ≡
      after_end (is_end entry) (entry ∷ before) one.next (λ records at. records_from count input records at) =
      ap (λ (reading : Read Record). after_record reading before (λ records at. records_from count input records at)) one.got in
      subst (λ (result : Outcome). Ends result (onto later (entry ∷ before))) (sym read)
      (after_one count entry before later one.next (is_end entry) refl
      (λ is. nothing_behind (number + 1) later (not_behind number can behind rest
      (subst (λ (end : Bool). (if not can then Some number else if end then behind else rest) ≡ None) is e)))
      (λ isnt. records_read later (entry ∷ before) (number + 1) count one.next to (counts_on inherited purpose before counts entry all follows) whole.1
      (not_later number can behind rest
      (subst (λ (end : Bool). (if not can then Some number else if end then behind else rest) ≡ None) isnt e)) (omega (arith, few)) one.decided))

  -- records that can be written, in a chunk whose bits are theirs
  pub all_read : (records : List Record) (to : Coder) →
      ((count : ℕ) → most_records source.payload ≤ count → records_from count input [] chunk_start ≡ records_of input) →
      HavePlanes records → refused inherited purpose records ≡ None → AreDecided source chunk_start (records_coded inherited [] records) to →
      AreReadBack input records
  all_read records to counted whole e given =
      let count : ℕ = most_records source.payload + length records in
      let ends = records_read records [] 0 count chunk_start to (no_counts inherited) whole e (omega arith) given in
      let same : records_from count input [] chunk_start ≡ records_of input = counted count (omega arith) in
      record {
        finished = ap (λ (result : Outcome). result.answer) (sym same) ∙ ends.finished;
        same = ap (λ (result : Outcome). result.records) (sym same) ∙ (ends.same ∙ (onto_is records [] ∙ append-nil (reverse records)));
      }
