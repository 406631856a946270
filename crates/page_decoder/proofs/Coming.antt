-- What data of a chunk come to, with more of them.
use Rattle.std.proofs.Common.{◌≡◌, ◌≢◌, ◌≤◌, ℕ, ◌-◌, Bool, true, false, cond, leb, Option, Some, None, List, [], ◌∷◌, ◌++◌, length, refl, sym, ap, ◌∙◌, subst, arith}
use Rattle.std.proofs.lemmas.Bool.{leb-true, le-leb}
use Rattle.std.proofs.lemmas.List.{length-append}
use Rattle.djvu_base.specs.declared.faults.FaultKind.{FaultKind}
use Rattle.zp_table.specs.declared.rows.Row.{Row}
use Rattle.zp_table.specs.Rows.{IsTable}
use Rattle.jb2_records.specs.declared.purpose.Purpose.{Purpose}
use Rattle.jb2_records.specs.declared.purpose.Purpose.TheVariants as purpose
use Rattle.jb2_records.specs.declared.reader.Jb2Step.{Jb2Step}
use Rattle.jb2_records.specs.declared.reader.Jb2Step.TheVariants as records
use Rattle.jb2_records.specs.Reading as jb2
use Rattle.jb2_records.specs.Growth as growth
use Rattle.iw44_image.specs.Layer.{Data, data_of, Answer, LayerReading, Allowed, read_layer}
use Rattle.iw44_image.specs.Layer as iw44
use Rattle.djvu_base.specs.Picture.{Picture}
use Rattle.layer_compose.specs.declared.layers.Layers.{Layers}
use Rattle.page_decoder.specs.Reading.{size_in, size_fault}
use Rattle.page_decoder.specs.Kinds.{ChunkKind, kind_of}
use Rattle.page_decoder.specs.Kinds as kind
use Rattle.page_decoder.specs.PageRead.{Decoded}
use Rattle.page_decoder.specs.Headers.{Head}
use Rattle.page_decoder.specs.ChunkData.{Outcome, Leaves, Unfinished, Fails, Came, plainly, sized, info_outcome, records_in, records_outcome, back_limit, front_limit, allowed_on, picture_in, layer_outcome, layer_by, with_front, with_back, back_before, dictionary_came, mask_came, front_came, back_came, came_by, came}
use Rattle.page_decoder.proofs.Further.{CameOn}

-- what an outcome is with more data
record OutcomeOn (less more : Outcome) : Type 0 where
  unfinished : (decoded : Decoded) → less ≡ Leaves decoded → ⊥
  fails : (kind : FaultKind) → less ≡ Fails kind → more ≡ less

plain_on : (less more : Outcome) → OutcomeOn less more → CameOn (plainly less) (plainly more)
plain_on less more on = record { unfinished = on.unfinished; fails = λ kind e. ap plainly (on.fails kind e); decisions = omega arith }

waiting_on : (more : Outcome) → OutcomeOn Unfinished more
waiting_on more = record { unfinished = λ decoded e. cc; fails = λ kind e. cc }

waits_on : (more : Came) → CameOn (plainly Unfinished) more
waits_on more = record { unfinished = λ decoded e. cc; fails = λ kind e. cc; decisions = omega arith }

abbrev part : List ℕ → Data
part bytes = data_of bytes false

-- a page's size

first_numbers : (bytes more : List ℕ) → 4 ≤ length bytes → size_in (bytes ++ more) ≡ size_in bytes
first_numbers [] more h = absurd (omega arith)
first_numbers (a ∷ []) more h = absurd (omega arith)
first_numbers (a ∷ b ∷ []) more h = absurd (omega arith)
first_numbers (a ∷ b ∷ c ∷ []) more h = absurd (omega arith)
first_numbers (a ∷ b ∷ c ∷ d ∷ bytes) more h = refl

sized_on : (fault : Option FaultKind) (bytes more : List ℕ) (ended : Bool) (decoded : Decoded)
    → OutcomeOn (sized fault (part bytes) decoded) (sized fault (data_of (bytes ++ more) ended) decoded)
sized_on (Some kind) bytes more ended decoded = record { unfinished = λ other e. cc; fails = λ other e. refl }
sized_on None bytes more ended decoded = waiting_on (sized None (data_of (bytes ++ more) ended) decoded)

info_on : (bytes more : List ℕ) (ended : Bool) (decoded : Decoded)
    → OutcomeOn (info_outcome (part bytes) decoded) (info_outcome (data_of (bytes ++ more) ended) decoded)
info_on bytes more ended decoded = by (leb 4 (length bytes)) refl
  where
    by : (enough : Bool) → leb 4 (length bytes) ≡ enough
        → OutcomeOn (cond enough (sized (size_fault (size_in bytes)) (part bytes) decoded) Unfinished) (info_outcome (data_of (bytes ++ more) ended) decoded)
    by false e = waiting_on (info_outcome (data_of (bytes ++ more) ended) decoded)
    by true e =
        let enough : 4 ≤ length bytes = leb-true 4 (length bytes) e in
        let many = data_of (bytes ++ more) ended in
        let same : info_outcome many decoded ≡ sized (size_fault (size_in bytes)) many decoded =
        ap (λ t. cond t (sized (size_fault (size_in (bytes ++ more))) many decoded) Unfinished)
        (le-leb 4 (length (bytes ++ more)) (omega (arith, enough, length-append bytes more)))
        ∙ ap (λ n. sized (size_fault n) many decoded) (first_numbers bytes more enough) in
        subst (λ o. OutcomeOn (sized (size_fault (size_in bytes)) (part bytes) decoded) o) (sym same)
        (sized_on (size_fault (size_in bytes)) bytes more ended decoded)

-- records

abbrev records_by : jb2.Outcome → Data → Decoded → Came
records_by outcome given decoded = record { outcome = records_outcome outcome.answer given decoded; decisions = outcome.decisions }

records_wait : (answer : Jb2Step) (bytes : List ℕ) (decoded other : Decoded) → records_outcome answer (part bytes) decoded ≡ Leaves other → ⊥
records_wait records.Finished bytes decoded other e = cc
records_wait records.NeedBytes bytes decoded other e = cc
records_wait (records.Refused kind) bytes decoded other e = cc
records_wait records.OutOfMemory bytes decoded other e = cc

records_fail : (answer : Jb2Step) (short long : jb2.Outcome) (bytes : List ℕ) (many : Data) (d other : Decoded) (kind : FaultKind) → growth.GoesOn short long
    → short.answer ≡ answer → records_outcome answer (part bytes) d ≡ Fails kind → records_by long many other ≡ records_by short (part bytes) d
records_fail records.Finished short long bytes many d other kind on e f = cc
records_fail records.NeedBytes short long bytes many d other kind on e f = cc
records_fail records.OutOfMemory short long bytes many d other kind on e f = cc
records_fail (records.Refused found) short long bytes many d other kind on e f =
    let settled : short.answer ≢ records.NeedBytes = λ need. let wrong = sym e ∙ need in cc in
    ap (λ o. records_by o many other) (on.settled settled)
    ∙ ap (λ x. record { outcome = x; decisions = short.decisions })
    (ap (λ a. records_outcome a many other) e ∙ sym (ap (λ a. records_outcome a (part bytes) d) e))

records_on : (short long : jb2.Outcome) (bytes : List ℕ) (many : Data) (d other : Decoded) → growth.GoesOn short long
    → CameOn (records_by short (part bytes) d) (records_by long many other)
records_on short long bytes many d other on = record {
  unfinished = records_wait short.answer bytes d;
  fails = λ kind f. records_fail short.answer short long bytes many d other kind on refl f;
  decisions = on.decisions;
}

-- the law of records: more bytes only go on
abbrev pub RecordsGrow : Type 0
RecordsGrow = (input : jb2.Input) (more : List ℕ) (ended : Bool) → IsTable input.chunk.table → input.chunk.ended ≡ false
    → growth.GoesOn (jb2.records_of input) (jb2.records_of (growth.with_more input more ended))

-- layers

layers_wait : (answer : Answer) (bytes : List ℕ) (decoded other : Decoded) → layer_outcome answer (part bytes) decoded ≡ Leaves other → ⊥
layers_wait iw44.Done bytes decoded other e = cc
layers_wait iw44.Need bytes decoded other e = cc
layers_wait (iw44.Fault kind) bytes decoded other e = cc

layers_fail : (answer : Answer) (short long : LayerReading) (before : ℕ) (bytes : List ℕ) (many : Data) (leaves other : Picture → Decoded) (kind : FaultKind)
    → ((found : FaultKind) → short.answer ≡ iw44.Fault found → long ≡ short) → short.answer ≡ answer
    → layer_outcome answer (part bytes) (leaves (picture_in short.layer)) ≡ Fails kind
    → layer_by long before many other ≡ layer_by short before (part bytes) leaves
layers_fail iw44.Done short long before bytes many leaves other kind settled e f = cc
layers_fail iw44.Need short long before bytes many leaves other kind settled e f = cc
layers_fail (iw44.Fault found) short long before bytes many leaves other kind settled e f =
    ap (λ r. layer_by r before many other) (settled found e)
    ∙ ap (λ x. record { outcome = x; decisions = short.layer.decisions - before })
    (ap (λ a. layer_outcome a many (other (picture_in short.layer))) e ∙ sym (ap (λ a. layer_outcome a (part bytes) (leaves (picture_in short.layer))) e))

-- the law of layers: more bytes only go on
pub record LayersGrow : Type 0 where
  pub refused : (table : List Row) (allowed : Allowed) (chunks : List Data) (bytes more : List ℕ) (ended : Bool) (kind : FaultKind)
      → (read_layer table allowed (chunks ++ part bytes ∷ [])).answer ≡ iw44.Fault kind
      → read_layer table allowed (chunks ++ data_of (bytes ++ more) ended ∷ []) ≡ read_layer table allowed (chunks ++ part bytes ∷ [])
  pub decisions : (table : List Row) (allowed : Allowed) (chunks : List Data) (bytes more : List ℕ) (ended : Bool) → IsTable table
      → (read_layer table allowed (chunks ++ part bytes ∷ [])).layer.decisions
      ≤ (read_layer table allowed (chunks ++ data_of (bytes ++ more) ended ∷ [])).layer.decisions

module _ (table : List Row) (is : IsTable table) (law : RecordsGrow) (layers_law : LayersGrow) where
  layer_on : (allowed : Allowed) (chunks : List Data) (before : ℕ) (bytes more : List ℕ) (ended : Bool) (leaves other : Picture → Decoded)
      → CameOn (layer_by (read_layer table allowed (chunks ++ part bytes ∷ [])) before (part bytes) leaves)
      (layer_by (read_layer table allowed (chunks ++ data_of (bytes ++ more) ended ∷ [])) before (data_of (bytes ++ more) ended) other)
  layer_on allowed chunks before bytes more ended leaves other =
      let short = read_layer table allowed (chunks ++ part bytes ∷ []) in
      let long = read_layer table allowed (chunks ++ data_of (bytes ++ more) ended ∷ []) in
      let less = layers_law.decisions table allowed chunks bytes more ended is in
      record {
        unfinished = layers_wait short.answer bytes (leaves (picture_in short.layer));
        fails = λ kind f. layers_fail short.answer short long before bytes (data_of (bytes ++ more) ended) leaves other kind
            (layers_law.refused table allowed chunks bytes more ended) refl f;
        decisions = omega (arith, less);
      }

  purpose_on : (purpose : Purpose) (bytes more : List ℕ) (ended : Bool) (decoded d other : Decoded)
      → CameOn (records_by (jb2.records_of (records_in table purpose (part bytes) decoded)) (part bytes) d)
      (records_by (jb2.records_of (records_in table purpose (data_of (bytes ++ more) ended) decoded)) (data_of (bytes ++ more) ended) other)
  purpose_on purpose bytes more ended decoded d other =
      let few = records_in table purpose (part bytes) decoded in
      records_on (jb2.records_of few) (jb2.records_of (records_in table purpose (data_of (bytes ++ more) ended) decoded)) bytes
      (data_of (bytes ++ more) ended) d other
      (law few more ended is refl)

  dictionary_on : (bytes more : List ℕ) (ended : Bool) (decoded : Decoded)
      → CameOn (dictionary_came table (part bytes) decoded) (dictionary_came table (data_of (bytes ++ more) ended) decoded)
  dictionary_on bytes more ended decoded = purpose_on purpose.Dictionary bytes more ended decoded _ _

  mask_on : (layers : Option Layers) (bytes more : List ℕ) (ended : Bool) (decoded : Decoded)
      → CameOn (mask_came layers table (part bytes) decoded) (mask_came layers table (data_of (bytes ++ more) ended) decoded)
  mask_on None bytes more ended decoded = waits_on (plainly Unfinished)
  mask_on (Some layers) bytes more ended decoded = purpose_on (purpose.Mask layers.width layers.height) bytes more ended decoded _ _

  front_on : (layers : Option Layers) (bytes more : List ℕ) (ended : Bool) (decoded : Decoded)
      → CameOn (front_came layers table (part bytes) decoded) (front_came layers table (data_of (bytes ++ more) ended) decoded)
  front_on None bytes more ended decoded = waits_on (plainly Unfinished)
  front_on (Some layers) bytes more ended decoded =
      layer_on (allowed_on layers front_limit) [] 0 bytes more ended (with_front layers decoded) (with_front layers decoded)

  back_on : (layers : Option Layers) (bytes more : List ℕ) (ended : Bool) (decoded : Decoded)
      → CameOn (back_came layers table (part bytes) decoded) (back_came layers table (data_of (bytes ++ more) ended) decoded)
  back_on None bytes more ended decoded = waits_on (plainly Unfinished)
  back_on (Some layers) bytes more ended decoded =
      layer_on (allowed_on layers back_limit) decoded.back (back_before layers table decoded).layer.decisions bytes more ended
      (with_back layers (part bytes) decoded) (with_back layers (data_of (bytes ++ more) ended) decoded)

  kind_on : (of : ChunkKind) (bytes more : List ℕ) (ended : Bool) (offset : ℕ) (decoded : Decoded)
      → CameOn (came_by of table (part bytes) offset decoded) (came_by of table (data_of (bytes ++ more) ended) offset decoded)
  kind_on kind.Info bytes more ended offset decoded = plain_on _ _ (info_on bytes more ended decoded)
  kind_on kind.Include bytes more ended offset decoded = waits_on _
  kind_on kind.Dictionary bytes more ended offset decoded = dictionary_on bytes more ended decoded
  kind_on kind.Mask bytes more ended offset decoded = mask_on decoded.layers bytes more ended decoded
  kind_on kind.Front bytes more ended offset decoded = front_on decoded.layers bytes more ended decoded
  kind_on kind.Back bytes more ended offset decoded = back_on decoded.layers bytes more ended decoded
  kind_on kind.Refused bytes more ended offset decoded = waits_on _
  kind_on kind.Passed bytes more ended offset decoded = waits_on _

  pub data_on : (head : Head) (bytes more : List ℕ) (ended : Bool) (decoded : Decoded)
      → CameOn (came table head (data_of bytes false) decoded) (came table head (data_of (bytes ++ more) ended) decoded)
  data_on head bytes more ended decoded = kind_on (kind_of head.id) bytes more ended head.offset decoded
