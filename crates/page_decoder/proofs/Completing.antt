-- A complete chunk leaves what it brings, or refuses the file.
use Rattle.std.proofs.Common.{◌≡◌, ◌≢◌, ℕ, Bool, true, false, cond, leb, Option, Some, None, List, [], ◌∷◌, length, refl, sym, subst}
use Rattle.std.proofs.lemmas.Bool.{le-leb}
use Rattle.djvu_base.specs.declared.faults.FaultKind.{FaultKind}
use Rattle.zp_table.specs.declared.rows.Row.{Row}
use Rattle.zp_table.specs.Rows.{IsTable}
use Rattle.jb2_records.specs.declared.purpose.Purpose.{Purpose}
use Rattle.jb2_records.specs.declared.purpose.Purpose.TheVariants as purpose
use Rattle.jb2_records.specs.declared.reader.Jb2Step.{Jb2Step}
use Rattle.jb2_records.specs.declared.reader.Jb2Step.TheVariants as records
use Rattle.jb2_records.specs.Reading as jb2
use Rattle.iw44_image.specs.Layer.{Layer, LayerReading, Answer, Allowed, data_of, after_chunk, ends, read_chunk, new_layer, read_layer}
use Rattle.iw44_image.specs.Layer as iw44
use Rattle.layer_compose.specs.declared.layers.Layers.{Layers}
use Rattle.include_graph.specs.Included.{include_name}
use Rattle.page_decoder.specs.Reading.{size_in, size_fault}
use Rattle.page_decoder.specs.Kinds.{ChunkKind}
use Rattle.page_decoder.specs.Kinds as kind
use Rattle.page_decoder.specs.PageRead.{Decoded}
use Rattle.page_decoder.specs.ChunkData.{Unfinished, back_limit, front_limit, allowed_on, sized, named, records_in, records_outcome, mask_came, front_came, layer_outcome, back_before, back_with, back_came, came_by}
use Rattle.page_decoder.specs.Needs.{HasBefore}
use Rattle.page_decoder.proofs.Limiting.{LastChunk}

-- the laws of records and of layers
abbrev pub RecordsEnd : Type 0
RecordsEnd = (input : jb2.Input) → IsTable input.chunk.table → input.chunk.ended ≡ true → (jb2.records_of input).answer ≢ records.NeedBytes

abbrev pub NeverLacksMemory : Type 0
NeverLacksMemory = (input : jb2.Input) → (jb2.records_of input).answer ≢ records.OutOfMemory

abbrev pub ChunksAnswer : Type 0
ChunksAnswer = (table : List Row) (allowed : Allowed) (bytes : List ℕ) (layer : Layer)
    → (read_chunk table allowed (data_of bytes true) layer).answer ≢ iw44.Need

records_some : (answer : Jb2Step) (bytes : List ℕ) (decoded : Decoded) → answer ≢ records.NeedBytes → answer ≢ records.OutOfMemory
    → records_outcome answer (data_of bytes true) decoded ≢ Unfinished
records_some records.Finished bytes decoded n m e = cc
records_some records.NeedBytes bytes decoded n m e = n refl
records_some (records.Refused kind) bytes decoded n m e = cc
records_some records.OutOfMemory bytes decoded n m e = m refl

layer_some : (answer : Answer) (bytes : List ℕ) (decoded : Decoded) → answer ≢ iw44.Need → layer_outcome answer (data_of bytes true) decoded ≢ Unfinished
layer_some iw44.Done bytes decoded n e = cc
layer_some iw44.Need bytes decoded n e = n refl
layer_some (iw44.Fault kind) bytes decoded n e = cc

alone_some : (answer : Answer) (layer : Layer) → answer ≢ iw44.Need → (after_chunk answer layer (λ after. ends iw44.Done after)).answer ≢ iw44.Need
alone_some iw44.Done layer n e = cc
alone_some iw44.Need layer n e = n refl
alone_some (iw44.Fault kind) layer n e = cc

sized_some : (fault : Option FaultKind) (bytes : List ℕ) (decoded : Decoded) → sized fault (data_of bytes true) decoded ≢ Unfinished
sized_some (Some kind) bytes decoded e = cc
sized_some None bytes decoded e = cc

info_some : (enough : Bool) (bytes : List ℕ) (decoded : Decoded) → enough ≡ true
    → cond enough (sized (size_fault (size_in bytes)) (data_of bytes true) decoded) Unfinished ≢ Unfinished
info_some true bytes decoded t e = sized_some (size_fault (size_in bytes)) bytes decoded e
info_some false bytes decoded t e = absurd (cc)

named_some : (found : Option (List ℕ)) (offset : ℕ) (decoded : Decoded) → named found offset decoded ≢ Unfinished
named_some None offset decoded e = cc
named_some (Some name) offset decoded e = cc

module _ (table : List Row) (is : IsTable table) (record_laws : RecordsEnd × NeverLacksMemory) (answers : ChunksAnswer) (last : LastChunk) where
  input_some : (of : Purpose) (bytes : List ℕ) (before decoded : Decoded)
      → records_outcome (jb2.records_of (records_in table of (data_of bytes true) before)).answer (data_of bytes true) decoded ≢ Unfinished
  input_some of bytes before decoded =
      let input = records_in table of (data_of bytes true) before in
      records_some (jb2.records_of input).answer bytes decoded (record_laws.0 input is refl) (record_laws.1 input)

  mask_some : (found : Option Layers) (layers : Layers) (bytes : List ℕ) (decoded : Decoded) → found ≡ Some layers
      → (mask_came found table (data_of bytes true) decoded).outcome ≢ Unfinished
  mask_some None layers bytes decoded s e = absurd (cc)
  mask_some (Some found) layers bytes decoded s e = input_some (purpose.Mask found.width found.height) bytes decoded _ e

  front_some : (found : Option Layers) (layers : Layers) (bytes : List ℕ) (decoded : Decoded) → found ≡ Some layers
      → (front_came found table (data_of bytes true) decoded).outcome ≢ Unfinished
  front_some None layers bytes decoded s e = absurd (cc)
  front_some (Some found) layers bytes decoded s e =
      let allowed = allowed_on found front_limit in
      let first = read_chunk table allowed (data_of bytes true) new_layer in
      layer_some (read_layer table allowed (data_of bytes true ∷ [])).answer bytes _
      (alone_some first.answer first.layer (answers table allowed bytes new_layer)) e

  back_some : (found : Option Layers) (layers : Layers) (bytes : List ℕ) (decoded : Decoded) → found ≡ Some layers
      → (back_before layers table decoded).answer ≡ iw44.Done → (back_came found table (data_of bytes true) decoded).outcome ≢ Unfinished
  back_some None layers bytes decoded s done e = absurd (cc)
  back_some (Some found) layers bytes decoded s done e =
      let allowed = allowed_on layers back_limit in
      let same : found ≡ layers = cc in
      let before = (back_before layers table decoded).layer in
      let need = subst (λ (r : LayerReading). r.answer ≢ iw44.Need) (sym (last table allowed decoded.back (data_of bytes true) done))
      (answers table allowed bytes before) in
      layer_some (back_with found table (data_of bytes true) decoded).answer bytes _
      (subst (λ l. (back_with l table (data_of bytes true) decoded).answer ≢ iw44.Need) (sym same) need) e

  pub complete_some : (of : ChunkKind) (bytes : List ℕ) (offset : ℕ) (decoded : Decoded) → HasBefore of table bytes decoded
      → (came_by of table (data_of bytes true) offset decoded).outcome ≢ Unfinished
  complete_some kind.Info bytes offset decoded ready = info_some (leb 4 (length bytes)) bytes decoded (le-leb 4 (length bytes) ready)
  complete_some kind.Include bytes offset decoded ready = named_some (include_name bytes) offset decoded
  complete_some kind.Dictionary bytes offset decoded ready = input_some purpose.Dictionary bytes decoded _
  complete_some kind.Mask bytes offset decoded ready = mask_some decoded.layers ready.0 bytes decoded ready.1
  complete_some kind.Front bytes offset decoded ready = front_some decoded.layers ready.0 bytes decoded ready.1
  complete_some kind.Back bytes offset decoded ready = back_some decoded.layers ready.0 bytes decoded ready.1 ready.2
  complete_some kind.Refused bytes offset decoded ready = λ e. cc
  complete_some kind.Passed bytes offset decoded ready = λ e. cc
