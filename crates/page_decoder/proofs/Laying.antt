-- The end of a chunk: what is laid on the page, and what its records and its layer come to.
use Rattle.std.proofs.Common.{◌≡◌, ◌≢◌, ℕ, ◌-◌, true, false, Option, Some, None, List, [], ◌∷◌, ◌++◌, is_some, unwrap_or, refl, sym, ap, ◌∙◌, subst}
use Rattle.std.specs.Prelude.{IsSome}
use Rattle.djvu_base.specs.Announced.{Announced}
use Rattle.djvu_base.specs.declared.faults.FaultKind.{FaultKind}
use Rattle.djvu_base.specs.Picture.{Picture}
use Rattle.zp_table.specs.declared.rows.Row.{Row}
use Rattle.zp_table.specs.Rows.{IsTable}
use Rattle.zp_decoder.specs.Chunk.{chunk}
use Rattle.jb2_records.specs.declared.purpose.Purpose.{Purpose}
use Rattle.jb2_records.specs.declared.reader.Jb2Step.TheVariants as records
use Rattle.jb2_records.specs.Reading as jb2
use Rattle.jb2_records.specs.ReaderState.{ReaderState, Source, input_of}
use Rattle.iw44_image.specs.declared.headers.Header.{Header}
use Rattle.iw44_image.specs.Layer.{Data, Layer, LayerReading, Allowed, data_of, header_or, read_chunk, read_layer}
use Rattle.iw44_image.specs.Layer as iw44
use Rattle.layer_compose.specs.declared.layers.Layers.{Layers}
use Rattle.layer_compose.specs.Reduction.{reduction_of}
use Rattle.page_decoder.specs.declared.closing.ChunkCame.{ChunkCame}
use Rattle.page_decoder.specs.declared.closing.ChunkCame.TheVariants as came
use Rattle.page_decoder.specs.declared.page_layers.PageLayer.{PageLayer}
use Rattle.page_decoder.specs.declared.page_layers.PageLayer.TheVariants as layer
use Rattle.page_decoder.specs.declared.layer_reader.LayerStep.TheVariants as step
use Rattle.page_decoder.specs.Kinds as kind
use Rattle.iw44_image.specs.Image.{is_whole, picture_of}
use Rattle.page_decoder.specs.Kinds.{ChunkKind, kind_of, brings_drawing}
use Rattle.page_decoder.specs.Headers.{Head}
use Rattle.page_decoder.specs.PageRead.{Decoded, in_force}
use Rattle.page_decoder.specs.ChunkData.{Outcome, Leaves, Fails, records_in, back_limit, front_limit, allowed_on, picture_in, layer_outcome, with_front, with_back, front_came, back_came}
use Rattle.page_decoder.specs.LayerState.{LayerState, FitsPage, Rests, KeepsOpen, reading_of, open_data, reading_with, decisions_with, Answers as LayerAnswers}
use Rattle.page_decoder.proofs.Opening.{reading_so, with_so}
use Rattle.page_decoder.specs.Kept.{Keeping, IsBehind, Background, KeepsOf, Keeps}
use Rattle.page_decoder.specs.Opened.{Closes, HasLaid, FitsOn, StaysBeside, ReadsRecords, ReadsLayer, announced, with_layer}

some_same : {A : Type 0} (a b : A) → Some a ≡ Some b → a ≡ b
some_same a b e = cc

-- a layer that fits was laid, or there was no memory
pub laid_closes : (result : ChunkCame) (it : PageLayer) (chunks : ℕ) (old new : Keeping) (table : List Row) (head : Head) (before after : Decoded)
    (outcome : Outcome) (layers : Layers) → HasLaid it chunks result old.layers new.layers → old.layers ≡ Some layers → FitsOn layers it
    → outcome ≡ Leaves after → after.layers ≡ Some (with_layer it layers)
    → ((notice : Announced) → result ≡ came.Drew notice → new.layers ≡ Some (with_layer it layers) → Keeps table after new)
    → brings_drawing (kind_of head.id) ≡ true → Closes result chunks table head before outcome new
laid_closes (came.Drew notice) it chunks old new table head before after outcome layers laid is fits leaves sized keeps brings =
    let same : laid.0 ≡ layers = some_same laid.0 layers (sym laid.1.0 ∙ is) in
    record {
      decoded = after;
      layers = with_layer it layers;
      leaves = leaves;
      keeps = keeps notice refl (laid.1.1.0 ∙ ap (λ l. Some (with_layer it l)) same);
      sized = sized;
      notice_is = laid.1.1.1 ∙ ap (λ l. announced chunks (with_layer it l)) same;
      brings = brings;
    }
laid_closes came.Left it chunks old new table head before after outcome layers laid is fits leaves sized keeps brings = absurd laid
laid_closes (came.Include name) it chunks old new table head before after outcome layers laid is fits leaves sized keeps brings = absurd laid
laid_closes (came.Refused kind) it chunks old new table head before after outcome layers laid is fits leaves sized keeps brings =
    absurd (laid.1 layers is fits)
laid_closes came.OutOfMemory it chunks old new table head before after outcome layers laid is fits leaves sized keeps brings = tt

background_on : (table : List Row) (layers others : Layers) (chunks : List Data) (back : Option LayerState)
    → others.width ≡ layers.width → others.height ≡ layers.height → Background table (Some layers) chunks back → Background table (Some others) chunks back
background_on table layers others chunks None w h behind = behind
background_on table layers others chunks (Some it) w h behind =
    let size : it.page ≡ (others.width, others.height) =
    behind.page_is ∙ ap (λ n. (n, layers.height)) (sym w) ∙ ap (λ n. (others.width, n)) (sym h) in
    record { table_is = behind.table_is; limit_is = behind.limit_is; page_is = size; rests = behind.rests }

-- another layer on the page keeps the background and the dictionary
pub keeps_beside : (table : List Row) (decoded : Decoded) (old new : Keeping) (layers others : Layers) → Keeps table decoded old → StaysBeside old new
    → decoded.layers ≡ Some layers → others.width ≡ layers.width → others.height ≡ layers.height → new.layers ≡ Some others
    → KeepsOf table (Some others) decoded.back decoded.own new
keeps_beside table decoded old new layers others keeps stays sized w h is =
    let behind : Background table (Some layers) decoded.back old.back =
    subst (λ l. Background table l decoded.back old.back) sized keeps.background in
    record {
      layers_are = is;
      own_is = stays.own ∙ keeps.own_is;
      background = subst (λ b. Background table (Some others) decoded.back b) (sym stays.back)
          (background_on table layers others decoded.back old.back w h behind);
    }

-- ---- records

module _ (purpose : Purpose) (table : List Row) (decoded : Decoded) (bytes : List ℕ) (it now : ReaderState)
    (reads : ReadsRecords purpose table decoded bytes it) (same : now.source ≡ it.source) (ended : now.ended ≡ true) where
  pub input_so : input_of now bytes ≡ records_in table purpose (data_of bytes true) decoded
  input_so =
      ap (λ (s : Source). record { chunk = chunk s.table bytes now.ended; inherited = s.inherited; purpose = s.purpose }) same
      ∙ ap (λ e. record { chunk = chunk it.source.table bytes e; inherited = it.source.inherited; purpose = it.source.purpose }) ended
      ∙ ap (λ t. record { chunk = chunk t bytes true; inherited = it.source.inherited; purpose = it.source.purpose }) reads.table_is
      ∙ ap (λ i. record { chunk = chunk table bytes true; inherited = i; purpose = it.source.purpose }) reads.inherited_is
      ∙ ap (λ p. record { chunk = chunk table bytes true; inherited = unwrap_or (in_force decoded) []; purpose = p }) reads.purpose_is

  -- complete records don't wait
  pub never_waits : ((input : jb2.Input) → IsTable input.chunk.table → input.chunk.ended ≡ true → (jb2.records_of input).answer ≢ records.NeedBytes)
      → records.NeedBytes ≡ (jb2.records_of (input_of now bytes)).answer → ⊥
  never_waits law e =
      law (records_in table purpose (data_of bytes true) decoded) reads.rows refl (sym (e ∙ ap (λ i. (jb2.records_of i).answer) input_so))

-- ---- layers

some_is : {A : Type 0} (found : Option A) → is_some found ≡ true → IsSome found
some_is (Some a) e = refl
some_is None e = absurd (let wrong : false ≡ true = e in cc)

header_fits : (page : ℕ × ℕ) (header : Option Header) → IsSome header → FitsPage page header
    → IsSome (reduction_of page ((header_or header).width, (header_or header).height))
header_fits page None some fits = absurd (let wrong : false ≡ true = some in cc)
header_fits page (Some header) some fits = some_is (reduction_of page (header.width, header.height)) fits

-- the picture of a layer that fits
pub raster_fits : (page : ℕ × ℕ) (it : LayerState) → it.page ≡ page → IsSome it.image.header → FitsPage it.page it.image.header
    → IsSome (reduction_of page ((header_or it.image.header).width, (header_or it.image.header).height))
raster_fits page it e some fits =
    subst (λ p. IsSome (reduction_of p ((header_or it.image.header).width, (header_or it.image.header).height))) e
    (header_fits it.page it.image.header some fits)

-- a complete chunk doesn't wait
pub chunk_never_waits : (table : List Row) (allowed : Allowed) (chunks : List Data) (bytes : List ℕ)
    → ((table : List Row) (allowed : Allowed) (chunks : List Data) (given : Data) → (read_layer table allowed chunks).answer ≡ iw44.Done
    → read_layer table allowed (chunks ++ given ∷ []) ≡ read_chunk table allowed given (read_layer table allowed chunks).layer)
    → ((table : List Row) (allowed : Allowed) (bytes : List ℕ) (layer : Layer) → (read_chunk table allowed (data_of bytes true) layer).answer ≢ iw44.Need)
    → (read_layer table allowed chunks).answer ≡ iw44.Done → (read_layer table allowed (chunks ++ data_of bytes true ∷ [])).answer ≡ iw44.Need → ⊥
chunk_never_waits table allowed chunks bytes last law done e =
    law table allowed bytes (read_layer table allowed chunks).layer
    (sym (ap (λ (r : LayerReading). r.answer) (last table allowed chunks (data_of bytes true) done)) ∙ e)

-- what a complete chunk of a layer comes to
module _ (wanted : ChunkKind) (limit : ℕ) (chunks : List Data) (table : List Row) (head : Head) (decoded : Decoded) (bytes : List ℕ) (o : LayerState)
    (reads : ReadsLayer wanted (kind_of head.id) limit chunks table decoded bytes 0 o) where
  pub whole_reading : reading_with o chunks bytes ≡ read_layer table (allowed_on reads.layers limit) (chunks ++ data_of bytes true ∷ [])
  whole_reading = with_so wanted (kind_of head.id) limit chunks table decoded bytes 0 o reads true refl

  pub reading_before : reading_of o chunks ≡ read_layer table (allowed_on reads.layers limit) chunks
  reading_before = reading_so wanted (kind_of head.id) limit chunks table decoded bytes 0 o reads chunks

  pub whole_count : decisions_with o chunks bytes
      ≡ (read_layer table (allowed_on reads.layers limit) (chunks ++ data_of bytes true ∷ [])).layer.decisions
      - (read_layer table (allowed_on reads.layers limit) chunks).layer.decisions
  whole_count =
      ap (λ (r : LayerReading). r.layer.decisions - (reading_of o chunks).layer.decisions) whole_reading
      ∙ ap (λ (r : LayerReading). (read_layer table (allowed_on reads.layers limit) (chunks ++ data_of bytes true ∷ [])).layer.decisions - r.layer.decisions)
      reading_before

  pub layer_never_waits : ((table : List Row) (allowed : Allowed) (chunks : List Data) (given : Data) → (read_layer table allowed chunks).answer ≡ iw44.Done
      → read_layer table allowed (chunks ++ given ∷ []) ≡ read_chunk table allowed given (read_layer table allowed chunks).layer)
      → ((table : List Row) (allowed : Allowed) (bytes : List ℕ) (layer : Layer) → (read_chunk table allowed (data_of bytes true) layer).answer ≢ iw44.Need)
      → (reading_with o chunks bytes).answer ≡ iw44.Need → ⊥
  layer_never_waits last law e =
      chunk_never_waits table (allowed_on reads.layers limit) chunks bytes last law
      (sym (ap (λ (r : LayerReading). r.answer) reading_before) ∙ reads.lays.stands.done)
      (sym (ap (λ (r : LayerReading). r.answer) whole_reading) ∙ e)

  -- its picture fits on the page
  pub done_fits : (n : LayerState) → KeepsOpen step.ChunkDone o n → FitsPage n.page n.image.header
      → IsSome (reduction_of (reads.layers.width, reads.layers.height) ((picture_of n.image).width, (picture_of n.image).height))
  done_fits n keeps fits = raster_fits (reads.layers.width, reads.layers.height) n (keeps.page ∙ reads.page_is) (keeps.told refl) fits

  pub given_so : open_data o bytes ≡ data_of bytes true
  given_so = ap (λ c. data_of bytes (is_whole c)) reads.to_come_is

-- a foreground
pub front_closes : (o n : LayerState) (result : ChunkCame) (count : ℕ) (old new : Keeping) (table : List Row) (head : Head) (decoded : Decoded)
    (bytes : List ℕ) → ReadsLayer kind.Front (kind_of head.id) front_limit [] table decoded bytes 0 o → Keeps table decoded old
    → LayerAnswers step.ChunkDone [] bytes o n → KeepsOpen step.ChunkDone o n
    → HasLaid (layer.Front (Some (picture_of n.image))) count result old.layers new.layers → StaysBeside old new
    → Closes result count table head decoded (front_came decoded.layers table (data_of bytes true) decoded).outcome new
front_closes o n result count old new table head decoded bytes reads keeps told keeps_open laid stays =
    let layers : Layers = reads.layers in
    let given : Data = data_of bytes true in
    let pic : Picture = picture_of n.image in
    let whole = whole_reading kind.Front front_limit [] table head decoded bytes o reads in
    let r : LayerReading = read_layer table (allowed_on layers front_limit) (given ∷ []) in
    let is : r.answer ≡ iw44.Done = sym (ap (λ (x : LayerReading). x.answer) whole) ∙ told.0 in
    let same : picture_in r.layer ≡ pic = sym (ap (λ (x : LayerReading). picture_in x.layer) whole) ∙ told.1.1 in
    let leaves : (front_came decoded.layers table given decoded).outcome ≡ Leaves (with_front layers decoded pic) =
    ap (λ l. (front_came l table given decoded).outcome) reads.sized
    ∙ ap (λ a. layer_outcome a given (with_front layers decoded (picture_in r.layer))) is
    ∙ ap (λ p. Leaves (with_front layers decoded p)) same in
    laid_closes result (layer.Front (Some pic)) count old new table head decoded (with_front layers decoded pic)
    (front_came decoded.layers table given decoded).outcome layers laid (keeps.layers_are ∙ reads.sized)
    (done_fits kind.Front front_limit [] table head decoded bytes o reads n keeps_open told.1.0.fits) leaves refl
    (λ notice e now. keeps_beside table decoded old new layers (record layers { front = Some pic }) keeps stays reads.sized refl refl now)
    (ap brings_drawing reads.is_kind)

pub front_fails : (fault : FaultKind) (o : LayerState) (table : List Row) (head : Head) (decoded : Decoded) (bytes : List ℕ)
    → ReadsLayer kind.Front (kind_of head.id) front_limit [] table decoded bytes 0 o → (reading_with o [] bytes).answer ≡ iw44.Fault fault
    → (front_came decoded.layers table (data_of bytes true) decoded).outcome ≡ Fails fault
front_fails fault o table head decoded bytes reads e =
    let layers : Layers = reads.layers in
    let given : Data = data_of bytes true in
    let r : LayerReading = read_layer table (allowed_on layers front_limit) (given ∷ []) in
    let is : r.answer ≡ iw44.Fault fault =
    sym (ap (λ (x : LayerReading). x.answer) (whole_reading kind.Front front_limit [] table head decoded bytes o reads)) ∙ e in
    ap (λ l. (front_came l table given decoded).outcome) reads.sized
    ∙ ap (λ a. layer_outcome a given (with_front layers decoded (picture_in r.layer))) is

-- a chunk of the background
pub back_closes : (o n : LayerState) (result : ChunkCame) (count : ℕ) (old new : Keeping) (table : List Row) (head : Head) (decoded : Decoded)
    (bytes : List ℕ) → ReadsLayer kind.Back (kind_of head.id) back_limit decoded.back table decoded bytes 0 o → old.layers ≡ decoded.layers
    → old.own ≡ decoded.own → LayerAnswers step.ChunkDone decoded.back bytes o n → KeepsOpen step.ChunkDone o n
    → HasLaid (layer.Back (Some (picture_of n.image))) count result old.layers new.layers → new.own ≡ old.own
    → ((notice : Announced) → result ≡ came.Drew notice → new.back ≡ Some n)
    → Closes result count table head decoded (back_came decoded.layers table (data_of bytes true) decoded).outcome new
back_closes o n result count old new table head decoded bytes reads layers_are own_is told keeps_open laid own back =
    let layers : Layers = reads.layers in
    let given : Data = data_of bytes true in
    let pic : Picture = picture_of n.image in
    let whole = whole_reading kind.Back back_limit decoded.back table head decoded bytes o reads in
    let r : LayerReading = read_layer table (allowed_on layers back_limit) (decoded.back ++ given ∷ []) in
    let is : r.answer ≡ iw44.Done = sym (ap (λ (x : LayerReading). x.answer) whole) ∙ told.0 in
    let same : picture_in r.layer ≡ pic = sym (ap (λ (x : LayerReading). picture_in x.layer) whole) ∙ told.1.1 in
    let leaves : (back_came decoded.layers table given decoded).outcome ≡ Leaves (with_back layers given decoded pic) =
    ap (λ l. (back_came l table given decoded).outcome) reads.sized
    ∙ ap (λ a. layer_outcome a given (with_back layers given decoded (picture_in r.layer))) is
    ∙ ap (λ p. Leaves (with_back layers given decoded p)) same in
    let rests : Rests (decoded.back ++ given ∷ []) n =
    subst (λ (d : Data). Rests (decoded.back ++ d ∷ []) n) (given_so kind.Back back_limit decoded.back table head decoded bytes o reads) told.1.0 in
    let behind : IsBehind table (record layers { back = Some pic }) (decoded.back ++ given ∷ []) n = record {
      table_is = keeps_open.table ∙ reads.table_is;
      limit_is = keeps_open.limit ∙ reads.limit_is;
      page_is = keeps_open.page ∙ reads.page_is;
      rests = rests;
    } in
    laid_closes result (layer.Back (Some pic)) count old new table head decoded (with_back layers given decoded pic)
    (back_came decoded.layers table given decoded).outcome layers laid (layers_are ∙ reads.sized)
    (done_fits kind.Back back_limit decoded.back table head decoded bytes o reads n keeps_open told.1.0.fits) leaves refl
    (λ notice e now. record {
      layers_are = now;
      own_is = own ∙ own_is;
      background = subst (λ b. Background table (Some (record layers { back = Some pic })) (decoded.back ++ given ∷ []) b) (sym (back notice e)) behind;
    })
    (ap brings_drawing reads.is_kind)

pub some_of : {A : Type 0} (found : Option A) → IsSome found → (a : A) × (found ≡ Some a)
some_of (Some a) some = (a, refl)
some_of None some = absurd (let wrong : false ≡ true = some in cc)
