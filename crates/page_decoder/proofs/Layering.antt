-- Chunks of a layer whose size is judged once it is told: what the image answers is what the layer comes to.
use Rattle.std.proofs.Common.{◌≡◌, ◌≢◌, ℕ, ◌+◌, ◌-◌, ◌≤◌, Bool, true, false, Option, Some, None, List, [], ◌∷◌, ◌++◌, is_some, refl, sym, ap, ◌∙◌, subst, arith}
use Rattle.djvu_base.specs.declared.faults.FaultKind.{FaultKind}
use Rattle.djvu_base.specs.declared.faults.FaultKind.TheVariants as fault
use Rattle.djvu_base.specs.Meter.{TicksExactly}
use Rattle.djvu_base.proofs.Ticks.{ticks_both, ticks_none}
use Rattle.zp_table.specs.declared.rows.Row.{Row}
use Rattle.zp_table.specs.Rows.{IsTable}
use Rattle.iw44_image.specs.declared.headers.Header.{Header}
use Rattle.iw44_image.specs.Layer.{Data, Layer, LayerReading, Answer, Allowed, ends, any_size, data_of, read_chunk, read_layer}
use Rattle.iw44_image.specs.Layer as iw44
use Rattle.iw44_image.specs.declared.steps.IwStep.{IwStep}
use Rattle.iw44_image.specs.declared.steps.IwStep.TheVariants as iw
use Rattle.iw44_image.specs.Image.{Image, Holds, TellsSize, HasSize, TicksTo, is_whole, layer_of, open_after, Answers as IwAnswers}
use Rattle.layer_compose.specs.Reduction.{reduction_of}
use Rattle.page_decoder.specs.declared.layer_reader.LayerStep.{LayerStep}
use Rattle.page_decoder.specs.declared.layer_reader.LayerStep.TheVariants as step
use Rattle.page_decoder.specs.ChunkData.{allowed_by, picture_in}
use Rattle.page_decoder.specs.LayerState.{LayerState, reading_of, open_data, reading_with, FitsPage, Rests, StaysKnown, Stands, ReadsAll, Reads, KeepsOpen}

-- what this file takes from those below it
pub record Laws : Type 0 where
  pub last : (table : List Row) (allowed : Allowed) (chunks : List Data) (given : Data) → (read_layer table allowed chunks).answer ≡ iw44.Done
      → read_layer table allowed (chunks ++ given ∷ []) ≡ read_chunk table allowed given (read_layer table allowed chunks).layer
  pub decisions : (table : List Row) (allowed : Allowed) (chunks later : List Data) → IsTable table
      → (read_layer table allowed chunks).layer.decisions ≤ (read_layer table allowed (chunks ++ later)).layer.decisions
  pub later : (table : List Row) (allowed : Allowed) (given : Data) (layer : Layer) (header : Header) → layer.header ≡ Some header
      → read_chunk table allowed given layer ≡ read_chunk table (any_size allowed.area) given layer
  pub untold : (table : List Row) (allowed : Allowed) (given : Data) (layer : Layer) → layer.header ≡ None
      → (read_chunk table (any_size allowed.area) given layer).layer.header ≡ None
      → read_chunk table allowed given layer ≡ read_chunk table (any_size allowed.area) given layer
  pub taken : (table : List Row) (allowed : Allowed) (given : Data) (layer : Layer) (header : Header) → layer.header ≡ None
      → (read_chunk table (any_size allowed.area) given layer).layer.header ≡ Some header → allowed.fits header.width header.height ≡ true
      → read_chunk table allowed given layer ≡ read_chunk table (any_size allowed.area) given layer
  pub refused : (table : List Row) (allowed : Allowed) (given : Data) (layer : Layer) (header : Header) → layer.header ≡ None
      → (read_chunk table (any_size allowed.area) given layer).layer.header ≡ Some header → allowed.fits header.width header.height ≡ false
      → read_chunk table allowed given layer ≡ ends (iw44.Fault fault.LayerSize) layer

-- a reader goes on by the same table, limit and page
pub record Alike (o n : LayerState) : Type 0 where
  pub table : n.image.zp.table ≡ o.image.zp.table
  pub limit : n.image.limit ≡ o.image.limit
  pub page : n.page ≡ o.page

pub reading_same : (o n : LayerState) (chunks : List Data) → Alike o n → reading_of n chunks ≡ reading_of o chunks
reading_same o n chunks a =
    ap (λ t. read_layer t (allowed_by n.page n.image.limit) chunks) a.table
    ∙ ap (λ p. read_layer o.image.zp.table (allowed_by p n.image.limit) chunks) a.page
    ∙ ap (λ l. read_layer o.image.zp.table (allowed_by o.page l) chunks) a.limit

pub with_same : (o n : LayerState) (chunks : List Data) (bytes : List ℕ) → Alike o n → n.image.to_come ≡ o.image.to_come
    → reading_with n chunks bytes ≡ reading_with o chunks bytes
with_same o n chunks bytes a t =
    ap (λ c. reading_of n (chunks ++ data_of bytes (is_whole c) ∷ [])) t ∙ reading_same o n (chunks ++ open_data o bytes ∷ []) a

fits_same : (o n : LayerState) → n.page ≡ o.page → n.image.header ≡ o.image.header → FitsPage o.page o.image.header → FitsPage n.page n.image.header
fits_same o n p h f = subst (λ x. FitsPage x n.image.header) (sym p) (subst (FitsPage o.page) (sym h) f)

-- the open chunk as the image reads it, whatever its size
abbrev image_reading : LayerState → List Data → List ℕ → LayerReading
image_reading o chunks bytes = read_chunk o.image.zp.table (any_size o.image.limit) (open_data o bytes) (reading_of o chunks).layer

-- from one state of an open chunk to the next
pub stands_on : (o n : LayerState) (total now : ℕ) (chunks : List Data) (bytes : List ℕ) → Stands total chunks bytes o → Alike o n
    → n.image.header ≡ o.image.header → n.image.to_come ≡ o.image.to_come → total ≤ now → now ≤ (reading_with o chunks bytes).layer.decisions
    → Holds (reading_of o chunks).layer bytes now n.image → Stands now chunks bytes n
stands_on o n total now chunks bytes st a h t more most holds =
    let same : reading_of n chunks ≡ reading_of o chunks = reading_same o n chunks a in
    let all : reading_with n chunks bytes ≡ reading_with o chunks bytes = with_same o n chunks bytes a t in
    let before : (reading_of o chunks).layer.decisions ≤ now = omega (arith, st.since) in
    record {
      done = ap (λ (r : LayerReading). r.answer) same ∙ st.done;
      known = subst (λ (r : LayerReading). StaysKnown r.layer.header n.image.header) (sym same)
          (subst (StaysKnown (reading_of o chunks).layer.header) (sym h) st.known);
      fits = fits_same o n a.page h st.fits;
      since = subst (λ (r : LayerReading). r.layer.decisions ≤ now) (sym same) before;
      within = subst (λ (r : LayerReading). now ≤ r.layer.decisions) (sym all) most;
      holds = subst (λ (r : LayerReading). Holds r.layer bytes now n.image) (sym same) holds;
    }

unknown : (known now : Option Header) → StaysKnown known now → now ≡ None → known ≡ None
unknown None now s e = refl
unknown (Some header) now s e = cc

module _ (laws : Laws) where
  judged : (table : List Row) (page : ℕ × ℕ) (limit : ℕ) (given : Data) (layer : Layer) (known told : Option Header) → layer.header ≡ known
      → (read_chunk table (any_size limit) given layer).layer.header ≡ told → FitsPage page told
      → read_chunk table (allowed_by page limit) given layer ≡ read_chunk table (any_size limit) given layer
  judged table page limit given layer (Some header) told k t f = laws.later table (allowed_by page limit) given layer header k
  judged table page limit given layer None None k t f = laws.untold table (allowed_by page limit) given layer k t
  judged table page limit given layer None (Some header) k t f = laws.taken table (allowed_by page limit) given layer header k t f

  answered : (o n : LayerState) (total now : ℕ) (chunks : List Data) (bytes : List ℕ) (answer : Answer) → Stands total chunks bytes o
      → n.image.header ≡ o.image.header → image_reading o chunks bytes ≡ ends answer (layer_of n.image now)
      → reading_with o chunks bytes ≡ ends answer (layer_of n.image now)
  answered o n total now chunks bytes answer st h e =
      laws.last o.image.zp.table (allowed_by o.page o.image.limit) chunks (open_data o bytes) st.done
      ∙ judged o.image.zp.table o.page o.image.limit (open_data o bytes) (reading_of o chunks).layer (reading_of o chunks).layer.header n.image.header refl
      (ap (λ (r : LayerReading). r.layer.header) e) (subst (FitsPage o.page) (sym h) st.fits)
      ∙ e

  pub need_reads : (o n : LayerState) (total now : ℕ) (chunks : List Data) (bytes : List ℕ) → Stands total chunks bytes o → Alike o n
      → n.image.header ≡ o.image.header → n.image.to_come ≡ o.image.to_come → total ≤ now
      → image_reading o chunks bytes ≡ ends iw44.Need (layer_of n.image now) → Holds (reading_of o chunks).layer bytes now n.image
      → Reads step.NeedBytes now chunks bytes o n
  need_reads o n total now chunks bytes st a h t more e holds =
      let is : reading_with o chunks bytes ≡ ends iw44.Need (layer_of n.image now) = answered o n total now chunks bytes iw44.Need st h e in
      let count : (reading_with o chunks bytes).layer.decisions ≡ now = ap (λ (r : LayerReading). r.layer.decisions) is in
      let most : now ≤ (reading_with o chunks bytes).layer.decisions = omega (arith, count) in
      ((ap (λ (r : LayerReading). r.answer) is, count), stands_on o n total now chunks bytes st a h t more most holds)

  pub refused_reads : (o n : LayerState) (total now : ℕ) (kind : FaultKind) (chunks : List Data) (bytes : List ℕ) → Stands total chunks bytes o
      → n.image.header ≡ o.image.header → image_reading o chunks bytes ≡ ends (iw44.Fault kind) (layer_of n.image now)
      → Reads (step.Refused kind) now chunks bytes o n
  refused_reads o n total now kind chunks bytes st h e =
      let is = answered o n total now chunks bytes (iw44.Fault kind) st h e in
      (ap (λ (r : LayerReading). r.answer) is, ap (λ (r : LayerReading). r.layer.decisions) is)

  pub done_reads : (o n : LayerState) (total now : ℕ) (chunks : List Data) (bytes : List ℕ) → Stands total chunks bytes o → Alike o n
      → n.image.header ≡ o.image.header → image_reading o chunks bytes ≡ ends iw44.Done (layer_of n.image now)
      → Holds (layer_of n.image now) [] now n.image → Reads step.ChunkDone now chunks bytes o n
  done_reads o n total now chunks bytes st a h e holds =
      let is : reading_with o chunks bytes ≡ ends iw44.Done (layer_of n.image now) = answered o n total now chunks bytes iw44.Done st h e in
      let all : reading_of n (chunks ++ open_data o bytes ∷ []) ≡ ends iw44.Done (layer_of n.image now) =
      reading_same o n (chunks ++ open_data o bytes ∷ []) a ∙ is in
      let rests : Rests (chunks ++ open_data o bytes ∷ []) n = record {
        done = ap (λ (r : LayerReading). r.answer) all;
        known = ap (λ (r : LayerReading). r.layer.header) all;
        fits = fits_same o n a.page h st.fits;
        holds = subst (λ (r : LayerReading). Holds r.layer [] r.layer.decisions n.image) (sym all) holds;
      } in (
        (ap (λ (r : LayerReading). r.answer) is, ap (λ (r : LayerReading). r.layer.decisions) is),
        (rests, ap (λ (r : LayerReading). picture_in r.layer) is),
      )

  -- a size that was told first
  module _ (o n : LayerState) (width height total now : ℕ) (chunks : List Data) (bytes : List ℕ) (st : Stands total chunks bytes o)
      (size : HasSize width height o.image.header n.image.header)
      (tells : TellsSize width height (reading_of o chunks).layer bytes now o.image n.image) where
    first : (reading_of o chunks).layer.header ≡ None
    first = unknown (reading_of o chunks).layer.header o.image.header st.known size.first

    told : (image_reading o chunks bytes).layer.header ≡ Some size.header
    told = sym tells.known ∙ size.known

    judged_so : (fits : Bool) → is_some (reduction_of o.page (width, height)) ≡ fits
        → is_some (reduction_of o.page (size.header.width, size.header.height)) ≡ fits
    judged_so fits e =
        ap (λ w. is_some (reduction_of o.page (w, size.header.height))) size.width_is
        ∙ ap (λ h. is_some (reduction_of o.page (width, h))) size.height_is
        ∙ e

    pub misfit_reads : is_some (reduction_of o.page (width, height)) ≡ false → Reads (step.Refused fault.LayerSize) now chunks bytes o n
    misfit_reads e =
        let is : reading_with o chunks bytes ≡ ends (iw44.Fault fault.LayerSize) (reading_of o chunks).layer =
        laws.last o.image.zp.table (allowed_by o.page o.image.limit) chunks (open_data o bytes) st.done
        ∙ laws.refused o.image.zp.table (allowed_by o.page o.image.limit) (open_data o bytes) (reading_of o chunks).layer size.header first told
        (judged_so false e) in
        (ap (λ (r : LayerReading). r.answer) is, ap (λ (r : LayerReading). r.layer.decisions) is ∙ sym tells.none_read)

    pub sized_stands : is_some (reduction_of o.page (width, height)) ≡ true → IsTable o.image.zp.table → Alike o n
        → n.image.to_come ≡ o.image.to_come → Stands now chunks bytes n
    sized_stands e is a t =
        let same : reading_of n chunks ≡ reading_of o chunks = reading_same o n chunks a in
        let all : reading_with n chunks bytes ≡ reading_with o chunks bytes = with_same o n chunks bytes a t in
        let less = laws.decisions o.image.zp.table (allowed_by o.page o.image.limit) chunks (open_data o bytes ∷ []) is in
        let since : (reading_of o chunks).layer.decisions ≤ now = omega (arith, tells.none_read) in
        let within : now ≤ (reading_with o chunks bytes).layer.decisions = omega (arith, tells.none_read, less) in
        let fits : FitsPage o.page (Some size.header) = judged_so true e in
        record {
          done = ap (λ (r : LayerReading). r.answer) same ∙ st.done;
          known = subst (λ k. StaysKnown k n.image.header) (sym (ap (λ (r : LayerReading). r.layer.header) same ∙ first)) _;
          fits = subst (λ x. FitsPage x n.image.header) (sym a.page) (subst (FitsPage o.page) (sym size.known) fits);
          since = subst (λ (r : LayerReading). r.layer.decisions ≤ now) (sym same) since;
          within = subst (λ (r : LayerReading). now ≤ r.layer.decisions) (sym all) within;
          holds = subst (λ (r : LayerReading). Holds r.layer bytes now n.image) (sym same) tells.holds;
        }

-- where the open chunk is the same, so is what it comes to
pub reads_same : (result : LayerStep) (o m n : LayerState) (now : ℕ) (chunks : List Data) (bytes : List ℕ) → Alike o m
    → m.image.to_come ≡ o.image.to_come → Reads result now chunks bytes m n → Reads result now chunks bytes o n
reads_same step.ChunkDone o m n now chunks bytes a t reads =
    let all : reading_with m chunks bytes ≡ reading_with o chunks bytes = with_same o m chunks bytes a t in
    let given : open_data m bytes ≡ open_data o bytes = ap (λ c. data_of bytes (is_whole c)) t in (
      subst (λ r. ReadsAll now r iw44.Done) all reads.0,
      (subst (λ (d : Data). Rests (chunks ++ d ∷ []) n) given reads.1.0, ap (λ (r : LayerReading). picture_in r.layer) (sym all) ∙ reads.1.1),
    )
reads_same step.NeedBytes o m n now chunks bytes a t reads =
    (subst (λ r. ReadsAll now r iw44.Need) (with_same o m chunks bytes a t) reads.0, reads.1)
reads_same (step.Refused kind) o m n now chunks bytes a t reads = subst (λ r. ReadsAll now r (iw44.Fault kind)) (with_same o m chunks bytes a t) reads
reads_same step.OutOfMemory o m n now chunks bytes a t reads = reads

pub ticks_joined : (total now last a b c : ℕ) → TicksTo total now a b → TicksTo now last b c → TicksTo total last a c
ticks_joined total now last a b c first next =
    let sum : (now - total) + (last - now) ≡ last - total = omega (arith, first.more, next.more) in
    record {
      more = omega (arith, first.more, next.more);
      ticks = subst (λ t. TicksExactly t a c) sum (ticks_both (now - total) (last - now) a b c first.ticks next.ticks);
    }

pub ticks_still : (total count : ℕ) → TicksTo total total count count
ticks_still total count =
    let none : 0 ≡ total - total = omega arith in
    record { more = omega arith; ticks = subst (λ t. TicksExactly t count count) none (ticks_none count) }

pub keeps_both : (result : LayerStep) (o m n : LayerState) → m.image.to_come ≡ o.image.to_come → Alike o m → KeepsOpen result m n → KeepsOpen result o n
keeps_both result o m n t a k = record {
  whole = λ h. sym t ∙ k.whole h;
  closed = k.closed;
  told = k.told;
  still_open = λ h. k.still_open h ∙ t;
  table = k.table ∙ a.table;
  limit = k.limit ∙ a.limit;
  page = k.page ∙ a.page;
}

-- ---- what the image answers

-- whatever a reader stood for, what it read now is the definition's
abbrev pub ReadsOn : LayerStep → LayerState → LayerState → ℕ → ℕ → Type 0
ReadsOn result o n a b = (total : ℕ) (chunks : List Data) (bytes : List ℕ) → Stands total chunks bytes o
    → (now : ℕ) × (Reads result now chunks bytes o n × TicksTo total now a b)

abbrev pub step_of : IwStep → LayerStep
step_of (iw.Sized width height) = step.NeedBytes
step_of iw.ChunkDone = step.ChunkDone
step_of iw.NeedBytes = step.NeedBytes
step_of (iw.Refused kind) = step.Refused kind
step_of iw.OutOfMemory = step.OutOfMemory

abbrev pub TellsNoSize : IwStep → Type 0
TellsNoSize result = (width height : ℕ) → result ≢ iw.Sized width height

-- the image went on
pub record Advanced (result : IwStep) (o n : LayerState) (a b : ℕ) : Type 0 where
  pub answers : (layer : Layer) (bytes : List ℕ) (decisions : ℕ) → Holds layer bytes decisions o.image
      → (now : ℕ) × (IwAnswers result layer bytes now o.image n.image × TicksTo decisions now a b)
  pub memory : result ≡ iw.OutOfMemory → (n.image ≡ o.image) × (b ≡ a)
  pub to_come : n.image.to_come ≡ open_after result o.image.to_come
  pub header : TellsNoSize result → n.image.header ≡ o.image.header
  pub alike : Alike o n

module _ (laws : Laws) where
  pub image_reads : (result : IwStep) (o n : LayerState) (a b : ℕ) → Advanced result o n a b → TellsNoSize result → ReadsOn (step_of result) o n a b
  image_reads (iw.Sized width height) o n a b adv un total chunks bytes st = absurd (un width height refl)
  image_reads iw.ChunkDone o n a b adv un total chunks bytes st =
      let got = adv.answers (reading_of o chunks).layer bytes total st.holds in
      (got.0, (done_reads laws o n total got.0 chunks bytes st adv.alike (adv.header un) got.1.0.0 got.1.0.1, got.1.1))
  image_reads iw.NeedBytes o n a b adv un total chunks bytes st =
      let got = adv.answers (reading_of o chunks).layer bytes total st.holds in
      (got.0, (need_reads laws o n total got.0 chunks bytes st adv.alike (adv.header un) adv.to_come got.1.1.more got.1.0.0 got.1.0.1, got.1.1))
  image_reads (iw.Refused kind) o n a b adv un total chunks bytes st =
      let got = adv.answers (reading_of o chunks).layer bytes total st.holds in
      (got.0, (refused_reads laws o n total got.0 kind chunks bytes st (adv.header un) got.1.0.0, got.1.1))
  image_reads iw.OutOfMemory o n a b adv un total chunks bytes st =
      let m = adv.memory refl in
      let holds : Holds (reading_of o chunks).layer bytes total n.image =
      subst (λ (i : Image). Holds (reading_of o chunks).layer bytes total i) (sym m.0) st.holds in (
        total,
        (
          stands_on o n total total chunks bytes st adv.alike (adv.header un) adv.to_come (omega arith) st.within holds,
          subst (λ (count : ℕ). TicksTo total total a count) (sym m.1) (ticks_still total a),
        ),
      )

  pub misfit_on : (width height : ℕ) (o n : LayerState) (a b : ℕ) → Advanced (iw.Sized width height) o n a b
      → HasSize width height o.image.header n.image.header → is_some (reduction_of o.page (width, height)) ≡ false
      → ReadsOn (step.Refused fault.LayerSize) o n a b
  misfit_on width height o n a b adv size e total chunks bytes st =
      let got = adv.answers (reading_of o chunks).layer bytes total st.holds in
      (got.0, (misfit_reads laws o n width height total got.0 chunks bytes st size got.1.0 e, got.1.1))

  pub sized_on : (width height : ℕ) (result : LayerStep) (o m n : LayerState) (a b c : ℕ) → Advanced (iw.Sized width height) o m a b
      → HasSize width height o.image.header m.image.header → is_some (reduction_of o.page (width, height)) ≡ true → IsTable o.image.zp.table
      → ReadsOn result m n b c → ReadsOn result o n a c
  sized_on width height result o m n a b c adv size e is next total chunks bytes st =
      let got = adv.answers (reading_of o chunks).layer bytes total st.holds in
      let stands = sized_stands laws o m width height total got.0 chunks bytes st size got.1.0 e is adv.alike adv.to_come in
      let last = next got.0 chunks bytes stands in
      (last.0, (reads_same result o m n last.0 chunks bytes adv.alike adv.to_come last.1.0, ticks_joined total got.0 last.0 a b c got.1.1 last.1.1))
