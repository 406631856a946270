-- Decisions of the open chunk of a layer, and more bytes of it.
use Rattle.std.proofs.Common.{◌≡◌, ◌≢◌, ℕ, zero, suc, ◌+◌, ◌-◌, ◌≤◌, min, Bool, false, Option, Some, None, List, [], ◌∷◌, ◌++◌, length, refl, sym, ap, ◌∙◌, subst, append-nil, nat_eq, arith}
use Rattle.std.proofs.lemmas.Grind.{common_steps}
use Rattle.std.specs.Prelude.{Result, Ok, Err, OnOk}
use Rattle.djvu_base.specs.Meter.{ticked, TicksExactly}
use Rattle.djvu_base.proofs.Ticks.{ticked_more}
use Rattle.zp_table.specs.declared.rows.Row.{Row}
use Rattle.zp_table.specs.Rows.{IsTable}
use Rattle.iw44_image.specs.Layer.{Data, Layer, LayerReading, Allowed, data_of, read_layer}
use Rattle.iw44_image.specs.Image.{Holds, TicksTo, is_whole}
use Rattle.iw44_image.specs.Keeping.{HasRoom}
use Rattle.page_decoder.specs.declared.layer_reader.LayerStep.{LayerStep}
use Rattle.page_decoder.specs.declared.layer_reader.LayerStep.TheVariants as step
use Rattle.page_decoder.specs.ChunkData.{allowed_by}
use Rattle.page_decoder.specs.LayerState.{LayerState, reading_of, open_data, reading_with, decisions_with, FitsPage, StaysKnown, Stands, Lays, Reads, Answers, KeepsOpen}
use Rattle.page_decoder.proofs.Layering.{Alike, reading_same, with_same}

alike : (result : LayerStep) (o n : LayerState) → KeepsOpen result o n → Alike o n
alike result o n k = record { table = k.table; limit = k.limit; page = k.page }

-- a count that goes on from another one, both up to the same end
pub count_on : (before total now old own new : ℕ) → before ≤ total → total ≤ now → TicksExactly (total - before) 0 old → TicksExactly (now - total) 0 own
    → new ≡ min (old + own) 0xffff_ffff_ffff_ffff → TicksExactly (now - before) 0 new
count_on before total now old own new le more first next sum =
    let a : old ≡ min (total - before) 0xffff_ffff_ffff_ffff = grind (arith, common_steps, first) in
    let b : own ≡ min (now - total) 0xffff_ffff_ffff_ffff = grind (arith, common_steps, next) in
    let c : new ≡ min (now - before) 0xffff_ffff_ffff_ffff = omega (arith, a, b, sum, le, more) in
    grind (arith, common_steps, c)

-- what was read is at most what the bytes determine
pub now_most : (result : LayerStep) (o n : LayerState) (now : ℕ) (chunks : List Data) (bytes : List ℕ) → KeepsOpen result o n
    → Reads result now chunks bytes o n → now ≤ (reading_with o chunks bytes).layer.decisions
now_most step.ChunkDone o n now chunks bytes k reads = omega (arith, reads.0.1)
now_most step.NeedBytes o n now chunks bytes k reads = omega (arith, reads.0.1)
now_most (step.Refused kind) o n now chunks bytes k reads = omega (arith, reads.1)
now_most step.OutOfMemory o n now chunks bytes k reads =
    subst (λ (r : LayerReading). now ≤ r.layer.decisions)
    (with_same o n chunks bytes (alike step.OutOfMemory o n k) (k.still_open (λ h. cc))) reads.within

-- and it is that, unless there was no memory
pub now_all : (result : LayerStep) (o n : LayerState) (now : ℕ) (chunks : List Data) (bytes : List ℕ) → result ≢ step.OutOfMemory
    → Reads result now chunks bytes o n → (reading_with o chunks bytes).layer.decisions ≡ now
now_all step.ChunkDone o n now chunks bytes all reads = reads.0.1
now_all step.NeedBytes o n now chunks bytes all reads = reads.0.1
now_all (step.Refused kind) o n now chunks bytes all reads = reads.1
now_all step.OutOfMemory o n now chunks bytes all reads = absurd (all refl)

abbrev counting : LayerState → ℕ → LayerState
counting it count = record { image = it.image; page = it.page; decisions = count }

stands_still : (now count : ℕ) (chunks : List Data) (bytes : List ℕ) (n : LayerState) → Stands now chunks bytes n → Stands now chunks bytes (counting n count)
stands_still now count chunks bytes n st = record {
  done = st.done;
  known = st.known;
  fits = st.fits;
  since = st.since;
  within = st.within;
  holds = st.holds;
}

lays_on : (result : LayerStep) (o n : LayerState) (now count : ℕ) (chunks : List Data) (bytes : List ℕ) → KeepsOpen result o n
    → Stands now chunks bytes n → TicksExactly (now - (reading_of o chunks).layer.decisions) 0 count → Lays chunks bytes (counting n count)
lays_on result o n now count chunks bytes k st is = record {
  total = now;
  stands = stands_still now count chunks bytes n st;
  count = subst (λ (r : LayerReading). TicksExactly (now - r.layer.decisions) 0 count) (sym (reading_same o n chunks (alike result o n k))) is;
}

pub answers_on : (result : LayerStep) (o n : LayerState) (now count : ℕ) (chunks : List Data) (bytes : List ℕ) → KeepsOpen result o n
    → Reads result now chunks bytes o n → TicksExactly (now - (reading_of o chunks).layer.decisions) 0 count
    → Answers result chunks bytes o (counting n count)
answers_on step.ChunkDone o n now count chunks bytes k reads is =
    (reads.0.0, (record { done = reads.1.0.done; known = reads.1.0.known; fits = reads.1.0.fits; holds = reads.1.0.holds }, reads.1.1))
answers_on step.NeedBytes o n now count chunks bytes k reads is = (reads.0.0, lays_on step.NeedBytes o n now count chunks bytes k reads.1 is)
answers_on (step.Refused kind) o n now count chunks bytes k reads is = reads.0
answers_on step.OutOfMemory o n now count chunks bytes k reads is = lays_on step.OutOfMemory o n now count chunks bytes k reads is

-- what is told of an answer
pub record Tallied (result : LayerStep) (o n : LayerState) (count : ℕ) (chunks : List Data) (bytes : List ℕ) : Type 0 where
  pub answers : Answers result chunks bytes o (counting n count)
  pub all : result ≢ step.OutOfMemory → TicksExactly (decisions_with o chunks bytes) 0 count
  pub at_most : count ≤ ticked (decisions_with o chunks bytes) 0

pub tallied : (result : LayerStep) (o n : LayerState) (start own count : ℕ) (chunks : List Data) (bytes : List ℕ) (lays : Lays chunks bytes o)
    → KeepsOpen result o n → (now : ℕ) × (Reads result now chunks bytes o n × TicksTo lays.total now start own) → start ≡ 0
    → count ≡ min (o.decisions + own) 0xffff_ffff_ffff_ffff → Tallied result o n count chunks bytes
tallied result o n start own count chunks bytes lays k got new sum =
    let now : ℕ = got.0 in
    let before : ℕ = (reading_of o chunks).layer.decisions in
    let ticks : TicksExactly (now - lays.total) 0 own = subst (λ s. TicksExactly (now - lays.total) s own) new got.1.1.ticks in
    let is : TicksExactly (now - before) 0 count =
    count_on before lays.total now o.decisions own count lays.stands.since got.1.1.more lays.count ticks sum in
    let most = now_most result o n now chunks bytes k got.1.0 in
    let less : now - before ≤ decisions_with o chunks bytes = omega (arith, most) in
    record {
      answers = answers_on result o n now count chunks bytes k got.1.0 is;
      all = λ some. subst (λ d. TicksExactly (d - before) 0 count) (sym (now_all result o n now chunks bytes some got.1.0)) is;
      at_most = subst (λ (d : ℕ). d ≤ ticked (decisions_with o chunks bytes) 0) (sym is) (ticked_more (now - before) (decisions_with o chunks bytes) less);
    }

-- ---- more bytes

no_room : (piece : List ℕ) → length piece ≤ 0 → piece ≡ []
no_room [] le = refl
no_room (byte ∷ piece) le = absurd (omega arith)

-- what this file takes from those below it: with more bytes decisions don't fall
abbrev pub LayersGrow : Type 0
LayersGrow = (table : List Row) (allowed : Allowed) (chunks : List Data) (bytes more : List ℕ) (ended : Bool) → IsTable table
    → (read_layer table allowed (chunks ++ data_of bytes false ∷ [])).layer.decisions
    ≤ (read_layer table allowed (chunks ++ data_of (bytes ++ more) ended ∷ [])).layer.decisions

grown : (table : List Row) (allowed : Allowed) (chunks : List Data) (bytes piece : List ℕ) (left : ℕ) (to_come next : Option ℕ) → IsTable table
    → LayersGrow → to_come ≡ Some left → next ≡ Some (left - length piece) → length piece ≤ left
    → (read_layer table allowed (chunks ++ data_of bytes (is_whole to_come) ∷ [])).layer.decisions
    ≤ (read_layer table allowed (chunks ++ data_of (bytes ++ piece) (is_whole next) ∷ [])).layer.decisions
grown table allowed chunks bytes piece zero to_come next is law t n le =
    let none : piece ≡ [] = no_room piece le in
    let same : bytes ++ piece ≡ bytes = ap (λ p. bytes ++ p) none ∙ append-nil bytes in
    let still : next ≡ to_come = n ∙ ap Some (omega arith) ∙ sym t in
    let equal : (read_layer table allowed (chunks ++ data_of (bytes ++ piece) (is_whole next) ∷ [])).layer.decisions
    ≡ (read_layer table allowed (chunks ++ data_of bytes (is_whole to_come) ∷ [])).layer.decisions =
    ap (λ b. (read_layer table allowed (chunks ++ data_of b (is_whole next) ∷ [])).layer.decisions) same
    ∙ ap (λ w. (read_layer table allowed (chunks ++ data_of bytes (is_whole w) ∷ [])).layer.decisions) still in
    omega (arith, equal)
grown table allowed chunks bytes piece (suc left) to_come next is law t n le =
    let some : nat_eq (suc left) 0 ≡ false = grind (arith, common_steps) in
    let part : is_whole to_come ≡ false = ap is_whole t ∙ some in
    subst (λ w. (read_layer table allowed (chunks ++ data_of bytes w ∷ [])).layer.decisions
    ≤ (read_layer table allowed (chunks ++ data_of (bytes ++ piece) (is_whole next) ∷ [])).layer.decisions) (sym part)
    (law table allowed chunks bytes piece (is_whole next) is)

-- the image took more bytes of the open chunk
pub record Pushed (o n : LayerState) (piece : List ℕ) : Type 0 where
  pub alike : Alike o n
  pub header : n.image.header ≡ o.image.header
  pub decisions : n.decisions ≡ o.decisions
  pub room : HasRoom (length piece) o.image.to_come

pushed_on : (o n : LayerState) (piece : List ℕ) (chunks : List Data) (bytes : List ℕ) (left : ℕ) → Pushed o n piece → LayersGrow → IsTable o.image.zp.table
    → ((layer : Layer) (bytes : List ℕ) (decisions : ℕ) → Holds layer bytes decisions o.image → Holds layer (bytes ++ piece) decisions n.image)
    → o.image.to_come ≡ Some left → n.image.to_come ≡ Some (left - length piece) → length piece ≤ left
    → Lays chunks bytes o → Lays chunks (bytes ++ piece) n
pushed_on o n piece chunks bytes left p law is goes t next room lays =
    let same : reading_of n chunks ≡ reading_of o chunks = reading_same o n chunks p.alike in
    let more = grown o.image.zp.table (allowed_by o.page o.image.limit) chunks bytes piece left o.image.to_come n.image.to_come is law t next room in
    let most : lays.total ≤ (reading_of o (chunks ++ open_data n (bytes ++ piece) ∷ [])).layer.decisions = omega (arith, lays.stands.within, more) in
    record {
      total = lays.total;
      stands = record {
        done = ap (λ (r : LayerReading). r.answer) same ∙ lays.stands.done;
        known = subst (λ (r : LayerReading). StaysKnown r.layer.header n.image.header) (sym same)
            (subst (StaysKnown (reading_of o chunks).layer.header) (sym p.header) lays.stands.known);
        fits = subst (λ x. FitsPage x n.image.header) (sym p.alike.page) (subst (FitsPage o.page) (sym p.header) lays.stands.fits);
        since = subst (λ (r : LayerReading). r.layer.decisions ≤ lays.total) (sym same) lays.stands.since;
        within = subst (λ (r : LayerReading). lays.total ≤ r.layer.decisions)
            (sym (reading_same o n (chunks ++ open_data n (bytes ++ piece) ∷ []) p.alike)) most;
        holds = subst (λ (r : LayerReading). Holds r.layer (bytes ++ piece) lays.total n.image) (sym same)
            (goes (reading_of o chunks).layer bytes lays.total lays.stands.holds);
      };
      count = subst (λ (r : LayerReading). TicksExactly (lays.total - r.layer.decisions) 0 n.decisions) (sym same)
          (subst (λ (d : ℕ). TicksExactly (lays.total - (reading_of o chunks).layer.decisions) 0 d) (sym p.decisions) lays.count);
    }

room_by : (o n : LayerState) (piece : List ℕ) (chunks : List Data) (bytes : List ℕ) (to_come : Option ℕ) → Pushed o n piece → LayersGrow
    → IsTable o.image.zp.table
    → ((layer : Layer) (bytes : List ℕ) (decisions : ℕ) → Holds layer bytes decisions o.image → Holds layer (bytes ++ piece) decisions n.image)
    → ((left : ℕ) → o.image.to_come ≡ Some left → n.image.to_come ≡ Some (left - length piece)) → o.image.to_come ≡ to_come
    → HasRoom (length piece) to_come → Lays chunks bytes o → Lays chunks (bytes ++ piece) n
room_by o n piece chunks bytes None p law is goes next t room lays = absurd room
room_by o n piece chunks bytes (Some left) p law is goes next t room lays =
    pushed_on o n piece chunks bytes left p law is goes t (next left t) room lays

pub push_lays : {T E : Type 0} (result : Result T E) (o n : LayerState) (piece : List ℕ) → Pushed o n piece → LayersGrow → IsTable o.image.zp.table
    → OnOk result ((layer : Layer) (bytes : List ℕ) (decisions : ℕ) → Holds layer bytes decisions o.image → Holds layer (bytes ++ piece) decisions n.image)
    → OnOk result ((left : ℕ) → o.image.to_come ≡ Some left → n.image.to_come ≡ Some (left - length piece))
    → OnOk result ((chunks : List Data) (bytes : List ℕ) → Lays chunks bytes o → Lays chunks (bytes ++ piece) n)
push_lays (Ok given) o n piece p law is goes next =
    λ chunks bytes lays. room_by o n piece chunks bytes o.image.to_come p law is goes next refl p.room lays
push_lays (Err given) o n piece p law is goes next = goes
