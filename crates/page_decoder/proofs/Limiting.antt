-- A page has at most 259 drawings: those of its INFO, mask and foreground, and of 256 chunks of its background, whose numbers are bytes.
use Rattle.std.proofs.Common.{◌≡◌, ◌<◌, ◌≤◌, ℕ, zero, suc, ◌+◌, ◌-◌, true, false, Option, Some, None, List, [], ◌∷◌, ◌++◌, length, refl, sym, ap, ◌∙◌, subst, arith}
use Rattle.std.specs.List.{AllByRecursion}
use Rattle.std.specs.Prelude.{nat_lt}
use Rattle.std.proofs.lemmas.Bool.{and_parts, ltb-true}
use Rattle.std.proofs.lemmas.List.{length-append}
use Rattle.std.proofs.lemmas.List.Folds.{list_all-append}
use Rattle.djvu_base.specs.declared.faults.FaultKind.{FaultKind}
use Rattle.djvu_base.specs.declared.faults.FaultKind.TheVariants as fault
use Rattle.iff_chunks.specs.Chunks.{Form, Chunk, Tail, form_word, chunks_of}
use Rattle.iff_chunks.specs.Events.{events_of}
use Rattle.iff_chunks.specs.Order.{AtForm, InOrder}
use Rattle.iff_chunks.specs.Layout.{Laid, AtEnd, TooShort, Beginning, NoId, TooLong, DataArriving, PadMissing, Padded, Unpadded, IsLaidForm}
use Rattle.zp_table.specs.declared.rows.Row.{Row}
use Rattle.iw44_image.specs.Layer.{Data, Allowed, read_layer, read_chunk}
use Rattle.iw44_image.specs.Layer as iw44
use Rattle.layer_compose.specs.declared.layers.Layers.{Layers}
use Rattle.include_graph.specs.Verdicts.{number_of}
use Rattle.page_decoder.specs.Reading.{mask_in}
use Rattle.page_decoder.specs.Kinds.{ChunkKind, kind_of}
use Rattle.page_decoder.specs.Kinds as kind
use Rattle.page_decoder.specs.Given.{Page, Home, Known, Given}
use Rattle.page_decoder.specs.PageRead.{Ending, Decoded, Left, at_start}
use Rattle.page_decoder.specs.Headers.{Head, front_in, second, first_fault, later_fault, page_fault, header_fault}
use Rattle.page_decoder.specs.ChunkData.{Leaves, back_limit, allowed_on, came, came_by}
use Rattle.page_decoder.specs.Acts.{acts_of, close_in}
use Rattle.page_decoder.specs.Read.{drawing_by, read}
use Rattle.page_decoder.specs.Needs.{are_bytes}
use Rattle.page_decoder.proofs.Leaving.{Brings, brings}
use Rattle.page_decoder.proofs.Serials.{begins_so, counts_so}
use Rattle.page_decoder.proofs.Ruling.{Rules, IsComplete, acts_fine, from_holds, any_include, any_includes}

-- the data of chunks are bytes of the file

bytes_parts : (xs ys : List ℕ) → are_bytes (xs ++ ys) ≡ true → (are_bytes xs ≡ true) × (are_bytes ys ≡ true)
bytes_parts xs ys e = and_parts (are_bytes xs) (are_bytes ys) (sym (list_all-append (λ byte. nat_lt byte 256) xs ys) ∙ e)

abbrev pub HasBytes : Chunk → Type 0
HasBytes chunk = are_bytes chunk.bytes ≡ true

laid_bytes : (offset left : ℕ) (chunks : List Chunk) (tail : Tail) (bytes : List ℕ) → Laid offset left chunks tail bytes → are_bytes bytes ≡ true
    → AllByRecursion HasBytes chunks
laid_bytes _ _ _ _ _ (AtEnd offset bytes) all = tt
laid_bytes _ _ _ _ _ (TooShort offset left bytes some few) all = tt
laid_bytes _ _ _ _ _ (Beginning offset left bytes room few) all = tt
laid_bytes _ _ _ _ _ (NoId offset left size header id more room h e) all = tt
laid_bytes _ _ _ _ _ (TooLong offset left size header id more room h e over) all = tt
laid_bytes _ _ _ _ _ (DataArriving offset left chunk header begun short) all = tt
laid_bytes _ _ _ _ _ (PadMissing offset left chunk header begun sized e) all = ((bytes_parts header chunk.bytes all).1, tt)
laid_bytes _ _ _ _ _ (Padded offset left chunk header pad chunks tail after begun sized e on) all =
    let both = bytes_parts chunk.bytes (pad ∷ after) (bytes_parts header (chunk.bytes ++ (pad ∷ after)) all).1 in
    (both.0, laid_bytes _ _ _ _ _ on (and_parts (nat_lt pad 256) (are_bytes after) both.1).1)
laid_bytes _ _ _ _ _ (Unpadded offset left chunk header chunks tail after begun sized e on) all =
    let both = bytes_parts chunk.bytes after (bytes_parts header (chunk.bytes ++ after) all).1 in (both.0, laid_bytes _ _ _ _ _ on both.1)

form_bytes : (bytes : List ℕ) (form : Form) (whole : List Chunk) (tail : Tail) → IsLaidForm bytes form whole tail → are_bytes bytes ≡ true
    → AllByRecursion HasBytes whole
form_bytes bytes form whole tail laid all =
    let named = bytes_parts laid.prefix (form_word ++ (laid.number ++ (form.kind ++ laid.after))) (subst (λ b. are_bytes b ≡ true) laid.same all) in
    let sized = bytes_parts form_word (laid.number ++ (form.kind ++ laid.after)) named.1 in
    let kinds = bytes_parts laid.number (form.kind ++ laid.after) sized.1 in
    laid_bytes (form.offset + 12) (form.size - 4) whole tail laid.after laid.body (bytes_parts form.kind laid.after kinds.1).1

none_there : (whole : List Chunk) (tail : Tail) → InOrder AtForm (events_of (record { form = None; whole = whole; tail = tail }))
    → AllByRecursion HasBytes whole
none_there [] tail order = tt
none_there (chunk ∷ whole) tail order = absurd order

-- the laws of the container
abbrev pub FormIsLaid : Type 0
FormIsLaid = (bytes : List ℕ) (form : Form) → (chunks_of bytes).form ≡ Some form → IsLaidForm bytes form (chunks_of bytes).whole (chunks_of bytes).tail

abbrev pub EventsInOrder : Type 0
EventsInOrder = (bytes : List ℕ) → InOrder AtForm (events_of (chunks_of bytes))

pub whole_bytes : FormIsLaid → EventsInOrder → (bytes : List ℕ) → are_bytes bytes ≡ true → AllByRecursion HasBytes (chunks_of bytes).whole
whole_bytes laid order bytes all = by (chunks_of bytes).form refl
  where
    by : (form : Option Form) → (chunks_of bytes).form ≡ form → AllByRecursion HasBytes (chunks_of bytes).whole
    by (Some form) e = form_bytes bytes form (chunks_of bytes).whole (chunks_of bytes).tail (laid bytes form e) all
    by None e = none_there (chunks_of bytes).whole (chunks_of bytes).tail
        (subst (λ f. InOrder AtForm (events_of (record { form = f; whole = (chunks_of bytes).whole; tail = (chunks_of bytes).tail }))) e (order bytes))

-- what a complete chunk's data are
abbrev pub Fine : Head → Data → Type 0
Fine head given = given.ended ≡ true → are_bytes given.bytes ≡ true

pub bytes_fine : (whole : List Chunk) → AllByRecursion HasBytes whole → AllByRecursion (IsComplete Fine) whole
bytes_fine [] all = tt
bytes_fine (chunk ∷ whole) all = (λ ended. all.0, bytes_fine whole all.1)

-- ---- counts

abbrev some_count : {A : Type 0} → Option A → ℕ
some_count None = 0
some_count (Some x) = 1

abbrev shown : Decoded → ℕ
shown decoded = some_count decoded.layers + some_count (mask_in decoded.layers) + some_count (front_in decoded.layers) + length decoded.back

-- the background was read so far
abbrev BackSo : List Row → Layers → List Data → Type 0
BackSo table layers back =
    ((read_layer table (allowed_on layers back_limit) back).answer ≡ iw44.Done)
    × ((read_layer table (allowed_on layers back_limit) back).layer.chunks ≡ length back)

record Counts (table : List Row) (decoded : Decoded) (count : ℕ) : Type 0 where
  bare : decoded.layers ≡ None → decoded.back ≡ []
  told : count ≤ shown decoded
  few : length decoded.back ≤ 256
  back : (layers : Layers) → decoded.layers ≡ Some layers → BackSo table layers decoded.back

-- what a header says of what was left before it, where it is right
abbrev pub KindSo : ChunkKind → ℕ → Option Layers → Type 0
KindSo kind.Info chunks layers = chunks ≡ 0
KindSo kind.Mask chunks layers = mask_in layers ≡ None
KindSo kind.Front chunks layers = front_in layers ≡ None
KindSo other chunks layers = Unit {0}

second_none : {A : Type 0} (kind : FaultKind) (earlier : Option A) → second kind earlier ≡ None → earlier ≡ None
second_none kind None e = refl
second_none kind (Some x) e = let wrong : Some kind ≡ None = e in absurd (cc)

first_so : (of : ChunkKind) (size : ℕ) (decoded : Decoded) → first_fault of size ≡ None → KindSo of 0 decoded.layers
first_so kind.Info size decoded e = refl
first_so kind.Include size decoded e = tt
first_so kind.Dictionary size decoded e = tt
first_so kind.Mask size decoded e = let wrong : Some fault.NoInfo ≡ None = e in absurd (cc)
first_so kind.Front size decoded e = let wrong : Some fault.NoInfo ≡ None = e in absurd (cc)
first_so kind.Back size decoded e = tt
first_so kind.Refused size decoded e = tt
first_so kind.Passed size decoded e = tt

later_so : (of : ChunkKind) (chunks : ℕ) (decoded : Decoded) → later_fault decoded of ≡ None → KindSo of chunks decoded.layers
later_so kind.Info chunks decoded e = let wrong : Some fault.SecondInfo ≡ None = e in absurd (cc)
later_so kind.Include chunks decoded e = tt
later_so kind.Dictionary chunks decoded e = tt
later_so kind.Mask chunks decoded e = second_none fault.SecondMask (mask_in decoded.layers) e
later_so kind.Front chunks decoded e = second_none fault.SecondFront (front_in decoded.layers) e
later_so kind.Back chunks decoded e = tt
later_so kind.Refused chunks decoded e = tt
later_so kind.Passed chunks decoded e = tt

pub kind_so : (chunks : ℕ) (decoded : Decoded) (head : Head) → page_fault chunks decoded head ≡ None → KindSo (kind_of head.id) chunks decoded.layers
kind_so zero decoded head e = first_so (kind_of head.id) head.size decoded e
kind_so (suc chunks) decoded head e = later_so (kind_of head.id) (suc chunks) decoded e

-- the law of layers, for the last chunk
abbrev pub LastChunk : Type 0
LastChunk = (table : List Row) (allowed : Allowed) (chunks : List Data) (given : Data) → (read_layer table allowed chunks).answer ≡ iw44.Done
    → read_layer table allowed (chunks ++ given ∷ []) ≡ read_chunk table allowed given (read_layer table allowed chunks).layer

pub layers_are : (a b : Layers) → Some a ≡ Some b → a ≡ b
layers_are a b e = let same : Some a ≡ Some b = e in cc

module _ (table : List Row) (last : LastChunk) where
  -- a chunk of the background that is done
  back_on : (layers : Layers) (back : List Data) (given : Data) → BackSo table layers back → are_bytes given.bytes ≡ true
      → (read_layer table (allowed_on layers back_limit) (back ++ given ∷ [])).answer ≡ iw44.Done → BackSo table layers (back ++ given ∷ [])
      × (length back < 256)
  back_on layers back given before bytes done =
      let allowed = allowed_on layers back_limit in
      let layer = (read_layer table allowed back).layer in
      let is = last table allowed back given before.0 in
      let now : (read_chunk table allowed given layer).answer ≡ iw44.Done = subst (λ (r : iw44.LayerReading). r.answer ≡ iw44.Done) is done in
      let begins = begins_so table allowed given layer now in
      let first : nat_lt layer.chunks 256 ≡ true =
      (and_parts (nat_lt layer.chunks 256) (are_bytes begins.0) (subst (λ b. are_bytes b ≡ true) begins.1 bytes)).0 in
      let below : layer.chunks < 256 = ltb-true layer.chunks 256 first in
      let number = before.1 in
      let counted = ap (λ (r : iw44.LayerReading). r.layer.chunks) is ∙ counts_so table allowed given layer now in
      let more : length (back ++ given ∷ []) ≡ length back + 1 = length-append back (given ∷ []) in
      ((done, counted ∙ ap (λ n. n + 1) number ∙ sym more), subst (λ n. n < 256) number below)

  counts_on : (of : ChunkKind) (given : Data) (offset chunks number decisions count : ℕ) (before after : Decoded) → Brings of table given offset before after
      → KindSo of chunks before.layers → (chunks ≡ 0 → before.layers ≡ None) → (given.ended ≡ true → are_bytes given.bytes ≡ true) → Counts table before count
      → Counts table after (count + length (drawing_by of number decisions after.layers))
  counts_on kind.Info given offset chunks number decisions count before after b k none bytes i =
      let empty = none k in
      let bare = i.bare empty in
      let told : count ≤ 0 + 0 + 0 + length before.back =
      subst (λ l. count ≤ some_count l + some_count (mask_in l) + some_count (front_in l) + length before.back) empty i.told in
      subst (λ d. Counts table d (count + length (drawing_by kind.Info number decisions d.layers))) (sym b.3) (record {
        bare = λ e. absurd (cc);
        told = omega (arith, told);
        few = i.few;
        back = λ layers e. subst (λ back. BackSo table layers back) (sym bare) (refl, refl);
      })
  counts_on kind.Mask given offset chunks number decisions count before after b k none bytes i =
      let layers = b.0 in
      let first : some_count layers.mask ≡ 0 = ap some_count (ap mask_in (sym b.2) ∙ k) in
      let told : count ≤ 1 + some_count layers.mask + some_count layers.front + length before.back =
      subst (λ l. count ≤ some_count l + some_count (mask_in l) + some_count (front_in l) + length before.back) b.2 i.told in
      let back = i.back layers b.2 in
      subst (λ d. Counts table d (count + length (drawing_by kind.Mask number decisions d.layers))) (sym b.3) (record {
        bare = λ e. absurd (cc);
        told = omega (arith, told, first);
        few = i.few;
        back = λ now e. subst (λ l. BackSo table l before.back) (layers_are _ now e) back;
      })
  counts_on kind.Front given offset chunks number decisions count before after b k none bytes i =
      let layers = b.0 in
      let first : some_count layers.front ≡ 0 = ap some_count (ap front_in (sym b.2) ∙ k) in
      let told : count ≤ 1 + some_count layers.mask + some_count layers.front + length before.back =
      subst (λ l. count ≤ some_count l + some_count (mask_in l) + some_count (front_in l) + length before.back) b.2 i.told in
      let back = i.back layers b.2 in
      subst (λ d. Counts table d (count + length (drawing_by kind.Front number decisions d.layers))) (sym b.3) (record {
        bare = λ e. absurd (cc);
        told = omega (arith, told, first);
        few = i.few;
        back = λ now e. subst (λ l. BackSo table l before.back) (layers_are _ now e) back;
      })
  counts_on kind.Back given offset chunks number decisions count before after b k none bytes i =
      let layers = b.0 in
      let told : count ≤ 1 + some_count layers.mask + some_count layers.front + length before.back =
      subst (λ l. count ≤ some_count l + some_count (mask_in l) + some_count (front_in l) + length before.back) b.2 i.told in
      let next = back_on layers before.back given (i.back layers b.2) (bytes b.5) b.3 in
      let few = next.1 in
      let more : length (before.back ++ given ∷ []) ≡ length before.back + 1 = length-append before.back (given ∷ []) in
      subst (λ d. Counts table d (count + length (drawing_by kind.Back number decisions d.layers))) (sym b.4) (record {
        bare = λ e. absurd (cc);
        told = omega (arith, told, more);
        few = omega (arith, few, more);
        back = λ now e. subst (λ l. BackSo table l (before.back ++ given ∷ [])) (layers_are _ now e) next.0;
      })
  counts_on kind.Include given offset chunks number decisions count before after b k none bytes i =
      subst (λ d. Counts table d (count + 0)) (sym b.3) (record { bare = i.bare; told = omega (arith, i.told); few = i.few; back = i.back })
  counts_on kind.Dictionary given offset chunks number decisions count before after b k none bytes i =
      subst (λ d. Counts table d (count + 0)) (sym b.1) (record { bare = i.bare; told = omega (arith, i.told); few = i.few; back = i.back })
  counts_on kind.Refused given offset chunks number decisions count before after b k none bytes i =
      subst (λ d. Counts table d (count + 0)) (sym b) (record { bare = i.bare; told = omega (arith, i.told); few = i.few; back = i.back })
  counts_on kind.Passed given offset chunks number decisions count before after b k none bytes i =
      subst (λ d. Counts table d (count + 0)) (sym b) (record { bare = i.bare; told = omega (arith, i.told); few = i.few; back = i.back })

-- between chunks, and behind the header of one

record Limited (home : Home) (at : Option Head) (left : Left) : Type 0 where
  none : left.chunks ≡ 0 → left.decoded.layers ≡ None
  counts : Counts home.table left.decoded (length left.told.drawings)
  kind : (head : Head) → at ≡ Some head → KindSo (kind_of head.id) left.chunks left.decoded.layers

abbrev IsLimited : Home → Option Head → Left → Type 0
IsLimited home at left = home.role ≡ Page → Limited home at left

abbrev AtMost : Home → Left → Ending → Type 0
AtMost home left end = home.role ≡ Page → length left.told.drawings ≤ 259

option_most : {A : Type 0} (it : Option A) → some_count it ≤ 1
option_most None = omega arith
option_most (Some x) = omega arith

most : (home : Home) (at : Option Head) (left : Left) → IsLimited home at left → home.role ≡ Page → length left.told.drawings ≤ 259
most home at left i page =
    let it = (i page).counts in
    let layers = option_most left.decoded.layers in
    let mask = option_most (mask_in left.decoded.layers) in
    let front = option_most (front_in left.decoded.layers) in
    omega (arith, it.told, it.few, layers, mask, front)

pub begun : (home : Home) (head : Head) (left : Left) → header_fault home.role left head ≡ None → home.role ≡ Page → (other : Head) → Some head ≡ Some other
    → KindSo (kind_of other.id) left.chunks left.decoded.layers
begun home head left e page other s =
    let same : head ≡ other = cc in
    subst (λ (h : Head). KindSo (kind_of h.id) left.chunks left.decoded.layers) same
    (kind_so left.chunks left.decoded head (subst (λ r. header_fault r left head ≡ None) page e))

chunk_limited : (home : Home) → LastChunk → (head : Head) (given : Data) (decoded : Decoded) (left : Left) (decisions : ℕ) → Fine head given
    → (came_by (kind_of head.id) home.table given head.offset left.decoded).outcome ≡ Leaves decoded → Limited home (Some head) left
    → Counts home.table decoded (length (left.told.drawings ++ drawing_by (kind_of head.id) (suc left.chunks) decisions decoded.layers))
chunk_limited home last head given decoded left decisions f e i =
    subst (λ n. Counts home.table decoded n)
    (sym (length-append left.told.drawings (drawing_by (kind_of head.id) (suc left.chunks) decisions decoded.layers)))
    (counts_on home.table last (kind_of head.id) given head.offset left.chunks (suc left.chunks) decisions (length left.told.drawings) left.decoded decoded
    (brings (kind_of head.id) home.table given head.offset left.decoded decoded e) (i.kind head refl) i.none f i.counts)

rules : (home : Home) (known : Known) → LastChunk → Rules home known Fine any_include (IsLimited home) (AtMost home)
rules home known last = record {
  begins = λ head left e i page. record { none = (i page).none; counts = (i page).counts; kind = begun home head left e page };
  chunk = λ head given decoded left f e i page. record {
    none = λ n. absurd (cc);
    counts = chunk_limited home last head given decoded left (left.told.decisions + (came home.table head given left.decoded).decisions) f e (i page);
    kind = λ other none. absurd (cc);
  };
  part = λ head n left i page. record { none = (i page).none; counts = (i page).counts; kind = λ other none. absurd (cc) };
  wrong = λ head n kind offset left i page. most home (Some head) left i page;
  pending = λ at left i. any_includes left.decoded.pending;
  reaches = λ at left file it e i page. record { none = (i page).none; counts = (i page).counts; kind = (i page).kind };
  inherits = λ at found left i page. record {
    none = (i page).none;
    counts =
        record { bare = (i page).counts.bare; told = (i page).counts.told; few = (i page).counts.few; back = (i page).counts.back };
    kind = (i page).kind;
  };
  none_left = λ at left i page. record {
    none = (i page).none;
    counts =
        record { bare = (i page).counts.bare; told = (i page).counts.told; few = (i page).counts.few; back = (i page).counts.back };
    kind = (i page).kind;
  };
  unknown = λ at left file u i page. most home at left i page;
  lacks = λ at left file next n i page. most home at left i page;
  graph_fault = λ at left target fault b v i page. most home at left i page;
  file_fault = λ at left file fault target before others below v e i page. most home at left i page;
  own_fault = λ at kind offset left i page. most home at left i page;
  finishes = λ left some i page. most home None left i page;
}

pub at_most : (given : Given) → ((name : List ℕ) (target : ℕ) → number_of name given.home.names ≡ Some target → target < length given.home.names) → LastChunk
    → AllByRecursion HasBytes (chunks_of given.bytes).whole → given.home.role ≡ Page → length (read given).left.told.drawings ≤ 259
at_most given below last all =
    from_holds given.home given.known Fine any_include (IsLimited given.home) (AtMost given.home) (rules given.home given.known last) below
    (close_in given.mark given.bytes)
    (λ w left i page. most given.home None left i page) (acts_of (chunks_of given.bytes)) at_start
    (acts_fine Fine (chunks_of given.bytes) (bytes_fine (chunks_of given.bytes).whole all) (λ chunk ended. let wrong : false ≡ true = ended in absurd (cc)))
    (λ page. record {
      none = λ n. refl;
      counts = record { bare = λ e. refl; told = omega arith; few = omega arith; back = λ layers e. absurd (cc) };
      kind = λ head none. absurd (cc);
    })
