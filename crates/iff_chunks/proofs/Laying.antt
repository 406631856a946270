-- A file's bytes are its FORM's head, its chunks and its tail, one behind the other.
use Rattle.std.proofs.Common.{◌≡◌, ◌≢◌, ℕ, ◌+◌, ◌-◌, ◌≤◌, zero, suc, Bool, true, false, cond, Option, Some, None, List, [], ◌∷◌, ◌++◌, inl, inr, length, take, drop, eqb, ltb, refl, sym, ap, ◌∙◌, subst, arith, append_assoc}
use Rattle.std.specs.List.{list_all}
use Rattle.std.proofs.lemmas.Bool.{eqb-true, eqb-false, ltb-true, ltb-false}
use Rattle.std.proofs.lemmas.List.{append-nil, length-drop, length-take-le, drop-drop, take-append-drop}
use Rattle.byteorder.specs.Endian.{big_number}
use Rattle.djvu_base.specs.declared.faults.FaultKind.{FaultKind}
use Rattle.djvu_base.specs.declared.faults.FaultKind.TheVariants.{NotForm, TooLarge, ShortHeader, BadId, Overrun}
use Rattle.djvu_base.specs.Library.{file_limit}
use Rattle.iff_chunks.specs.Start.{Start, Begins, Arriving, Differs, start_of}
use Rattle.iff_chunks.specs.Chunks.{Form, Chunk, Chunks, Rest, Tail, Stops, Has, On, InHeader, InData, FormEnd, Broken, found_so, whole_header, header_at, behind_data, pad_at, is_padded, is_id_byte, InPad, chunks_from, rest_at, in_head, in_form, kind_at, length_fault, size_at, whole_length, length_at, magic, form_word, form_at, after_magic, chunks_of}
use Rattle.iff_chunks.specs.Layout.{IsNumber, IsHeader, IsBegun, left_after, Laid, AtEnd, TooShort, Beginning, NoId, TooLong, DataArriving, PadMissing, Padded, Unpadded, IsPrefix, IsLaidForm}

abbrev LaidRest : ℕ → ℕ → Rest → List ℕ → Type 0
LaidRest offset left rest bytes = Laid offset left rest.whole rest.tail bytes

-- what goes on from a place is laid out from there
abbrev LaysUpTo : ℕ → (ℕ → ℕ → List ℕ → Rest) → Type 0
LaysUpTo most next = (offset left : ℕ) (bytes : List ℕ) → left ≤ most → LaidRest offset left (next offset left bytes) bytes

-- a whole chunk, and what stands after its data
has_laid : (most : ℕ) (next : ℕ → ℕ → List ℕ → Rest) → LaysUpTo most next → (header : List ℕ) (offset left : ℕ) (chunk : Chunk) (after : List ℕ)
    → IsBegun offset left chunk header → length chunk.bytes ≡ chunk.size → left ≤ suc most
    → (t : Bool) → is_padded chunk.size (left_after left chunk) ≡ t
    → LaidRest offset left (found_so next
    (Has chunk (cond t (pad_at offset (offset + 9 + chunk.size) (left_after left chunk) after) (On (offset + 8 + chunk.size) (left_after left chunk) after))))
    (header ++ (chunk.bytes ++ after))
has_laid most next lays header offset left chunk after begun sized few false e =
    let room = begun.room in
    let rest = next (offset + 8 + chunk.size) (left_after left chunk) after in
    Unpadded offset left chunk header rest.whole rest.tail after begun sized e
    (lays (offset + 8 + chunk.size) (left_after left chunk) after (omega (arith, room)))
has_laid most next lays header offset left chunk [] begun sized few true e =
    subst (λ b. Laid offset left (chunk ∷ []) (InPad offset (eqb (left_after left chunk) 1)) (header ++ b)) (sym (append-nil chunk.bytes))
    (PadMissing offset left chunk header begun sized e)
has_laid most next lays header offset left chunk (p ∷ after) begun sized few true e =
    let room = begun.room in
    let rest = next (offset + 9 + chunk.size) (left_after left chunk - 1) after in
    Padded offset left chunk header p rest.whole rest.tail after begun sized e
    (lays (offset + 9 + chunk.size) (left_after left chunk - 1) after (omega (arith, room)))

data_laid : (most : ℕ) (next : ℕ → ℕ → List ℕ → Rest) → LaysUpTo most next → (id header : List ℕ) (offset size left : ℕ) (bytes : List ℕ)
    → IsHeader header id size → list_all is_id_byte id ≡ true → size ≤ left - 8 → 8 ≤ left → left ≤ suc most
    → (few : Bool) → ltb (length bytes) size ≡ few
    → LaidRest offset left (found_so next
    (cond few (Stops (InData (record { id = id; offset = offset; size = size; bytes = bytes })))
    (Has (record { id = id; offset = offset; size = size; bytes = take size bytes }) (behind_data offset size (left - 8 - size) (drop size bytes)))))
    (header ++ bytes)
data_laid most next lays id header offset size left bytes is_header named fits room less true e =
    DataArriving offset left (record { id = id; offset = offset; size = size; bytes = bytes }) header
    (record { place = refl; is_header = is_header; printable = named; room = omega arith }) (ltb-true _ _ e)
data_laid most next lays id header offset size left bytes is_header named fits room less false e =
    let chunk : Chunk = record { id = id; offset = offset; size = size; bytes = take size bytes } in
    subst (λ b. LaidRest offset left (found_so next (Has chunk (behind_data offset size (left - 8 - size) (drop size bytes)))) (header ++ b))
    (take-append-drop size bytes)
    (has_laid most next lays header offset left chunk (drop size bytes) (record { place = refl; is_header = is_header; printable = named; room = omega arith })
    (length-take-le size bytes (ltb-false _ _ e)) less (is_padded size (left - 8 - size)) refl)

header_laid : (most : ℕ) (next : ℕ → ℕ → List ℕ → Rest) → LaysUpTo most next → (id header : List ℕ) (offset size left : ℕ) (bytes : List ℕ)
    → IsHeader header id size → 8 ≤ left → left ≤ suc most
    → (named over : Bool) → list_all is_id_byte id ≡ named → ltb (left - 8) size ≡ over
    → LaidRest offset left (found_so next (header_at (cond named (cond over (Some Overrun) None) (Some BadId)) id offset size (left - 8) bytes))
    (header ++ bytes)
header_laid most next lays id header offset size left bytes is_header room less false over n o = NoId offset left size header id bytes room is_header n
header_laid most next lays id header offset size left bytes is_header room less true true n o =
    TooLong offset left size header id bytes room is_header n (ltb-true _ _ o)
header_laid most next lays id header offset size left bytes is_header room less true false n o =
    data_laid most next lays id header offset size left bytes is_header n (ltb-false _ _ o) room less (ltb (length bytes) size) refl

split_header : (bytes : List ℕ) → bytes ≡ (take 4 bytes ++ take 4 (drop 4 bytes)) ++ drop 8 bytes
split_header bytes =
    sym (take-append-drop 4 bytes)
    ∙ ap (λ l. take 4 bytes ++ l) (sym (take-append-drop 4 (drop 4 bytes)))
    ∙ ap (λ l. take 4 bytes ++ (take 4 (drop 4 bytes) ++ l)) (drop-drop 4 4 bytes)
    ∙ sym (append_assoc (take 4 bytes) (take 4 (drop 4 bytes)) (drop 8 bytes))

found_laid : (most : ℕ) (next : ℕ → ℕ → List ℕ → Rest) → LaysUpTo most next → (offset left : ℕ) (bytes : List ℕ) → left ≤ suc most → (ended short few : Bool)
    → eqb left 0 ≡ ended → ltb left 8 ≡ short → ltb (length bytes) 8 ≡ few
    → LaidRest offset left (found_so next
    (cond ended (Stops FormEnd) (cond short (Stops (Broken ShortHeader offset))
    (cond few (Stops (InHeader offset bytes)) (whole_header (take 4 bytes) offset (big_number 4 (take 4 (drop 4 bytes))) (left - 8) (drop 8 bytes)))))) bytes
found_laid most next lays offset left bytes less true short few z s f =
    subst (λ n. Laid offset n [] FormEnd bytes) (sym (eqb-true left 0 z)) (AtEnd offset bytes)
found_laid most next lays offset left bytes less false true few z s f =
    let some : left ≢ 0 = eqb-false left 0 z in TooShort offset left bytes (omega arith) (ltb-true _ _ s)
found_laid most next lays offset left bytes less false false true z s f = Beginning offset left bytes (ltb-false _ _ s) (ltb-true _ _ f)
found_laid most next lays offset left bytes less false false false z s f =
    let id = take 4 bytes in
    let number = take 4 (drop 4 bytes) in
    let size = big_number 4 number in
    let enough : 8 ≤ length bytes = ltb-false _ _ f in
    subst (λ b. LaidRest offset left (found_so next (whole_header id offset size (left - 8) (drop 8 bytes))) b) (sym (split_header bytes))
    (header_laid most next lays id (id ++ number) offset size left (drop 8 bytes)
    (record {
      four = length-take-le 4 bytes (omega arith);
      number = number;
      is_size = record { four = length-take-le 4 (drop 4 bytes) (omega (arith, length-drop 4 bytes)); value = refl };
      same = refl;
    })
    (ltb-false _ _ s) less (list_all is_id_byte id) (ltb (left - 8) size) refl refl)

from_laid : (most : ℕ) → LaysUpTo most (chunks_from most)
from_laid zero = λ offset left bytes less. let none : 0 ≡ left = omega arith in subst (λ n. Laid offset n [] FormEnd bytes) none (AtEnd offset bytes)
from_laid (suc most) =
    λ offset left bytes less. found_laid most (chunks_from most) (from_laid most) offset left bytes less (eqb left 0) (ltb left 8) (ltb (length bytes) 8) refl
    refl refl

-- the head

-- where a first byte is compared
compared : {A : Type 0} (w b : ℕ) (s found : Start) (t : Bool) → eqb w b ≡ t → cond t s Differs ≡ found → (Differs ≡ found → ⊥) → (w ≡ b → s ≡ found → A) → A
compared w b s found true e h other same = same (eqb-true w b e) h
compared w b s found false e h other same = absurd (other h)

pub begins_so : (wanted bytes rest : List ℕ) → start_of wanted bytes ≡ Begins rest → bytes ≡ wanted ++ rest
begins_so [] bytes rest e = cc
begins_so (w ∷ wanted) [] rest e = cc
begins_so (w ∷ wanted) (b ∷ bytes) rest e =
    compared w b (start_of wanted bytes) (Begins rest) (eqb w b) refl e (λ d. cc)
    (λ same s. ap (λ x. x ∷ bytes) (sym same) ∙ ap (λ l. w ∷ l) (begins_so wanted bytes rest s))

-- the bytes behind the FORM's word
pub record IsLaidHead (bytes : List ℕ) (offset : ℕ) (form : Form) (chunks : List Chunk) (tail : Tail) : Type 0 where
  pub place : form.offset ≡ offset
  pub number : List ℕ
  pub after : List ℕ
  pub is_size : IsNumber number form.size
  pub four : length form.kind ≡ 4
  pub room : 4 ≤ form.size
  pub within : form.offset + 8 + form.size ≤ file_limit
  pub same : bytes ≡ number ++ (form.kind ++ after)
  pub body : Laid (form.offset + 12) (form.size - 4) chunks tail after

-- the FORM's length has no fault
length_fits : (offset size : ℕ) → (small large : Bool) → ltb size 4 ≡ small → ltb file_limit (offset + 8 + size) ≡ large
    → cond small (Some NotForm) (cond large (Some TooLarge) None) ≡ None → (4 ≤ size) × (offset + 8 + size ≤ file_limit)
length_fits offset size true large a b e = cc
length_fits offset size false true a b e = cc
length_fits offset size false false a b e = (ltb-false _ _ a, ltb-false _ _ b)

kind_laid : (offset size : ℕ) (bytes number all : List ℕ) (form : Form) → IsNumber number size → 4 ≤ size → offset + 8 + size ≤ file_limit
    → all ≡ number ++ bytes
    → (few : Bool) → ltb (length bytes) 4 ≡ few
    → (chunks : Chunks) → cond few in_head
    (in_form (record { offset = offset; kind = take 4 bytes; size = size }) (rest_at (offset + 12) (size - 4) (drop 4 bytes))) ≡ chunks
    → chunks.form ≡ Some form → IsLaidHead all offset form chunks.whole chunks.tail
kind_laid offset size bytes number all form is_size room within same true f chunks c e = let none : None ≡ Some form = ap (λ x. x.form) c ∙ e in cc
kind_laid offset size bytes number all form is_size room within same false f chunks c e =
    let here : Form = record { offset = offset; kind = take 4 bytes; size = size } in
    let rest = rest_at (offset + 12) (size - 4) (drop 4 bytes) in
    let some : Some here ≡ Some form = ap (λ x. x.form) c ∙ e in
    let is : here ≡ form = cc in
    subst (λ (x : Chunks). IsLaidHead all offset form x.whole x.tail) c
    (subst (λ x. IsLaidHead all offset x rest.whole rest.tail) is (record {
      place = refl;
      number = number;
      after = drop 4 bytes;
      is_size = is_size;
      four = length-take-le 4 bytes (ltb-false _ _ f);
      room = room;
      within = within;
      same = same ∙ ap (λ b. number ++ b) (sym (take-append-drop 4 bytes));
      body = from_laid (size - 4) (offset + 12) (size - 4) (drop 4 bytes) (omega arith);
    }))

size_laid : (offset size : ℕ) (bytes number all : List ℕ) (form : Form) → IsNumber number size → all ≡ number ++ bytes → (fault : Option FaultKind)
    → length_fault offset size ≡ fault
    → (size_at fault offset size bytes).form ≡ Some form
    → IsLaidHead all offset form (size_at fault offset size bytes).whole (size_at fault offset size bytes).tail
size_laid offset size bytes number all form is_size same (Some kind) f e = cc
size_laid offset size bytes number all form is_size same None f e =
    let fits = length_fits offset size (ltb size 4) (ltb file_limit (offset + 8 + size)) refl refl f in
    kind_laid offset size bytes number all form is_size fits.0 fits.1 same (ltb (length bytes) 4) refl (kind_at offset size bytes) refl e

length_laid : (offset : ℕ) (bytes : List ℕ) (form : Form) (few : Bool) → ltb (length bytes) 4 ≡ few → (chunks : Chunks)
    → cond few in_head (whole_length offset (big_number 4 (take 4 bytes)) (drop 4 bytes)) ≡ chunks → chunks.form ≡ Some form
    → IsLaidHead bytes offset form chunks.whole chunks.tail
length_laid offset bytes form true f chunks c e = let none : None ≡ Some form = ap (λ x. x.form) c ∙ e in cc
length_laid offset bytes form false f chunks c e =
    let size = big_number 4 (take 4 bytes) in
    subst (λ (x : Chunks). IsLaidHead bytes offset form x.whole x.tail) c
    (size_laid offset size (drop 4 bytes) (take 4 bytes) bytes form (record { four = length-take-le 4 bytes (ltb-false _ _ f); value = refl })
    (sym (take-append-drop 4 bytes)) (length_fault offset size) refl (ap (λ x. x.form) c ∙ e))

-- with what stands before the FORM
with_prefix : (prefix bytes rest : List ℕ) (form : Form) (chunks : List Chunk) (tail : Tail) → IsPrefix prefix → bytes ≡ prefix ++ (form_word ++ rest)
    → IsLaidHead rest (length prefix) form chunks tail → IsLaidForm bytes form chunks tail
with_prefix prefix bytes rest form chunks tail leads same head = record {
  prefix = prefix;
  place = head.place;
  number = head.number;
  after = head.after;
  may_lead = leads;
  is_size = head.is_size;
  four = head.four;
  room = head.room;
  within = head.within;
  same = same ∙ ap (λ r. prefix ++ (form_word ++ r)) head.same;
  body = head.body;
}

word_laid : (prefix bytes behind : List ℕ) (form : Form) → IsPrefix prefix → bytes ≡ prefix ++ behind → (start : Start) → start_of form_word behind ≡ start
    → (form_at (length prefix) start).form ≡ Some form → IsLaidForm bytes form (form_at (length prefix) start).whole (form_at (length prefix) start).tail
word_laid prefix bytes behind form leads same (Begins rest) s e =
    with_prefix prefix bytes rest form (length_at (length prefix) rest).whole (length_at (length prefix) rest).tail leads
    (same ∙ ap (λ b. prefix ++ b) (begins_so form_word behind rest s))
    (length_laid (length prefix) rest form (ltb (length rest) 4) refl (length_at (length prefix) rest) refl e)
word_laid prefix bytes behind form leads same Arriving s e = cc
word_laid prefix bytes behind form leads same Differs s e = cc

magic_laid : (bytes : List ℕ) (form : Form) (start : Start) → start_of magic bytes ≡ start → (after_magic start bytes).form ≡ Some form
    → IsLaidForm bytes form (after_magic start bytes).whole (after_magic start bytes).tail
magic_laid bytes form (Begins rest) s e = word_laid magic bytes rest form (inr refl) (begins_so magic bytes rest s) (start_of form_word rest) refl e
magic_laid bytes form Arriving s e = cc
magic_laid bytes form Differs s e = word_laid [] bytes bytes form (inl refl) refl (start_of form_word bytes) refl e

pub form_laid : (bytes : List ℕ) (form : Form) → (chunks_of bytes).form ≡ Some form → IsLaidForm bytes form (chunks_of bytes).whole (chunks_of bytes).tail
form_laid bytes form e = magic_laid bytes form (start_of magic bytes) refl e
