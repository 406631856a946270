-- Plain pages: what both of their definitions say of a chunk, by its header and its data.
use Rattle.std.proofs.Common.{◌≡◌, ◌≢◌, ℕ, Bool, true, false, not, cond, ◌&&◌, ◌||◌, leb, Option, Some, None, is_some, unwrap_or, ◌⊎◌, inl, inr, List, [], length, codes, bytes_eq, slice_get, refl, sym, ap, ◌∙◌, subst}
use Rattle.std.proofs.lemmas.Slice.Eq.{bytes_eq-Decides}
use Rattle.djvu_base.specs.declared.faults.FaultKind.{FaultKind}
use Rattle.djvu_base.specs.declared.faults.FaultKind.TheVariants as fault
use Rattle.djvu_base.specs.declared.turns.Turn.TheVariants.{Upright}
use Rattle.djvu_base.specs.Turn.{turn_of}
use Rattle.zp_table.specs.declared.rows.Row.{Row}
use Rattle.zp_table.specs.Rows.{IsTable}
use Rattle.bit_plane.specs.Pixels.{Pixels}
use Rattle.jb2_records.specs.declared.purpose.Purpose.TheVariants as purpose
use Rattle.jb2_records.specs.declared.reader.Jb2Step.{Jb2Step}
use Rattle.jb2_records.specs.declared.reader.Jb2Step.TheVariants as records
use Rattle.jb2_records.specs.Reading as jb2
use Rattle.jb2_records.specs.Mask.{mask_drawn}
use Rattle.iw44_image.specs.Layer.{data_of}
use Rattle.layer_compose.specs.declared.layers.Layers.{Layers}
use Rattle.page_decoder.specs.Kinds.{ChunkKind, kind_of}
use Rattle.page_decoder.specs.Kinds as kind
use Rattle.page_decoder.specs.Reading as short
use Rattle.page_decoder.specs.PageRead.{Decoded, or_else, in_force}
use Rattle.page_decoder.specs.Headers.{first_fault, second, later_fault}
use Rattle.page_decoder.specs.ChunkData.{Outcome, Leaves, Unfinished, Fails, Came, once_complete, with_layers, sized, records_in, records_outcome, mask_came, came_by}
use Rattle.page_decoder.specs.Read.{read}
use Rattle.page_decoder.specs.Plain.{IsPlainKind}

-- ---- kinds and identifiers

abbrev kind_by : (info include dictionary mask front back refused : Bool) → ChunkKind
kind_by info include dictionary mask front back refused =
    cond info kind.Info (cond include kind.Include (cond dictionary kind.Dictionary (cond mask kind.Mask
    (cond front kind.Front (cond back kind.Back (cond refused kind.Refused kind.Passed))))))

info_so : (info include dictionary mask front back refused : Bool) → kind_by info include dictionary mask front back refused ≡ kind.Info → info ≡ true
info_so true include dictionary mask front back refused e = refl
info_so false true dictionary mask front back refused e = absurd (cc)
info_so false false true mask front back refused e = absurd (cc)
info_so false false false true front back refused e = absurd (cc)
info_so false false false false true back refused e = absurd (cc)
info_so false false false false false true refused e = absurd (cc)
info_so false false false false false false true e = absurd (cc)
info_so false false false false false false false e = absurd (cc)

mask_so : (info include dictionary mask front back refused : Bool) → kind_by info include dictionary mask front back refused ≡ kind.Mask → mask ≡ true
mask_so true include dictionary mask front back refused e = absurd (cc)
mask_so false true dictionary mask front back refused e = absurd (cc)
mask_so false false true mask front back refused e = absurd (cc)
mask_so false false false true front back refused e = refl
mask_so false false false false true back refused e = absurd (cc)
mask_so false false false false false true refused e = absurd (cc)
mask_so false false false false false false true e = absurd (cc)
mask_so false false false false false false false e = absurd (cc)

-- neither a size nor a mask, refused or not
pub record IsOther (info include dictionary mask front back refused is_refused : Bool) : Type 0 where
  pub no_info : info ≡ false
  pub no_include : include ≡ false
  pub no_dictionary : dictionary ≡ false
  pub no_mask : mask ≡ false
  pub no_front : front ≡ false
  pub no_back : back ≡ false
  pub so : refused ≡ is_refused

pub refused_so : (info include dictionary mask front back refused : Bool) → kind_by info include dictionary mask front back refused ≡ kind.Refused
    → IsOther info include dictionary mask front back refused true
refused_so true include dictionary mask front back refused e = absurd (cc)
refused_so false true dictionary mask front back refused e = absurd (cc)
refused_so false false true mask front back refused e = absurd (cc)
refused_so false false false true front back refused e = absurd (cc)
refused_so false false false false true back refused e = absurd (cc)
refused_so false false false false false true refused e = absurd (cc)
refused_so false false false false false false true e =
    record { no_info = refl; no_include = refl; no_dictionary = refl; no_mask = refl; no_front = refl; no_back = refl; so = refl }
refused_so false false false false false false false e = absurd (cc)

pub passed_so : (info include dictionary mask front back refused : Bool) → kind_by info include dictionary mask front back refused ≡ kind.Passed
    → IsOther info include dictionary mask front back refused false
passed_so true include dictionary mask front back refused e = absurd (cc)
passed_so false true dictionary mask front back refused e = absurd (cc)
passed_so false false true mask front back refused e = absurd (cc)
passed_so false false false true front back refused e = absurd (cc)
passed_so false false false false true back refused e = absurd (cc)
passed_so false false false false false true refused e = absurd (cc)
passed_so false false false false false false true e = absurd (cc)
passed_so false false false false false false false e =
    record { no_info = refl; no_include = refl; no_dictionary = refl; no_mask = refl; no_front = refl; no_back = refl; so = refl }

module _ (id : List ℕ) where
  pub info_id : kind_of id ≡ kind.Info → id ≡ codes "INFO"
  info_id e = (bytes_eq-Decides id (codes "INFO")).0 (info_so _ _ _ _ _ _ _ e)

  pub mask_id : kind_of id ≡ kind.Mask → id ≡ codes "Sjbz"
  mask_id e = (bytes_eq-Decides id (codes "Sjbz")).0 (mask_so _ _ _ _ _ _ _ e)

-- ---- headers

abbrev header_by : (is_first has_mask info unread mask brief : Bool) → Option FaultKind
header_by is_first has_mask info unread mask brief =
    cond (is_first && not info) (Some fault.NoInfo)
    (cond (not is_first && info) (Some fault.SecondInfo)
    (cond unread (Some fault.Unsupported) (cond (mask && has_mask) (Some fault.SecondMask) (cond (info && brief) (Some fault.BadInfo) None))))

abbrev unread_by : (refused include dictionary front back : Bool) → Bool
unread_by refused include dictionary front back = refused || (include || (dictionary || (front || (back || false))))

first_other : (info unread mask brief : Bool) → info ≡ false → header_by true false info unread mask brief ≡ Some fault.NoInfo
first_other false unread mask brief e = refl
first_other true unread mask brief e = absurd (cc)

pub first_header : (of : ChunkKind) (id : List ℕ) (size : ℕ) → kind_of id ≡ of → IsPlainKind of → short.header_fault true false id size ≡ first_fault of size
first_header kind.Info id size e plain = subst (λ i. short.header_fault true false i size ≡ first_fault kind.Info size) (sym (info_id id e)) refl
first_header kind.Include id size e plain = absurd plain
first_header kind.Dictionary id size e plain = absurd plain
first_header kind.Mask id size e plain = subst (λ i. short.header_fault true false i size ≡ Some fault.NoInfo) (sym (mask_id id e)) refl
first_header kind.Front id size e plain = absurd plain
first_header kind.Back id size e plain = absurd plain
first_header kind.Refused id size e plain = first_other _ _ _ _ (refused_so _ _ _ _ _ _ _ e).no_info
first_header kind.Passed id size e plain = first_other _ _ _ _ (passed_so _ _ _ _ _ _ _ e).no_info

later_unread : (has_mask info include dictionary mask front back refused brief is_refused : Bool)
    → IsOther info include dictionary mask front back refused is_refused
    → header_by false has_mask info (unread_by refused include dictionary front back) mask brief ≡ cond is_refused (Some fault.Unsupported) None
later_unread has_mask false false false false false false false brief false other = refl
later_unread has_mask false include dictionary mask front back true brief true other = refl
later_unread has_mask false include dictionary mask front back true brief false other = absurd (let e = other.so in cc)
later_unread has_mask false include dictionary mask front back false brief true other = absurd (let e = other.so in cc)
later_unread has_mask false true dictionary mask front back false brief false other = absurd (let e = other.no_include in cc)
later_unread has_mask false false true mask front back false brief false other = absurd (let e = other.no_dictionary in cc)
later_unread has_mask false false false true front back false brief false other = absurd (let e = other.no_mask in cc)
later_unread has_mask false false false false true back false brief false other = absurd (let e = other.no_front in cc)
later_unread has_mask false false false false false true false brief false other = absurd (let e = other.no_back in cc)
later_unread has_mask true include dictionary mask front back refused brief is_refused other = absurd (let e = other.no_info in cc)

second_mask : (mask found : Option Pixels) → found ≡ mask → cond (is_some mask) (Some fault.SecondMask) None ≡ second fault.SecondMask found
second_mask None None e = refl
second_mask (Some mask) (Some found) e = refl
second_mask None (Some found) e = absurd (cc)
second_mask (Some mask) None e = absurd (cc)

pub later_header : (of : ChunkKind) (id : List ℕ) (size : ℕ) (layers : Layers) (decoded : Decoded) → kind_of id ≡ of → IsPlainKind of
    → decoded.layers ≡ Some layers → short.header_fault false (is_some layers.mask) id size ≡ later_fault decoded of
later_header kind.Info id size layers decoded e plain l =
    subst (λ i. short.header_fault false (is_some layers.mask) i size ≡ Some fault.SecondInfo) (sym (info_id id e)) refl
later_header kind.Include id size layers decoded e plain l = absurd plain
later_header kind.Dictionary id size layers decoded e plain l = absurd plain
later_header kind.Mask id size layers decoded e plain l =
    subst (λ i. short.header_fault false (is_some layers.mask) i size ≡ second fault.SecondMask (short.mask_in decoded.layers)) (sym (mask_id id e))
    (second_mask layers.mask (short.mask_in decoded.layers) (ap short.mask_in l))
later_header kind.Front id size layers decoded e plain l = absurd plain
later_header kind.Back id size layers decoded e plain l = absurd plain
later_header kind.Refused id size layers decoded e plain l = later_unread _ _ _ _ _ _ _ _ _ true (refused_so _ _ _ _ _ _ _ e)
later_header kind.Passed id size layers decoded e plain l = later_unread _ _ _ _ _ _ _ _ _ false (passed_so _ _ _ _ _ _ _ e)

-- ---- data

-- data that come to the same, behind chunks that left this
pub data Agrees (ended : Bool) (decoded : Decoded) : Option FaultKind → Option Layers → Outcome → Type 0 where
  fails : (kind : FaultKind) (layers : Option Layers) → Agrees ended decoded (Some kind) layers (Fails kind)
  leaves : (layers : Layers) → ended ≡ true → Agrees ended decoded None (Some layers) (Leaves (record decoded { layers = Some layers }))
  unfinished : (layers : Option Layers) → ended ≡ false → Agrees ended decoded None layers Unfinished

pub record SameData (ended : Bool) (decoded : Decoded) (it : short.Came) (new : Came) : Type 0 where
  pub agrees : Agrees ended decoded it.fault it.layers new.outcome
  pub decisions : new.decisions ≡ it.decisions

-- nothing is read of a chunk that is passed over

passed_over : (ended : Bool) (bytes : List ℕ) (layers : Layers) (decoded : Decoded) → decoded.layers ≡ Some layers
    → Agrees ended decoded None (Some layers) (once_complete (data_of bytes ended) decoded)
passed_over true bytes layers decoded l =
    subst (λ (found : Option Layers). Agrees true decoded None (Some layers) (Leaves (record decoded { layers = found }))) (sym l) (leaves layers refl)
passed_over false bytes layers decoded l = unfinished (Some layers) refl

nothing_by : (info mask : Bool) (a b : short.Came) (layers : Option Layers) → info ≡ false → mask ≡ false
    → cond info a (cond mask b (short.nothing_came layers)) ≡ short.nothing_came layers
nothing_by false false a b layers e f = refl
nothing_by true mask a b layers e f = absurd (cc)
nothing_by false true a b layers e f = absurd (cc)

-- the size of the page

info_data : (enough ended : Bool) (bytes : List ℕ) (decoded : Decoded) → leb 4 (length bytes) ≡ enough → (ended ≡ true → enough ≡ true)
    → decoded.layers ≡ None → turn_of (slice_get bytes 9) ≡ Upright ⊎ (ended ≡ false)
    → SameData ended decoded (cond enough (short.size_came None (short.size_fault (short.size_in bytes)) (short.size_in bytes)) (short.nothing_came None))
    (record { outcome = cond enough (sized (short.size_fault (short.size_in bytes)) (data_of bytes ended) decoded) Unfinished; decisions = 0 })
info_data false true bytes decoded h all none up = absurd (let e = all refl in cc)
info_data false false bytes decoded h all none up = record { agrees = unfinished None refl; decisions = refl }
info_data true ended bytes decoded h all none up = by (short.size_fault (short.size_in bytes)) ended up
  where
    by : (f : Option FaultKind) (ended : Bool) → turn_of (slice_get bytes 9) ≡ Upright ⊎ (ended ≡ false)
        → SameData ended decoded (short.size_came None f (short.size_in bytes)) (record { outcome = sized f (data_of bytes ended) decoded; decisions = 0 })
    by (Some kind) ended up = record { agrees = fails kind None; decisions = refl }
    by None false up = record { agrees = unfinished (Some (short.blank_page (short.size_in bytes))) refl; decisions = refl }
    by None true (inl up) =
        record {
          agrees = subst (λ t. Agrees true decoded None (Some (short.blank_page (short.size_in bytes)))
              (Leaves (with_layers (record (short.blank_page (short.size_in bytes)) { turn = t }) decoded))) (sym up)
              (leaves (short.blank_page (short.size_in bytes)) refl);
          decisions = refl;
        }
    by None true (inr e) = absurd (cc)

-- a mask

mask_data : (answer : Jb2Step) (layers : Layers) (mask : Pixels) (n : ℕ) (ended : Bool) (bytes : List ℕ) (decoded : Decoded)
    → (ended ≡ true → answer ≢ records.NeedBytes) → answer ≢ records.OutOfMemory
    → SameData ended decoded (short.mask_by answer layers mask n)
    (record { outcome = records_outcome answer (data_of bytes ended) (with_layers (short.with_mask layers mask) decoded); decisions = n })
mask_data records.Finished layers mask n true bytes decoded some memory =
    record { agrees = leaves (short.with_mask layers mask) refl; decisions = refl }
mask_data records.Finished layers mask n false bytes decoded some memory =
    record { agrees = unfinished (Some (short.with_mask layers mask)) refl; decisions = refl }
mask_data records.NeedBytes layers mask n true bytes decoded some memory = absurd (some refl refl)
mask_data records.NeedBytes layers mask n false bytes decoded some memory = record { agrees = unfinished (Some layers) refl; decisions = refl }
mask_data (records.Refused kind) layers mask n ended bytes decoded some memory = record { agrees = fails kind (Some layers); decisions = refl }
mask_data records.OutOfMemory layers mask n ended bytes decoded some memory = absurd (memory refl)

-- the laws of records
pub record RecordsEnd : Type 0 where
  pub ended : (input : jb2.Input) → IsTable input.chunk.table → input.chunk.ended ≡ true → (jb2.records_of input).answer ≢ records.NeedBytes
  pub memory : (input : jb2.Input) → (jb2.records_of input).answer ≢ records.OutOfMemory

-- what plain chunks leave: no dictionary, and no include that is pending
pub record IsBare (decoded : Decoded) : Type 0 where
  pub no_own : decoded.own ≡ None
  pub no_inherited : decoded.inherited ≡ None
  pub none_pending : decoded.pending ≡ []

not_in_force : (decoded : Decoded) → IsBare decoded → in_force decoded ≡ None
not_in_force decoded bare = ap (λ own. or_else own decoded.inherited) bare.no_own ∙ bare.no_inherited

module _ (law : RecordsEnd) (table : List Row) (is : IsTable table) where
  -- behind the INFO of a page
  pub later_data : (of : ChunkKind) (id bytes : List ℕ) (ended : Bool) (offset : ℕ) (layers : Layers) (decoded : Decoded) → kind_of id ≡ of → IsPlainKind of
      → of ≢ kind.Info → decoded.layers ≡ Some layers → IsBare decoded
      → SameData ended decoded (short.data_came table ended (Some layers) id bytes) (came_by of table (data_of bytes ended) offset decoded)
  later_data kind.Info id bytes ended offset layers decoded e plain rest l bare = absurd (rest refl)
  later_data kind.Include id bytes ended offset layers decoded e plain rest l bare = absurd plain
  later_data kind.Dictionary id bytes ended offset layers decoded e plain rest l bare = absurd plain
  later_data kind.Mask id bytes ended offset layers decoded e plain rest l bare =
      let input = short.mask_input table bytes ended layers in
      let read = jb2.records_of input in
      subst (λ i. SameData ended decoded (short.data_came table ended (Some layers) i bytes) (mask_came decoded.layers table (data_of bytes ended) decoded))
      (sym (mask_id id e))
      (subst (λ (found : Option Layers). SameData ended decoded (short.mask_came table ended (Some layers) bytes)
      (mask_came found table (data_of bytes ended) decoded)) (sym l)
      (subst (λ (found : Option (List Pixels)). SameData ended decoded (short.mask_came table ended (Some layers) bytes)
      (mask_came_over found layers bytes decoded)) (sym (not_in_force decoded bare))
      (mask_data read.answer layers (mask_drawn layers.width layers.height input) read.decisions ended bytes decoded (law.ended input is) (law.memory input))))
    where
      mask_came_over : Option (List Pixels) → Layers → List ℕ → Decoded → Came
      mask_came_over found layers bytes decoded =
          let input : jb2.Input = record {
            chunk = (records_in table (purpose.Mask layers.width layers.height) (data_of bytes ended) decoded).chunk;
            inherited = unwrap_or found [];
            purpose = purpose.Mask layers.width layers.height;
          } in
          record {
            outcome = records_outcome (jb2.records_of input).answer (data_of bytes ended)
                (with_layers (short.with_mask layers (mask_drawn layers.width layers.height input)) decoded);
            decisions = (jb2.records_of input).decisions;
          }
  later_data kind.Front id bytes ended offset layers decoded e plain rest l bare = absurd plain
  later_data kind.Back id bytes ended offset layers decoded e plain rest l bare = absurd plain
  later_data kind.Refused id bytes ended offset layers decoded e plain rest l bare =
      let other = refused_so _ _ _ _ _ _ _ e in
      subst (λ (c : short.Came). SameData ended decoded c (came_by kind.Refused table (data_of bytes ended) offset decoded))
      (sym (nothing_by _ _ _ _ (Some layers) other.no_info other.no_mask))
      (record { agrees = passed_over ended bytes layers decoded l; decisions = refl })
  later_data kind.Passed id bytes ended offset layers decoded e plain rest l bare =
      let other = passed_so _ _ _ _ _ _ _ e in
      subst (λ (c : short.Came). SameData ended decoded c (came_by kind.Passed table (data_of bytes ended) offset decoded))
      (sym (nothing_by _ _ _ _ (Some layers) other.no_info other.no_mask))
      (record { agrees = passed_over ended bytes layers decoded l; decisions = refl })

  -- the INFO of a page
  pub first_data : (id bytes : List ℕ) (ended : Bool) (offset : ℕ) (decoded : Decoded) → kind_of id ≡ kind.Info → decoded.layers ≡ None
      → (ended ≡ true → leb 4 (length bytes) ≡ true) → turn_of (slice_get bytes 9) ≡ Upright ⊎ (ended ≡ false)
      → SameData ended decoded (short.data_came table ended None id bytes) (came_by kind.Info table (data_of bytes ended) offset decoded)
  first_data id bytes ended offset decoded e none all up =
      subst (λ i. SameData ended decoded (short.data_came table ended None i bytes) (came_by kind.Info table (data_of bytes ended) offset decoded))
      (sym (info_id id e)) (info_data (leb 4 (length bytes)) ended bytes decoded refl all none up)
