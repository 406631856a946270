-- The grammar of a file's bytes: the FORM's head, and then headers, data and pad bytes, one after the other.
use Rattle.std.specs.Prelude.{ℕ, true, false, ◌≡◌, ◌+◌, ◌-◌, ◌<◌, ◌≤◌, ◌==◌, ◌++◌, ◌⊎◌, List, [], ◌∷◌, length}
use Rattle.std.specs.List.{list_all}
use Rattle.byteorder.specs.Endian.{big_number}
use Rattle.djvu_base.specs.declared.faults.FaultKind.TheVariants.{ShortHeader, BadId, Overrun}
use Rattle.djvu_base.specs.Library.{file_limit}
use Rattle.iff_chunks.specs.Chunks.{Form, Chunk, Tail, InHeader, InData, InPad, FormEnd, Broken, is_padded, is_id_byte, magic, form_word}

-- these bytes are the number, the highest byte first
pub record IsNumber (bytes : List ℕ) (number : ℕ) : Type 0 where
  pub four : length bytes ≡ 4
  pub value : big_number 4 bytes ≡ number

-- these eight bytes are a chunk's header
pub record IsHeader (header id : List ℕ) (size : ℕ) : Type 0 where
  pub four : length id ≡ 4
  pub number : List ℕ
  pub is_size : IsNumber number size
  pub same : header ≡ id ++ number

-- a chunk may begin with this header at this place, where the FORM has so many bytes left
pub record IsBegun (offset left : ℕ) (chunk : Chunk) (header : List ℕ) : Type 0 where
  pub place : chunk.offset ≡ offset
  pub is_header : IsHeader header chunk.id chunk.size
  pub printable : list_all is_id_byte chunk.id ≡ true
  pub room : 8 + chunk.size ≤ left

-- how many bytes the FORM has after the chunk's data, of so many from its header on
abbrev pub left_after : ℕ → Chunk → ℕ
left_after left chunk = left - 8 - chunk.size

-- the chunks and the tail from a place of the FORM on, which has so many bytes left there; all bytes from there on
pub data Laid : ℕ → ℕ → List Chunk → Tail → List ℕ → Type 0 where
  -- the FORM ends, and any bytes may follow
  AtEnd : (offset : ℕ) (bytes : List ℕ) → Laid offset 0 [] FormEnd bytes
  -- the FORM has too few bytes left for a header
  TooShort : (offset left : ℕ) (bytes : List ℕ) → 0 < left → left < 8 → Laid offset left [] (Broken ShortHeader offset) bytes
  -- the bytes end in a header, or before it
  Beginning : (offset left : ℕ) (bytes : List ℕ) → 8 ≤ left → length bytes < 8 → Laid offset left [] (InHeader offset bytes) bytes
  -- a byte of the identifier isn't printable
  NoId : (offset left size : ℕ) (header id more : List ℕ) → 8 ≤ left → IsHeader header id size → list_all is_id_byte id ≡ false
      → Laid offset left [] (Broken BadId offset) (header ++ more)
  -- the data would go past the FORM's end
  TooLong : (offset left size : ℕ) (header id more : List ℕ) → 8 ≤ left → IsHeader header id size → list_all is_id_byte id ≡ true → left - 8 < size
      → Laid offset left [] (Broken Overrun offset) (header ++ more)
  -- the bytes end in the data of a chunk, or before them
  DataArriving : (offset left : ℕ) (chunk : Chunk) (header : List ℕ) → IsBegun offset left chunk header → length chunk.bytes < chunk.size
      → Laid offset left [] (InData chunk) (header ++ chunk.bytes)
  -- the bytes end before the pad byte of a chunk, which is or isn't the last byte of the FORM
  PadMissing : (offset left : ℕ) (chunk : Chunk) (header : List ℕ) → IsBegun offset left chunk header → length chunk.bytes ≡ chunk.size
      → is_padded chunk.size (left_after left chunk) ≡ true
      → Laid offset left (chunk ∷ []) (InPad offset (left_after left chunk == 1)) (header ++ chunk.bytes)
  -- a chunk, its pad byte, and what follows it
  Padded : (offset left : ℕ) (chunk : Chunk) (header : List ℕ) (pad : ℕ) (chunks : List Chunk) (tail : Tail) (after : List ℕ) → IsBegun offset left chunk header
      → length chunk.bytes ≡ chunk.size → is_padded chunk.size (left_after left chunk) ≡ true
      → Laid (offset + 9 + chunk.size) (left_after left chunk - 1) chunks tail after
      → Laid offset left (chunk ∷ chunks) tail (header ++ (chunk.bytes ++ (pad ∷ after)))
  -- a chunk without a pad byte, and what follows it
  Unpadded : (offset left : ℕ) (chunk : Chunk) (header : List ℕ) (chunks : List Chunk) (tail : Tail) (after : List ℕ) → IsBegun offset left chunk header
      → length chunk.bytes ≡ chunk.size → is_padded chunk.size (left_after left chunk) ≡ false
      → Laid (offset + 8 + chunk.size) (left_after left chunk) chunks tail after → Laid offset left (chunk ∷ chunks) tail (header ++ (chunk.bytes ++ after))

-- what may stand before the FORM
abbrev pub IsPrefix : List ℕ → Type 0
IsPrefix prefix = (prefix ≡ []) ⊎ (prefix ≡ magic)

-- all bytes of a file whose FORM's head is there
pub record IsLaidForm (bytes : List ℕ) (form : Form) (chunks : List Chunk) (tail : Tail) : Type 0 where
  pub prefix : List ℕ
  pub number : List ℕ
  pub after : List ℕ
  pub may_lead : IsPrefix prefix
  pub place : form.offset ≡ length prefix
  pub is_size : IsNumber number form.size
  pub four : length form.kind ≡ 4
  pub room : 4 ≤ form.size
  pub within : form.offset + 8 + form.size ≤ file_limit
  pub same : bytes ≡ prefix ++ (form_word ++ (number ++ (form.kind ++ after)))
  pub body : Laid (form.offset + 12) (form.size - 4) chunks tail after
