-- Files, byte by byte.
use Rattle.std.specs.Prelude.{ℕ, ◌++◌, List, [], ◌∷◌, codes}
use Rattle.iff_chunks.specs.Chunks.{Form, Chunk, magic, form_word}

-- a file with a FORM of this kind and of this length, and what follows them at place 16
abbrev pub form_with : List ℕ → ℕ → List ℕ → List ℕ
form_with kind size more = magic ++ (form_word ++ (0x00 ∷ 0x00 ∷ 0x00 ∷ size ∷ (kind ++ more)))

-- the header of a chunk whose data have this length
abbrev pub header : List ℕ → ℕ → List ℕ
header id size = id ++ (0x00 ∷ 0x00 ∷ 0x00 ∷ size ∷ [])

-- a page that begins with an INFO of ten bytes, the first four of them these, and what follows it at place 34
abbrev pub sized_page : List ℕ → ℕ → List ℕ → List ℕ
sized_page sizes size more = form_with (codes "DJVU") size (header (codes "INFO") 10 ++ (sizes ++ (0x18 ∷ 0x00 ∷ 0x2C ∷ 0x01 ∷ 0x16 ∷ 0x01 ∷ more)))

-- the same page with one pixel
abbrev pub page : ℕ → List ℕ → List ℕ
page size more = sized_page (0x00 ∷ 0x01 ∷ 0x00 ∷ 0x01 ∷ []) size more

-- the 34 bytes of a page of one pixel
abbrev pub blank_file : List ℕ
blank_file = page 22 []

abbrev pub page_form : ℕ → Form
page_form size = record { offset = 4; kind = codes "DJVU"; size = size }

-- the FORM of a page without "AT&T"
abbrev pub bare_form : ℕ → Form
bare_form size = record { offset = 0; kind = codes "DJVU"; size = size }

-- the ten bytes of its INFO
abbrev pub info_bytes : List ℕ
info_bytes = 0x00 ∷ 0x01 ∷ 0x00 ∷ 0x01 ∷ 0x18 ∷ 0x00 ∷ 0x2C ∷ 0x01 ∷ 0x16 ∷ 0x01 ∷ []

abbrev pub info_chunk : Chunk
info_chunk = record { id = codes "INFO"; offset = 16; size = 10; bytes = info_bytes }

-- the header of a chunk Sjbz whose data have this length
abbrev pub mask_header : ℕ → List ℕ
mask_header size = header (codes "Sjbz") size

-- a FORM whose length has these four bytes, and no further byte
abbrev pub form_of_length : List ℕ → List ℕ
form_of_length size = form_word ++ size
