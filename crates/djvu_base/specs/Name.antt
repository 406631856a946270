-- Names of files, as lists of bytes.
use Rattle.std.specs.Prelude.{ℕ, Bool, true, not, ◌&&◌, ◌||◌, ◌==◌, List, [], ◌∷◌, length, nat_le, codes, bytes_eq, IsTrue}
use Rattle.std.specs.List.{list_all, list_any}
use Rattle.std.specs.Str.{is_utf8}
use Rattle.std.specs.Ordering.{nat_cmp, is_lt}
use Rattle.std.specs.Cmp.Lexicographic.{slice_cmp}

-- a byte that may stand in a name: no control character and no slash
abbrev pub is_plain_byte : ℕ → Bool
is_plain_byte byte = nat_le 0x20 byte && not (byte == 47)

-- the two entries that every folder has for itself and for the folder above it
abbrev pub is_dots : List ℕ → Bool
is_dots bytes = bytes_eq bytes (codes ".") || bytes_eq bytes (codes "..")

abbrev pub has_name_length : List ℕ → Bool
has_name_length bytes = nat_le 1 (length bytes) && nat_le (length bytes) 255

-- 1 to 255 bytes of UTF-8, none of them a slash or below 20 hexadecimal, and neither "." nor ".."
abbrev pub is_name : List ℕ → Bool
is_name bytes = has_name_length bytes && list_all is_plain_byte bytes && not (is_dots bytes) && is_utf8 bytes

abbrev pub IsName : List ℕ → Type 0
IsName bytes = IsTrue (is_name bytes)

-- whether a name stands before another: byte by byte, and a front of the other comes first
abbrev pub is_before : List ℕ → List ℕ → Bool
is_before name other = is_lt (slice_cmp nat_cmp name other)

-- each name stands before the next, so that none comes twice
abbrev pub is_ascending : List (List ℕ) → Bool
is_ascending [] = true
is_ascending (name ∷ []) = true
is_ascending (name ∷ next ∷ names) = is_before name next && is_ascending (next ∷ names)

abbrev pub IsAscending : List (List ℕ) → Type 0
IsAscending names = IsTrue (is_ascending names)

-- whether a list of names has this one
abbrev pub is_listed : List (List ℕ) → List ℕ → Bool
is_listed names name = list_any (λ listed. bytes_eq name listed) names
