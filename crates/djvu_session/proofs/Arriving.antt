-- Files and libraries by their pieces: more pieces go on.
use Rattle.std.proofs.Common.{◌≡◌, ◌<◌, ◌+◌, ℕ, suc, List, [], ◌∷◌, ◌++◌, length, ◌⊎◌, inl, inr, refl, sym, ap, ◌∙◌, append_assoc, subst, arith}
use Rattle.djvu_base.specs.Library.{Open}
use Rattle.once_board.specs.Rows.{IsPrefix}
use Rattle.data_pool.specs.declared.pieces.Piece.{Piece}
use Rattle.data_pool.specs.declared.pieces.Piece.TheVariants as piece
use Rattle.page_decoder.specs.Given.{Front}
use Rattle.page_decoder.specs.Libraries.{names_in, FileGoesOn, LibraryGoesOn}
use Rattle.djvu_session.specs.Arrived.{bytes_of, mark_of, file_of, library_from}

abbrev BytesGoOn : List Piece → List Piece → Type 0
BytesGoOn xs ys = ((mark_of xs ≡ Open) × Front (bytes_of xs) (bytes_of ys)) ⊎ ((bytes_of xs ≡ bytes_of ys) × (mark_of xs ≡ mark_of ys))

with_bytes : (bytes : List ℕ) (xs ys : List Piece) → BytesGoOn xs ys → BytesGoOn (piece.Bytes bytes ∷ xs) (piece.Bytes bytes ∷ ys)
with_bytes bytes xs ys (inl more) = inl (more.0, (more.1.0, ap (λ l. bytes ++ l) more.1.1 ∙ sym (append_assoc bytes (bytes_of xs) more.1.0)))
with_bytes bytes xs ys (inr same) = inr (ap (λ l. bytes ++ l) same.0, same.1)

bytes_go_on : (xs rest : List Piece) → BytesGoOn xs (xs ++ rest)
bytes_go_on [] rest = inl (refl, (bytes_of rest, refl))
bytes_go_on (piece.Bytes bytes ∷ xs) rest = with_bytes bytes xs (xs ++ rest) (bytes_go_on xs rest)
bytes_go_on (piece.End ∷ xs) rest = inr (refl, refl)
bytes_go_on (piece.Broken ∷ xs) rest = inr (refl, refl)
bytes_go_on (piece.NoMemory ∷ xs) rest = inr (refl, refl)

pub file_goes_on : (name : List ℕ) (xs ys : List Piece) → IsPrefix xs ys → FileGoesOn (file_of name xs) (file_of name ys)
file_goes_on name xs ys prefix = record {
  name = refl;
  bytes = subst (BytesGoOn xs) (sym prefix.1) (bytes_go_on xs prefix.0);
}

pub library_goes_on : (names : List (List ℕ)) (from : ℕ) (less more : ℕ → List Piece)
    → ((file : ℕ) → file < from + length names → IsPrefix (less file) (more file))
    → LibraryGoesOn (library_from from names less) (library_from from names more)
library_goes_on [] from less more prefix = tt
library_goes_on (name ∷ names) from less more prefix = (
  file_goes_on name (less from) (more from) (prefix from (omega arith)),
  library_goes_on names (suc from) less more (λ file inside. prefix file (omega (arith, inside))),
)

pub names_are : (names : List (List ℕ)) (from : ℕ) (pieces : ℕ → List Piece) → names_in (library_from from names pieces) ≡ names
names_are [] from pieces = refl
names_are (name ∷ names) from pieces = ap (λ l. name ∷ l) (names_are names (suc from) pieces)
