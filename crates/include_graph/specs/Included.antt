-- Faults of form of an included file, in the order in which they are tried, and the name that an INCL holds.
use Rattle.std.specs.Prelude.{ℕ, Bool, ◌==◌, ◌&&◌, List, [], ◌∷◌, reverse, Option, Some, None, if◌then◌else◌, codes, bytes_eq}
use Rattle.djvu_base.specs.declared.faults.FaultKind.{FaultKind}
use Rattle.djvu_base.specs.declared.faults.FaultKind.TheVariants as fault
use Rattle.djvu_base.specs.Name.{is_name, is_listed}
use Rattle.iff_chunks.specs.Refused.{refused_ids}

-- why a FORM of this kind is no included file
abbrev pub kind_fault : List ℕ → Option FaultKind
kind_fault kind = if bytes_eq kind (codes "DJVI") then None else Some fault.NotIncludedForm

-- chunks of pages, that no included file may have
abbrev pub misplaced_ids : List (List ℕ)
misplaced_ids = codes "INFO" ∷ codes "Sjbz" ∷ codes "BG44" ∷ codes "FG44" ∷ []

abbrev pub is_dictionary : List ℕ → Bool
is_dictionary id = bytes_eq id (codes "Djbz")

abbrev pub is_include : List ℕ → Bool
is_include id = bytes_eq id (codes "INCL")

-- why an included file, that has a dictionary or not, can't have a chunk with this identifier
abbrev pub chunk_fault : Bool → List ℕ → Option FaultKind
chunk_fault has_dictionary id =
    if is_listed refused_ids id then Some fault.Unsupported
    else if is_listed misplaced_ids id then Some fault.Misplaced
    else if has_dictionary && is_dictionary id then Some fault.SecondDictionary
    else None

-- bytes without the newlines at their start
abbrev pub after_newlines : List ℕ → List ℕ
after_newlines [] = []
after_newlines (byte ∷ bytes) = if byte == 0x0A then after_newlines bytes else byte ∷ bytes

-- bytes without the newlines at their start and at their end
abbrev pub between_newlines : List ℕ → List ℕ
between_newlines bytes = reverse (after_newlines (reverse (after_newlines bytes)))

-- the name that the data of an INCL hold
abbrev pub include_name : List ℕ → Option (List ℕ)
include_name bytes = if is_name (between_newlines bytes) then Some (between_newlines bytes) else None
