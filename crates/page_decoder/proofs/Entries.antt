-- The entries of a reading.
use Rattle.std.proofs.Common.{◌≡◌, ◌≤◌, ℕ, List, [], ◌∷◌, ◌++◌, length, take, refl, ap, ◌∙◌, arith}
use Rattle.page_decoder.specs.PageRead.{Drawing, Ending}
use Rattle.page_decoder.specs.Decoder.{Ends, entry_at}

-- behind the drawings that were told
pub entry_behind : (told others : List Drawing) (end : Ending) → entry_at (told ++ others) (length told) end ≡ entry_at others 0 end
entry_behind [] others end = refl
entry_behind (drawing ∷ told) others end = entry_behind told others end

pub last_entry : (told : List Drawing) (end : Ending) → entry_at told (length told) end ≡ Ends end
last_entry [] end = refl
last_entry (drawing ∷ told) end = last_entry told end

pub told_front : (told others : List Drawing) → take (length told) (told ++ others) ≡ told
told_front [] others = refl
told_front (drawing ∷ told) others = ap (λ l. drawing ∷ l) (told_front told others)
