-- The order of names, from one to the next.
use Rattle.std.proofs.Common.{◌≡◌, ◌+◌, ◌-◌, ◌<◌, ◌&&◌, ℕ, zero, suc, Bool, true, false, length, drop, get_or, List, [], ◌∷◌, add-one, arith, refl}
use Rattle.djvu_base.specs.Name.{is_ascending, is_before, is_name}
use Rattle.std.specs.Str.{is_utf8}

is_ascending-drop_suc : (names : List (List ℕ)) (index : ℕ) → suc index < length names → is_ascending (drop index names) ≡ (is_before (get_or names index []) (get_or names (suc index) []) && is_ascending (drop (suc index) names))
is_ascending-drop_suc [] index h = absurd (omega arith)
is_ascending-drop_suc (name ∷ []) zero h = absurd (omega arith)
is_ascending-drop_suc (name ∷ next ∷ names) zero h = refl
is_ascending-drop_suc (name ∷ names) (suc index) h = is_ascending-drop_suc names index (omega arith)

-- from one name on they ascend where it stands before the next, and they do from that one on
pub is_ascending-drop : (names : List (List ℕ)) (index : ℕ) → index + 1 < length names → is_ascending (drop index names) ≡ (is_before (get_or names index []) (get_or names (index + 1) []) && is_ascending (drop (index + 1) names))
is_ascending-drop names index h = rw add-one (is_ascending-drop_suc names index (omega arith))

last : (name : List ℕ) (names : List (List ℕ)) → is_ascending (drop (length names) (name ∷ names)) ≡ true
last name [] = refl
last name (next ∷ names) = last next names

pub is_ascending-last : (names : List (List ℕ)) → is_ascending (drop (length names - 1) names) ≡ true
is_ascending-last [] = refl
is_ascending-last (name ∷ names) = let e : suc (length names) - 1 ≡ length names = omega arith in rw e (last name names)

right : (one other : Bool) → (one && other) ≡ true → other ≡ true
right true other h = h
right false other h = cc

pub is_utf8-from_is_name : (bytes : List ℕ) → is_name bytes ≡ true → is_utf8 bytes ≡ true
is_utf8-from_is_name bytes h = right _ _ h
