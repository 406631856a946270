-- When two names are the same.
use Rattle.std.proofs.Common.{◌≡◌, ◌<◌, ◌==◌, ◌&&◌, ℕ, zero, suc, Bool, true, false, List, [], ◌∷◌, refl, sym, ap, ap₂, subst, ◌∙◌, arith}
use Rattle.std.specs.Prelude.{◌↔◌, IsTrue}
use Rattle.std.proofs.lemmas.Grind.{common_steps}
use Rattle.zp_decoder.specs.States.{are_same}
use Rattle.zp_decoder.proofs.Lemmas.{are_same-true, are_same-refl}
use Rattle.jb2_numbers.specs.declared.roots.Root.{Root}
use Rattle.jb2_numbers.specs.declared.roots.Root.TheVariants.{RecordType, InheritedCount, ImageSize, Match, ShapeWidth, ShapeHeight, WidthDifference, HeightDifference, AbsoluteLeft, AbsoluteTop, NewRowX, NewRowY, SameRowX, SameRowY, CommentLength, CommentByte}
use Rattle.jb2_numbers.specs.Roots.{root_index, is_same_root}
use Rattle.jb2_numbers.specs.Contexts.{Name, is_same}

-- the roots in order
abbrev pub root_from : List Root → ℕ → Root
root_from [] index = RecordType
root_from (root ∷ roots) zero = root
root_from (root ∷ roots) (suc index) = root_from roots index

abbrev pub all_roots : List Root
all_roots = RecordType ∷ InheritedCount ∷ ImageSize ∷ Match ∷ ShapeWidth ∷ ShapeHeight ∷ WidthDifference ∷ HeightDifference ∷ AbsoluteLeft ∷ AbsoluteTop ∷ NewRowX ∷ NewRowY ∷ SameRowX ∷ SameRowY ∷ CommentLength ∷ CommentByte ∷ []

abbrev pub root_at : ℕ → Root
root_at index = root_from all_roots index

found_again : (a : Root) → root_from all_roots (root_index a) ≡ a
found_again RecordType = refl
found_again InheritedCount = refl
found_again ImageSize = refl
found_again Match = refl
found_again ShapeWidth = refl
found_again ShapeHeight = refl
found_again WidthDifference = refl
found_again HeightDifference = refl
found_again AbsoluteLeft = refl
found_again AbsoluteTop = refl
found_again NewRowX = refl
found_again NewRowY = refl
found_again SameRowX = refl
found_again SameRowY = refl
found_again CommentLength = refl
found_again CommentByte = refl

pub root_found : (a : Root) → root_at (root_index a) ≡ a
root_found a = found_again a

pub root_below : (a : Root) → root_index a < 16
root_below RecordType = omega arith
root_below InheritedCount = omega arith
root_below ImageSize = omega arith
root_below Match = omega arith
root_below ShapeWidth = omega arith
root_below ShapeHeight = omega arith
root_below WidthDifference = omega arith
root_below HeightDifference = omega arith
root_below AbsoluteLeft = omega arith
root_below AbsoluteTop = omega arith
root_below NewRowX = omega arith
root_below NewRowY = omega arith
root_below SameRowX = omega arith
root_below SameRowY = omega arith
root_below CommentLength = omega arith
root_below CommentByte = omega arith

same_index : (a b : ℕ) → (a == b) ≡ true → a ≡ b
same_index a b e = grind (arith, common_steps)

same_root : (a b : Root) → is_same_root a b ≡ true → a ≡ b
same_root a b e = sym (found_again a) ∙ (ap (root_from all_roots) (same_index (root_index a) (root_index b) e) ∙ found_again b)

first_holds : (a b : Bool) → (a && b) ≡ true → a ≡ true
first_holds true b e = refl
first_holds false b e = absurd (cc)

second_holds : (a b : Bool) → (a && b) ≡ true → b ≡ true
second_holds true b e = e
second_holds false b e = absurd (cc)

root_itself : (a : Root) → is_same_root a a ≡ true
root_itself RecordType = refl
root_itself InheritedCount = refl
root_itself ImageSize = refl
root_itself Match = refl
root_itself ShapeWidth = refl
root_itself ShapeHeight = refl
root_itself WidthDifference = refl
root_itself HeightDifference = refl
root_itself AbsoluteLeft = refl
root_itself AbsoluteTop = refl
root_itself NewRowX = refl
root_itself NewRowY = refl
root_itself SameRowX = refl
root_itself SameRowY = refl
root_itself CommentLength = refl
root_itself CommentByte = refl

name_itself : (a : Name) → is_same a a ≡ true
name_itself a = ap₂ ◌&&◌ (root_itself a.root) (are_same-refl a.decisions)

name_from_parts : (a b : Name) → (a.root ≡ b.root) × (a.decisions ≡ b.decisions) → a ≡ b
name_from_parts a b parts = λ i. record { root = (parts.0) i; decisions = (parts.1) i }

pub same_names : (a b : Name) → IsTrue (is_same a b) ↔ (a ≡ b)
same_names a b = (
  (λ e. name_from_parts a b (
    same_root a.root b.root (first_holds (is_same_root a.root b.root) (are_same a.decisions b.decisions) e),
    are_same-true a.decisions b.decisions (second_holds (is_same_root a.root b.root) (are_same a.decisions b.decisions) e),
  )),
  (λ e. subst (λ (n : Name). is_same a n ≡ true) e (name_itself a)),
)

pub same_parts : (a b : Name) → (a ≡ b) ↔ ((a.root ≡ b.root) × (a.decisions ≡ b.decisions))
same_parts a b = ((λ e. (ap (λ (n : Name). n.root) e, ap (λ (n : Name). n.decisions) e)), name_from_parts a b)
