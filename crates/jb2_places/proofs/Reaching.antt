-- How far a place can be from the image's corner: each box moves it by less than 2 ^ 32.
use Rattle.std.proofs.Common.{◌≡◌, ℕ, ◌+◌, ◌*◌, ◌<◌, ◌≤◌, ◌^◌, true, false, List, [], ◌∷◌, length, All, fold, get_or, ℤ, pos, ◌+ℤ◌, ◌-ℤ◌, FitsSigned, w32, arith, subst, sym}
use Rattle.std.proofs.lemmas.Int.{ints, clamps}
use Rattle.std.proofs.lemmas.List.Elements.{All-head, All-tail}
use Rattle.jb2_places.specs.Place.{Placement, Placed, median, placed}
use Rattle.jb2_places.specs.After.{Lead, lead_of, IsInput, IsSize, HasRoom, Within, LeadsWithin, far}

-- a number within r is within each larger one
pub within_more : (r s : ℕ) (z : ℤ) → r ≤ s → Within r z → Within s z
within_more r s z p h = record { low = omega (arith, ints); high = omega (arith, ints) }

reach_of_none : (h : ℕ) → h < 2 ^ 32 → LeadsWithin (2 ^ 32) (lead_of h [])
reach_of_none h p =
    let at_zero : Within (2 ^ 32) (pos 0) = record { low = omega (arith, ints); high = omega (arith, ints) } in
    let at_height : Within (2 ^ 32) (pos h) = record { low = omega (arith, ints); high = omega (arith, ints) } in
    record { left = at_zero; bottom = at_height; right = at_zero; first = at_height; second = at_height; third = at_height }

reach_of_row : (r h : ℕ) (before : List Placed) (dx dy width height : ℤ) → LeadsWithin r (lead_of h before) →
    FitsSigned w32 dx → FitsSigned w32 dy → IsSize width → IsSize height →
    LeadsWithin (r + 2 ^ 32) (lead_of h (placed h before (record { new_row = true; dx = dx; dy = dy; width = width; height = height }) ∷ before))
reach_of_row r h before dx dy width height so x y w k = record {
  left = record { low = omega (arith, ints); high = omega (arith, ints) };
  bottom = record { low = omega (arith, ints); high = omega (arith, ints) };
  right = record { low = omega (arith, ints); high = omega (arith, ints) };
  first = record { low = omega (arith, ints); high = omega (arith, ints) };
  second = record { low = omega (arith, ints); high = omega (arith, ints) };
  third = record { low = omega (arith, ints); high = omega (arith, ints) };
}

reach_of_same : (r h : ℕ) (before : List Placed) (dx dy width height : ℤ) → LeadsWithin r (lead_of h before) →
    FitsSigned w32 dx → FitsSigned w32 dy → IsSize width → IsSize height →
    LeadsWithin (r + 2 ^ 32) (lead_of h (placed h before (record { new_row = false; dx = dx; dy = dy; width = width; height = height }) ∷ before))
reach_of_same r h before dx dy width height so x y w k = record {
  left = within_more r _ _ (omega arith) so.left;
  bottom = within_more r _ _ (omega arith) so.bottom;
  right = record { low = omega (arith, ints); high = omega (arith, ints) };
  first = record { low = omega (arith, ints, clamps); high = omega (arith, ints, clamps) };
  second = within_more r _ _ (omega arith) so.first;
  third = within_more r _ _ (omega arith) so.second;
}

reach_of_box : (r h : ℕ) (before : List Placed) (box : Placement) → LeadsWithin r (lead_of h before) → IsInput box →
    LeadsWithin (r + 2 ^ 32) (lead_of h (placed h before box ∷ before))
reach_of_box r h before box so input =
    elim box.new_row as (λ new. LeadsWithin (r + 2 ^ 32) (lead_of h (placed h before (record { new_row = new; dx = box.dx; dy = box.dy; width = box.width; height = box.height }) ∷ before))) [
      | true ↦ reach_of_row r h before box.dx box.dy box.width box.height so input.dx input.dy input.width input.height
      | false ↦ reach_of_same r h before box.dx box.dy box.width box.height so input.dx input.dy input.width input.height
    ]

-- what reaches no further than r reaches no further than a larger number
pub more_reach : (r s : ℕ) (lead : Lead) → r ≤ s → LeadsWithin r lead → LeadsWithin s lead
more_reach r s lead p so = record {
  left = within_more r s _ p so.left;
  bottom = within_more r s _ p so.bottom;
  right = within_more r s _ p so.right;
  first = within_more r s _ p so.first;
  second = within_more r s _ p so.second;
  third = within_more r s _ p so.third;
}

reach_of_boxes : (boxes : List Placement) (r h : ℕ) (before : List Placed) → LeadsWithin r (lead_of h before) → All IsInput boxes →
    LeadsWithin (r + length boxes * 2 ^ 32) (lead_of h (fold (λ earlier box. placed h earlier box ∷ earlier) before boxes))
reach_of_boxes [] r h before so inputs = more_reach r _ _ (omega arith) so
reach_of_boxes (box ∷ boxes) r h before so inputs =
    more_reach (r + 2 ^ 32 + length boxes * 2 ^ 32) _ _ (omega arith)
    (reach_of_boxes boxes (r + 2 ^ 32) h (placed h before box ∷ before) (reach_of_box r h before box so (All-head IsInput box boxes inputs)) (All-tail IsInput box boxes inputs))

-- with room left, the next box is placed from within 2 ^ 52
pub reach_with_room : (lead : Lead) → HasRoom lead → LeadsWithin (2 ^ 52) lead
reach_with_room lead (h, earlier, after, few) =
    subst (LeadsWithin (2 ^ 52)) (sym after.lead)
    (more_reach (2 ^ 32 + length earlier * 2 ^ 32) _ _ (omega arith) (reach_of_boxes earlier (2 ^ 32) h [] (reach_of_none h after.fits) after.inputs))

-- a box more leads no further than 2 ^ 52 + 2 ^ 32
pub row_within : (a b r : ℤ) (bs : List ℤ) (dx dy width height left bottom right : ℤ) → LeadsWithin (2 ^ 52) (record { row_left = a; row_bottom = b; last_right = r; bottoms = bs }) →
    FitsSigned w32 dx → FitsSigned w32 dy → IsSize width → IsSize height →
    left ≡ a +ℤ dx → bottom ≡ b +ℤ dy -ℤ height +ℤ pos 1 → right ≡ left +ℤ width -ℤ pos 1 →
    LeadsWithin far (record { row_left = left; row_bottom = bottom; last_right = right; bottoms = bottom ∷ bottom ∷ bottom ∷ [] })
row_within a b r bs dx dy width height left bottom right so x y w k is_left is_bottom is_right =
    let low : Within far bottom = record { low = omega (arith, ints); high = omega (arith, ints) } in
    record {
      left = record { low = omega (arith, ints); high = omega (arith, ints) };
      bottom = low;
      right = record { low = omega (arith, ints); high = omega (arith, ints) };
      first = low;
      second = low;
      third = low;
    }

pub same_within : (a b r : ℤ) (bs : List ℤ) (dx dy width left bottom right first second : ℤ) → LeadsWithin (2 ^ 52) (record { row_left = a; row_bottom = b; last_right = r; bottoms = bs }) →
    FitsSigned w32 dx → FitsSigned w32 dy → IsSize width →
    left ≡ r +ℤ dx → bottom ≡ median (get_or bs 0 (pos 0)) (get_or bs 1 (pos 0)) (get_or bs 2 (pos 0)) +ℤ dy → right ≡ left +ℤ width -ℤ pos 1 →
    first ≡ get_or bs 0 (pos 0) → second ≡ get_or bs 1 (pos 0) →
    LeadsWithin far (record { row_left = a; row_bottom = b; last_right = right; bottoms = bottom ∷ first ∷ second ∷ [] })
same_within a b r bs dx dy width left bottom right first second so x y w is_left is_bottom is_right is_first is_second = record {
  left = within_more (2 ^ 52) far _ (omega arith) so.left;
  bottom = within_more (2 ^ 52) far _ (omega arith) so.bottom;
  right = record { low = omega (arith, ints); high = omega (arith, ints) };
  first = record { low = omega (arith, ints, clamps); high = omega (arith, ints, clamps) };
  second = record { low = omega (arith, ints); high = omega (arith, ints) };
  third = record { low = omega (arith, ints); high = omega (arith, ints) };
}
