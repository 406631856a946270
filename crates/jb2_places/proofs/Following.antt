-- One more box: what a call leaves, in terms of what it found.
use Rattle.std.proofs.Common.{◌≡◌, ℕ, true, false, List, [], ◌∷◌, ◌++◌, get_or, ℤ, pos, ◌+ℤ◌, ◌-ℤ◌, ap, sym, ◌∙◌}
use Rattle.std.proofs.lemmas.List.Sums.{fold_push}
use Rattle.std.proofs.lemmas.List.Elements.{All-push}
use Rattle.jb2_places.specs.declared.places.Spot.{Spot}
use Rattle.jb2_places.specs.Place.{Placement, median, placed, placed_boxes, place, spot_at}
use Rattle.jb2_places.specs.After.{Lead, lead_of, IsInput, IsAfter}

abbrev pub first_of_row : ℤ → ℤ → ℤ → ℤ → Placement
first_of_row dx dy width height = record { new_row = true; dx = dx; dy = dy; width = width; height = height }

abbrev pub further : ℤ → ℤ → ℤ → ℤ → Placement
further dx dy width height = record { new_row = false; dx = dx; dy = dy; width = width; height = height }

abbrev lead_with : ℤ → ℤ → ℤ → List ℤ → Lead
lead_with a b r bs = record { row_left = a; row_bottom = b; last_right = r; bottoms = bs }

after_box : (h : ℕ) (earlier : List Placement) (box : Placement) (old new : Lead) → IsAfter h earlier old → IsInput box →
    new ≡ lead_of h (placed h (placed_boxes h earlier) box ∷ placed_boxes h earlier) → IsAfter h (earlier ++ box ∷ []) new
after_box h earlier box old new after input e = record {
  fits = after.fits;
  inputs = All-push IsInput earlier box after.inputs input;
  lead = e ∙ ap (lead_of h) (sym (fold_push (λ before next. placed h before next ∷ before) [] earlier box));
}

abbrev row_lead : Lead → ℤ → ℤ → ℤ → ℤ → Lead
row_lead old dx dy width height =
    let left = old.row_left +ℤ dx in
    let bottom = old.row_bottom +ℤ dy -ℤ height +ℤ pos 1 in
    lead_with left bottom (left +ℤ width -ℤ pos 1) (bottom ∷ bottom ∷ bottom ∷ [])

abbrev same_lead : Lead → ℤ → ℤ → ℤ → Lead
same_lead old dx dy width =
    let b = get_or old.bottoms in
    lead_with old.row_left old.row_bottom (old.last_right +ℤ dx +ℤ width -ℤ pos 1)
    ((median (b 0 (pos 0)) (b 1 (pos 0)) (b 2 (pos 0)) +ℤ dy) ∷ b 0 (pos 0) ∷ b 1 (pos 0) ∷ [])

row_made : (a b r : ℤ) (bs : List ℤ) (dx dy width height left bottom right : ℤ) →
    left ≡ a +ℤ dx → bottom ≡ b +ℤ dy -ℤ height +ℤ pos 1 → right ≡ left +ℤ width -ℤ pos 1 →
    lead_with left bottom right (bottom ∷ bottom ∷ bottom ∷ []) ≡ row_lead (lead_with a b r bs) dx dy width height
row_made a b r bs dx dy width height left bottom right p q s = cc

same_made : (a b r : ℤ) (bs : List ℤ) (dx dy width left bottom right first second : ℤ) →
    left ≡ r +ℤ dx → bottom ≡ median (get_or bs 0 (pos 0)) (get_or bs 1 (pos 0)) (get_or bs 2 (pos 0)) +ℤ dy → right ≡ left +ℤ width -ℤ pos 1 →
    first ≡ get_or bs 0 (pos 0) → second ≡ get_or bs 1 (pos 0) →
    lead_with a b right (bottom ∷ first ∷ second ∷ []) ≡ same_lead (lead_with a b r bs) dx dy width
same_made a b r bs dx dy width left bottom right first second p q s t u = cc

pub row_after : (h : ℕ) (earlier : List Placement) (a b r : ℤ) (bs : List ℤ) (dx dy width height left bottom right : ℤ) (old : Lead) →
    lead_with a b r bs ≡ old → IsInput (first_of_row dx dy width height) →
    left ≡ a +ℤ dx → bottom ≡ b +ℤ dy -ℤ height +ℤ pos 1 → right ≡ left +ℤ width -ℤ pos 1 → IsAfter h earlier old →
    IsAfter h (earlier ++ first_of_row dx dy width height ∷ []) (lead_with left bottom right (bottom ∷ bottom ∷ bottom ∷ []))
row_after h earlier a b r bs dx dy width height left bottom right old is_old input p q s after =
    after_box h earlier (first_of_row dx dy width height) old _ after input
    (row_made a b r bs dx dy width height left bottom right p q s ∙ ap (λ lead. row_lead lead dx dy width height) (is_old ∙ after.lead))

pub same_after : (h : ℕ) (earlier : List Placement) (a b r : ℤ) (bs : List ℤ) (dx dy width height left bottom right first second : ℤ) (old : Lead) →
    lead_with a b r bs ≡ old → IsInput (further dx dy width height) →
    left ≡ r +ℤ dx → bottom ≡ median (get_or bs 0 (pos 0)) (get_or bs 1 (pos 0)) (get_or bs 2 (pos 0)) +ℤ dy → right ≡ left +ℤ width -ℤ pos 1 →
    first ≡ get_or bs 0 (pos 0) → second ≡ get_or bs 1 (pos 0) → IsAfter h earlier old →
    IsAfter h (earlier ++ further dx dy width height ∷ []) (lead_with a b right (bottom ∷ first ∷ second ∷ []))
same_after h earlier a b r bs dx dy width height left bottom right first second old is_old input p q s t u after =
    after_box h earlier (further dx dy width height) old _ after input
    (same_made a b r bs dx dy width left bottom right first second p q s t u ∙ ap (λ lead. same_lead lead dx dy width) (is_old ∙ after.lead))

pub row_spot : (h : ℕ) (earlier : List Placement) (a b r : ℤ) (bs : List ℤ) (dx dy width height left bottom : ℤ) (old : Lead) (spot : Spot) →
    lead_with a b r bs ≡ old → spot ≡ spot_at left bottom → left ≡ a +ℤ dx → bottom ≡ b +ℤ dy -ℤ height +ℤ pos 1 → IsAfter h earlier old →
    spot ≡ place h earlier (first_of_row dx dy width height)
row_spot h earlier a b r bs dx dy width height left bottom old spot is_old e p q after =
    let there : spot ≡ spot_at (a +ℤ dx) (b +ℤ dy -ℤ height +ℤ pos 1) = cc in
    there ∙ ap (λ (lead : Lead). spot_at (lead.row_left +ℤ dx) (lead.row_bottom +ℤ dy -ℤ height +ℤ pos 1)) (is_old ∙ after.lead)

abbrev same_spot : Lead → ℤ → ℤ → Spot
same_spot lead dx dy =
    let b = get_or lead.bottoms in spot_at (lead.last_right +ℤ dx) (median (b 0 (pos 0)) (b 1 (pos 0)) (b 2 (pos 0)) +ℤ dy)

pub further_spot : (h : ℕ) (earlier : List Placement) (a b r : ℤ) (bs : List ℤ) (dx dy width height left bottom : ℤ) (old : Lead) (spot : Spot) →
    lead_with a b r bs ≡ old → spot ≡ spot_at left bottom → left ≡ r +ℤ dx →
    bottom ≡ median (get_or bs 0 (pos 0)) (get_or bs 1 (pos 0)) (get_or bs 2 (pos 0)) +ℤ dy → IsAfter h earlier old →
    spot ≡ place h earlier (further dx dy width height)
further_spot h earlier a b r bs dx dy width height left bottom old spot is_old e p q after =
    let there : spot ≡ spot_at (r +ℤ dx) (median (get_or bs 0 (pos 0)) (get_or bs 1 (pos 0)) (get_or bs 2 (pos 0)) +ℤ dy) = cc in
    there ∙ ap (λ (lead : Lead). same_spot lead dx dy) (is_old ∙ after.lead)
