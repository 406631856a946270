-- A verdict's list is what a walk leaves, in the order in which it leaves the files.
use Rattle.std.proofs.Common.{◌≡◌, ℕ, zero, suc, ◌+◌, ◌<◌, ◌≤◌, eqb, Bool, true, false, List, [], ◌∷◌, length, Option, Some, None, inl, inr, refl, ap, ◌∙◌, arith}
use Rattle.std.specs.Prelude.{◌↔◌}
use Rattle.std.specs.List.{IsDistinct}
use Rattle.std.proofs.lemmas.Map.Steps.{length-le_from_distinct_below}
use Rattle.include_graph.specs.declared.outline.Outline.{Outline}
use Rattle.include_graph.specs.declared.outline.OutlineItem.{OutlineItem}
use Rattle.include_graph.specs.declared.outline.OutlineItem.TheVariants as item
use Rattle.include_graph.specs.declared.verdicts.Verdict.TheVariants.{Files}
use Rattle.include_graph.specs.Verdicts.{Graph, Walked, Left, walk_then, number_of, is_among, at_target, at_include, at_items, at_outline, visit, verdict_by, verdict_of}
use Rattle.include_graph.specs.Walks.{Ahead, AFile, Items, Leaves, over_items, leaves_file, goes_by, goes_down, LeavesAll}
use Rattle.include_graph.proofs.Among.{among_cases, distinct_with, number_below}
use Rattle.include_graph.proofs.Ordering.{OnLeft, then_left, files_of}
use Rattle.include_graph.proofs.Meeting.{on_after}

module _ (graph : Graph) (go : ℕ → List ℕ → Walked) (path : List ℕ) (file : ℕ)
    (down : (next : ℕ) (left : List ℕ) → OnLeft (go next left) (Leaves graph (file ∷ path) next AFile left)) where
  abbrev rest : List OutlineItem → List ℕ → Walked
  rest items left = at_items go graph.names (file ∷ path) file items left

  abbrev LeavesSo : List OutlineItem → List ℕ → Walked → Type 0
  LeavesSo items left walked = OnLeft walked (Leaves graph path file (Items items) left)

  target_leaves : (items : List OutlineItem) → ((left : List ℕ) → LeavesSo items left (rest items left)) → (on_path was_left : Bool)
      (name : List ℕ) (offset next : ℕ) (left : List ℕ) → number_of name graph.names ≡ Some next → is_among next (file ∷ path) ≡ on_path
      → is_among next left ≡ was_left
      → LeavesSo (item.Include name offset ∷ items) left (walk_then (at_target go on_path was_left file offset next left) (rest items))
  target_leaves items on true was_left name offset next left e p l = tt
  target_leaves items on false true name offset next left e p l =
      on_after (rest items left) (Leaves graph path file (Items items) left) (Leaves graph path file (Items (item.Include name offset ∷ items)) left)
      (λ after h. goes_by path file name offset items next left after e p l h) (on left)
  target_leaves items on false false name offset next left e p l =
      then_left (go next left) (Leaves graph (file ∷ path) next AFile left) (Leaves graph path file (Items (item.Include name offset ∷ items)) left)
      (rest items) (down next left)
      (λ between below. on_after (rest items between) (Leaves graph path file (Items items) between)
      (Leaves graph path file (Items (item.Include name offset ∷ items)) left)
      (λ after h. goes_down path file name offset items next left between after e p l below h) (on between))

  include_leaves : (items : List OutlineItem) → ((left : List ℕ) → LeavesSo items left (rest items left)) → (name : List ℕ) (offset : ℕ)
      (number : Option ℕ) (left : List ℕ) → number_of name graph.names ≡ number
      → LeavesSo (item.Include name offset ∷ items) left (walk_then (at_include go (file ∷ path) file offset number left) (rest items))
  include_leaves items on name offset None left e = tt
  include_leaves items on name offset (Some next) left e =
      target_leaves items on (is_among next (file ∷ path)) (is_among next left) name offset next left e refl refl

  items_leave : (items : List OutlineItem) (left : List ℕ) → LeavesSo items left (rest items left)
  items_leave [] left = leaves_file path file left
  items_leave (item.Include name offset ∷ items) left =
      include_leaves items (items_leave items) name offset (number_of name graph.names) left refl
  items_leave (item.Broken kind offset ∷ items) left = tt

  outline_leaves : (known : Option Outline) → graph.outlines file ≡ known → (left : List ℕ)
      → OnLeft (at_outline go graph.names (file ∷ path) file known left) (Leaves graph path file AFile left)
  outline_leaves None e left = tt
  outline_leaves (Some outline) e left =
      on_after (rest outline.items left) (Leaves graph path file (Items outline.items) left) (Leaves graph path file AFile left)
      (λ after h. over_items path file outline left after e h) (items_leave outline.items left)

visit_leaves : (graph : Graph) (most : ℕ) (path : List ℕ) (file : ℕ) (left : List ℕ)
    → OnLeft (visit graph most path file left) (Leaves graph path file AFile left)
visit_leaves graph zero path file left = tt
visit_leaves graph (suc most) path file left =
    outline_leaves graph (visit graph most (file ∷ path)) path file (visit_leaves graph most (file ∷ path)) (graph.outlines file) refl left

-- what a walk comes to with at most so many files further down
abbrev comes_to : Graph → ℕ → List ℕ → ℕ → Ahead → List ℕ → Walked
comes_to graph most path file AFile left = visit graph (suc most) path file left
comes_to graph most path file (Items items) left = at_items (visit graph most (file ∷ path)) graph.names (file ∷ path) file items left

-- a path of files below the number of names, and so many more files are as many as there are names
record HasRoom (graph : Graph) (most : ℕ) (path : List ℕ) (file : ℕ) : Type 0 where
  place : file < length graph.names
  new : is_among file path ≡ false
  distinct : IsDistinct eqb path
  below : (q : ℕ) → is_among q path ≡ true → q < length graph.names
  enough : length graph.names ≤ suc most + length path

room_below : (graph : Graph) (most : ℕ) (path : List ℕ) (file next : ℕ) → HasRoom graph (suc most) path file → next < length graph.names
    → is_among next (file ∷ path) ≡ false → HasRoom graph most (file ∷ path) next
room_below graph most path file next r b off =
    let place = r.place in
    let enough = r.enough in
    record {
      place = b;
      new = off;
      distinct = distinct_with file path r.new r.distinct;
      below = λ q h. elim (among_cases q file path h) [ inl e ↦ omega (arith, e, place) | inr h ↦ r.below q h ];
      enough = omega (arith, enough);
    }

-- two files more than the path need two more names
no_room : {A : Type 0} (graph : Graph) (path : List ℕ) (file next : ℕ) → HasRoom graph zero path file → next < length graph.names
    → is_among next (file ∷ path) ≡ false → A
no_room graph path file next r b off =
    let place = r.place in
    let enough = r.enough in
    let few = length-le_from_distinct_below (next ∷ file ∷ path) (length graph.names)
    (distinct_with next (file ∷ path) off (distinct_with file path r.new r.distinct))
    (λ q h. elim (among_cases q next (file ∷ path) h)
    [ inl e ↦ omega (arith, e, b) | inr h ↦ elim (among_cases q file path h) [ inl e ↦ omega (arith, e, place) | inr h ↦ r.below q h ] ]) in
    absurd (omega (arith, few, enough))

module _ (graph : Graph) where
  at_next : (go : ℕ → List ℕ → Walked) (path : List ℕ) (file offset next : ℕ) (number : Option ℕ) (left : List ℕ) → number ≡ Some next
      → is_among next path ≡ false
      → at_include go path file offset number left ≡ at_target go false (is_among next left) file offset next left
  at_next go path file offset next number left e off =
      ap (λ n. at_include go path file offset n left) e ∙ ap (λ on. at_target go on (is_among next left) file offset next left) off

  leaves_comes : (most : ℕ) (path : List ℕ) (file : ℕ) (ahead : Ahead) (left after : List ℕ) → HasRoom graph most path file
      → Leaves graph path file ahead left after → comes_to graph most path file ahead left ≡ Left after
  leaves_comes most _ _ _ _ _ r (over_items path file outline left after e h) =
      ap (λ known. at_outline (visit graph most (file ∷ path)) graph.names (file ∷ path) file known left) e
      ∙ leaves_comes most path file (Items outline.items) left after r h
  leaves_comes most _ _ _ _ _ r (leaves_file path file left) = refl
  leaves_comes most _ _ _ _ _ r (goes_by path file name offset items next left after e off l h) =
      let go = visit graph most (file ∷ path) in
      ap (λ walked. walk_then walked (at_items go graph.names (file ∷ path) file items))
      (at_next go (file ∷ path) file offset next (number_of name graph.names) left e off
      ∙ ap (λ was_left. at_target go false was_left file offset next left) l)
      ∙ leaves_comes most path file (Items items) left after r h
  leaves_comes zero _ _ _ _ _ r (goes_down path file name offset items next left between after e off l below h) =
      no_room graph path file next r (number_below next name graph.names e) off
  leaves_comes (suc most) _ _ _ _ _ r (goes_down path file name offset items next left between after e off l below h) =
      let go = visit graph (suc most) (file ∷ path) in
      ap (λ walked. walk_then walked (at_items go graph.names (file ∷ path) file items))
      (at_next go (file ∷ path) file offset next (number_of name graph.names) left e off
      ∙ ap (λ was_left. at_target go false was_left file offset next left) l
      ∙ leaves_comes most (file ∷ path) next AFile left between
      (room_below graph most path file next r (number_below next name graph.names e) off) below)
      ∙ leaves_comes (suc most) path file (Items items) between after r h

-- from the target, with as much fuel as there are names
all_left : (graph : Graph) (target : ℕ) (files : List ℕ) (most : ℕ) → length graph.names ≡ suc most → target < length graph.names
    → LeavesAll graph target files → visit graph (length graph.names) [] target [] ≡ Left files
unfolding IsDistinct
all_left graph target files most n b h =
    let room : HasRoom graph most [] target = record { place = b; new = refl; distinct = tt; below = λ q h. cc; enough = omega (arith, n) } in
    ap (λ fuel. visit graph fuel [] target []) n ∙ leaves_comes graph most [] target AFile [] files room h

some_names : (count target : ℕ) → target < count → (most : ℕ) × (count ≡ suc most)
some_names zero target b = absurd (omega (arith, b))
some_names (suc most) target b = (most, refl)

pub listed_leaves : (graph : Graph) (target : ℕ) (files : List ℕ) → target < length graph.names
    → (verdict_of graph target ≡ Files files) ↔ LeavesAll graph target files
listed_leaves graph target files b =
    let names = some_names (length graph.names) target b in (
      λ e. files_of (visit graph (length graph.names) [] target []) (Leaves graph [] target AFile []) files
          (visit_leaves graph (length graph.names) [] target []) e,
      λ h. ap verdict_by (all_left graph target files names.0 names.1 b h),
    )
