-- The steps of a walk over outlines, over plain lists.
use Rattle.std.proofs.Common.{◌≡◌, ℕ, zero, suc, ◌+◌, ◌-◌, ◌<◌, ◌≤◌, List, [], ◌∷◌, ◌++◌, length, map, drop, get_or, Option, Some, None, refl, sym, ap, ◌∙◌, arith, drop-cons, add-one}
use Rattle.std.proofs.lemmas.List.{drop_all}
use Rattle.std.specs.declared.sync.Arc.{Arc}
use Rattle.include_graph.specs.declared.outline.Outline.{Outline}
use Rattle.include_graph.specs.declared.outline.OutlineItem.{OutlineItem}
use Rattle.include_graph.specs.declared.outline.OutlineItem.TheVariants as item
use Rattle.include_graph.specs.declared.stack.Frame.{Frame}
use Rattle.include_graph.specs.Verdicts.{Graph, Walked, Left, Unknown, Faulty, walk_then, number_of, at_include, at_items, at_outline, visit, in_list, outline_in, refused}
use Rattle.include_graph.specs.Stack.{path_of, down, rest_of_walk, items_known, items_left}

-- an outline at its place in the list
pub in_list_at : {Z : Type 0} (outlines : List (Option (Arc Outline Z))) (file : ℕ) (outline : Option (Arc Outline Z)) → file < length outlines
    → outline ≡ get_or outlines file outline → in_list (map outline_in outlines) file ≡ outline_in outline
in_list_at [] file outline b e = absurd (omega (arith, b))
in_list_at (first ∷ outlines) zero outline b e = ap outline_in (sym e)
in_list_at (first ∷ outlines) (suc file) outline b e = in_list_at outlines file outline (omega (arith, b)) e

pub then_both : (walked : Walked) (next last : List ℕ → Walked)
    → walk_then (walk_then walked next) last ≡ walk_then walked (λ left. walk_then (next left) last)
then_both (Left left) next last = refl
then_both (Unknown file) next last = refl
then_both (Faulty fault) next last = refl

pub then_left_is : (walked : Walked) → walk_then walked (λ left. Left left) ≡ walked
then_left_is (Left left) = refl
then_left_is (Unknown file) = refl
then_left_is (Faulty fault) = refl

known_items : (go : ℕ → List ℕ → Walked) (names : List (List ℕ)) (path : List ℕ) (file : ℕ) (left : List ℕ) (known : Option Outline)
    (outline : Outline) → known ≡ Some outline
    → at_outline go names path file known left ≡ at_items go names path file (items_known known) left
known_items go names path file left None outline e = cc
known_items go names path file left (Some known) outline e = refl

unknown_halts : (go : ℕ → List ℕ → Walked) (names : List (List ℕ)) (path : List ℕ) (file : ℕ) (left : List ℕ) (known : Option Outline)
    → known ≡ None → at_outline go names path file known left ≡ Unknown file
unknown_halts go names path file left None e = refl
unknown_halts go names path file left (Some known) e = cc

module _ (graph : Graph) (path : List ℕ) (target : ℕ) (left : List ℕ) (room : length path < length graph.names) where
  below : down graph path target left ≡ at_outline (down graph (target ∷ path)) graph.names (target ∷ path) target (graph.outlines target) left
  below =
      let one : length graph.names - length path ≡ suc (length graph.names - suc (length path)) = omega (arith, room) in
      ap (λ most. visit graph most path target left) one

  pub down_known : (frames : List Frame) → path_of frames ≡ path → (outline : Outline) → graph.outlines target ≡ Some outline
      → walk_then (down graph path target left) (rest_of_walk graph frames) ≡ rest_of_walk graph (record { file = target; passed = 0 } ∷ frames) left
  down_known frames same outline e =
      ap (λ w. walk_then w (rest_of_walk graph frames)) (below
      ∙ known_items (down graph (target ∷ path)) graph.names (target ∷ path) target left (graph.outlines target) outline e)
      ∙ ap (λ p. walk_then (at_items (down graph (target ∷ p)) graph.names (target ∷ p) target (items_known (graph.outlines target)) left)
      (rest_of_walk graph frames)) (sym same)

  pub down_unknown : (last : List ℕ → Walked) → graph.outlines target ≡ None → walk_then (down graph path target left) last ≡ Unknown target
  down_unknown last e = ap (λ w. walk_then w last) (below ∙ unknown_halts (down graph (target ∷ path)) graph.names (target ∷ path) target left
      (graph.outlines target) e)

-- what is left of a file's items
pub item_next : (graph : Graph) (frame : Frame) (next : OutlineItem) → frame.passed < length (items_known (graph.outlines frame.file))
    → next ≡ get_or (items_known (graph.outlines frame.file)) frame.passed next
    → items_left graph frame ≡ next ∷ drop (frame.passed + 1) (items_known (graph.outlines frame.file))
item_next graph frame next b e =
    let items = items_known (graph.outlines frame.file) in
    drop-cons items frame.passed next b ∙ ap (λ i. i ∷ drop (suc frame.passed) items) (sym e) ∙ ap (λ n. next ∷ drop n items) (sym (add-one frame.passed))

module _ (graph : Graph) (frame : Frame) (frames : List Frame) (left : List ℕ) where
  abbrev go : ℕ → List ℕ → Walked
  go = down graph (path_of (frame ∷ frames))

  by_items : (items : List OutlineItem) → items_left graph frame ≡ items
      → rest_of_walk graph (frame ∷ frames) left ≡ walk_then (at_items go graph.names (path_of (frame ∷ frames)) frame.file items left)
      (rest_of_walk graph frames)
  by_items items e = ap (λ is. walk_then (at_items go graph.names (path_of (frame ∷ frames)) frame.file is left) (rest_of_walk graph frames)) e

  pub rest_left : length (items_known (graph.outlines frame.file)) ≤ frame.passed
      → rest_of_walk graph (frame ∷ frames) left ≡ rest_of_walk graph frames (left ++ frame.file ∷ [])
  rest_left b = by_items [] (drop_all frame.passed (items_known (graph.outlines frame.file)) b)

  pub rest_broken : (kind : _) (offset : ℕ) (more : List OutlineItem) → items_left graph frame ≡ item.Broken kind offset ∷ more
      → rest_of_walk graph (frame ∷ frames) left ≡ refused kind frame.file offset
  rest_broken kind offset more e = by_items (item.Broken kind offset ∷ more) e

  pub rest_include : (name : List ℕ) (offset : ℕ) → items_left graph frame ≡ item.Include name offset ∷ drop (frame.passed + 1)
      (items_known (graph.outlines frame.file))
      → rest_of_walk graph (frame ∷ frames) left ≡ walk_then (at_include go (path_of (frame ∷ frames)) frame.file offset (number_of name graph.names)
      left) (rest_of_walk graph (record { file = frame.file; passed = frame.passed + 1 } ∷ frames))
  rest_include name offset e =
      by_items (item.Include name offset ∷ drop (frame.passed + 1) (items_known (graph.outlines frame.file))) e
      ∙ then_both (at_include go (path_of (frame ∷ frames)) frame.file offset (number_of name graph.names) left)
      (at_items go graph.names (path_of (frame ∷ frames)) frame.file (drop (frame.passed + 1) (items_known (graph.outlines frame.file))))
      (rest_of_walk graph frames)
