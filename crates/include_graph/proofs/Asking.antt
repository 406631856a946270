-- A walk asks for outlines that aren't known, and for no others: no path is longer than there are names.
use Rattle.std.proofs.Common.{◌≡◌, ℕ, zero, suc, ◌+◌, ◌<◌, ◌≤◌, eqb, Bool, true, false, List, [], ◌∷◌, length, Option, Some, None, inl, inr, refl, subst, arith}
use Rattle.std.specs.Prelude.{⊤}
use Rattle.std.specs.List.{IsDistinct}
use Rattle.std.proofs.lemmas.Map.Steps.{length-le_from_distinct_below}
use Rattle.include_graph.specs.declared.outline.Outline.{Outline}
use Rattle.include_graph.specs.declared.outline.OutlineItem.{OutlineItem}
use Rattle.include_graph.specs.declared.outline.OutlineItem.TheVariants as item
use Rattle.include_graph.specs.declared.verdicts.Verdict.TheVariants.{NeedOutline}
use Rattle.include_graph.specs.Verdicts.{Graph, Walked, Left, Unknown, Faulty, walk_then, number_of, is_among, at_target, at_include, at_items, at_outline, visit, verdict_by, verdict_of}
use Rattle.include_graph.proofs.Among.{among_cases, distinct_with, number_below}

abbrev AsksWell : Graph → Walked → Type 0
AsksWell graph (Left left) = ⊤
AsksWell graph (Unknown file) = graph.outlines file ≡ None
AsksWell graph (Faulty fault) = ⊤

then_asks : (graph : Graph) (walked : Walked) (next : List ℕ → Walked) → AsksWell graph walked → ((left : List ℕ) → AsksWell graph (next left))
    → AsksWell graph (walk_then walked next)
then_asks graph (Left left) next h all = all left
then_asks graph (Unknown file) next h all = h
then_asks graph (Faulty fault) next h all = tt

module _ (graph : Graph) (go : ℕ → List ℕ → Walked) (path : List ℕ) (file : ℕ) (well : (target : ℕ) (left : List ℕ) → target < length graph.names
    → is_among target path ≡ false → AsksWell graph (go target left)) where
  target_asks : (on_path was_left : Bool) (offset target : ℕ) (left : List ℕ) → target < length graph.names → is_among target path ≡ on_path
      → AsksWell graph (at_target go on_path was_left file offset target left)
  target_asks true was_left offset target left b p = tt
  target_asks false true offset target left b p = tt
  target_asks false false offset target left b p = well target left b p

  include_asks : (offset : ℕ) (number : Option ℕ) (left : List ℕ) → ((target : ℕ) → number ≡ Some target → target < length graph.names)
      → AsksWell graph (at_include go path file offset number left)
  include_asks offset None left b = tt
  include_asks offset (Some target) left b = target_asks (is_among target path) (is_among target left) offset target left (b target refl) refl

  items_ask : (items : List OutlineItem) (left : List ℕ) → AsksWell graph (at_items go graph.names path file items left)
  items_ask [] left = tt
  items_ask (item.Include name offset ∷ items) left =
      then_asks graph (at_include go path file offset (number_of name graph.names) left) (at_items go graph.names path file items)
      (include_asks offset (number_of name graph.names) left (λ target e. number_below target name graph.names e)) (items_ask items)
  items_ask (item.Broken kind offset ∷ items) left = tt

  outline_asks : (known : Option Outline) → graph.outlines file ≡ known → (left : List ℕ) → AsksWell graph (at_outline go graph.names path file known left)
  outline_asks None e left = e
  outline_asks (Some outline) e left = items_ask outline.items left

visit_asks : (graph : Graph) (most : ℕ) (path : List ℕ) (file : ℕ) (left : List ℕ) → file < length graph.names → is_among file path ≡ false
    → IsDistinct eqb path
    → ((q : ℕ) → is_among q path ≡ true → q < length graph.names) → length graph.names ≤ most + length path → AsksWell graph (visit graph most path file left)
visit_asks graph zero path file left b n d below enough =
    let few = length-le_from_distinct_below (file ∷ path) (length graph.names) (distinct_with file path n d)
    (λ q h. elim (among_cases q file path h) [ inl e ↦ omega (arith, e, b) | inr h ↦ below q h ]) in
    absurd (omega (arith, few, enough))
visit_asks graph (suc most) path file left b n d below enough =
    outline_asks graph (visit graph most (file ∷ path)) (file ∷ path) file
    (λ target next b2 n2. visit_asks graph most (file ∷ path) target next b2 n2 (distinct_with file path n d)
    (λ q h. elim (among_cases q file path h) [ inl e ↦ omega (arith, e, b) | inr h ↦ below q h ]) (omega (arith, enough)))
    (graph.outlines file) refl left

asked : (graph : Graph) (walked : Walked) (file : ℕ) → AsksWell graph walked → verdict_by walked ≡ NeedOutline file → graph.outlines file ≡ None
asked graph (Left left) file h e = cc
asked graph (Unknown other) file h e = let same : other ≡ file = cc in subst (λ f. graph.outlines f ≡ None) same h
asked graph (Faulty fault) file h e = cc

pub asks_unknown : (graph : Graph) (target file : ℕ) → target < length graph.names → verdict_of graph target ≡ NeedOutline file → graph.outlines file ≡ None
unfolding IsDistinct
asks_unknown graph target file b e =
    asked graph (visit graph (length graph.names) [] target []) file (visit_asks graph (length graph.names) [] target [] b refl tt (λ q h. cc)
    (omega arith)) e
