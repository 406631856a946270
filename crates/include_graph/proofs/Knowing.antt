-- Verdicts with more outlines known.
use Rattle.std.proofs.Common.{◌≡◌, ℕ, zero, suc, Bool, true, false, List, [], ◌∷◌, length, Option, Some, None, refl, sym, ap, subst}
use Rattle.include_graph.specs.declared.outline.Outline.{Outline}
use Rattle.include_graph.specs.declared.outline.OutlineItem.{OutlineItem}
use Rattle.include_graph.specs.declared.outline.OutlineItem.TheVariants as item
use Rattle.include_graph.specs.Verdicts.{Graph, Walked, Left, Unknown, Faulty, walk_then, number_of, is_among, at_target, at_include, at_items, at_outline, visit, verdict_by, verdict_of}
use Rattle.include_graph.specs.Graphs.{KnownOn, VerdictOn, same_verdict, was_unknown}

data WalkOn (outlines : ℕ → Option Outline) (a b : Walked) : Type 0 where
  steady : a ≡ b → WalkOn outlines a b
  lacked : (file : ℕ) (outline : Outline) → a ≡ Unknown file → outlines file ≡ Some outline → WalkOn outlines a b

abbrev GoOn : (ℕ → Option Outline) → (ℕ → List ℕ → Walked) → (ℕ → List ℕ → Walked) → Type 0
GoOn outlines go other = (file : ℕ) (left : List ℕ) → WalkOn outlines (go file left) (other file left)

then_on : (outlines : ℕ → Option Outline) (a b : Walked) (next other : List ℕ → Walked) → ((left : List ℕ)
    → WalkOn outlines (next left) (other left)) → WalkOn outlines a b → WalkOn outlines (walk_then a next) (walk_then b other)
then_on outlines (Left left) b next other all (steady e) = subst (λ w. WalkOn outlines (next left) (walk_then w other)) e (all left)
then_on outlines (Unknown file) b next other all (steady e) = steady (ap (λ w. walk_then w other) e)
then_on outlines (Faulty fault) b next other all (steady e) = steady (ap (λ w. walk_then w other) e)
then_on outlines a b next other all (lacked file outline e is) = lacked file outline (ap (λ w. walk_then w next) e) is

target_on : (outlines : ℕ → Option Outline) (go other : ℕ → List ℕ → Walked) → GoOn outlines go other
    → (on_path was_left : Bool) (file offset target : ℕ) (left : List ℕ)
    → WalkOn outlines (at_target go on_path was_left file offset target left) (at_target other on_path was_left file offset target left)
target_on outlines go other all true was_left file offset target left = steady refl
target_on outlines go other all false true file offset target left = steady refl
target_on outlines go other all false false file offset target left = all target left

include_on : (outlines : ℕ → Option Outline) (go other : ℕ → List ℕ → Walked) → GoOn outlines go other
    → (path : List ℕ) (file offset : ℕ) (target : Option ℕ) (left : List ℕ)
    → WalkOn outlines (at_include go path file offset target left) (at_include other path file offset target left)
include_on outlines go other all path file offset None left = steady refl
include_on outlines go other all path file offset (Some target) left = target_on outlines go other all (is_among target path) (is_among target left)
    file offset target left

items_on : (outlines : ℕ → Option Outline) (go other : ℕ → List ℕ → Walked) → GoOn outlines go other
    → (names : List (List ℕ)) (path : List ℕ) (file : ℕ) (items : List OutlineItem) (left : List ℕ)
    → WalkOn outlines (at_items go names path file items left) (at_items other names path file items left)
items_on outlines go other all names path file [] left = steady refl
items_on outlines go other all names path file (item.Include name offset ∷ items) left =
    let target = number_of name names in
    then_on outlines (at_include go path file offset target left) (at_include other path file offset target left) (at_items go names path file items)
    (at_items other names path file items)
    (items_on outlines go other all names path file items) (include_on outlines go other all path file offset target left)
items_on outlines go other all names path file (item.Broken kind offset ∷ items) left = steady refl

outline_on : (outlines : ℕ → Option Outline) (go other : ℕ → List ℕ → Walked) → GoOn outlines go other
    → (names : List (List ℕ)) (path : List ℕ) (file : ℕ) (less more : Option Outline) (left : List ℕ)
    → ((outline : Outline) → less ≡ Some outline → more ≡ Some outline) → outlines file ≡ more
    → WalkOn outlines (at_outline go names path file less left) (at_outline other names path file more left)
outline_on outlines go other all names path file None None left on is = steady refl
outline_on outlines go other all names path file None (Some outline) left on is = lacked file outline refl is
outline_on outlines go other all names path file (Some outline) more left on is =
    subst (λ o. WalkOn outlines (at_items go names path file outline.items left) (at_outline other names path file o left)) (sym (on outline refl))
    (items_on outlines go other all names path file outline.items left)

abbrev graph_of : List (List ℕ) → (ℕ → Option Outline) → Graph
graph_of names outlines = record { names = names; outlines = outlines }

visit_on : (names : List (List ℕ)) (less more : ℕ → Option Outline) → KnownOn less more → (most : ℕ) (path : List ℕ) (file : ℕ) (left : List ℕ)
    → WalkOn more (visit (graph_of names less) most path file left) (visit (graph_of names more) most path file left)
visit_on names less more on zero path file left = steady refl
visit_on names less more on (suc most) path file left =
    outline_on more (visit (graph_of names less) most (file ∷ path)) (visit (graph_of names more) most (file ∷ path))
    (visit_on names less more on most (file ∷ path)) names (file ∷ path) file (less file) (more file) left (on file) refl

by_walk : (outlines : ℕ → Option Outline) (a b : Walked) → WalkOn outlines a b → VerdictOn outlines (verdict_by a) (verdict_by b)
by_walk outlines a b (steady e) = same_verdict (ap verdict_by e)
by_walk outlines a b (lacked file outline e is) = was_unknown file outline (ap verdict_by e) is

pub verdict_on : (names : List (List ℕ)) (less more : ℕ → Option Outline) (file : ℕ) → KnownOn less more
    → VerdictOn more (verdict_of (record { names = names; outlines = less }) file) (verdict_of (record { names = names; outlines = more }) file)
verdict_on names less more file on =
    by_walk more (visit (graph_of names less) (length names) [] file []) (visit (graph_of names more) (length names) [] file [])
    (visit_on names less more on (length names) [] file [])
