-- Includes lead to where a walk stops.
use Rattle.std.proofs.Common.{◌≡◌, ℕ, zero, suc, ◌<◌, Bool, true, false, List, [], ◌∷◌, length, Option, Some, None, refl, ap, subst, arith}
use Rattle.std.specs.Prelude.{⊤, Contains}
use Rattle.djvu_base.specs.declared.faults.Fault.{Fault}
use Rattle.include_graph.specs.declared.outline.Outline.{Outline}
use Rattle.include_graph.specs.declared.outline.OutlineItem.{OutlineItem}
use Rattle.include_graph.specs.declared.outline.OutlineItem.TheVariants as item
use Rattle.include_graph.specs.declared.verdicts.Verdict.TheVariants.{NeedOutline, Refused}
use Rattle.include_graph.specs.Verdicts.{Graph, Walked, Left, Unknown, Faulty, walk_then, number_of, is_among, at_target, at_include, at_items, at_outline, visit, verdict_by, verdict_of}
use Rattle.include_graph.specs.Graphs.{HasItem, Includes, IsWay, HasFault, lacks_file, comes_back, is_broken, LeadsTo}
use Rattle.include_graph.proofs.Among.{number_below}

-- includes lead from the target to the file where a walk stops
abbrev Stops : Graph → ℕ → Walked → Type 0
Stops graph target (Left left) = ⊤
Stops graph target (Unknown file) = (path : List ℕ) × IsWay graph target (file ∷ path)
Stops graph target (Faulty fault) = LeadsTo graph target fault

then_stops : (graph : Graph) (target : ℕ) (walked : Walked) (next : List ℕ → Walked) → Stops graph target walked
    → ((left : List ℕ) → Stops graph target (next left)) → Stops graph target (walk_then walked next)
then_stops graph target (Left left) next h all = all left
then_stops graph target (Unknown file) next h all = h
then_stops graph target (Faulty fault) next h all = h

first_item : (found : OutlineItem) (items : List OutlineItem) → Contains (found ∷ items) found
first_item found items = (zero, omega arith, refl)

later_item : (first found : OutlineItem) (items : List OutlineItem) → Contains items found → Contains (first ∷ items) found
later_item first found items h = let b = h.1 in (suc h.0, omega (arith, b), h.2)

module _ (graph : Graph) (target : ℕ) (go : ℕ → List ℕ → Walked) (path : List ℕ) (file : ℕ) (way : IsWay graph target (file ∷ path))
    (further : (next : ℕ) (left : List ℕ) → IsWay graph target (next ∷ file ∷ path) → Stops graph target (go next left)) where
  fault_here : (fault : Fault) → HasFault graph path file fault → LeadsTo graph target fault
  fault_here fault has = record { file = file; path = path; way = way; has = has }

  target_stops : (on_path was_left : Bool) (name : List ℕ) (offset next : ℕ) (left : List ℕ) → HasItem graph file (item.Include name offset)
      → number_of name graph.names ≡ Some next → is_among next (file ∷ path) ≡ on_path
      → Stops graph target (at_target go on_path was_left file offset next left)
  target_stops true was_left name offset next left has e p = fault_here _ (comes_back name offset next has e p refl)
  target_stops false true name offset next left has e p = tt
  target_stops false false name offset next left has e p =
      let includes : Includes graph file next = record { name = name; offset = offset; has = has; number = e } in
      further next left (includes, way)

  include_stops : (name : List ℕ) (offset : ℕ) (number : Option ℕ) (left : List ℕ) → HasItem graph file (item.Include name offset)
      → number_of name graph.names ≡ number → Stops graph target (at_include go (file ∷ path) file offset number left)
  include_stops name offset None left has e = fault_here _ (lacks_file name offset has e refl)
  include_stops name offset (Some next) left has e =
      target_stops (is_among next (file ∷ path)) (is_among next left) name offset next left has e refl

  items_stop : (items : List OutlineItem) (left : List ℕ) → ((found : OutlineItem) → Contains items found → HasItem graph file found)
      → Stops graph target (at_items go graph.names (file ∷ path) file items left)
  items_stop [] left all = tt
  items_stop (item.Include name offset ∷ items) left all =
      let first = item.Include name offset in
      then_stops graph target (at_include go (file ∷ path) file offset (number_of name graph.names) left)
      (at_items go graph.names (file ∷ path) file items)
      (include_stops name offset (number_of name graph.names) left (all first (first_item first items)) refl)
      (λ next. items_stop items next (λ found h. all found (later_item first found items h)))
  items_stop (item.Broken kind offset ∷ items) left all =
      let first = item.Broken kind offset in
      fault_here _ (is_broken kind offset (all first (first_item first items)) refl)

  outline_stops : (known : Option Outline) → graph.outlines file ≡ known → (left : List ℕ)
      → Stops graph target (at_outline go graph.names (file ∷ path) file known left)
  outline_stops None e left = (path, way)
  outline_stops (Some outline) e left = items_stop outline.items left (λ found h. record { outline = outline; known = e; has = h })

visit_stops : (graph : Graph) (target most : ℕ) (path : List ℕ) (file : ℕ) (left : List ℕ) → IsWay graph target (file ∷ path)
    → Stops graph target (visit graph most path file left)
visit_stops graph target zero path file left way = (path, way)
visit_stops graph target (suc most) path file left way =
    outline_stops graph target (visit graph most (file ∷ path)) path file way
    (λ next after on. visit_stops graph target most (file ∷ path) next after on) (graph.outlines file) refl left

way_asked : (graph : Graph) (target file : ℕ) (walked : Walked) → Stops graph target walked → verdict_by walked ≡ NeedOutline file
    → (path : List ℕ) × IsWay graph target (file ∷ path)
way_asked graph target file (Left left) h e = cc
way_asked graph target file (Unknown other) h e =
    let same : other ≡ file = cc in subst (λ f. (path : List ℕ) × IsWay graph target (f ∷ path)) same h
way_asked graph target file (Faulty fault) h e = cc

way_refused : (graph : Graph) (target : ℕ) (fault : Fault) (walked : Walked) → Stops graph target walked → verdict_by walked ≡ Refused fault
    → LeadsTo graph target fault
way_refused graph target fault (Left left) h e = cc
way_refused graph target fault (Unknown file) h e = cc
way_refused graph target fault (Faulty other) h e = let same : other ≡ fault = cc in subst (λ f. LeadsTo graph target f) same h

pub asked_way : (graph : Graph) (target file : ℕ) → verdict_of graph target ≡ NeedOutline file → (path : List ℕ) × IsWay graph target (file ∷ path)
asked_way graph target file e =
    way_asked graph target file (visit graph (length graph.names) [] target []) (visit_stops graph target (length graph.names) [] target [] refl) e

pub refused_way : (graph : Graph) (target : ℕ) (fault : Fault) → verdict_of graph target ≡ Refused fault → LeadsTo graph target fault
refused_way graph target fault e =
    way_refused graph target fault (visit graph (length graph.names) [] target []) (visit_stops graph target (length graph.names) [] target [] refl) e

way_below : (graph : Graph) (target : ℕ) → target < length graph.names → (path : List ℕ) (file : ℕ) → IsWay graph target (file ∷ path)
    → file < length graph.names
way_below graph target b [] file e = omega (arith, b, e)
way_below graph target b (above ∷ path) file way = number_below file way.0.name graph.names way.0.number

pub asked_below : (graph : Graph) (target file : ℕ) → target < length graph.names → verdict_of graph target ≡ NeedOutline file → file < length graph.names
asked_below graph target file b e = let way = asked_way graph target file e in way_below graph target b way.0 file way.1

place_of_fault : (graph : Graph) (path : List ℕ) (file : ℕ) (fault : Fault) → HasFault graph path file fault → fault.place.file ≡ file
place_of_fault graph path file fault (lacks_file name offset has none is) = ap (λ f. f.place.file) is
place_of_fault graph path file fault (comes_back name offset next has number among is) = ap (λ f. f.place.file) is
place_of_fault graph path file fault (is_broken kind offset has is) = ap (λ f. f.place.file) is

pub fault_below : (graph : Graph) (target : ℕ) (fault : Fault) → target < length graph.names → verdict_of graph target ≡ Refused fault
    → fault.place.file < length graph.names
fault_below graph target fault b e =
    let leads = refused_way graph target fault e in
    let same = place_of_fault graph leads.path leads.file fault leads.has in
    let place = way_below graph target b leads.path leads.file leads.way in
    omega (arith, same, place)
