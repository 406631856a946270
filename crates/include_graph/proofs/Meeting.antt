-- A verdict is what a walk meets first that remembers no file: what was left before meets nothing again.
use Rattle.std.proofs.Common.{◌≡◌, ℕ, zero, suc, ◌+◌, ◌<◌, ◌≤◌, eqb, Bool, true, false, List, [], ◌∷◌, length, Option, Some, None, inl, inr, refl, sym, ap, ◌∙◌, subst, arith}
use Rattle.std.specs.Prelude.{◌↔◌}
use Rattle.std.specs.List.{IsDistinct}
use Rattle.std.proofs.lemmas.Map.Steps.{length-le_from_distinct_below}
use Rattle.djvu_base.specs.declared.faults.Fault.{Fault}
use Rattle.include_graph.specs.declared.outline.Outline.{Outline}
use Rattle.include_graph.specs.declared.outline.OutlineItem.{OutlineItem}
use Rattle.include_graph.specs.declared.outline.OutlineItem.TheVariants as item
use Rattle.include_graph.specs.declared.verdicts.Verdict.TheVariants.{Files, NeedOutline, Refused}
use Rattle.include_graph.specs.Verdicts.{Graph, Walked, Left, Unknown, Faulty, walk_then, number_of, is_among, at_target, at_include, at_items, at_outline, visit, verdict_by, verdict_of}
use Rattle.include_graph.specs.Graphs.{IncludesAmong, IsServed, InOrder}
use Rattle.include_graph.specs.Walks.{Met, MetNothing, MetUnknown, MetFault, Stops, Ahead, AFile, Items, Meets, not_known, into_file, all_passed, at_break, at_missing, at_cycle, stops_below, passes, MeetsFirst}
use Rattle.include_graph.proofs.Among.{not_both, by_test, among_cases, distinct_with, number_below}
use Rattle.include_graph.proofs.Ordering.{OnLeft, IsSound, Passed, sound_below, visit_passed}
use Rattle.include_graph.proofs.Serving.{stands, shorter, apart_below, same_outline, same_number, not_some}

-- what a walk met that came to this
abbrev met_by : Walked → Met
met_by (Left left) = MetNothing
met_by (Unknown file) = MetUnknown file
met_by (Faulty fault) = MetFault fault

unknown_and_known : {A : Type 0} (known : Option Outline) (outline : Outline) → known ≡ None → known ≡ Some outline → A
unknown_and_known None outline e f = cc
unknown_and_known (Some other) outline e f = cc

missing_and_there : {A : Type 0} (number : Option ℕ) (next : ℕ) → number ≡ None → number ≡ Some next → A
missing_and_there number next e f = absurd (not_some number next e f)

-- the same file, by its number
same_next : (number : Option ℕ) (next other : ℕ) → number ≡ Some next → number ≡ Some other → other ≡ next
same_next number next other e f = same_number other next (sym f ∙ e)

on_and_off : {A : Type 0} (number : Option ℕ) (path : List ℕ) (next other : ℕ) → number ≡ Some next → number ≡ Some other
    → is_among next path ≡ true → is_among other path ≡ false → A
on_and_off number path next other e f on off =
    not_both (is_among next path) on (subst (λ n. is_among n path ≡ false) (same_next number next other e f) off)

stopped : {A : Type 0} (met : Met) → MetNothing ≡ met → Stops met → A
stopped met e s = absurd (subst Stops (sym e) s)

module _ (graph : Graph) where
  -- only one thing is met first
  same_met : (path : List ℕ) (file : ℕ) (ahead : Ahead) (a b : Met) → Meets graph path file ahead a → Meets graph path file ahead b → a ≡ b
  same_met _ _ _ _ _ (not_known path file e) (not_known _ _ f) = refl
  same_met _ _ _ _ _ (not_known path file e) (into_file _ _ outline b f m) = unknown_and_known (graph.outlines file) outline e f
  same_met _ _ _ _ _ (into_file path file outline a f m) (not_known _ _ e) = unknown_and_known (graph.outlines file) outline e f
  same_met _ _ _ _ _ (into_file path file outline a e m) (into_file _ _ other b f n) =
      same_met path file (Items outline.items) a b m
      (subst (λ o. Meets graph path file (Items o.items) b) (same_outline other outline (sym f ∙ e)) n)
  same_met _ _ _ _ _ (all_passed path file) (all_passed _ _) = refl
  same_met _ _ _ _ _ (at_break path file kind offset items) (at_break _ _ _ _ _) = refl
  same_met _ _ _ _ _ (at_missing path file name offset items e) (at_missing _ _ _ _ _ f) = refl
  same_met _ _ _ _ _ (at_missing path file name offset items e) (at_cycle _ _ _ _ _ next f on) =
      missing_and_there (number_of name graph.names) next e f
  same_met _ _ _ _ _ (at_missing path file name offset items e) (stops_below _ _ _ _ _ next b f off n s) =
      missing_and_there (number_of name graph.names) next e f
  same_met _ _ _ _ _ (at_missing path file name offset items e) (passes _ _ _ _ _ next b f off n more) =
      missing_and_there (number_of name graph.names) next e f
  same_met _ _ _ _ _ (at_cycle path file name offset items next f on) (at_missing _ _ _ _ _ e) =
      missing_and_there (number_of name graph.names) next e f
  same_met _ _ _ _ _ (at_cycle path file name offset items next e on) (at_cycle _ _ _ _ _ other f also) = refl
  same_met _ _ _ _ _ (at_cycle path file name offset items next e on) (stops_below _ _ _ _ _ other b f off n s) =
      on_and_off (number_of name graph.names) (file ∷ path) next other e f on off
  same_met _ _ _ _ _ (at_cycle path file name offset items next e on) (passes _ _ _ _ _ other b f off n more) =
      on_and_off (number_of name graph.names) (file ∷ path) next other e f on off
  same_met _ _ _ _ _ (stops_below path file name offset items next a f off m s) (at_missing _ _ _ _ _ e) =
      missing_and_there (number_of name graph.names) next e f
  same_met _ _ _ _ _ (stops_below path file name offset items next a f off m s) (at_cycle _ _ _ _ _ other e on) =
      on_and_off (number_of name graph.names) (file ∷ path) other next e f on off
  same_met _ _ _ _ _ (stops_below path file name offset items next a e off m s) (stops_below _ _ _ _ _ other b f also n t) =
      same_met (file ∷ path) next AFile a b m
      (subst (λ q. Meets graph (file ∷ path) q AFile b) (same_next (number_of name graph.names) next other e f) n)
  same_met _ _ _ _ _ (stops_below path file name offset items next a e off m s) (passes _ _ _ _ _ other b f also n more) =
      stopped a (sym (same_met (file ∷ path) next AFile a MetNothing m
      (subst (λ q. Meets graph (file ∷ path) q AFile MetNothing) (same_next (number_of name graph.names) next other e f) n))) s
  same_met _ _ _ _ _ (passes path file name offset items next a f off m more) (at_missing _ _ _ _ _ e) =
      missing_and_there (number_of name graph.names) next e f
  same_met _ _ _ _ _ (passes path file name offset items next a f off m more) (at_cycle _ _ _ _ _ other e on) =
      on_and_off (number_of name graph.names) (file ∷ path) other next e f on off
  same_met _ _ _ _ _ (passes path file name offset items next a e off m more) (stops_below _ _ _ _ _ other b f also n s) =
      stopped b (same_met (file ∷ path) next AFile MetNothing b m
      (subst (λ q. Meets graph (file ∷ path) q AFile b) (same_next (number_of name graph.names) next other e f) n)) s
  same_met _ _ _ _ _ (passes path file name offset items next a e off m more) (passes _ _ _ _ _ other b f also n after) =
      same_met path file (Items items) a b more after

-- over items that are includes of files in order, none of them on the path, nothing is met
clear_items : (graph : Graph) (path before : List ℕ) (file : ℕ)
    → ((target : ℕ) → is_among target before ≡ true → Meets graph (file ∷ path) target AFile MetNothing)
    → ((q : ℕ) → is_among q (file ∷ path) ≡ true → is_among q before ≡ false) → (items : List OutlineItem)
    → IncludesAmong graph.names before items → Meets graph path file (Items items) MetNothing
clear_items graph path before file down apart [] all = all_passed path file
clear_items graph path before file down apart (item.Include name offset ∷ items) all =
    let next = all.0.0 in
    let off : is_among next (file ∷ path) ≡ false = by_test (is_among next (file ∷ path))
    (λ on. not_both (is_among next before) all.0.2 (apart next on)) (λ off. off) in
    passes path file name offset items next MetNothing all.0.1 off (down next all.0.2) (clear_items graph path before file down apart items all.1)
clear_items graph path before file down apart (item.Broken kind offset ∷ items) all = absurd all

clear_file : (graph : Graph) (most : ℕ) (path before : List ℕ) (file : ℕ) → length before < most → InOrder graph [] before
    → IsServed graph before file → ((q : ℕ) → is_among q (file ∷ path) ≡ true → is_among q before ≡ false)
    → Meets graph path file AFile MetNothing
clear_file graph zero path before file few o s apart = absurd (omega (arith, few))
clear_file graph (suc most) path before file few o s apart =
    into_file path file s.outline MetNothing s.known (clear_items graph path before file
    (λ target h. let t = stands graph [] before target o h in
    clear_file graph most (file ∷ path) t.first target (shorter t.first t.rest target most (subst (λ b. length b < suc most) t.parts few))
    t.order t.served (apart_below graph (file ∷ path) before target t apart))
    apart s.outline.items s.includes)

-- a file that was left
left_clear : (graph : Graph) (path left : List ℕ) (target : ℕ) → IsSound graph path left → is_among target left ≡ true
    → Meets graph path target AFile MetNothing
left_clear graph path left target s h =
    let t = stands graph [] left target s.order h in
    clear_file graph (suc (length t.first)) path t.first target (omega arith) t.order t.served (apart_below graph path left target t s.apart)

pub on_after : (walked : Walked) (P Q : List ℕ → Type 0) → ((after : List ℕ) → P after → Q after) → OnLeft walked P → OnLeft walked Q
on_after (Left after) P Q step h = step after h
on_after (Unknown other) P Q step h = tt
on_after (Faulty fault) P Q step h = tt

module _ (graph : Graph) (go : ℕ → List ℕ → Walked) (path : List ℕ) (file : ℕ) where
  abbrev MeetsBelow : Type 0
  MeetsBelow = (next : ℕ) (left : List ℕ) → next < length graph.names → is_among next (file ∷ path) ≡ false → is_among next left ≡ false
      → IsSound graph (file ∷ path) left
      → Meets graph (file ∷ path) next AFile (met_by (go next left)) × OnLeft (go next left) (IsSound graph (file ∷ path))

  abbrev rest : List OutlineItem → List ℕ → Walked
  rest items left = at_items go graph.names (file ∷ path) file items left

  abbrev MeetsAt : List OutlineItem → Walked → Type 0
  MeetsAt items walked = Meets graph path file (Items items) (met_by walked)

  below_meets : (name : List ℕ) (offset : ℕ) (items : List OutlineItem) (next : ℕ) (walked : Walked) → number_of name graph.names ≡ Some next
      → is_among next (file ∷ path) ≡ false → Meets graph (file ∷ path) next AFile (met_by walked)
      → OnLeft walked (λ after. MeetsAt items (rest items after)) → MeetsAt (item.Include name offset ∷ items) (walk_then walked (rest items))
  below_meets name offset items next (Left after) e off below on =
      passes path file name offset items next (met_by (rest items after)) e off below on
  below_meets name offset items next (Unknown other) e off below on = stops_below path file name offset items next (MetUnknown other) e off below tt
  below_meets name offset items next (Faulty fault) e off below on = stops_below path file name offset items next (MetFault fault) e off below tt

  target_meets : MeetsBelow → (items : List OutlineItem)
      → ((left : List ℕ) → IsSound graph (file ∷ path) left → MeetsAt items (rest items left)) → (on_path was_left : Bool) (name : List ℕ)
      (offset next : ℕ) (left : List ℕ) → number_of name graph.names ≡ Some next → is_among next (file ∷ path) ≡ on_path
      → is_among next left ≡ was_left → IsSound graph (file ∷ path) left
      → MeetsAt (item.Include name offset ∷ items) (walk_then (at_target go on_path was_left file offset next left) (rest items))
  target_meets down items on true was_left name offset next left e p l s = at_cycle path file name offset items next e p
  target_meets down items on false true name offset next left e p l s =
      passes path file name offset items next (met_by (rest items left)) e p (left_clear graph (file ∷ path) left next s l) (on left s)
  target_meets down items on false false name offset next left e p l s =
      let below = down next left (number_below next name graph.names e) p l s in
      below_meets name offset items next (go next left) e p below.0
      (on_after (go next left) (IsSound graph (file ∷ path)) (λ after. MeetsAt items (rest items after)) on below.1)

  include_meets : MeetsBelow → (items : List OutlineItem)
      → ((left : List ℕ) → IsSound graph (file ∷ path) left → MeetsAt items (rest items left)) → (name : List ℕ) (offset : ℕ)
      (number : Option ℕ) (left : List ℕ) → number_of name graph.names ≡ number → IsSound graph (file ∷ path) left
      → MeetsAt (item.Include name offset ∷ items) (walk_then (at_include go (file ∷ path) file offset number left) (rest items))
  include_meets down items on name offset None left e s = at_missing path file name offset items e
  include_meets down items on name offset (Some next) left e s =
      target_meets down items on (is_among next (file ∷ path)) (is_among next left) name offset next left e refl refl s

  items_meet : MeetsBelow → (items : List OutlineItem) (left : List ℕ) → IsSound graph (file ∷ path) left → MeetsAt items (rest items left)
  items_meet down [] left s = all_passed path file
  items_meet down (item.Include name offset ∷ items) left s =
      include_meets down items (items_meet down items) name offset (number_of name graph.names) left refl s
  items_meet down (item.Broken kind offset ∷ items) left s = at_break path file kind offset items

  outline_meets : MeetsBelow → (known : Option Outline) → graph.outlines file ≡ known → (left : List ℕ) → IsSound graph (file ∷ path) left
      → Meets graph path file AFile (met_by (at_outline go graph.names (file ∷ path) file known left))
  outline_meets down None e left s = not_known path file e
  outline_meets down (Some outline) e left s = into_file path file outline (met_by (rest outline.items left)) e (items_meet down outline.items left s)

  still_sound : (walked : Walked) (left : List ℕ) (next : ℕ) → OnLeft walked (Passed graph (file ∷ path) left next)
      → OnLeft walked (IsSound graph (file ∷ path))
  still_sound walked left next h =
      on_after walked (Passed graph (file ∷ path) left next) (IsSound graph (file ∷ path)) (λ after p. p.sound) h

visit_meets : (graph : Graph) (most : ℕ) (path : List ℕ) (file : ℕ) (left : List ℕ) → file < length graph.names → is_among file path ≡ false
    → is_among file left ≡ false → IsSound graph path left → IsDistinct eqb path
    → ((q : ℕ) → is_among q path ≡ true → q < length graph.names) → length graph.names ≤ most + length path
    → Meets graph path file AFile (met_by (visit graph most path file left))
visit_meets graph zero path file left b new n s d below enough =
    let few = length-le_from_distinct_below (file ∷ path) (length graph.names) (distinct_with file path new d)
    (λ q h. elim (among_cases q file path h) [ inl e ↦ omega (arith, e, b) | inr h ↦ below q h ]) in
    absurd (omega (arith, few, enough))
visit_meets graph (suc most) path file left b new n s d below enough =
    outline_meets graph (visit graph most (file ∷ path)) path file
    (λ next after b2 p2 l2 s2. (
      visit_meets graph most (file ∷ path) next after b2 p2 l2 s2 (distinct_with file path new d)
          (λ q h. elim (among_cases q file path h) [ inl e ↦ omega (arith, e, b) | inr h ↦ below q h ]) (omega (arith, enough)),
      still_sound graph (visit graph most (file ∷ path)) path file (visit graph most (file ∷ path) next after) after next
          (visit_passed graph most (file ∷ path) next after b2 p2 l2 s2),
    ))
    (graph.outlines file) refl left (sound_below graph path left file s n)

target_meets_first : (graph : Graph) (target : ℕ) → target < length graph.names
    → MeetsFirst graph target (met_by (visit graph (length graph.names) [] target []))
unfolding IsDistinct
target_meets_first graph target b =
    visit_meets graph (length graph.names) [] target [] b refl refl (record { order = tt; apart = λ q h. refl }) tt (λ q h. cc) (omega arith)

-- what is met first is what the walk came to
met_so : (graph : Graph) (target : ℕ) (met : Met) → target < length graph.names → MeetsFirst graph target met
    → met_by (visit graph (length graph.names) [] target []) ≡ met
met_so graph target met b m =
    same_met graph [] target AFile (met_by (visit graph (length graph.names) [] target [])) met (target_meets_first graph target b) m

fault_met : (walked : Walked) (fault : Fault) → verdict_by walked ≡ Refused fault → met_by walked ≡ MetFault fault
fault_met (Left left) fault e = cc
fault_met (Unknown file) fault e = cc
fault_met (Faulty other) fault e = let same : other ≡ fault = cc in ap MetFault same

met_fault : (walked : Walked) (fault : Fault) → met_by walked ≡ MetFault fault → verdict_by walked ≡ Refused fault
met_fault (Left left) fault e = cc
met_fault (Unknown file) fault e = cc
met_fault (Faulty other) fault e = let same : other ≡ fault = cc in ap Refused same

unknown_met : (walked : Walked) (file : ℕ) → verdict_by walked ≡ NeedOutline file → met_by walked ≡ MetUnknown file
unknown_met (Left left) file e = cc
unknown_met (Unknown other) file e = let same : other ≡ file = cc in ap MetUnknown same
unknown_met (Faulty fault) file e = cc

met_unknown : (walked : Walked) (file : ℕ) → met_by walked ≡ MetUnknown file → verdict_by walked ≡ NeedOutline file
met_unknown (Left left) file e = cc
met_unknown (Unknown other) file e = let same : other ≡ file = cc in ap NeedOutline same
met_unknown (Faulty fault) file e = cc

nothing_met : (walked : Walked) (files : List ℕ) → verdict_by walked ≡ Files files → met_by walked ≡ MetNothing
nothing_met (Left left) files e = refl
nothing_met (Unknown file) files e = cc
nothing_met (Faulty fault) files e = cc

met_nothing : (walked : Walked) → met_by walked ≡ MetNothing → (files : List ℕ) × (verdict_by walked ≡ Files files)
met_nothing (Left left) e = (left, refl)
met_nothing (Unknown file) e = cc
met_nothing (Faulty fault) e = cc

pub refused_first : (graph : Graph) (target : ℕ) (fault : Fault) → target < length graph.names
    → (verdict_of graph target ≡ Refused fault) ↔ MeetsFirst graph target (MetFault fault)
refused_first graph target fault b =
    let walked = visit graph (length graph.names) [] target [] in (
      λ e. subst (MeetsFirst graph target) (fault_met walked fault e) (target_meets_first graph target b),
      λ m. met_fault walked fault (met_so graph target (MetFault fault) b m),
    )

pub asked_first : (graph : Graph) (target file : ℕ) → target < length graph.names
    → (verdict_of graph target ≡ NeedOutline file) ↔ MeetsFirst graph target (MetUnknown file)
asked_first graph target file b =
    let walked = visit graph (length graph.names) [] target [] in (
      λ e. subst (MeetsFirst graph target) (unknown_met walked file e) (target_meets_first graph target b),
      λ m. met_unknown walked file (met_so graph target (MetUnknown file) b m),
    )

pub listed_first : (graph : Graph) (target : ℕ) → target < length graph.names
    → ((files : List ℕ) × (verdict_of graph target ≡ Files files)) ↔ MeetsFirst graph target MetNothing
listed_first graph target b =
    let walked = visit graph (length graph.names) [] target [] in (
      λ found. subst (MeetsFirst graph target) (nothing_met walked found.0 found.1) (target_meets_first graph target b),
      λ m. met_nothing walked (met_so graph target MetNothing b m),
    )
