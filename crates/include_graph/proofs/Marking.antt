-- Marks of files, and what they say of the work that is left.
use Rattle.std.proofs.Common.{◌≡◌, ◌≢◌, ℕ, zero, suc, ◌+◌, ◌<◌, eqb, Bool, true, false, ◌||◌, List, [], ◌∷◌, ◌++◌, length, set, Option, Some, inl, inr, refl, sym, ap, ◌∙◌, arith}
use Rattle.std.specs.Prelude.{slice_get, slice_set}
use Rattle.std.specs.List.{IsDistinct, AllByRecursion}
use Rattle.std.proofs.lemmas.Bool.{eq-eqb}
use Rattle.std.proofs.lemmas.Bool.Decides.{eqb_tells}
use Rattle.std.proofs.lemmas.List.{get_or-set_same, get_or-set_other, length-set}
use Rattle.std.proofs.lemmas.Option.{slice_get-get_or, get_or_from_slice_get, slice_get_within}
use Rattle.std.proofs.lemmas.Map.Keys.{IsDistinct-head, IsDistinct-tail}
use Rattle.std.proofs.lemmas.Map.Steps.{length-le_from_distinct_below}
use Rattle.include_graph.specs.declared.outline.Outline.{Outline}
use Rattle.include_graph.specs.declared.stack.Frame.{Frame}
use Rattle.include_graph.specs.declared.stack.Mark.{Mark}
use Rattle.include_graph.specs.declared.stack.Mark.TheVariants as mark
use Rattle.include_graph.specs.Verdicts.{Graph, is_among, in_list}
use Rattle.include_graph.specs.Stack.{IsWalk, path_of, mark_by, mark_of, items_known, work_ahead, work_of_files}
use Rattle.include_graph.proofs.Among.{among_head, among_tail, among_cases, among_append, distinct_with}

pub got_set : {A : Type 0} (xs : List A) (i : ℕ) (x : A) → i < length xs → slice_get (slice_set xs i x) i ≡ Some x
got_set xs i x h = slice_get-get_or (set xs i x) i x (let e = length-set xs i x in omega (arith, h, e)) ∙ ap Some (get_or-set_same xs i x x h)

pub got_other : {A : Type 0} (xs : List A) (i j : ℕ) (x y : A) → j ≢ i → slice_get xs j ≡ Some y → slice_get (slice_set xs i x) j ≡ Some y
got_other xs i j x y n g =
    slice_get-get_or (set xs i x) j x (let within = slice_get_within xs j y g in let e = length-set xs i x in omega (arith, within, e))
    ∙ ap Some (get_or-set_other xs i j x x n ∙ get_or_from_slice_get xs j y x g)

mark_ahead_by : (on_path was_left : Bool) → mark_by on_path was_left ≡ mark.Ahead → (on_path ≡ false) × (was_left ≡ false)
mark_ahead_by true was_left e = cc
mark_ahead_by false true e = cc
mark_ahead_by false false e = (refl, refl)

pub mark_ahead : (path left : List ℕ) (file : ℕ) → mark_of path left file ≡ mark.Ahead → (is_among file path ≡ false) × (is_among file left ≡ false)
mark_ahead path left file e = mark_ahead_by (is_among file path) (is_among file left) e

mark_on_path_by : (on_path was_left : Bool) → mark_by on_path was_left ≡ mark.OnPath → on_path ≡ true
mark_on_path_by true was_left e = refl
mark_on_path_by false true e = cc
mark_on_path_by false false e = cc

pub mark_on_path : (path left : List ℕ) (file : ℕ) → mark_of path left file ≡ mark.OnPath → is_among file path ≡ true
mark_on_path path left file e = mark_on_path_by (is_among file path) (is_among file left) e

mark_left_by : (on_path was_left : Bool) → mark_by on_path was_left ≡ mark.Left → (on_path ≡ false) × (was_left ≡ true)
mark_left_by true was_left e = cc
mark_left_by false true e = (refl, refl)
mark_left_by false false e = cc

pub mark_left : (path left : List ℕ) (file : ℕ) → mark_of path left file ≡ mark.Left → (is_among file path ≡ false) × (is_among file left ≡ true)
mark_left path left file e = mark_left_by (is_among file path) (is_among file left) e

not_among : (q : ℕ) (files : List ℕ) → AllByRecursion (λ file. eqb q file ≡ false) files → is_among q files ≡ false
not_among q [] all = refl
not_among q (file ∷ files) all = ap (λ b. b || is_among q files) all.0 ∙ not_among q files all.1

pub not_on_path : (file : ℕ) (path : List ℕ) → IsDistinct eqb (file ∷ path) → is_among file path ≡ false
not_on_path file path d = not_among file path (IsDistinct-head eqb file path d)

-- a file that isn't on the path finds room there
pub path_room : (graph : Graph) (frames : List Frame) (marks : List Mark) (left : List ℕ) (file : ℕ) → IsWalk graph frames marks left
    → file < length graph.names → is_among file (path_of frames) ≡ false → length (path_of frames) < length graph.names
path_room graph frames marks left file w b n =
    length-le_from_distinct_below (file ∷ path_of frames) (length graph.names) (distinct_with file (path_of frames) n w.distinct)
    (λ q h. elim (among_cases q file (path_of frames) h) [ inl e ↦ omega (arith, e, b) | inr h ↦ w.below q h ])

pub enters : (graph : Graph) (frames : List Frame) (marks : List Mark) (left : List ℕ) (file : ℕ) → IsWalk graph frames marks left
    → file < length graph.names → is_among file (path_of frames) ≡ false
    → IsWalk graph (record { file = file; passed = 0 } ∷ frames) (slice_set marks file mark.OnPath) left
enters graph frames marks left file w b n = record {
  marked = λ q h. elim (eqb_tells q file) [
    | inl e ↦ here q (e.1) (e.0)
    | inr e ↦ got_other marks file q mark.OnPath (mark_of (file ∷ path_of frames) left q) e.1 (w.marked q h
        ∙ ap (λ t. Some (mark_by (t || is_among q (path_of frames)) (is_among q left))) (sym e.0))
  ];
  count = length-set marks file mark.OnPath ∙ w.count;
  distinct = distinct_with file (path_of frames) n w.distinct;
  below = λ q h. elim (among_cases q file (path_of frames) h) [ inl e ↦ omega (arith, e, b) | inr h ↦ w.below q h ];
} where
  here : (q : ℕ) → q ≡ file → eqb q file ≡ true → slice_get (slice_set marks file mark.OnPath) q ≡ Some (mark_of (file ∷ path_of frames) left q)
  here q e t =
      ap (slice_get (slice_set marks file mark.OnPath)) e ∙ got_set marks file mark.OnPath (let count = w.count in omega (arith, count, b))
      ∙ ap (λ x. Some (mark_by (x || is_among q (path_of frames)) (is_among q left))) (sym t)

pub leaves : (graph : Graph) (frame : Frame) (frames : List Frame) (marks : List Mark) (left : List ℕ) → IsWalk graph (frame ∷ frames) marks left
    → IsWalk graph frames (slice_set marks frame.file mark.Left) (left ++ frame.file ∷ [])
leaves graph frame frames marks left w = record {
  marked = λ q h. elim (eqb_tells q frame.file) [
    | inl e ↦ here q e.1 h
    | inr e ↦ got_other marks frame.file q mark.Left (mark_of (path_of frames) (left ++ frame.file ∷ []) q) e.1 (w.marked q h ∙ there q e.0)
  ];
  count = length-set marks frame.file mark.Left ∙ w.count;
  distinct = IsDistinct-tail eqb frame.file (path_of frames) w.distinct;
  below = λ q h. w.below q (among_tail q frame.file (path_of frames) h);
} where
  or_false : (a : Bool) → a ≡ (a || (false || false))
  or_false true = refl
  or_false false = refl

  or_true : (a : Bool) → (a || (true || false)) ≡ true
  or_true true = refl
  or_true false = refl

  there : (q : ℕ) → eqb q frame.file ≡ false → Some (mark_of (path_of (frame ∷ frames)) left q) ≡ Some (mark_of (path_of frames) (left ++ frame.file ∷ []) q)
  there q e =
      ap (λ t. Some (mark_by (t || is_among q (path_of frames)) (is_among q left))) e
      ∙ ap (λ t. Some (mark_by (is_among q (path_of frames)) t)) (or_false (is_among q left) ∙ ap (λ t. is_among q left || (t || false)) (sym e)
      ∙ sym (among_append q left frame.file))

  own : frame.file < length graph.names
  own = w.below frame.file (among_head frame.file (path_of frames))

  here : (q : ℕ) → q ≡ frame.file → q < length graph.names → slice_get (slice_set marks frame.file mark.Left) q ≡ Some
      (mark_of (path_of frames) (left ++ frame.file ∷ []) q)
  here q e h =
      ap (slice_get (slice_set marks frame.file mark.Left)) e
      ∙ got_set marks frame.file mark.Left (let count = w.count in let own = own in omega (arith, count, own))
      ∙ sym (ap (λ t. Some (mark_by t (is_among q (left ++ frame.file ∷ [])))) (ap (λ f. is_among f (path_of frames)) e
      ∙ not_on_path frame.file (path_of frames) w.distinct)
      ∙ ap (λ t. Some (mark_by false t)) (among_append q left frame.file ∙ ap (λ t. is_among q left || (t || false)) (eq-eqb q frame.file e)
      ∙ or_true (is_among q left)))

-- the walk goes down into a file for the first time: less work is left
pub work_entered : (marks : List Mark) (outlines : List (Option Outline)) (file : ℕ) → slice_get marks file ≡ Some mark.Ahead → file < length outlines
    → work_of_files marks outlines ≡ work_of_files (slice_set marks file mark.OnPath) outlines + suc (suc (length (items_known (in_list outlines file))))
work_entered [] outlines file g b = cc
work_entered (first ∷ marks) [] file g b = absurd (omega (arith, b))
work_entered (first ∷ marks) (outline ∷ outlines) zero g b =
    let e : first ≡ mark.Ahead = cc in
    let rest : ℕ = work_of_files marks outlines in
    let size : ℕ = length (items_known outline) in
    ap (λ m. work_ahead m (items_known outline) + rest) e ∙ (let sum : suc (suc size) + rest ≡ 0 + rest + suc (suc size) = omega arith in sum)
work_entered (first ∷ marks) (outline ∷ outlines) (suc file) g b =
    let less = work_entered marks outlines file g (omega (arith, b)) in
    let own : ℕ = work_ahead first (items_known outline) in
    omega (arith, less)

pub work_same : (marks : List Mark) (outlines : List (Option Outline)) (file : ℕ) → slice_get marks file ≡ Some mark.OnPath
    → work_of_files (slice_set marks file mark.Left) outlines ≡ work_of_files marks outlines
work_same [] outlines file g = cc
work_same (first ∷ marks) [] zero g = refl
work_same (first ∷ marks) [] (suc file) g = refl
work_same (first ∷ marks) (outline ∷ outlines) zero g = let e : first ≡ mark.OnPath = cc in ap
    (λ m. work_ahead m (items_known outline) + work_of_files marks outlines) (sym e)
work_same (first ∷ marks) (outline ∷ outlines) (suc file) g = ap (λ n. work_ahead first (items_known outline) + n) (work_same marks outlines file g)
