-- What is left of a record behind its type, step by step.
use Rattle.std.proofs.Common.{◌≡◌, ℤ, pos, Bool, true, false, List, refl, ◌∙◌}
use Rattle.std.specs.Prelude.{Option, Some, None}
use Rattle.bit_plane.specs.Pixels.{Pixels}
use Rattle.bit_plane.specs.Ink.{ink_box_of, unsigned}
use Rattle.djvu_base.specs.declared.faults.FaultKind.{FaultKind}
use Rattle.jb2_numbers.specs.declared.roots.Root.TheVariants as root
use Rattle.jb2_records.specs.declared.steps.Use.{Use}
use Rattle.jb2_records.specs.declared.steps.Use.TheVariants as use_of
use Rattle.jb2_records.specs.declared.steps.Origin.TheVariants as origin
use Rattle.jb2_records.specs.declared.steps.Reference.TheVariants as reference
use Rattle.jb2_records.specs.Records.{Record, Relative, Copy}
use Rattle.jb2_records.specs.Coding.{Coder, Read, Got, Stops, then_read, checked, read_number, read_row, read_direct, read_refined}
use Rattle.jb2_records.specs.Reading.{Input, most, least, shape_fault, place_fault, read_own, read_match, read_refinement, read_steps, read_place, matched_in, read_copy, read_plain}
use Rattle.jb2_records.specs.Steps.{from_row, from_dx, from_own_width, from_match, from_shape, wide_of, high_of}

-- two readings joined, and a third
then_then : {A B C : Type 0} (first : Read A) (second : A → Coder → Read B) (third : B → Coder → Read C) →
    then_read (then_read first second) third ≡ then_read first (λ value at. then_read (second value at) third)
then_then (Got value at) second third = refl
then_then (Stops why decisions) second third = refl

then_checked : {A B : Type 0} (fault : Option FaultKind) (at : Coder) (second : Coder → Read A) (third : A → Coder → Read B) →
    then_read (checked fault at second) third ≡ checked fault at (λ at. then_read (second at) third)
then_checked None at second third = refl
then_checked (Some kind) at second third = refl

then_same : {A B : Type 0} (first : Read A) (rest other : A → Coder → Read B) → ((value : A) (at : Coder) → rest value at ≡ other value at) →
    then_read first rest ≡ then_read first other
then_same (Got value at) rest other same = same value at
then_same (Stops why decisions) rest other same = refl

checked_same : {A : Type 0} (fault : Option FaultKind) (at : Coder) (rest other : Coder → Read A) → ((at : Coder) → rest at ≡ other at) →
    checked fault at rest ≡ checked fault at other
checked_same None at rest other same = same at
checked_same (Some kind) at rest other same = refl

-- the place of a mark
steps_rest : (input : Input) (before : List Record) (shape : Pixels) (make : Relative → Record) (is_new : Bool) (at : Coder) →
    then_read (read_steps input.chunk is_new at) (λ place at. checked (place_fault input before shape) at (λ at. Got (make place) at))
    ≡ from_dx input before shape make is_new at
steps_rest input before shape make true at =
    then_then (read_number input.chunk root.NewRowX least most at) _ _
    ∙ then_same (read_number input.chunk root.NewRowX least most at) _ _ (λ right at. then_then (read_number input.chunk root.NewRowY least most at) _ _)
steps_rest input before shape make false at =
    then_then (read_number input.chunk root.SameRowX least most at) _ _
    ∙ then_same (read_number input.chunk root.SameRowX least most at) _ _ (λ right at. then_then (read_number input.chunk root.SameRowY least most at) _ _)

pub place_rest : (input : Input) (before : List Record) (shape : Pixels) (make : Relative → Record) (at : Coder) →
    read_place input before shape make at ≡ from_row input before shape make at
place_rest input before shape make at =
    then_then (read_row input.chunk at) _ _ ∙ then_same (read_row input.chunk at) _ _ (λ is_new at. steps_rest input before shape make is_new at)

-- a shape of its own, and what follows it
pub own_rest : (input : Input) (before : List Record) (kept : Use) (rest : Pixels → Coder → Read Record) (at : Coder) →
    ((shape : Pixels) (at : Coder) → rest shape at ≡ from_shape input before origin.Own kept shape at) →
    then_read (read_own input before at) rest ≡ from_own_width input before kept at
own_rest input before kept rest at same =
    then_then (read_number input.chunk root.ShapeWidth (pos 0) most at) _ _
    ∙ then_same (read_number input.chunk root.ShapeWidth (pos 0) most at) _ _ (λ width at.
    then_then (read_number input.chunk root.ShapeHeight (pos 0) most at) _ _
    ∙ then_same (read_number input.chunk root.ShapeHeight (pos 0) most at) _ _ (λ height at.
    then_checked (shape_fault input before width height) at _ _
    ∙ checked_same (shape_fault input before width height) at _ _ (λ at.
    then_same (read_direct input.chunk (unsigned width) (unsigned height) at) _ _ same)))

-- a shape that refines one of the library, and what follows it
pub refined_rest : (input : Input) (before : List Record) (kept : Use) (rest : ℤ → Pixels → Coder → Read Record) (at : Coder) →
    ((number : ℤ) (shape : Pixels) (at : Coder) → rest number shape at ≡ from_shape input before (origin.Refined (unsigned number)) kept shape at) →
    then_read (read_match input before at) (λ number at. then_read (read_refinement input before (matched_in input before number) at)
    (λ shape at. rest number shape at))
    ≡ from_match input before (reference.Refine kept) at
refined_rest input before kept rest at same =
    then_same (read_match input before at) _ _ (λ number at.
    then_then (read_number input.chunk root.WidthDifference least most at) _ _
    ∙ then_same (read_number input.chunk root.WidthDifference least most at) _ _ (λ wider at.
    then_then (read_number input.chunk root.HeightDifference least most at) _ _
    ∙ then_same (read_number input.chunk root.HeightDifference least most at) _ _ (λ higher at.
    then_checked (shape_fault input before (wide_of (ink_box_of (matched_in input before number)) wider)
    (high_of (ink_box_of (matched_in input before number)) higher)) at _ _
    ∙ checked_same (shape_fault input before (wide_of (ink_box_of (matched_in input before number)) wider)
    (high_of (ink_box_of (matched_in input before number)) higher)) at _ _ (λ at.
    then_same (read_refined input.chunk (matched_in input before number) _ _ at) _ _ (same number)))))

pub copy_rest : (input : Input) (before : List Record) (at : Coder) →
    read_copy input before at ≡ from_match input before reference.Copy at
copy_rest input before at =
    then_same (read_match input before at) _ _ (λ number at. place_rest input before (matched_in input before number)
    (λ place. Copy (unsigned number) place) at)

pub plain_rest : (input : Input) (before : List Record) (at : Coder) → read_plain input before at ≡ from_own_width input before use_of.Plain at
plain_rest input before at = own_rest input before use_of.Plain _ at (λ shape at. refl)
