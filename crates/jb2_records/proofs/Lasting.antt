-- What is left of a record at a step has no fewer decisions than there were.
use Rattle.std.proofs.Common.{ℕ, ℤ, pos, Bool, List, [], ◌∷◌, ◌++◌, arith}
use Rattle.std.specs.Prelude.{Option}
use Rattle.std.specs.Arc.{arc_value}
use Rattle.djvu_base.specs.declared.faults.FaultKind.{FaultKind}
use Rattle.bit_plane.specs.Pixels.{Pixels}
use Rattle.bit_plane.specs.Ink.{ink_box_of, unsigned}
use Rattle.jb2_numbers.specs.declared.roots.Root.{Root}
use Rattle.jb2_numbers.specs.declared.roots.Root.TheVariants as root
use Rattle.jb2_records.specs.declared.steps.Use.{Use}
use Rattle.jb2_records.specs.declared.steps.Use.TheVariants as use_of
use Rattle.jb2_records.specs.declared.steps.Origin.{Origin}
use Rattle.jb2_records.specs.declared.steps.Origin.TheVariants as origin
use Rattle.jb2_records.specs.declared.steps.Reference.{Reference}
use Rattle.jb2_records.specs.declared.steps.Reference.TheVariants as reference
use Rattle.jb2_records.specs.declared.steps.Field.{Field}
use Rattle.jb2_records.specs.declared.steps.Field.TheVariants as field
use Rattle.jb2_records.specs.declared.steps.Step.{Step}
use Rattle.jb2_records.specs.declared.steps.Step.TheVariants as step
use Rattle.jb2_records.specs.Records.{Record, Relative, Copy, is_started, image_size}
use Rattle.jb2_records.specs.Coding.{Coder, Read, Got, then_read, checked, read_number}
use Rattle.jb2_records.specs.Reading.{Input, most, least, type_of, type_fault, has_shapes, start_fault, shape_fault, place_fault, count_fault, read_bytes}
use Rattle.jb2_records.specs.Picture.{relative_by, relative_of}
use Rattle.jb2_records.specs.Steps.{both_record, image_record, placed, from_dy, from_dx, from_row, from_top, from_shape, from_own, from_own_height, from_beside, from_beside_sizes, from_beside_height, from_matched, from_flag, x_root, y_root, shape_of, record_of, numbered, wide_of, high_of, root_of, low_of, most_of, behind, rest_of}
use Rattle.jb2_records.proofs.Keeping.{Stays, Leaves, leaves_got, then_leaves, checked_leaves, number_leaves, flag_leaves, row_leaves, direct_leaves, refined_leaves}
use Rattle.jb2_records.proofs.Leaving.{body_goes, bytes_goes}

module _ (input : Input) (before : List Record) (left made : ℕ) where
  abbrev Lasts : {A : Type 0} → Read A → Type 0
  Lasts {A = A} reading = Leaves A input.chunk left made reading

  abbrev IsThere : Coder → Type 0
  IsThere at = Stays input.chunk left made at

  got : {A : Type 0} {value : A} {at : Coder} → IsThere at → Lasts (Got value at)
  got {A = A} {value = value} {at = at} stays = leaves_got input.chunk left made A value at stays

  bind : {A B : Type 0} {reading : Read A} {rest : A → Coder → Read B} → Lasts reading →
      ((value : A) (at : Coder) → IsThere at → Lasts (rest value at)) → Lasts (then_read reading rest)
  bind {reading = reading} {rest = rest} first later = then_leaves input.chunk left made reading rest first later

  check : {A : Type 0} {rest : Coder → Read A} (given : Option FaultKind) (at : Coder) → IsThere at → ((at : Coder) → IsThere at → Lasts (rest at)) →
      Lasts (checked given at rest)
  check {rest = rest} given at stays later = checked_leaves input.chunk left made given at rest stays (later at stays)

  number : (name : Root) (low high : ℤ) (at : Coder) → IsThere at → Lasts (read_number input.chunk name low high at)
  number name low high at stays = number_leaves input.chunk left made name low high at stays

  placed_lasts : (shape : Pixels) (make : Relative → Record) (place : Relative) (at : Coder) → IsThere at → Lasts (placed input before shape make place at)
  placed_lasts shape make place at stays = check (place_fault input before shape) at stays (λ at stays. got stays)

  dy_lasts : (shape : Pixels) (make : Relative → Record) (is_new : Bool) (dx : ℤ) (at : Coder) → IsThere at → Lasts
      (from_dy input before shape make is_new dx at)
  dy_lasts shape make is_new dx at stays = bind (number (y_root is_new) least most at stays)
      (λ dy at stays. placed_lasts shape make (relative_by is_new dx dy) at stays)

  dx_lasts : (shape : Pixels) (make : Relative → Record) (is_new : Bool) (at : Coder) → IsThere at → Lasts (from_dx input before shape make is_new at)
  dx_lasts shape make is_new at stays = bind (number (x_root is_new) least most at stays) (λ dx at stays. dy_lasts shape make is_new dx at stays)

  row_lasts : (shape : Pixels) (make : Relative → Record) (at : Coder) → IsThere at → Lasts (from_row input before shape make at)
  row_lasts shape make at stays =
      let less = stays.leaves in
      bind (row_leaves input.chunk left made at stays.sound (omega (arith, less)) stays.more) (λ is_new at stays. dx_lasts shape make is_new at stays)

  top_lasts : (shape : Pixels) (left_side : ℤ) (at : Coder) → IsThere at → Lasts (from_top input before shape left_side at)
  top_lasts shape left_side at stays =
      bind (number root.AbsoluteTop (pos 1) (pos (image_size before).height) at stays)
      (λ top at stays. check (place_fault input before shape) at stays (λ at stays. got stays))

  pub shape_lasts : (made_as : Origin) (kept : Use) (shape : Pixels) (at : Coder) → IsThere at → Lasts (from_shape input before made_as kept shape at)
  shape_lasts made_as use_of.Both shape at stays = row_lasts shape (both_record made_as shape) at stays
  shape_lasts made_as use_of.Library shape at stays = got stays
  shape_lasts made_as use_of.Image shape at stays = row_lasts shape (image_record made_as shape) at stays
  shape_lasts made_as use_of.Plain shape at stays =
      bind (number root.AbsoluteLeft (pos 1) (pos (image_size before).width) at stays) (λ left_side at stays. top_lasts shape left_side at stays)

  own_lasts : (kept : Use) (width height : ℕ) (at : Coder) → IsThere at → Lasts (from_own input before kept width height at)
  own_lasts kept width height at stays =
      bind (direct_leaves input.chunk left made width height at stays) (λ shape at stays. shape_lasts origin.Own kept shape at stays)

  own_height_lasts : (kept : Use) (width : ℤ) (at : Coder) → IsThere at → Lasts (from_own_height input before kept width at)
  own_height_lasts kept width at stays =
      bind (number root.ShapeHeight (pos 0) most at stays) (λ height at stays.
      check (shape_fault input before width height) at stays (λ at stays. own_lasts kept (unsigned width) (unsigned height) at stays))

  beside_lasts : (kept : Use) (matched width height : ℕ) (at : Coder) → IsThere at → Lasts (from_beside input before kept matched width height at)
  beside_lasts kept matched width height at stays =
      bind (refined_leaves input.chunk left made (numbered input before matched) width height at stays)
      (λ shape at stays. shape_lasts (origin.Refined matched) kept shape at stays)

  sizes_lasts : (kept : Use) (matched : ℕ) (width height : ℤ) (at : Coder) → IsThere at → Lasts (from_beside_sizes input before kept matched width height at)
  sizes_lasts kept matched width height at stays =
      check (shape_fault input before width height) at stays (λ at stays. beside_lasts kept matched (unsigned width) (unsigned height) at stays)

  beside_height_lasts : (kept : Use) (matched : ℕ) (wider : ℤ) (at : Coder) → IsThere at → Lasts (from_beside_height input before kept matched wider at)
  beside_height_lasts kept matched wider at stays =
      bind (number root.HeightDifference least most at stays) (λ higher at stays. sizes_lasts kept matched
      (wide_of (ink_box_of (numbered input before matched)) wider) (high_of (ink_box_of (numbered input before matched)) higher) at stays)

  matched_lasts : (goal : Reference) (matched : ℕ) (at : Coder) → IsThere at → Lasts (from_matched input before goal matched at)
  matched_lasts (reference.Refine kept) matched at stays =
      bind (number root.WidthDifference least most at stays) (λ wider at stays. beside_height_lasts kept matched wider at stays)
  matched_lasts reference.Copy matched at stays = row_lasts (numbered input before matched) (λ place. Copy matched place) at stays

  flag_lasts : (width height : ℤ) (at : Coder) → IsThere at → Lasts (from_flag input width height at)
  flag_lasts width height at stays =
      let less = stays.leaves in
      bind (flag_leaves input.chunk left made at stays.sound (omega (arith, less)) stays.more)
      (λ flag at stays. check (start_fault input.purpose width height) at stays (λ at stays. got stays))

  bytes_lasts : (count : ℕ) (text : List ℕ) (at : Coder) → IsThere at → Lasts (read_bytes input.chunk count text at)
  bytes_lasts count text at stays =
      (bytes_goes input.chunk.table [] input.chunk.payload input.chunk.ended input.inherited input.purpose stays.sound.table left count text made at
      stays).leaves

  pub behind_lasts : (text : List ℕ) (place : Field) (value : ℤ) (at : Coder) → IsThere at → Lasts (behind input before text place value at)
  unfolding behind
  behind_lasts text field.Kind value at stays =
      check (type_fault input.purpose (is_started before) (has_shapes input before) (type_of value)) at stays (λ at stays.
      (body_goes input.chunk.table [] input.chunk.payload input.chunk.ended input.inherited input.purpose stays.sound.table left before
      (type_of value) made at stays).leaves)
  behind_lasts text field.StartWidth value at stays = bind (number root.ImageSize (pos 0) most at stays) (λ height at stays. flag_lasts value height at stays)
  behind_lasts text (field.StartHeight width) value at stays = flag_lasts width value at stays
  behind_lasts text (field.OwnWidth kept) value at stays = own_height_lasts kept value at stays
  behind_lasts text (field.OwnHeight kept width) value at stays =
      check (shape_fault input before width value) at stays (λ at stays. own_lasts kept (unsigned width) (unsigned value) at stays)
  behind_lasts text (field.Match goal) value at stays = matched_lasts goal (unsigned value) at stays
  behind_lasts text (field.BesideWidth kept matched) value at stays = beside_height_lasts kept matched value at stays
  behind_lasts text (field.BesideHeight kept matched wider) value at stays = sizes_lasts kept matched
      (wide_of (ink_box_of (numbered input before matched)) wider) (high_of (ink_box_of (numbered input before matched)) value) at stays
  behind_lasts text (field.Dx moved is_new) value at stays = dy_lasts (shape_of input before moved) (λ place. record_of moved place) is_new value at stays
  behind_lasts text (field.Dy moved is_new dx) value at stays = placed_lasts (shape_of input before moved) (λ place. record_of moved place)
      (relative_by is_new dx value) at stays
  behind_lasts text (field.Left shape) value at stays = top_lasts (arc_value shape) value at stays
  behind_lasts text (field.Top shape left_side) value at stays = check (place_fault input before (arc_value shape)) at stays (λ at stays. got stays)
  behind_lasts text field.InheritedCount value at stays = check (count_fault input value) at stays (λ at stays. got stays)
  behind_lasts text field.CommentLength value at stays = bytes_lasts (unsigned value) [] at stays
  behind_lasts text (field.CommentByte count) value at stays = bytes_lasts count (text ++ unsigned value ∷ []) at stays

  pub rest_lasts : (text : List ℕ) (stands : Step) (at : Coder) → IsThere at → Lasts (rest_of input before text stands at)
  unfolding rest_of
  rest_lasts text (step.Number place reader) at stays =
      bind (number (root_of place) (low_of place) (most_of input.inherited before place) at stays) (λ value at stays. behind_lasts text place value at stays)
  rest_lasts text (step.Flag width height) at stays = flag_lasts width height at stays
  rest_lasts text (step.Row moved) at stays = row_lasts (shape_of input before moved) (λ place. record_of moved place) at stays
  rest_lasts text (step.Own kept width height) at stays = own_lasts kept width height at stays
  rest_lasts text (step.Direct kept reader) at stays = own_lasts kept reader.shape.width reader.shape.height at stays
  rest_lasts text (step.Beside kept matched width height) at stays = beside_lasts kept matched width height at stays
  rest_lasts text (step.Refined kept matched reader) at stays = beside_lasts kept matched reader.sketch.shape.width reader.sketch.shape.height at stays
  rest_lasts text (step.Shape made_as kept shape) at stays = shape_lasts made_as kept shape at stays
  rest_lasts text (step.Start width height flag) at stays = got stays
  rest_lasts text (step.Keep made_as shape) at stays = got stays
  rest_lasts text (step.Place moved steps) at stays = placed_lasts (shape_of input before moved) (λ place. record_of moved place) (relative_of steps) at stays
