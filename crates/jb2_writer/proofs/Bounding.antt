-- What the limits leave of records that can be written: so many shapes, and an image that is no larger.
use Rattle.std.proofs.Common.{◌≡◌, ◌≤◌, ◌+◌, ◌==◌, ℕ, Bool, true, false, ◌&&◌, List, [], ◌∷◌, length, length-append, refl, arith}
use Rattle.std.specs.Prelude.{pos}
use Rattle.std.proofs.lemmas.Bool.{and_parts}
use Rattle.bit_plane.specs.Pixels.{Pixels}
use Rattle.bit_plane.specs.Ink.{ink_box_of}
use Rattle.jb2_records.specs.declared.purpose.Purpose.{Purpose}
use Rattle.jb2_records.specs.Records.{Record, Start, MarkBoth, MarkLibrary, MarkImage, RefineBoth, RefineLibrary, RefineImage, Copy, Plain, Require, Comment, End, is_started, image_size, own_count, own_pixels, taken, taken_by, own_library, library, shape_at}
use Rattle.jb2_records.specs.Reading.{pixel_limit, type_by, type_fault, has_shapes, start_fault, shape_fault, place_fault}
use Rattle.jb2_writer.specs.Fields.{type_number}
use Rattle.jb2_writer.specs.Refusal.{rules, is_sound, is_unsigned, is_shape, is_mark, is_match, is_beside, is_refinement, is_place, has_fields, can_follow}
use Rattle.jb2_writer.proofs.Ranging.{few_unsigned, none_wrong, small_sides}
use Rattle.jb2_writer.proofs.Recording.{AreFew}

pub record Counts (inherited : List Pixels) (before : List Record) : Type 0 where
  taken_few : length (taken inherited before) ≤ 65536
  own_few : own_count before ≤ 65536
  width : (image_size before).width ≤ 262142
  height : (image_size before).height ≤ 262142

-- no more shapes of the library than were brought
brought : (before : List Record) → length (own_library before) ≤ own_count before
brought [] = omega arith
brought (Start width height flag ∷ before) = brought before
brought (MarkBoth shape at ∷ before) = let few = brought before in omega (arith, length-append (own_library before) (shape ∷ []))
brought (MarkLibrary shape ∷ before) = let few = brought before in omega (arith, length-append (own_library before) (shape ∷ []))
brought (MarkImage shape at ∷ before) = let few = brought before in omega arith
brought (RefineBoth matched shape at ∷ before) = let few = brought before in omega (arith, length-append (own_library before) (shape ∷ []))
brought (RefineLibrary matched shape ∷ before) = let few = brought before in omega (arith, length-append (own_library before) (shape ∷ []))
brought (RefineImage matched shape at ∷ before) = let few = brought before in omega arith
brought (Copy matched at ∷ before) = brought before
brought (Plain shape left top ∷ before) = let few = brought before in omega arith
brought (Require count ∷ before) = brought before
brought (Comment bytes ∷ before) = brought before
brought (End ∷ before) = brought before

pub few_of : (inherited : List Pixels) (before : List Record) → Counts inherited before → AreFew inherited before
few_of inherited before counts =
    let own = brought before in
    let first = counts.taken_few in
    let second = counts.own_few in
    record {
      shapes = omega (arith, length-append (taken inherited before) (own_library before));
      width = counts.width;
      height = counts.height;
    }

pub no_counts : (inherited : List Pixels) → Counts inherited []
no_counts inherited = record { taken_few = omega arith; own_few = omega arith; width = omega arith; height = omega arith }

taken_more : (inherited : List Pixels) (count : ℕ) (started none : Bool) (rest : List Pixels) → (count == 0) ≡ none → length inherited ≤ 65536 →
    length rest ≤ 65536 → length (taken_by inherited (Require count) started rest) ≤ 65536
taken_more inherited count true none rest e all few = few
taken_more inherited count false true rest e all few = rw e (omega arith)
taken_more inherited count false false rest e all few = rw e all

module _ (inherited : List Pixels) (purpose : Purpose) (before : List Record) (counts : Counts inherited before) where
  one_more : (shape : Pixels) → is_shape (rules inherited purpose) before shape ≡ true → own_count before + 1 ≤ 65536
  one_more shape e =
      let none = none_wrong (shape_fault (rules inherited purpose) before (pos shape.width) (pos shape.height)) e in
      let small = small_sides (pixel_limit purpose) (length (taken inherited before) + own_count before) (own_pixels before) shape.width shape.height none in
      let few = small.few in
      omega (arith, few)

  refined_shape : (matched : ℕ) (shape : Pixels) → is_refinement (rules inherited purpose) before matched shape ≡ true →
      is_shape (rules inherited purpose) before shape ≡ true
  refined_shape matched shape e =
      (and_parts (is_match (rules inherited purpose) before matched && is_beside (ink_box_of (shape_at (library inherited before) matched)) shape)
      (is_shape (rules inherited purpose) before shape) e).1

  fields_count : (entry : Record) → length inherited ≤ 65536 → has_fields (rules inherited purpose) before entry ≡ true → Counts inherited (entry ∷ before)
  fields_count (Start width height flag) all e =
      let outer = and_parts (is_unsigned width && is_unsigned height) (is_sound (start_fault purpose (pos width) (pos height))) e in
      let inner = and_parts (is_unsigned width) (is_unsigned height) outer.0 in
      record { taken_few = counts.taken_few; own_few = counts.own_few; width = few_unsigned width inner.0; height = few_unsigned height inner.1 }
  fields_count (MarkBoth shape at) all e =
      let parts = and_parts (is_shape (rules inherited purpose) before shape) (is_mark (rules inherited purpose) before shape at) e in
      record { taken_few = counts.taken_few; own_few = one_more shape parts.0; width = counts.width; height = counts.height }
  fields_count (MarkLibrary shape) all e = record { taken_few = counts.taken_few; own_few = one_more shape e; width = counts.width; height = counts.height }
  fields_count (MarkImage shape at) all e =
      let parts = and_parts (is_shape (rules inherited purpose) before shape) (is_mark (rules inherited purpose) before shape at) e in
      record { taken_few = counts.taken_few; own_few = one_more shape parts.0; width = counts.width; height = counts.height }
  fields_count (RefineBoth matched shape at) all e =
      let parts = and_parts (is_refinement (rules inherited purpose) before matched shape) (is_mark (rules inherited purpose) before shape at) e in
      record { taken_few = counts.taken_few; own_few = one_more shape (refined_shape matched shape parts.0); width = counts.width; height = counts.height }
  fields_count (RefineLibrary matched shape) all e =
      record { taken_few = counts.taken_few; own_few = one_more shape (refined_shape matched shape e); width = counts.width; height = counts.height }
  fields_count (RefineImage matched shape at) all e =
      let parts = and_parts (is_refinement (rules inherited purpose) before matched shape) (is_mark (rules inherited purpose) before shape at) e in
      record { taken_few = counts.taken_few; own_few = one_more shape (refined_shape matched shape parts.0); width = counts.width; height = counts.height }
  fields_count (Copy matched at) all e =
      record { taken_few = counts.taken_few; own_few = counts.own_few; width = counts.width; height = counts.height }
  fields_count (Plain shape left top) all e =
      let outer = and_parts
      (is_shape (rules inherited purpose) before shape && is_place (image_size before).width left && is_place (image_size before).height top)
      (is_sound (place_fault (rules inherited purpose) before shape)) e in
      let middle = and_parts (is_shape (rules inherited purpose) before shape && is_place (image_size before).width left)
      (is_place (image_size before).height top) outer.0 in
      let inner = and_parts (is_shape (rules inherited purpose) before shape) (is_place (image_size before).width left) middle.0 in
      record { taken_few = counts.taken_few; own_few = one_more shape inner.0; width = counts.width; height = counts.height }
  fields_count (Require count) all e = record {
    taken_few = taken_more inherited count (is_started before) (count == 0) (taken inherited before) refl all counts.taken_few;
    own_few = counts.own_few;
    width = counts.width;
    height = counts.height;
  }
  fields_count (Comment bytes) all e =
      record { taken_few = counts.taken_few; own_few = counts.own_few; width = counts.width; height = counts.height }
  fields_count End all e = record { taken_few = counts.taken_few; own_few = counts.own_few; width = counts.width; height = counts.height }

  pub counts_on : (entry : Record) → length inherited ≤ 65536 → can_follow (rules inherited purpose) before entry ≡ true → Counts inherited (entry ∷ before)
  counts_on entry all e =
      fields_count entry all
      (and_parts (is_sound (type_fault purpose (is_started before) (has_shapes (rules inherited purpose) before) (type_by (type_number entry))))
      (has_fields (rules inherited purpose) before entry) e).1
