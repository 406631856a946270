-- What one record more does to a library and a picture: a lemma for each type of record.
use Rattle.std.proofs.Common.{◌≡◌, ◌==◌, ◌∷◌, ℕ, ℤ, pos, negsuc, Bool, true, false, ◌&&◌, List, [], refl, sym, ap, subst, length, ◌∙◌, eqb-true}
use Rattle.std.specs.Prelude.{Option, Some, None, if◌then◌else◌}
use Rattle.djvu_base.specs.declared.faults.FaultKind.{FaultKind}
use Rattle.bit_plane.specs.Pixels.{Pixels}
use Rattle.bit_plane.specs.Ink.{unsigned}
use Rattle.jb2_places.specs.Place.{Placement}
use Rattle.jb2_places.specs.After.{IsAfter}
use Rattle.jb2_records.specs.Records.{Record, Start, MarkBoth, MarkLibrary, MarkImage, RefineBoth, RefineLibrary, RefineImage, Copy, Plain, Require, Comment, End}
use Rattle.jb2_records.specs.Records.{PlacedShape, image_size, placements, placed_shapes, pixels_of_placed}
use Rattle.jb2_records.specs.Records.{Relative, taken, taken_by, is_started, library as shapes_behind}
use Rattle.jb2_records.specs.Growth.{with_more}
use Rattle.jb2_records.specs.Reading.{Input, Mask, is_number, start_fault}
use Rattle.jb2_records.specs.Mask.{mask_of}
use Rattle.jb2_records.specs.Library.{Library, shapes_of, library_of, Keeps, with_start, with_taken, with_used, with_kept}
use Rattle.jb2_records.specs.Picture.{Picture, Shows, IsBlank, draws_nothing}

-- the shapes of a library
pub keeps_shapes : (input : Input) (before : List Record) (library : Library) → Keeps input before library →
    shapes_of library ≡ shapes_behind input.inherited before
keeps_shapes input before library keeps = ap shapes_of keeps.is

-- relations know no bytes
pub keeps_more : (input : Input) (before : List Record) (library : Library) (more : List ℕ) (ended : Bool) → Keeps input before library →
    Keeps (with_more input more ended) before library
keeps_more input before library more ended keeps = record { is = keeps.is }

pub shows_more : (input : Input) (before : List Record) (picture : Picture) (more : List ℕ) (ended : Bool) → Shows input before picture →
    Shows (with_more input more ended) before picture
shows_more input before picture more ended shows = record {
  purpose = shows.purpose;
  size = shows.size;
  mask = shows.mask;
  count = shows.count;
  pixels = shows.pixels;
  after = shows.after;
}

pub blank_more : (input : Input) (before : List Record) (more : List ℕ) (ended : Bool) → IsBlank input before → IsBlank (with_more input more ended) before
blank_more input before more ended blank = record { marks = blank.marks; placed = blank.placed }

-- a library
pub keeps_start : (input : Input) (before : List Record) (library : Library) (width height : ℕ) (flag : Bool) → Keeps input before library →
    Keeps input (Start width height flag ∷ before) (with_start library)
keeps_start input before library width height flag keeps = record { is = ap with_start keeps.is }

pub keeps_mark_both : (input : Input) (before : List Record) (library : Library) (shape : Pixels) (at : Relative) → Keeps input before library →
    Keeps input (MarkBoth shape at ∷ before) (with_kept shape library)
keeps_mark_both input before library shape at keeps = record { is = ap (with_kept shape) keeps.is }

pub keeps_mark_library : (input : Input) (before : List Record) (library : Library) (shape : Pixels) → Keeps input before library →
    Keeps input (MarkLibrary shape ∷ before) (with_kept shape library)
keeps_mark_library input before library shape keeps = record { is = ap (with_kept shape) keeps.is }

pub keeps_mark_image : (input : Input) (before : List Record) (library : Library) (shape : Pixels) (at : Relative) → Keeps input before library →
    Keeps input (MarkImage shape at ∷ before) (with_used shape library)
keeps_mark_image input before library shape at keeps = record { is = ap (with_used shape) keeps.is }

pub keeps_refine_both : (input : Input) (before : List Record) (library : Library) (matched : ℕ) (shape : Pixels) (at : Relative) →
    Keeps input before library → Keeps input (RefineBoth matched shape at ∷ before) (with_kept shape library)
keeps_refine_both input before library matched shape at keeps = record { is = ap (with_kept shape) keeps.is }

pub keeps_refine_library : (input : Input) (before : List Record) (library : Library) (matched : ℕ) (shape : Pixels) → Keeps input before library →
    Keeps input (RefineLibrary matched shape ∷ before) (with_kept shape library)
keeps_refine_library input before library matched shape keeps = record { is = ap (with_kept shape) keeps.is }

pub keeps_refine_image : (input : Input) (before : List Record) (library : Library) (matched : ℕ) (shape : Pixels) (at : Relative) →
    Keeps input before library → Keeps input (RefineImage matched shape at ∷ before) (with_used shape library)
keeps_refine_image input before library matched shape at keeps = record { is = ap (with_used shape) keeps.is }

pub keeps_copy : (input : Input) (before : List Record) (library : Library) (matched : ℕ) (at : Relative) → Keeps input before library →
    Keeps input (Copy matched at ∷ before) library
keeps_copy input before library matched at keeps = record { is = keeps.is }

pub keeps_plain : (input : Input) (before : List Record) (library : Library) (shape : Pixels) (left top : ℕ) → Keeps input before library →
    Keeps input (Plain shape left top ∷ before) (with_used shape library)
keeps_plain input before library shape left top keeps = record { is = ap (with_used shape) keeps.is }

-- before the start inherited shapes are taken, or none
taken_when : (inherited : List Pixels) (before : List Record) (started : Bool) (count : ℕ) → is_started before ≡ started → started ≡ false →
    (if count == 0 then [] else inherited) ≡ taken inherited (Require count ∷ before)
taken_when inherited before started count is none = sym (ap (λ (b : Bool). taken_by inherited (Require count) b (taken inherited before)) (is ∙ none))

pub keeps_taken : (input : Input) (before : List Record) (library : Library) (count : ℕ) → library.started ≡ false → Keeps input before library →
    Keeps input (Require count ∷ before) (with_taken (if count == 0 then [] else input.inherited) library)
keeps_taken input before library count unstarted keeps = record {
  is = ap (with_taken (if count == 0 then [] else input.inherited)) keeps.is
      ∙ ap (λ (l : List Pixels). with_taken l (library_of input before))
      (taken_when input.inherited before library.started count (sym (ap (λ (l : Library). l.started) keeps.is)) unstarted);
}

-- and behind it nothing changes
pub keeps_reset : (input : Input) (before : List Record) (library : Library) (count : ℕ) → library.started ≡ true → Keeps input before library →
    Keeps input (Require count ∷ before) library
keeps_reset input before library count started keeps = record {
  is = keeps.is ∙ ap (λ (l : List Pixels). with_taken l (library_of input before))
      (sym (ap (λ (b : Bool). taken_by input.inherited (Require count) b (taken input.inherited before))
      (sym (ap (λ (l : Library). l.started) keeps.is) ∙ started)));
}

pub keeps_comment : (input : Input) (before : List Record) (library : Library) (bytes : List ℕ) → Keeps input before library →
    Keeps input (Comment bytes ∷ before) library
keeps_comment input before library bytes keeps = record { is = keeps.is }

pub keeps_end : (input : Input) (before : List Record) (library : Library) → Keeps input before library → Keeps input (End ∷ before) library
keeps_end input before library keeps = record { is = keeps.is }

-- a picture, where a record draws nothing
shows_same : (input : Input) (entry : Record) (before : List Record) (picture : Picture) → image_size (entry ∷ before) ≡ image_size before →
    placements input.inherited (entry ∷ before) ≡ placements input.inherited before →
    placed_shapes input.inherited (entry ∷ before) ≡ placed_shapes input.inherited before → Shows input before picture → Shows input (entry ∷ before) picture
shows_same input entry before picture size marks placed shows = record {
  purpose = shows.purpose;
  size = size ∙ shows.size;
  mask = shows.mask ∙ ap (λ (l : List PlacedShape). mask_of picture.mask.width picture.mask.height l) (sym placed);
  count = shows.count ∙ ap (λ (l : List PlacedShape). length l) (sym placed);
  pixels = shows.pixels ∙ ap (λ (l : List PlacedShape). pixels_of_placed l) (sym placed);
  after = subst (λ (l : List Placement). IsAfter picture.mask.height l picture.places) (sym marks) shows.after;
}

pub shows_on : (input : Input) (before : List Record) (picture : Picture) (entry : Record) → draws_nothing entry ≡ true → Shows input before picture →
    Shows input (entry ∷ before) picture
shows_on input before picture (MarkLibrary shape) none shows = shows_same input (MarkLibrary shape) before picture refl refl refl shows
shows_on input before picture (RefineLibrary matched shape) none shows = shows_same input (RefineLibrary matched shape) before picture refl refl refl shows
shows_on input before picture (Require count) none shows = shows_same input (Require count) before picture refl refl refl shows
shows_on input before picture (Comment bytes) none shows = shows_same input (Comment bytes) before picture refl refl refl shows
shows_on input before picture End none shows = shows_same input End before picture refl refl refl shows
shows_on input before picture (Start width height flag) none shows = cc
shows_on input before picture (MarkBoth shape at) none shows = cc
shows_on input before picture (MarkImage shape at) none shows = cc
shows_on input before picture (RefineBoth matched shape at) none shows = cc
shows_on input before picture (RefineImage matched shape at) none shows = cc
shows_on input before picture (Copy matched at) none shows = cc
shows_on input before picture (Plain shape left top) none shows = cc

-- no picture: what may stand before a mask's start, and in a dictionary
pub blank_first : (input : Input) → IsBlank input []
blank_first input = record { marks = refl; placed = refl }

pub blank_start : (input : Input) (before : List Record) (width height : ℕ) (flag : Bool) → IsBlank input before →
    IsBlank input (Start width height flag ∷ before)
blank_start input before width height flag blank = record { marks = blank.marks; placed = blank.placed }

pub blank_on : (input : Input) (before : List Record) (entry : Record) → draws_nothing entry ≡ true → IsBlank input before → IsBlank input (entry ∷ before)
blank_on input before (MarkLibrary shape) none blank = record { marks = blank.marks; placed = blank.placed }
blank_on input before (RefineLibrary matched shape) none blank = record { marks = blank.marks; placed = blank.placed }
blank_on input before (Require count) none blank = record { marks = blank.marks; placed = blank.placed }
blank_on input before (Comment bytes) none blank = record { marks = blank.marks; placed = blank.placed }
blank_on input before End none blank = record { marks = blank.marks; placed = blank.placed }
blank_on input before (Start width height flag) none blank = cc
blank_on input before (MarkBoth shape at) none blank = cc
blank_on input before (MarkImage shape at) none blank = cc
blank_on input before (RefineBoth matched shape at) none blank = cc
blank_on input before (RefineImage matched shape at) none blank = cc
blank_on input before (Copy matched at) none blank = cc
blank_on input before (Plain shape left top) none blank = cc

-- a start without a fault tells the mask's size
both_numbers : (a b : Bool) (fault : FaultKind) → (let o : Option FaultKind = (if a && b then None else Some fault) in o) ≡ None → (a ≡ true) × (b ≡ true)
both_numbers true true fault none = (refl, refl)
both_numbers true false fault none = cc
both_numbers false b fault none = cc

number_is : (number : ℤ) (other : ℕ) → is_number number other ≡ true → unsigned number ≡ other
number_is (pos n) other is = eqb-true n other is
number_is (negsuc n) other is = cc

pub start_size : (mask_width mask_height : ℕ) (width height : ℤ) → start_fault (Mask mask_width mask_height) width height ≡ None →
    (unsigned width ≡ mask_width) × (unsigned height ≡ mask_height)
start_size mask_width mask_height width height none =
    let both = both_numbers (is_number width mask_width) (is_number height mask_height) _ none in
    (number_is width mask_width both.0, number_is height mask_height both.1)
