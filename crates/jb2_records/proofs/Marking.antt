-- A mark that is placed: what a check of it says, and what it leaves.
use Rattle.std.proofs.Common.{◌≡◌, ℕ, ℤ, false, List, ◌∷◌, refl, sym, ap, subst, ◌∙◌}
use Rattle.std.specs.Prelude.{Option, Some, None, Result, Ok, Err}
use Rattle.std.specs.Result.{OnOk, is_err}
use Rattle.djvu_base.specs.declared.faults.FaultKind.{FaultKind}
use Rattle.zp_decoder.specs.Chunk.{Chunk}
use Rattle.bit_plane.specs.Pixels.{Pixels}
use Rattle.bit_plane.specs.Ink.{unsigned}
use Rattle.jb2_records.specs.declared.frames.Steps.{Steps}
use Rattle.jb2_records.specs.declared.steps.Origin.{Origin}
use Rattle.jb2_records.specs.declared.steps.Origin.TheVariants as origin
use Rattle.jb2_records.specs.declared.machine.Machine.{Machine}
use Rattle.jb2_records.specs.declared.reader.Jb2Step.TheVariants as answer
use Rattle.jb2_records.specs.Records.{Record, Copy, Plain, Frame, whole_frame, ink_frame, mark_of, shape_at, library}
use Rattle.jb2_records.specs.Coding.{Coder, Read, Got, checked}
use Rattle.jb2_records.specs.Reading.{Input, place_fault}
use Rattle.jb2_records.specs.Library.{Library, shapes_of, Keeps, with_used, with_kept}
use Rattle.jb2_records.specs.Picture.{Picture, Shows, mark_at, relative_of}
use Rattle.jb2_records.specs.Steps.{numbered, placed, both_record, image_record}
use Rattle.jb2_records.specs.Machine.{with_chunk, Stays, Adds, Answers}
use Rattle.jb2_records.proofs.Adding.{keeps_shapes, keeps_copy, keeps_plain}
use Rattle.jb2_records.proofs.Stepping.{adds_of, refused_by}
use Rattle.jb2_records.proofs.Entering.{passed_by, both_adds, image_adds}

-- the picture that is there
pictured : (input : Input) (rest : Input → List Record → List ℕ → Coder → Read Record) (machine : Machine) (picture : Picture) →
    machine.picture ≡ Some picture → Stays input rest machine →
    Stays input rest (record machine { picture = Some picture })
pictured input rest machine picture is c = subst (λ (p : Option Picture). Stays input rest (record machine { picture = p })) is c

-- ---- the check of a mark

-- what it told of the shape, behind records that library and picture are of
pub record Checks (input : Input) (shapes : Library) (picture : Picture) (shape : Input → List Record → Pixels) (told : Option FaultKind) : Type 0 where
  pub says : (before : List Record) → Keeps input before shapes → Shows input before picture → told ≡ place_fault input before (shape input before)
  pub everywhere : (later : Chunk) (before : List Record) → shape (with_chunk input later) before ≡ shape input before

-- what is left of a record where its mark is checked
abbrev checked_mark : (Input → List Record → Pixels) → (Input → List Record → List ℕ → Coder → Read Record) → Input → List Record → List ℕ → Coder →
    Read Record
checked_mark shape rest later before text at = checked (place_fault later before (shape later before)) at (λ at. rest later before text at)

pub place_refused : (input : Input) (shape : Input → List Record → Pixels) (rest : Input → List Record → List ℕ → Coder → Read Record)
    (machine : Machine) (picture : Picture) (found : FaultKind) (told : Option FaultKind) → machine.picture ≡ Some picture → told ≡ Some found →
    Checks input machine.library picture shape told → Stays input (checked_mark shape rest) machine →
    Answers input (answer.Refused found) (record machine { picture = Some picture })
place_refused input shape rest machine picture found told is some checks c =
    let there : Stays input (checked_mark shape rest) (record machine { picture = Some picture }) =
    pictured input (checked_mark shape rest) machine picture is c in
    refused_by input (λ later before. place_fault later before (shape later before)) rest (record machine { picture = Some picture }) found told there some
    (checks.says there.before there.keeps there.draws)

pub place_passed : (input : Input) (shape : Input → List Record → Pixels) (rest : Input → List Record → List ℕ → Coder → Read Record)
    (machine : Machine) (picture : Picture) (told : Option FaultKind) → machine.picture ≡ Some picture → told ≡ None →
    Checks input machine.library picture shape told → Stays input (checked_mark shape rest) machine →
    Stays input rest (record machine { picture = Some picture })
place_passed input shape rest machine picture told is none checks c =
    let there : Stays input (checked_mark shape rest) (record machine { picture = Some picture }) =
    pictured input (checked_mark shape rest) machine picture is c in
    passed_by input (λ later before. place_fault later before (shape later before)) rest (record machine { picture = Some picture }) there
    (sym (checks.says there.before there.keeps there.draws) ∙ none)
    (λ later free. ap (λ (s : Pixels). place_fault input there.before s) (checks.everywhere later there.before) ∙ free)

-- of one shape, which the step has
pub checks_shape : (input : Input) (shapes : Library) (picture : Picture) (shape seen : Pixels) (told : Option FaultKind) → seen ≡ shape →
    ((before : List Record) → Shows input before picture → told ≡ place_fault input before seen) → Checks input shapes picture (λ later before. shape) told
checks_shape input shapes picture shape seen told is says = record {
  says = λ before keeps shows. says before shows ∙ ap (λ (s : Pixels). place_fault input before s) is;
  everywhere = λ later before. refl;
}

-- and of one of the library
pub checks_number : (input : Input) (shapes : Library) (picture : Picture) (number : ℕ) (shape : Pixels) (told : Option FaultKind) →
    shape ≡ shape_at (shapes_of shapes) number →
    ((before : List Record) → Shows input before picture → told ≡ place_fault input before shape) →
    Checks input shapes picture (λ later before. numbered later before number) told
checks_number input shapes picture number shape told is says = record {
  says = λ before keeps shows. says before shows ∙ ap (λ (s : Pixels). place_fault input before s)
      (is ∙ ap (λ (l : List Pixels). shape_at l number) (keeps_shapes input before shapes keeps));
  everywhere = λ later before. refl;
}

-- ---- what a mark leaves

-- this picture shows a mark more
abbrev pub Places : Input → Pixels → Frame → Steps → Picture → Picture → Type 0
Places input shape frame steps old new =
    (before : List Record) (entry : Record) → mark_of (library input.inherited before) entry ≡ Some (mark_at shape frame steps) → Shows input before old →
    Shows input (entry ∷ before) new

pub places_as : (input : Input) (shape seen : Pixels) (frame : Frame) (steps : Steps) (old new : Picture) → seen ≡ shape →
    Places input seen frame steps old new → Places input shape frame steps old new
places_as input shape seen frame steps old new is places = subst (λ (s : Pixels). Places input s frame steps old new) is places

pub plain_as : (input : Input) (shape seen : Pixels) (left top seen_left seen_top : ℤ) (before : List Record) (new : Picture) → seen ≡ shape →
    seen_left ≡ left → seen_top ≡ top →
    Shows input (Plain seen (unsigned seen_left) (unsigned seen_top) ∷ before) new → Shows input (Plain shape (unsigned left) (unsigned top) ∷ before) new
plain_as input shape seen left top seen_left seen_top before new same same_left same_top shows =
    subst (λ (t : ℤ). Shows input (Plain shape (unsigned left) (unsigned t) ∷ before) new) same_top
    (subst (λ (l : ℤ). Shows input (Plain shape (unsigned l) (unsigned seen_top) ∷ before) new) same_left
    (subst (λ (s : Pixels). Shows input (Plain s (unsigned seen_left) (unsigned seen_top) ∷ before) new) same shows))

-- a call that went well
pub ok_holds : {A E : Type 0} (told : Result A E) (P : Type 0) → is_err told ≡ false → OnOk told P → P
ok_holds (Ok value) P fine holds = holds
ok_holds (Err failed) P fine holds = absurd (cc)

both_mark : (shapes : List Pixels) (made : Origin) (shape : Pixels) (frame : Frame) (steps : Steps) → frame ≡ whole_frame shape →
    mark_of shapes (both_record made shape (relative_of steps)) ≡ Some (mark_at shape frame steps)
both_mark shapes origin.Own shape frame steps is = ap (λ (f : Frame). Some (mark_at shape f steps)) (sym is)
both_mark shapes (origin.Refined number) shape frame steps is = ap (λ (f : Frame). Some (mark_at shape f steps)) (sym is)

image_mark : (shapes : List Pixels) (made : Origin) (shape : Pixels) (frame : Frame) (steps : Steps) → frame ≡ whole_frame shape →
    mark_of shapes (image_record made shape (relative_of steps)) ≡ Some (mark_at shape frame steps)
image_mark shapes origin.Own shape frame steps is = ap (λ (f : Frame). Some (mark_at shape f steps)) (sym is)
image_mark shapes (origin.Refined number) shape frame steps is = ap (λ (f : Frame). Some (mark_at shape f steps)) (sym is)

pub both_placed : (input : Input) (made : Origin) (shape : Pixels) (frame : Frame) (steps : Steps) (machine : Machine) (shapes : Library)
    (old new : Picture) (told : Option FaultKind) →
    machine.picture ≡ Some old → told ≡ None → Checks input machine.library old (λ later before. shape) told → frame ≡ whole_frame shape →
    shapes ≡ with_kept shape machine.library → Places input shape frame steps old new →
    Stays input (λ later before text at. placed later before shape (λ place. both_record made shape place) (relative_of steps) at) machine →
    Adds input (record machine { library = shapes; picture = Some new })
both_placed input made shape frame steps machine shapes old new told is none checks whole kept places c =
    let next : Stays input (λ later before text at. Got (both_record made shape (relative_of steps)) at) (record machine { picture = Some old }) =
    place_passed input (λ later before. shape) (λ later before text at. Got (both_record made shape (relative_of steps)) at) machine old told is none checks
    c in
    both_adds input (record machine { picture = Some old }) shapes new made shape (relative_of steps) next kept
    (places next.before (both_record made shape (relative_of steps)) (both_mark (library input.inherited next.before) made shape frame steps whole)
    next.draws)

pub image_placed : (input : Input) (made : Origin) (shape : Pixels) (frame : Frame) (steps : Steps) (machine : Machine) (shapes : Library)
    (old new : Picture) (told : Option FaultKind) →
    machine.picture ≡ Some old → told ≡ None → Checks input machine.library old (λ later before. shape) told → frame ≡ whole_frame shape →
    shapes ≡ with_used shape machine.library → Places input shape frame steps old new →
    Stays input (λ later before text at. placed later before shape (λ place. image_record made shape place) (relative_of steps) at) machine →
    Adds input (record machine { library = shapes; picture = Some new })
image_placed input made shape frame steps machine shapes old new told is none checks whole used places c =
    let next : Stays input (λ later before text at. Got (image_record made shape (relative_of steps)) at) (record machine { picture = Some old }) =
    place_passed input (λ later before. shape) (λ later before text at. Got (image_record made shape (relative_of steps)) at) machine old told is none
    checks c in
    image_adds input (record machine { picture = Some old }) shapes new made shape (relative_of steps) next used
    (places next.before (image_record made shape (relative_of steps)) (image_mark (library input.inherited next.before) made shape frame steps whole)
    next.draws)

pub copy_placed : (input : Input) (number : ℕ) (shape : Pixels) (frame : Frame) (steps : Steps) (machine : Machine) (old new : Picture)
    (told : Option FaultKind) →
    machine.picture ≡ Some old → told ≡ None → Checks input machine.library old (λ later before. numbered later before number) told →
    shape ≡ shape_at (shapes_of machine.library) number → frame ≡ ink_frame shape →
    Places input shape frame steps old new → Stays input (λ later before text at. placed later before (numbered later before number)
    (λ place. Copy number place) (relative_of steps) at) machine →
    Adds input (record machine { picture = Some new })
copy_placed input number shape frame steps machine old new told is none checks same ink places c =
    let next : Stays input (λ later before text at. Got (Copy number (relative_of steps)) at) (record machine { picture = Some old }) =
    place_passed input (λ later before. numbered later before number) (λ later before text at. Got (Copy number (relative_of steps)) at) machine old told is
    none checks c in
    let there : shape ≡ numbered input next.before number = same ∙ ap (λ (l : List Pixels). shape_at l number)
    (keeps_shapes input next.before machine.library next.keeps) in
    adds_of input (record machine { picture = Some old }) (record machine { picture = Some new }) (Copy number (relative_of steps)) next refl refl
    (keeps_copy input next.before machine.library number (relative_of steps) next.keeps)
    (places next.before (Copy number (relative_of steps))
    (ap (λ (s : Pixels). Some (mark_at s (ink_frame s) steps)) (sym there) ∙ ap (λ (f : Frame). Some (mark_at shape f steps)) (sym ink)) next.draws) refl

pub plain_placed : (input : Input) (shape : Pixels) (left top : ℕ) (machine : Machine) (shapes : Library) (old new : Picture) (told : Option FaultKind) →
    machine.picture ≡ Some old → told ≡ None →
    Checks input machine.library old (λ later before. shape) told → shapes ≡ with_used shape machine.library →
    ((before : List Record) → Shows input before old → Shows input (Plain shape left top ∷ before) new) →
    Stays input (λ later before text at. checked (place_fault later before shape) at (λ at. Got (Plain shape left top) at)) machine →
    Adds input (record machine { library = shapes; picture = Some new })
plain_placed input shape left top machine shapes old new told is none checks used places c =
    let next : Stays input (λ later before text at. Got (Plain shape left top) at) (record machine { picture = Some old }) =
    place_passed input (λ later before. shape) (λ later before text at. Got (Plain shape left top) at) machine old told is none checks c in
    adds_of input (record machine { picture = Some old }) (record machine { library = shapes; picture = Some new }) (Plain shape left top) next refl refl
    (subst (λ (l : Library). Keeps input (Plain shape left top ∷ next.before) l) (sym used)
    (keeps_plain input next.before machine.library shape left top next.keeps))
    (places next.before next.draws) refl
