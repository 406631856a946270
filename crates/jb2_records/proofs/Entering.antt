-- What a record that was read enters: the library and the picture, by its type.
use Rattle.std.proofs.Common.{◌≡◌, ℕ, ℤ, Bool, true, false, ◌&&◌, List, ◌∷◌, refl, sym, ap, subst, ◌∙◌}
use Rattle.std.specs.Prelude.{Option, Some, None}
use Rattle.djvu_base.specs.declared.faults.FaultKind.{FaultKind}
use Rattle.jb2_records.specs.declared.reader.Jb2Step.TheVariants as answer
use Rattle.bit_plane.specs.Pixels.{Pixels}
use Rattle.bit_plane.specs.Ink.{unsigned}
use Rattle.zp_decoder.specs.Chunk.{Chunk}
use Rattle.jb2_records.specs.declared.steps.Step.TheVariants as step
use Rattle.jb2_records.specs.declared.steps.Origin.{Origin}
use Rattle.jb2_records.specs.declared.steps.Origin.TheVariants as origin
use Rattle.jb2_records.specs.declared.steps.Reference.{Reference}
use Rattle.jb2_records.specs.declared.steps.Field.{Field}
use Rattle.jb2_records.specs.declared.machine.Machine.{Machine}
use Rattle.jb2_records.specs.declared.types.RecordType.{RecordType}
use Rattle.jb2_records.specs.declared.types.RecordType.TheVariants as type
use Rattle.jb2_records.specs.Records.{Record, Start, MarkLibrary, RefineLibrary, Require, End, Relative, is_end, is_started}
use Rattle.jb2_records.specs.Coding.{Coder, Read, Got, checked}
use Rattle.jb2_records.specs.Reading.{Input, Purpose, Dictionary, Mask, start_fault, type_of, type_fault, has_shapes, is_require_type, read_require, read_bytes, read_body, with_fresh_numbers}
use Rattle.jb2_records.specs.Telling.{Parts, Stands}
use Rattle.jb2_records.specs.Library.{Library, Keeps, with_used, with_kept}
use Rattle.jb2_records.specs.Picture.{Picture, Draws, Shows, IsBlank}
use Rattle.jb2_records.specs.Steps.{from_kind, from_number, from_matched, both_record, library_record, image_record, rest_of}
use Rattle.jb2_records.specs.Machine.{with_chunk, Follows, Stays, Holds, Adds, Answers, IsPictured, IsBlankFor, first_field}
use Rattle.jb2_records.proofs.Adding.{keeps_reset, keeps_mark_both, keeps_mark_library, keeps_mark_image, keeps_refine_both, keeps_refine_library, keeps_refine_image, blank_start, start_size}
use Rattle.jb2_records.proofs.Suspending.{passed, along}
use Rattle.jb2_records.proofs.Stepping.{draws_on, adds_of, body_rest, refused_by}

-- a check found nothing
pub passed_by : (input : Input) (found : Input → List Record → Option FaultKind) (rest : Input → List Record → List ℕ → Coder → Read Record)
    (machine : Machine)
    (c : Stays input (λ later before text at. checked (found later before) at (λ at. rest later before text at)) machine) → found input c.before ≡ None →
    ((later : Chunk) → found input c.before ≡ None → found (with_chunk input later) c.before ≡ None) → Stays input rest machine
passed_by input found rest machine c none everywhere =
    passed input found rest (λ before at. Stands input.chunk at machine.coder) machine.library machine.picture machine.units c (λ later. everywhere later none)

-- behind the start the contexts of numbers begin anew
pub reset_adds : (input : Input) (machine : Machine) (parts : Parts) → machine.library.started ≡ true →
    ((at : Coder) → Stands input.chunk at machine.coder → Stands input.chunk (with_fresh_numbers at) parts) →
    (c : Stays input (λ later before text at. Got (Require 0) (with_fresh_numbers at)) machine) → Adds input (record machine { coder = parts })
reset_adds input machine parts started fresh c = record {
  before = c.before;
  entry = Require 0;
  at = with_fresh_numbers c.at;
  goes = λ later becomes.
      let was : Follows (with_chunk input later) c.before c.at (Got (Require 0) (with_fresh_numbers c.at)) = c.goes later becomes in
      record { same = was.same; less = was.less };
  stands = fresh c.at c.stands_there;
  keeps = keeps_reset input c.before machine.library 0 started c.keeps;
  draws = draws_on input c.before machine.picture (Require 0) refl c.draws;
  count = c.count;
  others = refl;
}

-- inherited shapes are taken, or none
pub take_adds : (input : Input) (machine : Machine) (shapes : Library) (count : ℕ)
    (c : Stays input (λ later before text at. Got (Require count) at) machine) → Keeps input (Require count ∷ c.before) shapes →
    Adds input (record machine { library = shapes })
take_adds input machine shapes count c keeps =
    adds_of input machine (record machine { library = shapes }) (Require count) c refl refl keeps
    (draws_on input c.before machine.picture (Require count) refl c.draws) refl

-- ---- shapes and marks

keeps_both : (input : Input) (before : List Record) (shapes : Library) (made : Origin) (shape : Pixels) (at : Relative) → Keeps input before shapes →
    Keeps input (both_record made shape at ∷ before) (with_kept shape shapes)
keeps_both input before shapes origin.Own shape at keeps = keeps_mark_both input before shapes shape at keeps
keeps_both input before shapes (origin.Refined number) shape at keeps = keeps_refine_both input before shapes number shape at keeps

keeps_image : (input : Input) (before : List Record) (shapes : Library) (made : Origin) (shape : Pixels) (at : Relative) → Keeps input before shapes →
    Keeps input (image_record made shape at ∷ before) (with_used shape shapes)
keeps_image input before shapes origin.Own shape at keeps = keeps_mark_image input before shapes shape at keeps
keeps_image input before shapes (origin.Refined number) shape at keeps = keeps_refine_image input before shapes number shape at keeps

pub keep_adds : (input : Input) (machine : Machine) (shapes : Library) (made : Origin) (shape : Pixels) → Stays input
    (λ later before text at. Got (library_record made shape) at) machine → shapes ≡ with_kept shape machine.library →
    Adds input (record machine { library = shapes })
keep_adds input machine shapes origin.Own shape c is =
    adds_of input machine (record machine { library = shapes }) (MarkLibrary shape) c refl refl
    (subst (λ (l : Library). Keeps input (MarkLibrary shape ∷ c.before) l) (sym is) (keeps_mark_library input c.before machine.library shape c.keeps))
    (draws_on input c.before machine.picture (MarkLibrary shape) refl c.draws) refl
keep_adds input machine shapes (origin.Refined number) shape c is =
    adds_of input machine (record machine { library = shapes }) (RefineLibrary number shape) c refl refl
    (subst (λ (l : Library). Keeps input (RefineLibrary number shape ∷ c.before) l) (sym is)
    (keeps_refine_library input c.before machine.library number shape c.keeps))
    (draws_on input c.before machine.picture (RefineLibrary number shape) refl c.draws) refl

both_goes_on : (made : Origin) (shape : Pixels) (at : Relative) → is_end (both_record made shape at) ≡ false
both_goes_on origin.Own shape at = refl
both_goes_on (origin.Refined number) shape at = refl

image_goes_on : (made : Origin) (shape : Pixels) (at : Relative) → is_end (image_record made shape at) ≡ false
image_goes_on origin.Own shape at = refl
image_goes_on (origin.Refined number) shape at = refl

pub both_adds : (input : Input) (machine : Machine) (shapes : Library) (picture : Picture) (made : Origin) (shape : Pixels) (at : Relative)
    (c : Stays input (λ later before text place. Got (both_record made shape at) place) machine) →
    shapes ≡ with_kept shape machine.library → Draws input (both_record made shape at ∷ c.before) (Some picture) → Adds input
    (record machine { library = shapes; picture = Some picture })
both_adds input machine shapes picture made shape at c is draws =
    adds_of input machine (record machine { library = shapes; picture = Some picture }) (both_record made shape at) c refl refl
    (subst (λ (l : Library). Keeps input (both_record made shape at ∷ c.before) l) (sym is)
    (keeps_both input c.before machine.library made shape at c.keeps)) draws (both_goes_on made shape at)

pub image_adds : (input : Input) (machine : Machine) (shapes : Library) (picture : Picture) (made : Origin) (shape : Pixels) (at : Relative)
    (c : Stays input (λ later before text place. Got (image_record made shape at) place) machine) →
    shapes ≡ with_used shape machine.library → Draws input (image_record made shape at ∷ c.before) (Some picture) → Adds input
    (record machine { library = shapes; picture = Some picture })
image_adds input machine shapes picture made shape at c is draws =
    adds_of input machine (record machine { library = shapes; picture = Some picture }) (image_record made shape at) c refl refl
    (subst (λ (l : Library). Keeps input (image_record made shape at ∷ c.before) l) (sym is)
    (keeps_image input c.before machine.library made shape at c.keeps)) draws (image_goes_on made shape at)

pub at_number : (input : Input) (goal : Reference) (number given : ℕ) (machine : Machine) → given ≡ number → Stays input
    (λ later before text at. from_matched later before goal number at) machine →
    Stays input (λ later before text at. from_matched later before goal given at) machine
at_number input goal number given machine same c = subst (λ (n : ℕ). Stays input (λ later before text at. from_matched later before goal n at) machine)
    (sym same) c

pub at_count : (input : Input) (count given : ℕ) (bytes : List ℕ → List ℕ) (machine : Machine) → given ≡ count → Stays input
    (λ later before text at. read_bytes later.chunk count (bytes text) at) machine →
    Stays input (λ later before text at. read_bytes later.chunk given (bytes text) at) machine
at_count input count given bytes machine same c = subst (λ (n : ℕ). Stays input
    (λ later before text at. read_bytes later.chunk n (bytes text) at) machine) (sym same) c

-- ---- behind a type

pub both_true : (a b : Bool) → (a && b) ≡ true → (a ≡ true) × (b ≡ true)
both_true true b is = (refl, is)
both_true false b is = (is, cc)

pub not_both : (a b : Bool) → (a && b) ≡ false → a ≡ true → b ≡ false
not_both true b is first = is
not_both false b is first = cc

pub kind_fault : (input : Input) (number : ℤ) (kind : RecordType) (machine : Machine) (found : FaultKind) (told : Option FaultKind) →
    (c : Stays input (λ later before text at. from_kind later before number at) machine) → kind ≡ type_of number → told ≡ Some found →
    told ≡ type_fault input.purpose (is_started c.before) (has_shapes input c.before) kind → Answers input (answer.Refused found) machine
kind_fault input number kind machine found told c is some same =
    refused_by input (λ later before. type_fault later.purpose (is_started before) (has_shapes later before) (type_of number))
    (λ later before text at. read_body later before (type_of number) at) machine found told c some
    (same ∙ ap (λ (k : RecordType). type_fault input.purpose (is_started c.before) (has_shapes input c.before) k) is)

pub behind_kind : (input : Input) (number : ℤ) (kind : RecordType) (machine : Machine) (told : Option FaultKind) →
    (c : Stays input (λ later before text at. from_kind later before number at) machine) → kind ≡ type_of number → told ≡ None →
    told ≡ type_fault input.purpose (is_started c.before) (has_shapes input c.before) kind → Stays input
    (λ later before text at. read_body later before kind at) machine
behind_kind input number kind machine told c is none same =
    subst (λ (k : RecordType). Stays input (λ later before text at. read_body later before k at) machine) (sym is)
    (passed_by input (λ later before. type_fault later.purpose (is_started before) (has_shapes later before) (type_of number))
    (λ later before text at. read_body later before (type_of number) at) machine c
    (ap (λ (k : RecordType). type_fault input.purpose (is_started c.before) (has_shapes input c.before) k) (sym is) ∙ sym same ∙ none) (λ later there. there))

started_is : (input : Input) (before : List Record) (shapes : Library) → Keeps input before shapes → is_started before ≡ shapes.started
started_is input before shapes keeps = sym (ap (λ (l : Library). l.started) keeps.is)

require_body : (input : Input) (before : List Record) (kind : RecordType) (at : Coder) → is_require_type kind ≡ true → is_started before ≡ true →
    read_body input before kind at ≡ Got (Require 0) (with_fresh_numbers at)
require_body input before type.Require at is started = ap (λ (b : Bool). read_require input b at) started
require_body input before type.Start at is started = absurd (cc)
require_body input before type.MarkBoth at is started = absurd (cc)
require_body input before type.MarkLibrary at is started = absurd (cc)
require_body input before type.MarkImage at is started = absurd (cc)
require_body input before type.RefineBoth at is started = absurd (cc)
require_body input before type.RefineLibrary at is started = absurd (cc)
require_body input before type.RefineImage at is started = absurd (cc)
require_body input before type.Copy at is started = absurd (cc)
require_body input before type.Plain at is started = absurd (cc)
require_body input before type.Comment at is started = absurd (cc)
require_body input before type.End at is started = absurd (cc)

pub kind_resets : (input : Input) (kind : RecordType) (machine : Machine) → Stays input
    (λ later before text at. read_body later before kind at) machine → is_require_type kind ≡ true → machine.library.started ≡ true →
    Stays input (λ later before text at. Got (Require 0) (with_fresh_numbers at)) machine
kind_resets input kind machine c is started =
    along input (λ later before text at. read_body later before kind at) (λ later before text at. Got (Require 0) (with_fresh_numbers at))
    (λ before at. Stands input.chunk at machine.coder)
    machine.library machine.picture machine.units c c.text (λ later. require_body (with_chunk input later) c.before kind c.at is
    (started_is input c.before machine.library c.keeps ∙ started))

pub kind_asks : (input : Input) (kind : RecordType) (machine : Machine) (place : Field) → Stays input
    (λ later before text at. read_body later before kind at) machine → first_field kind ≡ Some place →
    (is_require_type kind ≡ true → machine.library.started ≡ false) → Stays input (λ later before text at. from_number later before text place at) machine
kind_asks input kind machine place c first unstarted =
    along input (λ later before text at. read_body later before kind at) (λ later before text at. from_number later before text place at)
    (λ before at. Stands input.chunk at machine.coder)
    machine.library machine.picture machine.units c c.text
    (λ later. body_rest (with_chunk input later) c.before c.text kind place c.at first
    (λ is. started_is input c.before machine.library c.keeps ∙ unstarted is))

end_body : (input : Input) (before : List Record) (kind : RecordType) (at : Coder) → first_field kind ≡ None → read_body input before kind at ≡ Got End at
end_body input before type.End at is = refl
end_body input before type.Start at is = absurd (cc)
end_body input before type.MarkBoth at is = absurd (cc)
end_body input before type.MarkLibrary at is = absurd (cc)
end_body input before type.MarkImage at is = absurd (cc)
end_body input before type.RefineBoth at is = absurd (cc)
end_body input before type.RefineLibrary at is = absurd (cc)
end_body input before type.RefineImage at is = absurd (cc)
end_body input before type.Copy at is = absurd (cc)
end_body input before type.Plain at is = absurd (cc)
end_body input before type.Require at is = absurd (cc)
end_body input before type.Comment at is = absurd (cc)

pub kind_ends : (input : Input) (kind : RecordType) (machine : Machine) → Stays input
    (λ later before text at. read_body later before kind at) machine → first_field kind ≡ None →
    Stays input (λ later before text at. Got End at) machine
kind_ends input kind machine c none =
    along input (λ later before text at. read_body later before kind at) (λ later before text at. Got End at)
    (λ before at. Stands input.chunk at machine.coder)
    machine.library machine.picture machine.units c c.text (λ later. end_body (with_chunk input later) c.before kind c.at none)

pub at_sizes : (input : Input) (width height given_width given_height : ℤ) (rest : Input → List Record → ℤ → ℤ → Coder → Read Record)
    (machine : Machine) → given_width ≡ width → given_height ≡ height →
    Stays input (λ later before text at. rest later before width height at) machine → Stays input
    (λ later before text at. rest later before given_width given_height at) machine
at_sizes input width height given_width given_height rest machine wide high c =
    subst (λ (h : ℤ). Stays input (λ later before text at. rest later before given_width h at) machine) (sym high)
    (subst (λ (w : ℤ). Stays input (λ later before text at. rest later before w height at) machine) (sym wide) c)

-- ---- starts

blank_there : (library : Library) (picture : Option Picture) → IsPictured library picture → library.started ≡ false → picture ≡ None
blank_there library None pictured unstarted = refl
blank_there library (Some picture) pictured unstarted = absurd (let same = sym pictured ∙ unstarted in cc)

start_draws : (input : Input) (purpose : Purpose) (before : List Record) (width height : ℤ) (flag : Bool) (picture : Option Picture) →
    input.purpose ≡ purpose → start_fault purpose width height ≡ None → IsBlankFor purpose picture →
    IsBlank input before → Draws input (Start (unsigned width) (unsigned height) flag ∷ before) picture
start_draws input Dictionary before width height flag None is none made blank = blank_start input before (unsigned width) (unsigned height) flag blank
start_draws input Dictionary before width height flag (Some picture) is none made blank = absurd made
start_draws input (Mask mask_width mask_height) before width height flag None is none made blank = absurd made
start_draws input (Mask mask_width mask_height) before width height flag (Some picture) is none made blank =
    let both = start_size mask_width mask_height width height none in
    subst (λ (h : ℕ). Shows input (Start (unsigned width) h flag ∷ before) picture) (sym both.1)
    (subst (λ (w : ℕ). Shows input (Start w mask_height flag ∷ before) picture) (sym both.0) (made input before flag is blank))

pub start_adds : (input : Input) (width height : ℤ) (flag : Bool) (machine : Machine) (shapes : Library) (picture : Option Picture) →
    IsPictured machine.library machine.picture → machine.library.started ≡ false →
    start_fault machine.library.purpose width height ≡ None → (holds : Holds input (step.Start width height flag) machine) →
    IsBlankFor machine.library.purpose picture →
    Keeps input (Start (unsigned width) (unsigned height) flag ∷ holds.before) shapes → Adds input (record machine { library = shapes; picture = picture })
unfolding rest_of
start_adds input width height flag machine shapes picture pictured unstarted none holds made keeps =
    let purpose : machine.library.purpose ≡ input.purpose = ap (λ (l : Library). l.purpose) holds.keeps.is in
    adds_of input machine (record machine { library = shapes; picture = picture }) (Start (unsigned width) (unsigned height) flag) holds refl refl keeps
    (start_draws input machine.library.purpose holds.before width height flag picture (sym purpose) none made
    (subst (λ (p : Option Picture). Draws input holds.before p) (blank_there machine.library machine.picture pictured unstarted) holds.draws)) refl
