-- What the records came to, once they ended.
use Rattle.std.proofs.Common.{◌≡◌, ℕ, true, List, refl, ap, subst, ◌∙◌}
use Rattle.std.specs.Prelude.{Option, Some, None}
use Rattle.jb2_records.specs.declared.steps.Step.{Step}
use Rattle.jb2_records.specs.declared.machine.Machine.{Machine}
use Rattle.jb2_records.specs.declared.reader.Jb2Step.{Jb2Step}
use Rattle.jb2_records.specs.declared.reader.Jb2Step.TheVariants as answer
use Rattle.jb2_records.specs.Records.{Record, placed_shapes}
use Rattle.jb2_records.specs.Reading.{Input, Purpose, Dictionary, Mask, records_of}
use Rattle.jb2_records.specs.Library.{Library, Keeps}
use Rattle.jb2_records.specs.Picture.{Picture, Draws, Shows}
use Rattle.jb2_records.specs.Mask.{mask_of, mask_drawn}
use Rattle.jb2_records.specs.Machine.{IsPictured}
use Rattle.jb2_records.specs.ReaderState.{input_of, answered_by, state_of, Fed}
use Rattle.jb2_records.specs.ReaderState.{IsHeld, IsDrawnFor}
use Rattle.jb2_records.proofs.Feeding.{fed_stands, kept_at}

ended_here : (at : Option Step) (told : Jb2Step) → answered_by at told ≡ Some answer.Finished → (at ≡ None) × (told ≡ answer.Finished)
ended_here (Some at) told is = absurd (cc)
ended_here None told is = (refl, cc)

module _ (at : Option Step) (told : Jb2Step) (machine : Machine) (ended : answered_by at told ≡ Some answer.Finished) where
  pub finished_keeps : (payload : List ℕ) → Fed payload (state_of (kept_at at told machine)) →
      Keeps (input_of (state_of (kept_at at told machine)) payload) (records_of (input_of (state_of (kept_at at told machine)) payload)).records
      machine.library
  finished_keeps payload fed = (fed_stands at told machine payload (ended_here at told ended).0 fed).keeps (ended_here at told ended).1

  pub finished_draws : (payload : List ℕ) → Fed payload (state_of (kept_at at told machine)) →
      Draws (input_of (state_of (kept_at at told machine)) payload) (records_of (input_of (state_of (kept_at at told machine)) payload)).records
      machine.picture
  finished_draws payload fed = (fed_stands at told machine payload (ended_here at told ended).0 fed).draws (ended_here at told ended).1

drawn_for : (input : Input) (before : List Record) (shapes : Library) (purpose : Purpose) (picture : Option Picture) → input.purpose ≡ purpose →
    shapes.purpose ≡ purpose →
    IsPictured shapes picture → shapes.started ≡ true → Draws input before picture → IsDrawnFor purpose picture
drawn_for input before shapes Dictionary picture is same pictured started draws = tt
drawn_for input before shapes (Mask width height) None is same pictured started draws = let none = pictured started in absurd (cc)
drawn_for input before shapes (Mask width height) (Some picture) is same pictured started draws = let size = draws.purpose in (cc, cc)

-- a mask has its picture
pub finished_drawn : (at : Option Step) (told : Jb2Step) (machine : Machine) → answered_by at told ≡ Some answer.Finished → IsHeld (kept_at at told machine) →
    IsDrawnFor machine.library.purpose machine.picture
finished_drawn (Some at) told machine ended held = absurd (cc)
finished_drawn None told machine ended held =
    let fits = held.fits.1 cc in
    drawn_for (input_of (state_of (kept_at None told machine)) held.payload)
    (records_of (input_of (state_of (kept_at None told machine)) held.payload)).records machine.library
    machine.library.purpose machine.picture refl refl fits.0 fits.1 (finished_draws None told machine ended held.payload held.fed)

drawn_width : (purpose : Purpose) (found : Option Picture) (picture : Picture) (width height : ℕ) → found ≡ Some picture → IsDrawnFor purpose found →
    purpose ≡ Mask width height →
    (picture.mask.width ≡ width) × (picture.mask.height ≡ height)
drawn_width purpose found picture width height some drawn is =
    let there : IsDrawnFor (Mask width height) (Some picture) =
    subst (λ (f : Option Picture). IsDrawnFor (Mask width height) f) some (subst (λ (p : Purpose). IsDrawnFor p found) is drawn) in
    there

pub drawn_mask : (input : Input) (found : Option Picture) (picture : Picture) (width height : ℕ) → found ≡ Some picture → IsDrawnFor input.purpose found →
    input.purpose ≡ Mask width height →
    Draws input (records_of input).records found → picture.mask ≡ mask_drawn width height input
drawn_mask input found picture width height some drawn is draws =
    let shows : Shows input (records_of input).records picture = subst (λ (f : Option Picture). Draws input (records_of input).records f) some draws in
    let size : (picture.mask.width ≡ width) × (picture.mask.height ≡ height) = drawn_width input.purpose found picture width height some drawn is in
    shows.mask ∙ ap (λ (w : ℕ). mask_of w picture.mask.height (placed_shapes input.inherited (records_of input).records)) size.0
    ∙ ap (λ (h : ℕ). mask_of width h (placed_shapes input.inherited (records_of input).records)) size.1
