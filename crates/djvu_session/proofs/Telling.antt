-- What was told of a page stays true of readings that tell more.
use Rattle.std.proofs.Common.{◌≡◌, ◌≤◌, ℕ, suc, Option, Some, None, List, ◌++◌, length, inl, inr, sym, ap, ◌∙◌, subst, arith}
use Rattle.std.proofs.Common.{append_assoc, length-append}
use Rattle.std.specs.Prelude.{take}
use Rattle.std.proofs.lemmas.List.{take-append-le, length-map}
use Rattle.djvu_base.specs.declared.faults.Fault.{Fault}
use Rattle.page_decoder.specs.Given.{Front}
use Rattle.page_decoder.specs.PageRead.{Drawing, notice_of, notices_of, PageRead}
use Rattle.page_decoder.specs.PageRead as reading
use Rattle.page_decoder.specs.Needs.{Below}
use Rattle.page_decoder.specs.Libraries.{run_end}
use Rattle.port_log.specs.declared.entries.PageEnd.{PageEnd}
use Rattle.port_log.specs.declared.entries.PageEnd.TheVariants as page_end
use Rattle.djvu_session.specs.Passes.{PageState}
use Rattle.djvu_session.specs.Pages.{EndsAs, EndsSo, LayersSo, layers_behind, IsTold}

pub front_trans : {A : Type 0} → (xs ys zs : List A) → Front xs ys → Front ys zs → Front xs zs
front_trans xs ys zs one two = (one.0 ++ two.0, two.1 ∙ ap (λ l. l ++ two.0) one.1 ∙ append_assoc xs one.0 two.0)

front_length : {A : Type 0} → (xs ys : List A) → Front xs ys → length xs ≤ length ys
front_length xs ys front = let e = ap length front.1 ∙ length-append xs front.0 in omega (arith, e)

same_layers : (drawings more : List Drawing) (count : ℕ) → Front drawings more → count ≤ length drawings
    → layers_behind drawings count ≡ layers_behind more count
same_layers drawings more count front few =
    ap reading.last_layers (sym (ap (λ l. take count l) front.1 ∙ take-append-le count drawings front.0 few))

-- a page told no more than its reading has
pub told_few : (read : PageRead) (page : PageState) → IsTold read page → length page.notices ≤ length read.left.told.drawings
told_few read page told =
    let few = front_length page.notices (notices_of read.left.told) told.notices in
    let same = length-map read.left.told.drawings notice_of in
    omega (arith, few, same)

layers_on : (less more : List Drawing) (page : PageState) (how : Option PageEnd) → Front less more → length page.notices ≤ length less
    → LayersSo less page how → LayersSo more page how
layers_on less more page None front few so = so ∙ same_layers less more (length page.notices) front few
layers_on less more page (Some page_end.Finished) front few so = so ∙ same_layers less more (length page.notices) front few
layers_on less more page (Some (page_end.Refused fault)) front few so = so ∙ same_layers less more (length page.notices) front few
layers_on less more page (Some page_end.NoMemory) front few (inl so) = inl (so ∙ same_layers less more (length page.notices) front few)
layers_on less more page (Some page_end.NoMemory) front few (inr so) =
    let longer = front_length less more front in
    let is = so.0 in
    inr (omega (arith, longer, is), so.1 ∙ same_layers less more (suc (length page.notices)) front (omega (arith, is)))

-- the end of a reading stays in another one
pub record EndStays (less more : PageRead) : Type 0 where
  pub finished : less.end ≡ reading.Finished → more ≡ less
  pub refused : (fault : Fault) → less.end ≡ reading.Refused fault → more ≡ less

ends_on : (less more : PageRead) (page : PageState) (how : Option PageEnd) → EndStays less more → EndsSo less page how → EndsSo more page how
ends_on less more page None stays so = so
ends_on less more page (Some page_end.Finished) stays so =
    subst (λ (r : PageRead). EndsAs r page reading.Finished) (sym (stays.finished so.end)) so
ends_on less more page (Some (page_end.Refused fault)) stays so =
    subst (λ (r : PageRead). EndsAs r page (reading.Refused fault)) (sym (stays.refused fault so.end)) so
ends_on less more page (Some page_end.NoMemory) stays so = so

pub told_on : (less more : PageRead) (page : PageState) → Below less.left.told more.left.told → Front (notices_of less.left.told) (notices_of more.left.told)
    → (less.end ≡ reading.Finished → more ≡ less) → ((fault : Fault) → less.end ≡ reading.Refused fault → more ≡ less)
    → IsTold less page → IsTold more page
told_on less more page below notices finished refused told =
    let few = told.decisions in
    let rises = below.decisions in
    record {
      notices = front_trans page.notices (notices_of less.left.told) (notices_of more.left.told) told.notices notices;
      decisions = omega (arith, few, rises);
      end = ends_on less more page page.end (record { finished = finished; refused = refused }) told.end;
      layers = layers_on less.left.told.drawings more.left.told.drawings page page.end below.drawings (told_few less page told) told.layers;
    }

-- the same reading, with another need
ends_by_run : (read : PageRead) (page : PageState) (how : Option PageEnd) → EndsSo read page how
    → EndsSo (record { left = read.left; end = run_end read.end }) page how
ends_by_run read page None so = so
ends_by_run read page (Some page_end.Finished) so = record { end = ap run_end so.end; all = so.all; decisions = so.decisions }
ends_by_run read page (Some (page_end.Refused fault)) so = record { end = ap run_end so.end; all = so.all; decisions = so.decisions }
ends_by_run read page (Some page_end.NoMemory) so = so

pub told_by_run : (read : PageRead) (page : PageState) → IsTold read page → IsTold (record { left = read.left; end = run_end read.end }) page
told_by_run read page told = record {
  notices = told.notices;
  decisions = told.decisions;
  end = ends_by_run read page page.end told.end;
  layers = told.layers;
}
