-- A page's decoder is taken out of its place in a core and put back: what contracts see of that.
use Rattle.std.proofs.Common.{◌≡◌, ◌≢◌, ℕ, false, Option, Some, None, List, length, map, refl, sym, ap, ◌∙◌}
use Rattle.std.specs.Prelude.{slice_get, slice_set, option_map, MatchOption}
use Rattle.std.proofs.lemmas.List.{length-map}
use Rattle.std.proofs.lemmas.Option.{slice_get-map, slice_get_within}
use Rattle.djvu_base.specs.Library.{Open}
use Rattle.zp_table.specs.declared.rows.Row.{Row}
use Rattle.page_decoder.specs.PageFed.{Decoding}
use Rattle.replay_core.specs.declared.core_calls.CoreStep.{CoreStep}
use Rattle.replay_core.specs.declared.core_calls.CoreStep.TheVariants as step
use Rattle.replay_core.specs.declared.pages.CoreEnd.{CoreEnd}
use Rattle.replay_core.specs.declared.pages.CoreEnd.TheVariants as core_end
use Rattle.replay_core.specs.CorePages.{PagePart, PageSeen, seen_of, end_by}
use Rattle.replay_core.specs.Core.{CoreParts, CoreSeen, IsCore, SameFrame, core_of, answer_at, end_with}
use Rattle.replay_core.specs.CoreSteps.{SamePages, SetsAside, PutsBack, part_with, with_part, without_decoder}
use Rattle.replay_core.proofs.Listing.{some_same, set_here, set_apart, set_length}
use Rattle.replay_core.proofs.Setting.{set_same}
use Rattle.replay_core.proofs.Placing.{core_put}

-- a page's decoder is taken, if it is there
abbrev pub Begins : PagePart → PagePart → Option Decoding → Type 0
Begins part new decoder = MatchOption decoder ((part.decoder ≡ None) × (new ≡ part)) (λ it. (part.decoder ≡ Some it) × (new ≡ without_decoder part))

begins_same : (part new : PagePart) (decoder : Option Decoding) → Begins part new decoder → (new.file ≡ part.file) × (new.closed ≡ part.closed)
begins_same part new None begins = (ap (λ (p : PagePart). p.file) begins.1, ap (λ (p : PagePart). p.closed) begins.1)
begins_same part new (Some it) begins = (ap (λ (p : PagePart). p.file) begins.1, ap (λ (p : PagePart). p.closed) begins.1)

pub core_begun : (names : List (List ℕ)) (parts : CoreParts) → IsCore names parts → (number : ℕ) (part new : PagePart) (decoder : Option Decoding)
    → slice_get parts.pages number ≡ Some part → Begins part new decoder → IsCore names (record parts { pages = slice_set parts.pages number new })
core_begun names parts it number part new decoder is begins =
    let same = begins_same part new decoder begins in
    core_put names parts it number part new is same.0 same.1

pub sets_aside : (table : List Row) (names : List (List ℕ)) (parts : CoreParts) (number : ℕ) (part new : PagePart) (decoder : Option Decoding)
    → slice_get parts.pages number ≡ Some part → Begins part new decoder
    → ((it : Decoding) → decoder ≡ Some it → part.closed ≡ false → it.mark ≡ Open)
    → SetsAside number (core_of table names parts) (core_of table names (record parts { pages = slice_set parts.pages number new })) decoder
sets_aside table names parts number part new None is begins open_ = record {
  seen = refl;
  part = part;
  is_part = is;
  had = begins.0;
  core = ap (λ pages. core_of table names (record parts { pages = pages })) (ap (slice_set parts.pages number) begins.1 ∙ set_same parts.pages number part is);
  open_ = open_;
}
sets_aside table names parts number part new (Some it) is begins open_ = record {
  seen = refl;
  part = part;
  is_part = is;
  had = begins.0;
  core = ap (λ p. core_of table names (record parts { pages = slice_set parts.pages number p })) begins.1;
  open_ = open_;
}

pub settled_same : (result : CoreStep) (decoder : Decoding) (part : PagePart) → ((part_with result decoder part).file ≡ part.file)
    × ((part_with result decoder part).closed ≡ part.closed)
settled_same (step.Drew notice) decoder part = (refl, refl)
settled_same step.NeedBytes decoder part = (refl, refl)
settled_same (step.NeedFile file) decoder part = (refl, refl)
settled_same step.Finished decoder part = (refl, refl)
settled_same (step.Refused fault) decoder part = (refl, refl)
settled_same step.OutOfMemory decoder part = (refl, refl)

settled_seen : (result : CoreStep) (decoder : Decoding) (part : PagePart)
    → seen_of (part_with result decoder (without_decoder part)) ≡ record (seen_of part) { end = end_with result }
settled_seen (step.Drew notice) decoder part = refl
settled_seen step.NeedBytes decoder part = refl
settled_seen (step.NeedFile file) decoder part = refl
settled_seen step.Finished decoder part = refl
settled_seen (step.Refused fault) decoder part = refl
settled_seen step.OutOfMemory decoder part = refl

end_again : (end : CoreEnd) → Some end ≡ end_with (answer_at end)
end_again core_end.Finished = refl
end_again (core_end.Refused fault) = refl
end_again core_end.OutOfMemory = refl

-- ---- a page that has ended

module _ (number : ℕ) (old new : CoreSeen) (decoder : Option Decoding) (sets : SetsAside number old new decoder) where
  pub seen_here : slice_get old.pages number ≡ Some (seen_of sets.part)
  seen_here = ap (λ l. slice_get l number) sets.seen ∙ slice_get-map seen_of old.inside.pages number ∙ ap (option_map seen_of) sets.is_part

  -- by what contracts see of it
  pub part_seen : (it : PageSeen) → slice_get old.pages number ≡ Some it → seen_of sets.part ≡ it
  part_seen it is = some_same (seen_of sets.part) it (sym seen_here ∙ is)

  end_seen : (it : PageSeen) (end : CoreEnd) → slice_get old.pages number ≡ Some it → it.end ≡ Some end → end_by decoder sets.part.end ≡ Some end
  end_seen it end is e = ap (λ d. end_by d sets.part.end) (sym sets.had) ∙ ap (λ (p : PageSeen). p.end) (part_seen it is) ∙ e

pub ended_same : (number : ℕ) (old new : CoreSeen) → SetsAside number old new None → new ≡ old
ended_same number old new sets = sets.core

pub ended_again : (number : ℕ) (old new : CoreSeen) (sets : SetsAside number old new None) (it : PageSeen) (end : CoreEnd)
    → slice_get old.pages number ≡ Some it → it.end ≡ Some end → sets.part.end ≡ end
ended_again number old new sets it end is e = some_same sets.part.end end (end_seen number old new None sets it end is e)

pub ended_seen : (number : ℕ) (old new : CoreSeen) (sets : SetsAside number old new None) (it : PageSeen) → slice_get old.pages number ≡ Some it
    → slice_get old.pages number ≡ Some (record it { end = end_with (answer_at sets.part.end) })
ended_seen number old new sets it is =
    let seen : it.end ≡ Some sets.part.end =
    ap (λ (p : PageSeen). p.end) (sym (part_seen number old new None sets it is)) ∙ ap (λ d. end_by d sets.part.end) sets.had in
    is ∙ ap (λ e. Some (record it { end = e })) (seen ∙ end_again sets.part.end)

-- one that hasn't ended
pub runs_not_ended : {A : Type 0} (number : ℕ) (old new : CoreSeen) (decoder : Decoding) → SetsAside number old new (Some decoder) → (it : PageSeen)
    → (end : CoreEnd) → slice_get old.pages number ≡ Some it → it.end ≡ Some end → A
runs_not_ended number old new decoder sets it end is e =
    absurd (let wrong : None ≡ Some end = end_seen number old new (Some decoder) sets it end is e in cc)

-- ---- a page that runs

module _ (number : ℕ) (old aside mid : CoreSeen) (decoder : Decoding) (sets : SetsAside number old aside (Some decoder)) (same : SamePages aside mid) where
  pub table_same : mid.table ≡ old.table
  table_same = same.table ∙ ap (λ (c : CoreSeen). c.table) sets.core

  pub pages_aside : mid.inside.pages ≡ slice_set old.inside.pages number (without_decoder sets.part)
  pages_aside = same.pages ∙ ap (λ (c : CoreSeen). c.inside.pages) sets.core

  pub part_aside : slice_get mid.inside.pages number ≡ Some (without_decoder sets.part)
  part_aside = ap (λ l. slice_get l number) pages_aside ∙ set_here old.inside.pages number (without_decoder sets.part)
      (slice_get_within old.inside.pages number sets.part sets.is_part)

  module _ (new : CoreSeen) (is : Decoding) (result : CoreStep) (puts : PutsBack number mid new is result) where
    abbrev New : PagePart
    New = part_with result is (without_decoder sets.part)

    pub core_put_back : new ≡ with_part number New mid
    core_put_back = puts (without_decoder sets.part) part_aside

    new_pages : new.pages ≡ map seen_of (slice_set mid.inside.pages number New)
    new_pages = ap (λ (c : CoreSeen). c.pages) core_put_back

    pub put_seen : (it : PageSeen) → slice_get old.pages number ≡ Some it → slice_get new.pages number ≡ Some (record it { end = end_with result })
    put_seen it is_it =
        ap (λ l. slice_get l number) new_pages ∙ slice_get-map seen_of (slice_set mid.inside.pages number New) number
        ∙ ap (option_map seen_of) (set_here mid.inside.pages number New (slice_get_within mid.inside.pages number (without_decoder sets.part) part_aside))
        ∙ ap Some (settled_seen result is sets.part)
        ∙ ap (λ (p : PageSeen). Some (record p { end = end_with result })) (part_seen number old aside (Some decoder) sets it is_it)

    pub put_others : (other : ℕ) → other ≢ number → slice_get new.pages other ≡ slice_get old.pages other
    put_others other apart =
        ap (λ l. slice_get l other) new_pages ∙ slice_get-map seen_of (slice_set mid.inside.pages number New) other
        ∙ ap (option_map seen_of) (set_apart mid.inside.pages number other New apart ∙ ap (λ l. slice_get l other) pages_aside
        ∙ set_apart old.inside.pages number other (without_decoder sets.part) apart)
        ∙ sym (slice_get-map seen_of old.inside.pages other) ∙ ap (λ l. slice_get l other) (sym sets.seen)

    pub put_frame : SameFrame old new
    put_frame = record {
      table = ap (λ (c : CoreSeen). c.table) core_put_back ∙ table_same;
      names = ap (λ (c : CoreSeen). c.names) core_put_back ∙ same.names ∙ ap (λ (c : CoreSeen). c.names) sets.core;
      count = ap length new_pages ∙ length-map (slice_set mid.inside.pages number New) seen_of ∙ set_length mid.inside.pages number New
          ∙ ap length pages_aside ∙ set_length old.inside.pages number (without_decoder sets.part)
          ∙ sym (length-map old.inside.pages seen_of) ∙ ap length (sym sets.seen);
    }
