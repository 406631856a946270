-- Behind a step: how the page, its count and the core stand then.
use Rattle.std.proofs.Common.{◌≡◌, ◌≤◌, ℕ, suc, Option, Some, None, List, refl, sym, ap, ◌∙◌, subst}
use Rattle.std.specs.Prelude.{slice_get, option_map}
use Rattle.std.proofs.lemmas.Option.{slice_get-map, slice_get_within}
use Rattle.djvu_base.specs.Announced.{Announced}
use Rattle.djvu_base.specs.Library.{Library}
use Rattle.djvu_base.specs.Meter.{ticked}
use Rattle.djvu_base.specs.declared.faults.Fault.{Fault}
use Rattle.zp_table.specs.declared.rows.Row.{Row}
use Rattle.page_decoder.specs.Libraries.{run}
use Rattle.page_decoder.specs.Needs.{IsOver}
use Rattle.page_decoder.specs.PageFed.{Decoding}
use Rattle.page_decoder.specs.PageRead.{notice_of, Ending, Finished, Refused}
use Rattle.page_decoder.specs.Results.{Result}
use Rattle.replay_core.specs.declared.pages.CoreEnd.{CoreEnd}
use Rattle.replay_core.specs.declared.pages.CoreEnd.TheVariants as core_end
use Rattle.replay_core.specs.Counts.{PageCount, decisions_by, step_decisions}
use Rattle.replay_core.specs.CorePages.{PagePart, IsOverSo, EndedBy, PageBy, PageStands}
use Rattle.replay_core.specs.CoreSteps.{Draws, Stops, Ends}
use Rattle.replay_core.specs.Machine.{PageState, page_notices, next_notice}
use Rattle.replay_core.proofs.Listing.{none_left}

-- the count of a page whose decoder had so many decisions, and has so many now
abbrev pub count_with : PageCount → ℕ → PageCount
count_with count decisions = record count { decisions = decisions }

nothing_there : {A B : Type 0} (f : A → B) (it : Option A) → option_map f it ≡ None → it ≡ None
nothing_there f None e = refl
nothing_there f (Some it) e = absurd (let wrong : Some (f it) ≡ None = e in cc)

-- where no notice is left, a step tells all decisions
pub all_told : (table : List Row) (library : Library) (page : PageState) → next_notice table library page ≡ None
    → step_decisions table library page ≡ (run table library page.file).left.told.decisions
all_told table library page none =
    ap (λ d. decisions_by d (run table library page.file).left.told.decisions)
    (nothing_there notice_of (slice_get (run table library page.file).left.told.drawings page.drawn)
    (sym (slice_get-map notice_of (run table library page.file).left.told.drawings page.drawn) ∙ none))

module _ (table : List Row) (library : Library) (results : ℕ → Option Result) (page : PageState) (count : PageCount) (part : PagePart)
    (before : PageStands table library results page count part) (is : Decoding)
    (within : step_decisions table library page ≤ (run table library page.file).left.told.decisions) where
  abbrev After : PageCount
  After = count_with count (step_decisions table library page)

  pub drew_stands : (notice : Announced) → Draws table library results page is notice
      → PageStands table library results (record page { drawn = suc page.drawn }) After
      (record part { decoder = Some is; last = Some notice; decisions = is.decisions })
  drew_stands notice drew = record {
    file = before.file;
    counted = before.counted;
    sound = slice_get_within (page_notices table library page.file) page.drawn notice drew.next;
    last = sym drew.next;
    decisions = drew.tells.decisions;
    most = within;
    by = record {
      given = drew.tells.reads.given;
      fed = drew.tells.reads.fed;
      home = drew.tells.reads.home;
      known = drew.tells.reads.known;
      bytes = drew.tells.reads.bytes;
      mark = drew.tells.reads.mark;
      drawn = drew.drawn;
      decisions = drew.tells.decisions;
      works = drew.tells.works;
    };
  }

  pub stops_stands : (end : Ending) → Stops table library results page is end
      → PageStands table library results page After (record part { decoder = Some is; decisions = is.decisions })
  stops_stands end stops = record {
    file = before.file;
    counted = before.counted;
    sound = before.sound;
    last = before.last;
    decisions = stops.tells.decisions;
    most = within;
    by = record {
      given = stops.tells.reads.given;
      fed = stops.tells.reads.fed;
      home = stops.tells.reads.home;
      known = stops.tells.reads.known;
      bytes = stops.tells.reads.bytes;
      mark = stops.tells.reads.mark;
      drawn = stops.drawn;
      decisions = stops.tells.decisions;
      works = stops.tells.works;
    };
  }

  over_so : (end : Ending) → IsOver end → Ends table library results page is end → (layered : PagePart) → layered.layers ≡ is.layers
      → IsOverSo table library results page After layered end
  over_so end over ends layered layers = record {
    ended = record {
      over = over;
      end_so = ends.stops.end_is;
      all = none_left (page_notices table library page.file) page.drawn before.sound ends.stops.none;
    };
    decisions = all_told table library page ends.stops.none;
    reached = ends.reached;
    layers = λ untaken. layers ∙ ends.layers;
  }

  abbrev Ended : CoreEnd → PagePart
  Ended end = record part { end = end; layers = is.layers; decisions = is.decisions }

  pub finished_stands : part.decoder ≡ None → Ends table library results page is Finished
      → PageStands table library results page After (Ended core_end.Finished)
  finished_stands none ends = record {
    file = before.file;
    counted = before.counted;
    sound = before.sound;
    last = before.last;
    decisions = ends.stops.tells.decisions;
    most = within;
    by = subst (λ d. PageBy d table library results page After (Ended core_end.Finished)) (sym none)
        (over_so Finished tt ends (Ended core_end.Finished) refl);
  }

  pub refused_stands : (fault : Fault) → part.decoder ≡ None → Ends table library results page is (Refused fault)
      → PageStands table library results page After (Ended (core_end.Refused fault))
  refused_stands fault none ends = record {
    file = before.file;
    counted = before.counted;
    sound = before.sound;
    last = before.last;
    decisions = ends.stops.tells.decisions;
    most = within;
    by = subst (λ d. PageBy d table library results page After (Ended (core_end.Refused fault))) (sym none)
        (over_so (Refused fault) tt ends (Ended (core_end.Refused fault)) refl);
  }

-- where there was no memory, the decisions of then count, or those of before
pub failed_stands : (table : List Row) (library : Library) (results : ℕ → Option Result) (page : PageState) (count : PageCount) (part : PagePart)
    → PageStands table library results page count part → part.decoder ≡ None → part.end ≡ core_end.OutOfMemory → (decisions after : ℕ)
    → decisions ≡ ticked after 0 → after ≤ (run table library page.file).left.told.decisions
    → PageStands table library results page (count_with count after) (record part { decisions = decisions })
failed_stands table library results page count part before none end decisions after counts within = record {
  file = before.file;
  counted = before.counted;
  sound = before.sound;
  last = before.last;
  decisions = counts;
  most = within;
  by = subst (λ d. PageBy d table library results page (count_with count after) (record part { decisions = decisions })) (sym none)
      (subst (λ e. EndedBy e table library results page (count_with count after) (record part { decisions = decisions })) (sym end) tt);
}
