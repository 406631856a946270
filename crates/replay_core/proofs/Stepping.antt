-- Behind a step: the page, its count, and what was told.
use Rattle.std.proofs.Common.{◌≡◌, ◌≤◌, ℕ, max, Option, Some, None, List, refl, sym, ap, ◌∙◌, subst, arith}
use Rattle.std.proofs.lemmas.Grind.{common_steps}
use Rattle.djvu_base.specs.Library.{Library}
use Rattle.djvu_base.specs.Meter.{TicksExactly, ticked}
use Rattle.zp_table.specs.declared.rows.Row.{Row}
use Rattle.page_decoder.specs.Libraries.{run}
use Rattle.page_decoder.specs.PageFed.{Decoding}
use Rattle.page_decoder.specs.PageRead.{Ending, Finished, Refused, NeedBytes, NeedFile}
use Rattle.page_decoder.specs.Results.{Result}
use Rattle.replay_core.specs.declared.core_calls.CoreStep.{CoreStep}
use Rattle.replay_core.specs.declared.core_calls.CoreStep.TheVariants as step
use Rattle.replay_core.specs.declared.pages.CoreEnd.TheVariants as core_end
use Rattle.replay_core.specs.Counts.{PageCount, step_decisions}
use Rattle.replay_core.specs.CorePages.{PagePart, Lives, PageStands}
use Rattle.replay_core.specs.Core.{Answers, OwnAfter}
use Rattle.replay_core.specs.CoreSteps.{Reads, TellsNext, Stops, ToldBy, part_with, without_decoder}
use Rattle.replay_core.specs.Machine.{PageState, AtEnd, drawn_with, stepped, step_answer, page_step}
use Rattle.replay_core.proofs.Settled.{count_with, drew_stands, stops_stands, finished_stands, refused_stands, failed_stands}
use Rattle.replay_core.proofs.Summing.{most_of}

-- what a step leaves of the page
abbrev pub page_with : CoreStep → List Row → Library → PageState → PageState
page_with (step.Drew notice) table library page = stepped table library page
page_with step.NeedBytes table library page = stepped table library page
page_with (step.NeedFile file) table library page = stepped table library page
page_with step.Finished table library page = stepped table library page
page_with (step.Refused fault) table library page = stepped table library page
page_with step.OutOfMemory table library page = page

-- how the page, its count and what is kept of it stand behind a step, with so many ticks
pub record Settles (table : List Row) (library : Library) (results : ℕ → Option Result) (page : PageState) (count : PageCount) (result : CoreStep)
    (part : PagePart) (ticks : ℕ) : Type 0 where
  pub after : PageCount
  pub file : after.file ≡ count.file
  pub stands : PageStands table library results (page_with result table library page) after part
  pub own : OwnAfter result table library page count.decisions after.decisions
  pub told : Answers result (page_step table library (Some page))
  pub ticked_so : TicksExactly ticks (ticked count.decisions 0) (ticked after.decisions 0)

-- the decoder was put aside, and stands for a page without memory
pub aside_stands : (table : List Row) (library : Library) (results : ℕ → Option Result) (page : PageState) (count : PageCount) (part : PagePart)
    → PageStands table library results page count part → PageStands table library results page count (without_decoder part)
aside_stands table library results page count part before = record {
  file = before.file;
  counted = before.counted;
  sound = before.sound;
  last = before.last;
  decisions = before.decisions;
  most = before.most;
  by = tt;
}

pub lives_reads : (table : List Row) (library : Library) (results : ℕ → Option Result) (page : PageState) (count : PageCount) (decoder : Decoding)
    → Lives table library results page count decoder → Reads table library results page.file decoder
lives_reads table library results page count decoder lives = record {
  given = lives.given;
  fed = lives.fed;
  home = lives.home;
  known = lives.known;
  bytes = lives.bytes;
  mark = lives.mark;
}

most_within : (before now all : ℕ) → before ≤ all → now ≤ ticked all 0 → max before now ≤ all
most_within before now all le within = grind (arith, common_steps, le, within)

most_before : (before now : ℕ) → before ≤ max before now
most_before before now = grind (arith, common_steps)

module _ (table : List Row) (library : Library) (results : ℕ → Option Result) (page : PageState) (count : PageCount) (part : PagePart)
    (before : PageStands table library results page count part) (none : part.decoder ≡ None) (end : part.end ≡ core_end.OutOfMemory)
    (was is : Decoding) (had : was.decisions ≡ ticked count.decisions 0) (ticks : ℕ) (own : TicksExactly ticks was.decisions is.decisions)
    (within : step_decisions table library page ≤ (run table library page.file).left.told.decisions) where
  own_so : TicksExactly ticks (ticked count.decisions 0) is.decisions
  own_so = subst (λ n. TicksExactly ticks n is.decisions) had own

  tells_ticks : TellsNext table library results page is → TicksExactly ticks (ticked count.decisions 0) (ticked (step_decisions table library page) 0)
  tells_ticks tells = sym tells.decisions ∙ own_so

  pub settles_failed : is.decisions ≤ ticked (run table library page.file).left.told.decisions 0
      → Settles table library results page count step.OutOfMemory (part_with step.OutOfMemory is part) ticks
  settles_failed most =
      let now = most_of count.decisions ticks is.decisions own_so in
      let less = most_within count.decisions is.decisions (run table library page.file).left.told.decisions before.most most in
      record {
        after = count_with count (max count.decisions is.decisions);
        file = refl;
        stands = failed_stands table library results page count part before none end is.decisions (max count.decisions is.decisions) now less;
        own = (most_before count.decisions is.decisions, less);
        told = tt;
        ticked_so = sym now ∙ own_so;
      }

  stopped : (ending : Ending) → Stops table library results page is ending → stepped table library page ≡ page
  stopped ending stops = ap (λ n. drawn_with n page) stops.none

  stopped_answer : (ending : Ending) → Stops table library results page is ending → page_step table library (Some page) ≡ AtEnd ending
  stopped_answer ending stops = ap (λ n. step_answer n (run table library page.file).end) stops.none ∙ ap AtEnd stops.end_is

  pub settles : (answer : CoreStep) → ToldBy (Some answer) table library results page is
      → Settles table library results page count answer (part_with answer is part) ticks
  settles (step.Drew notice) drew = record {
    after = count_with count (step_decisions table library page);
    file = refl;
    stands = subst (λ p. PageStands table library results p (count_with count (step_decisions table library page)) (part_with (step.Drew notice) is part))
        (sym (ap (λ n. drawn_with n page) drew.next)) (drew_stands table library results page count part before is within notice drew);
    own = refl;
    told = ap (λ n. step_answer n (run table library page.file).end) drew.next;
    ticked_so = tells_ticks drew.tells;
  }
  settles step.NeedBytes stops = record {
    after = count_with count (step_decisions table library page);
    file = refl;
    stands = subst (λ p. PageStands table library results p (count_with count (step_decisions table library page)) (part_with step.NeedBytes is part))
        (sym (stopped NeedBytes stops)) (stops_stands table library results page count part before is within NeedBytes stops);
    own = refl;
    told = stopped_answer NeedBytes stops;
    ticked_so = tells_ticks stops.tells;
  }
  settles (step.NeedFile file) stops = record {
    after = count_with count (step_decisions table library page);
    file = refl;
    stands = subst (λ p. PageStands table library results p (count_with count (step_decisions table library page)) (part_with (step.NeedFile file) is part))
        (sym (stopped (NeedFile file) stops)) (stops_stands table library results page count part before is within (NeedFile file) stops);
    own = refl;
    told = stopped_answer (NeedFile file) stops;
    ticked_so = tells_ticks stops.tells;
  }
  settles step.Finished ends = record {
    after = count_with count (step_decisions table library page);
    file = refl;
    stands = subst (λ p. PageStands table library results p (count_with count (step_decisions table library page)) (part_with step.Finished is part))
        (sym (stopped Finished ends.stops)) (finished_stands table library results page count part before is within none ends);
    own = refl;
    told = stopped_answer Finished ends.stops;
    ticked_so = tells_ticks ends.stops.tells;
  }
  settles (step.Refused fault) ends = record {
    after = count_with count (step_decisions table library page);
    file = refl;
    stands = subst (λ p. PageStands table library results p (count_with count (step_decisions table library page)) (part_with (step.Refused fault) is part))
        (sym (stopped (Refused fault) ends.stops)) (refused_stands table library results page count part before is within fault none ends);
    own = refl;
    told = stopped_answer (Refused fault) ends.stops;
    ticked_so = tells_ticks ends.stops.tells;
  }
  settles step.OutOfMemory most = settles_failed most
