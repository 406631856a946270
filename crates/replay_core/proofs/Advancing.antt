-- A step on a page that goes on: the state, the counts and the meter behind it.
use Rattle.std.proofs.Common.{◌≡◌, ◌≤◌, ◌+◌, ℕ, Option, Some, ◌⊎◌, inl, inr, List, refl, sym, ap, ◌∙◌, subst, arith}
use Rattle.std.specs.Prelude.{slice_get, slice_set, sum_by}
use Rattle.std.proofs.lemmas.Option.{slice_get_within}
use Rattle.djvu_base.specs.Library.{Library}
use Rattle.djvu_base.specs.Meter.{TicksExactly, ticked}
use Rattle.djvu_base.proofs.Ticks.{ticked_both, ticked_more}
use Rattle.zp_table.specs.declared.rows.Row.{Row}
use Rattle.page_decoder.specs.Decoder.{RiseTogether}
use Rattle.page_decoder.specs.Libraries.{run}
use Rattle.page_decoder.specs.PageFed.{Decoding}
use Rattle.page_decoder.specs.Results.{Result}
use Rattle.replay_core.specs.declared.core_calls.CoreStep.{CoreStep}
use Rattle.replay_core.specs.declared.core_calls.CoreStep.TheVariants as step
use Rattle.replay_core.specs.Counts.{PageCount, Counts, spent_on, counted, step_decisions}
use Rattle.replay_core.specs.CorePages.{PagePart, PageSeen, Lives, PageBy, PageStands}
use Rattle.replay_core.specs.Core.{CoreParts, CoreSeen, PageAt, Stands, StandsSo, Answers, OwnAfter, FileAfter, Steps, core_of, results_by, state_with}
use Rattle.replay_core.specs.CoreSteps.{TellsNext, ToldBy, Goes, GoesOn, SamePages, SetsAside, PutsBack, part_with, with_part, without_decoder}
use Rattle.replay_core.specs.Machine.{PageState, State, change_at, stepped, page_step}
use Rattle.replay_core.proofs.Listing.{some_same, set_here, set_apart}
use Rattle.replay_core.proofs.Setting.{change_set, set_same, sum_change}
use Rattle.replay_core.proofs.Summing.{sums_on}
use Rattle.replay_core.proofs.Placing.{placed_same, put_stands}
use Rattle.replay_core.proofs.Giving.{file_fails}
use Rattle.replay_core.proofs.Stepping.{Settles, page_with, aside_stands, lives_reads, settles, settles_failed}
use Rattle.replay_core.proofs.Asides.{table_same, pages_aside, core_put_back}

-- ---- what was told

tells_most : (table : List Row) (library : Library) (results : ℕ → Option Result) (page : PageState) (is : Decoding)
    → step_decisions table library page ≤ (run table library page.file).left.told.decisions → TellsNext table library results page is
    → is.decisions ≤ ticked (run table library page.file).left.told.decisions 0
tells_most table library results page is within tells =
    subst (λ n. n ≤ ticked (run table library page.file).left.told.decisions 0) (sym tells.decisions)
    (ticked_more (step_decisions table library page) (run table library page.file).left.told.decisions within)

-- no more decisions were read than the page has
told_most : (answer : CoreStep) (table : List Row) (library : Library) (results : ℕ → Option Result) (page : PageState) (is : Decoding)
    → step_decisions table library page ≤ (run table library page.file).left.told.decisions → ToldBy (Some answer) table library results page is
    → is.decisions ≤ ticked (run table library page.file).left.told.decisions 0
told_most (step.Drew notice) table library results page is within told = tells_most table library results page is within told.tells
told_most step.NeedBytes table library results page is within told = tells_most table library results page is within told.tells
told_most (step.NeedFile file) table library results page is within told = tells_most table library results page is within told.tells
told_most step.Finished table library results page is within told = tells_most table library results page is within told.stops.tells
told_most (step.Refused fault) table library results page is within told = tells_most table library results page is within told.stops.tells
told_most step.OutOfMemory table library results page is within told = told

-- ---- what changes

-- the state behind a step, by its page
module _ (table : List Row) (state : State) (number : ℕ) (page : PageState) (is_page : slice_get state.pages number ≡ Some page) where
  stepped_so : record state { pages = slice_set state.pages number (stepped table state.library page) }
      ≡ record state { pages = change_at (stepped table state.library) number state.pages }
  stepped_so = ap (λ pages. record state { pages = pages }) (sym (change_set (stepped table state.library) state.pages number page is_page))

  state_so : (result : CoreStep) → record state { pages = slice_set state.pages number (page_with result table state.library page) }
      ≡ state_with result table state number
  state_so (step.Drew notice) = stepped_so
  state_so step.NeedBytes = stepped_so
  state_so (step.NeedFile file) = stepped_so
  state_so step.Finished = stepped_so
  state_so (step.Refused fault) = stepped_so
  state_so step.OutOfMemory = ap (λ pages. record state { pages = pages }) (set_same state.pages number page is_page)

file_answered : (told result : CoreStep) (table : List Row) (library : Library) (page file : ℕ) (was is : Option ℕ)
    → (result ≡ told) ⊎ (result ≡ step.OutOfMemory) → FileAfter told table library page file was is → FileAfter result table library page file was is
file_answered told result table library page file was is (inl same) after =
    subst (λ r. FileAfter r table library page file was is) (sym same) after
file_answered told result table library page file was is (inr failed) after =
    subst (λ r. FileAfter r table library page file was is) (sym failed) (file_fails told table library page file was is after)

-- one of many numbers is no more than all
part_of_sum : (pages : List PageCount) (number : ℕ) (was : PageCount) → slice_get pages number ≡ Some was
    → was.decisions ≤ sum_by (λ (page : PageCount). page.decisions) pages
part_of_sum pages number was is =
    let change = sum_change (λ (page : PageCount). page.decisions) pages number was (record was { decisions = 0 }) is in
    omega (arith, change)

-- pages of which one went on, and files
sums_rise : (before after : List PageCount) (files more_files : List (Option ℕ)) (number : ℕ) (was is : PageCount) (own_ticks file_ticks : ℕ)
    → slice_get before number ≡ Some was → after ≡ slice_set before number is
    → TicksExactly own_ticks (ticked was.decisions 0) (ticked is.decisions 0)
    → TicksExactly file_ticks (ticked (sum_by spent_on files) 0) (ticked (sum_by spent_on more_files) 0)
    → TicksExactly (own_ticks + file_ticks) (ticked (counted (record { pages = before; files = files })) 0)
    (ticked (counted (record { pages = after; files = more_files })) 0)
sums_rise before after files more_files number was is own_ticks file_ticks there change own of_files =
    subst (λ pages. TicksExactly (own_ticks + file_ticks) (ticked (counted (record { pages = before; files = files })) 0)
    (ticked (counted (record { pages = pages; files = more_files })) 0)) (sym change)
    (sums_on (sum_by (λ (page : PageCount). page.decisions) before) (sum_by (λ (page : PageCount). page.decisions) (slice_set before number is))
    (sum_by spent_on files) (sum_by spent_on more_files) was.decisions is.decisions own_ticks file_ticks
    (sum_change (λ (page : PageCount). page.decisions) before number was is there) (part_of_sum before number was there)
    (of_files ∙ ticked_both file_ticks (sum_by spent_on files) 0) (own ∙ ticked_both own_ticks was.decisions 0)
    ∙ sym (ticked_both (own_ticks + file_ticks) (counted (record { pages = before; files = files })) 0))

-- ---- the step

module _ (state : State) (counts : Counts) (table : List Row) (names : List (List ℕ)) (parts : CoreParts)
    (stands : StandsSo state counts (core_of table names parts)) (number : ℕ) (part : PagePart) (is_part : slice_get parts.pages number ≡ Some part) where
  abbrev Here : PageAt table state counts (results_by parts.results) number part
  Here = stands.pages number part is_part

  abbrev Aside : PagePart
  Aside = without_decoder part

  abbrev AsideCore : CoreSeen
  AsideCore = core_of table names (record parts { pages = slice_set parts.pages number Aside })

  aside_so : StandsSo state counts AsideCore
  aside_so =
      placed_same state counts table names parts stands number part is_part Aside
      (aside_stands table state.library (results_by parts.results) Here.page Here.count part Here.stands)

  module _ (decoder : Decoding) (had : part.decoder ≡ Some decoder) where
    lives : Lives table state.library (results_by parts.results) Here.page Here.count decoder
    lives = subst (λ d. PageBy d table state.library (results_by parts.results) Here.page Here.count part) had Here.stands.by

    went_so : (mid : CoreSeen) (is : Decoding) (told : CoreStep) (before after : ℕ) → GoesOn AsideCore mid decoder is (Some told) before after
        → Goes state counts Here.page AsideCore mid decoder is (Some told) before after
    unfolding GoesOn Stands
    went_so mid is told before after goes =
        goes state counts number Here.page aside_so Here.is_page lives.drawn
        (lives_reads table state.library (results_by parts.results) Here.page Here.count decoder lives)

    module _ (mid_names : List (List ℕ)) (mid_pages : List PageSeen) (mid_parts : CoreParts) (is : Decoding) (told result : CoreStep) (before after : ℕ)
        (went : Goes state counts Here.page AsideCore (record { table = table; names = mid_names; pages = mid_pages; inside = mid_parts })
        decoder is (Some told) before after)
        (same : mid_parts.pages ≡ slice_set parts.pages number Aside) (answered : (result ≡ told) ⊎ (result ≡ step.OutOfMemory))
        (within : step_decisions table state.library Here.page ≤ (run table state.library Here.page.file).left.told.decisions) where
      abbrev Results : ℕ → Option Result
      Results = results_by mid_parts.results

      mid_so : StandsSo state went.decodes.after (core_of table mid_names mid_parts)
      unfolding Stands
      mid_so =
          let so : StandsSo state went.decodes.after (record { table = table; names = mid_names; pages = mid_pages; inside = mid_parts }) =
          went.decodes.stands in
          subst (λ pages. StandsSo state went.decodes.after (record { table = table; names = mid_names; pages = pages; inside = mid_parts })) so.seen so

      mid_there : slice_get mid_parts.pages number ≡ Some Aside
      mid_there = ap (λ l. slice_get l number) same ∙ set_here parts.pages number Aside (slice_get_within parts.pages number part is_part)

      abbrev Mid : PageAt table state went.decodes.after Results number Aside
      Mid = mid_so.pages number Aside mid_there

      page_is : Mid.page ≡ Here.page
      page_is = some_same Mid.page Here.page (sym Mid.is_page ∙ Here.is_page)

      count_there : slice_get went.decodes.after.pages number ≡ Some Here.count
      count_there = ap (λ l. slice_get l number) went.decodes.own ∙ Here.is_count

      count_is : Mid.count ≡ Here.count
      count_is = some_same Mid.count Here.count (sym Mid.is_count ∙ count_there)

      mid_page : PageStands table state.library Results Here.page Here.count Aside
      mid_page =
          subst (λ p. PageStands table state.library Results p Here.count Aside) page_is
          (subst (λ c. PageStands table state.library Results Mid.page c Aside) count_is Mid.stands)

      settled_by : (result : CoreStep) → (result ≡ told) ⊎ (result ≡ step.OutOfMemory)
          → Settles table state.library Results Here.page Here.count result (part_with result is Aside) went.own_ticks
      settled_by result (inl e) =
          subst (λ r. Settles table state.library Results Here.page Here.count r (part_with r is Aside) went.own_ticks) (sym e)
          (settles table state.library Results Here.page Here.count Aside mid_page refl refl decoder is lives.decisions went.own_ticks went.own within
          told went.told)
      settled_by result (inr e) =
          subst (λ r. Settles table state.library Results Here.page Here.count r (part_with r is Aside) went.own_ticks) (sym e)
          (settles_failed table state.library Results Here.page Here.count Aside mid_page refl refl decoder is lives.decisions went.own_ticks went.own within
          (told_most told table state.library Results Here.page is within went.told))

      settled : Settles table state.library Results Here.page Here.count result (part_with result is Aside) went.own_ticks
      settled = settled_by result answered

      abbrev New : CoreSeen
      New = core_of table mid_names (record mid_parts { pages = slice_set mid_parts.pages number (part_with result is Aside) })

      abbrev After : Counts
      After = record went.decodes.after { pages = slice_set went.decodes.after.pages number settled.after }

      new_so : StandsSo (state_with result table state number) After New
      new_so =
          subst (λ s. StandsSo s After New) (state_so table state number Here.page Here.is_page result)
          (put_stands state went.decodes.after table mid_names mid_parts mid_so number Aside mid_there
          (page_with result table state.library Here.page) settled.after (part_with result is Aside)
          (settled.file ∙ ap (λ (c : PageCount). c.file) (sym count_is)) settled.stands)

      own_so : (it : PageState) (was now : PageCount) → slice_get state.pages number ≡ Some it → slice_get counts.pages number ≡ Some was
          → slice_get (slice_set went.decodes.after.pages number settled.after) number ≡ Some now
          → OwnAfter result table state.library it was.decisions now.decisions
      own_so it was now there first last =
          subst (λ (p : PageState). OwnAfter result table state.library p was.decisions now.decisions)
          (some_same Here.page it (sym Here.is_page ∙ there))
          (subst (λ (c : PageCount). OwnAfter result table state.library Here.page c.decisions now.decisions)
          (some_same Here.count was (sym Here.is_count ∙ first))
          (subst (λ (c : PageCount). OwnAfter result table state.library Here.page Here.count.decisions c.decisions)
          (some_same settled.after now (sym (set_here went.decodes.after.pages number settled.after
          (slice_get_within went.decodes.after.pages number Here.count count_there)) ∙ last)) settled.own))

      files_so : (file : ℕ) (was now : Option ℕ) (it : PageState) → slice_get state.pages number ≡ Some it → slice_get counts.files file ≡ Some was
          → slice_get went.decodes.after.files file ≡ Some now → FileAfter result table state.library it.file file was now
      files_so file was now it there first last =
          subst (λ (p : PageState). FileAfter result table state.library p.file file was now) (some_same Here.page it (sym Here.is_page ∙ there))
          (file_answered told result table state.library Here.page.file file was now answered (went.decodes.files file was now first last))

      rise_so : RiseTogether (ticked (counted counts) 0) (ticked (counted After) 0) before after
      rise_so = (
        went.own_ticks + went.file_ticks,
        sums_rise counts.pages After.pages counts.files went.decodes.after.files number Here.count settled.after went.own_ticks went.file_ticks
            Here.is_count (ap (λ l. slice_set l number settled.after) went.decodes.own) settled.ticked_so went.decodes.count,
        went.meter,
      )

      pub advanced : Steps state counts number (core_of table names parts) New result before after
      unfolding Stands
      advanced = record {
        after = After;
        stands = new_so;
        answers = subst (λ p. Answers result (page_step table state.library p)) (sym Here.is_page) settled.told;
        own = own_so;
        others = λ other apart. set_apart went.decodes.after.pages number other settled.after apart ∙ ap (λ l. slice_get l other) went.decodes.own;
        files = files_so;
        rise = rise_so;
      }

pub runs_steps : (state : State) (counts : Counts) (old aside mid new : CoreSeen) (decoder is : Decoding) (told result : CoreStep) (number : ℕ)
    (before after : ℕ) → Stands state counts old → SetsAside number old aside (Some decoder) → GoesOn aside mid decoder is (Some told) before after
    → SamePages aside mid → PutsBack number mid new is result → (result ≡ told) ⊎ (result ≡ step.OutOfMemory)
    → ((table : List Row) (library : Library) (page : PageState) → step_decisions table library page ≤ (run table library page.file).left.told.decisions)
    → Steps state counts number old new result before after
unfolding Stands
runs_steps state counts old aside mid new decoder is told result number before after stands sets goes same puts answered within =
    let here : StandsSo state counts (core_of old.table old.names old.inside) =
    subst (λ pages. StandsSo state counts (record { table = old.table; names = old.names; pages = pages; inside = old.inside })) sets.seen stands in
    let table_is = table_same number old aside mid decoder sets same in
    let pages_are = pages_aside number old aside mid decoder sets same in
    let put = core_put_back number old aside mid decoder sets same new is result puts in
    let at = here.pages number sets.part sets.is_part in
    let goes_so : GoesOn (with_part number (without_decoder sets.part) old) (record mid { table = old.table }) decoder is (Some told) before after =
    subst (λ t. GoesOn (with_part number (without_decoder sets.part) old) (record mid { table = t }) decoder is (Some told) before after) table_is
    (subst (λ a. GoesOn a mid decoder is (Some told) before after) sets.core goes) in
    let steps = advanced state counts old.table old.names old.inside here number sets.part sets.is_part decoder sets.had mid.names mid.pages mid.inside is
    told result before after
    (went_so state counts old.table old.names old.inside here number sets.part sets.is_part decoder sets.had (record mid { table = old.table }) is told
    before after goes_so) pages_are answered (within old.table state.library at.page) in
    let new_is : core_of old.table mid.names (record mid.inside { pages = slice_set mid.inside.pages number (part_with result is (without_decoder sets.part)) })
    ≡ new = sym (put ∙ ap (λ t. core_of t mid.names
    (record mid.inside { pages = slice_set mid.inside.pages number (part_with result is (without_decoder sets.part)) })) table_is) in
    subst (λ pages. Steps state counts number (record { table = old.table; names = old.names; pages = pages; inside = old.inside }) new result before after)
    (sym sets.seen) (subst (λ n. Steps state counts number (core_of old.table old.names old.inside) n result before after) new_is steps)
