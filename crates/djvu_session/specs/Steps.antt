-- What a step makes of a decoder's pass, by its answer.
use Rattle.std.specs.Prelude.{ℕ, ◌≡◌, ◌≢◌, ◌≤◌, ◌<◌, ◌⊎◌, [], ◌∷◌, ◌++◌, length, Some, None}
use Rattle.djvu_base.specs.Meter.{TicksExactly}
use Rattle.once_board.specs.Places.{record_of}
use Rattle.data_pool.specs.Pools as pools
use Rattle.file_shelf.specs.Shelves.{WasRead}
use Rattle.port_log.specs.declared.entries.PageEnd.{PageEnd}
use Rattle.port_log.specs.declared.entries.PageEnd.TheVariants as page_end
use Rattle.port_log.specs.Logs.{announced_entries}
use Rattle.page_decoder.specs.Given.{Given}
use Rattle.page_decoder.specs.PageRead.{Drawing, notice_of, Ending, Finished, Refused, NeedBytes, NeedOutline, NeedFile}
use Rattle.page_decoder.specs.Read.{read}
use Rattle.page_decoder.specs.Decoder.{Entry, Draws, Ends, next_entry, decisions_to, RiseTogether}
use Rattle.djvu_session.specs.declared.answers.SessionStep.{SessionStep}
use Rattle.djvu_session.specs.declared.answers.SessionStep.TheVariants as step
use Rattle.djvu_session.specs.Passes.{SessionView, PageState, DecoderView, SeatGoesOn, IsDecoderOf, read_of, page_of, spent_of}
use Rattle.djvu_session.specs.Seen.{given_of}
use Rattle.djvu_session.specs.Pages.{entries_of, IsTold}
use Rattle.djvu_session.specs.Spent.{HasPublished, kept_sum}

-- a pass of a session went on: positions don't fall, and nothing that it knew, claimed or published is lost
pub record PassGoesOn (before after : DecoderView) : Type 0 where
  pub is_pass : (session : SessionView) → IsDecoderOf session before → IsDecoderOf session after
  pub setup : after.setup ≡ before.setup
  pub number : after.number ≡ before.number
  pub pool : SeatGoesOn before.pool.hold after.pool.hold
  pub shelf : SeatGoesOn before.shelf.hold after.shelf.hold
  pub log : SeatGoesOn before.log.hold after.log.hold
  pub read : (file : ℕ) → read_of before file ≤ read_of after file
  pub spent : (file spent : ℕ) → spent_of before file ≡ Some spent → spent_of after file ≡ Some spent

-- the page tells the next entry of its reading, and its decisions are those up to it
pub record TellsNext (given : Given) (old new : PageState) (next : Entry) : Type 0 where
  pub entry : next_entry (read given) (length old.notices) ≡ next
  pub decisions : TicksExactly (decisions_to next (read given)) 0 new.decisions

pub record TellsDrawing (given : Given) (old new : PageState) (drawing : Drawing) : Type 0 where
  pub next : TellsNext given old new (Draws drawing)
  pub notices : new.notices ≡ old.notices ++ notice_of drawing ∷ []
  pub going : (old.end ≡ None) × (new.end ≡ None)

pub record TellsEnd (given : Given) (old new : PageState) (how : Ending) (told : PageEnd) : Type 0 where
  pub next : TellsNext given old new (Ends how)
  pub notices : new.notices ≡ old.notices
  pub ended : new.end ≡ Some told

-- the page stands at a need
pub record Waits (given : Given) (old new : PageState) (need : Ending) : Type 0 where
  pub next : TellsNext given old new (Ends need)
  pub notices : new.notices ≡ old.notices
  pub going : (old.end ≡ None) × (new.end ≡ None)

-- the page needs the next piece of a file: its own, or one whose outline isn't known
abbrev pub WaitsForPiece : Given → PageState → PageState → ℕ → Type 0
WaitsForPiece given old new file = (Waits given old new NeedBytes × (file ≡ given.home.file)) ⊎ Waits given old new (NeedOutline file)

-- this word was read in the call at the next place of a file, or at the place of its result, and it is the last that was
abbrev pub ReadNext : DecoderView → DecoderView → ℕ → ℕ → Type 0
ReadNext before after file word = WasRead (pools.place_of file (read_of after file)) word before.pool.hold after.pool.hold

abbrev pub ReadResult : DecoderView → DecoderView → ℕ → ℕ → Type 0
ReadResult before after file word = WasRead file word before.shelf.hold after.shelf.hold

-- the pass didn't know the piece at that place before the call
abbrev pub WasUnknown : DecoderView → DecoderView → ℕ → Type 0
WasUnknown before after file = (record_of before.pool.hold.places (pools.place_of file (read_of after file))).value ≡ None

-- by the answer, with all that the pass has seen and knows after the call
abbrev pub AnswersBy : Given → DecoderView → DecoderView → PageState → PageState → SessionStep → Type 0
AnswersBy given before after old new (step.Drew notice) = (drawing : Drawing) × (notice ≡ notice_of drawing) × TellsDrawing given old new drawing
AnswersBy given before after old new step.Finished = TellsEnd given old new Finished page_end.Finished
AnswersBy given before after old new (step.Refused fault) = TellsEnd given old new (Refused fault) (page_end.Refused fault)
AnswersBy given before after old new step.NoMemory = (new.notices ≡ old.notices) × (new.end ≡ Some page_end.NoMemory)
AnswersBy given before after old new (step.NeedsPiece file seen) =
    WaitsForPiece given old new file × (seen < 2) × ReadNext before after file seen × WasUnknown before after file
AnswersBy given before after old new (step.NeedsFile file seen) = Waits given old new (NeedFile file) × (seen ≡ 1) × ReadResult before after file 1
AnswersBy given before after old new step.Busy =
    (file : ℕ) × ((WaitsForPiece given old new file × ReadNext before after file 3) ⊎ (Waits given old new (NeedFile file) × ReadResult before after file 3))

-- an end is answered again
abbrev pub answer_again : PageEnd → SessionStep
answer_again page_end.Finished = step.Finished
answer_again (page_end.Refused fault) = step.Refused fault
answer_again page_end.NoMemory = step.NoMemory

-- a step on a page of the pass's own
pub record Steps (page : ℕ) (before after : DecoderView) (answer : SessionStep) : Type 0 where
  pub old : PageState
  pub new : PageState
  pub was : page_of before page ≡ Some old
  pub now : page_of after page ≡ Some new
  pub goes_on : PassGoesOn before after
  -- other pages stay as they are, in the log, too
  pub others : (other : ℕ) → other ≢ page → page_of after other ≡ page_of before other
  pub logs : (other : ℕ) → other ≢ page → announced_entries after.log other ≡ announced_entries before.log other
  -- what is told of the page is true of what the pass has seen, and stands in the log before the answer
  pub told : IsTold (read (given_of after page)) new
  pub announced : announced_entries after.log page ≡ entries_of new
  pub answers : AnswersBy (given_of after page) before after old new answer
  -- what was claimed in the call was published, and for this page
  pub made : (file spent : ℕ) → spent_of before file ≡ None → spent_of after file ≡ Some spent → HasPublished after page file spent
  pub again : (how : PageEnd) → old.end ≡ Some how → (answer ≡ answer_again how) × (after ≡ before)

-- a meter rose by as much as the sum that the pass keeps, and not at all where the page had ended before
pub record Meters (page : ℕ) (before after : DecoderView) (count_before count_after : ℕ) : Type 0 where
  pub rises : RiseTogether (kept_sum before) (kept_sum after) count_before count_after
  pub again : (state : PageState) (how : PageEnd) → page_of before page ≡ Some state → state.end ≡ Some how → count_after ≡ count_before
