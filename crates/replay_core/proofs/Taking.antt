-- The layers of a page are taken.
use Rattle.std.proofs.Common.{◌≡◌, ◌<◌, ℕ, true, false, Option, Some, None, List, length, map, refl, sym, ap, ◌∙◌, subst}
use Rattle.std.specs.Prelude.{slice_get, get_or}
use Rattle.std.proofs.lemmas.List.{length-map}
use Rattle.std.proofs.lemmas.Option.{slice_get_within, slice_get_read}
use Rattle.djvu_base.specs.Library.{Library}
use Rattle.zp_table.specs.declared.rows.Row.{Row}
use Rattle.page_decoder.specs.PageFed.{Decoding}
use Rattle.page_decoder.specs.PageRead.{Ending, Finished, Refused}
use Rattle.page_decoder.specs.Results.{Result}
use Rattle.replay_core.specs.Counts.{PageCount}
use Rattle.replay_core.specs.CorePages.{PagePart, PageSeen, seen_of, end_by, IsOverSo, PageBy, EndedBy, PageStands}
use Rattle.replay_core.specs.declared.pages.CoreEnd.{CoreEnd}
use Rattle.replay_core.specs.declared.pages.CoreEnd.TheVariants as core_end
use Rattle.replay_core.specs.Machine.{PageState, layers_drawn}
use Rattle.replay_core.proofs.Together.{IsDone, over_of}

-- a page that contracts see has its part
pub page_there : (parts : List PagePart) (number : ℕ) (part : PagePart) (pages : List PageSeen) → map seen_of parts ≡ pages → (seen : PageSeen)
    → slice_get pages number ≡ Some seen → part ≡ get_or parts number part → slice_get parts number ≡ Some part
page_there parts number part pages same seen is value =
    let within : number < length parts = subst (λ n. number < n) (ap length (sym same) ∙ length-map parts seen_of) (slice_get_within pages number seen is) in
    slice_get_read parts (length parts) number part refl within value

module _ (table : List Row) (library : Library) (results : ℕ → Option Result) (page : PageState) (count : PageCount) (part : PagePart)
    (before : PageStands table library results page count part) where
  pub took_layers : IsDone (end_by part.decoder part.end) → part.taken ≡ false → part.layers ≡ layers_drawn table library page
  took_layers done untaken = (over_of table library results page count part before done).1.layers untaken

  abbrev pub Taken : PagePart
  Taken = record part { layers = None; taken = true }

  over_taken : (end : Ending) → IsOverSo table library results page count part end → IsOverSo table library results page count Taken end
  over_taken end it = record {
    ended = it.ended;
    decisions = it.decisions;
    reached = it.reached;
    layers = λ untaken. absurd (let wrong : true ≡ false = untaken in cc);
  }

  ended_taken : (end : CoreEnd) → EndedBy end table library results page count part → EndedBy end table library results page count Taken
  ended_taken core_end.Finished it = over_taken Finished it
  ended_taken (core_end.Refused fault) it = over_taken (Refused fault) it
  ended_taken core_end.OutOfMemory it = it

  by_taken : (decoder : Option Decoding) → PageBy decoder table library results page count part → PageBy decoder table library results page count Taken
  by_taken (Some decoder) it = it
  by_taken None it = ended_taken part.end it

  pub took_stands : PageStands table library results page count Taken
  took_stands = record {
    file = before.file;
    counted = before.counted;
    sound = before.sound;
    last = before.last;
    decisions = before.decisions;
    most = before.most;
    by = by_taken part.decoder before.by;
  }
