use lib.Utf8.{encode}
use Rattle.std.proofs.Common.{◌≡◌, refl, ℕ, Some, None, List, [], ◌∷◌}
use Rattle.std.specs.Prelude.{take, drop, codes}
use Rattle.std.specs.Fmt.{digits}
use Rattle.std.specs.Str.{chars, is_utf8}
use Rattle.djvu_base.specs.Library.{Open, file_limit, File, Library}
use Rattle.djvu_base.specs.Announced.{Announced}
use Rattle.zp_table.specs.Listing.{flat_rows}
use Rattle.zp_decoder.specs.Decision.{most_bits}
use Rattle.jb2_numbers.specs.Number.{most_decisions}
use Rattle.jb2_records.specs.Reading.{most_records}
use Rattle.iw44_lifting.specs.Lift.{columns_lifted, rows_lifted}
use Rattle.layer_compose.specs.Drawing.{samples_of, preview_samples}
use Rattle.page_decoder.specs.PageRead.{Finished, NeedBytes, NeedFile}
use Rattle.page_decoder.specs.WorkedPages.{dictionary_file}
use Rattle.replay_core.specs.Machine.{Event, Feed, Step, Look, Answer, Taken, Drew, AtEnd, Looked, answers, empty_file}
use Rattle.replay_core.specs.Worked.{pixel_notice, alone, page_in_pieces, two_files, page_before}
use Rattle.replay_core.proofs.Stepwise.{page_at, one_page, event_then, Knows, step_then, look_then}
use Rattle.replay_core.proofs.laws.worked.worked_runs.Goals as goal

abbrev open_file : List ℕ → List ℕ → File
open_file name bytes = record { name = name; bytes = bytes; mark = Open }

-- ---- a page in two pieces

abbrev first_piece : Library
first_piece = open_file (codes "p") (take 48 page_in_pieces) ∷ []

abbrev both_pieces : Library
both_pieces = open_file (codes "p") page_in_pieces ∷ []

knows_first : Knows flat_rows first_piece 0 (pixel_notice 1 255 ∷ []) NeedBytes
unfolding digits is_utf8 chars encode file_limit most_bits most_decisions most_records columns_lifted rows_lifted samples_of preview_samples
knows_first = record { notices_so = refl; end_so = refl }

knows_both : Knows flat_rows both_pieces 0 (pixel_notice 1 255 ∷ pixel_notice 2 0 ∷ []) Finished
unfolding digits is_utf8 chars encode file_limit most_bits most_decisions most_records columns_lifted rows_lifted samples_of preview_samples
knows_both = record { notices_so = refl; end_so = refl }

abbrev first_notices : List Announced
first_notices = pixel_notice 1 255 ∷ []

abbrev both_notices : List Announced
both_notices = pixel_notice 1 255 ∷ pixel_notice 2 0 ∷ []

-- what comes behind the second piece, and behind the first one
abbrev last_events : List Event
last_events = Step 0 ∷ Step 0 ∷ Look 1 0 ∷ []

abbrev last_answers : List Answer
last_answers = Drew (pixel_notice 2 0) ∷ AtEnd Finished ∷ Looked (Some (pixel_notice 2 0)) ∷ []

abbrev more_events : List Event
more_events = Feed 0 (drop 48 page_in_pieces) ∷ last_events

abbrev more_answers : List Answer
more_answers = Taken ∷ last_answers

abbrev first_events : List Event
first_events = Step 0 ∷ Step 0 ∷ Look 0 0 ∷ more_events

abbrev first_answers : List Answer
first_answers = Drew (pixel_notice 1 255) ∷ AtEnd NeedBytes ∷ Looked (Some (pixel_notice 1 255)) ∷ more_answers

behind_both : answers flat_rows (one_page both_pieces (page_at 0 1)) last_events ≡ last_answers
behind_both =
    step_then flat_rows both_pieces 0 1 both_notices Finished (Step 0 ∷ Look 1 0 ∷ []) (AtEnd Finished ∷ Looked (Some (pixel_notice 2 0)) ∷ []) knows_both
    (step_then flat_rows both_pieces 0 2 both_notices Finished (Look 1 0 ∷ []) (Looked (Some (pixel_notice 2 0)) ∷ []) knows_both
    (look_then flat_rows both_pieces 0 2 1 both_notices Finished [] [] knows_both refl))

behind_first : answers flat_rows (one_page first_piece (page_at 0 0)) first_events ≡ first_answers
behind_first =
    step_then flat_rows first_piece 0 0 first_notices NeedBytes (Step 0 ∷ Look 0 0 ∷ more_events)
    (AtEnd NeedBytes ∷ Looked (Some (pixel_notice 1 255)) ∷ more_answers) knows_first
    (step_then flat_rows first_piece 0 1 first_notices NeedBytes (Look 0 0 ∷ more_events) (Looked (Some (pixel_notice 1 255)) ∷ more_answers) knows_first
    (look_then flat_rows first_piece 0 1 0 first_notices NeedBytes more_events more_answers knows_first
    (event_then flat_rows (one_page first_piece (page_at 0 1)) (one_page both_pieces (page_at 0 1)) (Feed 0 (drop 48 page_in_pieces)) last_events
    Taken last_answers refl refl behind_both)))

pub returns-clause-pieces : goal.returns-clause-pieces
returns-clause-pieces c =
    event_then flat_rows alone alone (Look 0 0) (Feed 0 (take 48 page_in_pieces) ∷ first_events) (Looked None) (Taken ∷ first_answers) refl refl
    (event_then flat_rows alone (one_page first_piece (page_at 0 0)) (Feed 0 (take 48 page_in_pieces)) first_events Taken first_answers refl refl
    behind_first)

-- ---- a page before its dictionary

abbrev page_alone : Library
page_alone = empty_file (codes "d") ∷ open_file (codes "p") page_before ∷ []

abbrev page_and_dictionary : Library
page_and_dictionary = open_file (codes "d") dictionary_file ∷ open_file (codes "p") page_before ∷ []

knows_page : Knows flat_rows page_alone 1 (pixel_notice 1 255 ∷ pixel_notice 3 127 ∷ []) (NeedFile 0)
unfolding digits is_utf8 chars encode file_limit most_bits most_decisions most_records columns_lifted rows_lifted samples_of preview_samples
knows_page = record { notices_so = refl; end_so = refl }

knows_both_files : Knows flat_rows page_and_dictionary 1 (pixel_notice 1 255 ∷ pixel_notice 3 127 ∷ pixel_notice 4 0 ∷ []) Finished
unfolding digits is_utf8 chars encode file_limit most_bits most_decisions most_records columns_lifted rows_lifted samples_of preview_samples
knows_both_files = record { notices_so = refl; end_so = refl }

abbrev page_drawn : List Announced
page_drawn = pixel_notice 1 255 ∷ pixel_notice 3 127 ∷ []

abbrev all_drawn : List Announced
all_drawn = pixel_notice 1 255 ∷ pixel_notice 3 127 ∷ pixel_notice 4 0 ∷ []

-- what comes behind the dictionary
abbrev steps_behind : List Event
steps_behind = Step 0 ∷ Step 0 ∷ Step 0 ∷ Look 0 0 ∷ []

abbrev told_behind : List Answer
told_behind = Drew (pixel_notice 4 0) ∷ AtEnd Finished ∷ AtEnd Finished ∷ Looked (Some (pixel_notice 4 0)) ∷ []

abbrev with_dictionary : List Event
with_dictionary = Feed 0 dictionary_file ∷ steps_behind

abbrev told_with : List Answer
told_with = Taken ∷ told_behind

behind_dictionary : answers flat_rows (one_page page_and_dictionary (page_at 1 2)) steps_behind ≡ told_behind
behind_dictionary =
    step_then flat_rows page_and_dictionary 1 2 all_drawn Finished (Step 0 ∷ Step 0 ∷ Look 0 0 ∷ [])
    (AtEnd Finished ∷ AtEnd Finished ∷ Looked (Some (pixel_notice 4 0)) ∷ []) knows_both_files
    (step_then flat_rows page_and_dictionary 1 3 all_drawn Finished (Step 0 ∷ Look 0 0 ∷ [])
    (AtEnd Finished ∷ Looked (Some (pixel_notice 4 0)) ∷ []) knows_both_files
    (step_then flat_rows page_and_dictionary 1 3 all_drawn Finished (Look 0 0 ∷ []) (Looked (Some (pixel_notice 4 0)) ∷ []) knows_both_files
    (look_then flat_rows page_and_dictionary 1 3 0 all_drawn Finished [] [] knows_both_files refl)))

behind_page : answers flat_rows (one_page page_alone (page_at 1 0)) (Step 0 ∷ Step 0 ∷ Step 0 ∷ Look 0 0 ∷ with_dictionary)
    ≡ Drew (pixel_notice 1 255) ∷ Drew (pixel_notice 3 127) ∷ AtEnd (NeedFile 0) ∷ Looked (Some (pixel_notice 3 127)) ∷ told_with
behind_page =
    step_then flat_rows page_alone 1 0 page_drawn (NeedFile 0) (Step 0 ∷ Step 0 ∷ Look 0 0 ∷ with_dictionary)
    (Drew (pixel_notice 3 127) ∷ AtEnd (NeedFile 0) ∷ Looked (Some (pixel_notice 3 127)) ∷ told_with) knows_page
    (step_then flat_rows page_alone 1 1 page_drawn (NeedFile 0) (Step 0 ∷ Look 0 0 ∷ with_dictionary)
    (AtEnd (NeedFile 0) ∷ Looked (Some (pixel_notice 3 127)) ∷ told_with) knows_page
    (step_then flat_rows page_alone 1 2 page_drawn (NeedFile 0) (Look 0 0 ∷ with_dictionary) (Looked (Some (pixel_notice 3 127)) ∷ told_with) knows_page
    (look_then flat_rows page_alone 1 2 0 page_drawn (NeedFile 0) with_dictionary told_with knows_page
    (event_then flat_rows (one_page page_alone (page_at 1 2)) (one_page page_and_dictionary (page_at 1 2)) (Feed 0 dictionary_file) steps_behind
    Taken told_behind refl refl behind_dictionary))))

pub returns-clause-late : goal.returns-clause-late
returns-clause-late c =
    event_then flat_rows two_files (one_page page_alone (page_at 1 0)) (Feed 1 page_before) (Step 0 ∷ Step 0 ∷ Step 0 ∷ Look 0 0 ∷ with_dictionary) Taken
    (Drew (pixel_notice 1 255) ∷ Drew (pixel_notice 3 127) ∷ AtEnd (NeedFile 0) ∷ Looked (Some (pixel_notice 3 127)) ∷ told_with) refl refl behind_page

-- ---- a page that breaks off

pub returns-clause-broken : goal.returns-clause-broken
unfolding digits is_utf8 chars encode file_limit most_bits most_decisions most_records columns_lifted rows_lifted samples_of preview_samples
returns-clause-broken c = refl
