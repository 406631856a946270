-- What the reader of a file comes to at the FORM's kind, at a header and at data.
use Rattle.std.proofs.Common.{◌≡◌, ◌≢◌, ◌≤◌, ◌<◌, ◌+◌, ℕ, false, Option, Some, None, List, [], ◌∷◌, ◌++◌, refl, sym, ap, ◌∙◌, subst, arith, append_assoc}
use Rattle.std.proofs.lemmas.List.{append-nil}
use Rattle.std.proofs.lemmas.Grind.{common_steps}
use Rattle.djvu_base.specs.declared.faults.FaultKind.{FaultKind}
use Rattle.djvu_base.specs.Meter.{ticked, TicksExactly}
use Rattle.iff_chunks.specs.declared.walker.WalkStep.TheVariants as event
use Rattle.iff_chunks.specs.Chunks.{chunks_of}
use Rattle.iff_chunks.specs.Events.{Begun, Header, events_of, GoesOn}
use Rattle.include_graph.specs.Verdicts.{fault_at}
use Rattle.iw44_image.specs.Layer.{Data, data_of}
use Rattle.page_decoder.specs.declared.file_reader.FileReader.{FileReader}
use Rattle.page_decoder.specs.declared.file_reader.ChunkAtHand.{ChunkAtHand}
use Rattle.page_decoder.specs.declared.file_reader.Stage.TheVariants as stage
use Rattle.page_decoder.specs.declared.decoder.PageStep.{PageStep}
use Rattle.page_decoder.specs.declared.decoder.PageStep.TheVariants as step
use Rattle.page_decoder.specs.Kinds.{kind_of}
use Rattle.page_decoder.specs.Given.{Given}
use Rattle.page_decoder.specs.PageRead.{Decoded, Left, at_start}
use Rattle.page_decoder.specs.Headers.{Head, form_fault, header_fault}
use Rattle.page_decoder.specs.Acts.{Act, Kind, Reads, acts_of, close_in}
use Rattle.page_decoder.specs.Read.{On, and_then, after, refused_at, at_form, at_header, at_data, at_act, step_through, read_from, read}
use Rattle.page_decoder.specs.ActsTold.{OpenChunk, ActsTold, acts_so, all_told, after_event, GoOnFrom}
use Rattle.page_decoder.specs.Needs.{Below}
use Rattle.page_decoder.specs.Resolving.{role_of}
use Rattle.page_decoder.specs.Kept.{Keeping, Keeps}
use Rattle.page_decoder.specs.FileReading.{Walks, HoldsChunk, reached, decisions_in, decisions_at_hand, IsWalking, IsBefore, StandsAt, Answers, Moves, ComesTo, IsTold}
use Rattle.page_decoder.specs.FileSteps.{AtHeader, fault_answer}
use Rattle.page_decoder.proofs.Retaining.{from_below, after_below, data_below}
use Rattle.page_decoder.proofs.Stopping.{waits_at}
use Rattle.page_decoder.proofs.ActsByEvents.{acts_go_on}
use Rattle.page_decoder.proofs.Onward.{first_on, reads_on, through_last}
use Rattle.page_decoder.proofs.Answering.{ends_answer}

-- the acts of all that is given go on from those that were told
pub given_acts : (now given : Given) (rest : List ℕ) (reader : FileReader) (so_far : ActsTold) → given.bytes ≡ now.bytes ++ rest
    → Walks now reader.walker so_far → GoOnFrom so_far.acts so_far.chunk (acts_of (chunks_of given.bytes))
given_acts now given rest reader so_far b w =
    let goes = subst (λ bytes. GoesOn w.told (events_of (chunks_of bytes))) (sym b) (w.goes rest) in
    subst (λ x. GoOnFrom x.acts x.chunk (acts_of (chunks_of given.bytes))) (sym w.acts_are) (acts_go_on w.told (chunks_of given.bytes) goes)

pub no_chunk : (table : _) (chunk : Option ChunkAtHand) (decoded : Decoded) (kept : Keeping) → HoldsChunk table None chunk decoded kept → chunk ≡ None
no_chunk table None decoded kept h = refl
no_chunk table (Some chunk) decoded kept h = absurd h

pub kept_so : (table : _) (chunk : Option ChunkAtHand) (decoded : Decoded) (kept : Keeping)
    → HoldsChunk table None chunk decoded kept → Keeps table decoded kept
kept_so table None decoded kept h = h
kept_so table (Some chunk) decoded kept h = absurd h

pub none_more : (reader : FileReader) → reader.chunk ≡ None → decisions_in reader ≡ ticked 0 reader.decisions
none_more reader e = ap (λ c. ticked (decisions_at_hand c) reader.decisions) e

pub ticked_same : (all now : ℕ) → TicksExactly all 0 now → ticked 0 now ≡ now
ticked_same all now e = grind (arith, common_steps)

-- ---- what is left, and all that is given

-- behind a header that is right, the data come next
pub reads_within : (given : Given) (acts others : List Act) (head : Head) (data_ : Data) (left : Left)
    → acts_of (chunks_of given.bytes) ≡ acts ++ Reads head data_ ∷ others
    → and_then (step_through given.home given.known acts at_start)
    (λ now. at_header given.home given.known head (header_fault given.home.role now head) now) ≡ On left
    → read given ≡ after (at_data given.home head data_ left) (read_from given.home given.known (close_in given.mark given.bytes) others)
reads_within given acts others head data_ left e on =
    let home = given.home in
    let next = λ (now : Left). at_header home given.known head (header_fault home.role now head) now in
    let parts = first_on (step_through home given.known acts at_start) next left on in
    reads_on given acts (Reads head data_ ∷ others) parts.0 e parts.1
    ∙ ap (λ s. after (and_then s (at_data home head data_)) (read_from home given.known (close_in given.mark given.bytes) others)) parts.2

pub left_below : (given : Given) (acts : List Act) (chunk : Option OpenChunk) (left : Left) → GoOnFrom acts chunk (acts_of (chunks_of given.bytes))
    → reached given.home given.known acts chunk ≡ On left → Below left.told (read given).left.told
left_below given acts None left g on =
    subst (λ r. Below left.told r.left.told) (sym (reads_on given acts g.0 left g.1 on))
    (from_below given.home given.known (close_in given.mark given.bytes) g.0 left)
left_below given acts (Some chunk) left g on =
    let close = close_in given.mark given.bytes in
    subst (λ r. Below left.told r.left.told)
    (sym (reads_within given acts g.2 chunk.head (data_of (chunk.bytes ++ g.0) g.1) left g.3 on))
    (after_below left.told (at_data given.home chunk.head (data_of (chunk.bytes ++ g.0) g.1) left) (read_from given.home given.known close g.2)
    (from_below given.home given.known close g.2) (data_below given.home chunk.head (data_of (chunk.bytes ++ g.0) g.1) left))

-- ---- the FORM's kind

pub all_acts : (so_far : ActsTold) → so_far.chunk ≡ None → all_told so_far ≡ so_far.acts
all_acts so_far e = ap (λ c. so_far.acts ++ acts_so false c) e ∙ append-nil so_far.acts

-- the home and what is known are those that are given
pub home_known : (now given : Given) (acts : List Act) (left : Left) → now.home ≡ given.home → now.known ≡ given.known
    → step_through now.home now.known acts at_start ≡ On left → step_through given.home given.known acts at_start ≡ On left
home_known now given acts left h k on =
    ap (λ x. step_through x given.known acts at_start) (sym h) ∙ ap (λ x. step_through now.home x acts at_start) (sym k) ∙ on

module _ (given : Given) (rest used : List ℕ) (reader : FileReader) where
  pub form_comes : (kind : List ℕ) (size : ℕ) (t : IsTold given rest (event.Form kind size) used reader) (fault : Option FaultKind)
      → form_fault (role_of reader.role) kind ≡ fault → ComesTo given rest (fault_answer reader.file 0 fault) reader reader
  form_comes kind size t None f =
      let home = t.now.home in
      let role : home.role ≡ role_of reader.role = ap (λ h. h.role) t.of.home_is in
      let on : step_through home t.now.known t.so_far.acts at_start ≡ On t.left =
      subst (λ c. reached home t.now.known t.so_far.acts c ≡ On t.left) t.order t.holds.on in
      let act : at_act home t.now.known (Kind kind) t.left ≡ On t.left =
      ap (λ r. at_form home (form_fault r kind) t.left) role ∙ ap (λ x. at_form home x t.left) f in
      let all : step_through home t.now.known (all_told t.so_far ++ Kind kind ∷ []) at_start ≡ On t.left =
      ap (λ acts. step_through home t.now.known (acts ++ Kind kind ∷ []) at_start) (all_acts t.so_far t.order)
      ∙ through_last home t.now.known t.so_far.acts (Kind kind) at_start t.left t.left on act in
      let walking : IsWalking t.now reader = record {
        so_far = after_event t.so_far (Begun kind size);
        left = t.left;
        of = t.of;
        walks = t.walks;
        holds = record {
          on = all;
          holds_chunk = subst (λ c. HoldsChunk home.table c reader.chunk t.left.decoded reader.kept) t.order t.holds.holds_chunk;
          waits = t.holds.waits;
          decisions_are = t.holds.decisions_are;
          tallies = t.holds.tallies;
        };
      } in
      record {
        drawn = refl;
        stands = record {
          now = t.now;
          within = t.within;
          bytes_are = t.bytes_are;
          known_is = t.known_is;
          stands = subst (λ s. StandsAt t.now s reader) (sym t.is_walking) walking;
        };
      }
  form_comes kind size t (Some fault) f =
      let home = given.home in
      let role : home.role ≡ role_of reader.role = ap (λ h. h.role) (sym t.within.home ∙ t.of.home_is) in
      let file : home.file ≡ reader.file = ap (λ h. h.file) (sym t.within.home ∙ t.of.home_is) in
      let on0 : step_through t.now.home t.now.known t.so_far.acts at_start ≡ On t.left =
      subst (λ c. reached t.now.home t.now.known t.so_far.acts c ≡ On t.left) t.order t.holds.on in
      let on = home_known t.now given t.so_far.acts t.left t.within.home t.known_is on0 in
      let goes = given_acts t.now given rest reader (after_event t.so_far (Begun kind size)) t.bytes_are t.walks in
      let acts : acts_of (chunks_of given.bytes) ≡ t.so_far.acts ++ (Kind kind ∷ goes.0) =
      goes.1 ∙ ap (λ a. (a ++ Kind kind ∷ []) ++ goes.0) (all_acts t.so_far t.order) ∙ append_assoc t.so_far.acts (Kind kind ∷ []) goes.0 in
      let next = read_from home given.known (close_in given.mark given.bytes) goes.0 in
      let reads : read given ≡ record { left = t.left; end = refused_at home fault 0 } =
      reads_on given t.so_far.acts (Kind kind ∷ goes.0) t.left acts on
      ∙ ap (λ r. after (at_form home (form_fault r kind) t.left) next) role ∙ ap (λ x. after (at_form home x t.left) next) f in
      let none = subst (λ c. HoldsChunk t.now.home.table c reader.chunk t.left.decoded reader.kept) t.order t.holds.holds_chunk in
      let count : TicksExactly t.left.told.decisions 0 (decisions_in reader) =
      none_more reader (no_chunk t.now.home.table reader.chunk t.left.decoded reader.kept none)
      ∙ ticked_same t.left.told.decisions reader.decisions t.holds.decisions_are ∙ t.holds.decisions_are in
      let layers = (kept_so t.now.home.table reader.chunk t.left.decoded reader.kept none).layers_are ∙ t.holds.tallies.last_is in
      subst (λ n. Answers given rest (step.Refused (fault_at fault n 0)) reader reader) file
      (ends_answer given rest reader reader t.left (refused_at home fault 0) reads t.holds.tallies.drawn_are refl count layers (λ e. absurd (cc))
      (λ e. absurd e))

  -- ---- a header

  pub header_comes : (head : Head) (t : IsTold given rest (event.Header head.id head.offset head.size) used reader) (fault : Option FaultKind)
      (answer : Option PageStep) (next : FileReader) → header_fault (role_of reader.role) t.left head ≡ fault → AtHeader fault head answer reader next
      → ComesTo given rest answer reader next
  header_comes head t None answer next f a =
      let home = t.now.home in
      let role : home.role ≡ role_of reader.role = ap (λ h. h.role) t.of.home_is in
      let on : step_through home t.now.known t.so_far.acts at_start ≡ On t.left =
      subst (λ c. reached home t.now.known t.so_far.acts c ≡ On t.left) t.order t.holds.on in
      let none = subst (λ c. HoldsChunk home.table c reader.chunk t.left.decoded reader.kept) t.order t.holds.holds_chunk in
      let behind : FileReader = record reader { stage = stage.Before head } in
      let before : IsBefore t.now head behind = record {
        acts = all_told t.so_far;
        left = t.left;
        of = record { home_is = t.of.home_is; is_table = t.of.is_table; origin_is = t.of.origin_is; counts = t.of.counts };
        walks = t.walks;
        on = ap (λ acts. step_through home t.now.known acts at_start) (all_acts t.so_far t.order) ∙ on;
        fine = ap (λ r. header_fault r t.left head) role ∙ f;
        none = no_chunk home.table reader.chunk t.left.decoded reader.kept none;
        keeps = kept_so home.table reader.chunk t.left.decoded reader.kept none;
        resolves = waits_at (kind_of head.id) home t.now.known t.left reader.includes t.holds.waits;
        decisions_are = t.holds.decisions_are;
        tallies = record {
          chunks_are = t.holds.tallies.chunks_are;
          drawn_are = t.holds.tallies.drawn_are;
          last_is = t.holds.tallies.last_is;
        };
      } in
      let moves : Moves given rest reader behind = record {
        drawn = refl;
        stands = record { now = t.now; within = t.within; bytes_are = t.bytes_are; known_is = t.known_is; stands = before };
      } in
      subst (λ x. ComesTo given rest x reader next) (sym a.0) (subst (λ r. Moves given rest reader r) (sym a.1) moves)
  header_comes head t (Some fault) answer next f a =
      let home = given.home in
      let role : home.role ≡ role_of reader.role = ap (λ h. h.role) (sym t.within.home ∙ t.of.home_is) in
      let file : home.file ≡ reader.file = ap (λ h. h.file) (sym t.within.home ∙ t.of.home_is) in
      let on0 : step_through t.now.home t.now.known t.so_far.acts at_start ≡ On t.left =
      subst (λ c. reached t.now.home t.now.known t.so_far.acts c ≡ On t.left) t.order t.holds.on in
      let on = home_known t.now given t.so_far.acts t.left t.within.home t.known_is on0 in
      let goes = given_acts t.now given rest reader (after_event t.so_far (Header head.id head.offset head.size)) t.bytes_are t.walks in
      let acts : acts_of (chunks_of given.bytes) ≡ t.so_far.acts ++ (Reads head (data_of ([] ++ goes.0) goes.1) ∷ goes.2) =
      goes.3 ∙ ap (λ a. a ++ (Reads head (data_of ([] ++ goes.0) goes.1) ∷ goes.2)) (all_acts t.so_far t.order) in
      let rest_of = read_from home given.known (close_in given.mark given.bytes) goes.2 in
      let data_ = data_of ([] ++ goes.0) goes.1 in
      let reads : read given ≡ record { left = t.left; end = refused_at home fault head.offset } =
      reads_on given t.so_far.acts (Reads head data_ ∷ goes.2) t.left acts on
      ∙ ap (λ r. after (and_then (at_header home given.known head (header_fault r t.left head) t.left) (at_data home head data_)) rest_of) role
      ∙ ap (λ x. after (and_then (at_header home given.known head x t.left) (at_data home head data_)) rest_of) f in
      let none = subst (λ c. HoldsChunk t.now.home.table c reader.chunk t.left.decoded reader.kept) t.order t.holds.holds_chunk in
      let count : TicksExactly t.left.told.decisions 0 (decisions_in reader) =
      none_more reader (no_chunk t.now.home.table reader.chunk t.left.decoded reader.kept none)
      ∙ ticked_same t.left.told.decisions reader.decisions t.holds.decisions_are ∙ t.holds.decisions_are in
      let layers = (kept_so t.now.home.table reader.chunk t.left.decoded reader.kept none).layers_are ∙ t.holds.tallies.last_is in
      let answers = subst (λ n. Answers given rest (step.Refused (fault_at fault n head.offset)) reader reader) file
      (ends_answer given rest reader reader t.left (refused_at home fault head.offset) reads t.holds.tallies.drawn_are refl count layers
      (λ e. absurd (cc)) (λ e. absurd e)) in
      subst (λ x. ComesTo given rest x reader next) (sym a.0)
      (subst (λ r. Answers given rest (step.Refused (fault_at fault reader.file head.offset)) reader r) (sym a.1) answers)
