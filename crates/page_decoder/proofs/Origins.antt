-- Where the FORM's first chunk may begin, and what stands behind all events of a file.
use Rattle.std.proofs.Common.{◌≡◌, ◌≢◌, ◌+◌, ℕ, Bool, true, false, cond, Option, Some, None, ◌⊎◌, inl, inr, List, [], ◌∷◌, ◌++◌, ◌-◌, length, take, drop, refl, sym, ap, ◌∙◌, subst}
use Rattle.std.proofs.lemmas.List.{append-nil}
use Rattle.byteorder.specs.Endian.{big_number}
use Rattle.djvu_base.specs.declared.faults.FaultKind.{FaultKind}
use Rattle.djvu_base.specs.declared.faults.FaultKind.TheVariants.{Truncated}
use Rattle.djvu_base.specs.Library.{Open}
use Rattle.iff_chunks.specs.Start.{Start, Begins, Arriving, Differs, start_of}
use Rattle.iff_chunks.specs.Chunks.{Form, Chunks, Rest, Tail, InHead, InHeader, InData, InPad, FormEnd, Broken, chunks_of, magic, form_word, in_head, in_form, kind_at, length_fault, size_at, whole_length, length_at, form_at, after_magic, rest_at}
use Rattle.iff_chunks.specs.Ends.{closed, is_cut}
use Rattle.iff_chunks.specs.Events.{Event, events_of}
use Rattle.iff_chunks.specs.declared.walker.WalkStep.TheVariants as event
use Rattle.page_decoder.specs.declared.file_reader.FileReader.{FileReader}
use Rattle.page_decoder.specs.declared.file_reader.FileClose.TheVariants as close
use Rattle.page_decoder.specs.Given.{Given, Within, Front}
use Rattle.page_decoder.specs.ActsTold.{ActsTold, nothing_told, all_told, after_events}
use Rattle.iff_chunks.specs.Layout.{IsPrefix}
use Rattle.page_decoder.specs.Acts.{Over, Breaks, acts_of, origin_of, close_of}
use Rattle.page_decoder.specs.FileReading.{origin_by, Pauses, IsTold, IsPaused}
use Rattle.page_decoder.proofs.ActsByEvents.{acts_by_events}
use Rattle.page_decoder.proofs.Acting.{closed_end, closed_broken, not_cut}
use Rattle.page_decoder.proofs.Sounding.{Container}

-- ---- a FORM's place

by_prefix : (bytes prefix rest : List ℕ) (offset : ℕ) → bytes ≡ prefix ++ (form_word ++ rest) → IsPrefix prefix → offset ≡ length prefix
    → offset + 12 ≡ origin_by bytes
by_prefix bytes prefix rest offset e (inl p) o =
    ap (λ n. n + 12) (o ∙ ap length p) ∙ sym (ap origin_by (e ∙ ap (λ x. x ++ (form_word ++ rest)) p))
by_prefix bytes prefix rest offset e (inr p) o =
    ap (λ n. n + 12) (o ∙ ap length p) ∙ sym (ap origin_by (e ∙ ap (λ x. x ++ (form_word ++ rest)) p))

pub origin_at : (law : Container) (bytes : List ℕ) (form : Form) → (chunks_of bytes).form ≡ Some form → form.offset + 12 ≡ origin_by bytes
origin_at law bytes form e =
    let laid = law.laid bytes form e in by_prefix bytes laid.prefix _ form.offset laid.same laid.may_lead laid.place

-- ---- without a FORM

abbrev pub Headless : Tail → Type 0
Headless InHead = Unit {0}
Headless (Broken kind offset) = Unit {0}
Headless (InHeader offset bytes) = ⊥
Headless (InData chunk) = ⊥
Headless (InPad offset is_last) = ⊥
Headless FormEnd = ⊥

abbrev Fine : Chunks → Type 0
Fine chunks = chunks.form ≡ None → Headless chunks.tail

either : (b : Bool) (x y : Chunks) → Fine x → Fine y → Fine (cond b x y)
either true x y f g = f
either false x y f g = g

some_in : (form : Form) (rest : Rest) → Fine (in_form form rest)
some_in form rest e = let wrong : Some form ≡ None = e in absurd (cc)

fine_kind : (offset size : ℕ) (bytes : List ℕ) → Fine (kind_at offset size bytes)
fine_kind offset size bytes =
    either _ in_head _ (λ e. tt) (some_in (record { offset = offset; kind = take 4 bytes; size = size }) (rest_at (offset + 12) (size - 4) (drop 4 bytes)))

fine_size : (found : Option FaultKind) (offset size : ℕ) (bytes : List ℕ) → Fine (size_at found offset size bytes)
fine_size (Some kind) offset size bytes = λ e. tt
fine_size None offset size bytes = fine_kind offset size bytes

fine_length : (offset : ℕ) (bytes : List ℕ) → Fine (length_at offset bytes)
fine_length offset bytes =
    let size = big_number 4 (take 4 bytes) in
    either _ in_head (whole_length offset size (drop 4 bytes)) (λ e. tt) (fine_size (length_fault offset size) offset size (drop 4 bytes))

fine_form : (offset : ℕ) (start : Start) → Fine (form_at offset start)
fine_form offset (Begins bytes) = fine_length offset bytes
fine_form offset Arriving = λ e. tt
fine_form offset Differs = λ e. tt

fine_magic : (start : Start) (bytes : List ℕ) → Fine (after_magic start bytes)
fine_magic (Begins rest) bytes = fine_form 4 (start_of form_word rest)
fine_magic Arriving bytes = λ e. tt
fine_magic Differs bytes = fine_form 0 (start_of form_word bytes)

-- a file without a FORM ends in its head, or is broken there
pub headless : (bytes : List ℕ) → (chunks_of bytes).form ≡ None → Headless (chunks_of bytes).tail
headless bytes = fine_magic (start_of magic bytes) bytes

-- where the FORM ended, it is there, and its chunks begin at this place
pub origin_so : (law : Container) (bytes : List ℕ) (form : Option Form) → (chunks_of bytes).form ≡ form → (Headless (chunks_of bytes).tail → ⊥)
    → origin_of (chunks_of bytes).form ≡ origin_by bytes
origin_so law bytes None e not = absurd (not (headless bytes e))
origin_so law bytes (Some form) e not = ap origin_of e ∙ origin_at law bytes form e

-- ---- behind all events

origin_front : (bytes rest : List ℕ) → (bytes ≡ [] → ⊥) → origin_by (bytes ++ rest) ≡ origin_by bytes
origin_front [] rest some = absurd (some refl)
origin_front (byte ∷ bytes) rest some = refl

-- what follows the bytes so far, in all that is given later
more_of : (now later : Given) → Within now later → (rest : List ℕ) × (later.bytes ≡ now.bytes ++ rest)
more_of now later w = by w.bytes
  where
    by : ((now.mark ≡ Open) × Front now.bytes later.bytes) ⊎ ((now.bytes ≡ later.bytes) × (now.mark ≡ later.mark))
        → (rest : List ℕ) × (later.bytes ≡ now.bytes ++ rest)
    by (inl g) = g.1
    by (inr g) = ([], sym g.0 ∙ sym (append-nil now.bytes))

module _ (law : Container) (now : Given) (so_far : ActsTold) (told : List Event) (origin : ℕ) (told_is : so_far ≡ after_events nothing_told told)
    (origin_is : origin ≡ origin_by now.bytes) where
  all_acts_are : (later : Given) (rest : List ℕ) → later.bytes ≡ now.bytes ++ rest → events_of (chunks_of (now.bytes ++ rest)) ≡ told
      → acts_of (chunks_of later.bytes) ≡ all_told so_far
  all_acts_are later rest b e =
      acts_by_events (chunks_of later.bytes)
      ∙ ap all_told (ap (after_events nothing_told) (ap (λ x. events_of (chunks_of x)) b ∙ e) ∙ sym told_is)

  pub over_pauses : ((more : List ℕ) → (events_of (chunks_of (now.bytes ++ more)) ≡ told) × ((chunks_of (now.bytes ++ more)).tail ≡ FormEnd))
      → (later : Given) → Within now later → Pauses later so_far (Over origin)
  over_pauses settles later w =
      let more = more_of now later w in
      let s = settles more.0 in
      let tail : (chunks_of later.bytes).tail ≡ FormEnd = ap (λ x. (chunks_of x).tail) more.1 ∙ s.1 in
      let some : now.bytes ≡ [] → ⊥ = λ none. none_ends (sym (ap (λ x. (chunks_of (x ++ [])).tail) none) ∙ (settles []).1) in
      let place : origin_of (chunks_of later.bytes).form ≡ origin =
      origin_so law later.bytes (chunks_of later.bytes).form refl (λ h. subst Headless tail h)
      ∙ ap origin_by more.1 ∙ origin_front now.bytes more.0 some ∙ sym origin_is in
      record {
        acts_are = all_acts_are later more.0 more.1 s.0;
        close_is = ap (λ t. close_of (origin_of (chunks_of later.bytes).form) (closed later.mark (length later.bytes) (chunks_of later.bytes).whole t)) tail
            ∙ ap (close_of (origin_of (chunks_of later.bytes).form)) (closed_end later.mark (length later.bytes) (chunks_of later.bytes).whole) ∙ ap Over place;
      }
    where
      none_ends : InHead ≡ FormEnd → ⊥
      none_ends e = cc

  pub broken_pauses : ((bytes : List ℕ) (offset : ℕ) → (chunks_of bytes).tail ≢ Broken Truncated offset) → (kind : FaultKind) (offset : ℕ)
      → ((more : List ℕ) → (events_of (chunks_of (now.bytes ++ more)) ≡ told) × ((chunks_of (now.bytes ++ more)).tail ≡ Broken kind offset))
      → (later : Given) → Within now later → Pauses later so_far (Breaks kind offset)
  broken_pauses uncut kind offset settles later w =
      let more = more_of now later w in
      let s = settles more.0 in
      let tail : (chunks_of later.bytes).tail ≡ Broken kind offset = ap (λ x. (chunks_of x).tail) more.1 ∙ s.1 in
      let whole = not_cut kind (is_cut kind) refl (λ t. uncut later.bytes offset (tail ∙ ap (λ k. Broken k offset) t)) in
      record {
        acts_are = all_acts_are later more.0 more.1 s.0;
        close_is = ap (λ t. close_of (origin_of (chunks_of later.bytes).form) (closed later.mark (length later.bytes) (chunks_of later.bytes).whole t)) tail
            ∙ ap (close_of (origin_of (chunks_of later.bytes).form))
            (closed_broken later.mark (length later.bytes) (chunks_of later.bytes).whole kind offset whole);
      }

-- ---- the reader there

module _ (law : Container) (given : Given) (rest used : List ℕ) (reader : FileReader) where
  pub form_end_pauses : IsTold given rest event.FormEnd used reader → IsPaused given rest close.Over reader
  form_end_pauses t =
      let stays = over_pauses law t.now t.so_far t.walks.told reader.origin t.walks.acts_are t.of.origin_is t.settles in
      record {
        now = t.now;
        within = t.within;
        bytes_are = t.bytes_are;
        known_is = t.known_is;
        so_far = t.so_far;
        left = t.left;
        of = t.of;
        pauses = stays given t.within;
        stays = λ e later w. stays later w;
        holds = t.holds;
        waits = λ e. absurd (cc);
      }

  pub broken_pauses_so : ((bytes : List ℕ) (offset : ℕ) → (chunks_of bytes).tail ≢ Broken Truncated offset) → (kind : FaultKind) (offset : ℕ)
      → IsTold given rest (event.Broken kind offset) used reader → IsPaused given rest (close.Breaks kind offset) reader
  broken_pauses_so uncut kind offset t =
      let stays = broken_pauses law t.now t.so_far t.walks.told reader.origin t.walks.acts_are t.of.origin_is uncut kind offset t.settles in
      record {
        now = t.now;
        within = t.within;
        bytes_are = t.bytes_are;
        known_is = t.known_is;
        so_far = t.so_far;
        left = t.left;
        of = t.of;
        pauses = stays given t.within;
        stays = λ e later w. absurd (cc);
        holds = t.holds;
        waits = λ e. absurd (cc);
      }
