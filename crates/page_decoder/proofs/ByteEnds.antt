-- The reader of a file that told all events of its bytes so far, at their end.
use Rattle.std.proofs.Common.{◌≡◌, ◌≢◌, Option, Some, None, List, [], ◌∷◌, ◌++◌, ◌⊎◌, inl, inr, ℕ, Bool, true, false, cond, length, refl, sym, ap, ◌∙◌, subst}
use Rattle.std.proofs.lemmas.List.{append-nil}
use Rattle.std.specs.Arc.{arc_value}
use Rattle.djvu_base.specs.Library.{Mark, Open, Whole, mark_of}
use Rattle.djvu_base.specs.Library as library
use Rattle.djvu_base.specs.declared.faults.FaultKind.{FaultKind}
use Rattle.djvu_base.specs.declared.ends.FileEnd.{FileEnd}
use Rattle.djvu_base.specs.declared.ends.FileEnd.TheVariants as file_end
use Rattle.zp_table.specs.Rows.{IsTable}
use Rattle.iff_chunks.specs.Chunks.{Form, Chunk, Tail, InHead, InHeader, InData, InPad, FormEnd, Broken, chunks_of}
use Rattle.iff_chunks.specs.Ends.{closed, is_cut}
use Rattle.iff_chunks.specs.Events.{GoesOn, IsOpen, events_of}
use Rattle.iff_chunks.specs.Told.{Walking, Told}
use Rattle.iff_chunks.specs.declared.walker.WalkStep.TheVariants as event
use Rattle.page_decoder.specs.declared.file_reader.FileReader.{FileReader}
use Rattle.page_decoder.specs.declared.file_reader.FileClose.{FileClose}
use Rattle.page_decoder.specs.declared.file_reader.FileClose.TheVariants as close
use Rattle.page_decoder.specs.Given.{Given, Within, Front}
use Rattle.page_decoder.specs.Acts.{Over, acts_of, origin_of, close_in}
use Rattle.page_decoder.specs.Acts as acts
use Rattle.page_decoder.specs.ActsTold.{nothing_told, all_told, after_events}
use Rattle.page_decoder.specs.Resolving.{home_of}
use Rattle.page_decoder.specs.FileReading.{IsOf, IsTold, IsPaused, Pauses, Walks, Holds, Counts, close_of, mark_by, origin_by}
use Rattle.page_decoder.specs.FileSteps.{IsBehind}
use Rattle.page_decoder.proofs.ActsByEvents.{acts_by_events}
use Rattle.page_decoder.proofs.Needing.{known_end}
use Rattle.page_decoder.proofs.Origins.{Headless, headless, origin_at}
use Rattle.page_decoder.proofs.ResolveSteps.{knows_same}
use Rattle.page_decoder.proofs.Sounding.{Container}

not_over : (b : Bool) (origin : ℕ) (a c : FaultKind) (x y : ℕ) → acts.close_of origin (cond b (Broken a x) (Broken c y)) ≡ Over origin → ⊥
not_over true origin a c x y e = cc
not_over false origin a c x y e = cc

never_over : (mark : Mark) (all origin : ℕ) (whole : List Chunk) (tail : Tail) → Headless tail
    → acts.close_of origin (closed mark all whole tail) ≡ Over origin → ⊥
never_over Open all origin whole InHead f e = cc
never_over Open all origin whole (Broken kind offset) f e = cc
never_over Whole all origin [] InHead f e = cc
never_over Whole all origin (chunk ∷ whole) InHead f e = cc
never_over Whole all origin [] (Broken kind offset) f e = cc
never_over Whole all origin (chunk ∷ whole) (Broken kind offset) f e = cc
never_over library.Broken all origin [] InHead f e = cc
never_over library.Broken all origin (chunk ∷ whole) InHead f e = cc
never_over library.Broken all origin [] (Broken kind offset) f e = not_over (is_cut kind) origin _ kind all offset e
never_over library.Broken all origin (chunk ∷ whole) (Broken kind offset) f e = not_over (is_cut kind) origin _ kind all offset e
never_over mark all origin whole (InHeader offset bytes) f e = absurd f
never_over mark all origin whole (InData chunk) f e = absurd f
never_over mark all origin whole (InPad offset is_last) f e = absurd f
never_over mark all origin whole FormEnd f e = absurd f

same_origin : (law : Container) (mark : Mark) (bytes : List ℕ) (behind : FileClose) (form : Option Form) → (chunks_of bytes).form ≡ form
    → close_in mark bytes ≡ close_of (origin_of (chunks_of bytes).form) behind → close_in mark bytes ≡ close_of (origin_by bytes) behind
same_origin law mark bytes close.Waits form f e = e
same_origin law mark bytes (close.Breaks kind offset) form f e = e
same_origin law mark bytes close.Over None f e =
    absurd (never_over mark (length bytes) (origin_of (chunks_of bytes).form) (chunks_of bytes).whole (chunks_of bytes).tail (headless bytes f) e)
same_origin law mark bytes close.Over (Some form) f e = e ∙ ap Over (ap origin_of f ∙ origin_at law bytes form f)

closed_mark : (end : FileEnd) → mark_of end ≢ Open
closed_mark file_end.Whole e = cc
closed_mark file_end.Broken e = cc

open_tail : (tail : Tail) → IsOpen tail → (origin : ℕ) → acts.close_of origin tail ≡ Over origin → ⊥
open_tail InHead o origin e = cc
open_tail (InHeader offset bytes) o origin e = cc
open_tail (InData chunk) o origin e = cc
open_tail (InPad offset is_last) o origin e = cc
open_tail FormEnd o origin e = absurd o
open_tail (Broken kind offset) o origin e = absurd o

within_same : (given : Given) → Within given given
within_same given = record { home = refl; known = knows_same given.known; bytes = inr (refl, refl) }

module _ (given : Given) (rest taken : List ℕ) (old : FileReader) (end : Option FileEnd) (behind : FileClose) (walker : Walking)
    (t : IsTold given rest event.NeedBytes taken old) (m : given.mark ≡ mark_by end) (b : IsBehind (mark_by end) t.now.bytes behind)
    (w : end ≡ None → walker ≡ old.walker) (law : Container) where
  abbrev now : Given
  now = t.now

  abbrev new : FileReader
  new = record old { walker = walker }

  bytes : given.bytes ≡ now.bytes
  bytes = t.bytes_are ∙ ap (λ r. now.bytes ++ r) t.settles.0 ∙ append-nil now.bytes

  of_given : IsOf given new
  of_given = record {
    home_is = subst (λ h. h ≡ home_of old.role (arc_value old.table) h.names old.file) t.within.home t.of.home_is;
    is_table = subst (λ h. IsTable h.table) t.within.home t.of.is_table;
    origin_is = t.of.origin_is ∙ ap origin_by (sym bytes);
    counts = subst (λ all. Counts all old.arrived) (sym bytes) t.of.counts;
  }

  pauses : Pauses given t.so_far (close_of old.origin behind)
  pauses = record {
    acts_are = ap (λ all. acts_of (chunks_of all)) bytes ∙ acts_by_events (chunks_of now.bytes)
        ∙ ap (λ events. all_told (after_events nothing_told events)) t.settles.1 ∙ ap all_told (sym t.walks.acts_are);
    close_is = ap (λ k. close_in k given.bytes) m ∙ ap (λ all. close_in (mark_by end) all) bytes
        ∙ same_origin law (mark_by end) now.bytes behind (chunks_of now.bytes).form refl b ∙ ap (λ o. close_of o behind) (sym t.of.origin_is);
  }

  holds_given : Holds given.home given.known t.so_far t.left new
  holds_given =
      let h = subst (λ k. Holds given.home k t.so_far t.left old) t.known_is (subst (λ x. Holds x now.known t.so_far t.left old) t.within.home t.holds) in
      record {
        on = h.on;
        holds_chunk = h.holds_chunk;
        waits = h.waits;
        decisions_are = h.decisions_are;
        tallies = record { chunks_are = h.tallies.chunks_are; drawn_are = h.tallies.drawn_are; last_is = h.tallies.last_is };
      }

  -- a file of whose end nothing is known waits; one that has ended doesn't
  still_open : (e : Option FileEnd) → end ≡ e → behind ≡ close.Waits → end ≡ None
  still_open None e k = e
  still_open (Some last) e k =
      absurd (known_end (mark_of last) now.bytes (closed_mark last)
      (subst (λ x. IsBehind (mark_by x) now.bytes behind) e b ∙ ap (λ x. close_of (origin_of (chunks_of now.bytes).form) x) k))

  never_waits : (e : Option FileEnd) → end ≡ e → behind ≡ close.Over → mark_by end ≢ Open
  never_waits (Some last) e k o = closed_mark last (sym (ap mark_by e) ∙ o)
  never_waits None e k o =
      let origin = origin_of (chunks_of now.bytes).form in
      let over : close_in Open now.bytes ≡ close_of origin close.Over =
      subst (λ x. IsBehind (mark_by x) now.bytes behind) e b ∙ ap (λ x. close_of origin x) k in
      open_tail (chunks_of now.bytes).tail t.settles.2 origin over

  stays : behind ≡ close.Over → (later : Given) → Within given later → Pauses later t.so_far (Over old.origin)
  stays k later wl = by wl.bytes
    where
      same : given.bytes ≡ later.bytes → given.mark ≡ later.mark → Pauses later t.so_far (Over old.origin)
      same e f = record {
        acts_are = ap (λ all. acts_of (chunks_of all)) (sym e) ∙ pauses.acts_are;
        close_is = ap (λ x. close_in x later.bytes) (sym f) ∙ ap (λ all. close_in given.mark all) (sym e) ∙ pauses.close_is
            ∙ ap (λ x. close_of old.origin x) k;
      }

      by : ((given.mark ≡ Open) × Front given.bytes later.bytes) ⊎ ((given.bytes ≡ later.bytes) × (given.mark ≡ later.mark))
          → Pauses later t.so_far (Over old.origin)
      by (inl o) = absurd (never_waits end refl k (sym m ∙ o.0))
      by (inr e) = same e.0 e.1

  walks_given : end ≡ None → Walks given walker t.so_far
  walks_given e = subst (λ x. Walks given x t.so_far) (sym (w e)) (record {
    told = t.walks.told;
    is_told = subst (λ all. Told all t.walks.told old.walker) (sym bytes) t.walks.is_told;
    acts_are = t.walks.acts_are;
    goes = λ more. subst (λ all. GoesOn t.walks.told (events_of (chunks_of (all ++ more)))) (sym bytes) (t.walks.goes more);
    is_open = m ∙ ap mark_by e;
  })

  pub paused_bytes : IsPaused given rest behind new
  paused_bytes = record {
    now = given;
    within = within_same given;
    bytes_are = sym (ap (λ r. given.bytes ++ r) t.settles.0 ∙ append-nil given.bytes);
    known_is = refl;
    so_far = t.so_far;
    left = t.left;
    of = of_given;
    pauses = pauses;
    stays = stays;
    holds = holds_given;
    waits = λ k. (t.settles.0, walks_given (still_open end refl k), t.is_walking);
  }
