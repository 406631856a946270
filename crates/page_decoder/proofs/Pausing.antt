-- The reader of a file behind all events of its bytes so far: what its chunk at hand comes to.
use Rattle.std.proofs.Common.{◌≡◌, ◌≢◌, ◌≤◌, ◌<◌, ◌+◌, ℕ, false, Option, Some, None, List, [], ◌∷◌, ◌++◌, length, refl, sym, ap, ◌∙◌, subst, arith}
use Rattle.std.proofs.lemmas.Grind.{common_steps}
use Rattle.djvu_base.specs.Meter.{ticked, TicksExactly}
use Rattle.djvu_base.specs.declared.faults.FaultKind.{FaultKind}
use Rattle.include_graph.specs.Verdicts.{fault_at}
use Rattle.iw44_image.specs.Layer.{data_of}
use Rattle.page_decoder.specs.declared.file_reader.ChunkAtHand.{ChunkAtHand}
use Rattle.page_decoder.specs.declared.file_reader.FileReader.{FileReader}
use Rattle.page_decoder.specs.declared.file_reader.FileClose.{FileClose}
use Rattle.page_decoder.specs.declared.decoder.PageStep.{PageStep}
use Rattle.page_decoder.specs.declared.decoder.PageStep.TheVariants as step
use Rattle.page_decoder.specs.Given.{Given, Within}
use Rattle.page_decoder.specs.PageRead.{Left}
use Rattle.page_decoder.specs.Acts.{Close, Over}
use Rattle.page_decoder.specs.ChunkData.{Unfinished, Fails, Came, came}
use Rattle.page_decoder.specs.ActsTold.{OpenChunk, ActsTold, acts_so}
use Rattle.page_decoder.specs.Read.{On, after, counting, refused_at, at_outcome, at_data, at_close, read}
use Rattle.page_decoder.specs.Needs.{Below}
use Rattle.page_decoder.specs.Opened.{Opens, decisions_of}
use Rattle.page_decoder.specs.FileReading.{Answers, StandsAt, IsPaused, IsClosing, Pauses, HoldsChunk, HasOpened, close_of, reached}
use Rattle.page_decoder.specs.FileSteps.{Advances, ReadsOn}
use Rattle.page_decoder.proofs.Answering.{ends_answer, memory_answer}
use Rattle.page_decoder.proofs.Eventing.{reads_within}
use Rattle.page_decoder.proofs.Further.{Grows}
use Rattle.page_decoder.proofs.Onward.{reads_on}
use Rattle.page_decoder.proofs.Retaining.{told_by, outcome_below, after_below, from_below}
use Rattle.page_decoder.proofs.Sounding.{Container, data_sound}
use Rattle.page_decoder.proofs.Stopping.{ticks_alone}
use Rattle.page_decoder.proofs.Telling.{reached_on}

-- decisions of the chunk at hand, and of those before it
both_ticked : (first last before chunk : ℕ) → TicksExactly first 0 before → TicksExactly last 0 chunk → TicksExactly (first + last) 0 (ticked chunk before)
both_ticked first last before chunk a b = grind (arith, common_steps, a, b)

both_within : (first most before chunk : ℕ) → TicksExactly first 0 before → chunk ≤ ticked most 0 → ticked chunk before ≤ ticked (first + most) 0
both_within first most before chunk a b = grind (arith, common_steps, a, b)

same_step : (a b : PageStep) → Some a ≡ Some b → a ≡ b
same_step a b e = cc

-- ---- what the reading comes to

-- without a chunk at hand
none_read : (given : Given) (so_far : ActsTold) (left : Left) (behind : Close) → so_far.chunk ≡ None → Pauses given so_far behind
    → reached given.home given.known so_far.acts so_far.chunk ≡ On left → read given ≡ at_close given.home given.known behind left
none_read given so_far left behind none p on =
    reads_on given so_far.acts [] left (p.acts_are ∙ ap (λ c. so_far.acts ++ acts_so false c) none)
    (subst (λ c. reached given.home given.known so_far.acts c ≡ On left) none on)
    ∙ ap (λ c. at_close given.home given.known c left) p.close_is

-- with one
some_read : (given : Given) (so_far : ActsTold) (told : OpenChunk) (left : Left) (behind : Close) → so_far.chunk ≡ Some told → Pauses given so_far behind
    → reached given.home given.known so_far.acts so_far.chunk ≡ On left
    → read given ≡ after (at_data given.home told.head (data_of told.bytes false) left) (at_close given.home given.known behind)
some_read given so_far told left behind some p on =
    reads_within given so_far.acts [] told.head (data_of told.bytes false) left (p.acts_are ∙ ap (λ c. so_far.acts ++ acts_so false c) some)
    (subst (λ c. reached given.home given.known so_far.acts c ≡ On left) some on)
    ∙ ap (λ c. after (at_data given.home told.head (data_of told.bytes false) left) (at_close given.home given.known c)) p.close_is

module _ (given : Given) (rest : List ℕ) (behind : FileClose) (old : FileReader) (k : IsPaused given rest behind old) (law : Container)
    (grows : Grows k.now.home.table) where
  abbrev now : Given
  now = k.now

  abbrev so_far : ActsTold
  so_far = k.so_far

  on_given : (later : Given) → Within now later → reached later.home later.known so_far.acts so_far.chunk ≡ On k.left
  on_given later w = subst (λ h. reached h later.known so_far.acts so_far.chunk ≡ On k.left) w.home
      (reached_on now.home now.known later.known w.known grows so_far.acts so_far.chunk k.left k.holds.on)

  back : (c : Close) (left : Left) → at_close given.home given.known c left ≡ at_close now.home now.known c left
  back c left = ap (λ h. at_close h given.known c left) (sym k.within.home) ∙ ap (λ x. at_close now.home x c left) (sym k.known_is)

  -- no chunk is at hand
  pub none_closes : so_far.chunk ≡ None → old.chunk ≡ None → HoldsChunk now.home.table None None k.left.decoded old.kept → IsClosing given rest behind old
  none_closes none without keeps = record {
    now = now;
    within = k.within;
    bytes_are = k.bytes_are;
    known_is = k.known_is;
    left = k.left;
    of = k.of;
    reads = none_read given so_far k.left (close_of old.origin behind) none k.pauses (on_given given k.within) ∙ back (close_of old.origin behind) k.left;
    stays = λ e later w. none_read later so_far k.left (Over old.origin) none (k.stays e later w) (on_given later w);
    like = record { layers_are = keeps.layers_are; own_is = keeps.own_is };
    includes_wait = k.holds.waits;
    decisions_are = ticks_alone old k.left.told.decisions without k.holds.decisions_are;
    tallies = k.holds.tallies;
    waits = λ e. let w = k.waits e in record {
      now = now;
      within = k.within;
      bytes_are = k.bytes_are;
      known_is = k.known_is;
      stands = subst (λ s. StandsAt now s old) (sym w.2) (record { so_far = so_far; left = k.left; of = k.of; walks = w.1; holds = k.holds });
    };
  }

  -- one is
  module _ (told : OpenChunk) (chunk next : ChunkAtHand) (some : so_far.chunk ≡ Some told) (at_hand : old.chunk ≡ Some chunk)
      (o : HasOpened now.home.table told chunk k.left.decoded old.kept) where
    abbrev new : FileReader
    new = record old { chunk = Some next }

    abbrev it : Came
    it = came now.home.table told.head (data_of told.bytes false) k.left.decoded

    abbrev counted : Left
    counted = counting it.decisions k.left

    short : length told.bytes < chunk.head.size
    short = subst (λ h. length told.bytes < h.size) (sym o.head_is)
        (data_sound law given.bytes so_far.acts [] told.head (data_of told.bytes false)
        (k.pauses.acts_are ∙ ap (λ c. so_far.acts ++ acts_so false c) some))

    opens : Opens now.home.table chunk.head k.left.decoded told.bytes old.kept chunk.opened
    opens = subst (λ h. Opens now.home.table h k.left.decoded told.bytes old.kept chunk.opened) (sym o.head_is) o.opens

    kept_layers : old.kept.layers ≡ k.left.decoded.layers
    kept_layers = o.opens.layers_are

    reads_at : (later : Given) → Within now later → (c : Close) → Pauses later so_far c
        → read later ≡ after (at_data now.home told.head (data_of told.bytes false) k.left) (at_close later.home later.known c)
    reads_at later w c p = some_read later so_far told k.left c some p (on_given later w)
        ∙ ap (λ h. after (at_data h told.head (data_of told.bytes false) k.left) (at_close later.home later.known c)) (sym w.home)

    pub pauses_open : ReadsOn None old.file chunk next → IsClosing given rest behind new
    pauses_open r =
        let u = r.unfinished now.home.table k.left.decoded told.bytes old.kept opens short refl in
        let unfinished : it.outcome ≡ Unfinished = ap (λ h. (came now.home.table h (data_of told.bytes false) k.left.decoded).outcome) (sym o.head_is) ∙ u.0 in
        let ticks : TicksExactly it.decisions 0 (decisions_of next.opened) =
        subst (λ h. TicksExactly (came now.home.table h (data_of told.bytes false) k.left.decoded).decisions 0 (decisions_of next.opened)) o.head_is
        (r.decisions now.home.table k.left.decoded told.bytes old.kept opens short (λ e. cc)) in
        let still = λ (later : Given) (w : Within now later) (c : Close) (p : Pauses later so_far c).
        reads_at later w c p ∙ ap (λ x. after (at_outcome now.home told.head it.decisions x k.left) (at_close later.home later.known c)) unfinished in
        record {
          now = now;
          within = k.within;
          bytes_are = k.bytes_are;
          known_is = k.known_is;
          left = counted;
          of = record { home_is = k.of.home_is; is_table = k.of.is_table; origin_is = k.of.origin_is; counts = k.of.counts };
          reads = still given k.within (close_of old.origin behind) k.pauses ∙ back (close_of old.origin behind) counted;
          stays = λ e later w. still later w (Over old.origin) (k.stays e later w);
          like = record { layers_are = kept_layers; own_is = o.opens.own_is };
          includes_wait = k.holds.waits;
          decisions_are = both_ticked k.left.told.decisions it.decisions old.decisions (decisions_of next.opened) k.holds.decisions_are ticks;
          tallies = record {
            chunks_are = k.holds.tallies.chunks_are;
            drawn_are = k.holds.tallies.drawn_are;
            last_is = k.holds.tallies.last_is;
          };
          waits = λ e. let w = k.waits e in record {
            now = now;
            within = k.within;
            bytes_are = k.bytes_are;
            known_is = k.known_is;
            stands = subst (λ s. StandsAt now s new) (sym w.2) (record {
              so_far = so_far;
              left = k.left;
              of = record { home_is = k.of.home_is; is_table = k.of.is_table; origin_is = k.of.origin_is; counts = k.of.counts };
              walks = w.1;
              holds = record {
                on = k.holds.on;
                holds_chunk = subst (λ c. HoldsChunk now.home.table c (Some next) k.left.decoded old.kept) (sym some) (record {
                  head_is = r.head_is ∙ o.head_is;
                  opens = subst (λ h. Opens now.home.table h k.left.decoded told.bytes old.kept next.opened) (r.head_is ∙ o.head_is) u.1;
                  few = omega (arith, ticks);
                });
                waits = k.holds.waits;
                decisions_are = k.holds.decisions_are;
                tallies = record {
                  chunks_are = k.holds.tallies.chunks_are;
                  drawn_are = k.holds.tallies.drawn_are;
                  last_is = k.holds.tallies.last_is;
                };
              };
            });
          };
        }

    -- the reading ends within the chunk, or there is no memory
    below_counted : (left : Left) → Below (counting it.decisions left).told (told_by (at_outcome now.home told.head it.decisions it.outcome left))
    below_counted left = outcome_below now.home told.head it.decisions it.outcome left

    stopped : (stop : PageStep) → ReadsOn (Some stop) old.file chunk next → stop ≢ step.OutOfMemory → Answers given rest stop old new
    stopped stop r some_memory =
        let f = r.fails now.home.table k.left.decoded told.bytes old.kept opens short stop refl some_memory in
        let kind : FaultKind = f.0 in
        let offset = told.head.offset in
        let failed : it.outcome ≡ Fails kind = ap (λ h. (came now.home.table h (data_of told.bytes false) k.left.decoded).outcome) (sym o.head_is) ∙ f.1 in
        let ticks : TicksExactly it.decisions 0 (decisions_of next.opened) =
        subst (λ h. TicksExactly (came now.home.table h (data_of told.bytes false) k.left.decoded).decisions 0 (decisions_of next.opened)) o.head_is
        (r.decisions now.home.table k.left.decoded told.bytes old.kept opens short (λ e. some_memory (same_step stop step.OutOfMemory e))) in
        let is : read given ≡ record { left = counted; end = refused_at now.home kind offset } =
        reads_at given k.within (close_of old.origin behind) k.pauses
        ∙ ap (λ x. after (at_outcome now.home told.head it.decisions x k.left) (at_close given.home given.known (close_of old.origin behind))) failed in
        let file : now.home.file ≡ old.file = ap (λ h. h.file) k.of.home_is in
        subst (λ s. Answers given rest s old new) (ap (λ n. step.Refused (fault_at kind n offset)) file
        ∙ ap (λ h. step.Refused (fault_at kind old.file h.offset)) (sym o.head_is) ∙ sym f.2)
        (ends_answer given rest old new counted (refused_at now.home kind offset) is k.holds.tallies.drawn_are refl
        (both_ticked k.left.told.decisions it.decisions old.decisions (decisions_of next.opened) k.holds.decisions_are ticks)
        (kept_layers ∙ k.holds.tallies.last_is) (λ e. absurd (cc)) (λ p. absurd p))

    pub pauses_stopped : (stop : PageStep) → ReadsOn (Some stop) old.file chunk next → Answers given rest stop old new
    pauses_stopped step.OutOfMemory r =
        let below : Below counted.told (read given).left.told =
        subst (λ x. Below counted.told x.left.told) (sym (reads_at given k.within (close_of old.origin behind) k.pauses))
        (after_below counted.told (at_data now.home told.head (data_of told.bytes false) k.left) (at_close given.home given.known (close_of old.origin behind))
        (λ left. from_below given.home given.known (close_of old.origin behind) [] left) (below_counted k.left)) in
        let most : decisions_of next.opened ≤ ticked it.decisions 0 =
        subst (λ h. decisions_of next.opened ≤ ticked (came now.home.table h (data_of told.bytes false) k.left.decoded).decisions 0) o.head_is
        (r.at_most now.home.table k.left.decoded told.bytes old.kept opens short) in
        memory_answer given rest old new counted.told (k.left.told.decisions + it.decisions) below.drawings below.decisions
        k.holds.tallies.drawn_are refl (both_within k.left.told.decisions it.decisions old.decisions (decisions_of next.opened) k.holds.decisions_are most)
        (kept_layers ∙ k.holds.tallies.last_is)
    pauses_stopped step.Finished r = stopped step.Finished r (λ e. cc)
    pauses_stopped step.NeedBytes r = stopped step.NeedBytes r (λ e. cc)
    pauses_stopped (step.NeedOutline file) r = stopped (step.NeedOutline file) r (λ e. cc)
    pauses_stopped (step.NeedFile file) r = stopped (step.NeedFile file) r (λ e. cc)
    pauses_stopped (step.Refused fault) r = stopped (step.Refused fault) r (λ e. cc)
    pauses_stopped (step.Drew notice) r = stopped (step.Drew notice) r (λ e. cc)

  -- by the answer, and what is at hand then
  abbrev pub Comes : Option PageStep → Option ChunkAtHand → Type 0
  Comes None next = IsClosing given rest behind (record old { chunk = next })
  Comes (Some stop) next = Answers given rest stop old (record old { chunk = next })

  by_chunks : (answer : Option PageStep) (told : Option OpenChunk) (before next : Option ChunkAtHand) → so_far.chunk ≡ told → old.chunk ≡ before
      → HoldsChunk now.home.table told before k.left.decoded old.kept → Advances answer old.file before next → Comes answer next
  by_chunks None None None None t b h a =
      subst (λ chunk. IsClosing given rest behind (record old { chunk = chunk })) b (none_closes t b h)
  by_chunks (Some stop) None None None t b h a = let wrong : Some stop ≡ None = a in absurd (cc)
  by_chunks answer None None (Some next) t b h a = absurd a
  by_chunks answer None (Some before) next t b h a = absurd h
  by_chunks answer (Some told) None next t b h a = absurd h
  by_chunks answer (Some told) (Some before) None t b h a = absurd a
  by_chunks None (Some told) (Some before) (Some next) t b h a = pauses_open told before next t b h a
  by_chunks (Some stop) (Some told) (Some before) (Some next) t b h a = pauses_stopped told before next t b h stop a

  pub comes_to : (answer : Option PageStep) (next : Option ChunkAtHand) → Advances answer old.file old.chunk next → Comes answer next
  comes_to answer next a = by_chunks answer so_far.chunk old.chunk next refl refl k.holds.holds_chunk a
