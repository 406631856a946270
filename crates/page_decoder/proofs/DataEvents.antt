-- What the reader of a file comes to at data of a chunk.
use Rattle.std.proofs.Common.{◌≡◌, ◌≢◌, ◌≤◌, ◌<◌, ◌+◌, ℕ, false, Option, Some, None, List, [], ◌∷◌, ◌++◌, length, refl, sym, ap, ◌∙◌, subst, arith}
use Rattle.std.proofs.lemmas.List.{length-append}
use Rattle.std.proofs.lemmas.Grind.{common_steps}
use Rattle.djvu_base.specs.Meter.{ticked, TicksExactly}
use Rattle.iff_chunks.specs.declared.walker.WalkStep.TheVariants as event
use Rattle.iff_chunks.specs.Events.{Data as DataEvent}
use Rattle.iff_chunks.specs.Chunks.{chunks_of}
use Rattle.iw44_image.specs.Layer.{Data, data_of}
use Rattle.page_decoder.specs.declared.file_reader.FileReader.{FileReader}
use Rattle.page_decoder.specs.declared.file_reader.ChunkAtHand.{ChunkAtHand}
use Rattle.page_decoder.specs.declared.decoder.PageStep.{PageStep}
use Rattle.page_decoder.specs.Given.{Home, Given}
use Rattle.page_decoder.specs.PageRead.{Decoded, Left}
use Rattle.page_decoder.specs.ChunkData.{came}
use Rattle.page_decoder.specs.Acts.{Act, acts_of, close_in}
use Rattle.page_decoder.specs.Read.{On, counting, read, read_from, at_data}
use Rattle.page_decoder.specs.Needs.{Below}
use Rattle.page_decoder.specs.ActsTold.{OpenChunk, with_bytes, after_event, GoOnFrom}
use Rattle.page_decoder.specs.Kept.{Keeping}
use Rattle.page_decoder.specs.Opened.{Opens, decisions_of}
use Rattle.page_decoder.specs.FileReading.{HoldsChunk, HasOpened, reached, decisions_in, decisions_at_hand, IsWalking, StandsAt, Answers, Moves, ComesTo, IsTold}
use Rattle.page_decoder.specs.FileSteps.{TakesData, MayLackMemory}
use Rattle.page_decoder.proofs.Further.{Grows}
use Rattle.page_decoder.proofs.ActsByEvents.{before_data}
use Rattle.page_decoder.proofs.Sounding.{Container, data_sound, within_size}
use Rattle.page_decoder.proofs.Answering.{memory_answer, ticks_within}
use Rattle.page_decoder.proofs.Eventing.{given_acts, left_below, reads_within}
use Rattle.page_decoder.proofs.Retaining.{from_below, after_below, outcome_below}

-- with more data no fewer decisions are determined
few_more : (less more count : ℕ) → less ≤ more → count ≤ ticked less 0 → count ≤ ticked more 0
few_more less more count h c = let w = ticks_within less more h in omega (arith, w, c)

module _ (given : Given) (rest used : List ℕ) (reader after : FileReader) (law : Container) (grows : Grows given.home.table) where
  -- what is at hand behind more data
  holds_more : (t : IsTold given rest event.Data used reader) (told : Option OpenChunk) (chunk : Option ChunkAtHand) → t.so_far.chunk ≡ told
      → GoOnFrom t.so_far.acts (with_bytes used told) (acts_of (chunks_of given.bytes))
      → HoldsChunk t.now.home.table told chunk t.left.decoded reader.kept → TakesData used chunk after.chunk
      → HoldsChunk t.now.home.table (with_bytes used told) after.chunk t.left.decoded reader.kept
  holds_more t None None e g h d = by after.chunk d
    where
      by : (now : Option ChunkAtHand) → TakesData used None now → HoldsChunk t.now.home.table None now t.left.decoded reader.kept
      by None d = h
      by (Some now) d = absurd d
  holds_more t None (Some chunk) e g h d = absurd h
  holds_more t (Some told) None e g h d = absurd h
  holds_more t (Some told) (Some chunk) e g h d = by after.chunk d
    where
      by : (now : Option ChunkAtHand) → TakesData used (Some chunk) now
          → HoldsChunk t.now.home.table (Some (record { head = told.head; bytes = told.bytes ++ used })) now t.left.decoded reader.kept
      by None d = absurd d
      by (Some now) d =
          let sound = data_sound law given.bytes t.so_far.acts g.2 told.head (data_of ((told.bytes ++ used) ++ g.0) g.1) g.3 in
          let room = within_size (told.bytes ++ used) g.0 g.1 told.head.size sound in
          let sizes = length-append told.bytes used in
          let count = h.opens.count in
          let opens = subst (λ x. Opens t.now.home.table x t.left.decoded told.bytes reader.kept chunk.opened) (sym h.head_is) h.opens in
          let more = d.opens t.now.home.table t.left.decoded told.bytes reader.kept opens (omega (arith, room, sizes, count)) in
          let head : now.head ≡ told.head = d.head_is ∙ h.head_is in
          let table : t.now.home.table ≡ given.home.table = ap (λ x. x.table) t.within.home in
          let decisions = (subst Grows (sym table) grows).more_data told.head told.bytes used false t.left.decoded in
          record {
            head_is = head;
            opens = subst (λ x. Opens t.now.home.table x t.left.decoded (told.bytes ++ used) reader.kept now.opened) head more;
            few = few_more (came t.now.home.table told.head (data_of told.bytes false) t.left.decoded).decisions
                (came t.now.home.table told.head (data_of (told.bytes ++ used) false) t.left.decoded).decisions (decisions_of now.opened)
                decisions.decisions (subst (λ n. n ≤ ticked (came t.now.home.table told.head (data_of told.bytes false) t.left.decoded).decisions 0)
                (sym d.same) h.few);
          }

  pub data_moves : (t : IsTold given rest event.Data used reader) → after ≡ record reader { chunk = after.chunk } → TakesData used reader.chunk after.chunk
      → Moves given rest reader after
  data_moves t e d =
      let now : FileReader = record reader { chunk = after.chunk } in
      let goes = given_acts t.now given rest reader (after_event t.so_far (DataEvent used)) t.bytes_are t.walks in
      let walking : IsWalking t.now now = record {
        so_far = after_event t.so_far (DataEvent used);
        left = t.left;
        of = record { home_is = t.of.home_is; is_table = t.of.is_table; origin_is = t.of.origin_is; counts = t.of.counts };
        walks = t.walks;
        holds = record {
          on = on_more t.so_far.chunk t.holds.on;
          holds_chunk = holds_more t t.so_far.chunk reader.chunk refl goes t.holds.holds_chunk d;
          waits = t.holds.waits;
          decisions_are = t.holds.decisions_are;
          tallies = record {
            chunks_are = t.holds.tallies.chunks_are;
            drawn_are = t.holds.tallies.drawn_are;
            last_is = t.holds.tallies.last_is;
          };
        };
      } in
      subst (λ r. Moves given rest reader r) (sym e) (record {
        drawn = refl;
        stands = record {
          now = t.now;
          within = t.within;
          bytes_are = t.bytes_are;
          known_is = t.known_is;
          stands = subst (λ s. StandsAt t.now s now) (sym t.is_walking) walking;
        };
      })
    where
      on_more : (chunk : Option OpenChunk) → reached t.now.home t.now.known t.so_far.acts chunk ≡ On t.left
          → reached t.now.home t.now.known t.so_far.acts (with_bytes used chunk) ≡ On t.left
      on_more None o = o
      on_more (Some chunk) o = o

hand_most : (less more all opened before : ℕ) → less ≤ more → opened ≤ ticked less 0 → TicksExactly all 0 before → ticked opened before ≤ ticked (all + more) 0
hand_most less more all opened before h o b = grind (arith, common_steps)

none_most : (all before most : ℕ) → all ≤ most → TicksExactly all 0 before → ticked 0 before ≤ ticked most 0
none_most all before most h b = grind (arith, common_steps)

-- no more decisions were read than those that all that is given tells
pub hand_within : (given : Given) (acts : List Act) (told : Option OpenChunk) (left : Left) (reader : FileReader) → Grows given.home.table
    → GoOnFrom acts told (acts_of (chunks_of given.bytes)) → reached given.home given.known acts told ≡ On left
    → HoldsChunk given.home.table told reader.chunk left.decoded reader.kept → TicksExactly left.told.decisions 0 reader.decisions
    → decisions_in reader ≤ ticked (read given).left.told.decisions 0
hand_within given acts told left reader grows g on h n = by told reader.chunk refl refl
  where
    by : (t : Option OpenChunk) (c : Option ChunkAtHand) → told ≡ t → reader.chunk ≡ c → decisions_in reader ≤ ticked (read given).left.told.decisions 0
    by None None e f =
        let below = left_below given acts told left g on in
        subst (λ c. ticked (decisions_at_hand c) reader.decisions ≤ ticked (read given).left.told.decisions 0) (sym f)
        (none_most left.told.decisions reader.decisions (read given).left.told.decisions below.decisions n)
    by None (Some chunk) e f = absurd (subst (λ c. HoldsChunk given.home.table None c left.decoded reader.kept) f
        (subst (λ t. HoldsChunk given.home.table t reader.chunk left.decoded reader.kept) e h))
    by (Some open_now) None e f = absurd (subst (λ c. HoldsChunk given.home.table (Some open_now) c left.decoded reader.kept) f
        (subst (λ t. HoldsChunk given.home.table t reader.chunk left.decoded reader.kept) e h))
    by (Some open_now) (Some chunk) e f =
        let has : HasOpened given.home.table open_now chunk left.decoded reader.kept =
        subst (λ c. HoldsChunk given.home.table (Some open_now) c left.decoded reader.kept) f
        (subst (λ t. HoldsChunk given.home.table t reader.chunk left.decoded reader.kept) e h) in
        let goes = subst (λ t. GoOnFrom acts t (acts_of (chunks_of given.bytes))) e g in
        let there = subst (λ t. reached given.home given.known acts t ≡ On left) e on in
        let all = data_of (open_now.bytes ++ goes.0) goes.1 in
        let many = came given.home.table open_now.head all left.decoded in
        let few = came given.home.table open_now.head (data_of open_now.bytes false) left.decoded in
        let more = grows.more_data open_now.head open_now.bytes goes.0 goes.1 left.decoded in
        let close = close_in given.mark given.bytes in
        let next = read_from given.home given.known close goes.2 in
        let reads = reads_within given acts goes.2 open_now.head all left goes.3 there in
        let below : Below (counting many.decisions left).told (read given).left.told =
        subst (λ r. Below (counting many.decisions left).told r.left.told) (sym reads)
        (after_below (counting many.decisions left).told (at_data given.home open_now.head all left) next (from_below given.home given.known close goes.2)
        (outcome_below given.home open_now.head many.decisions many.outcome left)) in
        let most = hand_most few.decisions many.decisions left.told.decisions (decisions_of chunk.opened) reader.decisions more.decisions has.few n in
        let wide = ticks_within (left.told.decisions + many.decisions) (read given).left.told.decisions below.decisions in
        subst (λ c. ticked (decisions_at_hand c) reader.decisions ≤ ticked (read given).left.told.decisions 0) (sym f) (omega (arith, most, wide))

layers_held : (table : _) (told : Option OpenChunk) (chunk : Option ChunkAtHand) (decoded : Decoded) (kept : Keeping) → HoldsChunk table told chunk decoded kept
    → kept.layers ≡ decoded.layers
layers_held table None None decoded kept h = h.layers_are
layers_held table None (Some chunk) decoded kept h = absurd h
layers_held table (Some told) None decoded kept h = absurd h
layers_held table (Some told) (Some chunk) decoded kept h = h.opens.layers_are

pub data_comes : (given : Given) (rest used : List ℕ) (reader after : FileReader) → Container → Grows given.home.table
    → IsTold given rest event.Data used reader → after ≡ record reader { chunk = after.chunk } → (answer : Option PageStep) → MayLackMemory answer
    → (answer ≡ None → TakesData used reader.chunk after.chunk) → decisions_in after ≡ decisions_in reader → ComesTo given rest answer reader after
data_comes given rest used reader after law grows t e None m d n = data_moves given rest used reader after law grows t e (d refl)
data_comes given rest used reader after law grows t e (Some stop) m d n =
    let goes = before_data t.so_far.acts t.so_far.chunk used (acts_of (chunks_of given.bytes))
    (given_acts t.now given rest reader (after_event t.so_far (DataEvent used)) t.bytes_are t.walks) in
    let on = subst (λ h. reached h given.known t.so_far.acts t.so_far.chunk ≡ On t.left) t.within.home
    (subst (λ k. reached t.now.home k t.so_far.acts t.so_far.chunk ≡ On t.left) t.known_is t.holds.on) in
    let held = subst (λ (h : Home). HoldsChunk h.table t.so_far.chunk reader.chunk t.left.decoded reader.kept) t.within.home t.holds.holds_chunk in
    let within = hand_within given t.so_far.acts t.so_far.chunk t.left reader grows goes on held t.holds.decisions_are in
    let below = left_below given t.so_far.acts t.so_far.chunk t.left goes on in
    let layers = ap (λ (r : FileReader). r.kept.layers) e ∙ layers_held given.home.table t.so_far.chunk reader.chunk t.left.decoded reader.kept held
    ∙ t.holds.tallies.last_is in
    subst (λ x. Answers given rest x reader after) (sym m)
    (memory_answer given rest reader after t.left.told (read given).left.told.decisions below.drawings (omega arith) t.holds.tallies.drawn_are
    (ap (λ (r : FileReader). r.drawn) e) (subst (λ k. k ≤ ticked (read given).left.told.decisions 0) (sym n) within) layers)
