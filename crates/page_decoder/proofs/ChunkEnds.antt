-- What the reader of a file comes to at the end of a chunk.
use Rattle.std.proofs.Common.{◌≡◌, ◌≢◌, ◌≤◌, ◌<◌, ◌+◌, ◌-◌, ◌^◌, ℕ, suc, min, true, false, Option, Some, None, List, [], ◌∷◌, ◌++◌, length, refl, sym, ap, ◌∙◌, subst, arith, append_assoc}
use Rattle.std.proofs.lemmas.Bool.{true≢false}
use Rattle.std.proofs.lemmas.List.{append-nil, length-append}
use Rattle.djvu_base.specs.declared.faults.FaultKind.{FaultKind}
use Rattle.djvu_base.specs.Announced.{Announced}
use Rattle.djvu_base.specs.Meter.{ticked, TicksExactly}
use Rattle.zp_table.specs.declared.rows.Row.{Row}
use Rattle.iff_chunks.specs.declared.walker.WalkStep.TheVariants as event
use Rattle.iff_chunks.specs.Events.{ChunkEnd}
use Rattle.iff_chunks.specs.Chunks.{chunks_of}
use Rattle.include_graph.specs.Verdicts.{fault_at}
use Rattle.iw44_image.specs.Layer.{Data, data_of}
use Rattle.page_decoder.specs.declared.file_reader.FileReader.{FileReader}
use Rattle.page_decoder.specs.declared.file_reader.ChunkAtHand.{ChunkAtHand}
use Rattle.page_decoder.specs.declared.decoder.PageStep.{PageStep}
use Rattle.page_decoder.specs.declared.decoder.PageStep.TheVariants as step
use Rattle.page_decoder.specs.declared.closing.ChunkCame.{ChunkCame}
use Rattle.page_decoder.specs.declared.closing.ChunkCame.TheVariants as came
use Rattle.page_decoder.specs.Kinds.{ChunkKind, kind_of, brings_drawing}
use Rattle.page_decoder.specs.Kinds as kind
use Rattle.page_decoder.specs.Given.{Home, Given, Front}
use Rattle.page_decoder.specs.PageRead.{Drawing, notice_of, last_layers, Decoded, Left, at_start}
use Rattle.page_decoder.specs.Headers.{Head, header_fault}
use Rattle.page_decoder.specs.ChunkData.{Leaves, Fails, Came, came as data_came, with_include}
use Rattle.page_decoder.specs.Acts.{Act, Reads, acts_of, close_in}
use Rattle.page_decoder.specs.Read.{On, and_then, after, counting, refused_at, with_chunk, drawing_of, drawing_by, at_header, at_outcome, at_data, at_act, step_through, read_from, read}
use Rattle.page_decoder.specs.Needs.{Below}
use Rattle.page_decoder.specs.ActsTold.{OpenChunk, acts_so}
use Rattle.page_decoder.specs.Resolving.{Resolving, Waits}
use Rattle.page_decoder.specs.Kept.{Keeps}
use Rattle.page_decoder.specs.Opened.{Opens, Closes, ClosesTo, Draws, LayersStay, announced}
use Rattle.page_decoder.specs.FileReading.{Walks, HoldsChunk, reached, decisions_in, IsWalking, StandsAt, StandsBefore, Answers, Moves, ComesTo, IsTold}
use Rattle.page_decoder.specs.FileSteps.{HasClosed, HasLeft, Adds}
use Rattle.page_decoder.proofs.ChunkCounts.{none_drawn, one_drawn, both_ticks, both_within, counted, small}
use Rattle.page_decoder.proofs.ResolveSteps.{waits_along, waits_with}
use Rattle.page_decoder.proofs.Leaving.{Brings, brings}
use Rattle.page_decoder.proofs.Retaining.{from_below, outcome_below, after_below}
use Rattle.page_decoder.proofs.Numbering.{number_below}
use Rattle.page_decoder.proofs.Showing.{shows_on}
use Rattle.page_decoder.proofs.Onward.{first_on, through_last}
use Rattle.page_decoder.proofs.Sounding.{Container, data_sound}
use Rattle.page_decoder.proofs.Bounded.{FewChunks, few_acts, few_drawings, chunks_reached}
use Rattle.page_decoder.proofs.Answering.{ends_answer, memory_answer, drew_answer}
use Rattle.page_decoder.proofs.Eventing.{given_acts, reads_within, none_more, ticked_same}

-- ---- what other chunks leave of includes

same_includes : (of : ChunkKind) (table : List Row) (data_ : Data) (offset : ℕ) (before after : Decoded) → of ≢ kind.Include
    → Brings of table data_ offset before after → (before.inherited ≡ after.inherited) × (before.pending ≡ after.pending)
same_includes kind.Info table data_ offset before after n b = (ap (λ (d : Decoded). d.inherited) (sym b.3), ap (λ (d : Decoded). d.pending) (sym b.3))
same_includes kind.Include table data_ offset before after n b = absurd (n refl)
same_includes kind.Dictionary table data_ offset before after n b = (ap (λ (d : Decoded). d.inherited) (sym b.1), ap (λ (d : Decoded). d.pending) (sym b.1))
same_includes kind.Mask table data_ offset before after n b = (ap (λ (d : Decoded). d.inherited) (sym b.3), ap (λ (d : Decoded). d.pending) (sym b.3))
same_includes kind.Front table data_ offset before after n b = (ap (λ (d : Decoded). d.inherited) (sym b.3), ap (λ (d : Decoded). d.pending) (sym b.3))
same_includes kind.Back table data_ offset before after n b = (ap (λ (d : Decoded). d.inherited) (sym b.4), ap (λ (d : Decoded). d.pending) (sym b.4))
same_includes kind.Refused table data_ offset before after n b = (ap (λ (d : Decoded). d.inherited) (sym b), ap (λ (d : Decoded). d.pending) (sym b))
same_includes kind.Passed table data_ offset before after n b = (ap (λ (d : Decoded). d.inherited) (sym b), ap (λ (d : Decoded). d.pending) (sym b))

-- ---- the chunk that ends

-- a chunk whose end was told, with all its data
pub record IsEnded (given : Given) (reader : FileReader) (chunk : ChunkAtHand) (now : Given) (acts : List Act) (left : Left) : Type 0 where
  pub bytes : List ℕ
  pub opens : Opens now.home.table chunk.head left.decoded bytes reader.kept chunk.opened
  pub whole : length bytes ≡ chunk.head.size
  pub others : List Act
  pub all : acts_of (chunks_of given.bytes) ≡ acts ++ Reads chunk.head (data_of bytes true) ∷ others
  pub on : and_then (step_through now.home now.known acts at_start)
      (λ x. at_header now.home now.known chunk.head (header_fault now.home.role x chunk.head) x) ≡ On left
  pub walks : Walks now reader.walker (record { acts = acts ++ Reads chunk.head (data_of bytes true) ∷ []; chunk = None })
  pub few : left.chunks < 2 ^ 31
  pub drawn : length left.told.drawings < 2 ^ 31

module _ (given : Given) (rest used : List ℕ) (reader : FileReader) (law : Container) (limits : FewChunks) where
  ended_so : (t : IsTold given rest event.ChunkEnd used reader) (chunk : ChunkAtHand) (told : Option OpenChunk) → t.so_far.chunk ≡ told
      → Walks t.now reader.walker (record { acts = t.so_far.acts ++ acts_so true told; chunk = None })
      → reached t.now.home t.now.known t.so_far.acts told ≡ On t.left
      → HoldsChunk t.now.home.table told (Some chunk) t.left.decoded reader.kept → IsEnded given reader chunk t.now t.so_far.acts t.left
  ended_so t chunk None e w on h = absurd h
  ended_so t chunk (Some told) e w on h =
      let g = given_acts t.now given rest reader (record { acts = t.so_far.acts ++ Reads told.head (data_of told.bytes true) ∷ []; chunk = None })
      t.bytes_are w in
      let all : acts_of (chunks_of given.bytes) ≡ t.so_far.acts ++ Reads told.head (data_of told.bytes true) ∷ g.0 =
      g.1 ∙ append_assoc t.so_far.acts (Reads told.head (data_of told.bytes true) ∷ []) g.0 in
      let count = few_acts law limits given.bytes t.so_far.acts (Reads told.head (data_of told.bytes true) ∷ g.0) all in
      let chunks = chunks_reached t.now.home t.now.known t.so_far.acts (Some told) t.left on in
      let drawings = few_drawings t.now.home t.now.known t.so_far.acts (Some told) t.left on in
      record {
        bytes = told.bytes;
        opens = subst (λ x. Opens t.now.home.table x t.left.decoded told.bytes reader.kept chunk.opened) (sym h.head_is) h.opens;
        whole = data_sound law given.bytes t.so_far.acts g.0 told.head (data_of told.bytes true) all ∙ ap (λ (x : Head). x.size) (sym h.head_is);
        others = g.0;
        all = subst (λ x. acts_of (chunks_of given.bytes) ≡ t.so_far.acts ++ Reads x (data_of told.bytes true) ∷ g.0) (sym h.head_is) all;
        on = subst (λ x. and_then (step_through t.now.home t.now.known t.so_far.acts at_start)
            (λ y. at_header t.now.home t.now.known x (header_fault t.now.home.role y x) y) ≡ On t.left) (sym h.head_is) on;
        walks = subst (λ x. Walks t.now reader.walker (record { acts = t.so_far.acts ++ Reads x (data_of told.bytes true) ∷ []; chunk = None }))
            (sym h.head_is) w;
        few = omega (arith, count, chunks);
        drawn = omega (arith, count, chunks, drawings);
      }

  module _ (t : IsTold given rest event.ChunkEnd used reader) (chunk : ChunkAtHand) (e : IsEnded given reader chunk t.now t.so_far.acts t.left)
      (answer : Option PageStep) (next : FileReader) (h : HasClosed chunk answer (record reader { chunk = None }) next) where
    abbrev it : Came
    it = data_came t.now.home.table chunk.head (data_of e.bytes true) t.left.decoded

    closes : ClosesTo h.closed (min (reader.chunks + 1) (2 ^ 32 - 1)) t.now.home.table chunk.head t.left.decoded it next.kept
    closes = h.closes t.now.home.table t.left.decoded e.bytes e.opens e.whole

  module _ (t : IsTold given rest event.ChunkEnd used reader) (chunk : ChunkAtHand) (e : IsEnded given reader chunk t.now t.so_far.acts t.left)
      (answer : Option PageStep) (next : FileReader) (h : HasClosed chunk answer (record reader { chunk = None }) next) (none : next.chunk ≡ None)
      (stays : next ≡ record reader {
        chunk = None;
        kept = next.kept;
        includes = next.includes;
        chunks = next.chunks;
        drawn = next.drawn;
        decisions = next.decisions;
      }) where
    abbrev mine : Came
    mine = it t chunk e answer next h

    abbrev data_here : Data
    data_here = data_of e.bytes true

    -- all that is given is read on from the chunk's outcome
    reads : read given ≡ after (at_outcome given.home chunk.head mine.decisions mine.outcome t.left)
        (read_from given.home given.known (close_in given.mark given.bytes) e.others)
    reads =
        let on = subst (λ x. and_then (step_through t.now.home x t.so_far.acts at_start)
        (λ y. at_header t.now.home x chunk.head (header_fault t.now.home.role y chunk.head) y) ≡ On t.left) t.known_is e.on in
        let on_given = subst (λ x. and_then (step_through x given.known t.so_far.acts at_start)
        (λ y. at_header x given.known chunk.head (header_fault x.role y chunk.head) y) ≡ On t.left) t.within.home on in
        reads_within given t.so_far.acts e.others chunk.head data_here t.left e.all on_given
        ∙ ap (λ (x : Home). after (at_outcome given.home chunk.head (data_came x.table chunk.head data_here t.left.decoded).decisions
        (data_came x.table chunk.head data_here t.left.decoded).outcome t.left)
        (read_from given.home given.known (close_in given.mark given.bytes) e.others)) (sym t.within.home)

    total : next.decisions ≡ ticked h.closed.decisions reader.decisions → h.closed.came ≢ came.OutOfMemory
        → TicksExactly (t.left.told.decisions + mine.decisions) 0 next.decisions
    total d n =
        both_ticks mine.decisions t.left.told.decisions h.closed.decisions reader.decisions next.decisions
        ((closes t chunk e answer next h).all n) t.holds.decisions_are d

    -- all decisions are those of complete chunks
    none_open : (all : ℕ) → TicksExactly all 0 next.decisions → TicksExactly all 0 (decisions_in next)
    none_open all d = none_more next none ∙ ticked_same all next.decisions d ∙ d

    abbrev here : FileReader
    here = record reader {
      chunk = None;
      kept = next.kept;
      includes = next.includes;
      chunks = next.chunks;
      drawn = next.drawn;
      decisions = next.decisions;
    }

    -- the reader stands behind the chunk
    stands_next : (decoded : Decoded) → mine.outcome ≡ Leaves decoded → Keeps t.now.home.table decoded next.kept
        → Waits t.now.home t.now.known decoded next.includes → next.chunks ≡ suc t.left.chunks
        → next.drawn ≡ length (with_chunk chunk.head mine.decisions decoded t.left).told.drawings
        → TicksExactly (t.left.told.decisions + mine.decisions) 0 next.decisions → StandsBefore given rest next
    stands_next decoded leaves keeps waits chunks drawn count =
        let home = t.now.home in
        let known = t.now.known in
        let header = λ (x : Left). at_header home known chunk.head (header_fault home.role x chunk.head) x in
        let behind = with_chunk chunk.head mine.decisions decoded t.left in
        let parts = first_on (step_through home known t.so_far.acts at_start) header t.left e.on in
        let act : at_act home known (Reads chunk.head data_here) parts.0 ≡ On behind =
        ap (λ s. and_then s (at_data home chunk.head data_here)) parts.2 ∙ ap (λ o. at_outcome home chunk.head mine.decisions o t.left) leaves in
        let on : step_through home known (t.so_far.acts ++ Reads chunk.head data_here ∷ []) at_start ≡ On behind =
        through_last home known t.so_far.acts (Reads chunk.head data_here) at_start parts.0 behind parts.1 act in
        let walking : IsWalking t.now here = record {
          so_far = record { acts = t.so_far.acts ++ Reads chunk.head data_here ∷ []; chunk = None };
          left = behind;
          of = record { home_is = t.of.home_is; is_table = t.of.is_table; origin_is = t.of.origin_is; counts = t.of.counts };
          walks = e.walks;
          holds = record {
            on = on;
            holds_chunk = keeps;
            waits = waits;
            decisions_are = count;
            tallies = record {
              chunks_are = chunks;
              drawn_are = drawn;
              last_is = (shows_on home known (number_below home.names) (t.so_far.acts ++ Reads chunk.head data_here ∷ []) behind on).last;
            };
          };
        } in
        let stands : StandsAt t.now here.stage here = subst (λ s. StandsAt t.now s here) (sym t.is_walking) walking in
        record {
          now = t.now;
          within = t.within;
          bytes_are = t.bytes_are;
          known_is = t.known_is;
          stands = subst (λ r. StandsAt t.now r.stage r) (sym stays) stands;
        }

    file_is : given.home.file ≡ reader.file
    file_is = ap (λ (x : Home). x.file) (sym t.within.home ∙ t.of.home_is)

    chunks_so : min (reader.chunks + 1) (2 ^ 32 - 1) ≡ suc t.left.chunks
    chunks_so = counted reader.chunks t.left.chunks t.holds.tallies.chunks_are e.few

    -- nothing was laid
    unlaid : next.kept.layers ≡ reader.kept.layers → next.kept.layers ≡ last_layers t.left.told.drawings
    unlaid l = l ∙ e.opens.layers_are ∙ t.holds.tallies.last_is

    -- data that fail
    fails : (wrong : FaultKind) → mine.outcome ≡ Fails wrong → next.drawn ≡ reader.drawn → next.kept.layers ≡ reader.kept.layers
        → TicksExactly (t.left.told.decisions + mine.decisions) 0 next.decisions
        → Answers given rest (step.Refused (fault_at wrong reader.file chunk.head.offset)) reader next
    fails wrong o d l n =
        let found : read given ≡ record { left = counting mine.decisions t.left; end = refused_at given.home wrong chunk.head.offset } =
        reads ∙ ap (λ x. after (at_outcome given.home chunk.head mine.decisions x t.left)
        (read_from given.home given.known (close_in given.mark given.bytes) e.others)) o in
        subst (λ m. Answers given rest (step.Refused (fault_at wrong m chunk.head.offset)) reader next) file_is
        (ends_answer given rest reader next (counting mine.decisions t.left) (refused_at given.home wrong chunk.head.offset) found
        t.holds.tallies.drawn_are d (none_open (t.left.told.decisions + mine.decisions) n) (unlaid l) (λ w. absurd (cc)) (λ w. absurd w))

    -- what all that is given tells is no less than the chunk's decisions
    told_more : Below (counting mine.decisions t.left).told (read given).left.told
    told_more =
        let close = close_in given.mark given.bytes in
        subst (λ r. Below (counting mine.decisions t.left).told r.left.told) (sym reads)
        (after_below (counting mine.decisions t.left).told (at_outcome given.home chunk.head mine.decisions mine.outcome t.left)
        (read_from given.home given.known close e.others) (from_below given.home given.known close e.others)
        (outcome_below given.home chunk.head mine.decisions mine.outcome t.left))

    -- there was no memory
    lacks : next.drawn ≡ reader.drawn → next.kept.layers ≡ reader.kept.layers → next.decisions ≡ ticked h.closed.decisions reader.decisions
        → Answers given rest step.OutOfMemory reader next
    lacks d l n =
        let most : next.decisions ≤ ticked (t.left.told.decisions + mine.decisions) 0 =
        both_within mine.decisions t.left.told.decisions h.closed.decisions reader.decisions next.decisions
        (closes t chunk e answer next h).at_most t.holds.decisions_are n in
        let alone : decisions_in next ≡ next.decisions = none_more next none ∙ small next.decisions (t.left.told.decisions + mine.decisions) most in
        memory_answer given rest reader next t.left.told (t.left.told.decisions + mine.decisions) told_more.drawings told_more.decisions
        t.holds.tallies.drawn_are d (subst (λ k. k ≤ ticked (t.left.told.decisions + mine.decisions) 0) (sym alone) most) (unlaid l)

    -- the chunk brings a drawing
    draws : (notice : Announced) → Draws notice (min (reader.chunks + 1) (2 ^ 32 - 1)) t.now.home.table chunk.head mine.outcome next.kept
        → next.chunks ≡ min (reader.chunks + 1) (2 ^ 32 - 1) → next.drawn ≡ min (reader.drawn + 1) (2 ^ 32 - 1)
        → next.includes ≡ reader.includes → TicksExactly (t.left.told.decisions + mine.decisions) 0 next.decisions
        → Answers given rest (step.Drew notice) reader next
    draws notice d chunks drawn includes n =
        let all = t.left.told.decisions + mine.decisions in
        let one = one_drawn (kind_of chunk.head.id) (suc t.left.chunks) all d.decoded.layers d.brings in
        let drawing : Drawing = record { chunks = suc t.left.chunks; decisions = all; layers = d.layers } in
        let new : drawing_by (kind_of chunk.head.id) (suc t.left.chunks) all d.decoded.layers ≡ drawing ∷ [] =
        one.0 ∙ ap (drawing_of (suc t.left.chunks) all) d.sized in
        let behind = with_chunk chunk.head mine.decisions d.decoded t.left in
        let told : behind.told.drawings ≡ t.left.told.drawings ++ drawing ∷ [] = ap (λ x. t.left.told.drawings ++ x) new in
        let close = close_in given.mark given.bytes in
        let found : read given ≡ read_from given.home given.known close e.others behind =
        reads ∙ ap (λ x. after (at_outcome given.home chunk.head mine.decisions x t.left) (read_from given.home given.known close e.others)) d.leaves in
        let below : Below behind.told (read given).left.told =
        subst (λ r. Below behind.told r.left.told) (sym found) (from_below given.home given.known close e.others behind) in
        let front = subst (λ x. Front x (read given).left.told.drawings) told below.drawings in
        let seen : next.drawn ≡ suc reader.drawn =
        drawn ∙ counted reader.drawn (length t.left.told.drawings) t.holds.tallies.drawn_are e.drawn ∙ ap suc (sym t.holds.tallies.drawn_are) in
        let size : length behind.told.drawings ≡ suc (length t.left.told.drawings) =
        let sizes = length-append t.left.told.drawings (drawing ∷ []) in let same = ap length told in omega (arith, sizes, same) in
        let same = same_includes (kind_of chunk.head.id) t.now.home.table data_here chunk.head.offset t.left.decoded d.decoded one.1
        (brings (kind_of chunk.head.id) t.now.home.table data_here chunk.head.offset t.left.decoded d.decoded d.leaves) in
        let waits : Waits t.now.home t.now.known d.decoded next.includes =
        subst (λ x. Waits t.now.home t.now.known d.decoded x) (sym includes)
        (waits_along t.now.home t.now.known t.left.decoded d.decoded reader.includes same.0 same.1 t.holds.waits) in
        let stands = stands_next d.decoded d.leaves d.keeps waits (chunks ∙ chunks_so)
        (seen ∙ ap suc t.holds.tallies.drawn_are ∙ sym size) n in
        let notice_so : notice_of drawing ≡ notice = ap (λ k. announced k d.layers) (sym chunks_so) ∙ sym d.notice_is in
        subst (λ x. Answers given rest (step.Drew x) reader next) notice_so
        (drew_answer given rest reader next t.left.told.drawings drawing front below.decisions t.holds.tallies.drawn_are seen (none_open all n)
        (d.keeps.layers_are ∙ d.sized) stands)

    -- the chunk brings none
    moves : (decoded : Decoded) → mine.outcome ≡ Leaves decoded → Keeps t.now.home.table decoded next.kept → brings_drawing (kind_of chunk.head.id) ≡ false
        → Waits t.now.home t.now.known decoded next.includes → next.chunks ≡ min (reader.chunks + 1) (2 ^ 32 - 1) → next.drawn ≡ reader.drawn
        → TicksExactly (t.left.told.decisions + mine.decisions) 0 next.decisions → Moves given rest reader next
    moves decoded leaves keeps brings_none waits chunks drawn n =
        let all = t.left.told.decisions + mine.decisions in
        let new = none_drawn (kind_of chunk.head.id) (suc t.left.chunks) all decoded.layers brings_none in
        let told : (with_chunk chunk.head mine.decisions decoded t.left).told.drawings ≡ t.left.told.drawings =
        ap (λ x. t.left.told.drawings ++ x) new ∙ append-nil t.left.told.drawings in
        record {
          drawn = drawn;
          stands = stands_next decoded leaves keeps waits (chunks ∙ chunks_so) (drawn ∙ t.holds.tallies.drawn_are ∙ sym (ap length told)) n;
        }

  -- behind a chunk that was closed nothing else changed
  abbrev closed_with : FileReader → Resolving → ℕ → ℕ → FileReader
  closed_with next includes chunks drawn = record reader {
    chunk = None;
    kept = next.kept;
    includes = includes;
    chunks = chunks;
    drawn = drawn;
    decisions = next.decisions;
  }

  stays_so : (next : FileReader) (includes : Resolving) (chunks drawn : ℕ) → next ≡ closed_with next includes chunks drawn
      → next ≡ closed_with next next.includes next.chunks next.drawn
  stays_so next includes chunks drawn e =
      e ∙ ap (λ i. closed_with next i chunks drawn) (sym (ap (λ (r : FileReader). r.includes) e))
      ∙ ap (λ k. closed_with next next.includes k drawn) (sym (ap (λ (r : FileReader). r.chunks) e))
      ∙ ap (λ d. closed_with next next.includes next.chunks d) (sym (ap (λ (r : FileReader). r.drawn) e))

  abbrev n : ℕ
  n = min (reader.chunks + 1) (2 ^ 32 - 1)

  abbrev before_it : FileReader → FileReader
  before_it next = record reader { chunk = None; kept = next.kept; decisions = next.decisions }

  -- the chunk at hand was closed at its end
  pub chunk_comes : (t : IsTold given rest event.ChunkEnd used reader) (chunk : ChunkAtHand) → reader.chunk ≡ Some chunk → (answer : Option PageStep)
      (next : FileReader) → HasClosed chunk answer (record reader { chunk = None }) next → ComesTo given rest answer reader next
  chunk_comes t chunk at_hand answer next h =
      by h.closed.came refl h.has_left (closes t chunk e answer next h).closes h.layers_stay
    where
      e : IsEnded given reader chunk t.now t.so_far.acts t.left
      e = ended_so t chunk t.so_far.chunk refl t.walks t.holds.on
          (subst (λ c. HoldsChunk t.now.home.table t.so_far.chunk c t.left.decoded reader.kept) at_hand t.holds.holds_chunk)

      adds : (name : List ℕ) → h.closed.came ≡ came.Include name → (a : Option PageStep) → answer ≡ a
          → Adds (record { name = name; offset = chunk.head.offset }) n a (before_it next) next
          → Closes (came.Include name) n t.now.home.table chunk.head t.left.decoded (it t chunk e answer next h).outcome next.kept
          → next.kept.layers ≡ reader.kept.layers → ComesTo given rest a reader next
      adds name c None a l closes l_stays =
          let stays = stays_so next _ n reader.drawn l in
          let none : next.chunk ≡ None = ap (λ (r : FileReader). r.chunk) l in
          let waits = subst (λ x. Waits t.now.home t.now.known (with_include name chunk.head.offset t.left.decoded) x)
          (sym (ap (λ (r : FileReader). r.includes) l))
          (waits_with t.now.home t.now.known t.left.decoded (record { name = name; offset = chunk.head.offset }) reader.includes t.holds.waits) in
          moves t chunk e answer next h none stays (with_include name chunk.head.offset t.left.decoded) closes.leaves closes.keeps
          (ap brings_drawing closes.is_kind) waits (ap (λ (r : FileReader). r.chunks) l) (ap (λ (r : FileReader). r.drawn) l)
          (total t chunk e answer next h none stays h.decisions_are (λ o. absurd (clash name (sym c ∙ o))))
        where
          clash : (name : List ℕ) → came.Include name ≡ came.OutOfMemory → ⊥
          clash name o = cc
      adds name c (Some stop) a l closes l_stays =
          let stays = stays_so next reader.includes reader.chunks reader.drawn l.1 in
          subst (λ x. Answers given rest x reader next) (sym l.0)
          (lacks t chunk e answer next h (ap (λ (r : FileReader). r.chunk) l.1) stays (ap (λ (r : FileReader). r.drawn) l.1) l_stays h.decisions_are)

      by : (c : ChunkCame) → h.closed.came ≡ c → HasLeft chunk.head n c answer (before_it next) next
          → Closes c n t.now.home.table chunk.head t.left.decoded (it t chunk e answer next h).outcome next.kept
          → LayersStay c reader.kept.layers next.kept.layers → ComesTo given rest answer reader next
      by (came.Drew notice) c l d s =
          let stays = stays_so next reader.includes n (min (reader.drawn + 1) (2 ^ 32 - 1)) l.1 in
          let none : next.chunk ≡ None = ap (λ (r : FileReader). r.chunk) l.1 in
          subst (λ x. ComesTo given rest x reader next) (sym l.0)
          (draws t chunk e answer next h none stays notice d (ap (λ (r : FileReader). r.chunks) l.1) (ap (λ (r : FileReader). r.drawn) l.1)
          (ap (λ (r : FileReader). r.includes) l.1) (total t chunk e answer next h none stays h.decisions_are (λ o. let w = sym c ∙ o in cc)))
      by came.Left c l d s =
          let stays = stays_so next reader.includes n reader.drawn l.1 in
          let none : next.chunk ≡ None = ap (λ (r : FileReader). r.chunk) l.1 in
          let same = same_includes (kind_of chunk.head.id) t.now.home.table (data_of e.bytes true) chunk.head.offset t.left.decoded d.decoded d.others
          (brings (kind_of chunk.head.id) t.now.home.table (data_of e.bytes true) chunk.head.offset t.left.decoded d.decoded d.leaves) in
          let waits : Waits t.now.home t.now.known d.decoded next.includes =
          subst (λ x. Waits t.now.home t.now.known d.decoded x) (sym (ap (λ (r : FileReader). r.includes) l.1))
          (waits_along t.now.home t.now.known t.left.decoded d.decoded reader.includes same.0 same.1 t.holds.waits) in
          subst (λ x. ComesTo given rest x reader next) (sym l.0)
          (moves t chunk e answer next h none stays d.decoded d.leaves d.keeps d.brings waits (ap (λ (r : FileReader). r.chunks) l.1)
          (ap (λ (r : FileReader). r.drawn) l.1) (total t chunk e answer next h none stays h.decisions_are (λ o. let w = sym c ∙ o in cc)))
      by (came.Include name) c l d s = adds name c answer refl l d s
      by (came.Refused wrong) c l d s =
          let stays = stays_so next reader.includes reader.chunks reader.drawn l.1 in
          let none : next.chunk ≡ None = ap (λ (r : FileReader). r.chunk) l.1 in
          subst (λ x. ComesTo given rest x reader next) (sym l.0)
          (fails t chunk e answer next h none stays wrong d (ap (λ (r : FileReader). r.drawn) l.1) s
          (total t chunk e answer next h none stays h.decisions_are (λ o. let w = sym c ∙ o in cc)))
      by came.OutOfMemory c l d s =
          let stays = stays_so next reader.includes reader.chunks reader.drawn l.1 in
          let none : next.chunk ≡ None = ap (λ (r : FileReader). r.chunk) l.1 in
          subst (λ x. ComesTo given rest x reader next) (sym l.0)
          (lacks t chunk e answer next h none stays (ap (λ (r : FileReader). r.drawn) l.1) s h.decisions_are)
