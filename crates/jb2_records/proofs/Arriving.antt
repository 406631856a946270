-- Bytes that arrive, and a chunk's end: where a coder stands stays so.
use Rattle.std.proofs.Common.{◌≡◌, ℕ, ℤ, Bool, false, true, List, [], ◌∷◌, ◌++◌, length, refl, sym, ap, subst, ◌∙◌}
use Rattle.std.specs.Prelude.{Option, Result, Ok, Err, OnOk}
use Rattle.std.proofs.lemmas.List.{append-nil, append_assoc}
use Rattle.zp_table.specs.declared.rows.Row.{Row}
use Rattle.zp_table.specs.Rows.{IsTable}
use Rattle.djvu_base.specs.Meter.{ticked}
use Rattle.zp_decoder.specs.Decision.{Interval}
use Rattle.zp_decoder.specs.Runs.{IsStanding}
use Rattle.zp_decoder.specs.Decoder.{Decoder, Fed, is_all}
use Rattle.zp_decoder.specs.Chunk.{Chunk, chunk}
use Rattle.bit_plane.specs.Pixels.{Pixels}
use Rattle.jb2_numbers.specs.Kept.{Numbers, states_of}
use Rattle.jb2_numbers.specs.Contexts.{Name}
use Rattle.jb2_numbers.specs.Number.{Wanted, wanted}
use Rattle.jb2_numbers.specs.Reader.{Reader}
use Rattle.zp_decoder.specs.States.{States}
use Rattle.jb2_shapes.specs.Numbers as cells
use Rattle.jb2_shapes.specs.Numbers.{Cells}
use Rattle.jb2_shapes.specs.Shape.{Sketch, Progress, progress, empty_sketch}
use Rattle.jb2_records.specs.Coding.{Coder}
use Rattle.jb2_records.specs.Growth.{IsSound}
use Rattle.jb2_records.specs.Taking.{Unread, Feeds, Takes, with_bytes, Becomes, stays, grows, Pends, context_of, DrawsOn}
use Rattle.jb2_records.specs.Telling.{Parts, Grows}
use Rattle.jb2_records.proofs.Offering.{becomes_after, standing_more}

-- what a decoder and the bytes that it hasn't taken are of a chunk, they are of the one with this payload then
record Brings (source : Chunk) (payload : List ℕ) (ended : Bool) (old new : Unread) (zp next : Decoder) : Type 0 where
  more : List ℕ
  longer : source.payload ++ more ≡ payload
  left : new.left ≡ old.left ++ more
  fed : (payload : List ℕ) (place : Option Interval) → Fed payload place zp → Fed payload place next
  table : next.table ≡ zp.table
  whole : new.ended ≡ ended
  becomes : (taken : List ℕ) → Becomes (chunk source.table taken zp.ended) (chunk source.table taken next.ended)
  feeds : Feeds new next

module _ (source : Chunk) (payload : List ℕ) (ended : Bool) (old new : Unread) (zp next : Decoder) (brings : Brings source payload ended old new zp next) where
  abbrev later : Chunk
  later = chunk source.table payload ended

  abbrev takes_on : (place : Option Interval) → Takes source place old zp → Takes later place new next
  takes_on place takes = record {
    taken = takes.taken;
    payload =
        ap (λ (l : List ℕ). takes.taken ++ l) brings.left ∙ sym (append_assoc takes.taken old.left brings.more)
        ∙ ap (λ (l : List ℕ). l ++ brings.more) takes.payload ∙ brings.longer;
    fed = brings.fed takes.taken place takes.fed;
    standing = takes.standing;
    table = brings.table ∙ takes.table;
    ended = brings.whole;
  }

  sound_on : (at : Coder) → IsSound source at → IsSound later at
  sound_on at sound = record {
    table = sound.table;
    standing = subst (λ (l : List ℕ). IsStanding (length l) at.place) brings.longer (standing_more source.payload brings.more at.place sound.standing);
    numbers = sound.numbers;
    pixels = sound.pixels;
    flag = sound.flag;
    row = sound.row;
  }

  pends_on : (wanted : Wanted) (before : ℕ) (states : Name → ℕ) (place : Option Interval) (reader : Reader) (contexts : Numbers) (count : ℕ) →
      Pends wanted source before states place reader contexts old zp count → Pends wanted later before states place reader contexts new next count
  pends_on wanted before states place reader contexts count pends =
      let there : Takes later pends.at.place new next = takes_on pends.at.place pends.takes in
      record {
        at = pends.at;
        takes = there;
        stands = record {
          reads = pends.stands.reads;
          states = pends.stands.states;
          fed = there.fed;
          table = there.table;
          ended = refl;
          ticks = pends.stands.ticks;
        };
        possible = pends.possible;
        ready = record { table = pends.ready.table; below = pends.ready.below; standing = pends.ready.standing };
        goes = λ last last_becomes.
            pends.goes last (becomes_after (chunk source.table pends.takes.taken zp.ended) (chunk source.table pends.takes.taken next.ended) last
            (brings.becomes pends.takes.taken) last_becomes);
      }

  draws_on : (context : Pixels → ℤ → ℤ → List Bool) (start : Progress) (sketch : Sketch) (states : States) →
      DrawsOn context source start sketch states old zp → DrawsOn context later start sketch states new next
  draws_on context start sketch states draws =
      let there : Takes later draws.place new next = takes_on draws.place draws.takes in
      record {
        place = draws.place;
        takes = there;
        ready = record { table = draws.ready.table; below = draws.ready.below; standing = draws.ready.standing };
        goes = λ last last_becomes.
            draws.goes last (becomes_after (chunk source.table draws.takes.taken zp.ended) (chunk source.table draws.takes.taken next.ended) last
            (brings.becomes draws.takes.taken) last_becomes);
      }

-- so where a coder stands in the one, it stands in the other
all_grows : (source : Chunk) (payload : List ℕ) (ended : Bool) (old new : Parts) → Brings source payload ended old.unread new.unread old.zp new.zp →
    new.numbers ≡ old.numbers → new.pixels ≡ old.pixels → new.flag ≡ old.flag → new.row ≡ old.row → new.count ≡ old.count →
    Grows source (chunk source.table payload ended) old new
all_grows source payload ended old new brings numbers pixels flag row count =
    let grown : Chunk = chunk source.table payload ended in
    record {
      stands = λ at stands. record {
        numbers = ap states_of numbers ∙ stands.numbers;
        pixels = ap cells.states_of pixels ∙ stands.pixels;
        flag = flag ∙ stands.flag;
        row = row ∙ stands.row;
        takes = takes_on source payload ended old.unread new.unread old.zp new.zp brings at.place stands.takes;
        count = count ∙ stands.count;
        sound = sound_on source payload ended old.unread new.unread old.zp new.zp brings at stands.sound;
      };
      number = λ root low high at reader half. record {
        bounds = half.bounds;
        pends =
            subst (λ (n : Numbers). Pends (wanted root low high) grown (ticked at.decisions 0) at.numbers at.place reader n new.unread new.zp new.count)
            (sym numbers)
            (subst (λ (n : ℕ). Pends (wanted root low high) grown (ticked at.decisions 0) at.numbers at.place reader old.numbers new.unread new.zp n)
            (sym count)
            (pends_on source payload ended old.unread new.unread old.zp new.zp brings (wanted root low high)
            (ticked at.decisions 0) at.numbers at.place reader old.numbers old.count half.pends));
        feeds = brings.feeds;
        pixels = ap cells.states_of pixels ∙ half.pixels;
        flag = flag ∙ half.flag;
        row = row ∙ half.row;
        sound = sound_on source payload ended old.unread new.unread old.zp new.zp brings at half.sound;
      };
      shape = λ matched width height at sketch half. record {
        draws =
            subst (λ (c : Cells). DrawsOn (context_of matched width height) grown (progress (empty_sketch width height) at.pixels at.place) sketch
            (cells.states_of c) new.unread new.zp)
            (sym pixels)
            (draws_on source payload ended old.unread new.unread old.zp new.zp brings (context_of matched width height)
            (progress (empty_sketch width height) at.pixels at.place) sketch (cells.states_of old.pixels) half.draws);
        feeds = brings.feeds;
        columns = half.columns;
        rows = half.rows;
        numbers = ap states_of numbers ∙ half.numbers;
        flag = flag ∙ half.flag;
        row = row ∙ half.row;
        count = count ∙ half.count;
        sound = sound_on source payload ended old.unread new.unread old.zp new.zp brings at half.sound;
      };
    }

unended : (left : List ℕ) → is_all left false ≡ false
unended [] = refl
unended (byte ∷ left) = refl

pushed_feeds : (piece : List ℕ) (old new : Unread) (zp next : Decoder) → Feeds old zp → old.ended ≡ false →
    new ≡ record { left = old.left ++ piece; ended = old.ended } → next ≡ zp → Feeds new next
pushed_feeds piece old new zp next feeds goes is same =
    let before : zp.ended ≡ false = feeds.told ∙ ap (λ (e : Bool). is_all old.left e) goes ∙ unended old.left in
    let after : is_all new.left new.ended ≡ false =
    ap (λ (u : Unread). is_all u.left u.ended) is ∙ ap (λ (e : Bool). is_all (old.left ++ piece) e) goes ∙ unended (old.left ++ piece) in
    record {
      table = subst (λ (z : Decoder). IsTable z.table) (sym same) feeds.table;
      told = ap (λ (z : Decoder). z.ended) same ∙ before ∙ sym after;
    }

-- a piece more, before the end
pushed : (piece : List ℕ) (old new : Parts) → Feeds old.unread old.zp → old.unread.ended ≡ false →
    new.unread ≡ record { left = old.unread.left ++ piece; ended = old.unread.ended } →
    new.zp ≡ old.zp → new.numbers ≡ old.numbers → new.pixels ≡ old.pixels → new.flag ≡ old.flag → new.row ≡ old.row → new.count ≡ old.count →
    (source : Chunk) → Grows source (with_bytes source piece false) old new
pushed piece old new feeds goes unread zp numbers pixels flag row count source =
    all_grows source (source.payload ++ piece) false old new
    (record {
      more = piece;
      longer = refl;
      left = ap (λ (u : Unread). u.left) unread;
      fed = λ payload place fed. subst (Fed payload place) (sym zp) fed;
      table = ap (λ (z : Decoder). z.table) zp;
      whole = ap (λ (u : Unread). u.ended) unread ∙ goes;
      becomes = λ taken. stays (ap (λ (z : Decoder). chunk source.table taken z.ended) zp);
      feeds = pushed_feeds piece old.unread new.unread old.zp new.zp feeds goes unread zp;
    }) numbers pixels flag row count

pub pushed_by : {T E : Type 0} (result : Result T E) (piece : List ℕ) (old new : Parts) → Feeds old.unread old.zp → old.unread.ended ≡ false →
    OnOk result (new.unread ≡ record { left = old.unread.left ++ piece; ended = old.unread.ended }) → new.zp ≡ old.zp → new.numbers ≡ old.numbers →
    new.pixels ≡ old.pixels → new.flag ≡ old.flag → new.row ≡ old.row → new.count ≡ old.count →
    OnOk result ((source : Chunk) → Grows source (with_bytes source piece false) old new)
pushed_by (Ok value) piece old new feeds goes unread zp numbers pixels flag row count = pushed piece old new feeds goes unread zp numbers pixels flag row count
pushed_by (Err error) piece old new feeds goes unread zp numbers pixels flag row count = tt

-- what the end makes of the bytes taken
ends_by : (rows : List Row) (taken left : List ℕ) (ended before after : Bool) → before ≡ is_all left ended → after ≡ is_all left true →
    Becomes (chunk rows taken before) (chunk rows taken after)
ends_by rows taken (byte ∷ left) ended before after was is = stays (ap (λ (e : Bool). chunk rows taken e) (is ∙ sym was))
ends_by rows taken [] true before after was is = stays (ap (λ (e : Bool). chunk rows taken e) (is ∙ sym was))
ends_by rows taken [] false before after was is = grows was [] after (ap (λ (l : List ℕ). chunk rows l after) (sym (append-nil taken)))

-- the end
pub closed : (old new : Parts) → Feeds old.unread old.zp → Feeds new.unread new.zp → new.unread ≡ record { left = old.unread.left; ended = true } →
    ((payload : List ℕ) (place : Option Interval) → Fed payload place old.zp → Fed payload place new.zp) → new.zp.table ≡ old.zp.table →
    new.numbers ≡ old.numbers → new.pixels ≡ old.pixels → new.flag ≡ old.flag → new.row ≡ old.row → new.count ≡ old.count →
    (source : Chunk) → Grows source (chunk source.table source.payload true) old new
closed old new feeds later unread fed table numbers pixels flag row count source =
    let told : new.zp.ended ≡ is_all old.unread.left true = later.told ∙ ap (λ (u : Unread). is_all u.left u.ended) unread in
    all_grows source source.payload true old new
    (record {
      more = [];
      longer = append-nil source.payload;
      left = ap (λ (u : Unread). u.left) unread ∙ sym (append-nil old.unread.left);
      fed = fed;
      table = table;
      whole = ap (λ (u : Unread). u.ended) unread;
      becomes = λ taken. ends_by source.table taken old.unread.left old.unread.ended old.zp.ended new.zp.ended feeds.told told;
      feeds = later;
    }) numbers pixels flag row count
