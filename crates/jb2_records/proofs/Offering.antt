-- A decoder that took a front of a chunk: what the chunk may become, and a bit that is decided then.
use Rattle.std.proofs.Common.{◌≡◌, ◌≢◌, ◌≤◌, ◌<◌, ◌+◌, ◌*◌, ℕ, Bool, true, false, List, [], ◌∷◌, ◌++◌, length, refl, sym, ap, subst, ◌∙◌, inl, inr, arith}
use Rattle.std.specs.Prelude.{Option, Some, None, ◌⊎◌}
use Rattle.std.proofs.lemmas.Bool.{cases_Bool}
use Rattle.std.proofs.lemmas.List.{append-nil, append_assoc, length-append}
use Rattle.zp_table.specs.declared.rows.Row.{Row}
use Rattle.zp_decoder.specs.declared.decoder.Decision.{Decision}
use Rattle.zp_decoder.specs.declared.decoder.Decision.TheVariants as decision
use Rattle.zp_decoder.specs.Decision.{Interval, Form, Adaptive, Outcome, outcome_of, interval_at, is_determined, counted}
use Rattle.zp_decoder.specs.Runs.{IsStanding, room}
use Rattle.zp_decoder.specs.Decoder.{Decoder, Fed, bytes_wanted, is_all, room_left}
use Rattle.zp_decoder.specs.Chunk.{Chunk, chunk}
use Rattle.zp_decoder.proofs.Lemmas.{room_is, between_facts, between-from_facts, taken_same, wanted}
use Rattle.jb2_records.specs.Taking.{Unread, room_of, Feeds, Takes, TakesMore, with_bytes, Becomes, stays, grows, Decides}

-- ---- bytes that are taken

abbrev pub takes_more : (source : Chunk) (place : Option Interval) (old new : Unread) (zp next : Decoder) → TakesMore old new zp next →
    Takes source place old zp → Takes source place new next
takes_more source place old new zp next on takes = record {
  taken = takes.taken ++ on.more;
  payload = append_assoc takes.taken on.more new.left ∙ ap (λ (l : List ℕ). takes.taken ++ l) on.left ∙ takes.payload;
  fed = on.fed takes.taken place takes.fed;
  standing = on.standing (takes.taken ++ on.more) place (on.fed takes.taken place takes.fed);
  table = on.table ∙ takes.table;
  ended = on.ended ∙ takes.ended;
}

-- the room for decisions that the bytes taken leave, and those that are left, is what the chunk leaves
room_by : (taken left : List ℕ) (place : Option Interval) → IsStanding (length taken) place →
    room taken place + 0x40000 * length left ≡ room (taken ++ left) place
room_by taken left None stands = omega (arith, length-append taken left)
room_by taken left (Some at) stands =
    let facts = between_facts (length taken) at stands in
    omega (arith, facts.low, facts.bits, length-append taken left)

pub room_there : (source : Chunk) (place : Option Interval) (unread : Unread) (zp : Decoder) → Takes source place unread zp →
    room_of unread zp ≡ room source.payload place
room_there source place unread zp takes =
    ap (λ (n : ℕ). n + 0x40000 * length unread.left) (room_is takes.taken place zp takes.fed)
    ∙ room_by takes.taken unread.left place takes.standing ∙ ap (λ (l : List ℕ). room l place) takes.payload

-- bytes that were offered leave the room as it was
pub offered_room : (old new : Unread) (zp next : Decoder) (payload : List ℕ) (place : Option Interval) → Fed payload place zp →
    IsStanding (length payload) place → TakesMore old new zp next → room_of new next ≡ room_of old zp
offered_room old new zp next payload place fed stands on =
    let before : room_left zp ≡ room payload place = room_is payload place zp fed in
    let after : room_left next ≡ room (payload ++ on.more) place = room_is (payload ++ on.more) place next (on.fed payload place fed) in
    let more : room payload place + 0x40000 * length on.more ≡ room (payload ++ on.more) place = room_by payload on.more place stands in
    let sum : length on.more + length new.left ≡ length old.left = sym (length-append on.more new.left) ∙ ap (λ (l : List ℕ). length l) on.left in
    ap (λ (n : ℕ). n + 0x40000 * length new.left) (after ∙ sym more) ∙ sum_by (room payload place) (length on.more) (length new.left) (length old.left) sum
    ∙ ap (λ (n : ℕ). n + 0x40000 * length old.left) (sym before)
  where
    sum_by : (room more new old : ℕ) → more + new ≡ old → room + 0x40000 * more + 0x40000 * new ≡ room + 0x40000 * old
    sum_by room more new old e = omega (arith, e)

decoded_by : (zp next : Decoder) (given kind : Decision) → given ≡ kind → ((bit : Bool) → given ≡ decision.Bit bit → room_left next < room_left zp) →
    (given ≡ decision.NeedBytes → next ≡ zp) → (given ≡ decision.Exhausted → next ≡ zp) → room_left next ≤ room_left zp
decoded_by zp next given (decision.Bit bit) e fewer needs exhausted = let less = fewer bit e in omega (arith, less)
decoded_by zp next given decision.NeedBytes e fewer needs exhausted =
    let same : room_left next ≡ room_left zp = ap room_left (needs e) in omega (arith, same)
decoded_by zp next given decision.Exhausted e fewer needs exhausted =
    let same : room_left next ≡ room_left zp = ap room_left (exhausted e) in omega (arith, same)

-- a decision leaves no more room
pub decoded_room : (zp next : Decoder) (given : Decision) → ((bit : Bool) → given ≡ decision.Bit bit → room_left next < room_left zp) →
    (given ≡ decision.NeedBytes → next ≡ zp) → (given ≡ decision.Exhausted → next ≡ zp) → room_left next ≤ room_left zp
decoded_room zp next given fewer needs exhausted = decoded_by zp next given given refl fewer needs exhausted

-- a place of fewer bytes is one of more
pub standing_more : (payload more : List ℕ) (place : Option Interval) → IsStanding (length payload) place → IsStanding (length (payload ++ more)) place
standing_more payload more None stands = refl
standing_more payload more (Some at) stands =
    let facts = between_facts (length payload) at stands in
    between-from_facts (length (payload ++ more)) at
    (record { low = facts.low; within = facts.within; below = facts.below; bits = omega (arith, facts.bits, length-append payload more) })

-- where a decoder stands, seen from the whole chunk
pub standing_there : (source : Chunk) (place : Option Interval) (unread : Unread) (zp : Decoder) → Takes source place unread zp →
    IsStanding (length source.payload) place
standing_there source place unread zp takes =
    subst (λ (l : List ℕ). IsStanding (length l) place) takes.payload (standing_more takes.taken unread.left place takes.standing)

-- ---- what a chunk may become

becomes_by : (from mid later : Chunk) (more : List ℕ) (ended : Bool) → from.ended ≡ false → mid ≡ with_bytes from more ended → Becomes mid later →
    Becomes from later
becomes_by from mid later more ended open_end is (stays e) = grows open_end more ended (e ∙ is)
becomes_by from mid later more ended open_end is (grows unended rest last e) =
    let there : later ≡ with_bytes (with_bytes from more ended) rest last = e ∙ ap (λ (c : Chunk). with_bytes c rest last) is in
    grows open_end (more ++ rest) last (there ∙ ap (λ (l : List ℕ). chunk from.table l last) (append_assoc from.payload more rest))

-- and what that may become
pub becomes_after : (from mid later : Chunk) → Becomes from mid → Becomes mid later → Becomes from later
becomes_after from mid later (stays e) last = subst (λ (c : Chunk). Becomes c later) e last
becomes_after from mid later (grows open_end more ended e) last = becomes_by from mid later more ended open_end e last

whole_by : (source : Chunk) (taken left : List ℕ) (ended : Bool) → taken ++ left ≡ source.payload → ended ≡ is_all left source.ended →
    Becomes (chunk source.table taken ended) source
whole_by source taken [] ended payload told =
    stays (sym (ap (λ (l : List ℕ). chunk source.table l ended) (sym (append-nil taken) ∙ payload)
    ∙ ap (λ (e : Bool). chunk source.table source.payload e) told))
whole_by source taken (byte ∷ left) ended payload told =
    grows told (byte ∷ left) source.ended (ap (λ (l : List ℕ). chunk source.table l source.ended) (sym payload))

-- the bytes taken may become the chunk
pub becomes_whole : (source : Chunk) (place : Option Interval) (unread : Unread) (zp : Decoder) → Feeds unread zp → (takes : Takes source place unread zp) →
    Becomes (chunk source.table takes.taken zp.ended) source
becomes_whole source place unread zp feeds takes =
    whole_by source takes.taken unread.left zp.ended takes.payload (feeds.told ∙ ap (λ (e : Bool). is_all unread.left e) takes.ended)

no_more : (more rest : List ℕ) → more ++ rest ≡ [] → more ≡ []
no_more [] rest e = refl
no_more (byte ∷ more) rest e = absurd (cc)

taken_by : (rows : List Row) (taken more rest left : List ℕ) (before after ended : Bool) → more ++ rest ≡ left → before ≡ is_all left ended →
    after ≡ is_all rest ended →
    Becomes (chunk rows taken before) (chunk rows (taken ++ more) after)
taken_by rows taken more rest [] before after ended split told later =
    let none : more ≡ [] = no_more more rest split in
    let over : rest ≡ [] = sym (ap (λ (l : List ℕ). l ++ rest) none) ∙ split in
    let same : after ≡ before = later ∙ ap (λ (l : List ℕ). is_all l ended) over ∙ sym told in
    stays (ap (λ (l : List ℕ). chunk rows (taken ++ l) after) none ∙ ap (λ (l : List ℕ). chunk rows l after) (append-nil taken)
    ∙ ap (λ (e : Bool). chunk rows taken e) same)
taken_by rows taken more rest (byte ∷ left) before after ended split told later = grows told more after refl

-- the bytes taken may become those that were taken later
pub becomes_taken : (rows : List Row) (taken : List ℕ) (old new : Unread) (zp next : Decoder) → Feeds old zp → Feeds new next →
    (on : TakesMore old new zp next) →
    Becomes (chunk rows taken zp.ended) (chunk rows (taken ++ on.more) next.ended)
becomes_taken rows taken old new zp next feeds later on =
    taken_by rows taken on.more new.left old.left zp.ended next.ended old.ended on.left feeds.told
    (later.told ∙ ap (λ (e : Bool). is_all new.left e) on.ended)

-- a chunk whose bytes were all taken
pub all_taken : (source : Chunk) (place : Option Interval) (unread : Unread) (zp : Decoder) → Feeds unread zp → (takes : Takes source place unread zp) →
    unread.left ≡ [] → chunk source.table takes.taken zp.ended ≡ source
all_taken source place unread zp feeds takes none =
    let all : takes.taken ≡ source.payload = sym (append-nil takes.taken) ∙ ap (λ (l : List ℕ). takes.taken ++ l) (sym none) ∙ takes.payload in
    let ended : zp.ended ≡ source.ended = feeds.told ∙ ap (λ (l : List ℕ). is_all l unread.ended) none ∙ takes.ended in
    ap (λ (l : List ℕ). chunk source.table l zp.ended) all ∙ ap (λ (e : Bool). chunk source.table source.payload e) ended

open_by : (left : List ℕ) (ended told : Bool) → told ≡ is_all left ended → left ≢ [] → told ≡ false
open_by [] ended told e some = absurd (some refl)
open_by (byte ∷ left) ended told e some = e

-- where bytes are left the decoder isn't told the end
pub open_where_left : (unread : Unread) (zp : Decoder) (count : ℕ) → Feeds unread zp → count < length unread.left → zp.ended ≡ false
open_where_left unread zp count feeds some =
    open_by unread.left unread.ended zp.ended feeds.told (λ none. let empty : length unread.left ≡ 0 = ap (λ (l : List ℕ). length l) none in
    absurd (omega arith))

-- ---- bits

-- what a decoder did
pub record Decodes (zp next : Decoder) (state later : ℕ) (given : Decision) : Type 0 where
  pub answer : (payload : List ℕ) (place : Option Interval) → Fed payload place zp →
      given ≡ (outcome_of zp.table (Adaptive state) payload zp.ended place).answer
  pub fed : (payload : List ℕ) (place : Option Interval) → Fed payload place zp →
      Fed payload (outcome_of zp.table (Adaptive state) payload zp.ended place).place next
  pub context : (payload : List ℕ) (place : Option Interval) → Fed payload place zp →
      later ≡ (outcome_of zp.table (Adaptive state) payload zp.ended place).state
  pub standing : (payload : List ℕ) (place : Option Interval) → Fed payload place next → IsStanding (length payload) place
  pub table : next.table ≡ zp.table

-- a decision is determined, or it waits
determined : (rows : List Row) (form : Form) (payload : List ℕ) (ended : Bool) (place : Option Interval) →
    (outcome_of rows form payload ended place).answer ≢ decision.NeedBytes → is_determined payload ended (interval_at payload place) ≡ true
determined rows form payload ended place some = elim (cases_Bool (is_determined payload ended (interval_at payload place))) [
  | inl there ↦ there
  | inr missing ↦ let waits : (outcome_of rows form payload ended place).answer ≡ decision.NeedBytes = rw missing refl in absurd (some waits)
]

-- a bit was decided, where its outcome is that of the chunk
decides : (source : Chunk) (place : Option Interval) (unread : Unread) (zp next : Decoder) (state later count after : ℕ) (given : Decision) →
    Decodes zp next state later given → (takes : Takes source place unread zp) →
    outcome_of source.table (Adaptive state) source.payload source.ended place ≡ outcome_of zp.table (Adaptive state) takes.taken zp.ended place →
    after ≡ counted given count → Decides source place state count given later unread next after
decides source place unread zp next state later count after given on takes same ticks = record {
  answer = on.answer takes.taken place takes.fed ∙ ap (λ (o : Outcome). o.answer) (sym same);
  context = on.context takes.taken place takes.fed ∙ ap (λ (o : Outcome). o.state) (sym same);
  takes =
      let fed : Fed takes.taken (outcome_of source.table (Adaptive state) source.payload source.ended place).place next =
      subst (λ (o : Outcome). Fed takes.taken o.place next) (sym same) (on.fed takes.taken place takes.fed) in
      record {
        taken = takes.taken;
        payload = takes.payload;
        fed = fed;
        standing = on.standing takes.taken _ fed;
        table = on.table ∙ takes.table;
        ended = takes.ended;
      };
  ticks = ticks;
}

module _ (source : Chunk) (place : Option Interval) (unread : Unread) (zp next : Decoder) (state later count after : ℕ) (given : Decision)
    (on : Decodes zp next state later given) (feeds : Feeds unread zp) (below : state < length zp.table) (takes : Takes source place unread zp)
    (ticks : after ≡ counted given count) where
  there : (is_determined takes.taken (is_all unread.left unread.ended) (interval_at takes.taken place) ≡ true) ⊎ (unread.left ≡ []) →
      outcome_of source.table (Adaptive state) source.payload source.ended place ≡ outcome_of zp.table (Adaptive state) takes.taken zp.ended place
  there how =
      ap (λ (t : List Row). outcome_of t (Adaptive state) source.payload source.ended place) (sym takes.table)
      ∙ ap (λ (l : List ℕ). outcome_of zp.table (Adaptive state) l source.ended place) (sym takes.payload)
      ∙ ap (λ (e : Bool). outcome_of zp.table (Adaptive state) (takes.taken ++ unread.left) e place) (sym takes.ended)
      ∙ taken_same zp.table (Adaptive state) takes.taken unread.left unread.ended place feeds.table below takes.standing how
      ∙ ap (λ (e : Bool). outcome_of zp.table (Adaptive state) takes.taken e place) (sym feeds.told)

  pub decided_end : given ≢ decision.NeedBytes → Decides source place state count given later unread next after
  decided_end some =
      let known : is_determined takes.taken zp.ended (interval_at takes.taken place) ≡ true =
      determined zp.table (Adaptive state) takes.taken zp.ended place (λ waits. some (on.answer takes.taken place takes.fed ∙ waits)) in
      decides source place unread zp next state later count after given on takes
      (there (inl (subst (λ (e : Bool). is_determined takes.taken e (interval_at takes.taken place) ≡ true) feeds.told known))) ticks

  pub decided_need : given ≡ decision.NeedBytes → next ≡ zp → (new : Unread) (last : Decoder) →
      ((taken : List ℕ) (place : Option Interval) → Fed taken place next → 0 < bytes_wanted taken place → unread.left ≡ []) → TakesMore unread new next last →
      Decides source place state count given later new last after
  decided_need needs same new last none more =
      let wants : 0 < bytes_wanted takes.taken place =
      wanted zp.table (Adaptive state) takes.taken zp.ended place (sym (on.answer takes.taken place takes.fed) ∙ needs) in
      let left : unread.left ≡ [] = none takes.taken place (subst (λ (z : Decoder). Fed takes.taken place z) (sym same) takes.fed) wants in
      let here : Decides source place state count given later unread next after =
      decides source place unread zp next state later count after given on takes (there (inr left)) ticks in
      record { answer = here.answer; context = here.context; takes = takes_more source _ unread new next last more here.takes; ticks = ticks }
