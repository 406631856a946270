-- What a coder's question for a number comes to, by what its decoder and the reader answer.
use Rattle.std.proofs.Common.{◌≡◌, ◌≢◌, ◌<◌, ◌≤◌, ◌+◌, ◌++◌, ℕ, ℤ, List, [], length, refl, sym, ap, subst, ◌∙◌, arith}
use Rattle.std.specs.Prelude.{pos, Option, Result, IfOk}
use Rattle.djvu_base.specs.Meter.{ticked, TicksExactly}
use Rattle.djvu_base.proofs.Ticks.{ticks_both, ticks_none, ticked_more}
use Rattle.zp_decoder.specs.Decision.{Interval}
use Rattle.zp_decoder.specs.Chunk.{Chunk, chunk}
use Rattle.zp_decoder.specs.Runs.{IsStanding, room}
use Rattle.zp_decoder.specs.Decoder.{Fed}
use Rattle.jb2_numbers.specs.declared.roots.Root.{Root}
use Rattle.jb2_numbers.specs.declared.roots.Root.TheVariants as type
use Rattle.jb2_numbers.specs.declared.reader.NumberStep.{NumberStep}
use Rattle.jb2_numbers.specs.declared.reader.NumberStep.TheVariants as number
use Rattle.jb2_numbers.specs.Answer.{Answer}
use Rattle.jb2_numbers.specs.Answer as answer
use Rattle.jb2_numbers.specs.Kept.{states_of}
use Rattle.jb2_numbers.specs.Contexts.{Name}
use Rattle.jb2_numbers.specs.Number as numbers
use Rattle.jb2_numbers.specs.Number.{Wanted, wanted, begun, most_decisions, read_on, answer_at}
use Rattle.jb2_numbers.specs.Reader.{Reader, AreBounds, Reads}
use Rattle.jb2_numbers.proofs.Lemmas.{Behind, stays_behind, type_codes}
use Rattle.jb2_shapes.specs.Numbers as cells
use Rattle.jb2_records.specs.declared.stops.Stop.{Stop}
use Rattle.jb2_records.specs.Coding.{Coder, Got, after_number, number_by, read_number}
use Rattle.jb2_records.specs.Growth.{IsSound}
use Rattle.jb2_records.specs.Taking.{room_of, Feeds, Takes, Pends, Counts}
use Rattle.jb2_records.specs.Telling.{Parts, IsReady, HalfNumber, decisions_of, IsWithin, Goes, number_result}
use Rattle.jb2_records.proofs.Offering.{room_there, standing_there}
use Rattle.jb2_records.proofs.Numbering.{answer_number, answer_needs, answer_exhausted, pends_within}
use Rattle.jb2_records.proofs.Keeping.{number_leaves}
use Rattle.jb2_records.proofs.Leaving.{stays_at}

-- what was read leaves a sound place
number_sound : (source : Chunk) (root : Root) (low high : ℤ) (at next : Coder) (value : ℤ) → IsSound source at →
    read_number source root low high at ≡ Got value next → IsSound source next
number_sound source root low high at next value sound got =
    ((number_leaves source (room source.payload at.place) at.decisions root low high at (stays_at source at sound)).got value next got).sound

-- what the reading of a number did with the parts of a coder
pub record Numbers (old new : Parts) (first last : Reader) (step : NumberStep) : Type 0 where
  pub counts : (kind : Wanted) (source : Chunk) (before : ℕ) (states : Name → ℕ) (place : Option Interval) → step ≢ number.OutOfMemory →
      AreBounds kind.low kind.high → Pends kind source before states place first old.numbers old.unread old.zp old.count →
      Counts kind source before states place step new.numbers new.unread new.zp new.count
  pub pends : (kind : Wanted) (source : Chunk) (before : ℕ) (states : Name → ℕ) (place : Option Interval) →
      AreBounds kind.low kind.high → Pends kind source before states place first old.numbers old.unread old.zp old.count →
      Pends kind source before states place last new.numbers new.unread new.zp new.count
  pub feeds : Feeds new.unread new.zp
  pub pixels : new.pixels ≡ old.pixels
  pub flag : new.flag ≡ old.flag
  pub row : new.row ≡ old.row

made_by : (given : Answer) (reading : numbers.Reading) (at : Coder) → decisions_of (number_by given reading at) ≡ at.decisions + reading.coded
made_by (answer.Number value) reading at = refl
made_by answer.NeedBytes reading at = refl
made_by answer.Exhausted reading at = refl

-- a number that waits has no more decisions than the definition
pub number_within : (source : Chunk) (root : Root) (low high : ℤ) (at : Coder) (reader : Reader) (parts : Parts) →
    HalfNumber source root low high at reader parts → IsWithin (read_number source root low high at) parts
number_within source root low high at reader parts half =
    let kind : Wanted = wanted root low high in
    let all : numbers.Reading = read_on kind source (begun at.numbers at.place) in
    let fewer = pends_within kind source (ticked at.decisions 0) at.numbers at.place reader parts.numbers parts.unread parts.zp parts.count half.feeds
    half.pends in
    let count : parts.count ≡ ticked (at.decisions + half.pends.at.coded) 0 =
    ticks_both at.decisions half.pends.at.coded 0 (ticked at.decisions 0) parts.count refl half.pends.stands.ticks in
    let less : ticked (at.decisions + half.pends.at.coded) 0 ≤ ticked (at.decisions + all.coded) 0 =
    ticked_more (at.decisions + half.pends.at.coded) (at.decisions + all.coded) (omega (arith, fewer)) in
    subst (λ (n : ℕ). n ≤ ticked (decisions_of (read_number source root low high at)) 0) (sym count)
    (subst (λ (n : ℕ). ticked (at.decisions + half.pends.at.coded) 0 ≤ ticked n 0) (sym (made_by (answer_at kind source all) all at)) less)

module _ (source : Chunk) (root : Root) (low high : ℤ) (at : Coder) (old new : Parts) (first last : Reader) where
  abbrev kind : Wanted
  kind = wanted root low high

  abbrev all : numbers.Reading
  all = read_on kind source (begun at.numbers at.place)

  half_next : (step : NumberStep) → Numbers old new first last step → HalfNumber source root low high at first old →
      HalfNumber source root low high at last new
  half_next step on half = record {
    bounds = half.bounds;
    pends = on.pends kind source (ticked at.decisions 0) at.numbers at.place half.bounds half.pends;
    feeds = on.feeds;
    pixels = ap cells.states_of on.pixels ∙ half.pixels;
    flag = on.flag ∙ half.flag;
    row = on.row ∙ half.row;
    sound = half.sound;
  }

  counted : (step : NumberStep) → Numbers old new first last step → HalfNumber source root low high at first old → step ≢ number.OutOfMemory →
      Counts kind source (ticked at.decisions 0) at.numbers at.place step new.numbers new.unread new.zp new.count
  counted step on half some = on.counts kind source (ticked at.decisions 0) at.numbers at.place some half.bounds half.pends

  made : (step : NumberStep) → Counts kind source (ticked at.decisions 0) at.numbers at.place step new.numbers new.unread new.zp new.count →
      TicksExactly (at.decisions + all.coded) 0 new.count
  made step counts = ticks_both at.decisions all.coded 0 (ticked at.decisions 0) new.count refl counts.ticks

  -- a number was read to its end, or it waits
  number_goes : (step : NumberStep) → Numbers old new first last step → HalfNumber source root low high at first old →
      Goes (λ (n : ℤ). n) source (read_number source root low high at) (HalfNumber source root low high at last new) (number_result step) new
  number_goes (number.Number value) on half =
      let counts = counted (number.Number value) on half (λ memory. cc) in
      let got : read_number source root low high at ≡ Got value (after_number at all) =
      ap (λ (s : Answer). number_by s all at) (answer_number _ value (sym counts.answer)) in
      record {
        next = after_number at all;
        got = got;
        stands = record {
          numbers = counts.states_are;
          pixels = ap cells.states_of on.pixels ∙ half.pixels;
          flag = on.flag ∙ half.flag;
          row = on.row ∙ half.row;
          takes = counts.takes;
          count = made (number.Number value) counts;
          sound = number_sound source root low high at (after_number at all) value half.sound got;
        };
      }
  number_goes number.NeedBytes on half =
      let counts = counted number.NeedBytes on half (λ memory. cc) in (
        record {
          decisions = at.decisions + all.coded;
          stops = ap (λ (s : Answer). number_by s all at) (answer_needs _ (sym counts.answer));
          count = made number.NeedBytes counts;
        },
        half_next number.NeedBytes on half,
      )
  number_goes number.Exhausted on half =
      let counts = counted number.Exhausted on half (λ memory. cc) in
      record {
        decisions = at.decisions + all.coded;
        stops = ap (λ (s : Answer). number_by s all at) (answer_exhausted _ (sym counts.answer));
        count = made number.Exhausted counts;
      }
  number_goes number.OutOfMemory on half =
      let next : HalfNumber source root low high at last new = half_next number.OutOfMemory on half in
      (number_within source root low high at last new next, next)

pub number_told : (old new : Parts) (first last : Reader) (step : NumberStep) (result : Result ℤ Stop) → Numbers old new first last step →
    result ≡ number_result step →
    (source : Chunk) (root : Root) (low high : ℤ) (at : Coder) → HalfNumber source root low high at first old →
    Goes (λ (n : ℤ). n) source (read_number source root low high at) (HalfNumber source root low high at last new) result new
number_told old new first last step result on is source root low high at half =
    subst (λ (r : Result ℤ Stop). Goes (λ (n : ℤ). n) source (read_number source root low high at) (HalfNumber source root low high at last new) r new)
    (sym is)
    (number_goes source root low high at old new first last step on half)

falls_by : (old new : Parts) (first last : Reader) (step : NumberStep) → Numbers old new first last step → IsReady old →
    (payload : List ℕ) (place : Option Interval) → Fed payload place old.zp → IsStanding (length payload) place →
    Reads (wanted type.RecordType (pos 0) (pos 11)) [] first → (value : ℤ) → step ≡ number.Number value →
    room_of new.unread new.zp < room_of old.unread old.zp
falls_by old new first last step on ready payload place fed standing reads value is =
    let kind : Wanted = wanted type.RecordType (pos 0) (pos 11) in
    let source : Chunk = chunk old.zp.table (payload ++ old.unread.left) old.unread.ended in
    let takes : Takes source place old.unread old.zp =
    record { taken = payload; payload = refl; fed = fed; standing = standing; table = refl; ended = refl } in
    let first_at : numbers.Reading = begun (states_of old.numbers) place in
    let all : numbers.Reading = read_on kind source first_at in
    let bounds : AreBounds (pos 0) (pos 11) = record { order = search arith; least = search arith; most = search arith } in
    let counts : Counts kind source old.count (states_of old.numbers) place step new.numbers new.unread new.zp new.count =
    on.counts kind source old.count (states_of old.numbers) place (λ memory. let other = sym is ∙ memory in cc) bounds
    (record {
      at = first_at;
      takes = takes;
      stands = record { reads = reads; states = refl; fed = fed; table = refl; ended = refl; ticks = ticks_none old.count };
      possible = tt;
      ready = record { table = ready.feeds.table; below = ready.numbers; standing = standing };
      goes = λ later becomes. refl;
    }) in
    let coded : 0 < all.coded = type_codes type.RecordType source (states_of old.numbers) place value (answer_number _ value (sym counts.answer ∙ is)) in
    let behind : Behind source first_at all =
    stays_behind kind source ready.feeds.table first_at most_decisions ready.numbers (standing_there source place old.unread old.zp takes) in
    let before : room_of old.unread old.zp ≡ room source.payload place = room_there source place old.unread old.zp takes in
    let after : room_of new.unread new.zp ≡ room source.payload all.place = room_there source all.place new.unread new.zp counts.takes in
    less_by (room_of new.unread new.zp) (room_of old.unread old.zp) (room source.payload all.place) (room source.payload place) all.coded
    after before behind.leaves coded
  where
    less_by : (new old there here coded : ℕ) → new ≡ there → old ≡ here → there + coded ≤ here + 0 → 0 < coded → new < old
    less_by new old there here coded after before leaves some = omega (arith, after, before, leaves, some)

falls_in : (old new : Parts) (first last : Reader) (step kind : NumberStep) → step ≡ kind → Numbers old new first last step → IsReady old →
    (payload : List ℕ) (place : Option Interval) → Fed payload place old.zp → IsStanding (length payload) place →
    Reads (wanted type.RecordType (pos 0) (pos 11)) [] first →
    IfOk (number_result kind) (λ (n : ℤ). room_of new.unread new.zp < room_of old.unread old.zp)
falls_in old new first last step (number.Number value) is on ready payload place fed standing reads =
    falls_by old new first last step on ready payload place fed standing reads value is
falls_in old new first last step number.NeedBytes is on ready payload place fed standing reads = tt
falls_in old new first last step number.Exhausted is on ready payload place fed standing reads = tt
falls_in old new first last step number.OutOfMemory is on ready payload place fed standing reads = tt

-- the type of a record leaves less room
pub type_falls : (old new : Parts) (first last : Reader) (step : NumberStep) (result : Result ℤ Stop) → Numbers old new first last step →
    result ≡ number_result step → IsReady old → (payload : List ℕ) (place : Option Interval) → Fed payload place old.zp →
    IsStanding (length payload) place → Reads (wanted type.RecordType (pos 0) (pos 11)) [] first →
    IfOk result (λ (n : ℤ). room_of new.unread new.zp < room_of old.unread old.zp)
type_falls old new first last step result on is ready payload place fed standing reads =
    subst (λ (r : Result ℤ Stop). IfOk r (λ (n : ℤ). room_of new.unread new.zp < room_of old.unread old.zp)) (sym is)
    (falls_in old new first last step step refl on ready payload place fed standing reads)
