-- Steps of an image, one after the other.
use Rattle.std.proofs.Common.{◌≡◌, ℕ, ◌+◌, ◌-◌, true, false, List, Option, Some, None, refl, ap, sym, ◌∙◌, subst, arith}
use Rattle.std.specs.Prelude.{Result, Ok, Err, is_err, OnOk}
use Rattle.djvu_base.specs.Meter.{TicksExactly}
use Rattle.djvu_base.specs.declared.faults.FaultKind.{FaultKind}
use Rattle.djvu_base.proofs.Ticks.{ticks_both, ticks_none}
use Rattle.zp_table.specs.declared.rows.Row.{Row}
use Rattle.iw44_image.specs.declared.steps.IwStep.{IwStep}
use Rattle.iw44_image.specs.declared.steps.IwStep.TheVariants as step
use Rattle.iw44_image.specs.declared.steps.Stage.{Stage}
use Rattle.iw44_image.specs.declared.steps.Stage.TheVariants as stage
use Rattle.iw44_image.specs.Layer.{Layer, LayerReading, Fault, ends, any_size, data_of, read_chunk}
use Rattle.iw44_image.specs.Image.{Image, frame_of, layer_of, is_whole, refused, reading_of, Holds, HoldsAt, Answers, Steps, TicksTo}
use Rattle.iw44_image.specs.Keeping.{ArePlanesMade, HasStepped}

pub ticks_joined : (first mid last before between after : ℕ) → TicksTo first mid before between → TicksTo mid last between after →
    TicksTo first last before after
ticks_joined first mid last before between after one other =
    let all : mid - first + (last - mid) ≡ last - first = omega (arith, one.more, other.more) in
    record {
      more = omega (arith, one.more, other.more);
      ticks = subst (λ (n : ℕ). TicksExactly n before after) all (ticks_both (mid - first) (last - mid) before between after one.ticks other.ticks);
    }

pub ticks_stay : (decisions count : ℕ) → TicksTo decisions decisions count count
ticks_stay decisions count =
    let none : 0 ≡ decisions - decisions = omega arith in
    record { more = omega arith; ticks = subst (λ (n : ℕ). TicksExactly n count count) none (ticks_none count) }

-- what the reading of the open chunk speaks of
pub record AreAlike (old new : Image) : Type 0 where
  pub table : new.zp.table ≡ old.zp.table
  pub limit : new.limit ≡ old.limit
  pub to_come : new.to_come ≡ old.to_come
  pub header : new.header ≡ old.header

reading_same : (old new : Image) (bytes : List ℕ) (layer : Layer) → AreAlike old new → reading_of new bytes layer ≡ reading_of old bytes layer
reading_same old new bytes layer alike =
    ap (λ (t : List Row). read_chunk t (any_size new.limit) (data_of bytes (is_whole new.to_come)) layer) alike.table
    ∙ ap (λ (n : ℕ). read_chunk old.zp.table (any_size n) (data_of bytes (is_whole new.to_come)) layer) alike.limit
    ∙ ap (λ (o : Option ℕ). read_chunk old.zp.table (any_size old.limit) (data_of bytes (is_whole o)) layer) alike.to_come

pub answers_from : (answer : IwStep) (layer : Layer) (bytes : List ℕ) (now : ℕ) (old mid new : Image) → AreAlike old mid →
    Answers answer layer bytes now mid new → Answers answer layer bytes now old new
answers_from (step.Sized width height) layer bytes now old mid new alike told = record {
  first = sym alike.header ∙ told.first;
  told = told.told;
  known = told.known ∙ ap (λ (r : LayerReading). r.layer.header) (reading_same old mid bytes layer alike);
  none_read = told.none_read;
  width_is = told.width_is;
  height_is = told.height_is;
  planes = told.planes;
  holds = told.holds;
}
answers_from step.ChunkDone layer bytes now old mid new alike told = (sym (reading_same old mid bytes layer alike) ∙ told.0, told.1)
answers_from step.NeedBytes layer bytes now old mid new alike told = (sym (reading_same old mid bytes layer alike) ∙ told.0, told.1)
answers_from (step.Refused kind) layer bytes now old mid new alike told = (sym (reading_same old mid bytes layer alike) ∙ told.0, told.1)
answers_from step.OutOfMemory layer bytes now old mid new alike told = told

-- some steps without an answer
pub record Goes (old new : Image) (before after : ℕ) : Type 0 where
  pub holds : (layer : Layer) (bytes : List ℕ) (decisions : ℕ) → Holds layer bytes decisions old →
      (now : ℕ) × (Holds layer bytes now new × TicksTo decisions now before after)
  pub alike : AreAlike old new
  pub made : ArePlanesMade new
  pub unrefused : refused new ≡ None

pub goes_first : (image : Image) (count : ℕ) → ArePlanesMade image → refused image ≡ None → Goes image image count count
goes_first image count made unrefused = record {
  holds = λ layer bytes decisions holds. (decisions, (holds, ticks_stay decisions count));
  alike = record { table = refl; limit = refl; to_come = refl; header = refl };
  made = made;
  unrefused = unrefused;
}

abbrev pub IsStep : Option IwStep → Image → Image → ℕ → ℕ → Type 0
IsStep result old new before after = (layer : Layer) (bytes : List ℕ) (decisions : ℕ) → Holds layer bytes decisions old →
    (now : ℕ) × (Steps result layer bytes now old new × TicksTo decisions now before after)

goes_by : (old mid new : Image) (before between after : ℕ) → Goes old mid before between → IsStep None mid new between after → HasStepped None mid new →
    Goes old new before after
goes_by old mid new before between after goes is stepped = record {
  holds = λ layer bytes decisions holds.
      let here = goes.holds layer bytes decisions holds in
      let there = is layer bytes here.0 here.1.0 in
      (there.0, (there.1.0, ticks_joined decisions here.0 there.0 before between after here.1.1 there.1.1));
  alike = record {
    table = stepped.table ∙ goes.alike.table;
    limit = stepped.limit ∙ goes.alike.limit;
    to_come = stepped.to_come ∙ goes.alike.to_come;
    header = stepped.header refl ∙ goes.alike.header;
  };
  made = stepped.made refl;
  unrefused = stepped.refusal;
}

pub goes_on : (result : Option IwStep) (old mid new : Image) (before between after : ℕ) → result ≡ None → Goes old mid before between →
    IsStep result mid new between after → HasStepped result mid new → Goes old new before after
goes_on result old mid new before between after none goes is stepped =
    goes_by old mid new before between after goes (subst (λ (r : Option IwStep). IsStep r mid new between after) none is)
    (subst (λ (r : Option IwStep). HasStepped r mid new) none stepped)

-- and then one with an answer
pub goes_to : (result : Option IwStep) (answer : IwStep) (old mid new : Image) (before between after : ℕ) → result ≡ Some answer →
    Goes old mid before between → IsStep result mid new between after → (layer : Layer) (bytes : List ℕ) (decisions : ℕ) → Holds layer bytes decisions old →
    (now : ℕ) × (Answers answer layer bytes now old new × TicksTo decisions now before after)
goes_to result answer old mid new before between after some goes is layer bytes decisions holds =
    let here = goes.holds layer bytes decisions holds in
    let there = subst (λ (r : Option IwStep). IsStep r mid new between after) some is layer bytes here.0 here.1.0 in (
      there.0,
      (
        answers_from answer layer bytes there.0 old mid new goes.alike there.1.0,
        ticks_joined decisions here.0 there.0 before between after here.1.1 there.1.1,
      ),
    )

-- a refusal that stands, and planes for which there is no memory
pub refused_answer : (old : Image) (kind : FaultKind) (layer : Layer) (bytes : List ℕ) (decisions count : ℕ) → old.stage ≡ stage.Refused kind →
    Holds layer bytes decisions old → (now : ℕ) × (Answers (step.Refused kind) layer bytes now old old × TicksTo decisions now count count)
unfolding Holds
refused_answer old kind layer bytes decisions count is holds =
    let reads : reading_of old bytes layer ≡ ends (Fault kind) (layer_of old decisions) =
    subst (λ (s : Stage). HoldsAt s (frame_of old) layer bytes decisions old.planes old.zp old.left) is holds in
    (decisions, ((reads, holds), ticks_stay decisions count))

pub memory_answer : (old new : Image) (layer : Layer) (bytes : List ℕ) (decisions count : ℕ) → new ≡ old → Holds layer bytes decisions old →
    (now : ℕ) × (Answers step.OutOfMemory layer bytes now old new × TicksTo decisions now count count)
memory_answer old new layer bytes decisions count is holds =
    (decisions, (subst (λ (i : Image). Holds layer bytes decisions i) (sym is) holds, ticks_stay decisions count))

-- what is promised of a result without an error
pub where_ok : {T E P : Type 0} (result : Result T E) → is_err result ≡ false → OnOk result P → P
where_ok (Ok given) none holds = holds
where_ok (Err given) none holds = absurd (let wrong : true ≡ false = none in cc)

-- after planes were made, the answer of some steps
pub made_answer : (result : Option IwStep) (answer : IwStep) (old made mid new : Image) (before between after : ℕ) → AreAlike old made →
    ((layer : Layer) (bytes : List ℕ) (decisions : ℕ) → Holds layer bytes decisions old → Holds layer bytes decisions made) → result ≡ Some answer →
    Goes made mid before between → IsStep result mid new between after → (layer : Layer) (bytes : List ℕ) (decisions : ℕ) → Holds layer bytes decisions old →
    (now : ℕ) × (Answers answer layer bytes now old new × TicksTo decisions now before after)
made_answer result answer old made mid new before between after alike makes some goes is layer bytes decisions holds =
    let there = goes_to result answer made mid new before between after some goes is layer bytes decisions (makes layer bytes decisions holds) in
    (there.0, (answers_from answer layer bytes there.0 old made new alike there.1.0, there.1.1))
