-- Bits that are coded behind others.
use Rattle.std.proofs.Common.{◌≡◌, ◌<◌, ℕ, Bool, List, [], ◌∷◌, ◌++◌, length, append_assoc, refl, sym, ap, subst, ◌∙◌, arith}
use Rattle.std.proofs.lemmas.List.{append-nil}
use Rattle.std.specs.Prelude.{Result, Ok, Err, IfOk}
use Rattle.zp_decoder.specs.Decision.{Adaptive}
use Rattle.zp_table.specs.declared.rows.Row.{Row}
use Rattle.zp_decoder.specs.States.{fresh, are_same, with_state, AreBelow}
use Rattle.zp_decoder.proofs.Lemmas.{stored_below}
use Rattle.jb2_numbers.specs.Contexts.{Name, is_same, store}
use Rattle.zp_encoder.specs.Written.{Written, written}
use Rattle.zp_encoder.specs.Encoder.{Encoder, Wrote}
use Rattle.jb2_writer.specs.declared.coding.Coding.{Coding}
use Rattle.jb2_writer.specs.Coded.{Context, Coded, Bit, Anew}
use Rattle.jb2_writer.specs.Contexts.{Contexts, all_fresh, state_in, with_state_in, AreCodedAs}
use Rattle.jb2_writer.specs.Coding.{contexts_of, numbers_of, pixels_of, IsSound, HasCoded, Adds, NumberStates}

coded_more : (bits : List Coded) (decisions : List Written) (from to : Contexts) (context : Context) (bit : Bool) (last : Written) →
    AreCodedAs from bits decisions to → last.form ≡ Adaptive (state_in to context) → last.bit ≡ bit →
    AreCodedAs from (bits ++ Bit context bit ∷ []) (decisions ++ last ∷ []) (with_state_in to context last.state)
coded_more [] [] from to context bit last coded form same =
    let there : from ≡ to = coded in (
      form ∙ ap (λ (c : Contexts). Adaptive (state_in c context)) (sym there),
      same,
      ap (λ (c : Contexts). with_state_in c context last.state) there,
    )
coded_more [] (decision ∷ decisions) from to context bit last coded form same = absurd coded
coded_more (Bit at first ∷ later) [] from to context bit last coded form same = absurd coded
coded_more (Bit at first ∷ later) (decision ∷ decisions) from to context bit last coded form same =
    (coded.0, coded.1, coded_more later decisions (with_state_in from at decision.state) to context bit last coded.2 form same)
coded_more (Anew ∷ later) decisions from to context bit last coded form same =
    coded_more later decisions (record from { numbers = fresh }) to context bit last coded form same

anew_more : (bits : List Coded) (decisions : List Written) (from to : Contexts) → AreCodedAs from bits decisions to →
    AreCodedAs from (bits ++ Anew ∷ []) decisions (record to { numbers = fresh })
anew_more [] [] from to coded = ap (λ (c : Contexts). record c { numbers = fresh }) coded
anew_more [] (decision ∷ decisions) from to coded = absurd coded
anew_more (Bit at first ∷ later) [] from to coded = absurd coded
anew_more (Bit at first ∷ later) (decision ∷ decisions) from to coded =
    (coded.0, coded.1, anew_more later decisions (with_state_in from at decision.state) to coded.2)
anew_more (Anew ∷ later) decisions from to coded = anew_more later decisions (record from { numbers = fresh }) to coded

-- these decisions were written, and then this one
abbrev pub WritesOn : Coding → Context → Bool → ℕ → Coding → Type 0
WritesOn old context bit state new =
    (decisions : List Written) → Wrote decisions old.encoder →
    Wrote (decisions ++ written (Adaptive (state_in (contexts_of old) context)) bit state ∷ []) new.encoder

pub adds_bit : (old new : Coding) (context : Context) (bit : Bool) (state : ℕ) → WritesOn old context bit state new →
    contexts_of new ≡ with_state_in (contexts_of old) context state → IsSound new → new.encoder.table ≡ old.encoder.table →
    Adds (Bit context bit ∷ []) old new
adds_bit old new context bit state wrote contexts sound table = record {
  on = λ before has. record {
    decisions = has.decisions ++ written (Adaptive (state_in (contexts_of old) context)) bit state ∷ [];
    wrote = wrote has.decisions has.wrote;
    coded = subst (AreCodedAs all_fresh (before ++ Bit context bit ∷ []) (has.decisions ++ written (Adaptive (state_in
        (contexts_of old) context)) bit state ∷ []))
        (sym contexts)
        (coded_more before has.decisions all_fresh (contexts_of old) context bit (written (Adaptive (state_in
        (contexts_of old) context)) bit state) has.coded refl refl);
  };
  sound = sound;
  table = table;
}

pub adds_anew : (old new : Coding) → new.encoder ≡ old.encoder → contexts_of new ≡ record (contexts_of old) { numbers = fresh } → IsSound new →
    Adds (Anew ∷ []) old new
adds_anew old new same contexts sound = record {
  on = λ before has. record {
    decisions = has.decisions;
    wrote = subst (λ encoder. Wrote has.decisions encoder) (sym same) has.wrote;
    coded = subst (AreCodedAs all_fresh (before ++ Anew ∷ []) has.decisions) (sym contexts) (anew_more before has.decisions all_fresh
        (contexts_of old) has.coded);
  };
  sound = sound;
  table = ap (λ (encoder : Encoder). encoder.table) same;
}

-- nothing more
pub adds_none : (coding : Coding) → IsSound coding → Adds [] coding coding
adds_none coding sound = record {
  on = λ before has. subst (λ (bits : List Coded). HasCoded bits coding) (sym (append-nil before)) has;
  sound = sound;
  table = refl;
}

-- bits behind bits
pub adds_join : (first second : List Coded) (old middle new : Coding) → Adds first old middle → Adds second middle new → Adds (first ++ second) old new
adds_join first second old middle new one two = record {
  on = λ before has. subst (λ (bits : List Coded). HasCoded bits new) (append_assoc before first second) (two.on (before ++ first) (one.on before has));
  sound = two.sound;
  table = two.table ∙ one.table;
}

-- what follows from an Ok
pub if_ok : {A E : Type 0} (before after : List Written → Type 0) (rest : Type 0) (result : Result A E) →
    ((decisions : List Written) → before decisions → IfOk result (λ (value : A). after decisions)) →
    (((decisions : List Written) → before decisions → after decisions) → rest) → IfOk result (λ (value : A). rest)
if_ok before after rest (Ok value) each then_ = then_ each
if_ok before after rest (Err fault) each then_ = tt

-- and bits behind bits, where a call adds the later ones
pub then_adds : {A E : Type 0} (first second : List Coded) (old middle new : Coding) (result : Result A E) → Adds first old middle →
    IfOk result (λ (value : A). Adds second middle new) → IfOk result (λ (value : A). Adds (first ++ second) old new)
then_adds first second old middle new (Ok value) one two = adds_join first second old middle new one two
then_adds first second old middle new (Err fault) one two = tt

-- the states stay rows of the table

rows_stay : {Name : Type 0} (old new : Coding) (states : Name → ℕ) → new.encoder.table ≡ old.encoder.table → AreBelow (length old.encoder.table) states →
    AreBelow (length new.encoder.table) states
rows_stay old new states table below = subst (λ (rows : List Row). AreBelow (length rows) states) (sym table) below

pub flags_sound : (old new : Coding) → IsSound old → new.encoder.table ≡ old.encoder.table → new.numbers ≡ old.numbers → new.pixels ≡ old.pixels →
    new.flag < length new.encoder.table → new.row < length new.encoder.table → IsSound new
flags_sound old new sound table numbers pixels flag row = record {
  numbers = rows_stay old new (numbers_of new.numbers) table
      (subst (λ (kept : NumberStates). AreBelow (length old.encoder.table) (numbers_of kept)) (sym numbers) sound.numbers);
  pixels = rows_stay old new (pixels_of new.pixels.items) table
      (subst (λ kept. AreBelow (length old.encoder.table) (pixels_of kept.items)) (sym pixels) sound.pixels);
  flag = flag;
  row = row;
  places = ap (λ kept. length kept.items) pixels ∙ sound.places;
}

pub same_below : (old new : Coding) (state : ℕ) → new.encoder.table ≡ old.encoder.table → state < length old.encoder.table → state < length new.encoder.table
same_below old new state table below = subst (λ (rows : List Row). state < length rows) (sym table) below

pub number_sound : (old new : Coding) (name : Name) (state : ℕ) → IsSound old → new.encoder.table ≡ old.encoder.table →
    state < length new.encoder.table → numbers_of new.numbers ≡ store (numbers_of old.numbers) name state → new.pixels ≡ old.pixels → new.flag ≡ old.flag →
    new.row ≡ old.row → IsSound new
number_sound old new name state sound table below numbers pixels flag row = record {
  numbers = subst (AreBelow (length new.encoder.table)) (sym numbers)
      (stored_below is_same (numbers_of old.numbers) name state (length new.encoder.table)
      (rows_stay old new (numbers_of old.numbers) table sound.numbers) below);
  pixels = rows_stay old new (pixels_of new.pixels.items) table
      (subst (λ kept. AreBelow (length old.encoder.table) (pixels_of kept.items)) (sym pixels) sound.pixels);
  flag = same_below old new new.flag table (subst (λ (s : ℕ). s < length old.encoder.table) (sym flag) sound.flag);
  row = same_below old new new.row table (subst (λ (s : ℕ). s < length old.encoder.table) (sym row) sound.row);
  places = ap (λ kept. length kept.items) pixels ∙ sound.places;
}

pub pixel_sound : (old new : Coding) (colours : List Bool) (state : ℕ) → IsSound old → new.encoder.table ≡ old.encoder.table →
    state < length new.encoder.table → pixels_of new.pixels.items ≡ with_state (pixels_of old.pixels.items) colours state →
    length new.pixels.items ≡ length old.pixels.items → new.numbers ≡ old.numbers → new.flag ≡ old.flag → new.row ≡ old.row → IsSound new
pixel_sound old new colours state sound table below pixels places numbers flag row = record {
  numbers = rows_stay old new (numbers_of new.numbers) table
      (subst (λ (kept : NumberStates). AreBelow (length old.encoder.table) (numbers_of kept)) (sym numbers) sound.numbers);
  pixels = subst (AreBelow (length new.encoder.table)) (sym pixels)
      (stored_below are_same (pixels_of old.pixels.items) colours state (length new.encoder.table)
      (rows_stay old new (pixels_of old.pixels.items) table sound.pixels) below);
  flag = same_below old new new.flag table (subst (λ (s : ℕ). s < length old.encoder.table) (sym flag) sound.flag);
  row = same_below old new new.row table (subst (λ (s : ℕ). s < length old.encoder.table) (sym row) sound.row);
  places = places ∙ sound.places;
}

pub anew_sound : (old new : Coding) → IsSound old → new.encoder ≡ old.encoder → numbers_of new.numbers ≡ fresh → new.pixels ≡ old.pixels →
    new.flag ≡ old.flag → new.row ≡ old.row → IsSound new
anew_sound old new sound same numbers pixels flag row =
    let table : new.encoder.table ≡ old.encoder.table = ap (λ (encoder : Encoder). encoder.table) same in
    let some : 0 < length old.encoder.table = omega (arith, sound.flag) in
    record {
      numbers = rows_stay old new (numbers_of new.numbers) table (subst (λ states. AreBelow (length old.encoder.table) states) (sym numbers) (λ name. some));
      pixels = rows_stay old new (pixels_of new.pixels.items) table
          (subst (λ kept. AreBelow (length old.encoder.table) (pixels_of kept.items)) (sym pixels) sound.pixels);
      flag = same_below old new new.flag table (subst (λ (s : ℕ). s < length old.encoder.table) (sym flag) sound.flag);
      row = same_below old new new.row table (subst (λ (s : ℕ). s < length old.encoder.table) (sym row) sound.row);
      places = ap (λ kept. length kept.items) pixels ∙ sound.places;
    }
