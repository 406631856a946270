-- What a step comes to: what a record that was read leaves, and what follows its type.
use Rattle.std.proofs.Common.{◌≡◌, ◌≤◌, ℕ, suc, Bool, true, false, List, [], ◌∷◌, length, refl, sym, ap, subst, ◌∙◌, arith}
use Rattle.std.specs.Prelude.{Option, Some, None}
use Rattle.djvu_base.specs.Meter.{ticked_once, TicksExactly}
use Rattle.djvu_base.proofs.Ticks.{ticks_next}
use Rattle.zp_decoder.specs.Runs.{room}
use Rattle.bit_plane.specs.Pixels.{Pixels}
use Rattle.bit_plane.specs.Ink.{unsigned}
use Rattle.djvu_base.specs.declared.faults.FaultKind.{FaultKind}
use Rattle.jb2_records.specs.declared.steps.Field.{Field}
use Rattle.jb2_records.specs.declared.steps.Field.TheVariants as field
use Rattle.jb2_records.specs.declared.steps.Use.TheVariants as use_of
use Rattle.jb2_records.specs.declared.steps.Reference.TheVariants as reference
use Rattle.jb2_records.specs.declared.steps.Use.{Use}
use Rattle.jb2_records.specs.declared.steps.Origin.{Origin}
use Rattle.jb2_records.specs.declared.steps.Reference.{Reference}
use Rattle.jb2_records.specs.declared.machine.Machine.{Machine}
use Rattle.jb2_records.specs.declared.types.RecordType.{RecordType}
use Rattle.jb2_records.specs.declared.types.RecordType.TheVariants as type
use Rattle.jb2_records.specs.declared.reader.Jb2Step.TheVariants as answer
use Rattle.jb2_records.specs.Records.{Record, MarkBoth, MarkImage, RefineBoth, RefineImage, Comment, is_end, is_started}
use Rattle.jb2_records.specs.Coding.{Coder, Read, Got, checked}
use Rattle.jb2_records.specs.Reading.{Input, read_bytes, is_require_type, read_require, read_body, read_record, after_end, records_from, most_records}
use Rattle.jb2_records.specs.Growth.{IsSound}
use Rattle.jb2_records.specs.Telling.{Parts, Stands}
use Rattle.jb2_records.specs.Library.{Keeps}
use Rattle.jb2_records.specs.Picture.{Picture, Draws, draws_nothing}
use Rattle.jb2_records.specs.Steps.{from_matched, from_number, from_shape, behind}
use Rattle.jb2_records.specs.Machine.{with_chunk, reads_on, Follows, Continues, Stays, Adds, Answers, first_field}
use Rattle.jb2_records.proofs.Adding.{keeps_comment, shows_on, blank_on}
use Rattle.jb2_records.proofs.Ending.{same_count}
use Rattle.jb2_records.proofs.Resting.{own_rest, refined_rest, copy_rest, plain_rest, place_rest}
use Rattle.jb2_records.proofs.Suspending.{sound_becomes, along, refused}

-- ---- between two records

next_from : (input : Input) (before : List Record) (at : Coder) → IsSound input.chunk at → room input.chunk.payload at.place ≤ room input.chunk.payload None →
    records_from (most_records input.chunk.payload) input before at ≡ reads_on input before (read_record input before at)
unfolding most_records
next_from input before at sound less =
    same_count input (suc (room input.chunk.payload None)) (suc (suc (room input.chunk.payload None))) before at sound (omega (arith, less))
    (omega (arith, less))

-- a record was read, and the next one follows
pub next_stays : (input : Input) (machine : Machine) (units : ℕ) → Adds input machine → units ≡ ticked_once machine.units →
    Continues input (λ later before text at. from_number later before text field.Kind at)
    (λ before at. Stands input.chunk at machine.coder) machine.library machine.picture units
unfolding behind
next_stays input machine units adds next = record {
  before = adds.entry ∷ adds.before;
  text = [];
  at = adds.at;
  sound = adds.stands.sound;
  goes = λ later becomes.
      let was : Follows (with_chunk input later) adds.before adds.at (Got adds.entry adds.at) = adds.goes later becomes in
      record {
        same = was.same ∙ ap (λ (b : Bool). after_end b (adds.entry ∷ adds.before) adds.at
            (λ records at. records_from (most_records later.payload) (with_chunk input later) records at)) adds.others
            ∙ next_from (with_chunk input later) (adds.entry ∷ adds.before) adds.at
            (sound_becomes input.chunk later adds.at becomes adds.stands.sound) was.less;
        less = was.less;
      };
  stands_there = adds.stands;
  keeps = adds.keeps;
  draws = adds.draws;
  count = ticks_next (length adds.before) 0 machine.units units adds.count next;
}

pub draws_on : (input : Input) (before : List Record) (picture : Option Picture) (entry : Record) → draws_nothing entry ≡ true →
    Draws input before picture → Draws input (entry ∷ before) picture
draws_on input before None entry none draws = blank_on input before entry none draws
draws_on input before (Some picture) entry none draws = shows_on input before picture entry none draws

-- what was read is kept and drawn
pub adds_of : (input : Input) (old new : Machine) (entry : Record)
    (c : Continues input (λ later before text at. Got entry at) (λ before at. Stands input.chunk at old.coder) old.library old.picture old.units) →
    new.coder ≡ old.coder → new.units ≡ old.units →
    Keeps input (entry ∷ c.before) new.library → Draws input (entry ∷ c.before) new.picture → is_end entry ≡ false → Adds input new
adds_of input old new entry c coder units keeps draws others = record {
  before = c.before;
  entry = entry;
  at = c.at;
  goes = c.goes;
  stands = subst (λ (p : Parts). Stands input.chunk c.at p) (sym coder) c.stands_there;
  keeps = keeps;
  draws = draws;
  count = subst (λ (n : ℕ). TicksExactly (length c.before) 0 n) (sym units) c.count;
  others = others;
}

-- ---- behind a type

same_field : {A : Type 0} (one : A) (a b : Field) (rest : Field → A) → Some a ≡ Some b → one ≡ rest a → one ≡ rest b
same_field one a b rest is same = let e : a ≡ b = cc in same ∙ ap rest e

pub body_rest : (input : Input) (before : List Record) (text : List ℕ) (kind : RecordType) (place : Field) (at : Coder) → first_field kind ≡ Some place →
    (is_require_type kind ≡ true → is_started before ≡ false) → read_body input before kind at ≡ from_number input before text place at
unfolding behind
body_rest input before text type.Start place at is unstarted = same_field (read_body input before type.Start at) field.StartWidth place
    (λ p. from_number input before text p at) is refl
body_rest input before text type.MarkBoth place at is unstarted =
    same_field (read_body input before type.MarkBoth at) (field.OwnWidth use_of.Both) place (λ p. from_number input before text p at) is
    (own_rest input before use_of.Both _ at (λ shape at. place_rest input before shape (λ place. MarkBoth shape place) at))
body_rest input before text type.MarkLibrary place at is unstarted =
    same_field (read_body input before type.MarkLibrary at) (field.OwnWidth use_of.Library) place (λ p. from_number input before text p at) is
    (own_rest input before use_of.Library _ at (λ shape at. refl))
body_rest input before text type.MarkImage place at is unstarted =
    same_field (read_body input before type.MarkImage at) (field.OwnWidth use_of.Image) place (λ p. from_number input before text p at) is
    (own_rest input before use_of.Image _ at (λ shape at. place_rest input before shape (λ place. MarkImage shape place) at))
body_rest input before text type.RefineBoth place at is unstarted =
    same_field (read_body input before type.RefineBoth at) (field.Match (reference.Refine use_of.Both)) place (λ p. from_number input before text p at) is
    (refined_rest input before use_of.Both _ at (λ number shape at. place_rest input before shape (λ place. RefineBoth (unsigned number) shape place) at))
body_rest input before text type.RefineLibrary place at is unstarted =
    same_field (read_body input before type.RefineLibrary at) (field.Match (reference.Refine use_of.Library)) place
    (λ p. from_number input before text p at) is
    (refined_rest input before use_of.Library _ at (λ number shape at. refl))
body_rest input before text type.RefineImage place at is unstarted =
    same_field (read_body input before type.RefineImage at) (field.Match (reference.Refine use_of.Image)) place (λ p. from_number input before text p at) is
    (refined_rest input before use_of.Image _ at (λ number shape at. place_rest input before shape (λ place. RefineImage (unsigned number) shape place) at))
body_rest input before text type.Copy place at is unstarted =
    same_field (read_body input before type.Copy at) (field.Match reference.Copy) place (λ p. from_number input before text p at) is
    (copy_rest input before at)
body_rest input before text type.Plain place at is unstarted =
    same_field (read_body input before type.Plain at) (field.OwnWidth use_of.Plain) place (λ p. from_number input before text p at) is
    (plain_rest input before at)
body_rest input before text type.Require place at is unstarted =
    same_field (read_body input before type.Require at) field.InheritedCount place (λ p. from_number input before text p at) is
    (ap (λ (b : Bool). read_require input b at) (unstarted refl))
body_rest input before text type.Comment place at is unstarted = same_field (read_body input before type.Comment at) field.CommentLength place
    (λ p. from_number input before text p at) is refl
body_rest input before text type.End place at is unstarted = absurd (cc)

-- ---- behind a number

-- one is refused
pub refused_by : (input : Input) (found : Input → List Record → Option FaultKind) (rest : Input → List Record → List ℕ → Coder → Read Record)
    (machine : Machine) (kind : FaultKind) (told : Option FaultKind) →
    (c : Stays input (λ later before text at. checked (found later before) at (λ at. rest later before text at)) machine) → told ≡ Some kind →
    told ≡ found input c.before → Answers input (answer.Refused kind) machine
refused_by input found rest machine kind told c some is = refused input found rest machine kind c (sym is ∙ some)

pub at_goal : (input : Input) (goal other : Reference) (number : ℕ) (machine : Machine) → goal ≡ other → Stays input
    (λ later before text at. from_matched later before goal number at) machine →
    Stays input (λ later before text at. from_matched later before other number at) machine
at_goal input goal other number machine same c = subst (λ (g : Reference). Stays input
    (λ later before text at. from_matched later before g number at) machine) same c

pub at_use : (input : Input) (made : Origin) (kept other : Use) (shape : Pixels) (machine : Machine) → kept ≡ other → Stays input
    (λ later before text at. from_shape later before made kept shape at) machine →
    Stays input (λ later before text at. from_shape later before made other shape at) machine
at_use input made kept other shape machine same c = subst (λ (u : Use). Stays input
    (λ later before text at. from_shape later before made u shape at) machine) same c

pub at_bytes : (input : Input) (count other : ℕ) (bytes : List ℕ → List ℕ) (machine : Machine) → count ≡ other →
    (c : Stays input (λ later before text at. read_bytes later.chunk count (bytes text) at) machine) →
    Stays input (λ later before text at. read_bytes later.chunk other text at) machine
at_bytes input count other bytes machine same c =
    along input (λ later before text at. read_bytes later.chunk count (bytes text) at) (λ later before text at. read_bytes later.chunk other text at)
    (λ before at. Stands input.chunk at machine.coder)
    machine.library machine.picture machine.units c (bytes c.text) (λ later. ap (λ (n : ℕ). read_bytes later n (bytes c.text) c.at) same)

-- no byte of a comment is left
pub text_adds : (input : Input) (machine : Machine) (c : Stays input (λ later before text at. read_bytes later.chunk 0 text at) machine) → Adds input machine
text_adds input machine c = record {
  before = c.before;
  entry = Comment c.text;
  at = c.at;
  goes = λ later becomes. let was : Follows (with_chunk input later) c.before c.at (Got (Comment c.text) c.at) = c.goes later becomes in was;
  stands = c.stands_there;
  keeps = keeps_comment input c.before machine.library c.text c.keeps;
  draws = draws_on input c.before machine.picture (Comment c.text) refl c.draws;
  count = c.count;
  others = refl;
}

-- ---- how long it goes on
