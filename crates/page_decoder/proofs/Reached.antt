-- What a page's decoder stands at when its reader went on.
use Rattle.std.proofs.Common.{◌≡◌, ◌≢◌, ◌≤◌, ◌<◌, ℕ, Option, Some, None, List, [], ◌∷◌, ◌++◌, drop, false, refl, sym, ap, ◌∙◌, subst, arith}
use Rattle.std.specs.Arc.{arc_value}
use Rattle.djvu_base.specs.Meter.{TicksExactly, ticked}
use Rattle.zp_table.specs.declared.rows.Row.{Row}
use Rattle.zp_table.specs.Rows.{IsTable}
use Rattle.djvu_base.specs.Library.{Open}
use Rattle.include_graph.specs.declared.outline.Outline.{Outline}
use Rattle.jb2_records.specs.declared.results.FileResult.{FileResult}
use Rattle.page_decoder.specs.declared.file_reader.FileReader.{FileReader}
use Rattle.page_decoder.specs.declared.file_reader.Stage.{Stage}
use Rattle.page_decoder.specs.declared.file_reader.Stage.TheVariants as stage
use Rattle.page_decoder.specs.declared.decoder.PageStep.{PageStep}
use Rattle.page_decoder.specs.declared.decoder.PageStep.TheVariants as step
use Rattle.page_decoder.specs.declared.decoder.Standing.{Standing}
use Rattle.page_decoder.specs.declared.decoder.Standing.TheVariants as standing
use Rattle.page_decoder.specs.Given.{Page, Home, Known, Given}
use Rattle.page_decoder.specs.PageRead.{Ending, Finished, Refused, NeedBytes, NeedOutline, NeedFile, PageRead}
use Rattle.page_decoder.specs.Read.{read}
use Rattle.page_decoder.specs.Resolving.{home_of, known_by}
use Rattle.page_decoder.specs.Decoder.{KnowsNothing, Entry, Draws, Ends, next_entry, answer_at, answer_to, decisions_to, drawn_with, end_with, Shows}
use Rattle.page_decoder.specs.FileReading.{IsOf, Stands, StandsAt as StandsThere, StandsBefore, IsGiven, IsReady, Answers, decisions_in}
use Rattle.page_decoder.specs.PageFed.{Kept, with_known, GoesOn, StandsAt, FedBy, IsFed, stands_by, is_failed, standing_at, decoding_of}
use Rattle.page_decoder.proofs.GoingOn.{within_same}
use Rattle.page_decoder.proofs.Decoding.{GrowthLaws, read_same, fed_table}

-- an answer tells at which end the page stands

end_with_at : (end : Ending) → end_with (answer_at end) ≡ Some end
end_with_at Finished = refl
end_with_at (Refused fault) = refl
end_with_at NeedBytes = refl
end_with_at (NeedOutline file) = refl
end_with_at (NeedFile file) = refl

one_end : (a b : Ending) → Some a ≡ Some b → a ≡ b
one_end a b e = let same : Some a ≡ Some b = e in cc

entry_is : (entry : Entry) (end : Ending) → answer_at end ≡ answer_to entry → entry ≡ Ends end
entry_is (Draws drawing) end e = let wrong : Some end ≡ None = sym (end_with_at end) ∙ ap end_with e in absurd (cc)
entry_is (Ends other) end e = ap Ends (sym (one_end end other (sym (end_with_at end) ∙ ap end_with e ∙ end_with_at other)))

pub stands_at : (answer : PageStep) → stands_by (standing_at answer) ≡ end_with answer
stands_at (step.Drew notice) = refl
stands_at step.NeedBytes = refl
stands_at (step.NeedOutline file) = refl
stands_at (step.NeedFile file) = refl
stands_at step.Finished = refl
stands_at (step.Refused fault) = refl
stands_at step.OutOfMemory = refl

pub reads_at : (answer : PageStep) → answer ≢ step.OutOfMemory → is_failed (standing_at answer) ≡ false
reads_at (step.Drew notice) some = refl
reads_at step.NeedBytes some = refl
reads_at (step.NeedOutline file) some = refl
reads_at (step.NeedFile file) some = refl
reads_at step.Finished some = refl
reads_at (step.Refused fault) some = refl
reads_at step.OutOfMemory some = absurd (some refl)

-- what is given to the reader

pub reader_given : (kept : Kept) (given : Given) (goes : GoesOn given kept) → IsFed given (decoding_of kept)
    → IsGiven kept.names kept.others.outlines kept.others.results kept.unread kept.end goes.before (with_known (known_by kept.others) given)
reader_given kept given goes fed = record {
  names_are = ap (λ (h : Home). h.names) fed.home_is;
  known_is = refl;
  within = goes.within;
  bytes_are = goes.bytes_are;
  mark_is = fed.mark_is;
}

pub goes_by : (given : Given) (kept : Kept) (at : Standing) → at ≡ standing.Going → FedBy at given kept → GoesOn given kept
goes_by given kept at going f = subst (λ s. FedBy s given kept) going f

pub reader_ready : (kept : Kept) (given : Given) → kept.standing ≡ standing.Going → IsFed given (decoding_of kept)
    → IsReady kept.names kept.others.outlines kept.others.results kept.unread kept.end kept.reader
reader_ready kept given going fed =
    let goes = goes_by given kept kept.standing going fed.by in
    record {
      before = goes.before;
      given = with_known (known_by kept.others) given;
      is_given = reader_given kept given goes fed;
      stands = goes.stands;
    }

-- what the reader's answer leaves

-- what the reader answers, where it was given the same in other words
pub told_so : (kept : Kept) (given : Given) (fed : IsFed given (decoding_of kept)) (goes : GoesOn given kept) (names : List (List ℕ))
    (outlines : List (Option Outline)) (results : List (Option FileResult)) (piece : List ℕ) → names ≡ kept.names → outlines ≡ kept.others.outlines
    → results ≡ kept.others.results → piece ≡ kept.unread → (after : FileReader) (used : ℕ) (answer : PageStep)
    → ((before now : Given) → IsGiven names outlines results piece kept.end before now → Stands before kept.reader
    → Answers now (drop used piece) answer kept.reader after)
    → Answers (with_known (known_by kept.others) given) (drop used kept.unread) answer kept.reader after
told_so kept given fed goes names outlines results piece n o r p after used answer runs =
    let now = with_known (known_by kept.others) given in
    let is = subst (λ x. IsGiven x outlines results piece kept.end goes.before now) (sym n)
    (subst (λ x. IsGiven kept.names x results piece kept.end goes.before now) (sym o)
    (subst (λ x. IsGiven kept.names kept.others.outlines x piece kept.end goes.before now) (sym r)
    (subst (λ x. IsGiven kept.names kept.others.outlines kept.others.results x kept.end goes.before now) (sym p) (reader_given kept given goes fed)))) in
    subst (λ x. Answers now (drop used x) answer kept.reader after) p (runs goes.before now is goes.stands)

abbrev pub ran : FileReader → List ℕ → PageStep → Kept → Kept
ran reader rest answer kept = record kept { reader = reader; unread = rest; standing = standing_at answer }

module _ (laws : GrowthLaws) (kept : Kept) (given : Given) (fed : IsFed given (decoding_of kept)) (goes : GoesOn given kept) (after : FileReader)
    (rest : List ℕ) where
  abbrev Told : PageStep → Type 0
  Told answer = Answers (with_known (known_by kept.others) given) rest answer kept.reader after

  same_reading : read (with_known (known_by kept.others) given) ≡ read given
  same_reading = read_same laws given (known_by kept.others) (fed_table laws given (decoding_of kept) fed) goes.same

  pub ran_answer : (answer : PageStep) → Told answer → answer ≢ step.OutOfMemory → answer ≡ answer_to (next_entry (read given) kept.reader.drawn)
  ran_answer answer a some = a.told some ∙ ap (λ r. answer_to (next_entry r kept.reader.drawn)) same_reading

  pub ran_decisions : (answer : PageStep) → Told answer → answer ≢ step.OutOfMemory
      → TicksExactly (decisions_to (next_entry (read given) kept.reader.drawn) (read given)) 0 (decisions_in after)
  ran_decisions answer a some =
      subst (λ (r : PageRead). TicksExactly (decisions_to (next_entry r kept.reader.drawn) r) 0 (decisions_in after)) same_reading (a.decisions some)

  ran_goes : (answer : PageStep) → StandsBefore (with_known (known_by kept.others) given) rest after → GoesOn given (ran after rest answer kept)
  ran_goes answer p = record { same = goes.same; before = p.now; within = p.within; bytes_are = p.bytes_are; stands = p.stands }

  ran_stands : (answer : PageStep) (end : Ending) → answer ≡ answer_at end → answer ≢ step.OutOfMemory → drawn_with answer kept.reader.drawn ≡ kept.reader.drawn
      → Told answer → StandsAt end given (ran after rest answer kept)
  ran_stands answer end is some same_drawn a =
      let entry = entry_is (next_entry (read given) kept.reader.drawn) end (sym is ∙ ran_answer answer a some) in
      record {
        told = ap (next_entry (read given)) (a.drawn ∙ same_drawn) ∙ entry;
        decisions = subst (λ e. TicksExactly (decisions_to e (read given)) 0 (decisions_in after)) entry (ran_decisions answer a some);
      }

  ran_by : (answer : PageStep) → Told answer → FedBy (standing_at answer) given (ran after rest answer kept)
  ran_by (step.Drew notice) a = ran_goes (step.Drew notice) (a.pauses tt)
  ran_by step.NeedBytes a = (ran_goes step.NeedBytes (a.pauses tt), ran_stands step.NeedBytes NeedBytes refl (λ e. cc) refl a)
  ran_by (step.NeedOutline file) a =
      (ran_goes (step.NeedOutline file) (a.pauses tt), ran_stands (step.NeedOutline file) (NeedOutline file) refl (λ e. cc) refl a)
  ran_by (step.NeedFile file) a = (ran_goes (step.NeedFile file) (a.pauses tt), ran_stands (step.NeedFile file) (NeedFile file) refl (λ e. cc) refl a)
  ran_by step.Finished a = ran_stands step.Finished Finished refl (λ e. cc) refl a
  ran_by (step.Refused fault) a = ran_stands (step.Refused fault) (Refused fault) refl (λ e. cc) refl a
  ran_by step.OutOfMemory a = tt

  pub ran_fed : (answer : PageStep) → Told answer
      → ((names : List (List ℕ)) → home_of after.role (arc_value after.table) names after.file
      ≡ home_of kept.reader.role (arc_value kept.reader.table) names kept.reader.file)
      → IsFed given (decoding_of (ran after rest answer kept))
  ran_fed answer a home =
      let is : given.home ≡ home_of after.role (arc_value after.table) kept.names after.file = fed.home_is ∙ sym (home kept.names) in
      record {
        home_is = is;
        mark_is = fed.mark_is;
        is_table = subst (λ (h : Home). IsTable h.table) is (fed_table laws given (decoding_of kept) fed);
        by = ran_by answer a;
        at_most = subst (λ (r : PageRead). decisions_in after ≤ ticked r.left.told.decisions 0) same_reading a.at_most;
        shows = subst (λ (r : PageRead). Shows after.kept.layers after.drawn r.left.told) same_reading a.shows;
      }

-- ---- a decoder of which nothing was fed

of_stands : (given : Given) (reader : FileReader) (at : Stage) → StandsThere given at reader → IsOf given reader
of_stands given reader stage.Walking s = s.of
of_stands given reader (stage.Before head) s = s.of
of_stands given reader stage.AtEnd s = s.of

abbrev first_given : List Row → List (List ℕ) → ℕ → Known → Given
first_given table names file known =
    record { home = record { role = Page; table = table; names = names; file = file }; known = known; bytes = []; mark = Open }

abbrev pub first_kept : List (List ℕ) → FileReader → ℕ → Kept
first_kept names reader count = record {
  names = names;
  reader = reader;
  others = record { count = count; outlines = []; results = [] };
  unread = [];
  end = None;
  standing = standing.Going;
}

module _ (table : List Row) (names : List (List ℕ)) (file : ℕ) (reader : FileReader) (count : ℕ)
    (stands : (names : List (List ℕ)) (known : Known) → Stands (first_given table names file known) reader) where
  pub first_home : (known : Known)
      → home_of reader.role (arc_value reader.table) names reader.file
      ≡ record { role = Page; table = table; names = names; file = file }
  first_home known = sym (of_stands (first_given table names file known) reader reader.stage (stands names known)).home_is

  pub new_fed : (known : Known) → KnowsNothing known → reader.drawn ≡ 0 → decisions_in reader ≡ 0 → reader.kept.layers ≡ None
      → IsFed (first_given table names file known) (decoding_of (first_kept names reader count))
  new_fed known nothing drawn decisions layers =
      let now = known_by (first_kept names reader count).others in
      let of = of_stands (first_given table names file known) reader reader.stage (stands names known) in
      record {
        home_is = of.home_is;
        mark_is = refl;
        is_table = subst (λ (h : Home). IsTable h.table) of.home_is of.is_table;
        by = record {
          same = record { outlines = nothing.outlines; results = nothing.results };
          before = first_given table names file now;
          within = within_same (first_given table names file now);
          bytes_are = refl;
          stands = stands names now;
        };
        at_most = subst (λ n. n ≤ ticked (read (first_given table names file known)).left.told.decisions 0) (sym decisions) (omega arith);
        shows = subst (λ n. Shows reader.kept.layers n (read (first_given table names file known)).left.told) (sym drawn) (omega arith, layers);
      }
