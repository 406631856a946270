use Rattle.std.proofs.Common.{◌≡◌, ◌≢◌, ◌≤◌, ℕ, Some, List, [], drop, inl, inr, refl, sym, ap, ◌∙◌, subst}
use Rattle.std.specs.Arc.{arc_value}
use Rattle.djvu_base.specs.Library.{Open, mark_of}
use Rattle.djvu_base.specs.Meter.{ticked}
use Rattle.zp_table.specs.declared.rows.Row.{Row}
use Rattle.zp_table.specs.Rows.{IsTable}
use Rattle.page_decoder.specs.declared.decoder.PageStep.TheVariants as step
use Rattle.page_decoder.specs.declared.roles.Role.TheVariants as file_role
use Rattle.page_decoder.specs.Given.{Known, Given, Within}
use Rattle.page_decoder.specs.PageRead.{PageRead}
use Rattle.page_decoder.specs.Read.{read, done_by}
use Rattle.page_decoder.specs.Resolving.{home_of, known_of, result_in}
use Rattle.page_decoder.specs.Decoder.{RiseTogether}
use Rattle.page_decoder.specs.FileDecoding.{included, gift_of}
use Rattle.page_decoder.specs.FileReading.{IsGiven, Answers, decisions_in}
use Rattle.page_decoder.proofs.Gifts.{Laws, same_reading, gives, counts, closed_end}
use Rattle.page_decoder.proofs.file_decoding.decode_done.Goals as goal

pub run-answer-requires-clause-ready : goal.run-answer-requires-clause-ready
run-answer-requires-clause-ready g c =
    let rows = arc_value c.args.table in
    let names : List (List ℕ) = c.args.names.now in
    let known : Known = known_of [] c.args.results.now in
    let before : Given = record { home = home_of file_role.Included rows names c.args.file; known = known; bytes = []; mark = Open } in
    let given : Given = included rows names c.args.file known c.args.bytes.now (mark_of c.args.end) in
    let within : Within before given = record {
      home = refl;
      known = record { outlines = λ file outline e. e; results = λ file found e. e };
      bytes = inl (refl, (c.args.bytes.now, refl));
    } in
    let is : IsGiven names [] c.args.results.now c.args.bytes.now (Some c.args.end) before given =
    record { names_are = refl; known_is = refl; within = within; bytes_are = refl; mark_is = refl } in
    let stands = c.new-reader.ensures.stands names known in
    record { before = before; given = given; is_given = is; stands = stands }

pub returns-clause-result : goal.returns-clause-result
returns-clause-result g c some other knows =
    let rows = arc_value c.args.table in
    let names : List (List ℕ) = c.args.names.now in
    let known : Known = known_of [] c.args.results.now in
    let before : Given = record { home = home_of file_role.Included rows names c.args.file; known = known; bytes = []; mark = Open } in
    let given : Given = included rows names c.args.file known c.args.bytes.now (mark_of c.args.end) in
    let within : Within before given = record {
      home = refl;
      known = record { outlines = λ file outline e. e; results = λ file found e. e };
      bytes = inl (refl, (c.args.bytes.now, refl));
    } in
    let is : IsGiven names [] c.args.results.now c.args.bytes.now (Some c.args.end) before given =
    record { names_are = refl; known_is = refl; within = within; bytes_are = refl; mark_is = refl } in
    let stands = c.new-reader.ensures.stands names known in
    let told : Answers given (drop c.run-answer.result.0 c.args.bytes.now) c.run-answer.result.1 c.new-reader.result c.run-answer.new.self =
    c.run-answer.ensures.answers before given is stands in
    let laws : Laws = record {
      finished = c.growth.ensures.finished;
      refused = c.growth.ensures.refused;
      unmet = c.growth.ensures.unmet;
      because = c.needs.ensures.because;
      file = c.needs.ensures.file;
      closed = c.needs.ensures.closed;
    } in
    let later : Given = included rows names c.args.file other c.args.bytes.now (mark_of c.args.end) in
    let goes : Within given later = record {
      home = refl;
      known = record { outlines = λ file outline e. absurd (cc); results = λ file found e. knows.results_are file ∙ e };
      bytes = inr (refl, refl);
    } in
    let is_table : IsTable (arc_value c.args.table) = subst (λ (t : List Row). IsTable t) c.deref.ensures c.len.ensures.table in
    let same : read later ≡ read given =
    same_reading laws given later is_table goes refl (closed_end c.args.end) (λ file. sym (knows.results_are file)) in
    let gift : c.result_at.result ≡ gift_of c.run-answer.result.1 c.dictionary.result.now = c.result_at.ensures some in
    let able : c.run-answer.result.1 ≢ step.OutOfMemory = λ e. some (gift ∙ ap (λ a. gift_of a c.dictionary.result.now) e) in
    ap result_in (gift ∙ ap (λ d. gift_of c.run-answer.result.1 d) c.dictionary.ensures)
    ∙ gives given (drop c.run-answer.result.0 c.args.bytes.now) c.run-answer.result.1 c.new-reader.result c.run-answer.new.self refl
    c.new-reader.ensures.drawn told able
    ∙ ap (λ (r : PageRead). Some (done_by r).result) (sym same)

pub returns-clause-decisions : goal.returns-clause-decisions
returns-clause-decisions g c some other knows =
    let rows = arc_value c.args.table in
    let names : List (List ℕ) = c.args.names.now in
    let known : Known = known_of [] c.args.results.now in
    let before : Given = record { home = home_of file_role.Included rows names c.args.file; known = known; bytes = []; mark = Open } in
    let given : Given = included rows names c.args.file known c.args.bytes.now (mark_of c.args.end) in
    let within : Within before given = record {
      home = refl;
      known = record { outlines = λ file outline e. e; results = λ file found e. e };
      bytes = inl (refl, (c.args.bytes.now, refl));
    } in
    let is : IsGiven names [] c.args.results.now c.args.bytes.now (Some c.args.end) before given =
    record { names_are = refl; known_is = refl; within = within; bytes_are = refl; mark_is = refl } in
    let stands = c.new-reader.ensures.stands names known in
    let told : Answers given (drop c.run-answer.result.0 c.args.bytes.now) c.run-answer.result.1 c.new-reader.result c.run-answer.new.self =
    c.run-answer.ensures.answers before given is stands in
    let laws : Laws = record {
      finished = c.growth.ensures.finished;
      refused = c.growth.ensures.refused;
      unmet = c.growth.ensures.unmet;
      because = c.needs.ensures.because;
      file = c.needs.ensures.file;
      closed = c.needs.ensures.closed;
    } in
    let later : Given = included rows names c.args.file other c.args.bytes.now (mark_of c.args.end) in
    let goes : Within given later = record {
      home = refl;
      known = record { outlines = λ file outline e. absurd (cc); results = λ file found e. knows.results_are file ∙ e };
      bytes = inr (refl, refl);
    } in
    let is_table : IsTable (arc_value c.args.table) = subst (λ (t : List Row). IsTable t) c.deref.ensures c.len.ensures.table in
    let same : read later ≡ read given =
    same_reading laws given later is_table goes refl (closed_end c.args.end) (λ file. sym (knows.results_are file)) in
    let gift : c.result_at.result ≡ gift_of c.run-answer.result.1 c.dictionary.result.now = c.result_at.ensures some in
    let able : c.run-answer.result.1 ≢ step.OutOfMemory = λ e. some (gift ∙ ap (λ a. gift_of a c.dictionary.result.now) e) in
    c.decisions.ensures
    ∙ counts given (drop c.run-answer.result.0 c.args.bytes.now) c.run-answer.result.1 c.new-reader.result c.run-answer.new.self refl
    c.new-reader.ensures.drawn told able
    ∙ ap (λ (r : PageRead). ticked r.left.told.decisions 0) (sym same)

pub returns-clause-at_most : goal.returns-clause-at_most
returns-clause-at_most g c other knows =
    let rows = arc_value c.args.table in
    let names : List (List ℕ) = c.args.names.now in
    let known : Known = known_of [] c.args.results.now in
    let before : Given = record { home = home_of file_role.Included rows names c.args.file; known = known; bytes = []; mark = Open } in
    let given : Given = included rows names c.args.file known c.args.bytes.now (mark_of c.args.end) in
    let within : Within before given = record {
      home = refl;
      known = record { outlines = λ file outline e. e; results = λ file found e. e };
      bytes = inl (refl, (c.args.bytes.now, refl));
    } in
    let is : IsGiven names [] c.args.results.now c.args.bytes.now (Some c.args.end) before given =
    record { names_are = refl; known_is = refl; within = within; bytes_are = refl; mark_is = refl } in
    let stands = c.new-reader.ensures.stands names known in
    let told : Answers given (drop c.run-answer.result.0 c.args.bytes.now) c.run-answer.result.1 c.new-reader.result c.run-answer.new.self =
    c.run-answer.ensures.answers before given is stands in
    let laws : Laws = record {
      finished = c.growth.ensures.finished;
      refused = c.growth.ensures.refused;
      unmet = c.growth.ensures.unmet;
      because = c.needs.ensures.because;
      file = c.needs.ensures.file;
      closed = c.needs.ensures.closed;
    } in
    let later : Given = included rows names c.args.file other c.args.bytes.now (mark_of c.args.end) in
    let goes : Within given later = record {
      home = refl;
      known = record { outlines = λ file outline e. absurd (cc); results = λ file found e. knows.results_are file ∙ e };
      bytes = inr (refl, refl);
    } in
    let is_table : IsTable (arc_value c.args.table) = subst (λ (t : List Row). IsTable t) c.deref.ensures c.len.ensures.table in
    let same : read later ≡ read given =
    same_reading laws given later is_table goes refl (closed_end c.args.end) (λ file. sym (knows.results_are file)) in
    subst (λ (n : ℕ). n ≤ ticked (read later).left.told.decisions 0) (sym c.decisions.ensures)
    (subst (λ (r : PageRead). decisions_in c.run-answer.new.self ≤ ticked r.left.told.decisions 0) (sym same) told.at_most)

pub returns-clause-rise : goal.returns-clause-rise
returns-clause-rise g c =
    subst (λ (n : ℕ). RiseTogether 0 n (g.M.Meter.count c.args.meter.now) (g.M.Meter.count c.run-answer.new.meter)) (sym c.decisions.ensures)
    (subst (λ (n : ℕ). RiseTogether n (decisions_in c.run-answer.new.self) (g.M.Meter.count c.args.meter.now) (g.M.Meter.count c.run-answer.new.meter))
    c.new-reader.ensures.decisions c.run-answer.ensures.rise)
