-- What the reader of a file answers, by what its reading came to.
use Rattle.std.proofs.Common.{◌≡◌, ◌≢◌, ◌≤◌, ◌<◌, ◌+◌, ℕ, suc, Option, Some, None, List, [], ◌∷◌, ◌++◌, length, take, refl, sym, ap, ◌∙◌, subst, arith, append_assoc}
use Rattle.std.proofs.lemmas.List.{append-nil, length-append}
use Rattle.std.proofs.lemmas.Grind.{common_steps}
use Rattle.djvu_base.specs.Meter.{ticked, TicksExactly}
use Rattle.layer_compose.specs.declared.layers.Layers.{Layers}
use Rattle.page_decoder.specs.declared.file_reader.FileReader.{FileReader}
use Rattle.page_decoder.specs.declared.decoder.PageStep.{PageStep}
use Rattle.page_decoder.specs.declared.decoder.PageStep.TheVariants as step
use Rattle.page_decoder.specs.Given.{Given, Front}
use Rattle.page_decoder.specs.PageRead.{Drawing, notice_of, last_layers, Ending, Finished, Refused, NeedBytes, NeedOutline, NeedFile, Told, Left, PageRead, in_force}
use Rattle.page_decoder.specs.Read.{read}
use Rattle.page_decoder.specs.Decoder.{Draws, Ends, entry_at, next_entry, answer_at, answer_to, decisions_to, drawn_with, Shows}
use Rattle.page_decoder.specs.FileReading.{decisions_in, dictionary_in, IsPause, StandsBefore, Answers, ComesTo}
use Rattle.page_decoder.proofs.Entries.{entry_behind, last_entry, told_front}

-- fewer decisions tick no more
pub ticks_within : (less more : ℕ) → less ≤ more → ticked less 0 ≤ ticked more 0
ticks_within less more h = grind (arith, common_steps)

pub exact_within : (all most now : ℕ) → all ≤ most → TicksExactly all 0 now → now ≤ ticked most 0
exact_within all most now h e = let w = ticks_within all most h in omega (arith, w, e)

same_answer : (end : Ending) (drawn : ℕ) → drawn_with (answer_at end) drawn ≡ drawn
same_answer Finished drawn = refl
same_answer (Refused fault) drawn = refl
same_answer NeedBytes drawn = refl
same_answer (NeedOutline file) drawn = refl
same_answer (NeedFile file) drawn = refl

finished_is : (end : Ending) → answer_at end ≡ step.Finished → end ≡ Finished
finished_is Finished e = refl
finished_is (Refused fault) e = absurd (cc)
finished_is NeedBytes e = absurd (cc)
finished_is (NeedOutline file) e = absurd (cc)
finished_is (NeedFile file) e = absurd (cc)

-- the layers behind the drawings that were told are the last one's
pub shows_front : (layers : Option Layers) (drawn : ℕ) (told : List Drawing) (all : Told) → drawn ≡ length told → Front told all.drawings
    → layers ≡ last_layers told → Shows layers drawn all
shows_front layers drawn told all d f l =
    let within : length told ≤ length all.drawings = let e = ap length f.1 ∙ length-append told f.0 in omega (arith, e) in (
      omega (arith, d, within),
      l ∙ ap last_layers (sym (told_front told f.0) ∙ ap (λ xs. take (length told) xs) (sym f.1) ∙ ap (λ n. take n all.drawings) (sym d)),
    )

-- where the reading ends here
pub ends_answer : (given : Given) (rest : List ℕ) (before after : FileReader) (left : Left) (end : Ending) → read given ≡ record { left = left; end = end }
    → before.drawn ≡ length left.told.drawings → after.drawn ≡ before.drawn → TicksExactly left.told.decisions 0 (decisions_in after)
    → after.kept.layers ≡ last_layers left.told.drawings
    → (end ≡ Finished → in_force left.decoded ≡ dictionary_in after) → (IsPause (answer_at end) → StandsBefore given rest after)
    → Answers given rest (answer_at end) before after
ends_answer given rest before after left end r d a t l f p =
    let here : PageRead = record { left = left; end = end } in
    let entry : next_entry (read given) before.drawn ≡ Ends end =
    ap (λ x. next_entry x before.drawn) r ∙ ap (λ n. entry_at left.told.drawings n end) d ∙ last_entry left.told.drawings end in
    let all : (read given).left.told.decisions ≡ left.told.decisions = ap (λ x. x.left.told.decisions) r in
    record {
      told = λ n. sym (ap answer_to entry);
      decisions = λ n. t ∙ ap (λ m. ticked m 0) (sym (ap (λ e. decisions_to e (read given)) entry ∙ all));
      at_most = exact_within left.told.decisions (read given).left.told.decisions (decisions_in after) (omega (arith, all)) t;
      drawn = a ∙ sym (same_answer end before.drawn);
      shows = subst (λ x. Shows after.kept.layers after.drawn x.left.told) (sym r)
          (shows_front after.kept.layers after.drawn left.told.drawings left.told (a ∙ d) ([], sym (append-nil left.told.drawings)) l);
      finished = λ e. ap (λ x. in_force x.left.decoded) r ∙ f (finished_is end e);
      pauses = p;
    }

-- where there was no memory behind this
pub memory_answer : (given : Given) (rest : List ℕ) (before after : FileReader) (told : Told) (decisions : ℕ)
    → Front told.drawings (read given).left.told.drawings → decisions ≤ (read given).left.told.decisions
    → before.drawn ≡ length told.drawings → after.drawn ≡ before.drawn → decisions_in after ≤ ticked decisions 0
    → after.kept.layers ≡ last_layers told.drawings
    → Answers given rest step.OutOfMemory before after
memory_answer given rest before after told decisions f n d a t l =
    let within = ticks_within decisions (read given).left.told.decisions n in
    record {
      told = λ no. absurd (no refl);
      decisions = λ no. absurd (no refl);
      at_most = omega (arith, t, within);
      drawn = a;
      shows = shows_front after.kept.layers after.drawn told.drawings (read given).left.told (a ∙ d) f l;
      finished = λ e. absurd (cc);
      pauses = λ e. absurd e;
    }

behind_last : (drawings : List Drawing) (drawing : Drawing) → last_layers (drawings ++ drawing ∷ []) ≡ Some drawing.layers
behind_last [] drawing = refl
behind_last (first ∷ []) drawing = refl
behind_last (first ∷ next ∷ drawings) drawing = behind_last (next ∷ drawings) drawing

-- where a drawing comes next
pub drew_answer : (given : Given) (rest : List ℕ) (before after : FileReader) (told : List Drawing) (drawing : Drawing)
    → Front (told ++ drawing ∷ []) (read given).left.told.drawings → drawing.decisions ≤ (read given).left.told.decisions
    → before.drawn ≡ length told → after.drawn ≡ suc before.drawn → TicksExactly drawing.decisions 0 (decisions_in after)
    → after.kept.layers ≡ Some drawing.layers → StandsBefore given rest after
    → Answers given rest (step.Drew (notice_of drawing)) before after
drew_answer given rest before after told drawing f n d a t l s =
    let all : (read given).left.told.drawings ≡ told ++ (drawing ∷ f.0) = f.1 ∙ append_assoc told (drawing ∷ []) f.0 in
    let entry : next_entry (read given) before.drawn ≡ Draws drawing =
    ap (λ xs. entry_at xs before.drawn (read given).end) all ∙ ap (λ k. entry_at (told ++ (drawing ∷ f.0)) k (read given).end) d
    ∙ entry_behind told (drawing ∷ f.0) (read given).end in
    let many : after.drawn ≡ length (told ++ drawing ∷ []) =
    let e : length (told ++ drawing ∷ []) ≡ length told + 1 = length-append told (drawing ∷ []) in omega (arith, a, d, e) in
    record {
      told = λ no. sym (ap answer_to entry);
      decisions = λ no. t ∙ ap (λ m. ticked m 0) (sym (ap (λ e. decisions_to e (read given)) entry));
      at_most = exact_within drawing.decisions (read given).left.told.decisions (decisions_in after) n t;
      drawn = a;
      shows = shows_front after.kept.layers after.drawn (told ++ drawing ∷ []) (read given).left.told many f (l ∙ sym (behind_last told drawing));
      finished = λ e. absurd (cc);
      pauses = λ e. s;
    }

-- it is the same for a reader that told as many drawings
pub comes_same : (given : Given) (rest : List ℕ) (answer : Option PageStep) (before other after : FileReader) → before.drawn ≡ other.drawn
    → ComesTo given rest answer before after → ComesTo given rest answer other after
comes_same given rest None before other after d m = record { drawn = m.drawn ∙ d; stands = m.stands }
comes_same given rest (Some answer) before other after d m = record {
  told = λ no. m.told no ∙ ap (λ n. answer_to (next_entry (read given) n)) d;
  decisions = λ no. subst (λ n. TicksExactly (decisions_to (next_entry (read given) n) (read given)) 0 (decisions_in after)) d (m.decisions no);
  at_most = m.at_most;
  drawn = m.drawn ∙ ap (drawn_with answer) d;
  shows = m.shows;
  finished = m.finished;
  pauses = m.pauses;
}
