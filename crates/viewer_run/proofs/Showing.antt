-- The texts of files that are listed, and the failures that were met.
use Rattle.std.proofs.Common.{◌≡◌, ℕ, ◌+◌, Bool, true, false, cond, ◌||◌, Some, None, Result, Ok, Err, IsErr, IfOk, List, [], ◌∷◌, ◌++◌, length, take, refl, sym, ap, ◌∙◌, subst, arith}
use Rattle.std.specs.Str.{bytes_eq}
use Rattle.std.proofs.lemmas.Bool.{true≢false}
use Rattle.std.proofs.lemmas.Slice.Eq.{bytes_eq-Decides}
use Rattle.std.proofs.lemmas.List.{append-nil}
use Rattle.djvu_base.specs.Library.{File, Files, Whole, Broken, file_limit}
use Rattle.djvu_outside.specs.Faults.{Failure, Reading}
use Rattle.djvu_outside.specs.Reading.{bytes_in}
use Rattle.viewer_run.specs.declared.shown.Shown.{Shown}
use Rattle.djvu_base.specs.declared.ends.FileEnd.{FileEnd}
use Rattle.djvu_base.specs.declared.ends.FileEnd.TheVariants as file_end
use Rattle.djvu_outside.specs.declared.stops.Stop.{Stop}
use Rattle.djvu_outside.specs.FileReads.{IsReadTo}
use Rattle.djvu_outside.specs.Cut.{cut_at}
use Rattle.djvu_outside.specs.Puts.{Put, Sinks, GivesBoth}
use Rattle.viewer_run.specs.Listed.{file_of, file_read, texts_by, texts_named, Lists}
use Rattle.viewer_run.specs.Shown.{lists_first, NamesOnly, HasBroken}
use Rattle.viewer_run.specs.Texts.{Texts, no_texts, joined}
use Rattle.djvu_base.specs.Library.{mark_of}
use Rattle.djvu_outside.specs.FileReads.{is_broken}
use Rattle.djvu_outside.proofs.Lemmas.{puts_same, stops_first}

pub same_name : (name : List ℕ) → bytes_eq name name ≡ true
same_name name = (bytes_eq-Decides name name).1 refl

-- what the reading of a file came to, by the failures that it added
pub record IsReadWith (files : Files) (name bytes : List ℕ) (end : FileEnd) (old new : List Failure) : Type 0 where
  pub added : List Failure
  pub grown : new ≡ old ++ added
  pub only : NamesOnly (name ∷ []) added
  pub after : lists_first added ≡ false
  pub file : file_of files added name ≡ record { name = name; bytes = bytes; mark = mark_of end }
  pub broken : HasBroken (is_broken end) added

not_other : (other : Bool) (count : ℕ) → (other || false) ≡ false → cond other (Some count) None ≡ None
not_other true count e = absurd (true≢false e)
not_other false count e = refl

pub read_with : (files : Files) (name bytes : List ℕ) (end : FileEnd) (old new : List Failure)
    → IsReadTo end bytes (take file_limit (bytes_in files name)) name 0 old new → IsReadWith files name bytes end old new
read_with files name bytes file_end.Whole old new r = record {
  added = [];
  grown = r.1 ∙ sym (append-nil old);
  only = λ other e. refl;
  after = refl;
  file = ap (λ b. let f : File = record { name = name; bytes = b; mark = Whole } in f) (sym r.0);
  broken = refl;
}
read_with files name bytes file_end.Broken old new r =
    let count : 0 + length bytes ≡ length bytes = omega arith in
    record {
      added = Reading name (length bytes) ∷ [];
      grown = r.1 ∙ ap (λ n. old ++ Reading name n ∷ []) count;
      after = refl;
      only = λ other e. not_other (bytes_eq other name) (length bytes) e;
      file =
          ap (λ t. cut_at (cond t (Some (length bytes)) None) (record { name = name; bytes = take file_limit (bytes_in files name); mark = Whole }))
          (same_name name)
          ∙ ap (λ b. let f : File = record { name = name; bytes = b; mark = Broken } in f) (sym r.0);
      broken = λ e. cc;
    }

-- a file that was listed, or a prefix of its lines
pub lists_page : (files : Files) (name bytes : List ℕ) (end : FileEnd) (put : Result Bool Stop) (result : Result Shown Stop)
    (before after : List Failure) (told_before told_after : Sinks)
    → IsReadWith files name bytes end before after
    → ((puts : List Put) → GivesBoth put puts told_before told_after → GivesBoth result puts told_before told_after)
    → GivesBoth put (texts_by (file_read name bytes end)).puts told_before told_after
    → IfOk result (λ shown. (shown.refused ≡ (texts_by (file_read name bytes end)).refused) × (shown.broken ≡ is_broken end))
    → Lists files (name ∷ []) result before after told_before told_after
lists_page files name bytes end put result before after told_before told_after w for_result gave done =
    let here = texts_by (file_read name bytes end) in
    record {
      added = w.added;
      grown = w.grown;
      only = w.only;
      reads = w.after;
      puts =
          puts_same result here.puts (texts_named files w.added (name ∷ [])).puts told_before told_after
          (sym (ap (λ (t : Texts). t.puts) texts ∙ append-nil here.puts)) (for_result here.puts gave);
      refused = by_refused result done;
      broken = by_broken result done;
    }
  where
    -- the texts of a file that was read so
    texts : texts_named files w.added (name ∷ []) ≡ joined (texts_by (file_read name bytes end)) no_texts
    texts = ap (λ f. joined (texts_by f) no_texts) w.file

    or_false : (b : Bool) → (b || false) ≡ b
    or_false true = refl
    or_false false = refl

    by_refused : (result : Result Shown Stop)
        → IfOk result (λ shown. (shown.refused ≡ (texts_by (file_read name bytes end)).refused) × (shown.broken ≡ is_broken end))
        → IfOk result (λ shown. shown.refused ≡ (texts_named files w.added (name ∷ [])).refused)
    by_refused (Ok shown) d = d.0 ∙ sym (ap (λ (t : Texts). t.refused) texts ∙ or_false (texts_by (file_read name bytes end)).refused)
    by_refused (Err stop) d = tt

    by_broken : (result : Result Shown Stop)
        → IfOk result (λ shown. (shown.refused ≡ (texts_by (file_read name bytes end)).refused) × (shown.broken ≡ is_broken end))
        → IfOk result (λ shown. HasBroken shown.broken w.added)
    by_broken (Ok shown) d = subst (λ b. HasBroken b w.added) (sym d.1) w.broken
    by_broken (Err stop) d = tt

-- a file that wasn't read
pub lists_nothing : (files : Files) (name : List ℕ) (result : Result Shown Stop) (before after : List Failure) (told : Sinks) → IsErr result → after ≡ before
    → Lists files (name ∷ []) result before after told told
lists_nothing files name (Ok drawn) before after told is_err e = absurd (cc)
lists_nothing files name (Err stop) before after told is_err e = record {
  added = [];
  grown = e ∙ sym (append-nil before);
  only = λ other n. refl;
  reads = refl;
  puts = stops_first (texts_named files [] (name ∷ [])).puts told;
  refused = tt;
  broken = tt;
}

-- a part that stops gives what it gave
pub gives_err : (put : Result Bool Stop) (fault : Stop) (result : Result Shown Stop) → put ≡ Err fault → IsErr result → (before after : Sinks) (puts : List Put)
    → GivesBoth put puts before after → GivesBoth result puts before after
gives_err put fault (Ok drawn) e is_err before after puts g = absurd (cc)
gives_err put fault (Err stop) e is_err before after puts g = subst (λ p. GivesBoth p puts before after) e g

pub gives_ok : (put : Result Bool Stop) (refused : Bool) (drawn : Shown) → put ≡ Ok refused → (before after : Sinks) (puts : List Put)
    → GivesBoth put puts before after → GivesBoth {T = Shown} (Ok drawn) puts before after
gives_ok put refused drawn e before after puts g = subst (λ p. GivesBoth p puts before after) e g

pub done_err : (result : Result Shown Stop) (refused broken : Bool) → IsErr result → IfOk result (λ drawn. (drawn.refused ≡ refused) × (drawn.broken ≡ broken))
done_err (Ok drawn) refused broken is_err = absurd (cc)
done_err (Err stop) refused broken is_err = tt
