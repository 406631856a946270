-- The pages of a command, word by word.
use Rattle.std.proofs.Common.{◌≡◌, ◌≢◌, ℕ, ◌+◌, ◌<◌, ◌≤◌, Bool, true, false, cond, ◌&&◌, not, Ok, Err, List, [], ◌∷◌, ◌++◌, length, get_or, refl, sym, ap, ◌∙◌, subst, arith, length-append, append_assoc}
use Rattle.std.specs.List.{AllPairs, AllPass}
use Rattle.std.specs.Str.{bytes_eq}
use Rattle.std.proofs.Math.ListN.{get_or-append}
use Rattle.std.proofs.Math.Seq.{get_or-append_seam}
use Rattle.std.proofs.lemmas.Bool.{both_ways, false_from_ne_true, not-true, ltb-true, lt-ltb, le-ltb, and_parts, and_from, and_left}
use Rattle.std.proofs.lemmas.List.{append-nil}
use Rattle.std.proofs.lemmas.List.Elements.{All-push}
use Rattle.std.proofs.lemmas.List.Folds.{list_any_at, list_any_none}
use Rattle.std.proofs.lemmas.List.Quantifiers.{all_pairs_push}
use Rattle.std.proofs.lemmas.Slice.Eq.{bytes_eq-Decides}
use Rattle.djvu_base.specs.Name.{is_listed}
use Rattle.viewer_words.specs.Tables.{is_file_word}
use Rattle.viewer_words.specs.Words.{has_room, fits_after, pages_after}

-- pages that a command may have, if there is one
pub record IsGood (limit : ℕ) (pages : List (List ℕ)) : Type 0 where
  pub few : length pages ≤ limit
  pub words : AllPass is_file_word pages
  pub distinct : AllPairs (λ page later. page ≢ later) pages

pub record Fits (limit : ℕ) (pages : List (List ℕ)) (word : List ℕ) : Type 0 where
  pub room : length pages < limit
  pub page : is_file_word word ≡ true
  pub other : is_listed pages word ≡ false

-- what was taken: all words, and they are good
pub record IsTaken (limit : ℕ) (pages words all : List (List ℕ)) : Type 0 where
  pub same : all ≡ pages ++ words
  pub good : IsGood limit all

-- where words are refused: the pages before the word fit, and nothing that begins with them and the word does
pub record IsRefused (limit : ℕ) (first : ℕ) (pages words : List (List ℕ)) (number : ℕ) : Type 0 where
  pub front : List (List ℕ)
  pub word : List ℕ
  pub rest : List (List ℕ)
  pub parts : words ≡ front ++ (word ∷ rest)
  pub place : number ≡ first + (length pages + length front)
  pub before : pages_after limit first pages front ≡ Ok (pages ++ front)
  pub never : (more : List (List ℕ)) → pages_after limit first pages (front ++ (word ∷ more)) ≡ Err number

-- of a command that may name so many
module _ (limit : ℕ) where
  pub fits_from : (pages : List (List ℕ)) (word : List ℕ) → fits_after limit pages word ≡ true → Fits limit pages word
  fits_from pages word e =
      let all : ((has_room limit pages && is_file_word word) ≡ true) × (not (is_listed pages word) ≡ true) = and_parts (has_room limit pages && is_file_word word) (not (is_listed pages word)) e in
      let two : (has_room limit pages ≡ true) × (is_file_word word ≡ true) = and_parts (has_room limit pages) (is_file_word word) all.0 in
      record { room = ltb-true (length pages) limit two.0; page = two.1; other = not-true (is_listed pages word) all.1 }

  not_among : (pages : List (List ℕ)) (word : List ℕ) → is_listed pages word ≡ false → (k : ℕ) (d : List ℕ) → k < length pages → get_or pages k d ≢ word
  not_among pages word e k d h same = both_ways (is_listed pages word) e (list_any_at (bytes_eq word) pages k d h ((bytes_eq-Decides word (get_or pages k d)).1 (sym same)))

  pub good_push : (pages : List (List ℕ)) (word : List ℕ) → IsGood limit pages → Fits limit pages word → IsGood limit (pages ++ word ∷ [])
  good_push pages word good fits = record {
    few = let room : length pages < limit = fits.room in simp length-append (omega arith);
    words = All-push (λ w. is_file_word w ≡ true) pages word good.words fits.page;
    distinct = all_pairs_push (λ page later. page ≢ later) pages word good.distinct (not_among pages word fits.other);
  }

  taken_step : (first : ℕ) (pages words all : List (List ℕ)) (word : List ℕ) (t : Bool) → IsGood limit pages → fits_after limit pages word ≡ t
      → (IsGood limit (pages ++ word ∷ []) → pages_after limit first (pages ++ word ∷ []) words ≡ Ok all → IsTaken limit (pages ++ word ∷ []) words all)
      → cond t (pages_after limit first (pages ++ word ∷ []) words) (Err (first + length pages)) ≡ Ok all → IsTaken limit pages (word ∷ words) all
  taken_step first pages words all word true good fits more e =
      let taken : IsTaken limit (pages ++ word ∷ []) words all = more (good_push pages word good (fits_from pages word fits)) e in
      record { same = taken.same ∙ append_assoc pages (word ∷ []) words; good = taken.good }
  taken_step first pages words all word false good fits more e = cc

  pub taken : (first : ℕ) (pages words all : List (List ℕ)) → IsGood limit pages → pages_after limit first pages words ≡ Ok all → IsTaken limit pages words all
  taken first pages [] all good e =
      let same : pages ≡ all = cc in
      record { same = sym same ∙ sym (append-nil pages); good = subst (IsGood limit) same good }
  taken first pages (word ∷ words) all good e = taken_step first pages words all word (fits_after limit pages word) good refl (taken first (pages ++ word ∷ []) words all) e

  good_word : (pages words : List (List ℕ)) (word : List ℕ) → IsGood limit (pages ++ word ∷ words) → is_file_word word ≡ true
  good_word pages words word good =
      let here : length pages < length (pages ++ word ∷ words) = simp length-append (omega arith) in
      subst (λ (w : List ℕ). is_file_word w ≡ true) (get_or-append_seam pages word words []) (good.words (length pages) [] here)

  good_other : (pages words : List (List ℕ)) (word : List ℕ) → IsGood limit (pages ++ word ∷ words) → (k : ℕ) (d : List ℕ) → k < length pages → get_or pages k d ≢ word
  good_other pages words word good k d h same =
      let here : length pages < length (pages ++ word ∷ words) = simp length-append (omega arith) in
      good.distinct k (length pages) d h here (get_or-append pages (word ∷ words) d k h ∙ same ∙ sym (get_or-append_seam pages word words d))

  other_from : (pages : List (List ℕ)) (word : List ℕ) → ((k : ℕ) (d : List ℕ) → k < length pages → get_or pages k d ≢ word) → is_listed pages word ≡ false
  other_from pages word other = list_any_none (bytes_eq word) pages (λ k d h. false_from_ne_true _ (λ e. other k d h (sym ((bytes_eq-Decides word (get_or pages k d)).0 e))))

  pub good_fits : (pages words : List (List ℕ)) (word : List ℕ) → IsGood limit (pages ++ word ∷ words) → fits_after limit pages word ≡ true
  good_fits pages words word good =
      let few : length (pages ++ word ∷ words) ≤ limit = good.few in
      let room : length pages < limit = omega (arith, length-append pages (word ∷ words)) in
      let other : not (is_listed pages word) ≡ true = ap not (other_from pages word (good_other pages words word good)) in
      and_from (has_room limit pages && is_file_word word) (not (is_listed pages word)) (and_from (has_room limit pages) (is_file_word word) (lt-ltb (length pages) limit room) (good_word pages words word good)) other

  -- good pages are taken, and what follows them is behind them
  pub good_after : (first : ℕ) (pages front words : List (List ℕ)) → IsGood limit (pages ++ front) → pages_after limit first pages (front ++ words) ≡ pages_after limit first (pages ++ front) words
  good_after first pages [] words good = ap (λ (ps : List (List ℕ)). pages_after limit first ps words) (sym (append-nil pages))
  good_after first pages (page ∷ front) words good =
      let split : (pages ++ page ∷ []) ++ front ≡ pages ++ (page ∷ front) = append_assoc pages (page ∷ []) front in
      let fits : fits_after limit pages page ≡ true = good_fits pages front page good in
      rw fits (good_after first (pages ++ page ∷ []) front words (subst (IsGood limit) (sym split) good) ∙ ap (λ (ps : List (List ℕ)). pages_after limit first ps words) split)

  pub good_taken : (first : ℕ) (pages : List (List ℕ)) → IsGood limit pages → pages_after limit first [] pages ≡ Ok pages
  good_taken first pages good = ap (pages_after limit first []) (sym (append-nil pages)) ∙ good_after first [] pages [] good

  -- no page has room behind as many as a command may name
  pub full_after : (first : ℕ) (pages words : List (List ℕ)) (word : List ℕ) → length pages ≡ limit → pages_after limit first pages (word ∷ words) ≡ Err (first + length pages)
  full_after first pages words word e =
      let full : has_room limit pages ≡ false = le-ltb (length pages) limit (omega (arith, e)) in
      let unfit : fits_after limit pages word ≡ false = and_left (has_room limit pages && is_file_word word) (not (is_listed pages word)) (and_left (has_room limit pages) (is_file_word word) full) in
      rw unfit refl

  refused_step : (first : ℕ) (pages words : List (List ℕ)) (word : List ℕ) (number : ℕ) (t : Bool) → fits_after limit pages word ≡ t
      → (pages_after limit first (pages ++ word ∷ []) words ≡ Err number → IsRefused limit first (pages ++ word ∷ []) words number)
      → cond t (pages_after limit first (pages ++ word ∷ []) words) (Err (first + length pages)) ≡ Err number → IsRefused limit first pages (word ∷ words) number
  refused_step first pages words word number true fits more e =
      let later : IsRefused limit first (pages ++ word ∷ []) words number = more e in
      record {
        front = word ∷ later.front;
        word = later.word;
        rest = later.rest;
        parts = ap (λ (ws : List (List ℕ)). word ∷ ws) later.parts;
        place = later.place ∙ simp length-append (omega arith);
        before = rw fits (later.before ∙ ap Ok (append_assoc pages (word ∷ []) later.front));
        never = λ more. rw fits (later.never more);
      }
  refused_step first pages words word number false fits more e =
      let place : first + length pages ≡ number = cc in
      record {
        front = [];
        word = word;
        rest = words;
        parts = refl;
        place = omega arith;
        before = ap Ok (sym (append-nil pages));
        never = λ more. rw fits e;
      }

  pub refused : (first : ℕ) (pages words : List (List ℕ)) (number : ℕ) → pages_after limit first pages words ≡ Err number → IsRefused limit first pages words number
  refused first pages [] number e = cc
  refused first pages (word ∷ words) number e = refused_step first pages words word number (fits_after limit pages word) refl (refused first (pages ++ word ∷ []) words number) e
