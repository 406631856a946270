-- Files that are listed after others.
use Rattle.std.proofs.Common.{◌≡◌, ℕ, zero, suc, ◌+◌, Bool, true, false, ◌||◌, None, Result, Ok, Err, IsErr, IfOk, List, [], ◌∷◌, ◌++◌, length, take, drop, get_or, ◌<◌, refl, sym, ap, ◌∙◌, subst, arith, append_assoc}
use Rattle.std.specs.Str.{bytes_eq}
use Rattle.std.proofs.lemmas.List.{append-nil, take_more, take-append-drop}
use Rattle.djvu_base.specs.Library.{Files, Whole, file_limit}
use Rattle.djvu_outside.specs.Faults.{Failure}
use Rattle.djvu_outside.specs.Reading.{bytes_in, HasFile}
use Rattle.viewer_run.specs.declared.shown.Shown.{Shown}
use Rattle.djvu_outside.specs.declared.stops.Stop.{Stop}
use Rattle.djvu_outside.specs.Cut.{first_entry, cut_at}
use Rattle.djvu_outside.specs.Puts.{Put, Sinks, GivesBoth}
use Rattle.viewer_run.specs.Listed.{texts_by, texts_named, file_of, Lists, HasFiles}
use Rattle.viewer_run.specs.Shown.{NamesOnly, HasBroken, both, AreDistinct, BrokenCounts}
use Rattle.viewer_run.proofs.Cutting.{entry_after, entry_before, other_way, or_first, or_second, or_both, any_append, broken_both, both_after}
use Rattle.viewer_run.specs.Texts.{Texts, no_texts, joined}
use Rattle.djvu_base.specs.Name.{is_listed}
use Rattle.djvu_outside.proofs.Lemmas.{got_none, puts_after, puts_more, puts_same}

-- a file is cut by its own entries alone
file_same : (files : Files) (a b : List Failure) (name : List ℕ) → first_entry a name ≡ first_entry b name → file_of files a name ≡ file_of files b name
file_same files a b name e = ap (λ o. cut_at o (record { name = name; bytes = take file_limit (bytes_in files name); mark = Whole })) e

-- failures of one more file change nothing of other files
texts_same : (files : Files) (a b : List Failure) (name : List ℕ) (names : List (List ℕ)) → NamesOnly (name ∷ []) b → is_listed names name ≡ false
    → texts_named files (a ++ b) names ≡ texts_named files a names
texts_same files a b name [] only other = refl
texts_same files a b name (first ∷ names) only other =
    let apart : bytes_eq first name ≡ false = other_way name first (or_first (bytes_eq name first) (is_listed names name) other) in
    let none : first_entry b first ≡ None = only first (or_both (bytes_eq first name) false apart refl) in
    let same = file_same files (a ++ b) a first (entry_before a b first none) in
    ap (λ f. joined (texts_by f) (texts_named files (a ++ b) names)) same
    ∙ ap (λ t. joined (texts_by (file_of files a first)) t)
    (texts_same files a b name names only (or_second (bytes_eq name first) (is_listed names name) other))

page_same : (files : Files) (a b : List Failure) (name : List ℕ) → first_entry a name ≡ None
    → texts_named files (a ++ b) (name ∷ []) ≡ texts_named files b (name ∷ [])
page_same files a b name e = ap (λ f. joined (texts_by f) no_texts) (file_same files (a ++ b) b name (entry_after a b name e))

pub or_assoc : (a b c : Bool) → ((a || b) || c) ≡ (a || (b || c))
or_assoc true b c = refl
or_assoc false b c = refl

pub joined_assoc : (a b c : Texts) → joined a (joined b c) ≡ joined (joined a b) c
joined_assoc a b c =
    ap (λ o. let t : Texts = record { puts = o; refused = a.refused || (b.refused || c.refused) } in t) (sym (append_assoc a.puts b.puts c.puts))
    ∙ ap (λ o. let t : Texts = record { puts = (a.puts ++ b.puts) ++ c.puts; refused = o } in t) (sym (or_assoc a.refused b.refused c.refused))

-- the texts of some pages and of others after them
texts_append : (files : Files) (f : List Failure) (xs ys : List (List ℕ))
    → texts_named files f (xs ++ ys) ≡ joined (texts_named files f xs) (texts_named files f ys)
texts_append files f [] ys = refl
texts_append files f (x ∷ xs) ys =
    ap (joined (texts_by (file_of files f x))) (texts_append files f xs ys)
    ∙ joined_assoc (texts_by (file_of files f x)) (texts_named files f xs) (texts_named files f ys)

-- the results of both
abbrev pub result_with : Shown → Result Shown Stop → Result Shown Stop
result_with all (Ok drawn) = Ok (both all drawn)
result_with all (Err stop) = Err stop

puts_with : (all : Shown) (result : Result Shown Stop) (puts : List Put) (before after : Sinks) → GivesBoth result puts before after
    → GivesBoth (result_with all result) puts before after
puts_with all (Ok drawn) puts before after g = g
puts_with all (Err stop) puts before after g = g

-- one page after others
pub lists_more : (files : Files) (names : List (List ℕ)) (name : List ℕ) (all : Shown) (result : Result Shown Stop) (first mid last : List Failure)
    (told_first told_mid told_last : Sinks)
    → Lists files names (Ok all) first mid told_first told_mid → Lists files (name ∷ []) result mid last told_mid told_last → is_listed names name ≡ false
    → Lists files (names ++ name ∷ []) (result_with all result) first last told_first told_last
lists_more files names name all result first mid last told_first told_mid told_last d e other =
    let a = d.added in
    let b = e.added in
    let before = texts_same files a b name names e.only other in
    let here = page_same files a b name (d.only name other) in
    let whole : texts_named files (a ++ b) (names ++ name ∷ []) ≡ joined (texts_named files a names) (texts_named files b (name ∷ [])) =
    texts_append files (a ++ b) names (name ∷ []) ∙ ap (λ t. joined t (texts_named files (a ++ b) (name ∷ []))) before
    ∙ ap (joined (texts_named files a names)) here in
    record {
      added = a ++ b;
      grown = e.grown ∙ ap (λ f. f ++ b) d.grown ∙ append_assoc first a b;
      only = λ n h. let apart = any_append n names (name ∷ []) h in entry_before a b n (e.only n apart.1) ∙ d.only n apart.0;
      reads = both_after a b d.reads e.reads;
      puts =
          puts_with all result _ told_first told_last
          (puts_same result _ _ told_first told_last (sym (ap (λ (t : Texts). t.puts) whole))
          (puts_after result (texts_named files a names).puts (texts_named files b (name ∷ [])).puts told_first told_mid told_last d.puts e.puts));
      refused = by_refused result e.refused (ap (λ (t : Texts). t.refused) whole);
      broken = by_broken result e.broken;
    }
  where
    by_refused : (result : Result Shown Stop) → IfOk result (λ drawn. drawn.refused ≡ (texts_named files e.added (name ∷ [])).refused)
        → (texts_named files (d.added ++ e.added) (names ++ name ∷ [])).refused
        ≡ ((texts_named files d.added names).refused || (texts_named files e.added (name ∷ [])).refused)
        → IfOk (result_with all result) (λ drawn. drawn.refused ≡ (texts_named files (d.added ++ e.added) (names ++ name ∷ [])).refused)
    by_refused (Ok drawn) h w = ap (λ x. x || drawn.refused) d.refused ∙ ap (λ y. (texts_named files d.added names).refused || y) h ∙ sym w
    by_refused (Err stop) h w = tt

    by_broken : (result : Result Shown Stop) → IfOk result (λ drawn. HasBroken drawn.broken e.added)
        → IfOk (result_with all result) (λ drawn. HasBroken drawn.broken (d.added ++ e.added))
    by_broken (Ok drawn) h = broken_both all.broken drawn.broken d.added e.added d.broken h
    by_broken (Err stop) h = tt

-- files at which the listing stops, before others
pub lists_stopped : (files : Files) (names more : List (List ℕ)) (result : Result Shown Stop) (before after : List Failure) (told_before told_after : Sinks)
    → IsErr result → Lists files names result before after told_before told_after → Lists files (names ++ more) result before after told_before told_after
lists_stopped files names more result before after told_before told_after is_err d =
    record {
      added = d.added;
      grown = d.grown;
      only = λ n h. d.only n (any_append n names more h).0;
      reads = d.reads;
      puts =
          puts_same result _ _ told_before told_after (sym (ap (λ (t : Texts). t.puts) (texts_append files d.added names more)))
          (puts_more result (texts_named files d.added names).puts (texts_named files d.added more).puts told_before told_after is_err d.puts);
      refused = stopped result is_err;
      broken = stopped_broken result is_err;
    }
  where
    stopped : (result : Result Shown Stop) → IsErr result → IfOk result (λ drawn. drawn.refused ≡ (texts_named files d.added (names ++ more)).refused)
    stopped (Ok drawn) e = absurd (cc)
    stopped (Err stop) e = tt

    stopped_broken : (result : Result Shown Stop) → IsErr result → IfOk result (λ drawn. HasBroken drawn.broken d.added)
    stopped_broken (Ok drawn) e = absurd (cc)
    stopped_broken (Err stop) e = tt

-- no file
pub lists_none : (files : Files) (here : List Failure) (told : Sinks) → Lists files [] (Ok (record { refused = false; broken = false })) here here told told
lists_none files here told = record {
  added = [];
  grown = sym (append-nil here);
  only = λ n h. refl;
  reads = refl;
  puts = got_none told;
  refused = refl;
  broken = refl;
}

pub has_file_at : (files : Files) (names : List (List ℕ)) (at : ℕ) (name : List ℕ) (rest : List (List ℕ)) → HasFiles files names → drop at names ≡ name ∷ rest
    → HasFile files name
has_file_at files names zero name rest h e = (subst (HasFiles files) e h).0
has_file_at files [] (suc at) name rest h e = cc
has_file_at files (first ∷ names) (suc at) name rest h e = has_file_at files names at name rest h.1 e

not_listed_at : (first : List ℕ) (names : List (List ℕ)) (at : ℕ) (name : List ℕ) (rest : List (List ℕ)) → is_listed names first ≡ false
    → drop at names ≡ name ∷ rest → bytes_eq first name ≡ false
not_listed_at first names zero name rest h e = or_first (bytes_eq first name) (is_listed rest first) (ap (λ l. is_listed l first) (sym e) ∙ h)
not_listed_at first [] (suc at) name rest h e = cc
not_listed_at first (x ∷ names) (suc at) name rest h e = not_listed_at first names at name rest (or_second (bytes_eq first x) (is_listed names first) h) e

pub new_at : (names : List (List ℕ)) (at : ℕ) (name : List ℕ) (rest : List (List ℕ)) → AreDistinct names → drop at names ≡ name ∷ rest
    → is_listed (take at names) name ≡ false
new_at names zero name rest d e = refl
new_at [] (suc at) name rest d e = cc
new_at (first ∷ names) (suc at) name rest d e =
    or_both (bytes_eq name first) (is_listed (take at names) name) (other_way first name (not_listed_at first names at name rest d.0 e))
    (new_at names at name rest d.1 e)

-- the name at a place, and those from there on
pub here_at : (names : List (List ℕ)) (at : ℕ) (name : List ℕ) → name ≡ get_or names at name → at < length names → drop at names ≡ name ∷ drop (suc at) names
here_at [] at name e h = absurd (omega arith)
here_at (x ∷ names) zero name e h = ap (λ n. n ∷ names) (sym e)
here_at (x ∷ names) (suc at) name e h = here_at names at name e (omega arith)

pub take_here : (names : List (List ℕ)) (at : ℕ) (name : List ℕ) → name ≡ get_or names at name → at < length names
    → take (at + 1) names ≡ take at names ++ name ∷ []
take_here names at name e h = take_more names at name h ∙ ap (λ n. take at names ++ n ∷ []) (sym e)

pub counts_both : (x y : Bool) (f0 f1 f2 : ℕ) → BrokenCounts x f0 f1 → BrokenCounts y f1 f2 → BrokenCounts (x || y) f0 f2
counts_both true true f0 f1 f2 a b = record { later = omega (arith, a.later, b.later); more = λ h. omega (arith, a.more h, b.later) }
counts_both true false f0 f1 f2 a b = record { later = omega (arith, a.later, b); more = λ h. omega (arith, a.more h, b) }
counts_both false true f0 f1 f2 a b = record { later = omega (arith, a, b.later); more = λ h. omega (arith, a, b.more (omega (arith, a, h))) }
counts_both false false f0 f1 f2 a b = b ∙ a

pub counts_more : (all shown now : Shown) (f0 f1 f2 : ℕ) → now ≡ both all shown → BrokenCounts all.broken f0 f1 → BrokenCounts shown.broken f1 f2
    → BrokenCounts now.broken f0 f2
counts_more all shown now f0 f1 f2 e a b = subst (λ (s : Shown). BrokenCounts s.broken f0 f2) (sym e) (counts_both all.broken shown.broken f0 f1 f2 a b)

pub lists_named : (files : Files) (names more : List (List ℕ)) (result : Result Shown Stop) (before after : List Failure) (told_before told_after : Sinks)
    → names ≡ more → Lists files names result before after told_before told_after → Lists files more result before after told_before told_after
lists_named files names more result before after told_before told_after e d = subst (λ n. Lists files n result before after told_before told_after) e d

-- one more file was listed
pub one_more : (files : Files) (names : List (List ℕ)) (at : ℕ) (name : List ℕ) (all drawn now : Shown) (page : Result Shown Stop)
    (first mid last : List Failure) (told_first told_mid told_last : Sinks)
    → Lists files (take at names) (Ok all) first mid told_first told_mid → Lists files (name ∷ []) page mid last told_mid told_last → AreDistinct names
    → name ≡ get_or names at name → at < length names → page ≡ Ok drawn → now ≡ both all drawn
    → Lists files (take (at + 1) names) (Ok now) first last told_first told_last
one_more files names at name all drawn now page first mid last told_first told_mid told_last d e distinct is inside ok sum =
    let here = here_at names at name is inside in
    let both_drawn =
    lists_more files (take at names) name all page first mid last told_first told_mid told_last d e
    (new_at names at name (drop (suc at) names) distinct here) in
    subst (λ (s : Shown). Lists files (take (at + 1) names) (Ok s) first last told_first told_last) (sym sum)
    (lists_named files (take at names ++ name ∷ []) (take (at + 1) names) (Ok (both all drawn)) first last told_first told_last
    (sym (take_here names at name is inside))
    (subst (λ p. Lists files (take at names ++ name ∷ []) (result_with all p) first last told_first told_last) ok both_drawn))

-- the listing stopped at a file
pub stopped_at : (files : Files) (names : List (List ℕ)) (at : ℕ) (name : List ℕ) (all : Shown) (fault : Stop) (page result : Result Shown Stop)
    (first mid last : List Failure) (told_first told_mid told_last : Sinks)
    → Lists files (take at names) (Ok all) first mid told_first told_mid → Lists files (name ∷ []) page mid last told_mid told_last → AreDistinct names
    → name ≡ get_or names at name → at < length names → page ≡ Err fault → result ≡ Err fault
    → Lists files names result first last told_first told_last
stopped_at files names at name all fault page result first mid last told_first told_mid told_last d e distinct is inside err same =
    let here = here_at names at name is inside in
    let rest = drop (suc at) names in
    let both_drawn =
    lists_more files (take at names) name all page first mid last told_first told_mid told_last d e (new_at names at name rest distinct here) in
    let stopped : Lists files (take at names ++ name ∷ []) (Err fault) first last told_first told_last =
    subst (λ p. Lists files (take at names ++ name ∷ []) (result_with all p) first last told_first told_last) err both_drawn in
    let whole : (take at names ++ name ∷ []) ++ rest ≡ names =
    append_assoc (take at names) (name ∷ []) rest ∙ ap (λ l. take at names ++ l) (sym here) ∙ take-append-drop at names in
    subst (λ r. Lists files names r first last told_first told_last) (sym same)
    (lists_named files ((take at names ++ name ∷ []) ++ rest) names (Err fault) first last told_first told_last whole
    (lists_stopped files (take at names ++ name ∷ []) rest (Err fault) first last told_first told_last refl stopped))
