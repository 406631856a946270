-- A refused number is that of the first word that doesn't fit.
use lib.Utf8.{encode}
use Rattle.std.proofs.Common.{◌≡◌, ℕ, ◌+◌, ◌<◌, ◌≤◌, suc, Bool, true, false, cond, Option, Some, None, Result, Ok, Err, List, [], ◌∷◌, ◌++◌, length, take}
use Rattle.std.proofs.Common.{codes, refl, sym, ap, ◌∙◌, subst, arith, length-append, append_assoc}
use Rattle.std.specs.Str.{bytes_eq, chars, is_utf8}
use Rattle.std.proofs.Math.Seq.{take-append_seam, take-append-add}
use Rattle.std.proofs.lemmas.List.{append-nil}
use Rattle.viewer_words.specs.declared.commands.Command.{Command}
use Rattle.viewer_words.specs.declared.commands.Command.TheVariants.{Draw, Info}
use Rattle.viewer_words.specs.declared.commands.TableChoice.{TableChoice}
use Rattle.viewer_words.specs.declared.commands.TableChoice.TheVariants.{Djvu, Flat}
use Rattle.viewer_words.specs.Tables.{table_of}
use Rattle.viewer_words.specs.Words.{page_limit, pages_after, pages_of, command_of, drawing_of, words_of}
use Rattle.viewer_words.specs.Laws.{CanBegin}
use Rattle.viewer_words.proofs.Drawings.{drawing_with, drawing_by_word, drawing_split}
use Rattle.viewer_words.proofs.Pages.{IsRefused, refused}

pub record IsRefusedAt (words : List (List ℕ)) (number : ℕ) : Type 0 where
  pub within : number ≤ length words
  pub before : CanBegin (take number words)
  pub never : number < length words → (more : List (List ℕ)) → words_of (take (suc number) words ++ more) ≡ Err number

-- after these words one is missing
missing : (words : List (List ℕ)) → CanBegin words → IsRefusedAt words (length words)
missing words begins =
    let all : take (length words) words ≡ words = ap (take (length words)) (sym (append-nil words)) ∙ take-append_seam words [] in
    record { within = omega arith; before = subst CanBegin (sym all) begins; never = λ h more. absurd (omega arith) }

-- after these words this one doesn't fit
unfit : (head words : List (List ℕ)) (word : List ℕ) → CanBegin head → ((more : List (List ℕ)) → words_of (head ++ (word ∷ more)) ≡ Err (length head)) →
    IsRefusedAt (head ++ (word ∷ words)) (length head)
unfit head words word begins never =
    let next : suc (length head) ≡ length head + 1 = omega arith in
    let cut : take (suc (length head)) (head ++ (word ∷ words)) ≡ head ++ (word ∷ []) = ap (λ n. take n (head ++ (word ∷ words))) next
    ∙ take-append-add head (word ∷ words) 1 in
    record {
      within = omega (arith, length-append head (word ∷ words));
      before = subst CanBegin (sym (take-append_seam head (word ∷ words))) begins;
      never = λ h more.
          ap (λ (ws : List (List ℕ)). words_of (ws ++ more)) cut
          ∙ ap words_of (append_assoc head (word ∷ []) more)
          ∙ never more;
    }

one_page : (first : ℕ) → pages_of page_limit first (codes "p" ∷ []) ≡ Ok (codes "p" ∷ [])
unfolding page_limit is_utf8 chars encode
one_page first = refl

nothing_begins : CanBegin []
nothing_begins = (codes "info" ∷ codes "p" ∷ [], Info (codes "p" ∷ []), ap (command_of Info) (one_page 1))

-- after these words stand the pages of a command, also where the first of them is this word
record Leads (head : List (List ℕ)) (make : List (List ℕ) → Command) (word : List ℕ) : Type 0 where
  one : CanBegin head
  all : (words : List (List ℕ)) → words_of (head ++ (word ∷ words)) ≡ command_of make (pages_of page_limit (length head) (word ∷ words))

front_begins : (head front words rest : List (List ℕ)) (make : List (List ℕ) → Command) (word last : List ℕ) → Leads head make word →
    word ∷ words ≡ front ++ (last ∷ rest)
    → pages_after page_limit (length head) [] front ≡ Ok front → CanBegin (head ++ front)
front_begins head [] words rest make word last leads parts e = subst CanBegin (sym (append-nil head)) leads.one
front_begins head (page ∷ front) words rest make word last leads parts e =
    let same : word ≡ page = cc in (
      [],
      make (page ∷ front),
      ap words_of (append-nil (head ++ (page ∷ front)))
          ∙ ap (λ (w : List ℕ). words_of (head ++ (w ∷ front))) (sym same)
          ∙ leads.all front
          ∙ ap (λ (w : List ℕ). command_of make (pages_of page_limit (length head) (w ∷ front))) same
          ∙ ap (command_of make) e,
    )

-- whatever follows, the pages are those that stand there
goes_on : (head front words rest : List (List ℕ)) (make : List (List ℕ) → Command) (word last : List ℕ) → Leads head make word →
    word ∷ words ≡ front ++ (last ∷ rest)
    → (more : List (List ℕ)) → words_of (head ++ (front ++ (last ∷ more))) ≡ command_of make (pages_after page_limit (length head) [] (front ++ (last ∷ more)))
goes_on head [] words rest make word last leads parts more =
    let same : word ≡ last = cc in
    ap (λ (w : List ℕ). words_of (head ++ (w ∷ more))) (sym same)
    ∙ leads.all more
    ∙ ap (λ (w : List ℕ). command_of make (pages_of page_limit (length head) (w ∷ more))) same
goes_on head (page ∷ front) words rest make word last leads parts more =
    let same : word ≡ page = cc in
    ap (λ (w : List ℕ). words_of (head ++ (w ∷ (front ++ (last ∷ more))))) (sym same)
    ∙ leads.all (front ++ (last ∷ more))
    ∙ ap (λ (w : List ℕ). command_of make (pages_of page_limit (length head) (w ∷ (front ++ (last ∷ more))))) same

refused_after : (head words : List (List ℕ)) (make : List (List ℕ) → Command) (word : List ℕ) (number : ℕ) → Leads head make word →
    IsRefused page_limit (length head) [] (word ∷ words) number → IsRefusedAt (head ++ (word ∷ words)) number
refused_after head words make word number leads at =
    let place : length (head ++ at.front) ≡ number = omega (arith, at.place, length-append head at.front) in
    let whole : (head ++ at.front) ++ (at.word ∷ at.rest) ≡ head ++ (word ∷ words) = append_assoc head at.front (at.word ∷ at.rest)
    ∙ ap (λ (ws : List (List ℕ)). head ++ ws) (sym at.parts) in
    let begins : CanBegin (head ++ at.front) = front_begins head at.front words at.rest make word at.word leads at.parts at.before in
    let here : IsRefusedAt ((head ++ at.front) ++ (at.word ∷ at.rest)) (length (head ++ at.front)) = unfit (head ++ at.front) at.rest at.word begins (λ more.
    ap words_of (append_assoc head at.front (at.word ∷ more))
    ∙ goes_on head at.front words at.rest make word at.word leads at.parts more
    ∙ ap (command_of make) (at.never more)
    ∙ ap Err (sym place)) in
    subst (λ (ws : List (List ℕ)). IsRefusedAt ws number) whole (subst (IsRefusedAt ((head ++ at.front) ++ (at.word ∷ at.rest))) place here)

refusal_of : (make : List (List ℕ) → Command) (read : Result (List (List ℕ)) ℕ) (number : ℕ) → command_of make read ≡ Err number → read ≡ Err number
refusal_of make (Ok pages) number e = cc
refusal_of make (Err other) number e = cc

refused_pages : (head words : List (List ℕ)) (make : List (List ℕ) → Command) (word : List ℕ) (number : ℕ) → Leads head make word →
    command_of make (pages_of page_limit (length head) (word ∷ words)) ≡ Err number → IsRefusedAt (head ++ (word ∷ words)) number
refused_pages head words make word number leads e = refused_after head words make word number leads
    (refused page_limit (length head) [] (word ∷ words) number (refusal_of make (pages_of page_limit (length head) (word ∷ words)) number e))

-- words that begin with `draw`, and then with `--table`
draws : (word : List ℕ) → bytes_eq word (codes "draw") ≡ true → (words : List (List ℕ)) → words_of (word ∷ words) ≡ drawing_of words
draws word draw words = rw draw refl

marks : (word mark : List ℕ) → bytes_eq word (codes "draw") ≡ true → bytes_eq mark (codes "--table") ≡ true → (words : List (List ℕ)) →
    words_of (word ∷ mark ∷ words) ≡ drawing_by_word words
marks word mark draw table words = draws word draw (mark ∷ words) ∙ drawing_split mark words ∙ rw table refl

draw_begins : (word : List ℕ) → bytes_eq word (codes "draw") ≡ true → CanBegin (word ∷ [])
draw_begins word draw = (codes "p" ∷ [], Draw Djvu (codes "p" ∷ []), draws word draw (codes "p" ∷ []) ∙ ap (command_of (Draw Djvu)) (one_page 1))

mark_begins : (word mark : List ℕ) → bytes_eq word (codes "draw") ≡ true → bytes_eq mark (codes "--table") ≡ true → CanBegin (word ∷ mark ∷ [])
mark_begins word mark draw table = (
  codes "flat" ∷ codes "p" ∷ [],
  Draw Flat (codes "p" ∷ []),
  marks word mark draw table (codes "flat" ∷ codes "p" ∷ [])
      ∙ ap (command_of (Draw Flat)) (one_page 3),
)

named : (word mark name : List ℕ) (table : TableChoice) → bytes_eq word (codes "draw") ≡ true → bytes_eq mark (codes "--table") ≡ true →
    table_of name ≡ Some table
    → (words : List (List ℕ)) → words_of (word ∷ mark ∷ name ∷ words) ≡ command_of (Draw table) (pages_of page_limit 3 words)
named word mark name table draw marked said words = marks word mark draw marked (name ∷ words) ∙ ap (λ (t : Option TableChoice). drawing_with t words) said

name_begins : (word mark name : List ℕ) (table : TableChoice) → bytes_eq word (codes "draw") ≡ true → bytes_eq mark (codes "--table") ≡ true →
    table_of name ≡ Some table → CanBegin (word ∷ mark ∷ name ∷ [])
name_begins word mark name table draw marked said = (
  codes "p" ∷ [],
  Draw table (codes "p" ∷ []),
  named word mark name table draw marked said (codes "p" ∷ [])
      ∙ ap (command_of (Draw table)) (one_page 3),
)

by_table : (word mark name : List ℕ) (words : List (List ℕ)) (number : ℕ) (said : Option TableChoice) → bytes_eq word (codes "draw") ≡ true →
    bytes_eq mark (codes "--table") ≡ true → table_of name ≡ said
    → drawing_with said words ≡ Err number → IsRefusedAt (word ∷ mark ∷ name ∷ words) number
by_table word mark name [] number (Some table) draw marked said e =
    let here : 3 ≡ number = cc in
    subst (IsRefusedAt (word ∷ mark ∷ name ∷ [])) here (missing (word ∷ mark ∷ name ∷ []) (name_begins word mark name table draw marked said))
by_table word mark name (page ∷ words) number (Some table) draw marked said e =
    refused_pages (word ∷ mark ∷ name ∷ []) words (Draw table) page number
    (record { one = name_begins word mark name table draw marked said; all = λ others. named word mark name table draw marked said (page ∷ others) }) e
by_table word mark name words number None draw marked said e =
    let here : 2 ≡ number = cc in
    subst (IsRefusedAt (word ∷ mark ∷ name ∷ words)) here (unfit (word ∷ mark ∷ []) words name (mark_begins word mark draw marked)
    (λ more. marks word mark draw marked (name ∷ more) ∙ ap (λ (t : Option TableChoice). drawing_with t more) said))

by_option : (word mark : List ℕ) (words : List (List ℕ)) (number : ℕ) → bytes_eq word (codes "draw") ≡ true → bytes_eq mark (codes "--table") ≡ true →
    drawing_by_word words ≡ Err number → IsRefusedAt (word ∷ mark ∷ words) number
by_option word mark [] number draw marked e =
    let here : 2 ≡ number = cc in
    subst (IsRefusedAt (word ∷ mark ∷ [])) here (missing (word ∷ mark ∷ []) (mark_begins word mark draw marked))
by_option word mark (name ∷ words) number draw marked e = by_table word mark name words number (table_of name) draw marked refl e

by_mark : (word mark : List ℕ) (words : List (List ℕ)) (number : ℕ) (t : Bool) → bytes_eq word (codes "draw") ≡ true → bytes_eq mark (codes "--table") ≡ t
    → cond t (drawing_by_word words) (command_of (Draw Djvu) (pages_of page_limit 1 (mark ∷ words))) ≡ Err number → IsRefusedAt (word ∷ mark ∷ words) number
by_mark word mark words number true draw marked e = by_option word mark words number draw marked e
by_mark word mark words number false draw unmarked e =
    refused_pages (word ∷ []) words (Draw Djvu) mark number (record {
      one = draw_begins word draw;
      all = λ others. draws word draw (mark ∷ others)
          ∙ drawing_split mark others ∙ rw unmarked refl;
    }) e

drawn : (word : List ℕ) (words : List (List ℕ)) (number : ℕ) → bytes_eq word (codes "draw") ≡ true → drawing_of words ≡ Err number →
    IsRefusedAt (word ∷ words) number
drawn word [] number draw e =
    let here : 1 ≡ number = cc in
    subst (IsRefusedAt (word ∷ [])) here (missing (word ∷ []) (draw_begins word draw))
drawn word (mark ∷ words) number draw e = by_mark word mark words number (bytes_eq mark (codes "--table")) draw refl (sym (drawing_split mark words) ∙ e)

-- words that begin with `info`
shows : (word : List ℕ) → bytes_eq word (codes "draw") ≡ false → bytes_eq word (codes "info") ≡ true → (words : List (List ℕ)) →
    words_of (word ∷ words) ≡ command_of Info (pages_of page_limit 1 words)
shows word draw info words = rw (draw, info) refl

info_begins : (word : List ℕ) → bytes_eq word (codes "draw") ≡ false → bytes_eq word (codes "info") ≡ true → CanBegin (word ∷ [])
info_begins word draw info = (codes "p" ∷ [], Info (codes "p" ∷ []), shows word draw info (codes "p" ∷ []) ∙ ap (command_of Info) (one_page 1))

shown : (word : List ℕ) (words : List (List ℕ)) (number : ℕ) → bytes_eq word (codes "draw") ≡ false → bytes_eq word (codes "info") ≡ true →
    command_of Info (pages_of page_limit 1 words) ≡ Err number → IsRefusedAt (word ∷ words) number
shown word [] number draw info e =
    let here : 1 ≡ number = cc in
    subst (IsRefusedAt (word ∷ [])) here (missing (word ∷ []) (info_begins word draw info))
shown word (page ∷ words) number draw info e =
    refused_pages (word ∷ []) words Info page number (record { one = info_begins word draw info; all = λ others. shows word draw info (page ∷ others) }) e

by_first : (word : List ℕ) (words : List (List ℕ)) (number : ℕ) (t u : Bool) → bytes_eq word (codes "draw") ≡ t → bytes_eq word (codes "info") ≡ u
    → cond t (drawing_of words) (cond u (command_of Info (pages_of page_limit 1 words)) (Err 0)) ≡ Err number → IsRefusedAt (word ∷ words) number
by_first word words number true u draw info e = drawn word words number draw e
by_first word words number false true draw info e = shown word words number draw info e
by_first word words number false false draw info e =
    let here : 0 ≡ number = cc in
    subst (IsRefusedAt (word ∷ words)) here (unfit [] words word nothing_begins (λ more. rw (draw, info) refl))

pub refused_at : (words : List (List ℕ)) (number : ℕ) → words_of words ≡ Err number → IsRefusedAt words number
refused_at [] number e =
    let here : 0 ≡ number = cc in
    subst (IsRefusedAt []) here (missing [] nothing_begins)
refused_at (word ∷ words) number e = by_first word words number (bytes_eq word (codes "draw")) (bytes_eq word (codes "info")) refl refl e
