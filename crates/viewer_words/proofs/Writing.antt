-- Words are a command exactly where they are its first word, then its option or none, and then its pages.
use Rattle.std.proofs.Common.{◌≡◌, ℕ, ◌+◌, ◌≤◌, Bool, true, false, cond, inl, inr, Option, Some, None, Result, Ok, Err, List, [], ◌∷◌, ◌++◌, length, codes}
use Rattle.std.proofs.Common.{refl, sym, ap, ◌∙◌, subst, arith}
use Rattle.std.specs.Str.{bytes_eq}
use Rattle.std.proofs.lemmas.List.{append-nil}
use Rattle.std.proofs.lemmas.List.Elements.{All-nil}
use Rattle.std.proofs.lemmas.Slice.Eq.{bytes_eq-Decides}
use Rattle.viewer_words.specs.declared.commands.Command.{Command}
use Rattle.viewer_words.specs.declared.commands.Command.TheVariants.{Draw, Info}
use Rattle.viewer_words.specs.declared.commands.TableChoice.{TableChoice}
use Rattle.viewer_words.specs.declared.commands.TableChoice.TheVariants.{Djvu}
use Rattle.viewer_words.specs.Tables.{is_file_word, table_of}
use Rattle.viewer_words.specs.Words.{page_limit, pages_of, command_of, drawing_of, words_of}
use Rattle.viewer_words.specs.Laws.{IsPageList, IsTableWord, IsOption, IsWritten}
use Rattle.viewer_words.proofs.Drawings.{drawing_with, drawing_by_word, drawing_split}
use Rattle.viewer_words.proofs.Pages.{IsGood, IsTaken, taken, good_after, good_taken, full_after}
use Rattle.viewer_words.proofs.TableWords.{table_written, table_said, file_no_option}

no_pages_good : IsGood page_limit []
no_pages_good = record { few = omega arith; words = All-nil (λ w. is_file_word w ≡ true); distinct = λ i j d h k. absurd (omega arith) }

listed_good : (pages : List (List ℕ)) → IsPageList pages → IsGood page_limit pages
listed_good pages listed = record { few = listed.few; words = listed.words; distinct = listed.distinct }

record IsRead (words pages : List (List ℕ)) : Type 0 where
  same : pages ≡ words
  listed : IsPageList pages

pages_read : (first : ℕ) (words pages : List (List ℕ)) → pages_of page_limit first words ≡ Ok pages → IsRead words pages
pages_read first [] pages e = cc
pages_read first (word ∷ words) pages e =
    let all : IsTaken page_limit [] (word ∷ words) pages = taken page_limit first [] (word ∷ words) pages no_pages_good e in
    let some : 1 ≤ length pages = omega (arith, ap length all.same) in
    record { same = all.same; listed = record { some = some; few = all.good.few; words = all.good.words; distinct = all.good.distinct } }

pages_listed : (first : ℕ) (pages : List (List ℕ)) → IsPageList pages → pages_of page_limit first pages ≡ Ok pages
pages_listed first [] listed = let some : 1 ≤ 0 = listed.some in absurd (omega arith)
pages_listed first (page ∷ pages) listed = good_taken page_limit first (page ∷ pages) (listed_good (page ∷ pages) listed)

-- a command of these words as its pages
record IsMade (make : List (List ℕ) → Command) (words : List (List ℕ)) (command : Command) : Type 0 where
  same : make words ≡ command
  listed : IsPageList words

made : (first : ℕ) (make : List (List ℕ) → Command) (words : List (List ℕ)) (command : Command) (read : Result (List (List ℕ)) ℕ) →
    pages_of page_limit first words ≡ read → command_of make read ≡ Ok command → IsMade make words command
made first make words command (Ok pages) e m =
    let read : IsRead words pages = pages_read first words pages e in
    let here : make pages ≡ command = cc in
    record { same = ap make (sym read.same) ∙ here; listed = subst IsPageList read.same read.listed }
made first make words command (Err number) e m = cc

plain_written : (word : List ℕ) (words : List (List ℕ)) (command : Command) → word ≡ codes "draw" → IsMade (Draw Djvu) words command →
    IsWritten (word ∷ words) command
plain_written word words command first of =
    let spelled : word ∷ words ≡ codes "draw" ∷ ([] ++ words) = ap (λ (w : List ℕ). w ∷ words) first in
    let drawing : IsWritten (word ∷ words) (Draw Djvu words) = ([], spelled, inl (refl, refl), of.listed) in
    subst (λ (c : Command). IsWritten (word ∷ words) c) of.same drawing

option_written : (word mark name : List ℕ) (words : List (List ℕ)) (table : TableChoice) (command : Command) → word ≡ codes "draw" → mark ≡ codes "--table" →
    IsTableWord name table → IsMade (Draw table) words command
    → IsWritten (word ∷ mark ∷ name ∷ words) command
option_written word mark name words table command first marked said of =
    let spelled : word ∷ mark ∷ name ∷ words ≡ codes "draw" ∷ ((codes "--table" ∷ name ∷ []) ++ words) =
    ap (λ (w : List ℕ). w ∷ mark ∷ name ∷ words) first ∙ ap (λ (m : List ℕ). codes "draw" ∷ m ∷ name ∷ words) marked in
    let drawing : IsWritten (word ∷ mark ∷ name ∷ words) (Draw table words) = (codes "--table" ∷ name ∷ [], spelled, inr (name, refl, said), of.listed) in
    subst (λ (c : Command). IsWritten (word ∷ mark ∷ name ∷ words) c) of.same drawing

by_table : (word mark name : List ℕ) (words : List (List ℕ)) (command : Command) (said : Option TableChoice) → word ≡ codes "draw" → mark ≡ codes "--table" →
    table_of name ≡ said → drawing_with said words ≡ Ok command
    → IsWritten (word ∷ mark ∷ name ∷ words) command
by_table word mark name words command (Some table) first marked said e =
    option_written word mark name words table command first marked (table_written name table said)
    (made 3 (Draw table) words command (pages_of page_limit 3 words) refl e)
by_table word mark name words command None first marked said e = cc

by_option : (word mark : List ℕ) (words : List (List ℕ)) (command : Command) → word ≡ codes "draw" → mark ≡ codes "--table" →
    drawing_by_word words ≡ Ok command → IsWritten (word ∷ mark ∷ words) command
by_option word mark [] command first marked e = cc
by_option word mark (name ∷ words) command first marked e = by_table word mark name words command (table_of name) first marked refl e

by_mark : (word mark : List ℕ) (words : List (List ℕ)) (command : Command) (t : Bool) → word ≡ codes "draw" → (t ≡ true → mark ≡ codes "--table")
    → cond t (drawing_by_word words) (command_of (Draw Djvu) (pages_of page_limit 1 (mark ∷ words))) ≡ Ok command → IsWritten (word ∷ mark ∷ words) command
by_mark word mark words command true first marked e = by_option word mark words command first (marked refl) e
by_mark word mark words command false first marked e = plain_written word (mark ∷ words) command first
    (made 1 (Draw Djvu) (mark ∷ words) command (pages_of page_limit 1 (mark ∷ words)) refl e)

drawn : (word : List ℕ) (words : List (List ℕ)) (command : Command) → word ≡ codes "draw" → drawing_of words ≡ Ok command → IsWritten (word ∷ words) command
drawn word [] command first e = cc
drawn word (mark ∷ words) command first e = by_mark word mark words command (bytes_eq mark (codes "--table")) first (bytes_eq-Decides mark (codes "--table")).0
    (sym (drawing_split mark words) ∙ e)

shown : (word : List ℕ) (words : List (List ℕ)) (command : Command) → word ≡ codes "info" → IsMade Info words command → IsWritten (word ∷ words) command
shown word words command first of =
    let showing : IsWritten (word ∷ words) (Info words) = (ap (λ (w : List ℕ). w ∷ words) first, of.listed) in
    subst (λ (c : Command). IsWritten (word ∷ words) c) of.same showing

by_first : (word : List ℕ) (words : List (List ℕ)) (command : Command) (t u : Bool) → (t ≡ true → word ≡ codes "draw") → (u ≡ true → word ≡ codes "info")
    → cond t (drawing_of words) (cond u (command_of Info (pages_of page_limit 1 words)) (Err 0)) ≡ Ok command → IsWritten (word ∷ words) command
by_first word words command true u draw info e = drawn word words command (draw refl) e
by_first word words command false true draw info e = shown word words command (info refl) (made 1 Info words command (pages_of page_limit 1 words) refl e)
by_first word words command false false draw info e = cc

pub read_written : (words : List (List ℕ)) (command : Command) → words_of words ≡ Ok command → IsWritten words command
read_written [] command e = cc
read_written (word ∷ words) command e = by_first word words command (bytes_eq word (codes "draw")) (bytes_eq word (codes "info"))
    (bytes_eq-Decides word (codes "draw")).0 (bytes_eq-Decides word (codes "info")).0 e

-- the first page isn't the option's word
plain_drawing : (pages words : List (List ℕ)) → IsPageList pages → drawing_of (pages ++ words) ≡ command_of (Draw Djvu) (pages_of page_limit 1 (pages ++ words))
plain_drawing [] words listed = let some : 1 ≤ 0 = listed.some in absurd (omega arith)
plain_drawing (page ∷ pages) words listed =
    let file : is_file_word page ≡ true = listed.words 0 [] (omega arith) in
    let unmarked : bytes_eq page (codes "--table") ≡ false = file_no_option page file in
    drawing_split page (pages ++ words) ∙ rw unmarked refl

plain_read : (pages : List (List ℕ)) → IsPageList pages → drawing_of pages ≡ Ok (Draw Djvu pages)
plain_read pages listed = ap drawing_of (sym (append-nil pages)) ∙ plain_drawing pages [] listed
    ∙ ap (λ (ws : List (List ℕ)). command_of (Draw Djvu) (pages_of page_limit 1 ws)) (append-nil pages)
    ∙ ap (command_of (Draw Djvu)) (pages_listed 1 pages listed)

option_read : (name : List ℕ) (pages : List (List ℕ)) (table : TableChoice) → IsTableWord name table → IsPageList pages →
    drawing_by_word (name ∷ pages) ≡ Ok (Draw table pages)
option_read name pages table said listed = ap (λ (t : Option TableChoice). drawing_with t pages) (table_said name table said)
    ∙ ap (command_of (Draw table)) (pages_listed 3 pages listed)

drawing_read : (option pages : List (List ℕ)) (table : TableChoice) → IsOption option table → IsPageList pages →
    drawing_of (option ++ pages) ≡ Ok (Draw table pages)
drawing_read option pages table (inl none) listed =
    let drawing : TableChoice → Result Command ℕ = λ choice. Ok (Draw choice pages) in
    ap (λ (ws : List (List ℕ)). drawing_of (ws ++ pages)) none.0 ∙ plain_read pages listed ∙ ap drawing (sym none.1)
drawing_read option pages table (inr some) listed = ap (λ (ws : List (List ℕ)). drawing_of (ws ++ pages)) some.1
    ∙ drawing_split (codes "--table") (some.0 ∷ pages) ∙ option_read some.0 pages table some.2 listed

pub written_read : (words : List (List ℕ)) (command : Command) → IsWritten words command → words_of words ≡ Ok command
written_read words (Draw table pages) written = ap words_of written.1 ∙ drawing_read written.0 pages table written.2 written.3
written_read words (Info pages) written = ap words_of written.0 ∙ ap (command_of Info) (pages_listed 1 pages written.1)

pages_full : (pages words : List (List ℕ)) (word : List ℕ) → IsPageList pages → length pages ≡ page_limit →
    pages_of page_limit 1 (pages ++ (word ∷ words)) ≡ Err (1 + length pages)
pages_full [] words word listed e = let some : 1 ≤ 0 = listed.some in absurd (omega arith)
pages_full (page ∷ pages) words word listed e = good_after page_limit 1 [] (page ∷ pages) (word ∷ words) (listed_good (page ∷ pages) listed)
    ∙ full_after page_limit 1 (page ∷ pages) words word e

-- a page behind as many as a command may name is refused
pub full_refused : (pages words : List (List ℕ)) (word : List ℕ) → IsPageList pages → length pages ≡ page_limit →
    words_of (codes "draw" ∷ (pages ++ (word ∷ words))) ≡ Err (1 + length pages)
full_refused pages words word listed e = plain_drawing pages (word ∷ words) listed ∙ ap (command_of (Draw Djvu)) (pages_full pages words word listed e)
