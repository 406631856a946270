-- The files that a command's words name.
use Rattle.std.proofs.Common.{◌≡◌, ℕ, suc, ◌+◌, ◌-◌, ◌≤◌, inl, inr, Some, List, [], ◌∷◌, ◌++◌, map, length, slice_get, codes, refl, sym, ap, ◌∙◌, subst, arith, length-append, append_assoc}
use Rattle.std.specs.List.{range_with_len}
use Rattle.viewer_words.specs.declared.commands.Command.{Command}
use Rattle.viewer_words.specs.declared.commands.Command.TheVariants.{Draw, Info}
use Rattle.viewer_words.specs.declared.commands.TableChoice.{TableChoice}
use Rattle.viewer_words.specs.declared.commands.TableChoice.TheVariants.{Djvu, Flat, File}
use Rattle.viewer_words.specs.Files.{NamedFile, AreWords, files_by, files_in, named_files, numbered, table_before, table_file}
use Rattle.viewer_words.specs.Laws.{IsPageList, IsOption, IsTableWord, IsWritten}
use Rattle.viewer_words.specs.Words.{pages_in}
use Rattle.viewer_words.proofs.Drawings.{no_option, one_option}
use Rattle.viewer_words.proofs.TableWords.{table_said, file_no_option}

abbrev numbers : List NamedFile → List ℕ
numbers files = map (λ (file : NamedFile). file.0) files

pub pages_listed : (words : List (List ℕ)) (command : Command) → IsWritten words command → IsPageList (pages_in command)
pages_listed words (Draw table pages) written = written.3
pages_listed words (Info pages) written = written.1

-- what words name: these files, each of them the word of its number, and the last of the words
pub record IsNamed (all : List (List ℕ)) (files : List NamedFile) (wanted : List (List ℕ)) : Type 0 where
  pub names : map (λ file. file.1) files ≡ wanted
  pub words : AreWords all files
  pub last : map (λ file. file.0) files ≡ range_with_len (length all - length files) (length files)

-- files numbered from one word to the end are the last of the words
last_of : (first : ℕ) (all : List (List ℕ)) (files : List NamedFile) → numbers files ≡ range_with_len first (length files) → first + length files ≡ length all
    → numbers files ≡ range_with_len (length all - length files) (length files)
last_of first all files order end =
    let start : first ≡ length all - length files = omega (arith, end) in
    order ∙ ap (λ (from : ℕ). range_with_len from (length files)) start

numbered_names : (first : ℕ) (pages : List (List ℕ)) → map (λ (file : NamedFile). file.1) (numbered first pages) ≡ pages
numbered_names first [] = refl
numbered_names first (page ∷ pages) = ap (λ (ps : List (List ℕ)). page ∷ ps) (numbered_names (first + 1) pages)

numbered_order : (first : ℕ) (pages : List (List ℕ)) → numbers (numbered first pages) ≡ range_with_len first (length (numbered first pages))
numbered_order first [] = refl
numbered_order first (page ∷ pages) = ap (λ (ns : List ℕ). first ∷ ns) (numbered_order (first + 1) pages)

numbered_length : (first : ℕ) (pages : List (List ℕ)) → length (numbered first pages) ≡ length pages
numbered_length first [] = refl
numbered_length first (page ∷ pages) = ap suc (numbered_length (first + 1) pages)

word_at : (head rest : List (List ℕ)) (word : List ℕ) → slice_get (head ++ (word ∷ rest)) (length head) ≡ Some word
word_at [] rest word = refl
word_at (first ∷ head) rest word = word_at head rest word

numbered_words : (first : ℕ) (all head pages : List (List ℕ)) → first ≡ length head → all ≡ head ++ pages → AreWords all (numbered first pages)
numbered_words first all head [] size parts = tt
numbered_words first all head (page ∷ pages) size parts = (
  ap (slice_get all) size ∙ ap (λ (ws : List (List ℕ)). slice_get ws (length head)) parts ∙ word_at head pages page,
  numbered_words (first + 1) all (head ++ page ∷ []) pages (omega (arith, size, length-append head (page ∷ []))) (parts ∙ sym (append_assoc head (page ∷ []) pages)),
)

-- pages after other words
named_pages : (first : ℕ) (head pages : List (List ℕ)) → first ≡ length head → IsNamed (head ++ pages) (numbered first pages) pages
named_pages first head pages size =
    let files = numbered first pages in
    let end : first + length files ≡ length (head ++ pages) = omega (arith, size, length-append head pages, numbered_length first pages) in record {
      names = numbered_names first pages;
      words = numbered_words first (head ++ pages) head pages size refl;
      last = last_of first (head ++ pages) files (numbered_order first pages) end;
    }

-- pages alone: the first of them isn't the option's word
plain_files : (pages : List (List ℕ)) → IsPageList pages → named_files (codes "draw" ∷ pages) ≡ numbered 1 pages
plain_files [] listed = let some : 1 ≤ 0 = listed.some in absurd (omega arith)
plain_files (page ∷ pages) listed =
    ap (λ r. files_by r (page ∷ pages)) (no_option page pages (file_no_option page (listed.words 0 [] (omega arith))))

option_files : (word : List ℕ) (pages : List (List ℕ)) (table : TableChoice) → IsTableWord word table → named_files (codes "draw" ∷ codes "--table" ∷ word ∷ pages) ≡ table_file 2 table (numbered 3 pages)
option_files word pages table said =
    ap (λ r. files_by r (codes "--table" ∷ word ∷ pages)) (one_option (codes "--table") word pages table refl (table_said word table said))

-- a table's file before the pages
with_table : (word : List ℕ) (pages : List (List ℕ)) (table : TableChoice) → IsTableWord word table → IsNamed (codes "draw" ∷ codes "--table" ∷ word ∷ pages) (table_file 2 table (numbered 3 pages)) (table_before table pages)
with_table word pages Djvu said = named_pages 3 (codes "draw" ∷ codes "--table" ∷ word ∷ []) pages refl
with_table word pages Flat said = named_pages 3 (codes "draw" ∷ codes "--table" ∷ word ∷ []) pages refl
with_table word pages (File name) said =
    let all = codes "draw" ∷ codes "--table" ∷ word ∷ pages in
    let files : List NamedFile = (2, name) ∷ numbered 3 pages in
    let rest = named_pages 3 (codes "draw" ∷ codes "--table" ∷ word ∷ []) pages refl in
    let end : 2 + length files ≡ length all = omega (arith, numbered_length 3 pages) in record {
      names = ap (λ (ps : List (List ℕ)). name ∷ ps) rest.names;
      words = (ap Some said.0, rest.words);
      last = last_of 2 all files (ap (λ (ns : List ℕ). 2 ∷ ns) (numbered_order 3 pages)) end;
    }

by_option : (option pages : List (List ℕ)) (table : TableChoice) → IsOption option table → IsPageList pages → IsNamed (codes "draw" ∷ (option ++ pages)) (named_files (codes "draw" ∷ (option ++ pages))) (table_before table pages)
by_option option pages table (inl none) listed =
    let plain : IsNamed (codes "draw" ∷ pages) (named_files (codes "draw" ∷ pages)) pages = subst (λ (fs : List NamedFile). IsNamed (codes "draw" ∷ pages) fs pages) (sym (plain_files pages listed)) (named_pages 1 (codes "draw" ∷ []) pages refl) in
    subst (λ (t : TableChoice). IsNamed (codes "draw" ∷ (option ++ pages)) (named_files (codes "draw" ∷ (option ++ pages))) (table_before t pages)) (sym none.1)
    (subst (λ (o : List (List ℕ)). IsNamed (codes "draw" ∷ (o ++ pages)) (named_files (codes "draw" ∷ (o ++ pages))) pages) (sym none.0) plain)
by_option option pages table (inr some) listed =
    let word = some.0 in
    let said = with_table word pages table some.2 in
    let here = subst (λ (fs : List NamedFile). IsNamed (codes "draw" ∷ codes "--table" ∷ word ∷ pages) fs (table_before table pages)) (sym (option_files word pages table some.2)) said in
    subst (λ (o : List (List ℕ)). IsNamed (codes "draw" ∷ (o ++ pages)) (named_files (codes "draw" ∷ (o ++ pages))) (table_before table pages)) (sym some.1) here

pub files_named : (words : List (List ℕ)) (command : Command) → IsWritten words command → IsNamed words (named_files words) (files_in command)
files_named words (Draw table pages) written =
    subst (λ (ws : List (List ℕ)). IsNamed ws (named_files ws) (table_before table pages)) (sym written.1) (by_option written.0 pages table written.2 written.3)
files_named words (Info pages) written =
    subst (λ (ws : List (List ℕ)). IsNamed ws (named_files ws) pages) (sym written.0) (named_pages 1 (codes "info" ∷ []) pages refl)
