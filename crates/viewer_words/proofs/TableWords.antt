-- The word of a table.
use Rattle.std.proofs.Common.{◌≡◌, ◌≢◌, ℕ, Bool, true, false, cond, not, Some, None, List, codes, refl, ap, ◌∙◌, subst}
use Rattle.std.specs.List.{starts_with}
use Rattle.std.specs.Str.{bytes_eq}
use Rattle.std.specs.Prelude.{nat_eq}
use Rattle.std.proofs.lemmas.Bool.{both_ways, false_from_ne_true, and_parts}
use Rattle.std.proofs.lemmas.Slice.Eq.{bytes_eq-Decides}
use Rattle.djvu_base.specs.Name.{is_name}
use Rattle.viewer_words.specs.declared.commands.TableChoice.{TableChoice}
use Rattle.viewer_words.specs.declared.commands.TableChoice.TheVariants.{Djvu, Flat, File}
use Rattle.viewer_words.specs.Tables.{is_file_word, table_of}
use Rattle.viewer_words.specs.Laws.{IsTableWord}

pub not_same : (a b : List ℕ) → a ≢ b → bytes_eq a b ≡ false
not_same a b other = false_from_ne_true (bytes_eq a b) (λ e. other ((bytes_eq-Decides a b).0 e))

differs : (a b : List ℕ) → bytes_eq a b ≡ false → a ≢ b
differs a b e same = both_ways (bytes_eq a b) e ((bytes_eq-Decides a b).1 same)

by_word : (word : List ℕ) (table : TableChoice) (t u v : Bool) → bytes_eq word (codes "djvu") ≡ t → bytes_eq word (codes "flat") ≡ u → is_file_word word ≡ v
    → cond t (Some Djvu) (cond u (Some Flat) (cond v (Some (File word)) None)) ≡ Some table → IsTableWord word table
by_word word table true u v djvu flat file e =
    let same : Djvu ≡ table = cc in
    subst (IsTableWord word) same ((bytes_eq-Decides word (codes "djvu")).0 djvu)
by_word word table false true v djvu flat file e =
    let same : Flat ≡ table = cc in
    subst (IsTableWord word) same ((bytes_eq-Decides word (codes "flat")).0 flat)
by_word word table false false true djvu flat file e =
    let same : File word ≡ table = cc in
    let named : IsTableWord word (File word) = (refl, file, differs word (codes "djvu") djvu, differs word (codes "flat") flat) in
    subst (IsTableWord word) same named
by_word word table false false false djvu flat file e = cc

-- the table that a word says has this word
pub table_written : (word : List ℕ) (table : TableChoice) → table_of word ≡ Some table → IsTableWord word table
table_written word table e = by_word word table (bytes_eq word (codes "djvu")) (bytes_eq word (codes "flat")) (is_file_word word) refl refl refl e

file_table : (name : List ℕ) → is_file_word name ≡ true → bytes_eq name (codes "djvu") ≡ false → bytes_eq name (codes "flat") ≡ false → table_of name ≡ Some (File name)
file_table name file djvu flat = rw (djvu, flat, file) refl

pub table_said : (word : List ℕ) (table : TableChoice) → IsTableWord word table → table_of word ≡ Some table
table_said word Djvu said = ap table_of said
table_said word Flat said = ap table_of said
table_said word (File name) said = ap table_of said.0 ∙ file_table name said.1 (not_same name (codes "djvu") said.2) (not_same name (codes "flat") said.3)

-- no file is named by the option's word
pub file_no_option : (word : List ℕ) → is_file_word word ≡ true → bytes_eq word (codes "--table") ≡ false
file_no_option word file = not_same word (codes "--table") (λ same.
    let free : not (starts_with nat_eq word (codes "--")) ≡ true = (and_parts (is_name word) (not (starts_with nat_eq word (codes "--"))) file).1 in
    let dashes : not (starts_with nat_eq (codes "--table") (codes "--")) ≡ true = subst (λ (w : List ℕ). not (starts_with nat_eq w (codes "--")) ≡ true) same free in
    cc)
