-- What words are, apart from how they are read.
use Rattle.std.specs.Prelude.{◌≡◌, ◌≢◌, ℕ, ◌≤◌, ◌⊎◌, List, [], ◌∷◌, ◌++◌, length, Ok, IsTrue, codes}
use Rattle.std.specs.List.{AllPairs, AllPass}
use Rattle.viewer_words.specs.declared.commands.Command.{Command}
use Rattle.viewer_words.specs.declared.commands.Command.TheVariants.{Draw, Info}
use Rattle.viewer_words.specs.declared.commands.TableChoice.{TableChoice}
use Rattle.viewer_words.specs.declared.commands.TableChoice.TheVariants.{Djvu, Flat, File}
use Rattle.viewer_words.specs.Tables.{is_file_word}
use Rattle.viewer_words.specs.Words.{page_limit, words_of}

-- one page or more, not too many, each by a word that may name a file, and none twice
pub record IsPageList (pages : List (List ℕ)) : Type 0 where
  pub some : 1 ≤ length pages
  pub few : length pages ≤ page_limit
  pub words : AllPass is_file_word pages
  pub distinct : AllPairs (λ page later. page ≢ later) pages

-- the word of a table: a built-in one has its own, and a table in a file has the file's name, which may be neither of those
abbrev pub IsTableWord : List ℕ → TableChoice → Type 0
IsTableWord word Djvu = word ≡ codes "djvu"
IsTableWord word Flat = word ≡ codes "flat"
IsTableWord word (File name) = (word ≡ name) × IsTrue (is_file_word name) × (name ≢ codes "djvu") × (name ≢ codes "flat")

-- the words of the option: none for the table of DjVu files, or `--table` and then the table's word
abbrev pub IsOption : List (List ℕ) → TableChoice → Type 0
IsOption option table = ((option ≡ []) × (table ≡ Djvu)) ⊎ ((word : List ℕ) × (option ≡ codes "--table" ∷ word ∷ []) × IsTableWord word table)

-- the words of a command: its first word, then its option or none, and then its pages
abbrev pub IsWritten : List (List ℕ) → Command → Type 0
IsWritten words (Draw table pages) = (option : List (List ℕ)) × (words ≡ codes "draw" ∷ (option ++ pages)) × IsOption option table × IsPageList pages
IsWritten words (Info pages) = (words ≡ codes "info" ∷ pages) × IsPageList pages

-- some command begins with these words
abbrev pub CanBegin : List (List ℕ) → Type 0
CanBegin words = (more : List (List ℕ)) × (command : Command) × (words_of (words ++ more) ≡ Ok command)
