-- the pages of a command, one word after another: `words_of`
mod Pages
-- the word of a table
mod TableWords
-- one option, and those after it: `read_words`
mod OptionLemmas
-- the words after `draw`, by their first one
mod Drawings
-- `laws::written_commands`
mod Writing
-- `laws::named_files_are_words`
mod Naming
-- `laws::refused_words`
mod Refusing
