use Rattle.viewer_words.proofs.Writing.{read_written}
use Rattle.viewer_words.proofs.Naming.{files_named, pages_listed}
use Rattle.viewer_words.proofs.laws.named_files_are_words.Goals as goal

pub returns-clause-names : goal.returns-clause-names
returns-clause-names c words command e = (files_named words command (read_written words command e)).names

pub returns-clause-words : goal.returns-clause-words
returns-clause-words c words command e = (files_named words command (read_written words command e)).words

pub returns-clause-last : goal.returns-clause-last
returns-clause-last c words command e = (files_named words command (read_written words command e)).last

pub returns-clause-pages : goal.returns-clause-pages
returns-clause-pages c words command e = pages_listed words command (read_written words command e)
