use Rattle.viewer_words.proofs.Writing.{read_written, written_read}
use Rattle.viewer_words.proofs.laws.written_commands.Goals as goal

pub returns : goal.returns
returns c words command = (read_written words command, written_read words command)
