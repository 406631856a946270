use Rattle.viewer_run.proofs.Running.{sound_outcome}
use Rattle.viewer_run.proofs.laws.sound_folders.Goals as goal

pub returns : goal.returns
returns c = sound_outcome
