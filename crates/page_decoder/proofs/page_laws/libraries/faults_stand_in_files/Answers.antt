use Rattle.page_decoder.proofs.FaultPlaces.{run_below}
use Rattle.page_decoder.proofs.page_laws.libraries.faults_stand_in_files.Goals as goal

pub returns : goal.returns
returns c table library page fault below e = run_below c.shows.ensures.faults table library page fault below e
