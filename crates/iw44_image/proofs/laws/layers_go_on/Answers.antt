use Rattle.iw44_image.proofs.Listing.{layer_appended, layer_done, layer_last, layer_rows, layer_counts}
use Rattle.iw44_image.proofs.laws.layers_go_on.Goals as goal

pub returns-clause-appended : goal.returns-clause-appended
returns-clause-appended c = layer_appended

pub returns-clause-done : goal.returns-clause-done
returns-clause-done c = layer_done

pub returns-clause-last : goal.returns-clause-last
returns-clause-last c = layer_last

pub returns-clause-rows : goal.returns-clause-rows
returns-clause-rows c = layer_rows

pub returns-clause-decisions : goal.returns-clause-decisions
returns-clause-decisions c = layer_counts
