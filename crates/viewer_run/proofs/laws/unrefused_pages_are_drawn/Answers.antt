use Rattle.viewer_run.proofs.Finishing.{raster_there}
use Rattle.viewer_run.proofs.laws.unrefused_pages_are_drawn.Goals as goal

pub returns : goal.returns
returns c = raster_there c.closed_libraries.ensures.known c.shows.ensures.layers
