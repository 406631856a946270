use Rattle.iw44_slices.proofs.Cutting.{leaves_room}
use Rattle.iw44_slices.proofs.laws.decisions_are_bounded.Goals as goal

pub returns-clause-ready : goal.returns-clause-ready
returns-clause-ready c from course at ready = (leaves_room from course at ready).ready

pub returns-clause-room : goal.returns-clause-room
returns-clause-room c from course at ready = (leaves_room from course at ready).room

pub returns-clause-grows : goal.returns-clause-grows
returns-clause-grows c from course at ready = (leaves_room from course at ready).more
