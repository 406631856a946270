use Rattle.jb2_shapes.proofs.Leaving.{leaves_room}
use Rattle.jb2_shapes.proofs.laws.readings_leave_room.Goals as goal

pub returns-clause-room : goal.returns-clause-room
returns-clause-room c context rows payload ended at ready = (leaves_room context rows payload ended at ready.table ready.below ready.standing).leaves

pub returns-clause-number : goal.returns-clause-number
returns-clause-number c context rows payload ended at ready = (leaves_room context rows payload ended at ready.table ready.below ready.standing).more
