use Rattle.jb2_numbers.proofs.Cutting.{stays_behind}
use Rattle.jb2_numbers.proofs.laws.readings_leave_room.Goals as goal

pub returns-clause-room : goal.returns-clause-room
returns-clause-room c number from at count ready = (stays_behind number from ready.table at count ready.below ready.standing).leaves

pub returns-clause-coded : goal.returns-clause-coded
returns-clause-coded c number from at count ready = (stays_behind number from ready.table at count ready.below ready.standing).more
