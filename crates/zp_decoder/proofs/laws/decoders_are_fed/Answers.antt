use Rattle.zp_decoder.proofs.Feeding.{room_is, few_is}
use Rattle.zp_decoder.proofs.laws.decoders_are_fed.Goals as goal

pub returns-clause-few : goal.returns-clause-few
returns-clause-few c = few_is

pub returns-clause-room : goal.returns-clause-room
returns-clause-room c = room_is
