use Rattle.zp_encoder.proofs.Decoding.{bits_read, states_are_read}
use Rattle.zp_encoder.proofs.laws.codes_make_decisions.Goals as goal

pub returns-clause-answers : goal.returns-clause-answers
returns-clause-answers c = bits_read

pub returns-clause-states : goal.returns-clause-states
returns-clause-states c = states_are_read
