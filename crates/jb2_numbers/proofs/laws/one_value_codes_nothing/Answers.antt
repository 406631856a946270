use Rattle.jb2_numbers.proofs.Ending.{single_answer, single_still}
use Rattle.jb2_numbers.proofs.laws.one_value_codes_nothing.Goals as goal

pub returns-clause-answer : goal.returns-clause-answer
returns-clause-answer c = single_answer

pub returns-clause-nothing : goal.returns-clause-nothing
returns-clause-nothing c number from states place same = (single_still number from states place same).none

pub returns-clause-states_stay : goal.returns-clause-states_stay
returns-clause-states_stay c number from states place same = (single_still number from states place same).states_stay

pub returns-clause-place_stays : goal.returns-clause-place_stays
returns-clause-place_stays c number from states place same = (single_still number from states place same).place_stays
