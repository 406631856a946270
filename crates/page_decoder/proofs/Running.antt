-- A reading is that of its first acts, and then of the others: what a decoder that is fed keeps is what these left.
use Rattle.std.proofs.Common.{◌≡◌, List, [], ◌∷◌, ◌++◌, refl, sym, ◌∙◌}
use Rattle.page_decoder.specs.Given.{Home, Known}
use Rattle.page_decoder.specs.PageRead.{Left, PageRead}
use Rattle.page_decoder.specs.Acts.{Act, Close}
use Rattle.page_decoder.specs.Read.{Step, On, Ends, after, at_act, read_from, step_through}
use Rattle.page_decoder.proofs.Further.{after_then}

after_same : (s : Step) (next other : Left → PageRead) → ((left : Left) → next left ≡ other left) → after s next ≡ after s other
after_same (On left) next other e = e left
after_same (Ends read) next other e = refl

pub from_acts : (home : Home) (known : Known) (close : Close) (acts others : List Act) (left : Left)
    → read_from home known close (acts ++ others) left ≡ after (step_through home known acts left) (read_from home known close others)
from_acts home known close [] others left = refl
from_acts home known close (act ∷ acts) others left =
    after_same (at_act home known act left) (read_from home known close (acts ++ others))
    (λ now. after (step_through home known acts now) (read_from home known close others)) (from_acts home known close acts others)
    ∙ sym (after_then (at_act home known act left) (step_through home known acts) (read_from home known close others))
