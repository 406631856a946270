-- How ticks raise a count.
use Rattle.std.proofs.Common.{◌≡◌, ℕ, suc, ◌+◌, ◌≤◌, min, ◌∙◌, ap, sym, arith}
use Rattle.std.proofs.lemmas.Grind.{common_steps}
use Rattle.djvu_base.specs.Meter.{ticked_once, ticked, TicksExactly, TicksAtMost}

pub ticked_none : (count : ℕ) → ticked 0 count ≡ count
ticked_none count = grind (arith, common_steps)

pub ticked_one : (count : ℕ) → ticked 1 count ≡ ticked_once count
ticked_one count = grind (arith, common_steps)

-- ticks after others
pub ticked_both : (more ticks count : ℕ) → ticked more (ticked ticks count) ≡ ticked (more + ticks) count
ticked_both more ticks count = grind (arith, common_steps)

-- one tick more
pub ticked_next : (ticks count : ℕ) → ticked_once (ticked ticks count) ≡ ticked (suc ticks) count
ticked_next ticks count = grind (arith, common_steps)

pub ticked_grows : (ticks count : ℕ) → count ≤ ticked ticks count
ticked_grows ticks count = grind (arith, common_steps)

pub ticked_more : (less more : ℕ) → less ≤ more → ticked less 0 ≤ ticked more 0
ticked_more less more le = grind (arith, common_steps)

pub ticks_both : (first last before mid after : ℕ) → TicksExactly first before mid → TicksExactly last mid after → TicksExactly (first + last) before after
ticks_both first last before mid after is_mid is_after =
    let turned : last + first ≡ first + last = omega arith in
    is_after ∙ ap (ticked last) is_mid ∙ ticked_both last first before ∙ ap (λ n. ticked n before) turned

pub ticks_one : (before after : ℕ) → after ≡ ticked_once before → TicksExactly 1 before after
ticks_one before after is = is ∙ sym (ticked_one before)

-- one tick after others
pub ticks_next : (ticks before mid after : ℕ) → TicksExactly ticks before mid → after ≡ ticked_once mid → TicksExactly (suc ticks) before after
ticks_next ticks before mid after is_mid is_after = is_after ∙ ap ticked_once is_mid ∙ ticked_next ticks before

-- where ticks raised a count from 0, a sum that stands still at its type's end is one tick more
pub saturated_once : (ticks count sum : ℕ) → TicksExactly ticks 0 count → sum ≡ min (count + 1) 0xffff_ffff_ffff_ffff → sum ≡ ticked_once count
saturated_once ticks count sum is more = grind (arith, common_steps, is, more)

-- no tick
pub ticks_none : (count : ℕ) → TicksExactly 0 count count
ticks_none count = sym (ticked_none count)

-- exactly so many are at most so many
pub exactly_at_most : (ticks before after : ℕ) → TicksExactly ticks before after → TicksAtMost ticks before after
exactly_at_most ticks before after e = (ticks, omega arith, e)

pub at_most_none : (most count : ℕ) → TicksAtMost most count count
at_most_none most count = (0, omega arith, sym (ticked_none count))

-- a part that was counted whole, and then another in part
pub at_most_after : (first most before mid after : ℕ) → TicksExactly first before mid → TicksAtMost most mid after → TicksAtMost (first + most) before after
at_most_after first most before mid after is_mid at_most =
    (first + at_most.0, omega (arith, at_most.1), ticks_both first at_most.0 before mid after is_mid at_most.2)

-- at most as many as a larger number
pub at_most_more : (most more before after : ℕ) → most ≤ more → TicksAtMost most before after → TicksAtMost more before after
at_most_more most more before after le at_most = (at_most.0, omega (arith, le, at_most.1), at_most.2)
