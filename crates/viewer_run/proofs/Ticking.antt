-- Meters that are ticked, and nothing else.
use Rattle.std.proofs.Common.{◌≡◌, ℕ, ◌+◌, ◌≤◌, Result, Ok, Err, sym, subst}
use Rattle.djvu_base.specs.Meter.{TicksExactly}
use Rattle.djvu_base.proofs.Ticks.{ticked_grows, ticks_none, ticks_both}
use Rattle.djvu_outside.specs.declared.stops.Stop.{Stop}
use Rattle.djvu_outside.specs.Parts.{Ticks}

-- it doesn't fall
pub never_fell : (before after : ℕ) → (ticks : ℕ) × TicksExactly ticks before after → before ≤ after
never_fell before after o = subst (λ n. before ≤ n) (sym o.1) (ticked_grows o.0 before)

pub only_ticks : {T : Type 0} (result : Result T Stop) (work before after : ℕ) → Ticks result work before after → (ticks : ℕ) × TicksExactly ticks before after
only_ticks (Ok value) work before after t = (work, t)
only_ticks (Err stop) work before after t = (t.0, t.2)

pub only_both : (before mid after : ℕ) → (ticks : ℕ) × TicksExactly ticks before mid → (ticks : ℕ) × TicksExactly ticks mid after
    → (ticks : ℕ) × TicksExactly ticks before after
only_both before mid after a b = (a.0 + b.0, ticks_both a.0 b.0 before mid after a.1 b.1)

pub only_none : (before after : ℕ) → after ≡ before → (ticks : ℕ) × TicksExactly ticks before after
only_none before after e = subst (λ n. (ticks : ℕ) × TicksExactly ticks before n) (sym e) (0, ticks_none before)
