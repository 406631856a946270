-- Counts of meters: each tick raises one by 1, and a count stands still at its type's end.
use Rattle.std.specs.Prelude.{ℕ, ◌≡◌, ◌+◌, ◌≤◌, min, nat_lt, if◌then◌else◌}

-- a count after one tick
abbrev pub ticked_once : ℕ → ℕ
ticked_once count = if nat_lt count 0xffff_ffff_ffff_ffff then count + 1 else count

-- a count after this many ticks: it rises up to 2 ^ 64 - 1, and never falls
abbrev pub ticked : ℕ → ℕ → ℕ
ticked ticks count = if nat_lt count 0xffff_ffff_ffff_ffff then min (count + ticks) 0xffff_ffff_ffff_ffff else count

-- a count rose by exactly this many ticks
abbrev pub TicksExactly : ℕ → ℕ → ℕ → Type 0
TicksExactly ticks before after = after ≡ ticked ticks before

-- a count rose by this many ticks at most
abbrev pub TicksAtMost : ℕ → ℕ → ℕ → Type 0
TicksAtMost most before after = (ticks : ℕ) × (ticks ≤ most) × (after ≡ ticked ticks before)
