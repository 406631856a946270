-- How a page is turned by the flags of its INFO.
use Rattle.std.specs.Prelude.{ℕ, ◌%◌, ◌==◌, Option, Some, None, if◌then◌else◌}
use Rattle.djvu_base.specs.declared.turns.Turn.{Turn}
use Rattle.djvu_base.specs.declared.turns.Turn.TheVariants.{Upright, Right, Over, Left}

-- the turn that three bits say: a number that says none leaves the page upright
abbrev pub turn_by_bits : ℕ → Turn
turn_by_bits bits =
    if bits == 5 then Right
    else (if bits == 2 then Over
    else (if bits == 6 then Left
    else Upright))

-- the low three bits of the flags say it; a page without flags is upright
abbrev pub turn_of : Option ℕ → Turn
turn_of None = Upright
turn_of (Some flags) = turn_by_bits (flags % 8)
