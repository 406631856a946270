-- Entries of logs: which end their page's log, and where each may stand.
use Rattle.std.specs.Prelude.{ℕ, Bool, true, false}
use Rattle.port_log.specs.declared.entries.Entry.{Entry}
use Rattle.port_log.specs.declared.entries.Entry.TheVariants.{Drew, Ended}
use Rattle.once_board.specs.Filled.{EndsFullRow}

-- no entry comes after it
abbrev pub is_end : Entry → Bool
is_end (Drew notice) = false
is_end (Ended end) = true

-- a page's log has 260 places, and at the last of them only its end may stand
abbrev pub may_stand : ℕ → Entry → Type 0
may_stand = EndsFullRow is_end 260
