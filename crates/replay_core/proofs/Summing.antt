-- The ticks of a step, of the page's own decisions and of files.
use Rattle.std.proofs.Common.{◌≡◌, ◌≤◌, ℕ, ◌+◌, max, arith}
use Rattle.std.proofs.lemmas.Grind.{common_steps}
use Rattle.djvu_base.specs.Meter.{ticked}

-- a sum of which a part went on, and another
pub sums_on : (pages more_pages files more_files own more_own own_ticks file_ticks : ℕ) → more_pages + own ≡ pages + more_own → own ≤ pages
    → ticked more_files 0 ≡ ticked (file_ticks + files) 0 → ticked more_own 0 ≡ ticked (own_ticks + own) 0
    → ticked (more_pages + more_files) 0 ≡ ticked (own_ticks + file_ticks + (pages + files)) 0
sums_on pages more_pages files more_files own more_own own_ticks file_ticks change part of_files of_own =
    grind (arith, common_steps, change, part, of_files, of_own)

-- a count that stands still at its end is also that of itself
pub ticked_again : (ticks : ℕ) → ticked (ticked ticks 0) 0 ≡ ticked ticks 0
ticked_again ticks = grind (arith, common_steps)

-- counts that are told alike rise alike
pub rises_alike : (sum all ticks : ℕ) → ticked all 0 ≡ ticked ticks 0 → ticked (sum + all) 0 ≡ ticked ticks (ticked sum 0)
rises_alike sum all ticks same = grind (arith, common_steps, same)

-- where there was no memory, what was read counts, but no less than before
pub most_of : (before ticks now : ℕ) → now ≡ ticked ticks (ticked before 0) → now ≡ ticked (max before now) 0
most_of before ticks now is = grind (arith, common_steps, is)
