-- Reductions: by how much a layer of colour is coarser than its page.
use Rattle.std.specs.Prelude.{ℕ, zero, suc, ◌==◌, Bool, ◌&&◌, Option, Some, None, if◌then◌else◌}
use Rattle.std.specs.Int.{div_ceil}

-- whether a layer's sizes are the page's, divided by a number and rounded up
abbrev pub is_reduced : ℕ × ℕ → ℕ × ℕ → ℕ → Bool
is_reduced page layer k = div_ceil page.0 k == layer.0 && div_ceil page.1 k == layer.1

-- the first that passes of so many numbers from one on
abbrev pub first_from : (ℕ → Bool) → ℕ → ℕ → Option ℕ
first_from test k zero = None
first_from test k (suc count) = if test k then Some k else first_from test (suc k) count

-- the reduction of a layer: the least number from 1 to 12 that makes its sizes of the page's, if one does
abbrev pub reduction_of : ℕ × ℕ → ℕ × ℕ → Option ℕ
reduction_of page layer = first_from (is_reduced page layer) 1 12
