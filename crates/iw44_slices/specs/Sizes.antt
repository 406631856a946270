-- How large coefficients are.
use Rattle.std.specs.Prelude.{◌≡◌, ℕ, ◌+◌, ◌*◌, ◌<◌, ◌≤◌, Bool, ◌⊎◌, ℤ, unsigned_abs}
use Rattle.iw44_blocks.specs.Plane.{Plane, block_count, coefficient}
use Rattle.iw44_slices.specs.Bands.{band_of, first_bucket, bucket_count, threshold}
use Rattle.iw44_slices.specs.Slice.{Course, Ended, Asks}

-- a size that isn't 0, where t is the next threshold: the earlier ones have left it at least twice as large, and what can
-- still be added keeps it below 8000 hexadecimal
pub record IsRaised (t size : ℕ) : Type 0 where
  pub lower : 2 * t ≤ size
  pub upper : size + t ≤ 32768
  pub most : size ≤ 32767
  pub once : 4096 < t → size ≤ 22528

-- a coefficient whose next threshold is t
abbrev pub IsDue : ℕ → ℤ → Type 0
IsDue t value = (unsigned_abs value ≡ 0) ⊎ IsRaised t (unsigned_abs value)

-- a coefficient of a band
pub record InBand (band index : ℕ) : Type 0 where
  pub first : 16 * first_bucket band ≤ index
  pub last : index < 16 * first_bucket band + 16 * bucket_count band

-- a plane that so many slices left: of the next ten each does a band, whose thresholds are then the next ones
abbrev pub AreDue : ℕ → Plane → Type 0
AreDue slice plane = (later block index : ℕ) → slice ≤ later → later < slice + 10 → block < block_count plane → InBand (band_of later) index →
    IsDue (threshold later index) (coefficient plane block index)

-- the planes before decisions are of one kind, and that at the end is of another
abbrev pub Along : (Plane → Type 0) → (Plane → Type 0) → Course → Type 0
Along before last (Ended plane) = last plane
Along before last (Asks plane asked next) = before plane × ((bit : Bool) → Along before last (next bit))
