-- The contexts of a plane, by their names.
use Rattle.std.specs.Prelude.{ℕ, Bool, true, false, ◌&&◌, ◌==◌}

-- one for roots, eight for the buckets of each band, sixteen for starts, one for mantissas
pub data Context : Type 0 where
  Root : Context
  Bucket : ℕ → ℕ → Context
  Start : ℕ → Context
  Mantissa : Context

-- whether two names are the same
abbrev pub is_same : Context → Context → Bool
is_same Root Root = true
is_same Root (Bucket band number) = false
is_same Root (Start number) = false
is_same Root Mantissa = false
is_same (Bucket band number) Root = false
is_same (Bucket band number) (Bucket other_band other) = (band == other_band) && (number == other)
is_same (Bucket band number) (Start other) = false
is_same (Bucket band number) Mantissa = false
is_same (Start number) Root = false
is_same (Start number) (Bucket band other) = false
is_same (Start number) (Start other) = number == other
is_same (Start number) Mantissa = false
is_same Mantissa Root = false
is_same Mantissa (Bucket band number) = false
is_same Mantissa (Start number) = false
is_same Mantissa Mantissa = true
