-- Where a shape that is moved meets a plane, in one direction.
use Rattle.std.specs.Prelude.{◌≡◌, ℕ, ◌+◌, ◌<◌, ◌≤◌, ℤ, pos, ◌-ℤ◌, Option, MatchOption}
use Rattle.bit_plane.specs.declared.painting.Span.{Span}

-- place a of the shape falls on place x of the plane
abbrev pub Falls : ℤ → ℕ → ℕ → Type 0
Falls offset a x = pos x -ℤ offset ≡ pos a

-- the span's places of the shape fall on its places of the plane, and no others meet
pub record IsSpan (offset : ℤ) (shape plane : ℕ) (span : Span) : Type 0 where
  pub some : 0 < span.count
  pub source : span.from + span.count ≤ shape
  pub target : span.to + span.count ≤ plane
  pub hit : (i : ℕ) → i < span.count → Falls offset (span.from + i) (span.to + i)
  pub miss : (x a : ℕ) → x < plane → a < shape → Falls offset a x → (span.to ≤ x) × (x < span.to + span.count)

-- no place of the shape falls on one of the plane
abbrev pub Misses : ℤ → ℕ → ℕ → Type 0
Misses offset shape plane = (x a : ℕ) → x < plane → a < shape → Falls offset a x → ⊥

-- where the shape meets the plane, if anywhere
abbrev pub Meets : ℤ → ℕ → ℕ → Option Span → Type 0
Meets offset shape plane span = MatchOption span (Misses offset shape plane) (IsSpan offset shape plane)
