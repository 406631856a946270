use Rattle.std.proofs.Common.{◌≡◌, ℕ, ◌-◌, Option, Some, None, IsSome, subst, sym, refl}
use Rattle.iw44_image.specs.Keeping.{HasRoom}
use Rattle.wavelet_tests.proofs.readings.Reading.feed.Goals as goal

-- a chunk stays open while its bytes come
some_behind : (count : ℕ) (before after : Option ℕ) → HasRoom count before →
    ((left : ℕ) → before ≡ Some left → after ≡ Some (left - count)) → IsSome after
some_behind count None after fits moves = absurd fits
some_behind count (Some left) after fits moves = subst IsSome (sym (moves left refl)) refl

pub advance-requires : goal.advance-requires
advance-requires c = some_behind _ _ _ c.requires c.in-Ok.ensures.to_come
