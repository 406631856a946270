-- Who feeds which file, once seats were split off the first seat of a pool of two files.
use Rattle.std.proofs.Common.{◌≡◌, ◌∙◌, ℕ, ◌-◌, ◌%◌, ◌≤◌, ◌<◌, List, [], ◌∷◌, eq-eqb, ne_eqb, refl, sym, ap, subst, arith, Some, None}
use mathlib.Core.Logic.{dite}
use native.Mathlib.Decide.{ℕ_discrete}
use Rattle.once_board.specs.Boards.{IsFirst}
use Rattle.once_board.specs.Holds.{split_kept, split_off}
use Rattle.once_board.specs.Numbers.{times, without, part_given}
use Rattle.once_board.proofs.Lemmas.{times_else}
use Rattle.data_pool.specs.Pools.{PoolView, PoolSeatView, IsSeatOf, MayFeed}

-- how often 0 stands in a list doesn't change where a 1 is taken out
zeros_stay : (xs : List ℕ) → times 0 (without 1 xs) ≡ times 0 xs
zeros_stay [] = refl
zeros_stay (x ∷ xs) = let rest = zeros_stay xs in dite (ℕ_discrete x 1)
    (λ e. rw (eq-eqb x 1 e) (sym (times_else 0 x xs (λ z. omega arith))))
    (λ n. rw (ne_eqb x 1 n) (omega arith))

module _ (pool : PoolView) (files : pool.files ≡ 2) (feeders : pool.feeders ≡ 2) where
  feeds_with : (seat : PoolSeatView) (file : ℕ) → file < 2 → IsSeatOf pool seat → 1 ≤ times (file % 2) seat.hold.rights → 1 ≤ seat.hold.parts
      → MayFeed seat file
  feeds_with seat file inside is right part = record {
    inside = let rows = is.same_rows in omega arith;
    right = subst (λ n. 1 ≤ times (file % n) seat.hold.rights) (sym (is.same_rights ∙ feeders)) right;
    part = part;
  }

  -- the first seat, when a right was split off and then none, and the seat that got the right
  pub feeds_on : (seat between after other : PoolSeatView) → IsFirst seat.hold → between.hold ≡ split_kept (Some 1) seat.hold
      → other.hold ≡ split_off (Some 1) seat.hold → after.hold ≡ split_kept None between.hold → IsSeatOf pool after → IsSeatOf pool other
      → MayFeed after 0 × MayFeed other 1
  feeds_on seat between after other first kept off kept_again is_after is_other =
      let rights : times 0 after.hold.rights ≡ 1
      = ap (λ h. times 0 h.rights) kept_again ∙ (ap (λ h. times 0 h.rights) kept ∙ (zeros_stay seat.hold.rights ∙ first.each_right 0 (omega arith))) in
      let between_parts : between.hold.parts ≡ 4_294_967_295
      = ap (λ h. h.parts) kept ∙ ap (λ n. n - part_given n) first.all_the_parts in
      let parts : after.hold.parts ≡ 4_294_967_294
      = ap (λ h. h.parts) kept_again ∙ ap (λ n. n - part_given n) between_parts in
      let other_right : times 1 other.hold.rights ≡ 1 = ap (λ h. times 1 h.rights) off in
      let other_parts : other.hold.parts ≡ 1 = ap (λ h. h.parts) off ∙ ap part_given first.all_the_parts in (
        feeds_with after 0 (omega arith) is_after (omega arith) (omega arith),
        feeds_with other 1 (omega arith) is_other (omega arith) (omega arith),
      )
