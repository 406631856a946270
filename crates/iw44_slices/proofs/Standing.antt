-- How a reader stands, stage by stage, on its way to the next decision.
use Rattle.std.proofs.Common.{◌≡◌, ℕ, ◌+◌, ◌-◌, ◌<◌, ◌≤◌, Bool, true, false, ◌&&◌, List, [], take}
use Rattle.std.proofs.Common.{min, refl, ap, sym, ◌∙◌, subst, arith, inl, inr}
use Rattle.std.specs.Prelude.{◌==◌, not}
use Rattle.std.proofs.lemmas.Bool.{cases_lt}
use Rattle.iw44_blocks.specs.Plane.{Plane, block_count}
use Rattle.iw44_slices.specs.Bands.{band_of, bucket_count}
use Rattle.iw44_slices.specs.Slice.{Place, Course, Ended, is_active_band}
use Rattle.iw44_slices.specs.Slice.{choices, blocks_course, does_something, slice_course}
use Rattle.iw44_slices.specs.Reader.{place_in, first_at, count_at, later_blocks, AreMarked, InBlock}
use Rattle.iw44_slices.specs.Reader.{BeforeBlock, LeftAt, Left}
use Rattle.iw44_slices.specs.Moves.{is_settled, is_settled_at}
use Rattle.iw44_slices.specs.declared.spots.Spot.{Spot}
use Rattle.iw44_slices.specs.declared.spots.Stage.{Stage}
use Rattle.iw44_slices.specs.declared.spots.Stage.TheVariants as stage
use Rattle.iw44_slices.proofs.Ending.{nothing_late, slice_ends}
use Rattle.iw44_slices.proofs.Skipping.{unless, when}
use Rattle.iw44_slices.proofs.Skipping.{block_first, blocks_end, with_root, without_root}

-- what is left, where the stage is known
pub stands_at : (s : Stage) (slice : ℕ) (course : Course) (plane : Plane) (spot : Spot) → spot.stage ≡ s → Left slice course plane spot →
    LeftAt s slice course plane spot
unfolding Left
stands_at s slice course plane spot e left = subst (λ (x : Stage). LeftAt x slice course plane spot) e left

pub stands_as : (s : Stage) (slice : ℕ) (course : Course) (plane : Plane) (spot : Spot) → spot.stage ≡ s → LeftAt s slice course plane spot →
    Left slice course plane spot
unfolding Left
stands_as s slice course plane spot e is = subst (λ (x : Stage). LeftAt x slice course plane spot) (sym e) is

pub settled_at : (s : Stage) (spot : Spot) (b : Bool) → spot.stage ≡ s → is_settled spot ≡ b → is_settled_at s spot ≡ b
settled_at s spot b e is = subst (λ (x : Stage). is_settled_at x spot ≡ b) e is

-- a slice

used_early : (number : ℕ) → does_something number ≡ true → number < 200
used_early number used = elim (cases_lt number 200) [
  | inl early ↦ early
  | inr late ↦ absurd (let none = nothing_late number late in let wrong = sym used ∙ none in cc)
]

pub slice_begins : (slice : ℕ) (course : Course) (plane : Plane) (spot : Spot) → spot.stage ≡ stage.Slice → does_something spot.number ≡ true →
    Left slice course plane spot →
    Left slice course plane (record spot { stage = stage.Block; block = 0 })
unfolding Left
slice_begins slice course plane spot e used left =
    let is = stands_at stage.Slice slice course plane spot e left in
    let early = used_early spot.number used in
    let number = is.number in
    let same : spot.number ≡ slice = omega arith in
    let all : block_count plane ≡ block_count plane - 0 = omega arith in
    record {
      same = same;
      used = used;
      within = omega arith;
      is = is.is ∙ (ap (λ (n : ℕ). slice_course n plane) (sym same)
          ∙ (when (does_something spot.number) (blocks_course spot.number (block_count plane) 0 plane) (Ended plane) used
          ∙ ap (λ (n : ℕ). blocks_course spot.number n 0 plane) all));
    }

pub slice_is_empty : (slice : ℕ) (course : Course) (plane : Plane) (spot : Spot) → spot.stage ≡ stage.Slice → does_something spot.number ≡ false →
    Left slice course plane spot →
    Left slice course plane (record spot { stage = stage.End })
unfolding Left
slice_is_empty slice course plane spot e idle left =
    let is = stands_at stage.Slice slice course plane spot e left in
    let number = is.number in
    record {
      number = is.number;
      is = is.is ∙ elim (cases_lt slice 200) [
        | inl early ↦
            let same : spot.number ≡ slice = omega arith in
            unless (does_something slice) (blocks_course slice (block_count plane) 0 plane) (Ended plane) (ap does_something (sym same) ∙ idle)
        | inr late ↦ slice_ends slice plane late
      ];
    }

-- a block

pub blocks_are_over : (slice : ℕ) (course : Course) (plane : Plane) (spot : Spot) → spot.stage ≡ stage.Block → block_count plane ≤ spot.block →
    Left slice course plane spot →
    Left slice course plane (record spot { stage = stage.End })
unfolding Left
blocks_are_over slice course plane spot e all left =
    let is = stands_at stage.Block slice course plane spot e left in
    let early = used_early spot.number is.used in
    let same = is.same in
    record { number = omega arith; is = is.is ∙ blocks_end spot.number (block_count plane) spot.block plane all }

before_moved : (slice number block other_number other_block : ℕ) (plane : Plane) (course : Course) → other_number ≡ number → other_block ≡ block →
    BeforeBlock slice number block plane course → BeforeBlock slice other_number other_block plane course
before_moved slice number block other_number other_block plane course n b is =
    subst (λ (k : ℕ). BeforeBlock slice k other_block plane course) (sym n) (subst (λ (k : ℕ). BeforeBlock slice number k plane course) (sym b) is)

begun : (slice : ℕ) (course : Course) (plane : Plane) (spot : Spot) → BeforeBlock slice spot.number spot.block plane course → spot.block < block_count plane →
    AreMarked (place_in plane spot) spot.is_active spot.active spot.unknown → InBlock slice plane plane spot
begun slice course plane spot is within marks = record { number = is.same; used = is.used; block = within; marks = marks }

root_test : (plane : Plane) (spot : Spot) (test : Bool) → AreMarked (place_in plane spot) spot.is_active spot.active spot.unknown →
    ((bucket_count (band_of spot.number) == 16) && not spot.is_active) ≡ test →
    ((bucket_count (band_of spot.number) == 16) && not (is_active_band (place_in plane spot))) ≡ test
root_test plane spot test marks e = ap (λ (b : Bool). (bucket_count (band_of spot.number) == 16) && not b) (sym marks.activity) ∙ e

-- all choices of a block, of which none was made
pub choices_first : (at : Place) (rest : Plane → Course) (chosen : List Bool) →
    choices at rest (count_at at) (first_at at) [] ≡ choices at rest (count_at at - 0) (first_at at + 0) (take 0 chosen)
choices_first at rest chosen =
    let all : count_at at ≡ count_at at - 0 = omega arith in
    let first : first_at at ≡ first_at at + 0 = omega arith in
    ap (λ (n : ℕ). choices at rest n (first_at at) []) all ∙ ap (λ (n : ℕ). choices at rest (count_at at - 0) n []) first

pub block_has_root : (slice : ℕ) (course : Course) (plane : Plane) (old spot : Spot) → old.stage ≡ stage.Block → old.block < block_count plane →
    spot.number ≡ old.number → spot.block ≡ old.block →
    AreMarked (place_in plane spot) spot.is_active spot.active spot.unknown → ((bucket_count (band_of spot.number) == 16) && not spot.is_active) ≡ true →
    Left slice course plane old → Left slice course plane (record spot { stage = stage.Root; bucket = 0 })
unfolding Left
block_has_root slice course plane old spot e within n b marks test left =
    let is = before_moved slice old.number old.block spot.number spot.block plane course n b (stands_at stage.Block slice course plane old e left) in
    let inside : spot.block < block_count plane = omega arith in (
      begun slice course plane spot is inside marks,
      record {
        is = is.is ∙ (block_first spot.number (block_count plane) spot.block plane inside
            ∙ with_root (place_in plane spot) (later_blocks plane spot) (root_test plane spot true marks test));
      },
    )

pub block_has_none : (slice : ℕ) (course : Course) (plane : Plane) (old spot : Spot) → old.stage ≡ stage.Block → old.block < block_count plane →
    spot.number ≡ old.number → spot.block ≡ old.block →
    AreMarked (place_in plane spot) spot.is_active spot.active spot.unknown → ((bucket_count (band_of spot.number) == 16) && not spot.is_active) ≡ false →
    Left slice course plane old → Left slice course plane (record spot { stage = stage.Bucket; bucket = 0 })
unfolding Left
block_has_none slice course plane old spot e within n b marks test left =
    let is = before_moved slice old.number old.block spot.number spot.block plane course n b (stands_at stage.Block slice course plane old e left) in
    let inside : spot.block < block_count plane = omega arith in (
      begun slice course plane spot is inside marks,
      record {
        within = omega arith;
        is = is.is ∙ (block_first spot.number (block_count plane) spot.block plane inside
            ∙ (without_root (place_in plane spot) (later_blocks plane spot) (root_test plane spot false marks test)
            ∙ choices_first (place_in plane spot) (later_blocks plane spot) spot.chosen));
      },
    )

-- the next slice
pub next_begins : (slice : ℕ) (course : Course) (plane : Plane) (spot : Spot) (number : ℕ) → spot.stage ≡ stage.End → number ≡ min (spot.number + 1) 200 →
    Left slice course plane spot →
    Left (slice + 1) (slice_course (slice + 1) plane) plane (record spot { stage = stage.Slice; number = number })
unfolding Left
next_begins slice course plane spot number e more left =
    let is = stands_at stage.End slice course plane spot e left in
    let was = is.number in
    record { number = omega arith; is = refl }

-- from slice 200 on the number stays
pub next_stays : (slice : ℕ) (course : Course) (plane : Plane) (spot : Spot) → spot.stage ≡ stage.End → 200 ≤ spot.number → Left slice course plane spot →
    Left (slice + 1) (slice_course (slice + 1) plane) plane (record spot { stage = stage.Slice })
unfolding Left
next_stays slice course plane spot e high left =
    let is = stands_at stage.End slice course plane spot e left in
    let was = is.number in
    record { number = omega arith; is = refl }
