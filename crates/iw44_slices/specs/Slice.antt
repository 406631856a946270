-- What a slice of a plane reads: its decisions in order, and the coefficients that they make.
use Rattle.std.specs.Prelude.{ℕ, zero, suc, ◌+◌, ◌-◌, ◌*◌, ◌/◌, ◌==◌, Bool, true, false, not, ◌&&◌, ◌||◌, nat_le, if◌then◌else◌}
use Rattle.std.specs.Prelude.{min, ℤ, pos, negsuc, ◌-ℤ◌, unsigned_abs, List, [], ◌∷◌, ◌++◌}
use Rattle.iw44_blocks.specs.Plane.{Plane, block_count, coefficient, with_coefficient}
use Rattle.iw44_blocks.specs.Words.{is_zero}
use Rattle.iw44_slices.specs.Bands.{band_of, first_bucket, bucket_count, threshold, is_in_use}
use Rattle.iw44_slices.specs.Contexts.{Context, Root, Bucket, Start, Mantissa}

-- a decision is read in a context, or by the IW form
pub data Asked : Type 0 where
  In : Context → Asked
  Plain : Asked

-- a slice, or what is left of it: it has ended with these coefficients; or, the coefficients being these, a decision is
-- read, and its bit says how it goes on
pub data Course : Type 0 where
  Ended : Plane → Course
  Asks : Plane → Asked → (Bool → Course) → Course

-- a block of a slice: its number, and the coefficients when its band began
pub record Place : Type 0 where
  pub slice : ℕ
  pub block : ℕ
  pub before : Plane

abbrev pub threshold_at : Place → ℕ → ℕ
threshold_at at index = threshold at.slice index

abbrev pub before_at : Place → ℕ → ℤ
before_at at index = coefficient at.before at.block index

-- a coefficient whose threshold is in use is active or unknown
abbrev pub is_active : Place → ℕ → Bool
is_active at index = is_in_use (threshold_at at index) && not (is_zero (before_at at index))

abbrev pub is_unknown : Place → ℕ → Bool
is_unknown at index = is_in_use (threshold_at at index) && is_zero (before_at at index)

-- how many of so many numbers from one on a test holds of
abbrev pub count_from : (ℕ → Bool) → ℕ → ℕ → ℕ
count_from test zero from = 0
count_from test (suc count) from = (if test from then 1 else 0) + count_from test count (from + 1)

abbrev pub some_from : (ℕ → Bool) → ℕ → ℕ → Bool
some_from test zero from = false
some_from test (suc count) from = test from || some_from test count (from + 1)

-- a bucket is active, or has an unknown coefficient
abbrev pub is_active_bucket : Place → ℕ → Bool
is_active_bucket at bucket = some_from (is_active at) 16 (16 * bucket)

abbrev pub has_unknown : Place → ℕ → Bool
has_unknown at bucket = some_from (is_unknown at) 16 (16 * bucket)

abbrev pub unknowns : Place → ℕ → ℕ
unknowns at bucket = count_from (is_unknown at) 16 (16 * bucket)

abbrev pub is_active_band : Place → Bool
is_active_band at = some_from (is_active at) (16 * bucket_count (band_of at.slice)) (16 * first_bucket (band_of at.slice))

-- how many of a bucket's four parents aren't zero, whether their thresholds are in use or not; band 0 has none
abbrev pub parents : Place → ℕ → ℕ
parents at bucket = count_from (λ index. not (is_zero (before_at at index))) 4 (4 * bucket)

abbrev pub parents_in : ℕ → Place → ℕ → ℕ
parents_in zero at bucket = 0
parents_in (suc band) at bucket = min 3 (parents at bucket)

abbrev pub bucket_context : Place → ℕ → Context
bucket_context at bucket = Bucket (band_of at.slice) (parents_in (band_of at.slice) at bucket + (if is_active_band at then 4 else 0))

-- by the number of unknown coefficients that may still start
abbrev pub start_context : Place → ℕ → ℕ → Context
start_context at bucket left = Start (min 7 left + (if is_active_bucket at bucket then 8 else 0))

-- the size that a coefficient starts with, by its threshold
abbrev pub start_size : ℕ → ℕ
start_size t = t + t / 2 - t / 8

abbrev pub signed : Bool → ℕ → ℤ
signed negative size = if negative then pos 0 -ℤ pos size else pos size

-- a large coefficient isn't moved to the middle of its range first
abbrev pub is_large : ℕ → ℕ → Bool
is_large t size = not (nat_le size (3 * t))

abbrev pub raised : ℕ → ℕ → Bool → ℕ
raised t size bit = (if is_large t size then size else size + t / 4) + t / 2 - (if bit then 0 else t)

abbrev pub is_negative : ℤ → Bool
is_negative (pos n) = false
is_negative (negsuc n) = true

-- an active coefficient after its decision; the sign stays
abbrev pub raised_value : Place → ℕ → Bool → ℤ
raised_value at index bit = signed (is_negative (before_at at index)) (raised (threshold_at at index) (unsigned_abs (before_at at index)) bit)

-- large sizes are decided by the IW form, others in the mantissa context
abbrev pub raise_asked : Place → ℕ → Asked
raise_asked at index = if is_large (threshold_at at index) (unsigned_abs (before_at at index)) then Plain else In Mantissa

-- the fourth step: each active one of so many coefficients, in order
abbrev pub raises : Place → (Plane → Course) → ℕ → ℕ → Plane → Course
raises at rest zero index plane = rest plane
raises at rest (suc count) index plane =
    if is_active at index
    then Asks plane (raise_asked at index) (λ bit. raises at rest count (index + 1) (with_coefficient plane at.block index (raised_value at index bit)))
    else raises at rest count (index + 1) plane

abbrev pub all_raises : Place → (Plane → Course) → Plane → Course
all_raises at rest plane = raises at rest (16 * bucket_count (band_of at.slice)) (16 * first_bucket (band_of at.slice)) plane

-- the third step in one bucket: each unknown one of so many coefficients, in order. After a start its sign is read
abbrev pub starts : Place → (Plane → Course) → ℕ → ℕ → ℕ → ℕ → Plane → Course
starts at rest bucket zero index left plane = rest plane
starts at rest bucket (suc count) index left plane =
    if is_unknown at index
    then Asks plane (In (start_context at bucket left)) (λ starting.
    if starting
    then Asks plane Plain (λ negative. starts at rest bucket count (index + 1) 0
    (with_coefficient plane at.block index (signed negative (start_size (threshold_at at index)))))
    else starts at rest bucket count (index + 1) (left - 1) plane)
    else starts at rest bucket count (index + 1) left plane

-- the third step: the buckets from one on, in order; of each is told whether its decision was 1
abbrev pub all_starts : Place → (Plane → Course) → ℕ → List Bool → Plane → Course
all_starts at rest bucket [] plane = rest plane
all_starts at rest bucket (true ∷ later) plane = starts at (all_starts at rest (bucket + 1) later) bucket 16 (16 * bucket) (unknowns at bucket) plane
all_starts at rest bucket (false ∷ later) plane = all_starts at rest (bucket + 1) later plane

-- the second step: each of so many buckets in order; one with an unknown coefficient has a decision. The decisions so far
-- are kept, with 0 for a bucket that had none
abbrev pub choices : Place → (Plane → Course) → ℕ → ℕ → List Bool → Course
choices at rest zero bucket chosen = all_starts at (all_raises at rest) (first_bucket (band_of at.slice)) chosen at.before
choices at rest (suc count) bucket chosen =
    if has_unknown at bucket
    then Asks at.before (In (bucket_context at bucket)) (λ bit. choices at rest count (bucket + 1) (chosen ++ bit ∷ []))
    else choices at rest count (bucket + 1) (chosen ++ false ∷ [])

abbrev pub all_choices : Place → (Plane → Course) → Course
all_choices at rest = choices at rest (bucket_count (band_of at.slice)) (first_bucket (band_of at.slice)) []

-- the first step: a band of 16 buckets that isn't active may be left out
abbrev pub block_course : Place → (Plane → Course) → Course
block_course at rest =
    if (bucket_count (band_of at.slice) == 16) && not (is_active_band at)
    then Asks at.before (In Root) (λ bit. if bit then all_choices at rest else rest at.before)
    else all_choices at rest

-- so many blocks in order
abbrev pub blocks_course : ℕ → ℕ → ℕ → Plane → Course
blocks_course slice zero block plane = Ended plane
blocks_course slice (suc count) block plane =
    block_course (record { slice = slice; block = block; before = plane }) (λ after. blocks_course slice count (block + 1) after)

-- whether a coefficient of the slice's band has a threshold in use
abbrev pub does_something : ℕ → Bool
does_something slice =
    some_from (λ index. is_in_use (threshold slice index)) (16 * bucket_count (band_of slice)) (16 * first_bucket (band_of slice))

-- a slice of a plane: its band in every block, in order; one without a threshold in use reads nothing
abbrev pub slice_course : ℕ → Plane → Course
slice_course slice plane = if does_something slice then blocks_course slice (block_count plane) 0 plane else Ended plane
