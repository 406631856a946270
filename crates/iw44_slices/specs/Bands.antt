-- The bands of a block, and the thresholds of its coefficients.
use Rattle.std.specs.Prelude.{ℕ, zero, suc, ◌/◌, ◌%◌, ◌^◌, Bool, ◌&&◌, nat_le, List, [], ◌∷◌, ◌++◌, replicate, slice_index_or}

-- a bucket is 16 coefficients, and a band some buckets in a row
abbrev pub bucket_size : ℕ
bucket_size = 16

-- a slice does one band
abbrev pub band_of : ℕ → ℕ
band_of slice = slice % 10

abbrev pub first_buckets : List ℕ
first_buckets = 0 ∷ 1 ∷ 2 ∷ 3 ∷ 4 ∷ 8 ∷ 12 ∷ 16 ∷ 32 ∷ 48 ∷ []

abbrev pub bucket_counts : List ℕ
bucket_counts = 1 ∷ 1 ∷ 1 ∷ 1 ∷ 4 ∷ 4 ∷ 4 ∷ 16 ∷ 16 ∷ 16 ∷ []

-- the first bucket of a band, and how many it has
abbrev pub first_bucket : ℕ → ℕ
first_bucket band = slice_index_or first_buckets band 0

abbrev pub bucket_count : ℕ → ℕ
bucket_count band = slice_index_or bucket_counts band 0

-- the first thresholds of the coefficients of band 0, and of the bands, of which that of band 0 isn't used
abbrev pub low_thresholds : List ℕ
low_thresholds = 0x4000 ∷ 0x8000 ∷ 0x8000 ∷ 0x10000 ∷ replicate 8 0x10000 ++ replicate 4 0x20000

abbrev pub band_thresholds : List ℕ
band_thresholds = 0 ∷ 0x20000 ∷ 0x20000 ∷ 0x40000 ∷ 0x40000 ∷ 0x40000 ∷ 0x80000 ∷ 0x40000 ∷ 0x40000 ∷ 0x80000 ∷ []

-- band 0 has a threshold for each coefficient, and each other band has one
abbrev pub first_threshold : ℕ → ℕ → ℕ
first_threshold zero index = slice_index_or low_thresholds index 0
first_threshold (suc band) index = slice_index_or band_thresholds (suc band) 0

-- the threshold of a coefficient of the slice's band: every ten slices it is halved
abbrev pub threshold : ℕ → ℕ → ℕ
threshold slice index = first_threshold (band_of slice) index / 2 ^ (slice / 10)

-- a threshold is in use from 1 to 7FFF hexadecimal
abbrev pub is_in_use : ℕ → Bool
is_in_use number = nat_le 1 number && nat_le number 0x7FFF
