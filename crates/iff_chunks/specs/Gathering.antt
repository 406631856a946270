-- The bytes that were gathered.
use Rattle.std.specs.Prelude.{ℕ, List, take}
use Rattle.iff_chunks.specs.declared.gathering.Gathered.{Gathered}

abbrev pub gathered : Gathered → List ℕ
gathered got = take got.count got.bytes
