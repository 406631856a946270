-- Sinks in memory and over writers.
use Rattle.std.specs.Prelude.{ℕ, List, [], Option}
use Rattle.djvu_outside.specs.Calls.{Numbered, numbered_from_0}

pub record MemoryBytes : Type 0 where
  pub given : List ℕ
  pub faults : ℕ
  pub calls : Numbered

abbrev pub new_bytes : List ℕ → MemoryBytes
new_bytes failing = record { given = []; faults = 0; calls = numbered_from_0 failing }

-- a sink over a writer: what the writer holds, where that is known
pub record WrittenBytes : Type 0 where
  pub written : Option (List ℕ)
  pub faults : ℕ

abbrev pub new_writer : Option (List ℕ) → WrittenBytes
new_writer written = record { written = written; faults = 0 }
