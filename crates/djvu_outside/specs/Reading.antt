-- Reading a folder's files, and putting bytes into sinks.
use Rattle.std.specs.Prelude.{ℕ, ◌≡◌, ◌+◌, ◌≤◌, ◌++◌, ◌↔◌, List, [], length, take, drop, unwrap_or, IsSome, Result, Ok, Err}
use Rattle.djvu_base.specs.Library.{Files, contents_of}
use Rattle.djvu_outside.specs.declared.faults.SinkFault.{SinkFault}
use Rattle.djvu_outside.specs.declared.faults.SinkFault.TheVariants as sink

-- an open file, and how many of its bytes were given
pub record Opened : Type 0 where
  pub name : List ℕ
  pub position : ℕ

abbrev pub opened_at_start : List ℕ → Opened
opened_at_start name = record { name = name; position = 0 }

abbrev pub moved_on : Opened → ℕ → Opened
moved_on here count = record { name = here.name; position = here.position + count }

-- the folder has a file of this name
abbrev pub HasFile : Files → List ℕ → Type 0
HasFile files name = IsSome (contents_of name files)

-- all bytes of the file of this name
abbrev pub bytes_in : Files → List ℕ → List ℕ
bytes_in files name = unwrap_or (contents_of name files) []

-- the buffer's first bytes, so many, are the file's next ones, and they are none exactly at the file's end
pub record ReadsNext (files : Files) (here : Opened) (buffer : List ℕ) (count : ℕ) : Type 0 where
  pub next : take count buffer ≡ take count (drop here.position (bytes_in files here.name))
  pub end : (count ≡ 0) ↔ (length (bytes_in files here.name) ≤ here.position)

-- what was given grew by a prefix of the piece
abbrev pub GrowsWithin : List ℕ → List ℕ → List ℕ → Type 0
GrowsWithin before piece after = (part : List ℕ) × (rest : List ℕ) × (piece ≡ part ++ rest) × (after ≡ before ++ part)

-- what was given after a `put` of the piece: all of it, a prefix of it, or nothing
abbrev pub Puts : {T : Type 0} → Result T SinkFault → List ℕ → List ℕ → List ℕ → Type 0
Puts (Ok value) before piece after = after ≡ before ++ piece
Puts (Err sink.Failed) before piece after = GrowsWithin before piece after
Puts (Err sink.OutOfMemory) before piece after = after ≡ before
