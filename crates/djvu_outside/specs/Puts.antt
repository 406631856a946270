-- What is put into two sinks, in one order, byte by byte: so a prefix of it may end within a text.
use Rattle.std.specs.Prelude.{ℕ, ◌≡◌, ◌++◌, List, [], ◌∷◌, map, Option, Some, Result, Ok, Err}
use Rattle.djvu_outside.specs.declared.stops.Stop.{Stop}

-- a byte that is put into the sink of rasters or into that of lines
pub data Put : Type 0 where
  Out : ℕ → Put
  Report : ℕ → Put

abbrev pub to_out : List ℕ → List Put
to_out bytes = map Out bytes

abbrev pub to_report : List ℕ → List Put
to_report bytes = map Report bytes

-- what the sink of rasters gets of these puts
abbrev pub out_part : List Put → List ℕ
out_part [] = []
out_part (Out byte ∷ puts) = byte ∷ out_part puts
out_part (Report byte ∷ puts) = out_part puts

-- what the sink of lines gets of them
abbrev pub report_part : List Put → List ℕ
report_part [] = []
report_part (Out byte ∷ puts) = report_part puts
report_part (Report byte ∷ puts) = byte ∷ report_part puts

-- what both sinks tell that they were given
pub record Sinks : Type 0 where
  pub out : Option (List ℕ)
  pub report : Option (List ℕ)

abbrev pub sinks : Option (List ℕ) → Option (List ℕ) → Sinks
sinks out report = record { out = out; report = report }

-- each sink that tells what it was given got its part of these puts
pub record Got (puts : List Put) (before after : Sinks) : Type 0 where
  pub out : (bytes : List ℕ) → before.out ≡ Some bytes → after.out ≡ Some (bytes ++ out_part puts)
  pub report : (bytes : List ℕ) → before.report ≡ Some bytes → after.report ≡ Some (bytes ++ report_part puts)

-- both sinks got their parts of one prefix of these puts
pub record GotPrefix (puts : List Put) (before after : Sinks) : Type 0 where
  pub part : List Put
  pub rest : List Put
  pub puts_are : puts ≡ part ++ rest
  pub got : Got part before after

-- both sinks got all of these puts, or, where the part of a run stopped, a prefix of them
abbrev pub GivesBoth : {T : Type 0} → Result T Stop → List Put → Sinks → Sinks → Type 0
GivesBoth (Ok value) puts before after = Got puts before after
GivesBoth (Err stop) puts before after = GotPrefix puts before after
