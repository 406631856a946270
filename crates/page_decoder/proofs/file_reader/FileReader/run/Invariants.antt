use Rattle.std.proofs.Common.{◌≡◌, ◌-◌, ◌≤◌, ℕ, drop, length, map}
use Rattle.include_graph.specs.Verdicts.{outline_in}
use Rattle.page_decoder.specs.Given.{Given}
use Rattle.page_decoder.specs.Decoder.{RiseTogether}
use Rattle.page_decoder.specs.FileReading.{Stands, SameFile, IsGiven, IsReady, Moves, decisions_in, left_over}
use Rattle.page_decoder.proofs.file_reader.FileReader.run.Given as goal

abbrev pub invariant-events : goal.invariant-events
invariant-events g l = record {
  ready : IsReady l.names (map outline_in l.outlines) l.results l.rest l.end l.self;
  moves : (before given : Given) → IsGiven l.names (map outline_in l.outlines) l.results l.piece l.end before given → Stands before l.fn.self
      → Moves given l.rest l.fn.self l.self;
  within : length l.rest ≤ length l.piece;
  rest_is : l.rest ≡ drop (length l.piece - length l.rest) l.piece;
  home : SameFile l.fn.self l.self;
  rise : RiseTogether (decisions_in l.fn.self) (decisions_in l.self) (g.M.Meter.count l.initial.meter) (g.M.Meter.count l.meter);
}

abbrev pub decreases-events : goal.decreases-events
decreases-events g l = left_over l.self (length l.rest)
