use Rattle.std.proofs.Common.{List, length, map}
use Rattle.zp_table.specs.declared.rows.Row.{Row}
use Rattle.include_graph.specs.Verdicts.{outline_in}
use Rattle.page_decoder.specs.PageRead.{Left}
use Rattle.page_decoder.specs.Resolving.{home_of, known_of, Resolves}
use Rattle.page_decoder.proofs.resolving.Includes.go_on.Given as goal

abbrev pub invariant-includes : goal.invariant-includes
invariant-includes l = (table : List Row) (left : Left)
    → Resolves (home_of l.role table l.names l.file) (known_of (map outline_in l.outlines) l.results) left l.fn.self
    → Resolves (home_of l.role table l.names l.file) (known_of (map outline_in l.outlines) l.results) left l.self

abbrev pub decreases-includes : goal.decreases-includes
decreases-includes l = length l.self.pending
