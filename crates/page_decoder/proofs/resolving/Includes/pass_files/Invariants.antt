use Rattle.std.proofs.Common.{◌≡◌, ◌≤◌, Option, None, List, length, drop}
use Rattle.include_graph.specs.declared.outline.Outline.{Outline}
use Rattle.page_decoder.specs.Given.{Home}
use Rattle.page_decoder.specs.PageRead.{Left}
use Rattle.page_decoder.specs.Resolving.{known_of, Resolves}
use Rattle.page_decoder.proofs.ResolveSteps.{Passes}
use Rattle.page_decoder.proofs.resolving.Includes.pass_files.Given as goal

abbrev pub invariant-files : goal.invariant-files
invariant-files l = record {
  passes : (home : Home) (outlines : List (Option Outline)) (left : Left) → Resolves home (known_of outlines l.results) left l.fn.self
      → Passes home (known_of outlines l.results) left (record {
        inherited = l.self-inside.dictionary;
        listed = None;
        pending = drop l.self-inside.begun l.self-inside.read.items;
        marks = l.self-inside.resolved.items;
      }) l.found l.listed;
  pending : drop l.self-inside.begun l.self-inside.read.items ≡ l.fn.self.pending;
  at_hand : l.self-inside.at_hand ≡ None;
  begun : l.self-inside.begun ≤ length l.self-inside.read.items;
}

abbrev pub decreases-files : goal.decreases-files
decreases-files l = length l.listed.files
