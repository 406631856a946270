use Rattle.std.proofs.Common.{◌≡◌, ◌+◌, ◌≤◌, length}
use Rattle.viewer_words.specs.Options.{no_options, options_from}
use Rattle.viewer_words.proofs.options.read_options.Given as goal

-- what is left comes to what all words do
abbrev pub invariant-loop-word : goal.invariant-loop-word
invariant-loop-word l = record {
  left : options_from l.next l.allowed l.options l.rest ≡ options_from l.first l.allowed no_options l.words;
  begins : l.first ≤ l.next;
  place : l.next + length l.rest ≡ l.first + length l.words;
}

abbrev pub decreases-loop-word : goal.decreases-loop-word
decreases-loop-word l = length l.rest
