use Rattle.std.proofs.Common.{◌≡◌, ◌+◌, length}
use Rattle.viewer_words.specs.Files.{first_unlisted, numbered}
use Rattle.viewer_words.proofs.files.unlisted_from.Given as goal

-- what is left comes to what all words do
abbrev pub invariant-loop-word : goal.invariant-loop-word
invariant-loop-word l = record {
  left : first_unlisted l.names (numbered l.number l.rest) ≡ first_unlisted l.names (numbered l.first l.words);
  place : l.number + length l.rest ≡ l.first + length l.words;
}

abbrev pub decreases-loop-word : goal.decreases-loop-word
decreases-loop-word l = length l.rest
