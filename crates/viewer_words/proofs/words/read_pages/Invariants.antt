use Rattle.std.proofs.Common.{◌≡◌, [], length, drop}
use Rattle.viewer_words.specs.Words.{pages_after}
use Rattle.viewer_words.proofs.words.read_pages.Given as goal

abbrev pub invariant-loop-word : goal.invariant-loop-word
invariant-loop-word l = record {
  left : pages_after l.limit l.first l.pages.items (drop l.word-index l.words) ≡ pages_after l.limit l.first [] l.words;
  count : length l.pages.items ≡ l.word-index;
}
