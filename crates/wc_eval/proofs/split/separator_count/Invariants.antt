use Rattle.std.proofs.Common.{◌≡◌, ◌≤◌, ℕ, List, take}
use Rattle.wc_eval.specs.Cuts.{AreSeparators, separator_count, is_among}
use Rattle.wc_eval.proofs.split.separator_count.Given as goal

abbrev pub invariant-loop-character : goal.invariant-loop-character
invariant-loop-character l = record {
  count : (of : List ℕ) → AreSeparators of l.separators →
      l.count ≡ separator_count (is_among of) (take l.character-index l.characters);
  most : l.count ≤ l.character-index;
}
