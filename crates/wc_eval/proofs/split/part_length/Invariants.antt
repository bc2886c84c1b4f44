use Rattle.std.proofs.Common.{◌≡◌, ◌≤◌, ◌+◌, ℕ, List, length}
use Rattle.wc_eval.specs.Cuts.{AreSeparators, before_separator, is_among}
use Rattle.wc_eval.proofs.split.part_length.Given as goal

abbrev pub invariant-characters : goal.invariant-characters
invariant-characters l = record {
  before : (of : List ℕ) → AreSeparators of l.separators →
      length (before_separator (is_among of) l.characters) + length l.rest
      ≡ length (before_separator (is_among of) l.rest) + length l.characters;
  shorter : length l.rest ≤ length l.characters;
}

abbrev pub decreases-characters : goal.decreases-characters
decreases-characters l = length l.rest
