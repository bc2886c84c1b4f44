use Rattle.std.proofs.Common.{◌≡◌, ℕ, List, length}
use Rattle.wc_eval.specs.Cuts.{AreSeparators, after_separators, is_among}
use Rattle.wc_eval.proofs.split.after_separators.Given as goal

abbrev pub invariant-characters : goal.invariant-characters
invariant-characters l = (of : List ℕ) → AreSeparators of l.separators →
    after_separators (is_among of) l.left l.rest
    ≡ after_separators (is_among of) l.count l.characters

abbrev pub decreases-characters : goal.decreases-characters
decreases-characters l = length l.rest
