use Rattle.std.proofs.Common.{◌≡◌, ◌≤◌, length}
use Rattle.wc_eval.specs.Comparisons.{after_word}
use Rattle.wc_eval.proofs.kind.after_word.Given as goal

abbrev pub invariant-bytes : goal.invariant-bytes
invariant-bytes l = record {
  found : after_word l.left l.rest ≡ after_word l.word l.text;
  shorter : length l.rest ≤ length l.text;
}

abbrev pub decreases-bytes : goal.decreases-bytes
decreases-bytes l = length l.left
