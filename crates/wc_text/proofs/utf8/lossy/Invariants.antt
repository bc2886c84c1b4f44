use Rattle.std.proofs.Common.{◌≡◌, ◌++◌, length}
use Rattle.wc_text.specs.Lossy.{lossy_of}
use Rattle.wc_text.proofs.utf8.lossy.Given as goal

-- what is made so far, and what is still to be made of the rest
abbrev pub invariant-loop-text : goal.invariant-loop-text
invariant-loop-text l = l.text ++ lossy_of l.rest ≡ lossy_of l.bytes

abbrev pub decreases-loop-text : goal.decreases-loop-text
decreases-loop-text l = length l.rest
