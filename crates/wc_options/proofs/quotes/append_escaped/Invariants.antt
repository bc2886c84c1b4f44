use Rattle.std.proofs.Common.{◌≡◌, ◌++◌, length}
use Rattle.wc_options.specs.Quotes.{escaped}
use Rattle.wc_options.proofs.quotes.append_escaped.Given as goal

abbrev pub invariant-loop-place : goal.invariant-loop-place
invariant-loop-place l = l.text ++ escaped l.rest ≡ l.fn.text ++ escaped l.value

abbrev pub decreases-loop-place : goal.decreases-loop-place
decreases-loop-place l = length l.rest
