use Rattle.std.proofs.Common.{◌≡◌, length}
use Rattle.wc_options.specs.Quotes.{unescaped}
use Rattle.wc_options.proofs.QuotesLemmas.{before}
use Rattle.wc_options.proofs.quotes.unescape.Given as goal

abbrev pub invariant-loop-place : goal.invariant-loop-place
invariant-loop-place l = unescaped l.text ≡ before l.value (unescaped l.rest)

abbrev pub decreases-loop-place : goal.decreases-loop-place
decreases-loop-place l = length l.rest
