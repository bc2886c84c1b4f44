use Rattle.std.proofs.Common.{◌≡◌, length}
use Rattle.wc_irc_texts.specs.TextsSeen.{past_inner}
use Rattle.wc_irc_texts.proofs.names.past_inner.Given as goal

abbrev pub invariant-loop-rest : goal.invariant-loop-rest
invariant-loop-rest l = past_inner l.rest ≡ past_inner l.text

abbrev pub decreases-loop-rest : goal.decreases-loop-rest
decreases-loop-rest l = length l.rest
