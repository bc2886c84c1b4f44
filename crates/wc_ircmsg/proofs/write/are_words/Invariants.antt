use Rattle.std.proofs.Common.{◌≡◌, length}
use Rattle.wc_ircmsg.specs.Written.{are_words}
use Rattle.wc_ircmsg.proofs.write.are_words.Given as goal

abbrev pub invariant-loop-rest : goal.invariant-loop-rest
invariant-loop-rest l = are_words l.rest ≡ are_words l.params

abbrev pub decreases-loop-rest : goal.decreases-loop-rest
decreases-loop-rest l = length l.rest
