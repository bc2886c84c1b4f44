use Rattle.std.proofs.Common.{◌≡◌, ◌++◌, length}
use Rattle.wc_ircmsg.specs.Written.{params_text}
use Rattle.wc_ircmsg.proofs.write.put_params.Given as goal

-- what is written so far, and what is still to be written
abbrev pub invariant-loop-rest : goal.invariant-loop-rest
invariant-loop-rest l = l.text ++ params_text l.rest ≡ l.fn.text ++ params_text l.params

abbrev pub decreases-loop-rest : goal.decreases-loop-rest
decreases-loop-rest l = length l.rest
