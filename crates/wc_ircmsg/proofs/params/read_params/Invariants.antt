use Rattle.std.proofs.Common.{◌≡◌, ◌++◌}
use Rattle.wc_ircmsg.specs.Params.{params_of}
use Rattle.wc_ircmsg.proofs.params.read_params.Given as goal

-- the parameters so far, and those of what is left
abbrev pub invariant-loop-places : goal.invariant-loop-places
invariant-loop-places l = l.params ++ params_of l.places l.rest ≡ params_of 15 l.text

abbrev pub decreases-loop-places : goal.decreases-loop-places
decreases-loop-places l = l.places
