use Rattle.std.proofs.Common.{◌≡◌, ◌++◌, map, length}
use Rattle.wc_irc.specs.CommandActs.{mode_params, fours}
use Rattle.wc_irc.proofs.everyday.each_params.Given as goal

abbrev pub invariant-loop-rest : goal.invariant-loop-rest
invariant-loop-rest l = l.each ++ map (mode_params l.adds l.letter l.channel) (fours l.rest) ≡ map (mode_params l.adds l.letter l.channel) (fours l.names)

abbrev pub decreases-loop-rest : goal.decreases-loop-rest
decreases-loop-rest l = length l.rest
