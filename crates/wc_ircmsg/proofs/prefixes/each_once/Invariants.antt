use Rattle.std.proofs.Common.{◌≡◌, length}
use Rattle.wc_ircmsg.specs.Tokens.{each_once}
use Rattle.wc_ircmsg.proofs.prefixes.each_once.Given as goal

abbrev pub invariant-loop-rest : goal.invariant-loop-rest
invariant-loop-rest g l = each_once g.T.PartialEq.eq l.rest ≡ each_once g.T.PartialEq.eq l.list

abbrev pub decreases-loop-rest : goal.decreases-loop-rest
decreases-loop-rest g l = length l.rest
