use Rattle.std.proofs.Common.{◌≡◌, ◌++◌, drop, map, codes}
use Rattle.wc_irc.specs.TalkActs.{sent}
use Rattle.wc_irc.proofs.login_acts.put_pieces.Given as goal

abbrev pub invariant-loop-piece : goal.invariant-loop-piece
invariant-loop-piece l = l.acts ++ map (sent (codes "AUTHENTICATE")) (drop l.piece-index l.pieces) ≡ l.fn.acts ++ map (sent (codes "AUTHENTICATE")) l.pieces
