use Rattle.std.proofs.Common.{◌≡◌, ◌++◌, drop, map}
use Rattle.wc_irc.specs.NickActs.{add_group}
use Rattle.wc_irc.proofs.nick_acts.put_groups.Given as goal

abbrev pub invariant-loop-name : goal.invariant-loop-name
invariant-loop-name l = l.acts ++ map (add_group l.buffer) (drop l.name-index l.names) ≡ l.fn.acts ++ map (add_group l.buffer) l.names
