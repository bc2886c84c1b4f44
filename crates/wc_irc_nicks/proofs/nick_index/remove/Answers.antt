use Rattle.std.proofs.Common.{None}
use Rattle.wc_nicklist.proofs.Names.{at_long-update}
use Rattle.wc_irc_nicks.proofs.nick_index.remove.Goals as goal

pub returns-clause-places : goal.returns-clause-places
returns-clause-places c = at_long-update c.args.key.now c.args.index.now c.remove.new.self None c.remove.ensures.updates
