use Rattle.std.proofs.Common.{Some}
use Rattle.wc_nicklist.proofs.Names.{at_long-update}
use Rattle.wc_irc_nicks.proofs.nick_index.insert.Goals as goal

pub returns-clause-places : goal.returns-clause-places
returns-clause-places c = at_long-update c.args.key.items c.args.index.now c.insert.new.self (Some c.args.place) c.in-Ok.ensures.updates
