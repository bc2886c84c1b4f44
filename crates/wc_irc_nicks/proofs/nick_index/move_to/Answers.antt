use Rattle.std.proofs.Common.{Some}
use Rattle.wc_nicklist.proofs.Names.{at_long-update}
use Rattle.wc_irc_nicks.proofs.nick_index.move_to.Goals as goal

pub returns-clause-places : goal.returns-clause-places
returns-clause-places c = at_long-update c.args.key.now c.args.index.now (c.get_mut.follows.lender c.args.place) (Some c.args.place) ((c.get_mut.follows.holds c.args.place).3 c.requires)
