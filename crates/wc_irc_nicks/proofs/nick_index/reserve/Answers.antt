use Rattle.wc_nicklist.proofs.Names.{at_long-same}
use Rattle.wc_irc_nicks.proofs.nick_index.reserve.Goals as goal

pub returns-clause-same : goal.returns-clause-same
returns-clause-same c = at_long-same c.args.index.now c.reserve.new.self c.in_ok-reserve.ensures.entries.2
