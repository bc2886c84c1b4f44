use Rattle.std.proofs.Common.{append_assoc}
use Rattle.wc_irc.proofs.talk_acts.put_welcome.Goals as goal

pub returns : goal.returns
returns c = rw (c.if-state.false) (rw (c.in_ok-put_raised.ensures, c.in_ok-put_welcome_line.ensures, c.in_ok-put_tell_nick.ensures, c.own_nick_from-nick.ensures, c.param.ensures, append_assoc, append_assoc, append_assoc) at c.put_joins.ensures)
