use Rattle.std.proofs.Common.{append_assoc}
use Rattle.wc_irc.proofs.link_acts.loss_acts.Goals as goal

pub returns : goal.returns
returns c = rw (c.in_ok-push.ensures.ok, c.in_ok-lost_line.ensures, c.in_ok-put_lost_lists.ensures, c.new-acts.ensures, append_assoc) at c.in_ok-put_raised.ensures
