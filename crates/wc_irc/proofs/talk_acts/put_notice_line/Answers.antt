use Rattle.wc_irc.proofs.talk_acts.put_notice_line.Goals as goal

pub returns : goal.returns
returns c = rw (c.in_ok-printed.ensures, c.as_slice.ensures, c.in_ok-text.ensures, c.in_ok-tags.ensures) at c.push.ensures.ok
