use Rattle.std.proofs.Common.{append_assoc}
use Rattle.wc_irc.proofs.rename_acts.put_rename_private.Goals as goal

pub returns : goal.returns
returns c = rw (c.in_ok-on-3.ensures, c.in_ok-pair.ensures, c.in_ok-push-2.ensures.ok, c.in_ok-on-2.ensures, c.in_ok-short_name.ensures, c.in_ok-push.ensures.ok, c.in_ok-on.ensures, c.in_ok-rename_what.ensures, append_assoc, append_assoc) at c.push-3.ensures.ok
