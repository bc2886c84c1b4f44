use Rattle.std.proofs.Common.{◌≡◌, ◌++◌}
use Rattle.wc_irc.specs.ServersSeen.{seen}
use Rattle.wc_irc.specs.TalkActs.{told_nick, tell_nick}
use Rattle.wc_irc.specs.TargetsSeen.{all_acts_at}
use Rattle.wc_irc.proofs.talk_acts.put_tell_nick.Given as goal

abbrev pub invariant-loop-group : goal.invariant-loop-group
invariant-loop-group l = l.acts ++ all_acts_at (told_nick (seen l.state) l.nick) l.buffers l.group-iterator
    ≡ l.fn.acts ++ tell_nick l.buffers (seen l.state) l.nick
