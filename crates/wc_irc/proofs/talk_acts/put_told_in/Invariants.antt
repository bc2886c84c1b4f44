use Rattle.std.proofs.Common.{◌≡◌, ◌++◌, drop}
use Rattle.wc_irc.specs.ServersSeen.{seen}
use Rattle.wc_irc.specs.TalkActs.{told_nick}
use Rattle.wc_irc.specs.TargetsSeen.{acts_at}
use Rattle.wc_irc.proofs.talk_acts.put_told_in.Given as goal

abbrev pub invariant-loop-h : goal.invariant-loop-h
invariant-loop-h l = l.acts ++ acts_at (told_nick (seen l.state) l.nick) l.buffers (drop l.h-index l.group)
    ≡ l.fn.acts ++ acts_at (told_nick (seen l.state) l.nick) l.buffers l.group
