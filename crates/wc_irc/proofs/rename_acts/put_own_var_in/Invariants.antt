use Rattle.std.proofs.Common.{◌≡◌, ◌++◌, drop}
use Rattle.wc_irc.specs.RenameActs.{own_var}
use Rattle.wc_irc.specs.ServersSeen.{seen}
use Rattle.wc_irc.specs.TargetsSeen.{acts_at}
use Rattle.wc_irc.proofs.rename_acts.put_own_var_in.Given as goal

abbrev pub invariant-loop-h : goal.invariant-loop-h
invariant-loop-h l = l.acts ++ acts_at (own_var l.own.renamed.now l.own.new.now (seen l.state) l.own.nick.now) l.buffers (drop l.h-index l.group)
    ≡ l.fn.acts ++ acts_at (own_var l.own.renamed.now l.own.new.now (seen l.state) l.own.nick.now) l.buffers l.group
