use Rattle.std.proofs.Common.{◌≡◌, ◌++◌, flat_map}
use Rattle.wc_buffers.specs.Groups.{rows}
use Rattle.wc_irc.specs.RenameActs.{own_var}
use Rattle.wc_irc.specs.ServersSeen.{seen}
use Rattle.wc_irc.specs.TargetsSeen.{all_acts_at}
use Rattle.wc_irc.proofs.rename_acts.put_own_vars.Given as goal

abbrev pub invariant-loop-group : goal.invariant-loop-group
invariant-loop-group l = l.acts ++ all_acts_at (own_var l.own.renamed.now l.own.new.now (seen l.state) l.own.nick.now) l.buffers l.group-iterator
    ≡ l.fn.acts ++ flat_map (own_var l.own.renamed.now l.own.new.now (seen l.state) l.own.nick.now) (rows l.buffers)
