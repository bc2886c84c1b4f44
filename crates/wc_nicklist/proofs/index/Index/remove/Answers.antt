use Rattle.std.proofs.Common.{None}
use Rattle.wc_nicklist.proofs.Keys.{in_groups, in_nicks}
use Rattle.wc_nicklist.proofs.index.Index.remove.Goals as goal

pub returns-then-is_group : goal.returns-then-is_group
returns-then-is_group c = in_groups c.args.is_group c.if-is_group.true c.args.name.now None c.args.self.now c.remove.new.self c.remove.ensures

pub returns-else-is_group : goal.returns-else-is_group
returns-else-is_group c = in_nicks c.args.is_group c.if-is_group.false c.args.name.now None c.args.self.now c.remove-else-is_group.new.self c.remove-else-is_group.ensures
