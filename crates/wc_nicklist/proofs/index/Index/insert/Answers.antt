use Rattle.std.proofs.Common.{Some}
use Rattle.wc_nicklist.proofs.Keys.{in_groups, in_nicks}
use Rattle.wc_nicklist.proofs.index.Index.insert.Goals as goal

pub returns-then-is_group : goal.returns-then-is_group
returns-then-is_group c = in_groups c.args.is_group c.if-is_group.true c.args.name.items (Some c.args.id) c.args.self.now c.insert.new.self c.insert.ensures

pub returns-else-is_group : goal.returns-else-is_group
returns-else-is_group c = in_nicks c.args.is_group c.if-is_group.false c.args.name.items (Some c.args.id) c.args.self.now c.insert-else-is_group.new.self c.insert-else-is_group.ensures
