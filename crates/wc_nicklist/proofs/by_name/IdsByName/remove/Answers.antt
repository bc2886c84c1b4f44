use Rattle.std.proofs.Common.{None}
use Rattle.wc_nicklist.proofs.Numbers.{short_update, long_update}
use Rattle.wc_nicklist.proofs.by_name.IdsByName.remove.Goals as goal

pub returns-in-Some : goal.returns-in-Some
returns-in-Some c = short_update c.args.name.now c.in-Some.number c.args.self.now c.remove_short.new.ids None c.in-Some.ensures.short.0 c.in-Some.ensures.short.1 c.remove_short.ensures

pub returns-in-None : goal.returns-in-None
returns-in-None c = long_update c.args.name.now c.args.self.now c.remove_long.new.ids None c.in-None.ensures.long c.remove_long.ensures
