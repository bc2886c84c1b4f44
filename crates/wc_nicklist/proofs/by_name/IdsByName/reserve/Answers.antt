use Rattle.std.proofs.Common.{refl}
use Rattle.wc_nicklist.proofs.Numbers.{name_same}
use Rattle.wc_nicklist.proofs.by_name.IdsByName.reserve.Goals as goal

pub returns-in_err-reserve_short-clause-same : goal.returns-in_err-reserve_short-clause-same
returns-in_err-reserve_short-clause-same c = name_same c.args.self.now c.reserve_short.new.ids c.args.self.now.long c.reserve_short.ensures.same (λ m. refl)

pub returns-clause-same : goal.returns-clause-same
returns-clause-same c = name_same c.args.self.now c.reserve_short.new.ids c.reserve_long.new.ids c.reserve_short.ensures.same c.reserve_long.ensures.same
