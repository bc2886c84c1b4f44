use Rattle.wc_nicklist.proofs.Numbers.{name_none}
use Rattle.wc_nicklist.proofs.by_name.IdsByName.new.Goals as goal

pub returns : goal.returns
returns c = name_none (record { short = c.new.result; long = c.new-2.result }) c.new.ensures.empty c.new-2.ensures.empty
