use Rattle.wc_options.proofs.ReadLemmas.{fresh-is, stored-new}
use Rattle.wc_options.proofs.options.Options.new.Goals as goal

pub invariant_of-result : goal.invariant_of-result
invariant_of-result c =
    stored-new c.in_ok-set.set.items c.new-2.result.items c.in_ok-defaults.defaults.items c.new.result c.new-3.result.items
    c.in_ok-set.ensures c.new-2.ensures.items c.in_ok-defaults.ensures c.new.ensures c.new-3.ensures.items

pub returns : goal.returns
returns c = fresh-is c.in_ok-set.set.items c.new-2.result.items c.in_ok-set.ensures c.new-2.ensures.items
