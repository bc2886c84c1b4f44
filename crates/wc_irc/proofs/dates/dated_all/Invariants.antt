use Rattle.std.proofs.Common.{◌≡◌, ◌++◌, map}
use Rattle.std.specs.Vec.Iter.{into_iter_items}
use Rattle.wc_irc.specs.Dates.{dated}
use Rattle.wc_irc.proofs.dates.dated_all.Given as goal

abbrev pub invariant-loop-act : goal.invariant-loop-act
invariant-loop-act l = l.made ++ map (dated l.moment) (into_iter_items l.act-iterator) ≡ map (dated l.moment) l.fn.acts
