use Rattle.std.proofs.Common.{[], sym, subst}
use Rattle.wc_hotlist.specs.Means.{Means}
use Rattle.wc_hotlist.proofs.MeansLaws.{none_means}
use Rattle.wc_hotlist.proofs.hotlist.Hotlist.clear.Goals as goal

pub returns-clause-model : goal.returns-clause-model
returns-clause-model c = subst (λ rows. Means rows []) (sym c.clear.ensures.items) none_means
