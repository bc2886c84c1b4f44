use Rattle.std.proofs.Common.{sym, subst}
use Rattle.wc_hotlist.specs.Means.{Means}
use Rattle.wc_hotlist.specs.Pairs.{pairs_without}
use Rattle.wc_hotlist.proofs.KeptLaws.{without_means}
use Rattle.wc_hotlist.proofs.hotlist.Hotlist.remove.Goals as goal

pub returns-clause-model : goal.returns-clause-model
returns-clause-model c = λ pairs means.
    subst (λ rows. Means rows (pairs_without c.args.buffer pairs)) (sym c.remove_row.ensures.rows) (without_means c.self.inside.rows.items pairs c.args.buffer (subst (λ rows. Means rows pairs) (sym c.self.view_is) means))
