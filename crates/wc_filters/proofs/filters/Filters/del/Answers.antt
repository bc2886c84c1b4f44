use Rattle.std.proofs.Common.{sym, subst}
use Rattle.wc_filters.specs.Kept.{AreFine}
use Rattle.wc_filters.proofs.FilterLemmas.{fine_without}
use Rattle.wc_filters.proofs.filters.Filters.del.Goals as goal

pub returns-clause-fine : goal.returns-clause-fine
returns-clause-fine c verdicts fine =
    let was : AreFine verdicts c.self.inside.rows.items = subst (λ l. AreFine verdicts l) (sym c.self.view_is) fine in
    subst (λ l. AreFine verdicts l) (sym c.drop_named.ensures) (fine_without verdicts c.args.name.now c.self.inside.rows.items was)
