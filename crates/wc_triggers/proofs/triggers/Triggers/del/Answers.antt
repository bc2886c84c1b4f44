use Rattle.std.proofs.Common.{sym, subst}
use Rattle.wc_triggers.specs.Kept.{UpTo}
use Rattle.wc_triggers.proofs.KeptLemmas.{up_to_without}
use Rattle.wc_triggers.proofs.triggers.Triggers.del.Goals as goal

pub invariant_of-self : goal.invariant_of-self
invariant_of-self c =
    let own = c.self.inside in
    subst (UpTo own.drawn) (sym c.drop_named.ensures) (up_to_without own.drawn c.args.name.now own.rows.items c.self.invariant)
