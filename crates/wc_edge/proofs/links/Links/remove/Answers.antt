use Rattle.std.proofs.Common.{refl}
use Rattle.wc_edge.specs.Rows.{has, undrained_in, blocked_in}
use Rattle.wc_edge.proofs.RowLemmas.{removed_part, ascending_remove, below_remove}
use Rattle.wc_edge.proofs.links.Links.remove.Goals as goal

pub invariant_of-self-clause-ascending : goal.invariant_of-self-clause-ascending
invariant_of-self-clause-ascending c = rw c.remove.ensures.items (ascending_remove c.args.self.now.rows.items c.args.place c.requires.inside c.args.self.now.ascending)

pub invariant_of-self-clause-below : goal.invariant_of-self-clause-below
invariant_of-self-clause-below c = rw c.remove.ensures.items (below_remove c.args.self.now.rows.items c.args.place c.args.self.now.used c.requires.inside c.args.self.now.below)

pub returns-clause-there : goal.returns-clause-there
returns-clause-there c = rw c.remove.ensures.items (removed_part has refl c.args.self.now.rows.items c.args.place c.args.link.0 c.args.self.now.ascending c.requires)

pub returns-clause-undrained : goal.returns-clause-undrained
returns-clause-undrained c = rw c.remove.ensures.items (removed_part undrained_in refl c.args.self.now.rows.items c.args.place c.args.link.0 c.args.self.now.ascending c.requires)

pub returns-clause-blocked : goal.returns-clause-blocked
returns-clause-blocked c = rw c.remove.ensures.items (removed_part blocked_in refl c.args.self.now.rows.items c.args.place c.args.link.0 c.args.self.now.ascending c.requires)
