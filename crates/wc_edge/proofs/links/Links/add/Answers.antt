use Rattle.std.proofs.Common.{refl}
use Rattle.wc_edge.specs.Rows.{undrained_in, blocked_in}
use Rattle.wc_edge.proofs.RowLemmas.{pushed_same, pushed_there}
use Rattle.wc_edge.proofs.links.Links.add.Goals as goal

pub returns-clause-there : goal.returns-clause-there
returns-clause-there c = rw c.push_reserved.ensures.items (pushed_there c.args.self.now.rows.items _)

pub returns-clause-undrained : goal.returns-clause-undrained
returns-clause-undrained c = rw c.push_reserved.ensures.items (pushed_same undrained_in c.args.self.now.rows.items _ refl)

pub returns-clause-blocked : goal.returns-clause-blocked
returns-clause-blocked c = rw c.push_reserved.ensures.items (pushed_same blocked_in c.args.self.now.rows.items _ refl)
