use Rattle.std.proofs.Common.{◌∙◌, ap, subst}
use Rattle.wc_hooks.specs.Rows.{lives}
use Rattle.wc_hooks.specs.Table.{IsHookTable}
use Rattle.wc_hooks.proofs.LiveRows.{lives_is}
use Rattle.wc_hooks.proofs.Calls.{law_of}
use Rattle.wc_hooks.proofs.table.HookTable.lives.Goals as goal

pub returns-clause-found : goal.returns-clause-found
returns-clause-found c = c.lives.ensures ∙ lives_is c.args.id c.self.inside.slots ∙ ap (λ t. lives c.args.id t.rows) c.self.view_is

pub returns-clause-law : goal.returns-clause-law
returns-clause-law c = subst IsHookTable c.self.view_is (law_of _ _ _ _ _ _ _ c.self.invariant.kept)
