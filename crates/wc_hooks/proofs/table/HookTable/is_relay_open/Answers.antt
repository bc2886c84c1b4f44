use Rattle.std.proofs.Common.{◌∙◌, ap, sym, arith}
use Rattle.std.specs.Prelude.{is_some}
use Rattle.wc_hooks.specs.Table.{pass_at}
use Rattle.wc_hooks.proofs.Counts.{some-goings}
use Rattle.wc_hooks.proofs.table.HookTable.is_relay_open.Goals as goal

pub is_open-requires : goal.is_open-requires
is_open-requires c = let n = c.self.invariant.kept.places in omega (arith, n)

pub returns : goal.returns
returns c = c.is_open.ensures ∙ sym (some-goings 0 16 c.self.inside.slots c.self.inside.cursors.items) ∙ ap (λ t. is_some (pass_at t 16)) c.self.view_is
