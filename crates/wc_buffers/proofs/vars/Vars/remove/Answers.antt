use Rattle.std.proofs.Common.{◌∙◌, ap, subst, sym}
use Rattle.std.specs.Map.{values_of}
use Rattle.wc_buffers.specs.Entries.{AreNamed}
use Rattle.wc_buffers.specs.Vars.{remove_var}
use Rattle.wc_buffers.proofs.VarLemmas.{removed_var, named_removed}
use Rattle.wc_buffers.proofs.vars.Vars.remove.Goals as goal

pub invariant_of-self : goal.invariant_of-self
invariant_of-self c = subst AreNamed (sym c.shift_remove.ensures.entries) (named_removed c.args.name.now c.self.inside.vars.entries c.self.invariant)

pub returns : goal.returns
returns c = ap values_of c.shift_remove.ensures.entries ∙ removed_var c.args.name.now c.self.inside.vars.entries c.self.invariant ∙ ap (remove_var c.args.name.now) c.self.view_is
