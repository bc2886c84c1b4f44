use Rattle.std.proofs.Common.{◌∙◌, sym, ap, subst}
use Rattle.std.specs.Map.{values_of}
use Rattle.wc_buffers.specs.Entries.{AreNamed}
use Rattle.wc_buffers.proofs.VarLemmas.{put_var, named_put, put_new, none_new}
use Rattle.wc_buffers.proofs.vars.put.Goals as goal

pub returns-clause-vars : goal.returns-clause-vars
returns-clause-vars c = ap values_of c.in-Ok.ensures.entries ∙ put_var c.args.entry.key c.args.entry.pair c.args.vars.now.entries c.requires.key c.requires.named

pub returns-clause-still_named : goal.returns-clause-still_named
returns-clause-still_named c = subst AreNamed (sym c.in-Ok.ensures.entries) (named_put c.args.entry.key c.args.entry.pair c.args.vars.now.entries c.requires.key c.requires.named)

pub returns-clause-new : goal.returns-clause-new
returns-clause-new c = none_new c.in-Ok.old _ c.is_none.result c.is_none.ensures (c.in-Ok.ensures.old ∙ put_new c.args.entry.key c.args.entry.pair.name c.args.vars.now.entries c.requires.key c.requires.named)
