use Rattle.std.proofs.Common.{sym, subst}
use Rattle.std.specs.Str.{IsUtf8}
use Rattle.wc_buffers.proofs.VarLemmas.{text_at}
use Rattle.wc_buffers.proofs.vars.Vars.set_all.Goals as goal

pub set-requires : goal.set-requires
set-requires c = subst IsUtf8 (sym c.as_slice-in-loop-var.ensures) (text_at c.args.vars.now c.loop-var.var-index c.var-item.result c.loop-var-test.true c.var-item.is c.requires)
