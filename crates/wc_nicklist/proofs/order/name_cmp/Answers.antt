use Rattle.std.proofs.Common.{sym}
use Rattle.wc_nicklist.proofs.Digests.{fold_itself}
use Rattle.wc_nicklist.proofs.order.name_cmp.Goals as goal

pub returns-then-eq : goal.returns-then-eq
returns-then-eq c = fold_itself c.args.a.now c.args.b.now (sym c.if-eq.ensures)
