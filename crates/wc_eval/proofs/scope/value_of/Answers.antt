use Rattle.std.proofs.Common.{IsUtf8, sym, subst}
use Rattle.wc_eval.specs.Names.{HasText}
use Rattle.wc_eval.proofs.scope.value_of.Goals as goal

pub returns-then-eq-clause-utf8 : goal.returns-then-eq-clause-utf8
returns-then-eq-clause-utf8 c =
    subst IsUtf8 (sym c.as_slice-then-eq.ensures) (subst HasText (sym c.pair-item.is)
    (c.requires c.loop-pair.pair-index c.pair-item.result c.loop-pair-test.true))
