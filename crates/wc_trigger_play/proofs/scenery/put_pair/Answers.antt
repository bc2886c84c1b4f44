use Rattle.std.proofs.Common.{All, IsUtf8, sym, subst}
use Rattle.std.proofs.lemmas.List.Elements.{All-push}
use Rattle.wc_eval.specs.Names.{HasText}
use Rattle.wc_trigger_play.proofs.scenery.put_pair.Goals as goal

pub returns : goal.returns
returns c =
    subst (All HasText) (sym c.in_ok-push.ensures.ok) (All-push HasText c.args.vars.now _ c.requires.old
    (subst IsUtf8 (sym c.in_ok-value.ensures) c.requires.value))
