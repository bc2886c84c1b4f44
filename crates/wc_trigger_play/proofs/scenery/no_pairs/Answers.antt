use Rattle.std.proofs.Common.{All, sym, subst}
use Rattle.std.proofs.lemmas.List.Elements.{All-nil}
use Rattle.wc_eval.specs.Names.{HasText}
use Rattle.wc_trigger_play.proofs.scenery.no_pairs.Goals as goal

pub returns : goal.returns
returns c = subst (All HasText) (sym c.new.ensures) (All-nil HasText)
