use Rattle.std.proofs.Common.{All, sym, subst}
use Rattle.std.proofs.lemmas.List.Elements.{All-nil, All-push}
use Rattle.wc_eval.specs.Names.{HasText}
use Rattle.wc_eval_play.proofs.scenery.facts.Goals as goal

pub returns : goal.returns
returns c =
    let none = subst (All HasText) (sym c.new-facts.ensures) (All-nil HasText) in
    let one = subst (All HasText) (sym c.in_ok-push.ensures.ok) (All-push HasText c.new-facts.result
    c.in_ok-pair.field-0 none c.in_ok-pair.ensures) in
    subst (All HasText) (sym c.in_ok-push-2.ensures.ok) (All-push HasText c.push.new.self
    c.in_ok-pair-2.field-0 one c.in_ok-pair-2.ensures)
