use Rattle.std.proofs.Common.{◌≡◌, ◌++◌, ◌∙◌, sym, codes, List, ℕ}
use Rattle.std.proofs.lemmas.Result.{IfOk-weaker}
use Rattle.wc_irc_texts.specs.Rows.{param}
use Rattle.wc_irc.proofs.MessageTextLemmas.{parts_6}
use Rattle.wc_irc.proofs.title_acts.topic_text.Goals as goal

pub returns : goal.returns
returns c =
    let m = c.args.m.now in
    IfOk-weaker c.joined.result _ (λ (text : List ℕ). text ≡ ((((m.nick ++ codes " has changed topic for ") ++ param 0 m) ++ codes " to \"") ++ param 1 m) ++ codes "\"")
    (λ text is. is ∙ (λ i. c.as_slice-nick.ensures i ++ (codes " has changed topic for " ++ (c.param-channel.ensures i ++ (codes " to \"" ++ (c.param-topic.ensures i ++ codes "\"")))))
    ∙ sym (parts_6 m.nick (codes " has changed topic for ") (param 0 m) (codes " to \"") (param 1 m) (codes "\""))) c.joined.ensures
