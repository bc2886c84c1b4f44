use Rattle.std.proofs.Common.{◌≡◌, ◌++◌, ◌∙◌, ap, sym, codes, List, ℕ, append-nil}
use Rattle.std.proofs.lemmas.Result.{IfOk-weaker}
use Rattle.wc_irc_texts.specs.Rows.{param}
use Rattle.wc_irc_texts.specs.Texts.{reason_text}
use Rattle.wc_irc.proofs.MessageTextLemmas.{parts_4}
use Rattle.wc_irc.proofs.channel_acts.kick_text.Goals as goal

pub returns : goal.returns
returns c =
    let m = c.args.m.now in
    let reason = append-nil c.as_slice.result.now ∙ c.as_slice.ensures ∙ c.in_ok-reason.ensures ∙ ap reason_text c.param.ensures in
    IfOk-weaker c.joined.result _ (λ (text : List ℕ). text ≡ ((m.nick ++ codes " has kicked ") ++ param 1 m) ++ reason_text (param 2 m))
    (λ text is. is ∙ (λ i. c.as_slice-nick.ensures i ++ (codes " has kicked " ++ (c.param-kicked.ensures i ++ reason i)))
    ∙ sym (parts_4 m.nick (codes " has kicked ") (param 1 m) (reason_text (param 2 m)))) c.joined.ensures
