use Rattle.std.proofs.Common.{◌≡◌, ◌++◌, ◌∙◌, ap, sym, codes, List, ℕ, append-nil}
use Rattle.std.proofs.lemmas.Result.{IfOk-weaker}
use Rattle.wc_irc_texts.specs.Rows.{param, params_from}
use Rattle.wc_irc_texts.specs.Texts.{spaced}
use Rattle.wc_irc.proofs.MessageTextLemmas.{parts_6}
use Rattle.wc_irc.proofs.mode_acts.mode_text.Goals as goal

pub returns : goal.returns
returns c =
    let m = c.args.m.now in
    let modes = c.as_slice.ensures ∙ c.in_ok-modes.ensures ∙ ap spaced c.params_from.ensures in
    let nick = append-nil c.as_slice-nick.result.now ∙ c.as_slice-nick.ensures in
    IfOk-weaker c.joined.result _ (λ (text : List ℕ). text ≡ ((((codes "Mode " ++ param 0 m) ++ codes " [") ++ spaced (params_from 1 m)) ++ codes "] by ") ++ m.nick)
    (λ text is. is ∙ (λ i. codes "Mode " ++ (c.param-channel.ensures i ++ (codes " [" ++ (modes i ++ (codes "] by " ++ nick i)))))
    ∙ sym (parts_6 (codes "Mode ") (param 0 m) (codes " [") (spaced (params_from 1 m)) (codes "] by ") m.nick)) c.joined.ensures
