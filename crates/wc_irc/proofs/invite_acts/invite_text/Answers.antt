use Rattle.std.proofs.Common.{◌≡◌, ◌++◌, ◌∙◌, ap, sym, codes, List, [], ℕ, append-nil}
use Rattle.std.proofs.lemmas.Result.{IfOk-weaker}
use Rattle.wc_irc_texts.specs.Rows.{param}
use Rattle.wc_irc.proofs.MessageTextLemmas.{parts_5}
use Rattle.wc_irc.proofs.invite_acts.invite_text.Goals as goal

pub returns : goal.returns
returns c =
    let m = c.args.m.now in
    let front : List ℕ → List ℕ = λ channel. m.nick ++ (codes " has invited " ++ (param 0 m ++ (codes " to " ++ channel))) in
    IfOk-weaker c.joined.result _ (λ (text : List ℕ). text ≡ (((m.nick ++ codes " has invited ") ++ param 0 m) ++ codes " to ") ++ param 1 m)
    (λ text is. is ∙ (λ i. c.as_slice-nick.ensures i ++ (codes " has invited " ++ (c.param-invited.ensures i ++ (codes " to " ++ (c.param-channel.ensures i ++ [])))))
    ∙ ap front (append-nil (param 1 m)) ∙ sym (parts_5 m.nick (codes " has invited ") (param 0 m) (codes " to ") (param 1 m))) c.joined.ensures
