use Rattle.std.proofs.Common.{◌≡◌, ◌++◌, ◌∙◌, sym, codes, List, ℕ, append-nil, append_assoc}
use Rattle.std.proofs.lemmas.Result.{IfOk-weaker}
use Rattle.wc_irc.proofs.speech_acts.done_text.Goals as goal

pub returns : goal.returns
returns c =
    let bare = append-nil c.args.deed.now in
    IfOk-weaker c.joined.result _ (λ (text : List ℕ). text ≡ (c.args.nick.now ++ codes " ") ++ c.args.deed.now)
    (λ text is. is ∙ (λ i. c.args.nick.now ++ (codes " " ++ bare i)) ∙ sym (append_assoc c.args.nick.now (codes " ") c.args.deed.now)) c.joined.ensures
