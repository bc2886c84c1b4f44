use Rattle.std.proofs.Common.{◌≡◌, ◌++◌, ◌∙◌, sym, codes, List, ℕ, append-nil}
use Rattle.std.proofs.lemmas.Result.{IfOk-weaker}
use Rattle.wc_irc.proofs.MessageTextLemmas.{parts_4}
use Rattle.wc_irc.proofs.speech_acts.request_text.Goals as goal

pub returns : goal.returns
returns c =
    let nick = append-nil c.as_slice.result.now ∙ c.as_slice.ensures in
    IfOk-weaker c.joined.result _ (λ (text : List ℕ). text ≡ ((codes "CTCP " ++ c.args.word.now) ++ codes " from ") ++ c.args.m.now.nick)
    (λ text is. is ∙ (λ i. codes "CTCP " ++ (c.args.word.now ++ (codes " from " ++ nick i)))
    ∙ sym (parts_4 (codes "CTCP ") c.args.word.now (codes " from ") c.args.m.now.nick)) c.joined.ensures
