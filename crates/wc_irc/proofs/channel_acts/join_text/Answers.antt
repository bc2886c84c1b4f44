use Rattle.std.proofs.Common.{◌≡◌, ◌++◌, ◌∙◌, sym, codes, List, ℕ, append-nil, append_assoc}
use Rattle.std.proofs.lemmas.Result.{IfOk-weaker}
use Rattle.wc_irc_texts.specs.Rows.{param}
use Rattle.wc_irc_texts.specs.Texts.{source_text}
use Rattle.wc_irc.proofs.channel_acts.join_text.Goals as goal

pub returns : goal.returns
returns c =
    let m = c.args.m.now in
    let whole = source_text m.nick m.user m.host in
    let source = c.as_slice.ensures ∙ c.in_ok-source.ensures in
    let channel = append-nil c.param.result.now ∙ c.param.ensures in
    IfOk-weaker c.joined.result _ (λ (text : List ℕ). text ≡ (whole ++ codes " has joined ") ++ param 0 m)
    (λ text is. is ∙ (λ i. source i ++ (codes " has joined " ++ channel i)) ∙ sym (append_assoc whole (codes " has joined ") (param 0 m))) c.joined.ensures
