use Rattle.std.proofs.Common.{◌≡◌, ◌++◌, ◌∙◌, sym, codes, List, ℕ, append-nil, append_assoc}
use Rattle.std.proofs.lemmas.Result.{IfOk-weaker}
use Rattle.wc_irc_texts.specs.Rows.{param}
use Rattle.wc_irc.proofs.rename_acts.nick_text.Goals as goal

pub returns : goal.returns
returns c =
    let m = c.args.m.now in
    let name = append-nil c.param-new.result.now ∙ c.param-new.ensures in
    IfOk-weaker c.joined.result _ (λ (text : List ℕ). text ≡ (m.nick ++ codes " is now known as ") ++ param 0 m)
    (λ text is. is ∙ (λ i. c.as_slice-old.ensures i ++ (codes " is now known as " ++ name i)) ∙ sym (append_assoc m.nick (codes " is now known as ") (param 0 m))) c.joined.ensures
