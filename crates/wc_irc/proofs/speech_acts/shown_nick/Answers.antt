use Rattle.std.proofs.Common.{◌≡◌, ◌++◌, ◌∙◌, List, ℕ, append-nil}
use Rattle.std.proofs.lemmas.Result.{IfOk-weaker}
use Rattle.wc_irc.specs.ServersSeen.{seen}
use Rattle.wc_irc.specs.SpeechActs.{shown_nick}
use Rattle.wc_irc.proofs.speech_acts.shown_nick.Goals as goal

pub returns : goal.returns
returns c =
    let bare = append-nil c.args.nick.now in
    IfOk-weaker c.joined.result _ (λ (shown : List ℕ). shown ≡ shown_nick (seen c.args.state.now) c.args.target.now c.args.nick.now)
    (λ shown is. is ∙ (λ i. c.shown_sign.ensures i ++ bare i)) c.joined.ensures
