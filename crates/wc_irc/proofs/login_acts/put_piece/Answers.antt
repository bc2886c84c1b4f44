use Rattle.std.proofs.Common.{◌≡◌, ◌++◌, ◌∷◌, [], subst, OnOk}
use Rattle.wc_irc.specs.declared.act.Act.{Act}
use Rattle.wc_irc.proofs.login_acts.put_piece.Goals as goal

pub returns : goal.returns
returns c = subst (λ (a : Act). OnOk c.push.result (c.push.new.self ≡ c.args.acts.now ++ a ∷ [])) c.in_ok-sent.ensures c.push.ensures.ok
