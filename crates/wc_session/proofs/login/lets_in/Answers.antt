use Rattle.std.proofs.lemmas.Bool.Decides.{same_from_decides}
use Rattle.wc_session.proofs.LoginLaws.{lets_in_decides}
use Rattle.wc_session.proofs.login.lets_in.Goals as goal

pub returns : goal.returns
returns c = same_from_decides _ _ c.check_login.ensures (lets_in_decides c.args.login.now c.args.password.now c.args.nonce.now c.args.chosen)
