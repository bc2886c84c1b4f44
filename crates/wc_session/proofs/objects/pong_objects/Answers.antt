use Rattle.wc_session.proofs.Formed.{pong_formed}
use Rattle.wc_session.proofs.objects.pong_objects.Goals as goal

pub returns-clause-formed : goal.returns-clause-formed
returns-clause-formed c = pong_formed c.args.text c.requires
