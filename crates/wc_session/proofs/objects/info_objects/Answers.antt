use Rattle.wc_session.proofs.Formed.{info_formed}
use Rattle.wc_session.proofs.objects.info_objects.Goals as goal

pub returns-clause-formed : goal.returns-clause-formed
returns-clause-formed c = rw (c.in_ok-value.ensures, c.as_slice.ensures) (info_formed c.args.name c.requires)
