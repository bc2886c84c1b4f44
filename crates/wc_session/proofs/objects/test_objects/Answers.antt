use Rattle.wc_session.proofs.Formed.{test_formed}
use Rattle.wc_session.proofs.objects.test_objects.Goals as goal

pub returns-clause-formed : goal.returns-clause-formed
returns-clause-formed c = rw c.test_list.ensures test_formed
