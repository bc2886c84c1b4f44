use Rattle.wc_session.proofs.RepliesFormed.{hotlist_formed}
use Rattle.wc_session.proofs.hotlists.hotlist_objects.Goals as goal

pub returns-clause-formed : goal.returns-clause-formed
returns-clause-formed c = rw c.in_ok-hotlist_object.ensures (hotlist_formed c.args.hotlist.now c.args.keys.now)
