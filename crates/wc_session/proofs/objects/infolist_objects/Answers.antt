use Rattle.wc_buffers.specs.Kept.{AreBuffers}
use Rattle.wc_session.specs.Reply.{infolist_objects}
use Rattle.wc_session.proofs.Formed.{infolist_formed}
use Rattle.wc_session.proofs.objects.infolist_objects.Goals as goal

pub returns-clause-formed : goal.returns-clause-formed
unfolding infolist_objects
returns-clause-formed c =
    let are : AreBuffers c.args.world.now.groups = rw c.buffers.ensures at c.groups.ensures.held in
    rw (c.in_ok-infolist.ensures, c.as_slice.ensures, c.as_slice-2.ensures) (infolist_formed c.args.world.now c.args.name.now c.args.argument.now are.fit c.requires)
