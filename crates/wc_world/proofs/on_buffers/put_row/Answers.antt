use Rattle.wc_world.proofs.Opened.{may_undo, undone}
use Rattle.wc_world.proofs.on_buffers.put_row.Goals as goal

pub take_back-requires : goal.take_back-requires
take_back-requires c = may_undo c.args.buffers.now c.add.new.self c.args.next c.args.spec c.requires.absent c.in_ok-add.ensures.after c.requires.started

pub returns-then-next-clause-err : goal.returns-then-next-clause-err
returns-then-next-clause-err c = undone c.args.buffers.now c.add.new.self c.args.next c.args.spec c.requires.absent c.in_ok-add.ensures.after c.take_back.new.buffers c.take_back.ensures.held c.take_back.ensures.after
