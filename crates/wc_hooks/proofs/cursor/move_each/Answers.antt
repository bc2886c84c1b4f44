use Rattle.wc_hooks.specs.Slots.{moved_place}
use Rattle.wc_hooks.proofs.Changes.{changes_at}
use Rattle.wc_hooks.proofs.cursor.move_each.Goals as goal

pub loop-cursor-preserved : goal.loop-cursor-preserved
loop-cursor-preserved c = changes_at (moved_place c.args.at) c.loop-cursor.cursor-index c.args.cursors.now c.loop-cursor.cursors _ c.moved_cursor.result c.loop-cursor-test.true c.loop-cursor.invariant c.moved_cursor.ensures
