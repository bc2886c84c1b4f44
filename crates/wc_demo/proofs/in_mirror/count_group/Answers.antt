use Rattle.std.proofs.Common.{◌++◌, take}
use Rattle.wc_demo.specs.MirrorCounts.{mirrored_in}
use Rattle.wc_demo.proofs.CountLemmas.{group_step_at, group_end}
use Rattle.wc_demo.proofs.in_mirror.count_group.Goals as goal

pub loop-buffer-preserved : goal.loop-buffer-preserved
loop-buffer-preserved c = λ before e.
    let place = c.loop-buffer.buffer-index in
    let group = c.args.group.now in
    group_step_at (mirrored_in c.args.mirror.now) before group place c.buffer-item.result c.in_ok-all.all c.loop-buffer-test.true c.buffer-item.is (c.in_ok-all.ensures (before ++ take place group) (c.loop-buffer.invariant before e))

pub returns : goal.returns
returns c = λ before e. group_end (mirrored_in c.args.mirror.now) before c.args.group.now c.loop-buffer.buffer-index c.loop-buffer.all c.loop-buffer-test.false (c.loop-buffer.invariant before e)
