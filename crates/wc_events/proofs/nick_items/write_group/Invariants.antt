use Rattle.std.proofs.Common.{drop}
use Rattle.wc_events.specs.NickForms.{nick_group}
use Rattle.wc_events.proofs.NickWalks.{WritesAmid}
use Rattle.wc_events.proofs.nick_items.write_group.Given as goal

abbrev pub invariant-loop-buffer : goal.invariant-loop-buffer
invariant-loop-buffer l = WritesAmid l.fn.whole l.left l.fn.out l.out (nick_group l.world l.group) (nick_group l.world (drop l.buffer-index l.group))
