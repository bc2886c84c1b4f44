use Rattle.std.proofs.Common.{map, drop}
use Rattle.wc_events.specs.NickObjects.{diff_item}
use Rattle.wc_events.proofs.NickWalks.{WritesAmid}
use Rattle.wc_events.proofs.nick_items.write_diffs.Given as goal

abbrev pub invariant-loop-item : goal.invariant-loop-item
invariant-loop-item l = WritesAmid l.fn.whole l.left l.fn.out l.out (map (diff_item l.buffer) l.items) (map (diff_item l.buffer) (drop l.item-index l.items))
