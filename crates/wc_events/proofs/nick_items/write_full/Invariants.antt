use Rattle.std.proofs.Common.{map, drop}
use Rattle.wc_events.specs.NickObjects.{nick_item}
use Rattle.wc_events.proofs.NickWalks.{WritesAmid}
use Rattle.wc_events.proofs.nick_items.write_full.Given as goal

abbrev pub invariant-loop-item : goal.invariant-loop-item
invariant-loop-item l = WritesAmid l.fn.whole l.left l.fn.out l.out (map (nick_item l.buffer) l.items) (map (nick_item l.buffer) (drop l.item-index l.items))
