use Rattle.std.proofs.Common.{map}
use Rattle.wc_nicklist.specs.declared.item.Row.{Row}
use Rattle.wc_events.specs.NickObjects.{nick_item}
use Rattle.wc_events.proofs.NickWalks.{WritesAmid}
use Rattle.wc_events.proofs.nick_items.write_rows.Given as goal

abbrev pub invariant-loop-row : goal.invariant-loop-row
invariant-loop-row l = WritesAmid l.fn.whole l.left l.fn.out l.out (map (λ (r : Row). nick_item l.buffer r.item) l.list.rows) (map (λ (r : Row). nick_item l.buffer r.item) l.row-iterator)
