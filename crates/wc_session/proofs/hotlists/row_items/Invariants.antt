use Rattle.std.proofs.Common.{◌≡◌, ◌++◌, map}
use Rattle.wc_hotlist.specs.HotRows.{rows_left}
use Rattle.wc_session.specs.Hotlists.{row_item}
use Rattle.wc_session.proofs.hotlists.row_items.Given as goal

-- the items so far, and those of the rows that are left
abbrev pub invariant-loop-row : goal.invariant-loop-row
invariant-loop-row l = l.items ++ map (row_item l.keys) (rows_left l.row-iterator) ≡ map (row_item l.keys) l.hotlist
