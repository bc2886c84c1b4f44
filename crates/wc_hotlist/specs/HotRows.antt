-- The rows that an iterator has still to give.
use Rattle.std.specs.Prelude.{List}
use Rattle.wc_hotlist.specs.declared.hotlist.HotIter.{HotIter}
use Rattle.wc_hotlist.specs.declared.row.HotRow.{HotRow}

abbrev pub rows_left : HotIter → List HotRow
rows_left it = it.rows.rest.now
