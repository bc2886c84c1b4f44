-- The numbers that an iterator has still to give.
use Rattle.std.specs.Prelude.{List, ℕ, map}
use Rattle.wc_triggers.specs.declared.triggers.NumberIter.{NumberIter}

abbrev pub numbers_left : NumberIter → List ℕ
numbers_left it = map (λ row. row.number) it.rows.now
