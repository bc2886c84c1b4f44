use Rattle.std.proofs.Common.{◌≡◌, ◌++◌, map, take}
use Rattle.wc_nicklist.specs.Rows.{find_row}
use Rattle.wc_nickdiff.specs.Compared.{found_by}
use Rattle.wc_nickdiff.specs.Held.{before_at}
use Rattle.wc_nickdiff.specs.NickPush.{last_under, op, root_item, with_parents}
use Rattle.wc_nickdiff.specs.Told.{told_at}
use Rattle.wc_nickdiff.proofs.writer.Writer.put_all.Given as goal

-- the items of the rows so far
abbrev pub invariant-loop-row : goal.invariant-loop-row
invariant-loop-row l = record {
  items : l.self.items ≡ l.fn.self.items ++ with_parents l.fn.self.parent (map (op l.mark (root_item l.now.root) (found_by l.mark (told_at (λ k. before_at k l.touches.touches) l.now.rows) (λ k. find_row k l.now.rows))) (take l.row-index l.rows));
  parent : l.self.parent ≡ last_under l.fn.self.parent (take l.row-index l.rows);
}
