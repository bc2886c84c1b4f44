use Rattle.std.proofs.Common.{sym, ◌∙◌}
use Rattle.wc_nicklist.specs.Rows.{find_row}
use Rattle.wc_nickdiff.specs.Compared.{found_by}
use Rattle.wc_nickdiff.specs.Held.{before_at}
use Rattle.wc_nickdiff.specs.NickPush.{root_item}
use Rattle.wc_nickdiff.specs.Told.{told_at}
use Rattle.wc_nickdiff.proofs.Written.{put_more, next_under}
use Rattle.wc_nickdiff.proofs.writer.Writer.put_all.Goals as goal

pub loop-row-preserved : goal.loop-row-preserved
loop-row-preserved c =
    let m = c.args.mark in
    let now = c.args.now.now.rows in
    let root = root_item c.args.now.now.root in
    let found = found_by m (told_at (λ k. before_at k c.args.touches.now.touches) now) (λ k. find_row k now) in
    let rows = c.args.rows.now in
    let n = c.loop-row.row-index in
    let r = c.row-item.result in
    record {
      items = put_more m root found rows n r c.args.self.now.parent c.args.self.now.items c.loop-row.self.items c.put.new.self.items c.loop-row.self.parent c.loop-row-test.true c.row-item.is c.loop-row.invariant.items c.loop-row.invariant.parent c.in_ok-put.ensures.items;
      parent = c.in_ok-put.ensures.parent ∙ sym (next_under m root found rows n r c.args.self.now.parent c.loop-row-test.true c.row-item.is);
    }
