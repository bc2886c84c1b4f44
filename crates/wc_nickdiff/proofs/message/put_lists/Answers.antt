use Rattle.std.proofs.Common.{ap}
use Rattle.std.proofs.lemmas.Result.{on_ok_weaker}
use Rattle.wc_nicklist.specs.Rows.{find_row}
use Rattle.wc_nickdiff.specs.Held.{before_at}
use Rattle.wc_nickdiff.specs.NickPush.{root_item}
use Rattle.wc_nickdiff.specs.Told.{told_at}
use Rattle.wc_nickdiff.proofs.Written.{written_in_turn}
use Rattle.wc_nickdiff.proofs.message.put_lists.Goals as goal

pub returns : goal.returns
returns c =
    let now = c.args.now.now.rows in
    let w = c.requires in
    on_ok_weaker c.put_all-5.result
    (written_in_turn (root_item c.args.now.now.root) (told_at (λ k. before_at k c.args.touches.now.touches) now) (λ k. find_row k now)
    c.args.differences.now.out_nicks.items c.args.differences.now.out_groups.items c.args.differences.now.in_groups.items c.args.differences.now.in_nicks.items c.args.differences.now.changed.items
    c.as_slice.result.now c.as_slice-2.result.now c.as_slice-3.result.now c.as_slice-4.result.now c.as_slice-5.result.now
    c.as_slice.ensures.value c.as_slice-2.ensures.value c.as_slice-3.ensures.value c.as_slice-4.ensures.value c.as_slice-5.ensures.value
    c.args.writer.now.items c.put_all.new.self.items c.put_all-2.new.self.items c.put_all-3.new.self.items c.put_all-4.new.self.items c.put_all-5.new.self.items
    c.args.writer.now.parent c.put_all.new.self.parent c.put_all-2.new.self.parent c.put_all-3.new.self.parent c.put_all-4.new.self.parent
    (ap (λ v. v.items) w) (ap (λ v. v.parent) w)
    c.in_ok-put_all.ensures.items c.in_ok-put_all.ensures.parent
    c.in_ok-put_all-2.ensures.items c.in_ok-put_all-2.ensures.parent
    c.in_ok-put_all-3.ensures.items c.in_ok-put_all-3.ensures.parent
    c.in_ok-put_all-4.ensures.items c.in_ok-put_all-4.ensures.parent)
    c.put_all-5.ensures.items
