use Rattle.wc_events.specs.NickObjects.{diff_item}
use Rattle.wc_events.proofs.NickBytes.{diff_told, told_leaves}
use Rattle.wc_events.proofs.nick_bytes.room_after_diff.Goals as goal

pub returns : goal.returns
returns c =
    let same = diff_told c.args.buffer c.of_diff.result c.args.diff.now c.keys.result.now c.of_diff.ensures.mark c.of_diff.ensures.item c.keys.ensures in
    told_leaves c.room_after_lent.result c.args.left c.args.buffer c.of_diff.result c.keys.result.now (diff_item c.args.buffer c.args.diff.now) same c.room_after_lent.ensures
