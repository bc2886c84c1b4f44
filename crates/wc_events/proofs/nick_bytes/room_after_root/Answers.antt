use Rattle.wc_nickdiff.specs.NickPush.{root_item}
use Rattle.wc_events.specs.NickObjects.{nick_item}
use Rattle.wc_events.proofs.NickBytes.{list_told, told_leaves}
use Rattle.wc_events.proofs.nick_bytes.room_after_root.Goals as goal

pub returns : goal.returns
returns c =
    let same = list_told c.args.buffer c.root.result (root_item c.args.root) c.keys.result.now c.root.ensures.mark c.root.ensures.item c.keys.ensures in
    told_leaves c.room_after_lent.result c.args.left c.args.buffer c.root.result c.keys.result.now (nick_item c.args.buffer (root_item c.args.root)) same c.room_after_lent.ensures
