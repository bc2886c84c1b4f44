use Rattle.wc_events.specs.NickObjects.{nick_item}
use Rattle.wc_events.proofs.NickBytes.{list_told, told_leaves}
use Rattle.wc_events.proofs.nick_bytes.room_after_nick.Goals as goal

pub returns : goal.returns
returns c =
    let same = list_told c.args.buffer c.of.result c.args.item.now c.keys.result.now c.of.ensures.mark c.of.ensures.item c.keys.ensures in
    told_leaves c.room_after_lent.result c.args.left c.args.buffer c.of.result c.keys.result.now (nick_item c.args.buffer c.args.item.now) same c.room_after_lent.ensures
