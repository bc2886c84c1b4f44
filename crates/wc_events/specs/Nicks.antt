-- Groups and nicks that are told in one message.
use Rattle.std.specs.Prelude.{List, map}
use Rattle.wc_nickdiff.specs.NickPush.{full_list, root_item}
use Rattle.wc_buffers.specs.Kept.{handles}
use Rattle.wc_objects.specs.declared.object.Object.{Object}
use Rattle.wc_objects.specs.declared.object.HdaItem.{HdaItem}
use Rattle.wc_keys.specs.declared.key.KeyList.{KeyList}
use Rattle.wc_keys.specs.declared.key.KeyList.TheVariants as l
use Rattle.wc_keys.specs.Keys.{list_text}
use Rattle.wc_events.specs.declared.nicks.Nicks.{Nicks}
use Rattle.wc_events.specs.declared.nicks.Nicks.TheVariants as nicks
use Rattle.wc_events.specs.NickForms.{all_nicks, on_nick_path}
use Rattle.wc_events.specs.NickObjects.{nick_item, diff_item}

abbrev pub nicks_items : Nicks → List HdaItem
nicks_items (nicks.All world) = all_nicks world.now (handles world.now.groups)
nicks_items (nicks.Of buffer list) = map (nick_item buffer)
    (full_list (root_item list.now.root) list.now.rows)
nicks_items (nicks.Full buffer items) = map (nick_item buffer) items.now
nicks_items (nicks.Diff buffer items) = map (diff_item buffer) items.now

abbrev pub nicks_keys : Nicks → KeyList
nicks_keys (nicks.Diff buffer items) = l.Diff
nicks_keys _ = l.Nicks

abbrev pub nicks_objects : Nicks → List Object
nicks_objects n = on_nick_path (list_text (nicks_keys n)) (nicks_items n)
