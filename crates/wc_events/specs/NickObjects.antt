-- What a client is told of nicklists: the pushes, and the lists of one buffer or of all.
use Rattle.std.specs.Prelude.{ℕ, ℤ, pos, List, [], ◌∷◌, map, Option, Some, None, option_map}
use Rattle.std.specs.List.{filter_map, flat_map}
use Rattle.wc_text.specs.declared.names.Handle.{Handle}
use Rattle.wc_nicklist.specs.declared.item.Item.{Item}
use Rattle.wc_nickdiff.specs.declared.diff_item.DiffItem.{DiffItem}
use Rattle.wc_nickdiff.specs.declared.diff_item.Mark.{Mark}
use Rattle.wc_nickdiff.specs.declared.diff_item.Mark.TheVariants.{Parent, Added, Removed, Changed}
use Rattle.wc_nickdiff.specs.declared.diff_item.Push.{Push}
use Rattle.wc_nickdiff.specs.declared.diff_item.Push.TheVariants.{Nothing, Diff, Full}
use Rattle.wc_nickdiff.specs.NickPush.{full_list, root_item}
use Rattle.wc_buffers.specs.declared.row.BufferEntry.{BufferEntry}
use Rattle.wc_buffers.specs.Calls.{entry_of}
use Rattle.wc_buffers.specs.Groups.{rows}
use Rattle.wc_model.specs.declared.notice.EventKind.{EventKind}
use Rattle.wc_model.specs.declared.notice.EventKind.TheVariants as kind
use Rattle.wc_model.specs.World.{World, rows_at, root_at}
use Rattle.wc_objects.specs.declared.object.Object.{Object}
use Rattle.wc_objects.specs.declared.object.Object.TheVariants as o
use Rattle.wc_objects.specs.declared.object.Hda.{roll-Hda}
use Rattle.wc_objects.specs.declared.object.HdaItem.{HdaItem, roll-HdaItem}
use Rattle.wc_objects.specs.declared.object.WireMessage.{WireMessage}
use Rattle.wc_events.specs.LineObjects.{truth}
use Rattle.wc_keys.specs.declared.key.KeyList.TheVariants as l
use Rattle.wc_keys.specs.declared.key.Key.{Key}
use Rattle.wc_keys.specs.declared.key.Key.TheVariants as key
use Rattle.wc_keys.specs.Keys.{keys_in, list_text}
use Rattle.wc_keys.specs.Events.{id_of}
use Rattle.wc_events.specs.BufferObjects.{count, text}
pub use Rattle.wc_keys.specs.Events.{nick_path}

abbrev pub nick_keys : List ℕ
nick_keys = list_text l.Nicks

abbrev pub diff_keys : List ℕ
diff_keys = list_text l.Diff

-- the value of a group or a nick under each key
abbrev pub nick_value : Item → Key → Option Object
nick_value i key.Group = Some (o.Chr (truth i.is_group))
nick_value i key.Visible = Some (o.Chr (truth i.visible))
nick_value i key.Level = Some (o.Int (count i.level))
nick_value i key.Name = Some (text i.name)
nick_value i key.Color = Some (text i.color)
nick_value i key.Prefix = Some (text i.prefix)
nick_value i key.PrefixColor = Some (text i.prefix_color)
nick_value i _ = None

-- the values of a group or a nick, in the order of the keys
unfoldable pub nick_values : Item → List Object
nick_values i = filter_map (nick_value i) (keys_in l.Nicks)

-- a group or a nick of a buffer's nicklist
abbrev pub nick_item : Handle → Item → HdaItem
nick_item buffer i = roll-HdaItem (record {
  pointers = buffer.0 ∷ i.handle.0 ∷ [];
  values = nick_values i;
})

-- `^`, `+`, `-` and `*`
abbrev pub mark_code : Mark → ℤ
mark_code Parent = pos 94
mark_code Added = pos 43
mark_code Removed = pos 45
mark_code Changed = pos 42

abbrev pub diff_item : Handle → DiffItem → HdaItem
diff_item buffer d = roll-HdaItem (record {
  pointers = buffer.0 ∷ d.item.handle.0 ∷ [];
  values = o.Chr (mark_code d.mark) ∷ nick_values d.item;
})

abbrev pub nick_objects : List HdaItem → List Object
nick_objects items = o.Hda (roll-Hda (record {
  path = Some nick_path;
  keys = Some nick_keys;
  items = items;
})) ∷ []

abbrev pub diff_objects : List HdaItem → List Object
diff_objects items = o.Hda (roll-Hda (record {
  path = Some nick_path;
  keys = Some diff_keys;
  items = items;
})) ∷ []

-- ---- pushes

-- the event as which a push is told
abbrev pub push_kind : Push → EventKind
push_kind Nothing = kind.NickTouched
push_kind (Diff items) = kind.NicklistDiff
push_kind (Full items) = kind.Nicklist

abbrev pub push_objects : Handle → Push → Option (List Object)
push_objects buffer Nothing = None
push_objects buffer (Diff items) = Some (diff_objects (map (diff_item buffer) items))
push_objects buffer (Full items) = Some (nick_objects (map (nick_item buffer) items))

-- the message of a push
abbrev pub push_message : Handle → Push → Option WireMessage
push_message buffer push = option_map (λ objects. record {
  id = id_of (push_kind push);
  objects = objects;
}) (push_objects buffer push)

-- ---- lists

-- the root of a buffer and its rows
abbrev pub root_and_rows : World → BufferEntry → List HdaItem
root_and_rows world e = map (nick_item e.row.handle) (full_list (root_item (root_at e.row.handle.0))
    (rows_at world e.row.handle.0))

-- the nicklists of all buffers, in their order
abbrev pub nick_dump : World → List Object
nick_dump world = nick_objects (flat_map (root_and_rows world) (rows world.groups))

-- the nicklist of one buffer, where it is there
abbrev pub nick_list : World → Handle → Option (List Object)
nick_list world buffer = option_map (λ e. nick_objects (root_and_rows world e))
    (entry_of buffer world.groups)
