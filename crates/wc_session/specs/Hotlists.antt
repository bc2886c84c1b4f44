-- The reply to `hdata` on the path of the hotlist.
use Rattle.std.specs.Prelude.{ℕ, List, [], ◌∷◌, map, Option, Some, None, codes}
use Rattle.std.specs.List.{filter_map}
use Rattle.wc_hotlist.specs.declared.row.HotRow.{HotRow}
use Rattle.wc_objects.specs.declared.kind.Kind.TheVariants as k
use Rattle.wc_objects.specs.declared.object.Object.{Object}
use Rattle.wc_objects.specs.declared.object.Object.TheVariants as o
use Rattle.wc_objects.specs.declared.object.Hda.{roll-Hda}
use Rattle.wc_objects.specs.declared.object.HdaItem.{HdaItem, roll-HdaItem}
use Rattle.wc_keys.specs.declared.key.Key.{Key}
use Rattle.wc_keys.specs.declared.key.Key.TheVariants as key
use Rattle.wc_keys.specs.declared.key.KeyList.TheVariants as l
use Rattle.wc_keys.specs.Keys.{keys_text}
use Rattle.wc_events.specs.LineObjects.{count}
use Rattle.wc_hdata.specs.Keys.{keys_asked_in}

-- the path that asks for it, and the name of what it leads to
abbrev pub hotlist_text : List ℕ
hotlist_text = codes "hotlist:gui_hotlist(*)"

abbrev pub hotlist_path : List ℕ
hotlist_path = codes "hotlist"

abbrev pub int_of : ℕ → Object
int_of number = o.Int (count number)

-- the value of a row under each key: its counts are how many lines of each level there were
abbrev pub row_value : HotRow → Key → Option Object
row_value row key.Priority = Some (int_of row.priority)
row_value row key.Buffer = Some (o.Ptr row.buffer.0)
row_value row key.Unread = Some (o.Arr k.Int (map int_of row.counts))
row_value row _ = None

abbrev pub row_values : List Key → HotRow → List Object
row_values keys row = filter_map (row_value row) keys

-- a row is told under the handle of its buffer
abbrev pub row_item : List Key → HotRow → HdaItem
row_item keys row = roll-HdaItem (record {
  pointers = row.buffer.0 ∷ [];
  values = row_values keys row;
})

abbrev pub keys_of_rows : List ℕ → List Key
keys_of_rows keys = keys_asked_in l.Hotlist keys

-- the rows in their order, with the keys that are asked for
unfoldable pub hotlist_object : List HotRow → List ℕ → Object
hotlist_object rows keys =
    o.Hda (roll-Hda (record {
      path = Some hotlist_path;
      keys = Some (keys_text (keys_of_rows keys));
      items = map (row_item (keys_of_rows keys)) rows;
    }))

abbrev pub hotlist_objects : List HotRow → List ℕ → List Object
hotlist_objects rows keys = hotlist_object rows keys ∷ []
