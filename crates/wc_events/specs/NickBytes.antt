-- Groups and nicks as bytes, and the room that they take.
use Rattle.std.specs.Prelude.{◌≡◌, ℕ, ◌+◌, ◌-◌, ◌^◌, ◌<◌, ◌≤◌, List, ◌++◌, length, Option, Some}
use Rattle.std.specs.Prelude.{Result, MatchResult}
use Rattle.std.specs.List.{flat_map}
use Rattle.bytes.specs.Filled.{Filled}
use Rattle.wc_text.specs.declared.names.Handle.{Handle}
use Rattle.wc_nicklist.specs.declared.item.Item.{Item}
use Rattle.wc_nickdiff.specs.declared.diff_item.Mark.{Mark}
use Rattle.wc_objects.specs.declared.object.Object.{Object}
use Rattle.wc_objects.specs.declared.object.Object.TheVariants as o
use Rattle.wc_objects.specs.declared.object.HdaItem.{HdaItem}
use Rattle.wc_objects.specs.declared.write.WriteRefused.{WriteRefused}
use Rattle.wc_objects.specs.Spelling.{be32, pointer_bytes}
use Rattle.wc_keys.specs.declared.key.Key.{Key}
use Rattle.wc_keys.specs.declared.key.Key.TheVariants as key
use Rattle.wc_events.specs.declared.lent_nick.LentNick.{LentNick}
use Rattle.wc_events.specs.declared.nick_bytes.Left.{Left}
use Rattle.wc_events.specs.HdaBytes.{hda_body, hda_message, items_bytes}
use Rattle.wc_events.specs.NickObjects.{mark_code, nick_value}
use Rattle.wc_events.specs.ValueBytes.{bytes_if}

-- the group or the nick that is lent
abbrev pub item_lent : LentNick → Item
item_lent n = record {
  handle = n.handle;
  is_group = n.is_group;
  visible = n.visible;
  level = n.level;
  name = n.name.now;
  color = n.color.now;
  prefix = n.prefix.now;
  prefix_color = n.prefix_color.now;
}

-- its value under each key, with its sign where it is of a diff
abbrev pub marked_value : Option Mark → Item → Key → Option Object
marked_value (Some mark) i key.Diff = Some (o.Chr (mark_code mark))
marked_value _ i k = nick_value i k

abbrev pub lent_value : LentNick → Key → Option Object
lent_value n k = marked_value n.mark (item_lent n) k

unfoldable pub key_bytes : LentNick → Key → List ℕ
key_bytes n k = bytes_if (lent_value n k)

-- an item with the values of these keys
abbrev pub told_bytes : Handle → LentNick → List Key → List ℕ
told_bytes buffer n keys = pointer_bytes buffer.0
    ++ (pointer_bytes n.handle.0 ++ flat_map (key_bytes n) keys)

-- items that are longer than what is left
abbrev pub IsOver : Left → List HdaItem → Type 0
IsOver left items = left.room < length (items_bytes items)

-- what is left after items, each of which takes some room
pub record IsAfter (old new : Left) (items : List HdaItem) : Type 0 where
  pub room : new.room + length (items_bytes items) ≡ old.room
  pub counted : new.items ≡ old.items + length items
  pub few : new.items + new.room ≤ old.items + old.room

-- ---- items that are put as they are counted

-- bytes came after those that were there
abbrev pub Grows : Filled → Filled → Type 0
Grows old new = (more : List ℕ) × (new.items ≡ old.items ++ more)

-- all of the items were put, and what is left after them
pub record Written (left rest : Left) (old new : Filled) (items : List HdaItem) : Type 0 where
  pub after : IsAfter left rest items
  pub bytes : new.items ≡ old.items ++ items_bytes items

-- why not all of the items were put
pub record Refused (refused : WriteRefused) (left : Left) (old new : Filled) (items : List HdaItem) : Type 0 where
  pub kept : Grows old new
  pub too_long : refused ≡ WriteRefused.TooLong → IsOver left items

abbrev pub Writes : Result Left WriteRefused → Left → Filled → Filled → List HdaItem → Type 0
Writes result left old new items = MatchResult result (λ rest. Written left rest old new items)
    (λ refused. Refused refused left old new items)

-- ---- the message around them

-- what is before the items, with 0 in place of its length and of their count
abbrev pub head_bytes : List ℕ → List ℕ
head_bytes front = be32 0 ++ (front ++ be32 0)

-- it was put, and so much is left of the room of a message
pub record IsHead (front : List ℕ) (old new : Filled) (rest : ℕ) : Type 0 where
  pub room : rest + length front ≡ 2147483639
  pub bytes : new.items ≡ old.items ++ head_bytes front

-- what comes after the length of the message was put, with 0 in place of the length
pub record IsCounted (front : List ℕ) (items : List HdaItem) (old new : Filled) (rest : ℕ) : Type 0 where
  pub bytes : new.items ≡ old.items ++ (be32 0 ++ hda_body front items)
  pub room : rest + length (hda_body front items) ≡ 2147483643

-- all of the message was put, which is not too long
pub record IsWhole (front : List ℕ) (items : List HdaItem) (old new : Filled) : Type 0 where
  pub bytes : new.items ≡ old.items ++ hda_message front items
  pub short : length (hda_message front items) ≤ 2 ^ 31 - 1

-- why not all of it was put
pub record IsCut (refused : WriteRefused) (front : List ℕ) (items : List HdaItem) (old new : Filled) : Type 0 where
  pub kept : Grows old new
  pub too_long : refused ≡ WriteRefused.TooLong → 2 ^ 31 - 1 < length (hda_message front items)
