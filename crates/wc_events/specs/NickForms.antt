-- The items of nicklists by the handles of the buffers, and the texts that they keep.
use Rattle.std.specs.Prelude.{ℕ, Bool, List, [], ◌∷◌, Some}
use Rattle.std.specs.List.{flat_map, list_all, AllByRecursion}
use Rattle.wc_text.specs.declared.names.Handle.{Handle}
use Rattle.wc_nicklist.specs.Rows.{TextsAreUtf8}
use Rattle.wc_nickdiff.specs.Apply.{AreUtf8}
use Rattle.wc_nickdiff.specs.declared.diff_item.Push.{Push}
use Rattle.wc_nickdiff.specs.declared.diff_item.Push.TheVariants.{Nothing, Diff, Full}
use Rattle.wc_model.specs.World.{World}
use Rattle.wc_objects.specs.declared.kind.Kind.{Kind}
use Rattle.wc_keys.specs.declared.key.KeyList.TheVariants as l
use Rattle.wc_keys.specs.Keys.{kinds_in}
use Rattle.wc_objects.specs.declared.object.Object.{Object}
use Rattle.wc_objects.specs.declared.object.Object.TheVariants as o
use Rattle.wc_objects.specs.declared.object.Hda.{roll-Hda}
use Rattle.wc_objects.specs.declared.object.HdaItem.{HdaItem}
use Rattle.wc_objects.specs.Forms.{item_of}
use Rattle.wc_events.specs.Dumps.{each_told}
use Rattle.wc_events.specs.NickObjects.{root_and_rows, nick_path}

-- items of nicklists under these keys
abbrev pub on_nick_path : List ℕ → List HdaItem → List Object
on_nick_path keys items = o.Hda
    (roll-Hda (record { path = Some nick_path; keys = Some keys; items = items })) ∷ []

-- the nicklists of the buffers of a group
abbrev pub nick_group : World → List Handle → List HdaItem
nick_group world handles = each_told world.groups (root_and_rows world) handles

-- the nicklists of the buffers of the groups
abbrev pub all_nicks : World → List (List Handle) → List HdaItem
all_nicks world groups = flat_map (nick_group world) groups

-- the types of the keys of a group or a nick, and of an item of a diff
abbrev pub nick_kinds : List Kind
nick_kinds = kinds_in l.Nicks

abbrev pub diff_kinds : List Kind
diff_kinds = kinds_in l.Diff

-- each item keeps the rules of the list, or of the diff
abbrev pub are_nicks : List HdaItem → Bool
are_nicks items = list_all (λ item. item_of 2 (Some nick_kinds) item) items

abbrev pub are_diffs : List HdaItem → Bool
are_diffs items = list_all (λ item. item_of 2 (Some diff_kinds) item) items

-- the texts of a push are UTF-8
abbrev pub IsPushText : Push → Type 0
IsPushText Nothing = Unit {0}
IsPushText (Diff items) = AreUtf8 items
IsPushText (Full items) = AllByRecursion TextsAreUtf8 items
