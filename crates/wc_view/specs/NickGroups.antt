-- The items of each buffer among rows.
use Rattle.std.specs.Prelude.{ℕ, ◌==◌, List, [], ◌∷◌, ◌++◌, fold, Option, option_map}
use Rattle.std.specs.Prelude.{if◌then◌else◌}
use Rattle.wc_nicklist.specs.declared.item.Item.{Item}
use Rattle.wc_view.specs.declared.nick_rows.NickRow.{NickRow}
use Rattle.wc_view.specs.NickEntries.{NickEntry}
use Rattle.wc_view.specs.NickFold.{rows_listed}
use Rattle.wc_view.specs.NickLists.{ItemsAreUtf8}

abbrev pub Group : Type 0
Group = ℕ × List Item

-- a row after the others of its buffer
abbrev pub with_item : List Group → NickRow → List Group
with_item [] row = (row.buffer, row.item ∷ []) ∷ []
with_item (group ∷ groups) row = if group.0 == row.buffer
    then (group.0, group.1 ++ row.item ∷ []) ∷ groups else group ∷ with_item groups row

-- the buffers in the order of their first rows
abbrev pub by_buffer : List NickRow → List Group
by_buffer rows = fold with_item [] rows

abbrev pub GroupsAreUtf8 : List Group → Type 0
GroupsAreUtf8 [] = Unit {0}
GroupsAreUtf8 (group ∷ groups) = ItemsAreUtf8 group.1 × GroupsAreUtf8 groups

-- the nicklist that the items of a buffer are
abbrev pub entry_listed : Group → Option NickEntry
entry_listed group = option_map (λ rows. (group.0, rows)) (rows_listed group.1)
