-- The texts of an item as a row takes it, and the rows of a nicklist whose items are cut.
use Rattle.std.proofs.Common.{ℕ, ◌≤◌, Bool, Option, Some, None, List, [], ◌∷◌, length, arith}
use Rattle.std.proofs.lemmas.List.{length-take}
use Rattle.wc_text.proofs.CutLemmas.{cut_utf8, cut_within}
use Rattle.wc_text.specs.Cut.{cut_of}
use Rattle.wc_text.specs.declared.names.Handle.{Handle}
use Rattle.wc_buffers.proofs.GroupLaws.{by_bool}
use Rattle.wc_buffers.specs.Vars.{cut_to}
use Rattle.wc_nicklist.specs.declared.item.Item.{Item}
use Rattle.wc_nicklist.specs.declared.item.Key.{Key}
use Rattle.wc_nicklist.specs.declared.item.Row.{Row}
use Rattle.wc_nicklist.specs.Calls.{row_under, add_under, add_row}
use Rattle.wc_nicklist.specs.Order.{key, before}
use Rattle.wc_nicklist.specs.Rows.{key_eq, find_row, insert_row, remove_row, replace_row, changed_row, change_found, change_row, path_below, TextsAreUtf8}
use Rattle.wc_model.specs.Apply.{item_with}
use Rattle.wc_world.specs.Nicks.{IsCut, AreCut}

short : (text : List ℕ) → length (cut_to 64 text) ≤ 64
short text = let within = cut_within text 64 in let size = length-take (cut_of text 64) text in omega (arith, within, size)

pub item_cut : (handle : Handle) (item : Item) → IsCut (item_with handle item)
item_cut handle item = record { color = short item.color; prefix = short item.prefix; prefix_color = short item.prefix_color }

pub item_text : (handle : Handle) (item : Item) → TextsAreUtf8 item → TextsAreUtf8 (item_with handle item)
item_text handle item t = record { name = t.name; color = cut_utf8 item.color 64; prefix = cut_utf8 item.prefix 64; prefix_color = cut_utf8 item.prefix_color 64 }

inserted_cut : (r : Row) (rows : List Row) → IsCut r.item → AreCut rows → AreCut (insert_row r rows)
inserted_cut r [] i c = (i, tt)
inserted_cut r (x ∷ rows) i c = by_bool (before r x) _
    (λ t. rw t (i, c))
    (λ t. rw t (c.0, inserted_cut r rows i c.1))

pub removed_cut : (k : Key) (rows : List Row) → AreCut rows → AreCut (remove_row k rows)
removed_cut k [] c = tt
removed_cut k (x ∷ rows) c = by_bool (key_eq (key x) k) _
    (λ t. rw t (removed_cut k rows c.1))
    (λ t. rw t (c.0, removed_cut k rows c.1))

replaced_cut : (r : Row) (rows : List Row) → IsCut r.item → AreCut rows → AreCut (replace_row r rows)
replaced_cut r [] i c = tt
replaced_cut r (x ∷ rows) i c = by_bool (key_eq (key x) (key r)) _
    (λ t. rw t (i, replaced_cut r rows i c.1))
    (λ t. rw t (c.0, replaced_cut r rows i c.1))

pub added_cut : (g : Bool) (parent : List ℕ) (i : Item) (rows : List Row) → IsCut i → AreCut rows → AreCut (add_row g parent i rows)
added_cut g parent i rows cut c = by (path_below parent rows)
  where
    by : (o : Option (List (List ℕ))) → AreCut (add_under g o i rows)
    by None = c
    by (Some path) = inserted_cut (row_under g path i) rows (record { color = cut.color; prefix = cut.prefix; prefix_color = cut.prefix_color }) c

pub changed_cut : (k : Key) (i : Item) (rows : List Row) → IsCut i → AreCut rows → AreCut (change_row k i rows)
changed_cut k i rows cut c = by (find_row k rows)
  where
    by : (o : Option Row) → AreCut (change_found o i rows)
    by None = c
    by (Some r) = replaced_cut (changed_row r i) rows (record { color = cut.color; prefix = cut.prefix; prefix_color = cut.prefix_color }) c
