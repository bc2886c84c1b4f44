-- What becomes of the hotlist is of buffers that a message can name.
use Rattle.std.proofs.Common.{ℕ, zero, suc, ◌<◌, ◌^◌, ℤ, pos, negsuc, Bool, true, false, cond, List, [], ◌∷◌, take, drop, length, get_or, Option, Some, None, All}
use Rattle.std.specs.Prelude.{nat_le, nat_lt, slice_set}
use Rattle.std.specs.List.{remove}
use Rattle.std.specs.Option.{unwrap_or}
use Rattle.std.proofs.lemmas.List.Elements.{All-append, All-cons, All-head, All-tail, All-take, All-drop, All-set, All-from_recursion, recursion_from_All}
use Rattle.wc_text.specs.declared.names.Handle.{Handle}
use Rattle.wc_hotlist.specs.declared.row.HotRow.{HotRow}
use Rattle.wc_hotlist.specs.Counted.{first_row, counted_row, raised_row, lower_place, place_of, put_row}
use Rattle.wc_hotlist.specs.Kept.{rows_raised, rows_counted, rows_displayed, rows_with, rows_removed, rows_without}
use Rattle.wc_model.specs.World.{World}
use Rattle.wc_model.specs.Notices.{about}
use Rattle.wc_model.specs.declared.change.What.{What}
use Rattle.wc_model.specs.declared.change.What.TheVariants.{Close, Print}
use Rattle.wc_core.specs.News.{hotlist_after, rows_used}
use Rattle.wc_core.specs.declared.typed_hotlist.HotlistUse.{HotlistUse}
use Rattle.wc_core.specs.declared.typed_hotlist.HotlistUse.TheVariants as hotlist
use Rattle.wc_mirror_laws.specs.Kept.{AreSmall}

abbrev IsSmall : HotRow → Type 0
IsSmall row = row.buffer.0 < 2 ^ 64

put_small : (row : HotRow) (rows : List HotRow) → IsSmall row → All IsSmall rows → All IsSmall (put_row row rows)
put_small row rows small all =
    let place = unwrap_or (lower_place row.priority rows) (length rows) in
    All-append IsSmall (take place rows) (row ∷ drop place rows) (All-take IsSmall place rows all) (All-cons IsSmall row (drop place rows) small (All-drop IsSmall place rows all))

removed_small : (rows : List HotRow) (place : ℕ) → All IsSmall rows → All IsSmall (remove rows place)
removed_small rows place all =
    All-append IsSmall (take place rows) (drop (suc place) rows) (All-take IsSmall place rows all) (All-drop IsSmall (suc place) rows all)

at_small : (rows : List HotRow) (place : ℕ) (other : HotRow) → IsSmall other → All IsSmall rows → IsSmall (get_or rows place other)
at_small [] zero other small all = small
at_small [] (suc place) other small all = small
at_small (row ∷ rows) zero other small all = All-head IsSmall row rows all
at_small (row ∷ rows) (suc place) other small all = at_small rows place other small (All-tail IsSmall row rows all)

raised_small : (level : ℕ) (rows : List HotRow) (place : ℕ) (row : HotRow) → IsSmall row → All IsSmall rows → All IsSmall (rows_raised level rows place row)
raised_small level rows place row small all = by (nat_le level row.priority) where
  by : (b : Bool) → All IsSmall (cond b (slice_set rows place (counted_row level row)) (put_row (raised_row level row) (remove rows place)))
  by true = All-set IsSmall rows place (counted_row level row) small all
  by false = put_small (raised_row level row) (remove rows place) small (removed_small rows place all)

counted_small : (buffer : Handle) (level : ℕ) (rows : List HotRow) (place : Option ℕ) → buffer.0 < 2 ^ 64 → All IsSmall rows → All IsSmall (rows_counted buffer level rows place)
counted_small buffer level rows None small all = by (nat_lt (length rows) 256) where
  by : (b : Bool) → All IsSmall (cond b (put_row (first_row buffer level) rows) rows)
  by true = put_small (first_row buffer level) rows small all
  by false = all
counted_small buffer level rows (Some place) small all = raised_small level rows place _ (at_small rows place (first_row buffer level) small all) all

displayed_small : (rows : List HotRow) (buffer : Handle) (notify : ℤ) → buffer.0 < 2 ^ 64 → All IsSmall rows → All IsSmall (rows_displayed rows buffer notify)
displayed_small rows buffer (negsuc n) small all = all
displayed_small rows buffer (pos level) small all = by (nat_lt level 4) where
  by : (b : Bool) → All IsSmall (cond b (rows_counted buffer level rows (place_of buffer rows)) rows)
  by true = counted_small buffer level rows (place_of buffer rows) small all
  by false = all

with_small : (rows : List HotRow) (buffer : Handle) (notify : ℤ) (displayed : Bool) → buffer.0 < 2 ^ 64 → All IsSmall rows → All IsSmall (rows_with rows buffer notify displayed)
unfolding rows_with
with_small rows buffer notify true small all = displayed_small rows buffer notify small all
with_small rows buffer notify false small all = all

without_small : (buffer : Handle) (rows : List HotRow) → All IsSmall rows → All IsSmall (rows_without buffer rows)
unfolding rows_without
without_small buffer rows all = by (place_of buffer rows) where
  by : (place : Option ℕ) → All IsSmall (rows_removed rows place)
  by None = all
  by (Some place) = removed_small rows place all

-- after a change, whose buffer a message can name
pub after_small : (w : World) (rows : List HotRow) (buffer : Handle) (what : What) → (about w buffer what).0 < 2 ^ 64 → AreSmall rows → AreSmall (hotlist_after rows buffer what)
unfolding hotlist_after
after_small w rows buffer (Print line) small all = recursion_from_All IsSmall _ (with_small rows buffer line.notify line.displayed small (All-from_recursion IsSmall rows all))
after_small w rows buffer Close small all = recursion_from_All IsSmall _ (without_small buffer rows (All-from_recursion IsSmall rows all))
after_small w rows buffer _ small all = all

-- after a command for the hotlist
pub used_small : (usage : HotlistUse) (buffer : Handle) (rows : List HotRow) → AreSmall rows → AreSmall (rows_used usage buffer rows)
used_small hotlist.Clear buffer rows all = tt
used_small hotlist.Remove buffer rows all = recursion_from_All IsSmall _ (without_small buffer rows (All-from_recursion IsSmall rows all))
