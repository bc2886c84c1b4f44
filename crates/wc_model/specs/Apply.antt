-- A change of the world: the refusal, where there is one, and the world after it.
use Rattle.std.specs.Prelude.{ℕ, ◌+◌, false, true, not, Bool, nat_lt, nat_le, Option, Some, None}
use Rattle.std.specs.Prelude.{List, [], ◌∷◌, ◌++◌, map, find, fold, option_map, if◌then◌else◌}
use Rattle.std.specs.List.{list_any}
use Rattle.std.specs.FinMap.{insert, remove, entries, from_entries}
use Rattle.wc_text.specs.declared.names.Handle.{Handle}
use Rattle.wc_lines.specs.declared.line.Line.{Line}
use Rattle.wc_lines.specs.Ring.{counted, last_of, has_content, set_displayed}
use Rattle.wc_buffers.specs.declared.row.BufferRow.{BufferRow}
use Rattle.wc_buffers.specs.declared.refused.BufferRefused.{BufferRefused}
use Rattle.wc_buffers.specs.Calls.{EntryGroups, no_buffer, add_refusal, close_refusal, move_refusal}
use Rattle.wc_buffers.specs.Calls.{merge_refusal, unmerge_refusal, rename_refusal}
use Rattle.wc_buffers.specs.Calls.{short_name_refusal, set_var_refusal, remove_var_refusal}
use Rattle.wc_buffers.specs.Calls.{with_buffer, without_buffer, move_group_to, merge_groups}
use Rattle.wc_buffers.specs.Calls.{unmerge_group, with_entry, with_hidden, with_full_name}
use Rattle.wc_buffers.specs.Calls.{with_short_name, with_title, with_var, without_var}
use Rattle.wc_buffers.specs.Vars.{cut_to}
use Rattle.wc_buffers.specs.declared.row.BufferSpec.{BufferSpec}
use Rattle.wc_nicklist.specs.declared.item.Item.{Item}
use Rattle.wc_nicklist.specs.declared.item.Key.{Key}
use Rattle.wc_nicklist.specs.declared.item.Row.{Row}
use Rattle.wc_nicklist.specs.declared.refused.NickRefused.{NickRefused}
use Rattle.wc_nicklist.specs.Calls as nicks
use Rattle.wc_nicklist.specs.Order.{key_at}
use Rattle.wc_nicklist.specs.Rows.{find_row, remove_row, change_row}
use Rattle.wc_model.specs.declared.change.Change.{Change}
use Rattle.wc_model.specs.declared.change.Flip.{Flip}
use Rattle.wc_model.specs.declared.change.What.{What}
use Rattle.wc_model.specs.declared.change.What.TheVariants.{Add, Close, MoveTo, MergeInto, Unmerge}
use Rattle.wc_model.specs.declared.change.What.TheVariants.{Hide, Unhide, Rename, ShortName, Title}
use Rattle.wc_model.specs.declared.change.What.TheVariants.{SetVar, RemoveVar, Print, Clear, Flips}
use Rattle.wc_model.specs.declared.change.What.TheVariants.{AddGroup, AddNick, RemoveGroup}
use Rattle.wc_model.specs.declared.change.What.TheVariants.{RemoveNick, ChangeGroup, ChangeNick, Limit}
use Rattle.wc_model.specs.declared.refused.ChangeRefused.{ChangeRefused}
use Rattle.wc_model.specs.declared.refused.ChangeRefused.TheVariants.{Buffer, Nick, NoLine}
use Rattle.wc_model.specs.declared.refused.ChangeRefused.TheVariants.{TooManyRows, Spent}
use Rattle.wc_model.specs.World.{World, lines_at, printed_at, rows_at, row_count, row_limit, last_handle}
use Rattle.wc_model.specs.Order.{order}
use Rattle.wc_model.specs.LineCuts.{line_of}

-- the row of a buffer whose first handle is this one
abbrev pub row_of : ℕ → BufferSpec → BufferRow
row_of handle spec = record {
  handle = record { 0 = handle };
  own_lines = record { 0 = handle + 1 };
  mixed_lines = record { 0 = handle + 2 };
  full_name = spec.full_name;
  short_name = spec.short_name;
  title = spec.title;
  hidden = false;
}

-- ---- refusals

abbrev pub or_else : Option ChangeRefused → Option ChangeRefused → Option ChangeRefused
or_else None b = b
or_else (Some a) b = Some a

abbrev pub of_buffers : Option BufferRefused → Option ChangeRefused
of_buffers refusal = option_map Buffer refusal

-- handles from the next one on, so many of them, are not all left
abbrev pub refusal_of_handles : ℕ → World → Option ChangeRefused
refusal_of_handles count world = if nat_lt (last_handle + 1) (world.next + count)
    then Some Spent else None

-- whether some buffer holds a line with this content
abbrev pub is_held : Handle → World → Bool
is_held content world = list_any (λ buffer. has_content content (lines_at world buffer))
    (order world.groups)

-- the first flip of a line that is not held
abbrev pub no_line : List Flip → World → Option ChangeRefused
no_line flips world = option_map (λ (flip : Flip). NoLine flip.content)
    (find (λ (flip : Flip). not (is_held flip.content world)) flips)

abbrev pub of_nicks : Option NickRefused → Option ChangeRefused
of_nicks refusal = option_map Nick refusal

-- no nicklist takes a row more
abbrev pub too_many_rows : World → Option ChangeRefused
too_many_rows world = if nat_le row_limit (row_count world)
    then Some (TooManyRows row_limit) else None

abbrev pub adds_row : World → Handle → Bool → List ℕ → Item → Option ChangeRefused
adds_row world buffer is_group parent item =
    or_else (of_buffers (no_buffer buffer world.groups))
    (or_else (of_nicks (nicks.add_refusal is_group parent item.name (rows_at world buffer.0)))
    (or_else (too_many_rows world) (refusal_of_handles 1 world)))

abbrev pub removes_row : World → Handle → Bool → List ℕ → Option ChangeRefused
removes_row world buffer is_group name =
    or_else (of_buffers (no_buffer buffer world.groups))
    (of_nicks (nicks.remove_refusal is_group name (rows_at world buffer.0)))

abbrev pub changes_row : World → Handle → Bool → Item → Option ChangeRefused
changes_row world buffer is_group item =
    or_else (of_buffers (no_buffer buffer world.groups))
    (of_nicks (nicks.change_refusal is_group item.name (rows_at world buffer.0)))

unfoldable pub refusal_of : World → Handle → What → Option ChangeRefused
refusal_of world buffer (Add spec) = or_else
    (of_buffers (add_refusal (row_of world.next spec) spec.vars world.groups))
    (refusal_of_handles 4 world)
refusal_of world buffer Close = of_buffers (close_refusal buffer world.groups)
refusal_of world buffer (MoveTo number) = of_buffers (move_refusal buffer number world.groups)
refusal_of world buffer (MergeInto into) = of_buffers (merge_refusal buffer into world.groups)
refusal_of world buffer Unmerge = of_buffers (unmerge_refusal buffer world.groups)
refusal_of world buffer Hide = of_buffers (no_buffer buffer world.groups)
refusal_of world buffer Unhide = of_buffers (no_buffer buffer world.groups)
refusal_of world buffer (Rename name flips) =
    or_else (of_buffers (rename_refusal buffer name world.groups)) (no_line flips world)
refusal_of world buffer (ShortName name) = of_buffers (short_name_refusal buffer name world.groups)
refusal_of world buffer (Title title) = of_buffers (no_buffer buffer world.groups)
refusal_of world buffer (SetVar var) = of_buffers (set_var_refusal buffer var.name world.groups)
refusal_of world buffer (RemoveVar name) = of_buffers (remove_var_refusal buffer name world.groups)
refusal_of world buffer (Print line) = or_else (of_buffers (no_buffer buffer world.groups))
    (refusal_of_handles 2 world)
refusal_of world buffer Clear = of_buffers (no_buffer buffer world.groups)
refusal_of world buffer (Flips flips) = no_line flips world
refusal_of world buffer (AddGroup parent item) = adds_row world buffer true parent item
refusal_of world buffer (AddNick group item) = adds_row world buffer false group item
refusal_of world buffer (RemoveGroup name) = removes_row world buffer true name
refusal_of world buffer (RemoveNick name) = removes_row world buffer false name
refusal_of world buffer (ChangeGroup item) = changes_row world buffer true item
refusal_of world buffer (ChangeNick item) = changes_row world buffer false item
refusal_of world buffer (Limit limit) = None

-- why a change is refused, by the first reason that holds, but for want of memory
abbrev pub refusal : World → Change → Option ChangeRefused
refusal world change = refusal_of world change.buffer change.what

-- ---- the world after a change that is not refused

-- the lines of all buffers with the flags that flips set, one after another
abbrev pub with_flips : List Flip → List Line → List Line
with_flips flips lines = fold (λ lines (flip : Flip). set_displayed flip.content flip.displayed
    lines) lines flips

abbrev pub flip_all : List Flip → World → World
flip_all flips world = record world {
  lines =
      from_entries (map (λ e. (e.0, with_flips flips e.1)) (entries world.lines));
}

abbrev pub with_groups : World → EntryGroups → World
with_groups world groups = record world { groups = groups }

abbrev pub with_lines : World → Handle → List Line → World
with_lines world buffer lines = record world { lines = insert world.lines buffer.0 lines }

abbrev pub with_rows : World → Handle → List Row → World
with_rows world buffer rows = record world { nicks = insert world.nicks buffer.0 rows }

-- the last lines of each buffer up to a limit, from now on the limit of all
abbrev pub with_limit : ℕ → World → World
with_limit limit world = record world {
  lines =
      from_entries (map (λ e. (e.0, last_of limit e.1)) (entries world.lines));
  limit = limit;
  limit_changes = counted world.limit_changes;
}

-- an item as a row takes it: what is too long is cut
abbrev pub item_with : Handle → Item → Item
item_with handle item = record {
  handle = handle;
  is_group = item.is_group;
  visible = item.visible;
  level = item.level;
  name = item.name;
  color = cut_to 64 item.color;
  prefix = cut_to 64 item.prefix;
  prefix_color = cut_to 64 item.prefix_color;
}

-- an item that is added draws its handle, and one that is changed keeps it
abbrev pub with_row : World → Handle → Bool → List ℕ → Item → World
with_row world buffer is_group parent item =
    record (with_rows world buffer (nicks.add_row is_group parent
    (item_with (record { 0 = world.next }) item) (rows_at world buffer.0))) {
      next =
          world.next + 1;
    }

abbrev pub without_row : World → Handle → Bool → List ℕ → World
without_row world buffer is_group name = with_rows world buffer
    (remove_row (key_at is_group name) (rows_at world buffer.0))

abbrev pub handle_in : Option Row → Handle
handle_in None = record { 0 = 0 }
handle_in (Some r) = r.item.handle

abbrev pub with_changed_row : World → Handle → Key → Item → World
with_changed_row world buffer key item =
    with_rows world buffer (change_row key
    (item_with (handle_in (find_row key (rows_at world buffer.0))) item)
    (rows_at world buffer.0))

unfoldable pub after_of : World → Handle → What → World
after_of world buffer (Add spec) =
    record world {
      groups = with_buffer (row_of world.next spec) spec.vars world.groups;
      lines = insert world.lines world.next [];
      printed = insert world.printed world.next 0;
      nicks = insert world.nicks world.next [];
      next = world.next + 4;
    }
after_of world buffer Close = record world {
  groups = without_buffer buffer world.groups;
  lines = remove world.lines buffer.0;
  printed = remove world.printed buffer.0;
  nicks = remove world.nicks buffer.0;
}
after_of world buffer (MoveTo number) = with_groups world (move_group_to buffer number world.groups)
after_of world buffer (MergeInto into) = with_groups world (merge_groups buffer into world.groups)
after_of world buffer Unmerge = with_groups world (unmerge_group buffer world.groups)
after_of world buffer Hide = with_groups world (with_entry buffer (with_hidden true) world.groups)
after_of world buffer Unhide = with_groups world
    (with_entry buffer (with_hidden false) world.groups)
after_of world buffer (Rename name flips) =
    flip_all flips (with_groups world (with_entry buffer (with_full_name name) world.groups))
after_of world buffer (ShortName name) = with_groups world
    (with_entry buffer (with_short_name name) world.groups)
after_of world buffer (Title title) = with_groups world
    (with_entry buffer (with_title (cut_to 1024 title)) world.groups)
after_of world buffer (SetVar var) = with_groups world
    (with_entry buffer (with_var var.name var.value) world.groups)
after_of world buffer (RemoveVar name) = with_groups world
    (with_entry buffer (without_var name) world.groups)
after_of world buffer (Print line) =
    record (with_lines world buffer (last_of world.limit (lines_at world buffer.0
    ++ line_of (printed_at world buffer.0) world.next line ∷ []))) {
      printed = insert world.printed buffer.0 (printed_at world buffer.0 + 1);
      next = world.next + 2;
    }
after_of world buffer Clear = with_lines world buffer []
after_of world buffer (Flips flips) = flip_all flips world
after_of world buffer (AddGroup parent item) = with_row world buffer true parent item
after_of world buffer (AddNick group item) = with_row world buffer false group item
after_of world buffer (RemoveGroup name) = without_row world buffer true name
after_of world buffer (RemoveNick name) = without_row world buffer false name
after_of world buffer (ChangeGroup item) = with_changed_row world buffer
    (key_at true item.name) item
after_of world buffer (ChangeNick item) = with_changed_row world buffer
    (key_at false item.name) item
after_of world buffer (Limit limit) = with_limit limit world

abbrev pub after : World → Change → World
after world change = after_of world change.buffer change.what
