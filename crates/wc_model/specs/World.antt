-- The world: its buffers in groups, with the lines and the nicklist of each.
use Rattle.std.specs.Prelude.{ℕ, ◌+◌, ◌^◌, List, [], ◌∷◌, length, unwrap_or, codes, false}
use Rattle.std.specs.FinMap.{FinMap, get, insert, empty, entries}
use Rattle.std.specs.Ordering.{nat_cmp}
use Rattle.wc_text.specs.declared.names.Handle.{Handle}
use Rattle.wc_lines.specs.declared.line.Line.{Line}
use Rattle.wc_nicklist.specs.declared.item.Row.{Row}
use Rattle.wc_buffers.specs.Calls.{EntryGroups, with_buffer}
use Rattle.wc_buffers.specs.declared.row.BufferRow.{BufferRow}

pub record World : Type 0 where
  pub groups : EntryGroups
  -- the lines that each buffer holds, from the oldest, by the buffer's handle
  pub lines : FinMap nat_cmp (List Line)
  -- how many lines were ever printed in each buffer, by the buffer's handle
  pub printed : FinMap nat_cmp ℕ
  -- the rows of each buffer's nicklist in canonical order, by the buffer's handle
  pub nicks : FinMap nat_cmp (List Row)
  -- how many lines a buffer holds at most, and how often that was changed
  pub limit : ℕ
  pub limit_changes : ℕ
  -- the next handle
  pub next : ℕ

-- a buffer that is not there has no lines
abbrev pub lines_at : World → ℕ → List Line
lines_at world buffer = unwrap_or (get world.lines buffer) []

-- and none was printed in it
abbrev pub printed_at : World → ℕ → ℕ
printed_at world buffer = unwrap_or (get world.printed buffer) 0

-- and no rows
abbrev pub rows_at : World → ℕ → List Row
rows_at world buffer = unwrap_or (get world.nicks buffer) []

-- the root group of a buffer has the fourth of the handles that the buffer drew
abbrev pub root_at : ℕ → Handle
root_at buffer = record { 0 = buffer + 3 }

-- the rows of all nicklists
abbrev pub count_rows : List (ℕ × List Row) → ℕ
count_rows [] = 0
count_rows (e ∷ es) = length e.1 + count_rows es

abbrev pub row_count : World → ℕ
row_count world = count_rows (entries world.nicks)

abbrev pub core_row : BufferRow
core_row = record {
  handle = record { 0 = 1 };
  own_lines = record { 0 = 2 };
  mixed_lines = record { 0 = 3 };
  full_name = codes "core.weechat";
  short_name = codes "weechat";
  title = codes "WeeChat headless";
  hidden = false;
}

-- the core buffer alone, which has the handles 1 to 4
abbrev pub first_world : ℕ → World
first_world limit = record {
  groups = with_buffer core_row [] [];
  lines = insert empty 1 [];
  printed = insert empty 1 0;
  nicks = insert empty 1 [];
  limit = limit;
  limit_changes = 0;
  next = 5;
}

-- handles are numbers up to this one
abbrev pub last_handle : ℕ
last_handle = 2 ^ 62

-- all nicklists together have so many rows at most
abbrev pub row_limit : ℕ
row_limit = 1048576
