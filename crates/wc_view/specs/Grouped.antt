-- The buffers of a client in groups, and what events make of them.
use Rattle.std.specs.Prelude.{ℕ, ◌-◌, ◌==◌, true, false, not, ◌&&◌, nat_lt, nat_le, List, [], ◌∷◌}
use Rattle.std.specs.Prelude.{◌++◌, map, length, if◌then◌else◌}
use Rattle.std.specs.List.{flat_map}
use Rattle.wc_buffers.specs.Groups.{has, take_out, pick, others, move_group, unmerge}
use Rattle.wc_model.specs.declared.notice.EventKind.{EventKind}
use Rattle.wc_model.specs.declared.notice.EventKind.TheVariants as event
use Rattle.wc_view.specs.declared.mirror_buffer.MirrorBuffer.{MirrorBuffer}
use Rattle.wc_view.specs.declared.told_buffer.ToldBuffer.{ToldBuffer}

abbrev pub MirrorGroups : Type 0
MirrorGroups = List (List MirrorBuffer)

abbrev pub key_of : MirrorBuffer → ℕ
key_of b = b.handle.0

-- others right after a buffer
abbrev pub with_after : ℕ → List MirrorBuffer → MirrorBuffer → List MirrorBuffer
with_after h new b = if key_of b == h then b ∷ new else b ∷ []

abbrev pub insert_after : ℕ → List MirrorBuffer → List MirrorBuffer → List MirrorBuffer
insert_after h new group = flat_map (with_after h new) group

abbrev pub put_after : ℕ → List MirrorBuffer → MirrorGroups → MirrorGroups
put_after h new groups = map (insert_after h new) groups

abbrev pub open_buffer_in : MirrorBuffer → MirrorGroups → MirrorGroups
open_buffer_in b groups = if has key_of (key_of b) groups then groups else groups ++ (b ∷ []) ∷ []

-- a place that is not there changes nothing
abbrev pub move_group_at : ℕ → ℕ → MirrorGroups → MirrorGroups
move_group_at h number groups =
    if nat_lt 0 number && nat_le (number - 1) (length (others key_of h groups))
    then move_group key_of h (number - 1) groups else groups

-- and neither does one that is no other held buffer
abbrev pub merge_groups_at : ℕ → ℕ → MirrorGroups → MirrorGroups
merge_groups_at h prev groups =
    if not (prev == h) && has key_of prev groups then put_after prev (pick key_of h groups)
    (take_out key_of h groups) else groups

-- a buffer with the values that are told of it
abbrev pub with_told : EventKind → MirrorBuffer → MirrorBuffer → MirrorBuffer
with_told event.Hidden told b = record b { hidden = true }
with_told event.Unhidden told b = record b { hidden = false }
with_told event.Renamed told b = record b {
  full_name = told.full_name;
  short_name = told.short_name;
  vars = told.vars;
}
with_told event.TitleChanged told b = record b { full_name = told.full_name; title = told.title }
with_told event.VarAdded told b = record b { full_name = told.full_name; vars = told.vars }
with_told event.VarChanged told b = record b { full_name = told.full_name; vars = told.vars }
with_told event.VarRemoved told b = record b { full_name = told.full_name; vars = told.vars }
with_told _ told b = b

abbrev pub told_or_same : EventKind → MirrorBuffer → MirrorBuffer → MirrorBuffer
told_or_same kind told b = if key_of b == key_of told then with_told kind told b else b

abbrev pub told_group : EventKind → MirrorBuffer → List MirrorBuffer → List MirrorBuffer
told_group kind told group = map (told_or_same kind told) group

-- the buffer that is told of, wherever it is, so changed
abbrev pub told_update : EventKind → MirrorBuffer → MirrorGroups → MirrorGroups
told_update kind told groups = map (told_group kind told) groups

-- the groups after an event of a buffer that is held
unfoldable pub with_edit : EventKind → ToldBuffer → MirrorGroups → MirrorGroups
with_edit event.Closing told groups = take_out key_of (key_of told.buffer) groups
with_edit event.Moved told groups = move_group_at (key_of told.buffer) told.number groups
with_edit event.Merged told groups = merge_groups_at (key_of told.buffer) told.prev groups
with_edit event.Unmerged told groups = unmerge key_of (key_of told.buffer) groups
with_edit kind told groups = told_update kind told.buffer groups

-- an opening of a buffer that is held changes nothing, and neither does another event of one that
-- is not
abbrev pub with_event : EventKind → ToldBuffer → MirrorGroups → MirrorGroups
with_event event.Opened told groups = open_buffer_in told.buffer groups
with_event kind told groups = if has key_of (key_of told.buffer) groups then with_edit kind told groups
    else groups
