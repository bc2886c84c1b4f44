-- What a client has of the buffers of a world.
use Rattle.std.specs.Prelude.{◌≡◌, ℕ, ◌^◌, ◌-◌, ◌<◌, ◌≤◌, true, List, length, map, Option}
use Rattle.std.specs.Prelude.{Some, None}
use Rattle.wc_text.specs.declared.names.Handle.{Handle}
use Rattle.wc_buffers.specs.declared.row.BufferEntry.{BufferEntry}
use Rattle.wc_buffers.specs.Groups.{AllFilled, has, times}
use Rattle.wc_buffers.specs.Calls.{handle_of}
use Rattle.wc_model.specs.declared.change.Change.{Change}
use Rattle.wc_model.specs.World.{World}
use Rattle.wc_model.specs.Apply.{refusal, after}
use Rattle.wc_model.specs.Notices.{notice}
use Rattle.wc_model.specs.Parts.{flag_part, trim_part}
use Rattle.wc_model.specs.declared.notice.Trim.{Trim}
use Rattle.wc_objects.specs.declared.object.WireMessage.{WireMessage}
use Rattle.wc_events.specs.BufferObjects.{event_of, buffer_dump}
use Rattle.wc_view.specs.declared.mirror_buffer.MirrorBuffer.{MirrorBuffer}
use Rattle.wc_view.specs.Ids.{IsFree}
use Rattle.wc_view.specs.Grouped.{MirrorGroups}
use Rattle.wc_view.specs.BufferFold.{fold_buffers}

abbrev pub shown_buffer : BufferEntry → MirrorBuffer
shown_buffer e = record {
  handle = e.row.handle;
  full_name = e.row.full_name;
  short_name = e.row.short_name;
  title = e.row.title;
  hidden = e.row.hidden;
  vars = e.vars;
}

abbrev pub shown_groups : List (List BufferEntry) → MirrorGroups
shown_groups groups = map (map shown_buffer) groups

-- the dump was taken, and the groups are those of the world
abbrev pub HasBuffers : Option MirrorGroups → World → Type 0
HasBuffers part world = part ≡ Some (shown_groups world.groups)

-- What always holds of the groups of a world: no buffer is there twice, the handles were drawn, no
-- group is empty, and they are no more than a number of the protocol can count.
pub record AreGrouped (world : World) : Type 0 where
  pub once : (buffer : ℕ) → times handle_of buffer world.groups ≤ 1
  pub drawn : (buffer : ℕ) → has handle_of buffer world.groups ≡ true → buffer < world.next
  pub filled : AllFilled world.groups
  pub few : length world.groups ≤ 2 ^ 31 - 1

abbrev pub dump_reply : List ℕ → World → WireMessage
dump_reply id world = record { id = id; objects = buffer_dump world.groups }

-- After the reply to the buffer dump a client has the buffers of the world in their groups,
-- whatever it had before.
abbrev pub BufferDumpShows : Type 0
BufferDumpShows = (id : List ℕ) (part : Option MirrorGroups) (world : World) → AreGrouped world →
    HasBuffers (fold_buffers id part (dump_reply id world)) world

-- the buffers after an event, where there is one
abbrev pub fold_told_buffers : List ℕ → Option MirrorGroups → Option WireMessage →
    Option MirrorGroups
fold_told_buffers id part None = part
fold_told_buffers id part (Some message) = fold_buffers id part message

-- After the event of a change a client that had the buffers of the world has those of the world
-- after it.
abbrev pub BufferNoticeShows : Type 0
BufferNoticeShows = (id : List ℕ) (part : Option MirrorGroups) (world : World) (change : Change)
    → AreGrouped world → IsFree id → refusal world change ≡ None → HasBuffers part world
    → HasBuffers (fold_told_buffers id part (event_of (after world change) (notice world change)))
    (after world change)

-- The event of lines that went changes no buffers.
abbrev pub BufferTrimShows : Type 0
BufferTrimShows = (id : List ℕ) (part : Option MirrorGroups) (world : World) (trim : Trim) →
    IsFree id → fold_told_buffers id part (event_of world (trim_part trim)) ≡ part

-- Nor does that of lines whose flags differ.
abbrev pub BufferFlagShows : Type 0
BufferFlagShows = (id : List ℕ) (part : Option MirrorGroups) (world : World) (flips : List Handle)
    (buffer : ℕ)
    → IsFree id → fold_told_buffers id part (event_of world (flag_part flips buffer)) ≡ part
