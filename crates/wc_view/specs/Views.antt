-- What a client has of the lines of a world.
use Rattle.std.specs.Prelude.{◌≡◌, ℕ, ◌^◌, ◌-◌, ◌<◌, ◌≤◌, nat_le, true, false, List, []}
use Rattle.std.specs.Prelude.{length, map, fold, Option, None, Some, if◌then◌else◌, ◌∷◌}
use Rattle.std.specs.List.{filter_map}
use Rattle.wc_lines.specs.declared.line.Line.{Line}
use Rattle.wc_lines.specs.Ring.{has_content}
use Rattle.wc_buffers.specs.Groups.{has, times}
use Rattle.wc_buffers.specs.Calls.{handle_of}
use Rattle.wc_model.specs.declared.change.Change.{Change}
use Rattle.wc_model.specs.World.{World, lines_at as lines_in}
use Rattle.wc_model.specs.Apply.{refusal, after}
use Rattle.wc_model.specs.Notices.{notice}
use Rattle.wc_model.specs.Parts.{flag_parts, parts_of}
use Rattle.wc_model.specs.declared.notice.Notice.{Notice}
use Rattle.wc_objects.specs.declared.object.WireMessage.{WireMessage}
use Rattle.wc_events.specs.LineObjects.{line_dump}
use Rattle.wc_events.specs.BufferObjects.{event_of}
use Rattle.wc_view.specs.declared.mirror_buffer.MirrorLine.{MirrorLine}
use Rattle.wc_view.specs.Ids.{IsFree}
use Rattle.wc_view.specs.Parts.{Part, lines_at}
use Rattle.wc_view.specs.Fold.{fold_lines}

-- a date, which counts as the greatest that a message may hold where it is greater
abbrev pub shown_date : ℕ → ℕ
shown_date date = if nat_le date (2 ^ 63 - 1) then date else 2 ^ 63 - 1

-- a number, which counts as the greatest that a message may hold where it is greater
abbrev pub shown_number : ℕ → ℕ
shown_number number = if nat_le number (2 ^ 31 - 1) then number else 2 ^ 31 - 1

-- a line without its own handle
abbrev pub shown_line : Line → MirrorLine
shown_line line = record {
  content = line.content;
  id = shown_number line.id;
  date = shown_date line.date;
  usec = shown_number line.usec;
  date_printed = shown_date line.date_printed;
  usec_printed = shown_number line.usec_printed;
  displayed = line.displayed;
  notify = line.notify;
  highlight = line.highlight;
  tags = line.tags;
  prefix = line.prefix;
  message = line.message;
}

abbrev pub view_of : List Line → List MirrorLine
view_of lines = map shown_line lines

-- the dump was taken, and the buffer's lines are these
abbrev pub HasLines : Option Part → ℕ → List Line → Type 0
HasLines None buffer lines = ⊥
HasLines (Some held) buffer lines = lines_at held buffer ≡ view_of lines

-- the same of each buffer of a world, and of each other handle that it has no lines
abbrev pub HasAll : Option Part → World → Type 0
HasAll part world = (buffer : ℕ) → HasLines part buffer (lines_in world buffer)

-- What always holds of a world: no buffer is there twice, the handles of buffers were drawn, a
-- buffer holds no more lines than the limit, which is one that the world may have, and one that is
-- not there holds none.
pub record IsMirrorable (world : World) : Type 0 where
  pub once : (buffer : ℕ) → times handle_of buffer world.groups ≤ 1
  pub drawn : (buffer : ℕ) → has handle_of buffer world.groups ≡ true → buffer < world.next
  pub within : (buffer : ℕ) → length (lines_in world buffer) ≤ world.limit
  pub most : world.limit ≤ 4096
  pub gone : (buffer : ℕ) → has handle_of buffer world.groups ≡ false → lines_in world buffer ≡ []

-- the reply to the line dump
abbrev pub reply : List ℕ → World → WireMessage
reply id world = record { id = id; objects = line_dump world }

-- where a client keeps a limit of its own it is that of the world
abbrev pub Suits : Option ℕ → World → Type 0
Suits None world = Unit {0}
Suits (Some limit) world = world.limit ≡ limit

-- After the reply a client has the lines of the world, whatever it had before.
abbrev pub DumpShows : Type 0
DumpShows = (limit : Option ℕ) (id : List ℕ) (part : Option Part) (world : World) →
    IsMirrorable world → Suits limit world
    → HasAll (fold_lines limit id part (reply id world)) world

-- the lines after one message and another
abbrev pub fold_all : Option ℕ → List ℕ → Option Part → List WireMessage → Option Part
fold_all limit id part messages = fold (fold_lines limit id) part messages

-- The parts of a notice that a client asked for: all of them, or where it keeps a limit of its own
-- those that are not of lines that went.
abbrev pub heard_parts : Option ℕ → World → Notice → List Notice
heard_parts None world notice = parts_of world notice
heard_parts (Some limit) world notice = notice ∷ flag_parts world notice.flips

-- the events of these, where there are such
abbrev pub part_events : World → List Notice → List WireMessage
part_events world parts = filter_map (event_of world) parts

-- the events of a change of a world
abbrev pub change_events : Option ℕ → World → Change → List WireMessage
change_events limit world change = part_events (after world change)
    (heard_parts limit (after world change) (notice world change))

-- no two lines have one content
abbrev pub ContentsDiffer : List Line → Type 0
ContentsDiffer [] = Unit {0}
ContentsDiffer (line ∷ lines) = (has_content line.content lines ≡ false) × ContentsDiffer lines

-- After the events of a change a client that had the lines of the world has those of the world after
-- it: without a limit of its own, or with that of the world before and after.
abbrev pub NoticeShows : Type 0
NoticeShows = (limit : Option ℕ) (id : List ℕ) (part : Option Part) (world : World) (change : Change)
    → IsMirrorable world → Suits limit world → Suits limit (after world change) → IsFree id →
    refusal world change ≡ None
    → ((buffer : ℕ) → ContentsDiffer (lines_in (after world change) buffer)) → HasAll part world
    → HasAll (fold_all limit id part (change_events limit world change)) (after world change)
