-- What a client has of the nicklists of a world.
use Rattle.std.specs.Prelude.{◌≡◌, ℕ, ◌^◌, ◌-◌, ◌<◌, ◌≤◌, true, List, Option, Some, None}
use Rattle.std.specs.Prelude.{Result, Ok, is_some}
use Rattle.std.specs.List.{AllByRecursion}
use Rattle.std.specs.FinMap.{get, insert}
use Rattle.wc_text.specs.declared.names.Handle.{Handle}
use Rattle.wc_nicklist.specs.declared.item.Row.{Row}
use Rattle.wc_nicklist.specs.Rows.{IsRows}
use Rattle.wc_nickdiff.specs.NickPush.{nick_push}
use Rattle.wc_buffers.specs.Groups.{has, times}
use Rattle.wc_buffers.specs.Calls.{handle_of}
use Rattle.wc_model.specs.declared.change.Change.{Change}
use Rattle.wc_model.specs.World.{World, rows_at}
use Rattle.wc_model.specs.Apply.{refusal, after}
use Rattle.wc_model.specs.Notices.{notice}
use Rattle.wc_model.specs.Parts.{flag_part, trim_part}
use Rattle.wc_model.specs.declared.notice.Trim.{Trim}
use Rattle.wc_model.specs.Touches.{told_after}
use Rattle.wc_objects.specs.declared.object.WireMessage.{WireMessage}
use Rattle.wc_events.specs.BufferObjects.{event_of}
use Rattle.wc_events.specs.NickObjects.{nick_dump, push_message}
use Rattle.wc_view.specs.Ids.{IsFree}
use Rattle.wc_view.specs.NickFold.{NickPart, fold_nicks}

-- the dump was taken, and these are the rows of each buffer
abbrev pub HasNicks : Result (Option NickPart) ℕ → NickPart → Type 0
HasNicks part rows = part ≡ Ok (Some rows)

-- a level is told by a number of the protocol
abbrev pub IsTellable : Row → Type 0
IsTellable r = r.item.level ≤ 2 ^ 31 - 1

-- rows that a nicklist can hold, and that can be told
pub record AreTellable (rows : List Row) : Type 0 where
  pub held : IsRows rows
  pub levels : AllByRecursion IsTellable rows

-- What always holds of the nicklists of a world: each buffer that is there has one, and nothing
-- else has; no buffer is there twice, and the handles of buffers were drawn.
pub record HasLists (world : World) : Type 0 where
  pub once : (buffer : ℕ) → times handle_of buffer world.groups ≤ 1
  pub drawn : (buffer : ℕ) → has handle_of buffer world.groups ≡ true → buffer < world.next
  pub stored : (buffer : ℕ) → is_some (get world.nicks buffer) ≡ has handle_of buffer world.groups
  pub rows : (buffer : ℕ) → AreTellable (rows_at world buffer)

-- the reply to `nicklist`
abbrev pub nick_reply : List ℕ → World → WireMessage
nick_reply id world = record { id = id; objects = nick_dump world }

-- After the reply a client has the nicklists of the world, whatever it had before.
abbrev pub NickDumpShows : Type 0
NickDumpShows = (id : List ℕ) (part : Option NickPart) (world : World) → HasLists world →
    HasNicks (fold_nicks id part (nick_reply id world)) world.nicks

-- the nicklists after an event, where there is one
abbrev pub fold_told_nicks : List ℕ → Option NickPart → Option WireMessage →
    Result (Option NickPart) ℕ
fold_told_nicks id part None = Ok part
fold_told_nicks id part (Some message) = fold_nicks id part message

-- After the event of a change a client that had the rows that were told has those that are told
-- after it: a buffer that came has none, and one that went is gone.
abbrev pub NickNoticeShows : Type 0
NickNoticeShows = (id : List ℕ) (told : NickPart) (world : World) (change : Change)
    → HasLists world → ((buffer : ℕ) → is_some (get told buffer) ≡ is_some (get world.nicks buffer))
    → IsFree id → refusal world change ≡ None
    → HasNicks (fold_told_nicks id (Some told)
    (event_of (after world change) (notice world change)))
    (told_after world change.buffer change.what told)

-- After a push a client that had the rows that were told of a buffer has those of now.
abbrev pub PushShows : Type 0
PushShows = (id : List ℕ) (told : NickPart) (root buffer : Handle) (before now : List Row)
    → IsFree id → get told buffer.0 ≡ Some before → AreTellable before → AreTellable now
    → HasNicks (fold_told_nicks id (Some told) (push_message buffer (nick_push root before now)))
    (insert told buffer.0 now)

-- The event of lines that went changes no nicklists.
abbrev pub NickTrimShows : Type 0
NickTrimShows = (id : List ℕ) (part : Option NickPart) (world : World) (trim : Trim) →
    IsFree id → fold_told_nicks id part (event_of world (trim_part trim)) ≡ Ok part

-- Nor does that of lines whose flags differ.
abbrev pub NickFlagShows : Type 0
NickFlagShows = (id : List ℕ) (part : Option NickPart) (world : World) (flips : List Handle)
    (buffer : ℕ)
    → IsFree id → fold_told_nicks id part (event_of world (flag_part flips buffer)) ≡ Ok part
