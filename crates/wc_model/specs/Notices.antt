-- What is noticed of a change.
use Rattle.std.specs.Prelude.{◌≡◌, ℕ, ◌+◌, ◌-◌, length, Bool, true, false, not, ◌==◌, Option, Some}
use Rattle.std.specs.Prelude.{None, List, [], if◌then◌else◌}
use Rattle.std.specs.Prelude.{◌∷◌, map, filter, unwrap_or, Result, Ok, Err}
use Rattle.std.specs.List.{flat_map, find as find_first}
use Rattle.wc_text.specs.declared.names.Handle.{Handle}
use Rattle.wc_lines.specs.declared.line.Line.{Line}
use Rattle.wc_buffers.specs.declared.row.BufferRow.{BufferRow}
use Rattle.wc_buffers.specs.Calls.{EntryGroups, buffer_of, entry_of, number, lacks_var}
use Rattle.wc_model.specs.declared.change.Change.{Change}
use Rattle.wc_model.specs.declared.change.What.{What}
use Rattle.wc_model.specs.declared.change.What.TheVariants.{Add, Close, MoveTo, MergeInto, Unmerge}
use Rattle.wc_model.specs.declared.change.What.TheVariants.{Hide, Unhide, Rename, ShortName, Title}
use Rattle.wc_model.specs.declared.change.What.TheVariants.{SetVar, RemoveVar, Print, Clear, Flips}
use Rattle.wc_model.specs.declared.change.What.TheVariants.{AddGroup, AddNick, RemoveGroup}
use Rattle.wc_model.specs.declared.change.What.TheVariants.{RemoveNick, ChangeGroup, ChangeNick, Limit}
use Rattle.wc_model.specs.declared.notice.EventKind.{EventKind}
use Rattle.wc_model.specs.declared.notice.EventKind.TheVariants as kind
use Rattle.wc_model.specs.declared.notice.Notice.{Notice}
use Rattle.wc_model.specs.declared.notice.Trim.{Trim}
use Rattle.wc_model.specs.declared.refused.ChangeRefused.{ChangeRefused}
use Rattle.wc_model.specs.declared.refused.ChangeRefused.TheVariants.{NoMemory}
use Rattle.wc_model.specs.World.{World, lines_at}
use Rattle.wc_model.specs.Order.{order, prev_of, next_of}
use Rattle.wc_model.specs.Apply.{refusal, after}

-- a variable that is new is added, and else changed
abbrev pub var_kind : Bool → EventKind
var_kind true = kind.VarAdded
var_kind false = kind.VarChanged

abbrev pub kind_of : World → Handle → What → EventKind
kind_of world buffer (Add spec) = kind.Opened
kind_of world buffer Close = kind.Closing
kind_of world buffer (MoveTo number) = kind.Moved
kind_of world buffer (MergeInto into) = kind.Merged
kind_of world buffer Unmerge = kind.Unmerged
kind_of world buffer Hide = kind.Hidden
kind_of world buffer Unhide = kind.Unhidden
kind_of world buffer (Rename name flips) = kind.Renamed
kind_of world buffer (ShortName name) = kind.Renamed
kind_of world buffer (Title title) = kind.TitleChanged
kind_of world buffer (SetVar var) = var_kind (lacks_var var.name (entry_of buffer world.groups))
kind_of world buffer (RemoveVar name) = kind.VarRemoved
kind_of world buffer (Print line) = kind.LineAdded
kind_of world buffer Clear = kind.Cleared
kind_of world buffer (Flips flips) = kind.LineDataChanged
kind_of world buffer (AddGroup parent item) = kind.NickTouched
kind_of world buffer (AddNick group item) = kind.NickTouched
kind_of world buffer (RemoveGroup name) = kind.NickTouched
kind_of world buffer (RemoveNick name) = kind.NickTouched
kind_of world buffer (ChangeGroup item) = kind.NickTouched
kind_of world buffer (ChangeNick item) = kind.NickTouched
kind_of world buffer (Limit limit) = kind.LimitSet

-- the buffer that is told of, and the groups in which it is told: those after the change, and
-- before it for a close
abbrev pub about : World → Handle → What → Handle
about world buffer (Add spec) = record { 0 = world.next }
about world buffer (Flips flips) = record { 0 = 0 }
about world buffer (Limit limit) = record { 0 = 0 }
about world buffer _ = buffer

abbrev pub told_groups : World → World → What → EntryGroups
told_groups before following Close = before.groups
told_groups before following _ = following.groups

-- the own handle of the printed line
abbrev pub printed_handle : World → What → List Handle
printed_handle world (Print line) = record { 0 = world.next } ∷ []
printed_handle world _ = []

-- ---- the lines whose flag differs

abbrev pub bool_eq : Bool → Bool → Bool
bool_eq true b = b
bool_eq false b = not b

abbrev pub same_flag : Line → Option Line → Bool
same_flag line None = true
same_flag line (Some other) = bool_eq line.displayed other.displayed

-- whether a line is in both and its flag differs
abbrev pub is_flipped : List Line → Line → Bool
is_flipped before line = not
    (same_flag line (find_first (λ other. other.content.0 == line.content.0) before))

abbrev pub flips_in : List Line → List Line → List Handle
flips_in before following = map (λ (line : Line). line.content)
    (filter (is_flipped before) following)

abbrev pub flips_between : World → World → List Handle
flips_between before following = flat_map (λ buffer. flips_in (lines_at before buffer)
    (lines_at following buffer)) (order following.groups)

-- ---- the lines that went, since as many were held as may be

-- none where no line went
abbrev pub trim_of : Handle → ℕ → List Trim
trim_of buffer count =
    if count == 0 then [] else record { buffer = buffer; count = count } ∷ []

-- of a buffer that holds so many lines at most from now on
abbrev pub trim_to : ℕ → World → ℕ → List Trim
trim_to limit world buffer = trim_of (record { 0 = buffer })
    (length (lines_at world buffer) - limit)

-- A line that is printed puts out the oldest where as many as may be are held, and a lower limit those
-- above it. Lines that are taken by a clear or with their buffer did not go so.
abbrev pub trims_of : World → Handle → What → List Trim
trims_of world buffer (Print line) = trim_of buffer
    (length (lines_at world buffer.0) + 1 - world.limit)
trims_of world buffer (Limit limit) = flat_map (trim_to limit world) (order world.groups)
trims_of world buffer _ = []

-- ---- the notice

abbrev pub name_in : Option BufferRow → List ℕ
name_in None = []
name_in (Some row) = row.full_name

-- what is noticed of a buffer in these groups; of the null handle nothing is told
abbrev pub notice_with : EventKind → Handle → EntryGroups → List Handle → List Handle → List Trim →
    Notice
notice_with kind buffer groups lines flips trims = record {
  kind = kind;
  buffer = buffer;
  number = unwrap_or (number buffer groups) 0;
  full_name = name_in (buffer_of buffer groups);
  prev = record { 0 = prev_of buffer.0 groups };
  next = record { 0 = next_of buffer.0 groups };
  lines = lines;
  flips = flips;
  trims = trims;
}

-- the same of a change for which no line went
abbrev pub notice_at : EventKind → Handle → EntryGroups → List Handle → List Handle → Notice
notice_at kind buffer groups lines flips = notice_with kind buffer groups lines flips []

abbrev pub notice_of : World → World → Handle → What → Notice
notice_of before following buffer what =
    notice_with (kind_of before buffer what) (about before buffer what)
    (told_groups before following what) (printed_handle before what)
    (flips_between before following) (trims_of before buffer what)

abbrev pub notice : World → Change → Notice
notice world change = notice_of world (after world change) change.buffer change.what

-- what a change comes to: it is refused, and the world is as it was, or it is made
pub record Accepted (before : World) (change : Change) (following : World) (told : Notice) :
    Type 0 where
  pub accepted : refusal before change ≡ None
  pub after : following ≡ after before change
  pub notice : told ≡ notice before change

abbrev pub Outcome : World → Change → World → Result Notice ChangeRefused → Type 0
Outcome before change following (Ok told) = Accepted before change following told
Outcome before change following (Err NoMemory) = following ≡ before
Outcome before change following (Err reason) = (following ≡ before)
    × (refusal before change ≡ Some reason)
