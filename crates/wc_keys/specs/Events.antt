-- The events of WeeChat's relay protocol.
use Rattle.std.specs.Prelude.{ℕ, List, codes}
use Rattle.wc_model.specs.declared.notice.EventKind.{EventKind}
use Rattle.wc_model.specs.declared.notice.EventKind.TheVariants as kind
use Rattle.wc_keys.specs.declared.events.Asked.{Asked}
use Rattle.wc_keys.specs.declared.events.Asked.TheVariants as asked
use Rattle.wc_keys.specs.declared.key.KeyList.{KeyList}
use Rattle.wc_keys.specs.declared.key.KeyList.TheVariants as l

-- the paths of what is told of a buffer, a line, a group or a nick, and of the dump of lines
abbrev pub buffer_path : List ℕ
buffer_path = codes "buffer"

abbrev pub line_path : List ℕ
line_path = codes "line_data"

abbrev pub nick_path : List ℕ
nick_path = codes "buffer/nicklist_item"

abbrev pub lines_path : List ℕ
lines_path = codes "buffer/lines/line/line_data"

-- the id under which each event is told, the path of its items, their keys, and the options of `sync`
-- of which it needs one
abbrev pub event_row : EventKind → List ℕ × List ℕ × KeyList × Asked
event_row kind.Opened = (codes "_buffer_opened", buffer_path, l.Opened, asked.Buffers)
event_row kind.Moved = (codes "_buffer_moved", buffer_path, l.Placed, asked.Either)
event_row kind.Merged = (codes "_buffer_merged", buffer_path, l.Placed, asked.Either)
event_row kind.Unmerged = (codes "_buffer_unmerged", buffer_path, l.Placed, asked.Either)
event_row kind.Hidden = (codes "_buffer_hidden", buffer_path, l.Placed, asked.Either)
event_row kind.Unhidden = (codes "_buffer_unhidden", buffer_path, l.Placed, asked.Either)
event_row kind.Renamed = (codes "_buffer_renamed", buffer_path, l.Renamed, asked.Either)
event_row kind.TitleChanged = (codes "_buffer_title_changed", buffer_path, l.Titled, asked.Buffer)
event_row kind.VarAdded = (codes "_buffer_localvar_added", buffer_path, l.Variables, asked.Buffer)
event_row kind.VarChanged = (codes "_buffer_localvar_changed", buffer_path, l.Variables, asked.Buffer)
event_row kind.VarRemoved = (codes "_buffer_localvar_removed", buffer_path, l.Variables, asked.Buffer)
event_row kind.Cleared = (codes "_buffer_cleared", buffer_path, l.Named, asked.Buffer)
event_row kind.Closing = (codes "_buffer_closing", buffer_path, l.Named, asked.Either)
event_row kind.LineAdded = (codes "_buffer_line_added", line_path, l.LineData, asked.Buffer)
event_row kind.LineDataChanged = (codes "_buffer_line_data_changed", line_path, l.Flags, asked.Buffer)
event_row kind.Nicklist = (codes "_nicklist", nick_path, l.Nicks, asked.Nicklist)
event_row kind.NicklistDiff = (codes "_nicklist_diff", nick_path, l.Diff, asked.Nicklist)
event_row kind.NickTouched = (codes "", nick_path, l.Nicks, asked.Nothing)
event_row kind.LimitSet = (codes "", buffer_path, l.Named, asked.Nothing)
event_row kind.LinesTrimmed = (codes "_buffer_lines_trimmed", buffer_path, l.Trimmed, asked.Trims)

abbrev pub id_of : EventKind → List ℕ
id_of kind = (event_row kind).0

abbrev pub path_of : EventKind → List ℕ
path_of kind = (event_row kind).1

abbrev pub list_of : EventKind → KeyList
list_of kind = (event_row kind).2

abbrev pub asked_of : EventKind → Asked
asked_of kind = (event_row kind).3
