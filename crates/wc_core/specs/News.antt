-- What becomes of the hotlist.
use Rattle.std.specs.Prelude.{List, []}
use Rattle.wc_text.specs.declared.names.Handle.{Handle}
use Rattle.wc_hotlist.specs.declared.row.HotRow.{HotRow}
use Rattle.wc_hotlist.specs.Kept.{rows_with, rows_without}
use Rattle.wc_model.specs.declared.change.What.{What}
use Rattle.wc_model.specs.declared.change.What.TheVariants.{Add, Close, MoveTo, MergeInto, Unmerge}
use Rattle.wc_model.specs.declared.change.What.TheVariants.{Hide, Unhide, Rename, ShortName, Title}
use Rattle.wc_model.specs.declared.change.What.TheVariants.{SetVar, RemoveVar, Print, Clear, Flips}
use Rattle.wc_model.specs.declared.change.What.TheVariants.{AddGroup, AddNick, RemoveGroup}
use Rattle.wc_model.specs.declared.change.What.TheVariants.{RemoveNick, ChangeGroup, ChangeNick, Limit}
use Rattle.wc_core.specs.declared.typed_hotlist.HotlistUse.{HotlistUse}
use Rattle.wc_core.specs.declared.typed_hotlist.HotlistUse.TheVariants as hotlist
use Rattle.wc_core.specs.declared.core_hotlist.News.{News}
use Rattle.wc_core.specs.declared.core_hotlist.News.TheVariants as news

-- the rows after a change of a buffer that was made: a line that was printed may count, and a buffer
-- that was closed has no row
unfoldable pub hotlist_after : List HotRow → Handle → What → List HotRow
hotlist_after rows buffer (Print line) = rows_with rows buffer line.notify line.displayed
hotlist_after rows buffer Close = rows_without buffer rows
hotlist_after rows buffer (Add spec) = rows
hotlist_after rows buffer (MoveTo number) = rows
hotlist_after rows buffer (MergeInto into) = rows
hotlist_after rows buffer Unmerge = rows
hotlist_after rows buffer Hide = rows
hotlist_after rows buffer Unhide = rows
hotlist_after rows buffer (Rename name flips) = rows
hotlist_after rows buffer (ShortName name) = rows
hotlist_after rows buffer (Title title) = rows
hotlist_after rows buffer (SetVar var) = rows
hotlist_after rows buffer (RemoveVar name) = rows
hotlist_after rows buffer Clear = rows
hotlist_after rows buffer (Flips flips) = rows
hotlist_after rows buffer (AddGroup parent item) = rows
hotlist_after rows buffer (AddNick group item) = rows
hotlist_after rows buffer (RemoveGroup name) = rows
hotlist_after rows buffer (RemoveNick name) = rows
hotlist_after rows buffer (ChangeGroup item) = rows
hotlist_after rows buffer (ChangeNick item) = rows
hotlist_after rows buffer (Limit limit) = rows

-- the rows after what was read of a change
abbrev pub rows_after : List HotRow → News → List HotRow
rows_after rows news.Nothing = rows
rows_after rows (news.Line buffer notify displayed) = rows_with rows buffer notify displayed
rows_after rows (news.Closed buffer) = rows_without buffer rows

-- the rows after a command that was typed into a buffer
abbrev pub rows_used : HotlistUse → Handle → List HotRow → List HotRow
rows_used hotlist.Clear buffer rows = []
rows_used hotlist.Remove buffer rows = rows_without buffer rows
