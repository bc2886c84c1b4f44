-- What a change tells of the rows that it touches.
use Rattle.std.specs.Prelude.{ℕ, true, false, Option, Some, None, List, []}
use Rattle.std.specs.FinMap.{FinMap, insert, remove}
use Rattle.std.specs.Ordering.{nat_cmp}
use Rattle.wc_text.specs.declared.names.Handle.{Handle}
use Rattle.wc_nicklist.specs.declared.item.Key.{Key}
use Rattle.wc_nicklist.specs.declared.item.Row.{Row}
use Rattle.wc_nicklist.specs.Order.{key_at}
use Rattle.wc_nicklist.specs.Rows.{find_row}
use Rattle.wc_nicklist.specs.Touched.{first_touch}
use Rattle.wc_model.specs.declared.change.What.{What}
use Rattle.wc_model.specs.declared.change.What.TheVariants.{Add, Close, AddGroup, AddNick}
use Rattle.wc_model.specs.declared.change.What.TheVariants.{RemoveGroup, RemoveNick, ChangeGroup}
use Rattle.wc_model.specs.declared.change.What.TheVariants.{ChangeNick}
use Rattle.wc_model.specs.World.{World, rows_at}

-- the key of the group or nick that a change is about
abbrev pub touched_key : What → Option Key
touched_key (AddGroup parent item) = Some (key_at true item.name)
touched_key (AddNick group item) = Some (key_at false item.name)
touched_key (RemoveGroup name) = Some (key_at true name)
touched_key (RemoveNick name) = Some (key_at false name)
touched_key (ChangeGroup item) = Some (key_at true item.name)
touched_key (ChangeNick item) = Some (key_at false item.name)
touched_key _ = None

-- the rows that were at the first touches, once a key is touched as well
abbrev pub touched_at : World → Handle → Option Key → (Handle → Key → Option (Option Row)) → Handle
    → Key → Option (Option Row)
touched_at world buffer None first b k = first b k
touched_at world buffer (Some key) first b k = first_touch buffer key
    (find_row key (rows_at world buffer.0)) first b k

-- the same of an accepted change, which touches the row of its key before it is made
abbrev pub touched_by : World → Handle → What → (Handle → Key → Option (Option Row)) → Handle → Key
    → Option (Option Row)
touched_by world buffer what first b k = touched_at world buffer (touched_key what) first b k

-- the rows that were last told of each buffer, after a change: none of a buffer that came, and
-- nothing of one that went
abbrev pub told_after : World → Handle → What → FinMap nat_cmp (List Row) →
    FinMap nat_cmp (List Row)
told_after world buffer (Add spec) told = insert told world.next []
told_after world buffer Close told = remove told buffer.0
told_after world buffer _ told = told
