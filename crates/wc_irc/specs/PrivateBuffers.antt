-- The private buffers of a server, and how many of them messages may open.
use Rattle.std.specs.Prelude.{ℕ, Bool, false, ◌&&◌, nat_lt, nat_le, List, length, filter, codes}
use Rattle.std.specs.Prelude.{Option, Some, None}
use Rattle.wc_buffers.specs.declared.row.BufferEntry.{BufferEntry}
use Rattle.wc_buffers.specs.Calls.{EntryGroups}
use Rattle.wc_buffers.specs.Groups.{rows}
use Rattle.wc_irc.specs.Servers.{ServerState}
use Rattle.wc_irc.specs.TalkActs.{has_var}

-- the buffer of a nick of this server, by its variables
abbrev pub is_private_of : ServerState → BufferEntry → Bool
is_private_of s buffer = has_var (codes "server") s.name buffer
    && has_var (codes "type") (codes "private") buffer

abbrev pub private_buffers : EntryGroups → ServerState → List BufferEntry
private_buffers groups s = filter (is_private_of s) (rows groups)

-- whether so many are there as messages may open; as many as there may be buffers in all are no
-- bound
unfoldable pub is_full : EntryGroups → ServerState → Bool
is_full groups s = nat_lt s.private_max 256
    && nat_le s.private_max (length (private_buffers groups s))

-- whether a message would open one too many, where this is the full name of the private buffer of
-- its nick, if it is there
abbrev pub opens_too_many : EntryGroups → ServerState → Option (List ℕ) → Bool
opens_too_many groups s None = is_full groups s
opens_too_many groups s (Some buffer) = false
