-- The buffers of a server, of its channels and of the nicks that speak to it, by their full names.
use Rattle.std.specs.Prelude.{ℕ, Bool, ◌&&◌, List, ◌++◌, map, find, length, drop, codes}
use Rattle.std.specs.Prelude.{is_some, Option, Some, if◌then◌else◌}
use Rattle.wc_ircmsg.specs.declared.case_map.CaseMap.{CaseMap}
use Rattle.wc_buffers.specs.declared.row.BufferEntry.{BufferEntry}
use Rattle.wc_buffers.specs.Calls.{EntryGroups, handle_of_name}
use Rattle.wc_buffers.specs.Groups.{rows}
use Rattle.wc_irc_texts.specs.Names.{is_same, begins_with_text}
use Rattle.wc_irc.specs.Servers.{ServerState}

abbrev pub server_buffer : List ℕ → List ℕ
server_buffer server = codes "irc.server." ++ server

-- the front of the names of a server's other buffers
abbrev pub front_of : List ℕ → List ℕ
front_of server = codes "irc." ++ server ++ codes "."

-- the buffer of a channel or a nick
abbrev pub full_name : List ℕ → List ℕ → List ℕ
full_name server target = front_of server ++ target

-- whether a full name is the front and after it a channel or a nick that is the same
abbrev pub is_alike : CaseMap → List ℕ → List ℕ → List ℕ → Bool
is_alike case_map front target name = begins_with_text name front
    && is_same case_map target (drop (length front) name)

-- the full names of all buffers in order
abbrev pub names_of : EntryGroups → List (List ℕ)
names_of groups = map (λ (e : BufferEntry). e.row.full_name) (rows groups)

abbrev pub has_name : List ℕ → EntryGroups → Bool
has_name name groups = is_some (handle_of_name name groups)

-- The full name of the buffer of a channel or a nick, where there is one: the one that is named
-- exactly so, and else the first whose name is the same.
unfoldable pub found : EntryGroups → ServerState → List ℕ → Option (List ℕ)
found groups s target =
    if has_name (full_name s.name target) groups then Some (full_name s.name target)
    else find (is_alike s.features.case_map (front_of s.name) target) (names_of groups)
