-- What follows of a NICK: on the buffer of each channel that has the nick, in the order of joining;
-- then on its private buffer; and where it is the own one on each buffer of the server.
use Rattle.std.specs.Prelude.{ℕ, Bool, false, not, ◌&&◌, List, [], ◌∷◌, ◌++◌, codes, flat_map}
use Rattle.std.specs.Prelude.{bytes_eq, Option, Some, None, if◌then◌else◌}
use Rattle.wc_text.specs.declared.names.Handle.{Handle}
use Rattle.wc_buffers.specs.declared.row.BufferEntry.{BufferEntry}
use Rattle.wc_buffers.specs.Calls.{EntryGroups, vars_at, handle_of_name}
use Rattle.wc_buffers.specs.Groups.{rows}
use Rattle.wc_buffers.specs.Vars.{pair, cut_to, value_of}
use Rattle.wc_text.specs.declared.names.Pair.{Pair}
use Rattle.wc_ircmsg.specs.declared.message.Message.{Message}
use Rattle.wc_model.specs.declared.change.What.TheVariants as what
use Rattle.wc_irc.specs.declared.act.Act.{Act}
use Rattle.wc_irc.specs.declared.act.Act.TheVariants as act
use Rattle.wc_irc_texts.specs.declared.seat.Seat.{Seat}
use Rattle.wc_irc.specs.Channels.{Joined}
use Rattle.wc_irc.specs.ChannelStates.{may_have}
use Rattle.wc_irc.specs.Lines.{printed, nick_tags}
use Rattle.wc_irc_texts.specs.ModeBits.{highest}
use Rattle.wc_irc_texts.specs.Names.{is_nick}
use Rattle.wc_irc.specs.NickActs.{add_nick, remove_nick}
use Rattle.wc_irc_texts.specs.Rows.{param}
use Rattle.wc_irc_nicks.specs.Seats.{seat_of}
use Rattle.wc_irc.specs.Servers.{ServerState, is_own}
use Rattle.wc_irc.specs.TalkActs.{on_found, has_value, has_var}
use Rattle.wc_irc.specs.Targets.{found, full_name, has_name}

-- ---- channels: the nick goes, and comes again under its other name where it may have that; the
-- line

abbrev pub come_again : ServerState → Message → Joined → Seat → List ℕ → List Act
come_again s m channel seat buffer = if may_have s.features.prefixes m.nick (param 0 m) channel
    then add_nick s.features.prefixes buffer (param 0 m) (highest seat.modes.0) ∷ [] else []

abbrev pub nick_line : Message → List ℕ → Act
nick_line m buffer = printed buffer (nick_tags (codes "irc_nick") m) (codes "--")
    (m.nick ++ codes " is now known as " ++ param 0 m)

abbrev pub rename_on : ServerState → Message → Joined → Seat → List ℕ → List Act
rename_on s m channel seat buffer = remove_nick buffer seat.nick
    ∷ (come_again s m channel seat buffer ++ nick_line m buffer ∷ [])

abbrev pub rename_as : EntryGroups → ServerState → Message → Joined → Option Seat → List Act
rename_as groups s m channel None = []
rename_as groups s m channel (Some seat) = on_found (found groups s channel.name)
    (rename_on s m channel seat)

abbrev pub rename_of : EntryGroups → ServerState → Message → Joined → List Act
rename_of groups s m channel = rename_as groups s m channel
    (seat_of channel.case_map m.nick channel.seats)

-- ---- the private buffer, where the new name is not another one's: its names and its variable

abbrev pub is_private_at : Option (List Pair) → Bool
is_private_at None = false
is_private_at (Some vars) = has_value (codes "private") (value_of (codes "type") vars)

abbrev pub vars_of_found : EntryGroups → Option Handle → Option (List Pair)
vars_of_found groups None = None
vars_of_found groups (Some h) = vars_at h groups

abbrev pub is_private : EntryGroups → List ℕ → Bool
is_private groups buffer = is_private_at (vars_of_found groups (handle_of_name buffer groups))

abbrev pub is_taken : EntryGroups → List ℕ → List ℕ → Bool
is_taken groups old new = has_name new groups && not (bytes_eq old new)

-- the buffer that is renamed, by its full name
abbrev pub if_free : EntryGroups → List ℕ → Option (List ℕ) → Option (List ℕ)
if_free groups new None = None
if_free groups new (Some old) = if is_private groups old && not (is_taken groups old new)
    then Some old else None

abbrev pub renamed_buffer : EntryGroups → ServerState → Message → Option (List ℕ)
renamed_buffer groups s m = if_free groups (full_name s.name (param 0 m)) (found groups s m.nick)

abbrev pub rename_private : List ℕ → List ℕ → List ℕ → List Act
rename_private nick new old = act.On old (what.Rename new [])
    ∷ act.On new (what.ShortName (cut_to 128 nick))
    ∷ act.On new (what.SetVar (pair (codes "channel") nick)) ∷ []

-- ---- the own nick, on each buffer of the server by the full name that it has then

abbrev pub name_after : Option (List ℕ) → List ℕ → List ℕ → List ℕ
name_after None new name = name
name_after (Some old) new name = if bytes_eq old name then new else name

abbrev pub own_var : Option (List ℕ) → List ℕ → ServerState → List ℕ → BufferEntry → List Act
own_var renamed new s nick buffer = if has_var (codes "server") s.name buffer
    then act.On (name_after renamed new buffer.row.full_name)
    (what.SetVar (pair (codes "nick") nick)) ∷ [] else []

abbrev pub own_vars : EntryGroups → ServerState → Message → List Act
own_vars groups s m = if is_own s m.nick && is_nick s.features.prefixes (param 0 m)
    then flat_map (own_var (renamed_buffer groups s m) (full_name s.name (param 0 m)) s (param 0 m))
    (rows groups) else []

abbrev pub nick_acts : EntryGroups → ServerState → Message → List Act
nick_acts groups s m = flat_map (rename_of groups s m) s.channels
    ++ (on_found (renamed_buffer groups s m)
    (rename_private (param 0 m) (full_name s.name (param 0 m)))
    ++ own_vars groups s m)
