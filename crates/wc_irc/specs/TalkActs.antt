-- What follows of the messages that are said, and of those of the server itself.
use Rattle.std.specs.Prelude.{ℕ, Bool, false, not, ◌&&◌, List, [], ◌∷◌, ◌++◌, map, codes}
use Rattle.std.specs.Prelude.{flat_map, bytes_eq, Option, Some, None, if◌then◌else◌}
use Rattle.std.specs.Char.{to_ascii_lowercase}
use Rattle.wc_text.specs.declared.names.Cause.TheVariants as cause
use Rattle.wc_ircmsg.specs.declared.message.Message.{Message}
use Rattle.wc_ircmsg.specs.Written.{line_of}
use Rattle.wc_buffers.specs.declared.row.BufferEntry.{BufferEntry}
use Rattle.wc_buffers.specs.Calls.{EntryGroups}
use Rattle.wc_buffers.specs.Groups.{rows}
use Rattle.wc_buffers.specs.Vars.{pair, value_of}
use Rattle.wc_model.specs.declared.change.What.TheVariants as what
use Rattle.wc_irc.specs.declared.act.Act.{Act}
use Rattle.wc_irc.specs.declared.act.Act.TheVariants as act
use Rattle.wc_irc.specs.Autojoin.{message, autojoin_lines}
use Rattle.wc_irc.specs.Lines.{printed, nick_tags}
use Rattle.wc_irc_texts.specs.Names.{is_channel}
use Rattle.wc_irc_texts.specs.Rows.{param, last_param, params_from}
use Rattle.wc_irc.specs.Servers.{ServerState, own_nick_from, next_nick, may_try}
use Rattle.wc_irc.specs.Targets.{server_buffer, found}
use Rattle.wc_irc_texts.specs.Statuses.{whole_channel}
use Rattle.wc_irc_texts.specs.Texts.{spaced, in_one_line, unquoted}

-- a line of the server's own buffer
abbrev pub on_server : ServerState → List ℕ → List ℕ → List ℕ → Act
on_server s tag prefix text = printed (server_buffer s.name) (tag ∷ []) prefix text

-- the channel that is spoken to, of which a sign before it tells some nicks, or else the target
abbrev pub aimed : ServerState → List ℕ → List ℕ
aimed s target = whole_channel s.features target

-- what is done on the buffer of a channel or a nick, where there is one
abbrev pub on_found : Option (List ℕ) → (List ℕ → List Act) → List Act
on_found None acts = []
on_found (Some buffer) acts = acts buffer

-- a line to the server: a command and one text, without what would end the line
abbrev pub sent : List ℕ → List ℕ → Act
sent command text = act.Send (line_of (message command (in_one_line text ∷ [])))

-- ---- PING, ERROR and others

abbrev pub ping_acts : Message → List Act
ping_acts m = sent (codes "PONG") (last_param m) ∷ []

abbrev pub error_acts : ServerState → Message → List Act
error_acts s m = on_server s (codes "irc_error") (codes "=!=") (last_param m) ∷ []

abbrev pub other_acts : ServerState → Message → List Act
other_acts s m = on_server s (codes "irc_" ++ map to_ascii_lowercase m.command) (codes "--")
    (spaced (params_from 1 m)) ∷ []

-- ---- 433 before 001: the next nick, and after the last of them the loss of the server

abbrev pub taken_acts : ServerState → List Act
taken_acts s = if may_try s then sent (codes "NICK") (next_nick s) ∷ []
    else act.Leave cause.NickTaken ∷ []

-- ---- 001: the own nick is told to each buffer of the server that has another one, in the order of
-- buffers; the line, the signal, and the channels to join. Another 001 than the first is a line.

abbrev pub has_value : List ℕ → Option (List ℕ) → Bool
has_value value None = false
has_value value (Some other) = bytes_eq value other

abbrev pub has_var : List ℕ → List ℕ → BufferEntry → Bool
has_var name value buffer = has_value value (value_of name buffer.vars)

abbrev pub differs : ServerState → List ℕ → BufferEntry → Bool
differs s nick buffer = has_var (codes "server") s.name buffer
    && not (has_var (codes "nick") nick buffer)

abbrev pub told_nick : ServerState → List ℕ → BufferEntry → List Act
told_nick s nick buffer = if differs s nick buffer
    then act.On buffer.row.full_name (what.SetVar (pair (codes "nick") nick)) ∷ [] else []

abbrev pub tell_nick : EntryGroups → ServerState → List ℕ → List Act
tell_nick groups s nick = flat_map (told_nick s nick) (rows groups)

abbrev pub welcome_line : ServerState → Message → Act
welcome_line s m = on_server s (codes "irc_001") (codes "--") (last_param m)

abbrev pub raised : List ℕ → ServerState → Act
raised signal s = act.Raise signal s.name

abbrev pub welcome_acts : EntryGroups → ServerState → Message → List Act
welcome_acts groups s m = if s.is_registered then welcome_line s m ∷ []
    else tell_nick groups s (own_nick_from s (param 0 m)) ++ welcome_line s m
    ∷ raised (codes "irc_server_connected") s
    ∷ map (λ line. act.Send line) (autojoin_lines s.autojoin)

-- ---- NOTICE: on the channel, where it has a buffer, and else on the server's own buffer; a reply
-- between clients is printed without the bytes 01 around it

abbrev pub notice_line : Message → List ℕ → Act
notice_line m buffer = printed buffer (nick_tags (codes "irc_notice") m) (codes "--")
    (codes "Notice(" ++ m.nick ++ codes "): " ++ unquoted (param 1 m))

abbrev pub notice_acts : EntryGroups → ServerState → Message → List Act
notice_acts groups s m = if is_channel s.features.chan_types (aimed s (param 0 m))
    then on_found (found groups s (aimed s (param 0 m))) (λ buffer. notice_line m buffer ∷ [])
    else notice_line m (server_buffer s.name) ∷ []
