-- Titles and lines of a channel's buffer, of which this is the full name.
use Rattle.std.specs.Prelude.{ℕ, List, [], ◌∷◌, ◌++◌, codes, decimal, length, Option, Some, None}
use Rattle.wc_buffers.specs.Calls.{EntryGroups}
use Rattle.wc_ircmsg.specs.declared.message.Message.{Message}
use Rattle.wc_model.specs.declared.change.What.TheVariants as what
use Rattle.wc_irc.specs.declared.act.Act.{Act}
use Rattle.wc_irc.specs.declared.act.Act.TheVariants as act
use Rattle.wc_irc.specs.Channels.{Joined}
use Rattle.wc_irc.specs.ChannelStates.{channel_at}
use Rattle.wc_irc.specs.Lines.{printed, nick_tags}
use Rattle.wc_irc_texts.specs.Rows.{param, params_from}
use Rattle.wc_irc.specs.Servers.{ServerState}
use Rattle.wc_irc.specs.TalkActs.{on_found}
use Rattle.wc_irc.specs.Targets.{found}
use Rattle.wc_irc_texts.specs.Texts.{plain, spaced}

-- ---- TOPIC and 332: the title, without formatting bytes; the line

abbrev pub titled : List ℕ → List ℕ → Act
titled topic buffer = act.On buffer (what.Title (plain topic))

abbrev pub topic_line : Message → List ℕ → Act
topic_line m buffer = printed buffer (nick_tags (codes "irc_topic") m) (codes "--")
    (m.nick ++ codes " has changed topic for " ++ param 0 m ++ codes " to \"" ++ param 1 m
    ++ codes "\"")

abbrev pub topic_on : Message → List ℕ → List Act
topic_on m buffer = titled (param 1 m) buffer ∷ topic_line m buffer ∷ []

abbrev pub topic_acts : EntryGroups → ServerState → Message → List Act
topic_acts groups s m = on_found (found groups s (param 0 m)) (topic_on m)

abbrev pub topic_reply_line : Message → List ℕ → Act
topic_reply_line m buffer = printed buffer (codes "irc_332" ∷ []) (codes "--")
    (codes "Topic for " ++ param 1 m ++ codes " is \"" ++ param 2 m ++ codes "\"")

abbrev pub topic_reply_on : Message → List ℕ → List Act
topic_reply_on m buffer = titled (param 2 m) buffer ∷ topic_reply_line m buffer ∷ []

abbrev pub topic_reply_acts : EntryGroups → ServerState → Message → List Act
topic_reply_acts groups s m = on_found (found groups s (param 1 m)) (topic_reply_on m)

-- ---- 366: how many nicks the list has

abbrev pub count_of : Option Joined → ℕ
count_of None = 0
count_of (Some channel) = length channel.seats

abbrev pub names_end_line : ServerState → Message → List ℕ → Act
names_end_line s m buffer = printed buffer (codes "irc_366" ∷ []) (codes "--")
    (codes "Channel " ++ param 1 m ++ codes ": " ++ decimal (count_of (channel_at s (param 1 m)))
    ++ codes " nicks")

abbrev pub names_end_on : ServerState → Message → List ℕ → List Act
names_end_on s m buffer = names_end_line s m buffer ∷ []

abbrev pub names_end_acts : EntryGroups → ServerState → Message → List Act
names_end_acts groups s m = on_found (found groups s (param 1 m)) (names_end_on s m)

-- ---- 324: the modes of the channel

abbrev pub mode_reply_line : Message → List ℕ → Act
mode_reply_line m buffer = printed buffer (codes "irc_324" ∷ []) (codes "--")
    (codes "Mode " ++ param 1 m ++ codes " [" ++ spaced (params_from 2 m) ++ codes "]")

abbrev pub mode_reply_on : Message → List ℕ → List Act
mode_reply_on m buffer = mode_reply_line m buffer ∷ []

abbrev pub mode_reply_acts : EntryGroups → ServerState → Message → List Act
mode_reply_acts groups s m = on_found (found groups s (param 1 m)) (mode_reply_on m)
