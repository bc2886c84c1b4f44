-- What follows of an INVITE. Where this capability stands (IRCv3), that of another nick is told to
-- its channel.
use Rattle.std.specs.Prelude.{ℕ, Bool, not, ◌&&◌, List, [], ◌∷◌, ◌++◌, codes, if◌then◌else◌}
use Rattle.wc_buffers.specs.Calls.{EntryGroups}
use Rattle.wc_ircmsg.specs.declared.message.Message.{Message}
use Rattle.wc_irc.specs.declared.act.Act.{Act}
use Rattle.wc_irc.specs.Lines.{printed, nick_tags}
use Rattle.wc_irc.specs.Servers.{ServerState, is_own, has_capability}
use Rattle.wc_irc.specs.TalkActs.{on_found, other_acts}
use Rattle.wc_irc.specs.Targets.{found}
use Rattle.wc_irc_texts.specs.Rows.{param}

abbrev pub is_of_another : ServerState → Message → Bool
is_of_another s m = has_capability (codes "invite-notify") s && not (is_own s (param 0 m))

abbrev pub invite_line : Message → List ℕ → Act
invite_line m buffer = printed buffer (nick_tags (codes "irc_invite") m) (codes "--")
    (m.nick ++ codes " has invited " ++ param 0 m ++ codes " to " ++ param 1 m)

abbrev pub invite_on : Message → List ℕ → List Act
invite_on m buffer = invite_line m buffer ∷ []

abbrev pub invite_acts : EntryGroups → ServerState → Message → List Act
invite_acts groups s m = if is_of_another s m
    then on_found (found groups s (param 1 m)) (invite_on m) else other_acts s m
