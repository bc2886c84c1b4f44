-- What is said as the link of a server begins, and what follows of its loss.
use Rattle.std.specs.Prelude.{ℕ, false, true, List, [], ◌∷◌, ◌++◌, codes, flat_map, if◌then◌else◌}
use Rattle.wc_buffers.specs.Calls.{EntryGroups}
use Rattle.wc_ircmsg.specs.Written.{line_of}
use Rattle.wc_irc.specs.declared.act.Act.{Act}
use Rattle.wc_irc.specs.declared.act.Act.TheVariants as act
use Rattle.wc_irc.specs.Autojoin.{message, first_word}
use Rattle.wc_irc.specs.Channels.{Joined}
use Rattle.wc_irc.specs.Lines.{printed}
use Rattle.wc_irc.specs.LoginActs.{list_acts}
use Rattle.wc_irc.specs.NickActs.{emptied}
use Rattle.wc_irc.specs.Servers.{ServerState}
use Rattle.wc_irc.specs.TalkActs.{on_found, raised, sent}
use Rattle.wc_irc.specs.Targets.{found, server_buffer}
use Rattle.wc_irc_texts.specs.Negotiation.{begun, lost}
use Rattle.wc_irc_texts.specs.Texts.{in_one_line}
use Rattle.wc_irc_words.specs.Typed.{is_target}

-- ---- the first lines: the list of capabilities, where options ask for any, the password, where
-- there is one, the nick and the user

abbrev pub pass_acts : List ℕ → List Act
pass_acts [] = []
pass_acts (b ∷ password) = sent (codes "PASS") (b ∷ password) ∷ []

-- a user name that can be sent, or the one that options have by themselves
abbrev pub word_or_own : List ℕ → List ℕ
word_or_own word = if is_target word then word else codes "weechat"

abbrev pub user_word : List ℕ → List ℕ
user_word user = word_or_own (first_word (in_one_line user))

abbrev pub user_params : List ℕ → List ℕ → List (List ℕ)
user_params user real_name = user_word user ∷ codes "0" ∷ codes "*" ∷ in_one_line real_name ∷ []

abbrev pub user_act : ServerState → Act
user_act s = act.Send (line_of (message (codes "USER") (user_params s.user s.real_name)))

abbrev pub first_acts : ServerState → List Act
first_acts s = list_acts s.negotiation ++ pass_acts s.password ++ sent (codes "NICK") s.nick ∷ user_act s ∷ []

abbrev pub after_connect : ServerState → ServerState
after_connect s = record s { is_connected = true; negotiation = begun s.negotiation }

-- ---- a loss: the nicks of each channel go, in the order of joining; the line and the signal

abbrev pub lost_of : EntryGroups → ServerState → Joined → List Act
lost_of groups s channel = on_found (found groups s channel.name)
    (λ buffer. emptied buffer channel.seats)

abbrev pub lost_line : ServerState → Act
lost_line s = printed (server_buffer s.name) [] (codes "--") (codes "disconnected")

abbrev pub loss_acts : EntryGroups → ServerState → List Act
loss_acts groups s = flat_map (lost_of groups s) s.channels
    ++ lost_line s ∷ raised (codes "irc_server_disconnected") s ∷ []

abbrev pub after_loss : ServerState → ServerState
after_loss s = record s {
  negotiation = lost s.negotiation;
  mask = [];
  is_connected = false;
  is_registered = false;
  channels = [];
}
