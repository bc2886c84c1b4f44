-- What follows of each kind of message, and what the server is after it.
use Rattle.std.specs.Prelude.{ℕ, Bool, false, ◌&&◌, List, if◌then◌else◌}
use Rattle.wc_buffers.specs.Calls.{EntryGroups}
use Rattle.wc_ircmsg.specs.declared.message.Message.{Message}
use Rattle.wc_irc.specs.declared.act.Act.{Act}
use Rattle.wc_irc_texts.specs.declared.kind.MessageKind.{MessageKind}
use Rattle.wc_irc_texts.specs.declared.kind.MessageKind.TheVariants.{Welcome, Tokens, NickInUse, Join}
use Rattle.wc_irc_texts.specs.declared.kind.MessageKind.TheVariants.{Part, Quit, Kick, Nick, Mode, Topic}
use Rattle.wc_irc_texts.specs.declared.kind.MessageKind.TheVariants.{TopicReply, Names, NamesEnd}
use Rattle.wc_irc_texts.specs.declared.kind.MessageKind.TheVariants.{ModeReply, Privmsg, Notice, Ping}
use Rattle.wc_irc_texts.specs.declared.kind.MessageKind.TheVariants.{Error, Invite, Other}
use Rattle.wc_irc.specs.ChannelActs.{join_acts, part_acts, kick_acts, quit_acts}
use Rattle.wc_irc.specs.ChannelStates.{after_join, after_leave, quit_by, after_nick, is_beyond}
use Rattle.wc_irc.specs.Dates.{moment_of, dated_acts}
use Rattle.wc_irc.specs.InviteActs.{invite_acts}
use Rattle.wc_irc_texts.specs.Rows.{param, kind_of}
use Rattle.wc_irc.specs.LoginActs.{login_acts, after_login}
use Rattle.wc_irc.specs.Servers.{ServerState, after_welcome, after_taken, after_features}
use Rattle.wc_irc.specs.Servers.{mask_after, is_own}
use Rattle.wc_irc.specs.TitleActs.{topic_acts, topic_reply_acts, names_end_acts, mode_reply_acts}
use Rattle.wc_irc.specs.SpeechActs.{privmsg_acts}
use Rattle.wc_irc.specs.RenameActs.{nick_acts}
use Rattle.wc_irc.specs.ModeActs.{mode_acts, after_mode}
use Rattle.wc_irc.specs.NameActs.{names_acts, after_names}
use Rattle.wc_irc.specs.TalkActs.{welcome_acts, taken_acts, notice_acts, ping_acts, error_acts}
use Rattle.wc_irc.specs.TalkActs.{other_acts}

unfoldable pub acts_of_kind : EntryGroups → ServerState → Message → MessageKind → List Act
acts_of_kind groups s m Welcome = welcome_acts groups s m
acts_of_kind groups s m Tokens = other_acts s m
acts_of_kind groups s m NickInUse = taken_acts s
acts_of_kind groups s m Join = join_acts groups s m
acts_of_kind groups s m Part = part_acts groups s m
acts_of_kind groups s m Quit = quit_acts groups s m
acts_of_kind groups s m Kick = kick_acts groups s m
acts_of_kind groups s m Nick = nick_acts groups s m
acts_of_kind groups s m Mode = mode_acts groups s m
acts_of_kind groups s m Topic = topic_acts groups s m
acts_of_kind groups s m TopicReply = topic_reply_acts groups s m
acts_of_kind groups s m Names = names_acts groups s m
acts_of_kind groups s m NamesEnd = names_end_acts groups s m
acts_of_kind groups s m ModeReply = mode_reply_acts groups s m
acts_of_kind groups s m Privmsg = privmsg_acts groups s m
acts_of_kind groups s m Notice = notice_acts groups s m
acts_of_kind groups s m Ping = ping_acts m
acts_of_kind groups s m Error = error_acts s m
acts_of_kind groups s m Invite = invite_acts groups s m
acts_of_kind groups s m Other = login_acts s m

unfoldable pub after_kind : ServerState → Message → MessageKind → ServerState
after_kind s m Welcome = after_welcome s (param 0 m)
after_kind s m Tokens = after_features s m.params
after_kind s m NickInUse = after_taken s
after_kind s m Join = after_join s m.nick (param 0 m)
after_kind s m Part = after_leave s m.nick (param 0 m)
after_kind s m Quit = quit_by s m.nick
after_kind s m Kick = after_leave s (param 1 m) (param 0 m)
after_kind s m Nick = after_nick s m.nick (param 0 m)
after_kind s m Mode = after_mode s m
after_kind s m Topic = s
after_kind s m TopicReply = s
after_kind s m Names = after_names s m
after_kind s m NamesEnd = s
after_kind s m ModeReply = s
after_kind s m Privmsg = s
after_kind s m Notice = s
after_kind s m Ping = s
after_kind s m Error = s
after_kind s m Invite = s
after_kind s m Other = after_login s m

-- whether a message of a kind is about a channel that is one too many: the own JOIN, and the names
abbrev pub is_too_many : ServerState → Message → MessageKind → Bool
is_too_many s m Join = is_own s m.nick && is_beyond s (param 0 m)
is_too_many s m Names = is_beyond s (param 2 m)
is_too_many s m _ = false

-- what is about a channel that is one too many is of no kind
abbrev pub kind_within : ServerState → Message → MessageKind → MessageKind
kind_within s m kind = if is_too_many s m kind then Other else kind

abbrev pub kind_to : ServerState → Message → MessageKind
kind_to s m = kind_within s m (kind_of s.features.chan_types s.is_registered m)

abbrev pub acts_of_server : EntryGroups → ServerState → Message → List Act
acts_of_server groups s m = dated_acts (moment_of s m) (acts_of_kind groups s m (kind_to s m))

abbrev pub with_mask : List ℕ → ServerState → ServerState
with_mask mask s = record s { mask = mask }

abbrev pub after_server : ServerState → Message → ServerState
after_server s m = with_mask (mask_after s m) (after_kind s m (kind_to s m))
