-- The kinds of messages that the code shows on the buffer of one channel.
use Rattle.std.specs.Prelude.{ℕ, List}
use Rattle.wc_ircmsg.specs.declared.message.Message.{Message}
use Rattle.wc_irc.specs.declared.act.Act.{Act}
use Rattle.wc_irc.specs.declared.channel_row.ChannelRow.{ChannelRow}
use Rattle.wc_irc.specs.declared.channel_row.ChannelRow.TheVariants.{Part, Kick, Mode, Topic}
use Rattle.wc_irc.specs.declared.channel_row.ChannelRow.TheVariants.{TopicReply, Names, NamesEnd}
use Rattle.wc_irc.specs.declared.channel_row.ChannelRow.TheVariants.{ModeReply}
use Rattle.wc_irc.specs.ChannelActs.{part_on, kick_on}
use Rattle.wc_irc.specs.ModeActs.{mode_on}
use Rattle.wc_irc.specs.NameActs.{names_on}
use Rattle.wc_irc.specs.Servers.{ServerState}
use Rattle.wc_irc.specs.TitleActs.{topic_on, topic_reply_on, names_end_on, mode_reply_on}

-- the place of the parameter that names the channel
abbrev pub place_of : ChannelRow → ℕ
place_of Part = 0
place_of Kick = 0
place_of Mode = 0
place_of Topic = 0
place_of TopicReply = 1
place_of Names = 2
place_of NamesEnd = 1
place_of ModeReply = 1

abbrev pub acts_on : ChannelRow → ServerState → Message → List ℕ → List Act
acts_on Part s m buffer = part_on s m buffer
acts_on Kick s m buffer = kick_on s m buffer
acts_on Mode s m buffer = mode_on s m buffer
acts_on Topic s m buffer = topic_on m buffer
acts_on TopicReply s m buffer = topic_reply_on m buffer
acts_on Names s m buffer = names_on s m buffer
acts_on NamesEnd s m buffer = names_end_on s m buffer
acts_on ModeReply s m buffer = mode_reply_on m buffer
