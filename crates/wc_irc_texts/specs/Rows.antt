-- What kind of message one is to a server. One that lacks what its kind uses is of no other kind
-- than `Other`.
use Rattle.std.specs.Prelude.{ℕ, Bool, true, not, ◌&&◌, nat_le, List, [], ◌∷◌, length}
use Rattle.std.specs.Prelude.{find, drop, ◌-◌}
use Rattle.std.specs.Prelude.{bytes_eq, codes, slice_index_or, Option, Some, None, if◌then◌else◌}
use Rattle.wc_ircmsg.specs.declared.message.Message.{Message}
use Rattle.wc_irc_texts.specs.declared.kind.MessageKind.{MessageKind}
use Rattle.wc_irc_texts.specs.declared.kind.MessageKind.TheVariants.{Welcome, Tokens, NickInUse, Join}
use Rattle.wc_irc_texts.specs.declared.kind.MessageKind.TheVariants.{Part, Quit, Kick, Nick, Mode, Topic}
use Rattle.wc_irc_texts.specs.declared.kind.MessageKind.TheVariants.{TopicReply, Names, NamesEnd}
use Rattle.wc_irc_texts.specs.declared.kind.MessageKind.TheVariants.{ModeReply, Privmsg, Notice, Ping}
use Rattle.wc_irc_texts.specs.declared.kind.MessageKind.TheVariants.{Error, Invite, Other}
use Rattle.wc_irc_texts.specs.Names.{is_channel}

-- ---- parameters

abbrev pub param : ℕ → Message → List ℕ
param n m = slice_index_or m.params n []

abbrev pub last_param : Message → List ℕ
last_param m = slice_index_or m.params (length m.params - 1) []

-- those from a place on
abbrev pub params_from : ℕ → Message → List (List ℕ)
params_from n m = drop n m.params

-- whether there are so many
abbrev pub has_params : ℕ → Message → Bool
has_params n m = nat_le n (length m.params)

-- ---- kinds, each by its command

abbrev pub command_of : MessageKind → List ℕ
command_of Welcome = codes "001"
command_of Tokens = codes "005"
command_of NickInUse = codes "433"
command_of Join = codes "JOIN"
command_of Part = codes "PART"
command_of Quit = codes "QUIT"
command_of Kick = codes "KICK"
command_of Nick = codes "NICK"
command_of Mode = codes "MODE"
command_of Topic = codes "TOPIC"
command_of TopicReply = codes "332"
command_of Names = codes "353"
command_of NamesEnd = codes "366"
command_of ModeReply = codes "324"
command_of Privmsg = codes "PRIVMSG"
command_of Notice = codes "NOTICE"
command_of Ping = codes "PING"
command_of Error = codes "ERROR"
command_of Invite = codes "INVITE"
command_of Other = []

abbrev pub named_kinds : List MessageKind
named_kinds = Welcome ∷ Tokens ∷ NickInUse ∷ Join ∷ Part ∷ Quit ∷ Kick ∷ Nick ∷ Mode ∷ Topic
    ∷ TopicReply ∷ Names ∷ NamesEnd ∷ ModeReply ∷ Privmsg ∷ Notice ∷ Ping ∷ Error ∷ Invite ∷ []

abbrev pub kind_found : List ℕ → Option MessageKind
kind_found command = find (λ kind. bytes_eq command (command_of kind)) named_kinds

abbrev pub kind_in : Option MessageKind → MessageKind
kind_in None = Other
kind_in (Some kind) = kind

-- the kind whose command this is
abbrev pub kind_named : List ℕ → MessageKind
kind_named command = kind_in (kind_found command)

-- whether the message has so many parameters, and the n-th names a channel
abbrev pub is_about_channel : List ℕ → ℕ → ℕ → Message → Bool
is_about_channel chan_types count n m = has_params count m && is_channel chan_types (param n m)

-- whether the message has what its kind uses, where CHANTYPES is this, and after a first 001 or not
unfoldable pub is_complete : List ℕ → Bool → Message → MessageKind → Bool
is_complete chan_types is_registered m Welcome = has_params 1 m
is_complete chan_types is_registered m Tokens = true
is_complete chan_types is_registered m NickInUse = not is_registered
is_complete chan_types is_registered m Join = is_about_channel chan_types 1 0 m
is_complete chan_types is_registered m Part = is_about_channel chan_types 1 0 m
is_complete chan_types is_registered m Quit = true
is_complete chan_types is_registered m Kick = is_about_channel chan_types 2 0 m
is_complete chan_types is_registered m Nick = has_params 1 m
is_complete chan_types is_registered m Mode = is_about_channel chan_types 2 0 m
is_complete chan_types is_registered m Topic = is_about_channel chan_types 2 0 m
is_complete chan_types is_registered m TopicReply = is_about_channel chan_types 3 1 m
is_complete chan_types is_registered m Names = has_params 4 m
is_complete chan_types is_registered m NamesEnd = is_about_channel chan_types 2 1 m
is_complete chan_types is_registered m ModeReply = is_about_channel chan_types 3 1 m
is_complete chan_types is_registered m Privmsg = has_params 2 m
is_complete chan_types is_registered m Notice = has_params 2 m
is_complete chan_types is_registered m Ping = has_params 1 m
is_complete chan_types is_registered m Error = has_params 1 m
is_complete chan_types is_registered m Invite = is_about_channel chan_types 2 1 m
is_complete chan_types is_registered m Other = true

unfoldable pub kind_of : List ℕ → Bool → Message → MessageKind
kind_of chan_types is_registered m =
    if is_complete chan_types is_registered m (kind_named m.command) then kind_named m.command
    else Other
