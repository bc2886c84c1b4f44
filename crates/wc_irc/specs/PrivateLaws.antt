-- What the bound of private buffers says of what others say.
use Rattle.std.specs.Prelude.{◌≡◌, ℕ, Bool, true, false, List, Some, codes}
use Rattle.std.specs.List.{list_any}
use Rattle.wc_ircmsg.specs.declared.message.Message.{Message}
use Rattle.wc_buffers.specs.Calls.{EntryGroups}
use Rattle.wc_options.specs.Options.{OptionsValue, value_of}
use Rattle.wc_irc.specs.declared.act.Act.{Act}
use Rattle.wc_irc.specs.declared.act.Act.TheVariants as act
use Rattle.wc_irc_texts.specs.Rows.{param}
use Rattle.wc_irc.specs.PrivateBuffers.{is_full}
use Rattle.wc_irc.specs.Servers.{ServerState}
use Rattle.wc_irc.specs.SpeechActs.{talk_line, talk_tags, on_target, talk_acts, privmsg_acts}
use Rattle.wc_irc.specs.Start.{private_max_of}

-- whether an act opens a buffer
abbrev pub is_open : Act → Bool
is_open (act.Open spec) = true
is_open _ = false

-- where so many private buffers are there as messages may open, none opens another one
abbrev pub OpensNoneWhereFull : Type 0
OpensNoneWhereFull = (groups : EntryGroups) (s : ServerState) (m : Message) →
    is_full groups s ≡ true → list_any is_open (privmsg_acts groups s m) ≡ false

-- where 256 of them may be opened, what is said goes where it goes without a bound
abbrev pub IsUnboundAtMost : Type 0
IsUnboundAtMost = (groups : EntryGroups) (s : ServerState) (m : Message) (does : Bool)
    (text : List ℕ) → s.private_max ≡ 256 → talk_acts groups s m does text
    ≡ on_target groups s (param 0 m) m.nick
    (talk_line s (param 0 m) m.nick does text (talk_tags s m does))

-- so many may be where the option has its default
abbrev pub IsMostByDefault : Type 0
IsMostByDefault = (options : OptionsValue) →
    value_of options (codes "irc.look.private_max") ≡ Some (codes "256") →
    private_max_of options ≡ 256
