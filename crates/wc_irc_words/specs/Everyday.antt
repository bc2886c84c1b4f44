-- The everyday commands, as a table: what each is called, what comes after it, and which line it
-- makes.
use Rattle.std.specs.Prelude.{ℕ, Bool, true, false, List, [], ◌∷◌, Option, Some, find, codes}
use Rattle.std.specs.Prelude.{if◌then◌else◌}
use Rattle.std.specs.Str.{str_eq_ignore_ascii_case}
use Rattle.wc_irc_words.specs.declared.everyday.Everyday.{Everyday}
use Rattle.wc_irc_words.specs.declared.everyday.Everyday.TheVariants as word
use Rattle.wc_irc_words.specs.declared.everyday.Form.{Form}
use Rattle.wc_irc_words.specs.declared.everyday.Form.TheVariants as form

abbrev pub everyday_name : Everyday → List ℕ
everyday_name word.Whois = codes "whois"
everyday_name word.Whowas = codes "whowas"
everyday_name word.Who = codes "who"
everyday_name word.List = codes "list"
everyday_name word.Away = codes "away"
everyday_name word.Invite = codes "invite"
everyday_name word.Op = codes "op"
everyday_name word.Deop = codes "deop"
everyday_name word.Voice = codes "voice"
everyday_name word.Devoice = codes "devoice"
everyday_name word.Halfop = codes "halfop"
everyday_name word.Dehalfop = codes "dehalfop"
everyday_name word.Ban = codes "ban"
everyday_name word.Unban = codes "unban"
everyday_name word.Kickban = codes "kickban"
everyday_name word.Ctcp = codes "ctcp"
everyday_name word.Ping = codes "ping"
everyday_name word.Motd = codes "motd"
everyday_name word.Cycle = codes "cycle"
everyday_name word.Oper = codes "oper"
everyday_name word.Knock = codes "knock"
everyday_name word.Time = codes "time"
everyday_name word.Version = codes "version"
everyday_name word.Stats = codes "stats"

abbrev pub form_of : Everyday → Form
form_of word.Whois = form.SomeWords
form_of word.Whowas = form.SomeWords
form_of word.Who = form.Words
form_of word.List = form.Words
form_of word.Away = form.Text
form_of word.Invite = form.NickAndChannel
form_of word.Op = form.Modes true 111
form_of word.Deop = form.Modes false 111
form_of word.Voice = form.Modes true 118
form_of word.Devoice = form.Modes false 118
form_of word.Halfop = form.Modes true 104
form_of word.Dehalfop = form.Modes false 104
form_of word.Ban = form.Modes true 98
form_of word.Unban = form.Modes false 98
form_of word.Kickban = form.BanAndKick
form_of word.Ctcp = form.Request
form_of word.Ping = form.SomeWords
form_of word.Motd = form.Words
form_of word.Cycle = form.PartAndJoin
form_of word.Oper = form.SomeWords
form_of word.Knock = form.WordAndText
form_of word.Time = form.Words
form_of word.Version = form.Words
form_of word.Stats = form.Words

-- the command of the line
abbrev pub everyday_command : Everyday → List ℕ
everyday_command word.Whois = codes "WHOIS"
everyday_command word.Whowas = codes "WHOWAS"
everyday_command word.Who = codes "WHO"
everyday_command word.List = codes "LIST"
everyday_command word.Away = codes "AWAY"
everyday_command word.Invite = codes "INVITE"
everyday_command word.Op = codes "MODE"
everyday_command word.Deop = codes "MODE"
everyday_command word.Voice = codes "MODE"
everyday_command word.Devoice = codes "MODE"
everyday_command word.Halfop = codes "MODE"
everyday_command word.Dehalfop = codes "MODE"
everyday_command word.Ban = codes "MODE"
everyday_command word.Unban = codes "MODE"
everyday_command word.Kickban = codes "KICK"
everyday_command word.Ctcp = codes "PRIVMSG"
everyday_command word.Ping = codes "PING"
everyday_command word.Motd = codes "MOTD"
everyday_command word.Cycle = codes "JOIN"
everyday_command word.Oper = codes "OPER"
everyday_command word.Knock = codes "KNOCK"
everyday_command word.Time = codes "TIME"
everyday_command word.Version = codes "VERSION"
everyday_command word.Stats = codes "STATS"

abbrev pub all_everyday : List Everyday
all_everyday = word.Whois ∷ word.Whowas ∷ word.Who ∷ word.List ∷ word.Away ∷ word.Invite ∷ word.Op ∷
    word.Deop ∷ word.Voice ∷ word.Devoice ∷ word.Halfop ∷ word.Dehalfop ∷ word.Ban ∷ word.Unban ∷
    word.Kickban ∷ word.Ctcp ∷ word.Ping ∷ word.Motd ∷ word.Cycle ∷ word.Oper ∷ word.Knock ∷
    word.Time ∷ word.Version ∷ word.Stats ∷ []

-- `/who` is known by a letter as well
abbrev pub is_everyday : List ℕ → Everyday → Bool
is_everyday text word = str_eq_ignore_ascii_case text (everyday_name word)

abbrev pub is_who : List ℕ → Bool
is_who text = str_eq_ignore_ascii_case text (codes "w")

-- the command of a name, in letters of any case
abbrev pub everyday_named : List ℕ → Option Everyday
everyday_named text = if is_who text then Some word.Who else find (is_everyday text) all_everyday
