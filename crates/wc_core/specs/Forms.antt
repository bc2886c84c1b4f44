-- The names of commands, and the form in which each is typed.
use Rattle.std.specs.Prelude.{ℕ, Bool, List, [], ◌∷◌, ◌++◌, codes, find, ◌==◌, if◌then◌else◌}
use Rattle.std.specs.Prelude.{filter, length, map, Option}
use Rattle.wc_text.specs.Splits.{word_of}
use Rattle.wc_text.specs.Words.{words_of}
use Rattle.wc_irc_words.specs.Typed.{is_called}

-- ---- names, without their `/`

-- the commands that the core knows by itself, which blanks part
unfoldable pub core_text : List ℕ
core_text = codes "print buffer close quit eval filter help hotlist set unset save"

-- and those that servers know, with the letters by which some are known as well
unfoldable pub server_text : List ℕ
server_text = codes "join j part msg m notice query q me nick topic kick k mode names n quote server "
    ++ codes "connect disconnect w whois whowas who list away invite op deop voice devoice "
    ++ codes "halfop dehalfop ban unban kickban ctcp ping motd cycle oper knock time version "
    ++ codes "stats"

-- all of them; `/input`, which clients type by themselves, is not among them
unfoldable pub command_names : List (List ℕ)
command_names = words_of core_text ++ words_of server_text

-- the line that has them
abbrev pub names_told : List ℕ
names_told = codes "core: " ++ core_text ++ codes "; IRC: " ++ server_text

-- ---- forms, which begin with the name

unfoldable pub command_forms : List (List ℕ)
command_forms =
    codes "/print [-buffer BUFFER] [-tags TAGS] TEXT" ∷
    (codes "/buffer add NAME || close [BUFFER] || move NUMBER || merge BUFFER || "
    ++ codes "unmerge || hide || unhide || clear || set PROPERTY [VALUE] || BUFFER") ∷
    codes "/close" ∷
    codes "/quit" ∷
    codes "/eval [-n [-c]] TEXT" ∷
    codes "/filter add NAME BUFFERS TAGS REGEX || del NAME || enable|disable|toggle [NAME]" ∷
    codes "/help [COMMAND]" ∷
    codes "/hotlist clear|remove" ∷
    codes "/set NAME VALUE" ∷
    codes "/unset NAME" ∷
    codes "/save" ∷
    codes "/join CHANNELS [KEYS]" ∷
    codes "/j CHANNELS [KEYS]" ∷
    codes "/part [CHANNEL] [REASON]" ∷
    codes "/msg TARGET TEXT" ∷
    codes "/m TARGET TEXT" ∷
    codes "/notice TARGET TEXT" ∷
    codes "/query NICK [TEXT]" ∷
    codes "/q NICK [TEXT]" ∷
    codes "/me TEXT" ∷
    codes "/nick NICK" ∷
    codes "/topic TEXT|-delete" ∷
    codes "/kick NICK [REASON]" ∷
    codes "/k NICK [REASON]" ∷
    codes "/mode [TARGET] MODES [WORDS] || TARGET" ∷
    codes "/names" ∷
    codes "/n" ∷
    codes "/quote LINE" ∷
    codes "/server add NAME ADDRESS/PORT [-tls|-notls] || del NAME" ∷
    codes "/connect NAME" ∷
    codes "/disconnect [NAME]" ∷
    codes "/w [MASK]" ∷
    codes "/whois [SERVER] NICKS" ∷
    codes "/whowas NICKS [COUNT]" ∷
    codes "/who [MASK]" ∷
    codes "/list [CHANNELS]" ∷
    codes "/away [TEXT]" ∷
    codes "/invite NICK [CHANNEL]" ∷
    codes "/op NICKS" ∷
    codes "/deop NICKS" ∷
    codes "/voice NICKS" ∷
    codes "/devoice NICKS" ∷
    codes "/halfop NICKS" ∷
    codes "/dehalfop NICKS" ∷
    codes "/ban MASKS" ∷
    codes "/unban MASKS" ∷
    codes "/kickban NICK [REASON]" ∷
    codes "/ctcp TARGET TEXT" ∷
    codes "/ping SERVERS" ∷
    codes "/motd [SERVER]" ∷
    codes "/cycle [REASON]" ∷
    codes "/oper NAME PASSWORD" ∷
    codes "/knock CHANNEL [TEXT]" ∷
    codes "/time [SERVER]" ∷
    codes "/version [SERVER]" ∷
    codes "/stats [QUERY [SERVER]]" ∷ []

abbrev pub without_slash : List ℕ → List ℕ
without_slash [] = []
without_slash (b ∷ text) = if b == 47 then text else b ∷ text

-- whether a form is that of a command of this name, in letters of any case
abbrev pub is_form_of : List ℕ → List ℕ → Bool
is_form_of name form = is_called name (without_slash (word_of form))

unfoldable pub form_named : List ℕ → Option (List ℕ)
form_named name = find (is_form_of name) command_forms

-- ---- what the table has

-- the first words of the forms
abbrev pub first_words : List (List ℕ)
first_words = map word_of command_forms

-- the names as they are typed
abbrev pub slashed_names : List (List ℕ)
slashed_names = map (λ name. 47 ∷ name) command_names

-- how many forms are those of this name
abbrev pub form_count : List ℕ → ℕ
form_count name = length (filter (is_form_of name) command_forms)
