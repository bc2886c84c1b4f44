-- What is printed of what the user says: the lines of PRIVMSG and ACTION, from the own nick.
use Rattle.std.specs.Prelude.{ℕ, Bool, true, false, ◌&&◌, ◌||◌, List, [], ◌∷◌, ◌++◌, codes}
use Rattle.std.specs.Prelude.{if◌then◌else◌, map, Option}
use Rattle.std.specs.Str.{str_eq_ignore_ascii_case}
use Rattle.wc_text.specs.Splits.{word_of, rest_of}
use Rattle.wc_text.specs.Words.{is_filled}
use Rattle.wc_buffers.specs.Calls.{EntryGroups}
use Rattle.wc_irc.specs.declared.act.Act.{Act}
use Rattle.wc_irc.specs.Lines.{nick_tag}
use Rattle.wc_irc.specs.Servers.{ServerState}
use Rattle.wc_irc.specs.NewBuffers.{opened, name_or}
use Rattle.wc_irc.specs.TalkActs.{on_found, aimed}
use Rattle.wc_irc.specs.Targets.{found, full_name}
use Rattle.wc_irc_texts.specs.Names.{is_channel}
use Rattle.wc_irc.specs.SpeechActs.{Talk, Says, Does, Requests, talk_of, talk_line, on_target}

-- The own line tells of nothing new, and calls nobody.
abbrev pub own_tags : ServerState → List (List ℕ)
own_tags s = codes "irc_privmsg" ∷ codes "notify_none" ∷ codes "self_msg" ∷ codes "no_highlight"
    ∷ nick_tag s.nick ∷ []

abbrev pub own_line : ServerState → List ℕ → Bool → List ℕ → List ℕ → Act
own_line s target does text buffer = talk_line s target s.nick does text (own_tags s) buffer

-- On the channel, where it has a buffer, and else on the private buffer of the target, which is
-- opened where it is not there.
abbrev pub own_talk : EntryGroups → ServerState → List ℕ → Bool → List ℕ → List Act
own_talk groups s target does text = on_target groups s target target (own_line s target does text)

-- ---- what is said to the service for nicks with a command that takes a password is shown without
-- the words after the command

abbrev pub is_secret : List ℕ → Bool
is_secret word = str_eq_ignore_ascii_case word (codes "identify")
    || (str_eq_ignore_ascii_case word (codes "register")
    || (str_eq_ignore_ascii_case word (codes "ghost")
    || (str_eq_ignore_ascii_case word (codes "release")
    || str_eq_ignore_ascii_case word (codes "regain"))))

abbrev pub hides : List ℕ → List ℕ → Bool
hides target text = str_eq_ignore_ascii_case target (codes "nickserv")
    && (is_secret (word_of text) && is_filled (rest_of text))

abbrev pub shown_text : List ℕ → List ℕ → List ℕ
shown_text target text = if hides target text then word_of text ++ codes " ********" else text

-- another request between clients has no line
abbrev pub acts_of_own : EntryGroups → ServerState → List ℕ → Talk → List Act
acts_of_own groups s target (Says text) = own_talk groups s target false (shown_text target text)
acts_of_own groups s target (Does deed) = own_talk groups s target true deed
acts_of_own groups s target (Requests word) = []

abbrev pub own_speech : EntryGroups → ServerState → List ℕ → List ℕ → List Act
own_speech groups s target text = acts_of_own groups s target (talk_of text)

-- ---- the parts of a text that is too long for one line, each as a line

abbrev pub own_lines : ServerState → List ℕ → Bool → List (List ℕ) → List ℕ → List Act
own_lines s target does texts buffer = map (λ text. own_line s target does text buffer) texts

-- where this is the full name of the private buffer, if it is there
abbrev pub private_lines : ServerState → List ℕ → Bool → List (List ℕ) → Option (List ℕ) → List Act
private_lines s target does texts there = opened there (codes "private") s target
    ++ own_lines s target does texts (name_or there (full_name s.name target))

abbrev pub own_texts : EntryGroups → ServerState → List ℕ → Bool → List (List ℕ) → List Act
own_texts groups s target does texts =
    if is_channel s.features.chan_types (aimed s target)
    then on_found (found groups s (aimed s target)) (own_lines s target does texts)
    else private_lines s target does texts (found groups s target)

-- a text of which words are not shown is one line, whatever its parts
abbrev pub shown_parts : EntryGroups → ServerState → List ℕ → List ℕ → List (List ℕ) → List Act
shown_parts groups s target text texts =
    if hides target text then own_talk groups s target false (shown_text target text)
    else own_texts groups s target false texts
