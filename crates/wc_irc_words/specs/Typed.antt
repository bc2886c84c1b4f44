-- What a text that is typed asks of servers, by its bytes alone.
use Rattle.std.specs.Prelude.{ℕ, Bool, true, false, not, ◌&&◌, ◌||◌, ◌==◌, nat_lt, nat_le, List, []}
use Rattle.std.specs.Prelude.{◌∷◌, codes, length, Option, Some, None, if◌then◌else◌}
use Rattle.std.specs.Prelude.{option_map}
use Rattle.std.specs.Str.{bytes_eq, str_eq_ignore_ascii_case}
use Rattle.wc_text.specs.Splits.{begins_with, word_of, rest_of}
use Rattle.wc_text.specs.Words.{words_of, is_filled}
use Rattle.wc_irc_words.specs.declared.everyday.Everyday.{Everyday}
use Rattle.wc_irc_words.specs.Everyday.{everyday_named}

pub data ServerCommand : Type 0 where
  -- a server's name and address, and whether it is to use TLS, where that is said
  AddsServer : List ℕ → List ℕ → Option Bool → ServerCommand
  DeletesServer : List ℕ → ServerCommand
  Connects : List ℕ → ServerCommand
  -- the server that is named, or else that of the buffer
  Disconnects : Option (List ℕ) → ServerCommand
  -- one or two words: channels, and the keys of the first of them, each parted at commas
  Joins : List ℕ → ServerCommand
  -- with a channel that is joined, or else of the buffer's, and a reason, of which each may be left
  -- out
  Parts : List ℕ → ServerCommand
  -- a text to a target
  Says : List ℕ → List ℕ → ServerCommand
  Notices : List ℕ → List ℕ → ServerCommand
  Queries : List ℕ → ServerCommand
  -- a deed on the channel or with the nick of the buffer
  Does : List ℕ → ServerCommand
  Renames : List ℕ → ServerCommand
  SetsTopic : List ℕ → ServerCommand
  -- a nick with a reason, which may be empty
  Kicks : List ℕ → List ℕ → ServerCommand
  SetsModes : List (List ℕ) → ServerCommand
  AsksNames : ServerCommand
  -- an everyday command with what comes after its name
  Bids : Everyday → List ℕ → ServerCommand
  -- a line as it stands
  Quotes : List ℕ → ServerCommand
  -- a text on the channel or to the nick of the buffer
  Talks : List ℕ → ServerCommand
  -- the arguments of the command of this name are wrong
  Wrong : List ℕ → ServerCommand

-- ---- forms of arguments, after the command's name

-- no words
abbrev pub without_words : List ℕ → ServerCommand → List ℕ → ServerCommand
without_words name asked [] = asked
without_words name asked (b ∷ text) = Wrong name

-- one word, and nothing after it
abbrev pub one_word : List ℕ → (List ℕ → ServerCommand) → List ℕ → ServerCommand
one_word name asked [] = Wrong name
one_word name asked (b ∷ text) = if is_filled (rest_of (b ∷ text)) then Wrong name
    else asked (word_of (b ∷ text))

-- a text up to the end, which is not empty
abbrev pub some_text : List ℕ → (List ℕ → ServerCommand) → List ℕ → ServerCommand
some_text name asked [] = Wrong name
some_text name asked (b ∷ text) = asked (b ∷ text)

-- whether a word can be sent before the last parameter
abbrev pub is_target : List ℕ → Bool
is_target word = is_filled word && not (begins_with 58 word)

-- a word that can be sent before others, and a text that is not empty
abbrev pub target_and_text : List ℕ → (List ℕ → List ℕ → ServerCommand) → List ℕ → ServerCommand
target_and_text name asked text = if is_target (word_of text) && is_filled (rest_of text)
    then asked (word_of text) (rest_of text) else Wrong name

-- ---- `/kick`: the nick is the last parameter where there is no reason

abbrev pub kick_command : List ℕ → ServerCommand
kick_command text =
    if is_filled (word_of text)
    && (is_target (word_of text) || not (is_filled (rest_of text)))
    then Kicks (word_of text) (rest_of text) else Wrong (codes "kick")

-- ---- words of which the last alone may begin with `:`

abbrev pub ends_at_colon : List (List ℕ) → Bool
ends_at_colon [] = true
ends_at_colon (word ∷ []) = true
ends_at_colon (word ∷ next ∷ words) = is_target word && ends_at_colon (next ∷ words)

-- one such word to so many
abbrev pub are_words_to : ℕ → List (List ℕ) → Bool
are_words_to most words = nat_lt 0 (length words)
    && (nat_le (length words) most && ends_at_colon words)

-- ---- `/mode`: 1 to 15 of them

abbrev pub are_mode_words : List (List ℕ) → Bool
are_mode_words words = are_words_to 15 words

abbrev pub mode_command : List ℕ → ServerCommand
mode_command text = if are_mode_words (words_of text) then SetsModes (words_of text)
    else Wrong (codes "mode")

-- ---- `/join`: one or two words, of which the last alone may begin with `:`

abbrev pub are_join_words : List ℕ → Bool
are_join_words text = are_mode_words (words_of text) && not (is_filled (rest_of (rest_of text)))

abbrev pub join_command : List ℕ → ServerCommand
join_command text = if are_join_words text then Joins text else Wrong (codes "join")

-- ---- `/query`: a word that can be sent before others, and a text that is said, where there is one

abbrev pub query_with : List ℕ → List ℕ → ServerCommand
query_with nick [] = Queries nick
query_with nick (b ∷ text) = Says nick (b ∷ text)

abbrev pub query_command : List ℕ → ServerCommand
query_command text = if is_target (word_of text) then query_with (word_of text) (rest_of text)
    else Wrong (codes "query")

-- ---- `/server` and `/disconnect`

-- after the address `-tls` or `-notls`, of which the last counts; None where another word is there
abbrev pub tls_words : Option Bool → List (List ℕ) → Option (Option Bool)
tls_words tls [] = Some tls
tls_words tls (word ∷ words) =
    if bytes_eq word (codes "-tls") then tls_words (Some true) words else (
    if bytes_eq word (codes "-notls") then tls_words (Some false) words else None)

abbrev pub wrong_server : ServerCommand
wrong_server = Wrong (codes "server")

abbrev pub adds_with : List ℕ → List ℕ → Option (Option Bool) → ServerCommand
adds_with name address None = wrong_server
adds_with name address (Some tls) = AddsServer name address tls

abbrev pub server_add : List ℕ → ServerCommand
server_add text =
    if is_filled (word_of text) && is_filled (word_of (rest_of text))
    then adds_with (word_of text) (word_of (rest_of text))
    (tls_words None (words_of (rest_of (rest_of text)))) else wrong_server

abbrev pub server_command : List ℕ → ServerCommand
server_command text =
    if bytes_eq (word_of text) (codes "add") then server_add (rest_of text) else (
    if bytes_eq (word_of text) (codes "del")
    then one_word (codes "server") (λ name. DeletesServer name) (rest_of text)
    else wrong_server)

abbrev pub disconnect_command : List ℕ → ServerCommand
disconnect_command [] = Disconnects None
disconnect_command (b ∷ text) = one_word (codes "disconnect") (λ name. Disconnects (Some name))
    (b ∷ text)

-- ---- commands

-- names are known in letters of any case
abbrev pub is_called : List ℕ → List ℕ → Bool
is_called name word = str_eq_ignore_ascii_case name word

-- and some by a letter as well
abbrev pub is_either : List ℕ → List ℕ → List ℕ → Bool
is_either name word letter = is_called name word || is_called name letter

-- what a command of this name asks with this text; None where it is another command
unfoldable pub command_of : List ℕ → List ℕ → Option ServerCommand
command_of name text =
    if is_either name (codes "join") (codes "j") then Some (join_command text) else (
    if is_called name (codes "part") then Some (Parts text) else (
    if is_either name (codes "msg") (codes "m")
    then Some (target_and_text (codes "msg") (λ t said. Says t said) text) else (
    if is_called name (codes "notice")
    then Some (target_and_text (codes "notice") (λ t said. Notices t said) text) else (
    if is_either name (codes "query") (codes "q")
    then Some (query_command text) else (
    if is_called name (codes "me") then Some (some_text (codes "me") (λ deed. Does deed) text)
    else (
    if is_called name (codes "nick") then Some (one_word (codes "nick") (λ n. Renames n) text)
    else (
    if is_called name (codes "topic")
    then Some (some_text (codes "topic") (λ topic. SetsTopic topic) text) else (
    if is_either name (codes "kick") (codes "k") then Some (kick_command text) else (
    if is_called name (codes "mode") then Some (mode_command text) else (
    if is_either name (codes "names") (codes "n") then Some (without_words (codes "names") AsksNames text)
    else (
    if is_called name (codes "quote")
    then Some (some_text (codes "quote") (λ line. Quotes line) text) else (
    if is_called name (codes "server") then Some (server_command text) else (
    if is_called name (codes "connect")
    then Some (one_word (codes "connect") (λ n. Connects n) text) else (
    if is_called name (codes "disconnect") then Some (disconnect_command text)
    else option_map (λ word. Bids word text) (everyday_named name)))))))))))))))

-- after a first `/`: a second one makes a text of it, which begins with that one
abbrev pub slash_command : List ℕ → Option ServerCommand
slash_command [] = None
slash_command (b ∷ text) = if b == 47 then Some (Talks (b ∷ text))
    else command_of (word_of (b ∷ text)) (rest_of (b ∷ text))

-- What a text asks of servers. None where it is empty or another command. It has no CR, LF and NUL
-- any more.
unfoldable pub asked_of : List ℕ → Option ServerCommand
asked_of [] = None
asked_of (b ∷ text) = if b == 47 then slash_command text else Some (Talks (b ∷ text))
