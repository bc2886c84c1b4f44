-- What a text that was read asks of servers.
use Rattle.std.specs.Prelude.{ℕ, suc, Option, Some, None, List, [], ◌∷◌, find, codes, Bool, not}
use Rattle.std.specs.Prelude.{◌&&◌, ◌||◌, ◌==◌, nat_lt, option_map}
use Rattle.std.specs.Prelude.{if◌then◌else◌}
use Rattle.std.specs.Borrow.{Bor}
use Rattle.wc_text.specs.Splits.{word_of, rest_of}
use Rattle.wc_text.specs.Words.{words_of, is_filled}
use Rattle.wc_irc_words.specs.declared.typed.ServerCommand.{ServerCommand as Lent}
use Rattle.wc_irc_words.specs.declared.typed.ServerCommand.TheVariants as lent
use Rattle.wc_irc_words.specs.declared.command_word.CommandWord.{CommandWord}
use Rattle.wc_irc_words.specs.declared.command_word.CommandWord.TheVariants as words
use Rattle.wc_irc_words.specs.Typed.{ServerCommand, AddsServer, DeletesServer, Connects, Disconnects}
use Rattle.wc_irc_words.specs.Typed.{Joins, Parts, Says, Notices, Queries, Does, Renames}
use Rattle.wc_irc_words.specs.Typed.{SetsTopic, Kicks}
use Rattle.wc_irc_words.specs.Typed.{SetsModes, AsksNames, Quotes, Talks, Wrong, is_target, one_word}
use Rattle.wc_irc_words.specs.Typed.{without_words, some_text, join_command, query_command}
use Rattle.wc_irc_words.specs.Typed.{target_and_text, is_either, Bids}
use Rattle.wc_irc_words.specs.Typed.{kick_command, mode_command, server_command, disconnect_command}
use Rattle.wc_irc_words.specs.declared.everyday.Everyday.{Everyday}
use Rattle.wc_irc_words.specs.Everyday.{everyday_name, everyday_named}

-- a word that was found
abbrev pub word_in : Option (Bor (List ℕ)) → Option (List ℕ)
word_in None = None
word_in (Some word) = Some word.now

abbrev pub meaning : Lent → ServerCommand
meaning (lent.AddServer name address tls) = AddsServer name.now address.now tls
meaning (lent.DeleteServer name) = DeletesServer name.now
meaning (lent.Connect name) = Connects name.now
meaning (lent.Disconnect name) = Disconnects (word_in name)
meaning (lent.Join channel) = Joins channel.now
meaning (lent.Part reason) = Parts reason.now
meaning (lent.Say target text) = Says target.now text.now
meaning (lent.Notice target text) = Notices target.now text.now
meaning (lent.Query nick) = Queries nick.now
meaning (lent.Act deed) = Does deed.now
meaning (lent.Nick nick) = Renames nick.now
meaning (lent.Topic topic) = SetsTopic topic.now
meaning (lent.Kick nick reason) = Kicks nick.now reason.now
meaning (lent.Mode words) = SetsModes (words_of words.now)
meaning lent.Names = AsksNames
meaning (lent.Bid word text) = Bids word text.now
meaning (lent.Quote line) = Quotes line.now
meaning (lent.Talk text) = Talks text.now
meaning (lent.Wrong name) = Wrong name.now

-- ---- the names of the commands

abbrev pub name_of : CommandWord → List ℕ
name_of words.Join = codes "join"
name_of words.Part = codes "part"
name_of words.Msg = codes "msg"
name_of words.Notice = codes "notice"
name_of words.Query = codes "query"
name_of words.Me = codes "me"
name_of words.Nick = codes "nick"
name_of words.Topic = codes "topic"
name_of words.Kick = codes "kick"
name_of words.Mode = codes "mode"
name_of words.Names = codes "names"
name_of words.Quote = codes "quote"
name_of words.Server = codes "server"
name_of words.Connect = codes "connect"
name_of words.Disconnect = codes "disconnect"
name_of (words.Everyday word) = everyday_name word

-- the letter by which it is known as well, where there is one
abbrev pub letter_of : CommandWord → List ℕ
letter_of words.Join = codes "j"
letter_of words.Msg = codes "m"
letter_of words.Query = codes "q"
letter_of words.Kick = codes "k"
letter_of words.Names = codes "n"
letter_of words.Part = codes "part"
letter_of words.Notice = codes "notice"
letter_of words.Me = codes "me"
letter_of words.Nick = codes "nick"
letter_of words.Topic = codes "topic"
letter_of words.Mode = codes "mode"
letter_of words.Quote = codes "quote"
letter_of words.Server = codes "server"
letter_of words.Connect = codes "connect"
letter_of words.Disconnect = codes "disconnect"
letter_of (words.Everyday word) = everyday_name word

abbrev pub all_words : List CommandWord
all_words = words.Join ∷ words.Part ∷ words.Msg ∷ words.Notice ∷ words.Query ∷ words.Me ∷
    words.Nick ∷ words.Topic ∷ words.Kick ∷ words.Mode ∷ words.Names ∷ words.Quote ∷ words.Server ∷
    words.Connect ∷ words.Disconnect ∷ []

-- whether a text names a command, in letters of any case
abbrev pub is_name : List ℕ → CommandWord → Bool
is_name text word = is_either text (name_of word) (letter_of word)

abbrev pub word_or : Option CommandWord → Option Everyday → Option CommandWord
word_or None everyday = option_map (λ word. words.Everyday word) everyday
word_or (Some word) everyday = Some word

abbrev pub word_named : List ℕ → Option CommandWord
word_named text = word_or (find (is_name text) all_words) (everyday_named text)

-- the only word of a text
abbrev pub only_word : List ℕ → Option (List ℕ)
only_word [] = None
only_word (b ∷ text) = if is_filled (rest_of (b ∷ text)) then None else Some (word_of (b ∷ text))

-- what a command asks with a text after it
abbrev pub asked_with : CommandWord → List ℕ → ServerCommand
asked_with words.Join text = join_command text
asked_with words.Part text = Parts text
asked_with words.Msg text = target_and_text (codes "msg") (λ t said. Says t said) text
asked_with words.Notice text = target_and_text (codes "notice") (λ t said. Notices t said) text
asked_with words.Query text = query_command text
asked_with words.Me text = some_text (codes "me") (λ deed. Does deed) text
asked_with words.Nick text = one_word (codes "nick") (λ n. Renames n) text
asked_with words.Topic text = some_text (codes "topic") (λ topic. SetsTopic topic) text
asked_with words.Kick text = kick_command text
asked_with words.Mode text = mode_command text
asked_with words.Names text = without_words (codes "names") AsksNames text
asked_with words.Quote text = some_text (codes "quote") (λ line. Quotes line) text
asked_with words.Server text = server_command text
asked_with words.Connect text = one_word (codes "connect") (λ n. Connects n) text
asked_with words.Disconnect text = disconnect_command text
asked_with (words.Everyday word) text = Bids word text

-- two words at most
abbrev pub at_most_two : List ℕ → Bool
at_most_two text = not (is_filled (rest_of (rest_of text)))

-- a target and the text after it, where both are there
abbrev pub pair_in : Option (Bor (List ℕ) × Bor (List ℕ)) → Option (List ℕ × List ℕ)
pair_in None = None
pair_in (Some (target, text)) = Some (target.now, text.now)

abbrev pub target_pair : List ℕ → Option (List ℕ × List ℕ)
target_pair text = if is_target (word_of text) && is_filled (rest_of text)
    then Some (word_of text, rest_of text) else None

-- the words that may come after so many, where the last of these may end them
abbrev pub words_from : ℕ → ℕ → Bool → List (List ℕ) → Bool
words_from most count ends [] = nat_lt 0 count
words_from most count ends (word ∷ words) = not (ends || (count == most))
    && words_from most (suc count) (not (is_target word)) words
