-- The channels that a server joins by itself.
use Rattle.std.specs.Prelude.{ℕ, List, [], ◌∷◌, ◌++◌, codes, drop, slice_index_or}
use Rattle.std.specs.Prelude.{if◌then◌else◌}
use Rattle.wc_text.specs.Splits.{past, word_of, rest_of}
use Rattle.wc_ircmsg.specs.declared.message.Message.{Message}
use Rattle.wc_ircmsg.specs.Written.{line_of}
use Rattle.wc_irc_texts.specs.Pieces.{pieces}
use Rattle.wc_irc_texts.specs.Texts.{in_one_line}
use Rattle.wc_irc_words.specs.Typed.{is_target}

-- a message without tags and a prefix
abbrev pub message : List ℕ → List (List ℕ) → Message
message command params = record {
  tags = [];
  nick = [];
  user = [];
  host = [];
  command = command;
  params = params;
}

-- the channel with its key, where it has one
abbrev pub join_params : List ℕ → List ℕ → List (List ℕ)
join_params channel [] = channel ∷ []
join_params channel (b ∷ key) = channel ∷ (b ∷ key) ∷ []

abbrev pub join_line : List ℕ → List ℕ → List ℕ
join_line channel key = line_of (message (codes "JOIN") (join_params channel key))

-- an empty channel is passed over, and so is one that cannot be sent before a key
abbrev pub join : List ℕ → List ℕ → List (List ℕ)
join channel key = if is_target channel then join_line channel key ∷ [] else []

-- one line for each channel, with the key at its place
abbrev pub joins_from : List (List ℕ) → List (List ℕ) → List (List ℕ)
joins_from [] keys = []
joins_from (channel ∷ channels) keys = join channel (slice_index_or keys 0 [])
    ++ joins_from channels (drop 1 keys)

-- the first word of a text and the second, which are empty where there are not so many
abbrev pub first_word : List ℕ → List ℕ
first_word text = word_of (past 32 text)

abbrev pub second_word : List ℕ → List ℕ
second_word text = word_of (rest_of (past 32 text))

-- one line for each channel of the first word, with the key at its place in the second
abbrev pub joins_of : List ℕ → List (List ℕ)
joins_of text = joins_from (pieces (first_word text)) (pieces (second_word text))

abbrev pub autojoin_lines : List ℕ → List (List ℕ)
autojoin_lines value = joins_of (in_one_line value)
