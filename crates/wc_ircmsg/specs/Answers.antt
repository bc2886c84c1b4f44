-- What a line spells, computed.
use Rattle.std.specs.Prelude.{ℕ, ◌-◌, List, [], if◌then◌else◌, length, drop, Result, Ok, Err}
use Rattle.wc_ircmsg.specs.declared.message.Message.{Message}
use Rattle.wc_ircmsg.specs.declared.message.LineRefused.{LineRefused}
use Rattle.wc_ircmsg.specs.declared.message.LineRefused.TheVariants as Refusals
use Rattle.wc_text.specs.Splits.{past, begins_with, word_of, rest_of}
use Rattle.wc_ircmsg.specs.Commands.{is_command, is_filled}
use Rattle.wc_ircmsg.specs.Sources.{nick_of, user_of, host_of}
use Rattle.wc_ircmsg.specs.Params.{params_of}

-- the text without a first word that the byte marks
abbrev pub after_marked : ℕ → List ℕ → List ℕ
after_marked mark text = if begins_with mark text then rest_of text else text

-- that word without its mark, or nothing
abbrev pub marked_word : ℕ → List ℕ → List ℕ
marked_word mark text = if begins_with mark text then drop 1 (word_of text) else []

unfoldable pub tags_of : List ℕ → List ℕ
tags_of text = marked_word 64 (past 32 text)

unfoldable pub untagged_of : List ℕ → List ℕ
untagged_of text = after_marked 64 (past 32 text)

unfoldable pub source_of : List ℕ → List ℕ
source_of text = marked_word 58 (untagged_of text)

unfoldable pub call_of : List ℕ → List ℕ
call_of text = after_marked 58 (untagged_of text)

-- the message with these parts
unfoldable pub message_from : List ℕ → List ℕ → List ℕ → List ℕ → Message
message_from tags source command rest = record {
  tags = tags;
  nick = nick_of source;
  user = user_of source;
  host = host_of source;
  command = command;
  params = params_of 15 rest;
}

unfoldable pub refusal_of : List ℕ → LineRefused
refusal_of text = if is_filled (past 32 text)
    then Refusals.BadCommand (length text - length (call_of text)) else Refusals.Empty

-- the message that a text spells, or why it spells none
unfoldable pub reading_of : List ℕ → Result Message LineRefused
reading_of text =
    if is_command (word_of (call_of text))
    then Ok (message_from (tags_of text) (source_of text) (word_of (call_of text))
    (rest_of (call_of text)))
    else Err (refusal_of text)
