-- Which texts are nicks and channels, and which of them are the same.
use Rattle.std.specs.Prelude.{ℕ, Bool, not, ◌&&◌, ◌||◌, ◌==◌, nat_lt, nat_le, nat_eq}
use Rattle.std.specs.Prelude.{List, length, bytes_eq, codes}
use Rattle.std.specs.List.{list_all, list_any, starts_with}
use Rattle.std.specs.Char.{is_ascii_control}
use Rattle.wc_ircmsg.specs.declared.case_map.CaseMap.{CaseMap}
use Rattle.wc_ircmsg.specs.declared.prefixes.Prefixes.{Prefixes}
use Rattle.wc_ircmsg.specs.CaseMaps.{folded_name}
use Rattle.wc_irc_texts.specs.Texts.{char_texts}

-- whether two names are the same to a server
abbrev pub is_same : CaseMap → List ℕ → List ℕ → Bool
is_same case_map a b = bytes_eq (folded_name case_map a) (folded_name case_map b)

abbrev pub begins_with_text : List ℕ → List ℕ → Bool
begins_with_text text front = starts_with nat_eq text front

-- whether a text begins with one of the characters of another
abbrev pub begins_with_char_of : List ℕ → List ℕ → Bool
begins_with_char_of characters text = list_any (begins_with_text text) (char_texts characters)

abbrev pub is_nick_byte : ℕ → Bool
is_nick_byte b = not ((b == 32) || (is_ascii_control b || ((b == 33) || (b == 64))))

-- Whether a text is a nick: it has 1 to 64 bytes, no blank, no control byte, no `!` and no `@`, and
-- begins with neither `:` nor a character of PREFIX.
unfoldable pub is_nick : Prefixes → List ℕ → Bool
is_nick prefixes text = (nat_lt 0 (length text) && nat_le (length text) 64)
    && (list_all is_nick_byte text
    && not (begins_with_text text (codes ":") || begins_with_char_of prefixes.chars text))

abbrev pub is_channel_byte : ℕ → Bool
is_channel_byte b = not ((b == 32) || (is_ascii_control b || (b == 44)))

-- Whether a text is the name of a channel: it begins with a character of CHANTYPES other than `:`,
-- and has at most 200 bytes, no blank, no comma and no control byte.
unfoldable pub is_channel : List ℕ → List ℕ → Bool
is_channel chan_types text =
    begins_with_char_of chan_types text
    && (not (begins_with_text text (codes ":"))
    && (nat_le (length text) 200 && list_all is_channel_byte text))
