-- What is typed for servers is text.
use Rattle.std.proofs.Common.{◌≡◌, ℕ, Bool, true, false, cond, List, [], ◌∷◌, codes, refl, subst, arith, Option, Some, None}
use Rattle.std.specs.Prelude.{◌&&◌, ◌||◌, ◌==◌, not}
use Rattle.std.specs.List.{All}
use Rattle.std.specs.Str.{IsUtf8, bytes_eq}
use Rattle.std.proofs.lemmas.Bool.Decides.{nat_tests}
use Rattle.std.proofs.lemmas.List.Elements.{All-nil, All-cons}
use Rattle.wc_text.specs.declared.names.Pair.{Pair}
use Rattle.wc_text.specs.Splits.{word_of, rest_of}
use Rattle.wc_text.specs.Words.{is_filled, words_of}
use Rattle.wc_irc.specs.CommandSeen.{IsLine}
use Rattle.wc_irc.specs.ServerOptions.{on_or_off, address_setting, tls_settings, settings_of}
use Rattle.wc_irc.proofs.LineTextLemmas.{line_made, line_word, line_rest, line_tail}
use Rattle.wc_irc_texts.specs.Texts.{in_one_line}
use Rattle.wc_irc_words.specs.declared.command_word.CommandWord.{CommandWord}
use Rattle.wc_irc_words.specs.declared.command_word.CommandWord.TheVariants as words
use Rattle.wc_irc_words.specs.TypedSeen.{asked_with, word_named}
use Rattle.wc_irc_words.specs.Typed.{ServerCommand, AddsServer, DeletesServer, Connects, Disconnects, Joins, Parts, Says, Notices, Queries, Does, Renames, SetsTopic, Kicks, SetsModes, AsksNames, Bids, Quotes, Talks, Wrong}
use Rattle.wc_irc_words.specs.Typed.{without_words, one_word, some_text, is_target, are_join_words, query_with, are_mode_words, tls_words, adds_with, server_add, server_command, disconnect_command, command_of, slash_command, asked_of}
use Rattle.wc_irc_words.proofs.TypedLemmas.{asked_by, command_named}
use Rattle.wc_core.specs.ServerTyped.{HasTextValue}
use Rattle.wc_core.proofs.TypedLemmas.{ascii_text}

-- ---- the address of a server that is added

abbrev AddsText : ServerCommand → Type 0
AddsText (AddsServer name address tls) = IsUtf8 address
AddsText (DeletesServer name) = Unit {0}
AddsText (Connects name) = Unit {0}
AddsText (Disconnects name) = Unit {0}
AddsText (Joins channel) = Unit {0}
AddsText (Parts reason) = Unit {0}
AddsText (Says target text) = Unit {0}
AddsText (Notices target text) = Unit {0}
AddsText (Queries nick) = Unit {0}
AddsText (Does deed) = Unit {0}
AddsText (Renames nick) = Unit {0}
AddsText (SetsTopic topic) = Unit {0}
AddsText (Kicks nick reason) = Unit {0}
AddsText (SetsModes words) = Unit {0}
AddsText AsksNames = Unit {0}
AddsText (Bids word text) = Unit {0}
AddsText (Quotes line) = Unit {0}
AddsText (Talks text) = Unit {0}
AddsText (Wrong name) = Unit {0}

abbrev AddsTextIn : Option ServerCommand → Type 0
AddsTextIn None = Unit {0}
AddsTextIn (Some command) = AddsText command

adds_if : (t : Bool) (x y : ServerCommand) → AddsText x → AddsText y → AddsText (cond t x y)
adds_if true x y p q = p
adds_if false x y p q = q

adds_one : (name : List ℕ) (asked : List ℕ → ServerCommand) (text : List ℕ) → ((word : List ℕ) → AddsText (asked word)) → AddsText (one_word name asked text)
adds_one name asked [] all = tt
adds_one name asked (b ∷ text) all = adds_if (is_filled (rest_of (b ∷ text))) (Wrong name) (asked (word_of (b ∷ text))) tt (all (word_of (b ∷ text)))

adds_some : (name : List ℕ) (asked : List ℕ → ServerCommand) (text : List ℕ) → AddsText (asked text) → AddsText (some_text name asked text)
adds_some name asked [] it = tt
adds_some name asked (b ∷ text) it = it

adds_none : (name text : List ℕ) → AddsText (without_words name AsksNames text)
adds_none name [] = tt
adds_none name (b ∷ text) = tt

adds_found : (name address : List ℕ) (tls : Option (Option Bool)) → IsUtf8 address → AddsText (adds_with name address tls)
adds_found name address None utf8 = tt
adds_found name address (Some tls) utf8 = utf8

adds_server : (text : List ℕ) → IsLine text → AddsText (server_add text)
adds_server text line =
    adds_if (is_filled (word_of text) && is_filled (word_of (rest_of text))) (adds_with (word_of text) (word_of (rest_of text)) (tls_words None (words_of (rest_of (rest_of text))))) (Wrong (codes "server"))
    (adds_found (word_of text) (word_of (rest_of text)) (tls_words None (words_of (rest_of (rest_of text)))) (line_word (rest_of text) (line_rest text line)).utf8) tt

adds_by : (text : List ℕ) → IsLine text → AddsText (server_command text)
adds_by text line =
    let deletes = one_word (codes "server") (λ name. DeletesServer name) (rest_of text) in
    adds_if (bytes_eq (word_of text) (codes "add")) (server_add (rest_of text)) (cond (bytes_eq (word_of text) (codes "del")) deletes (Wrong (codes "server"))) (adds_server (rest_of text) (line_rest text line))
    (adds_if (bytes_eq (word_of text) (codes "del")) deletes (Wrong (codes "server")) (adds_one (codes "server") (λ name. DeletesServer name) (rest_of text) (λ word. tt)) tt)

adds_end : (text : List ℕ) → AddsText (disconnect_command text)
adds_end [] = tt
adds_end (b ∷ text) = adds_one (codes "disconnect") (λ name. Disconnects (Some name)) (b ∷ text) (λ word. tt)

adds_query : (nick said : List ℕ) → AddsText (query_with nick said)
adds_query nick [] = tt
adds_query nick (b ∷ said) = tt

adds_word : (word : CommandWord) (text : List ℕ) → IsLine text → AddsText (asked_with word text)
adds_word words.Join text line = adds_if (are_join_words text) (Joins text) (Wrong (codes "join")) tt tt
adds_word words.Part text line = tt
adds_word words.Msg text line = adds_if (is_target (word_of text) && is_filled (rest_of text)) (Says (word_of text) (rest_of text)) (Wrong (codes "msg")) tt tt
adds_word words.Notice text line = adds_if (is_target (word_of text) && is_filled (rest_of text)) (Notices (word_of text) (rest_of text)) (Wrong (codes "notice")) tt tt
adds_word words.Query text line = adds_if (is_target (word_of text)) (query_with (word_of text) (rest_of text)) (Wrong (codes "query")) (adds_query (word_of text) (rest_of text)) tt
adds_word words.Me text line = adds_some (codes "me") (λ deed. Does deed) text tt
adds_word words.Nick text line = adds_one (codes "nick") (λ n. Renames n) text (λ word. tt)
adds_word words.Topic text line = adds_some (codes "topic") (λ topic. SetsTopic topic) text tt
adds_word words.Kick text line = adds_if (is_filled (word_of text) && (is_target (word_of text) || not (is_filled (rest_of text)))) (Kicks (word_of text) (rest_of text)) (Wrong (codes "kick")) tt tt
adds_word words.Mode text line = adds_if (are_mode_words (words_of text)) (SetsModes (words_of text)) (Wrong (codes "mode")) tt tt
adds_word words.Names text line = adds_none (codes "names") text
adds_word words.Quote text line = adds_some (codes "quote") (λ quoted. Quotes quoted) text tt
adds_word words.Server text line = adds_by text line
adds_word words.Connect text line = adds_one (codes "connect") (λ n. Connects n) text (λ word. tt)
adds_word words.Disconnect text line = adds_end text
adds_word (words.Everyday word) text line = tt

adds_named : (found : Option CommandWord) (text : List ℕ) → IsLine text → AddsTextIn (asked_by found text)
adds_named None text line = tt
adds_named (Some word) text line = adds_word word text line

adds_command : (name text : List ℕ) → IsLine text → AddsTextIn (command_of name text)
adds_command name text line = subst AddsTextIn (command_named name text) (adds_named (word_named name) text line)

adds_slash : (text : List ℕ) → IsLine text → AddsTextIn (slash_command text)
adds_slash [] line = tt
adds_slash (b ∷ text) line = by (b == 47) where
  by : (t : Bool) → AddsTextIn (cond t (Some (Talks (b ∷ text))) (command_of (word_of (b ∷ text)) (rest_of (b ∷ text))))
  by true = tt
  by false = adds_command (word_of (b ∷ text)) (rest_of (b ∷ text)) (line_rest (b ∷ text) line)

adds_asked : (text : List ℕ) → IsLine text → AddsTextIn (asked_of text)
unfolding asked_of
adds_asked [] line = tt
adds_asked (b ∷ text) line = by (b == 47) refl where
  by : (t : Bool) → (b == 47) ≡ t → AddsTextIn (cond t (slash_command text) (Some (Talks (b ∷ text))))
  by true e = adds_slash text (line_tail b text (grind (arith, nat_tests)) line)
  by false e = tt

pub added_text : (line name address : List ℕ) (tls : Option Bool) → IsUtf8 line → asked_of (in_one_line line) ≡ Some (AddsServer name address tls) → IsUtf8 address
added_text line name address tls utf8 e = subst AddsTextIn e (adds_asked (in_one_line line) (line_made line utf8))

-- ---- the options that it sets

tls_text : (b : Bool) → IsUtf8 (on_or_off b)
tls_text true = ascii_text (codes "on") refl
tls_text false = ascii_text (codes "off") refl

tls_texts : (name : List ℕ) (tls : Option Bool) → All HasTextValue (tls_settings name tls)
tls_texts name None = All-nil HasTextValue
tls_texts name (Some b) = All-cons HasTextValue _ [] (tls_text b) (All-nil HasTextValue)

pub settings_text : (name address : List ℕ) (tls : Option Bool) (settings : List Pair) → settings ≡ settings_of name address tls → IsUtf8 address → All HasTextValue settings
settings_text name address tls settings e utf8 = rw e (All-cons HasTextValue (address_setting name address) (tls_settings name tls) utf8 (tls_texts name tls))
