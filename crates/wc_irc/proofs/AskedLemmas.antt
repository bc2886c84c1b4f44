-- What is read of one line of text can be sent.
use Rattle.std.proofs.Common.{◌≡◌, ℕ, suc, ◌≤◌, Bool, true, false, cond, List, [], ◌∷◌, length, refl, ap, subst, arith, Option, Some, None, codes}
use Rattle.std.specs.Prelude.{◌&&◌, ◌||◌, ◌==◌, not, nat_lt, nat_le, filter, All}
use Rattle.std.specs.Str.{IsUtf8, bytes_eq}
use Rattle.std.specs.List.{list_all, slice_split, onto_first}
use Rattle.std.proofs.lemmas.Bool.{and_parts, and_from, not-true}
use Rattle.std.proofs.lemmas.Bool.Decides.{nat_tests}
use Rattle.wc_text.specs.Splits.{word_of, rest_of}
use Rattle.wc_text.specs.Words.{is_space, is_filled, words_of}
use Rattle.wc_text.proofs.WordsLaws.{words_of_utf8}
use Rattle.wc_ircmsg.specs.Utf8.{AreUtf8Texts}
use Rattle.wc_ircmsg.specs.Written.{ends_lines, is_one_line, are_words, needs_colon}
use Rattle.wc_irc.specs.CommandActs.{reason_params}
use Rattle.wc_irc.specs.CommandSeen.{IsLine, IsLead, AreReadyWords, IsReady, IsReadyIn}
use Rattle.wc_irc_texts.specs.Pieces.{is_bare}
use Rattle.wc_irc_words.specs.declared.command_word.CommandWord.{CommandWord}
use Rattle.wc_irc_words.specs.declared.command_word.CommandWord.TheVariants as words
use Rattle.wc_irc_words.specs.TypedSeen.{asked_with, word_named}
use Rattle.wc_irc_words.specs.Typed.{are_words_to, ServerCommand, DeletesServer, Connects, Disconnects, Joins, Says, Notices, Does, Renames, SetsTopic, Kicks, SetsModes, AsksNames, Quotes, Talks, Wrong}
use Rattle.wc_irc_words.specs.Typed.{without_words, one_word, some_text, is_target, join_command, query_command, query_with, target_and_text, kick_command, are_mode_words, ends_at_colon, mode_command, tls_words, adds_with, server_add, server_command, disconnect_command, command_of, slash_command, asked_of}
use Rattle.wc_irc.proofs.LineTextLemmas.{line_word, line_rest, line_tail}
use Rattle.wc_irc_texts.proofs.PieceLemmas.{bare_word, bare_line, no_colon}
use Rattle.wc_irc_words.proofs.TypedLemmas.{asked_by, command_named}

-- ---- words

-- a word without blanks that does not begin with `:`
lead_from : (word : List ℕ) → is_bare word ≡ true → is_target word ≡ true → IsLead word
lead_from [] bare sent = absurd (cc)
lead_from (b ∷ word) bare sent =
    let other : (b == 58) ≡ false = not-true (b == 58) sent in
    (bare_line (b ∷ word) bare, not-true (needs_colon (b ∷ word)) (no_colon b word other bare))

pub word_lead : (text : List ℕ) → IsLine text → is_target (word_of text) ≡ true → IsLead (word_of text)
word_lead text line sent = lead_from (word_of text) (bare_word text line.one) sent

-- the words between blanks
bare_parts : (text : List ℕ) → is_one_line text ≡ true → list_all is_bare (slice_split is_space text) ≡ true
bare_parts [] line = refl
bare_parts (b ∷ text) line =
    let both = and_parts (not (ends_lines b)) (is_one_line text) line in
    by (is_space b) refl (not-true (ends_lines b) both.0) (bare_parts text both.1)
  where
    onto : (parts : List (List ℕ)) → not ((b == 32) || ends_lines b) ≡ true → list_all is_bare parts ≡ true → list_all is_bare (onto_first b parts) ≡ true
    onto [] plain all = and_from (not ((b == 32) || ends_lines b) && true) true (and_from (not ((b == 32) || ends_lines b)) true plain refl) refl
    onto (part ∷ parts) plain all =
        let both = and_parts (is_bare part) (list_all is_bare parts) all in
        and_from (not ((b == 32) || ends_lines b) && is_bare part) (list_all is_bare parts) (and_from (not ((b == 32) || ends_lines b)) (is_bare part) plain both.0) both.1

    plain_byte : (t u : Bool) → t ≡ false → u ≡ false → not (t || u) ≡ true
    plain_byte t u e f = (λ i. not (e i || f i))

    by : (t : Bool) → is_space b ≡ t → ends_lines b ≡ false → list_all is_bare (slice_split is_space text) ≡ true
        → list_all is_bare (cond t ([] ∷ slice_split is_space text) (onto_first b (slice_split is_space text))) ≡ true
    by true e f all = all
    by false e f all = onto (slice_split is_space text) (plain_byte (b == 32) (ends_lines b) e f) all

filter_all : (p q : List ℕ → Bool) (xs : List (List ℕ)) → list_all p xs ≡ true → list_all p (filter q xs) ≡ true
filter_all p q [] all = refl
filter_all p q (x ∷ xs) all = let both = and_parts (p x) (list_all p xs) all in by (q x) both.0 (filter_all p q xs both.1) where
  by : (t : Bool) → p x ≡ true → list_all p (filter q xs) ≡ true → list_all p (cond t (x ∷ filter q xs) (filter q xs)) ≡ true
  by true here more = and_from (p x) (list_all p (filter q xs)) here more
  by false here more = more

bare_words : (text : List ℕ) → is_one_line text ≡ true → list_all is_bare (words_of text) ≡ true
unfolding words_of
bare_words text line = filter_all is_bare is_filled (slice_split is_space text) (bare_parts text line)

words_in_line : (words : List (List ℕ)) → list_all is_bare words ≡ true → list_all is_one_line words ≡ true
words_in_line [] all = refl
words_in_line (word ∷ words) all =
    let both = and_parts (is_bare word) (list_all is_bare words) all in
    and_from (is_one_line word) (list_all is_one_line words) (bare_line word both.0) (words_in_line words both.1)

words_sent : (words : List (List ℕ)) → list_all is_bare words ≡ true → ends_at_colon words ≡ true → are_words words ≡ true
words_sent [] all ends = refl
words_sent (word ∷ []) all ends = refl
words_sent (word ∷ next ∷ words) all ends =
    let both = and_parts (is_bare word) (list_all is_bare (next ∷ words)) all in
    let parts = and_parts (is_target word) (ends_at_colon (next ∷ words)) ends in
    and_from (not (needs_colon word)) (are_words (next ∷ words)) (ap not (lead_from word both.0 parts.0).1) (words_sent (next ∷ words) both.1 parts.1)

-- ---- forms of arguments

without_ready : (name : List ℕ) (asked : ServerCommand) (text : List ℕ) → IsReady asked → IsReady (without_words name asked text)
without_ready name asked [] ready = ready
without_ready name asked (b ∷ text) ready = tt

one_ready : (name : List ℕ) (asked : List ℕ → ServerCommand) (text : List ℕ) → IsLine text → ((word : List ℕ) → IsLine word → IsReady (asked word)) → IsReady (one_word name asked text)
one_ready name asked [] line ready = tt
one_ready name asked (b ∷ text) line ready = by (is_filled (rest_of (b ∷ text))) where
  by : (t : Bool) → IsReady (cond t (Wrong name) (asked (word_of (b ∷ text))))
  by true = tt
  by false = ready (word_of (b ∷ text)) (line_word (b ∷ text) line)

some_ready : (name : List ℕ) (asked : List ℕ → ServerCommand) (text : List ℕ) → IsReady (asked text) → IsReady (some_text name asked text)
some_ready name asked [] ready = tt
some_ready name asked (b ∷ text) ready = ready

pair_ready : (name : List ℕ) (asked : List ℕ → List ℕ → ServerCommand) (text : List ℕ) → IsLine text
    → ((target said : List ℕ) → IsLead target → IsLine target → IsLine said → IsReady (asked target said)) → IsReady (target_and_text name asked text)
pair_ready name asked text line ready = by (is_target (word_of text)) (is_filled (rest_of text)) refl where
  by : (t u : Bool) → is_target (word_of text) ≡ t → IsReady (cond (t && u) (asked (word_of text) (rest_of text)) (Wrong name))
  by true true e = ready (word_of text) (rest_of text) (word_lead text line e) (line_word text line) (line_rest text line)
  by true false e = tt
  by false u e = tt

-- a reason that is there wants a nick that can be before it
kick_sent : (text : List ℕ) → IsLine text → (is_target (word_of text) || not (is_filled (rest_of text))) ≡ true → are_words (word_of text ∷ reason_params (rest_of text)) ≡ true
kick_sent text line sent = by (rest_of text) sent where
  by : (reason : List ℕ) → (is_target (word_of text) || not (is_filled reason)) ≡ true → are_words (word_of text ∷ reason_params reason) ≡ true
  by [] sent = refl
  by (b ∷ reason) sent = and_from (not (needs_colon (word_of text))) true (ap not (word_lead text line (target (is_target (word_of text)) sent)).1) refl where
    target : (t : Bool) → (t || false) ≡ true → t ≡ true
    target true e = refl
    target false e = e

kick_ready : (text : List ℕ) → IsLine text → IsReady (kick_command text)
kick_ready text line = by (is_filled (word_of text)) (is_target (word_of text) || not (is_filled (rest_of text))) refl where
  by : (t u : Bool) → (is_target (word_of text) || not (is_filled (rest_of text))) ≡ u → IsReady (cond (t && u) (Kicks (word_of text) (rest_of text)) (Wrong (codes "kick")))
  by true true e = (kick_sent text line e, line_word text line, line_rest text line)
  by true false e = tt
  by false u e = tt

texts_from : (texts : List (List ℕ)) → All IsUtf8 texts → AreUtf8Texts texts
texts_from [] all = tt
texts_from (text ∷ texts) all = (all 0 text (omega arith), texts_from texts (λ i d inside. all (suc i) d (omega arith)))

pub words_ready : (most : ℕ) (text : List ℕ) → IsLine text → are_words_to most (words_of text) ≡ true
    → (length (words_of text) ≤ most) × (are_words (words_of text) ≡ true) × (list_all is_one_line (words_of text) ≡ true) × AreUtf8Texts (words_of text)
words_ready most text line e =
    let some = and_parts (nat_lt 0 (length (words_of text))) (nat_le (length (words_of text)) most && ends_at_colon (words_of text)) e in
    let parts = and_parts (nat_le (length (words_of text)) most) (ends_at_colon (words_of text)) some.1 in
    let bare = bare_words text line.one in
    (few (length (words_of text)) parts.0, words_sent (words_of text) bare parts.1, words_in_line (words_of text) bare, texts_from (words_of text) (words_of_utf8 text line.utf8))
  where
    few : (n : ℕ) → nat_le n most ≡ true → n ≤ most
    few n e = grind (arith, nat_tests)

pub mode_words_ready : (text : List ℕ) → IsLine text → are_mode_words (words_of text) ≡ true → AreReadyWords (words_of text)
mode_words_ready text line e = words_ready 15 text line e

mode_ready : (text : List ℕ) → IsLine text → IsReady (mode_command text)
mode_ready text line = by (are_mode_words (words_of text)) refl where
  by : (t : Bool) → are_mode_words (words_of text) ≡ t → IsReady (cond t (SetsModes (words_of text)) (Wrong (codes "mode")))
  by true e = mode_words_ready text line e
  by false e = tt

join_ready : (text : List ℕ) → IsLine text → IsReady (join_command text)
join_ready text line = by (are_mode_words (words_of text)) (not (is_filled (rest_of (rest_of text)))) refl where
  by : (t u : Bool) → are_mode_words (words_of text) ≡ t → IsReady (cond (t && u) (Joins text) (Wrong (codes "join")))
  by true true e = mode_words_ready text line e
  by true false e = tt
  by false u e = tt

query_ready : (text : List ℕ) → IsLine text → IsReady (query_command text)
query_ready text line = by (is_target (word_of text)) refl (rest_of text) (line_rest text line) where
  by : (t : Bool) → is_target (word_of text) ≡ t → (said : List ℕ) → IsLine said → IsReady (cond t (query_with (word_of text) said) (Wrong (codes "query")))
  by true e [] is = (line_word text line).utf8
  by true e (b ∷ said) is = record { lead = word_lead text line e; utf8 = (line_word text line).utf8; line = is }
  by false e said is = tt

-- ---- servers

adds_ready : (name address : List ℕ) (tls : Option (Option Bool)) → IsReady (adds_with name address tls)
adds_ready name address None = tt
adds_ready name address (Some tls) = tt

add_ready : (text : List ℕ) → IsReady (server_add text)
add_ready text = by (is_filled (word_of text) && is_filled (word_of (rest_of text))) where
  by : (t : Bool) → IsReady (cond t (adds_with (word_of text) (word_of (rest_of text)) (tls_words None (words_of (rest_of (rest_of text))))) (Wrong (codes "server")))
  by true = adds_ready (word_of text) (word_of (rest_of text)) (tls_words None (words_of (rest_of (rest_of text))))
  by false = tt

server_ready : (text : List ℕ) → IsLine text → IsReady (server_command text)
server_ready text line = by (bytes_eq (word_of text) (codes "add")) (bytes_eq (word_of text) (codes "del")) where
  by : (t u : Bool) → IsReady (cond t (server_add (rest_of text)) (cond u (one_word (codes "server") (λ name. DeletesServer name) (rest_of text)) (Wrong (codes "server"))))
  by true u = add_ready (rest_of text)
  by false true = one_ready (codes "server") (λ name. DeletesServer name) (rest_of text) (line_rest text line) (λ word is. tt)
  by false false = tt

disconnect_ready : (text : List ℕ) → IsLine text → IsReady (disconnect_command text)
disconnect_ready [] line = tt
disconnect_ready (b ∷ text) line = one_ready (codes "disconnect") (λ name. Disconnects (Some name)) (b ∷ text) line (λ word is. tt)

-- ---- commands

word_ready : (word : CommandWord) (text : List ℕ) → IsLine text → IsReady (asked_with word text)
word_ready words.Join text line = join_ready text line
word_ready words.Part text line = line
word_ready words.Msg text line = pair_ready (codes "msg") (λ t said. Says t said) text line (λ target said lead word is. record { lead = lead; utf8 = word.utf8; line = is })
word_ready words.Notice text line = pair_ready (codes "notice") (λ t said. Notices t said) text line (λ target said lead word is. record { lead = lead; utf8 = word.utf8; line = is })
word_ready words.Query text line = query_ready text line
word_ready words.Me text line = some_ready (codes "me") (λ deed. Does deed) text line
word_ready words.Nick text line = one_ready (codes "nick") (λ n. Renames n) text line (λ word is. is)
word_ready words.Topic text line = some_ready (codes "topic") (λ topic. SetsTopic topic) text line
word_ready words.Kick text line = kick_ready text line
word_ready words.Mode text line = mode_ready text line
word_ready words.Names text line = without_ready (codes "names") AsksNames text tt
word_ready words.Quote text line = some_ready (codes "quote") (λ quoted. Quotes quoted) text line
word_ready words.Server text line = server_ready text line
word_ready words.Connect text line = one_ready (codes "connect") (λ n. Connects n) text line (λ word is. tt)
word_ready words.Disconnect text line = disconnect_ready text line
word_ready (words.Everyday word) text line = line

found_ready : (found : Option CommandWord) (text : List ℕ) → IsLine text → IsReadyIn (asked_by found text)
found_ready None text line = tt
found_ready (Some word) text line = word_ready word text line

command_ready : (name text : List ℕ) → IsLine text → IsReadyIn (command_of name text)
command_ready name text line = subst IsReadyIn (command_named name text) (found_ready (word_named name) text line)

slash_ready : (text : List ℕ) → IsLine text → IsReadyIn (slash_command text)
slash_ready [] line = tt
slash_ready (b ∷ text) line = by (b == 47) where
  by : (t : Bool) → IsReadyIn (cond t (Some (Talks (b ∷ text))) (command_of (word_of (b ∷ text)) (rest_of (b ∷ text))))
  by true = line
  by false = command_ready (word_of (b ∷ text)) (rest_of (b ∷ text)) (line_rest (b ∷ text) line)

pub asked_ready : (text : List ℕ) → is_one_line text ≡ true → IsUtf8 text → IsReadyIn (asked_of text)
unfolding asked_of
asked_ready [] one utf8 = tt
asked_ready (b ∷ text) one utf8 = by (b == 47) refl where
  by : (t : Bool) → (b == 47) ≡ t → IsReadyIn (cond t (slash_command text) (Some (Talks (b ∷ text))))
  by true e = slash_ready text (line_tail b text (grind (arith, nat_tests)) (record { one = one; utf8 = utf8 }))
  by false e = record { one = one; utf8 = utf8 }
