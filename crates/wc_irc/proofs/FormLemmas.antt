-- What everyday commands are for can be done as it stands.
use Rattle.std.proofs.Common.{◌≡◌, ℕ, ◌<◌, ◌≤◌, Bool, true, false, cond, List, [], ◌∷◌, ◌++◌, length, map, refl, ap, ◌∙◌, arith, Option, Some, None, codes}
use Rattle.std.specs.Prelude.{◌&&◌, ◌||◌, ◌==◌, not}
use Rattle.std.specs.List.{list_all, list_any}
use Rattle.std.specs.Str.{IsUtf8}
use Rattle.std.proofs.lemmas.Bool.{and_parts, and_from, not-true}
use Rattle.std.proofs.lemmas.List.Folds.{list_all-append}
use Rattle.std.proofs.lemmas.Str.{IsUtf8-append, IsUtf8-nil}
use Rattle.wc_text.specs.Splits.{word_of, rest_of}
use Rattle.wc_text.specs.Words.{is_filled, words_of}
use Rattle.wc_text.proofs.Utf8Lemmas.{utf8_one, utf8_cons}
use Rattle.wc_ircmsg.specs.Commands.{is_command}
use Rattle.wc_ircmsg.specs.Utf8.{AreUtf8Texts}
use Rattle.wc_ircmsg.specs.Written.{ends_lines, is_one_line, are_words, needs_colon}
use Rattle.wc_irc.specs.Autojoin.{message}
use Rattle.wc_irc.specs.CommandActs.{Place, channel_in, Errand, Sends, no_channel, may_lead, reason_params, wrong_arguments, words_line, text_line, with_channel, nick_and_channel, mode_letters, mode_params, modes_of, ban_and_kick, part_and_join, request, is_right, form_errand, everyday_errand}
use Rattle.wc_irc.specs.CommandSeen.{IsLine, IsLead, IsSent, IsFit, IsUtf8In}
use Rattle.wc_irc_words.specs.declared.everyday.Everyday.{Everyday}
use Rattle.wc_irc_words.specs.declared.everyday.Everyday.TheVariants as word
use Rattle.wc_irc_words.specs.declared.everyday.Form.{Form}
use Rattle.wc_irc_words.specs.declared.everyday.Form.TheVariants as form
use Rattle.wc_irc_words.specs.Everyday.{everyday_name, everyday_command, form_of}
use Rattle.wc_irc_words.specs.Typed.{is_target}
use Rattle.wc_irc.proofs.AskedLemmas.{word_lead, words_ready}
use Rattle.wc_irc.proofs.LineTextLemmas.{line_word, line_rest}

-- ---- lines

abbrev byte_line : ℕ → Bool
byte_line b = not (ends_lines b)

joined_line : (front back : List ℕ) → is_one_line front ≡ true → is_one_line back ≡ true → is_one_line (front ++ back) ≡ true
joined_line front back first second = list_all-append byte_line front back ∙ and_from (is_one_line front) (is_one_line back) first second

words_in : (command text : List ℕ) → is_one_line command ≡ true → is_one_line text ≡ true → is_one_line (words_line command text) ≡ true
words_in command [] known line = known
words_in command (b ∷ text) known line = joined_line command (32 ∷ (b ∷ text)) known line

text_in : (front text : List ℕ) → is_one_line front ≡ true → is_one_line text ≡ true → is_one_line (text_line front text) ≡ true
text_in front [] known line = known
text_in front (b ∷ text) known line = joined_line front (32 ∷ 58 ∷ (b ∷ text)) known line

-- ---- messages of a channel

lead_word : (w : List ℕ) → IsLead w → not (needs_colon w) ≡ true
lead_word w lead = ap not lead.1

-- a channel and words after it
led_words : (command channel : List ℕ) (words : List (List ℕ)) → is_command command ≡ true → IsLead channel → IsUtf8 channel → length words < 15 → (are_words words ≡ true)
    → (list_all is_one_line words ≡ true) → AreUtf8Texts words → IsSent (message command (channel ∷ words))
led_words command channel [] known lead utf8 few are lines texts = (
  record { command = known; few = omega arith; words = refl; one_line = and_from (is_one_line channel) true lead.0 refl },
  (utf8, tt),
)
led_words command channel (w ∷ words) known lead utf8 few are lines texts = (
  record {
    command = known;
    few = omega (arith, few);
    words = and_from (not (needs_colon channel)) (are_words (w ∷ words)) (lead_word channel lead) are;
    one_line = and_from (is_one_line channel) (list_all is_one_line (w ∷ words)) lead.0 lines;
  },
  (utf8, texts),
)

channel_lead : (channel : List ℕ) → may_lead channel ([] ∷ []) ≡ true → IsLead channel
channel_lead channel e = let both = and_parts (is_one_line channel) (not (needs_colon channel)) e in (both.0, not-true (needs_colon channel) both.1)

channel_fits : (errand : List ℕ → Errand) (here : Option (List ℕ)) → IsUtf8In here → ((channel : List ℕ) → IsLead channel → IsUtf8 channel → IsFit (errand channel)) → IsFit (with_channel errand here)
channel_fits errand None utf8 each = tt
channel_fits errand (Some channel) utf8 each = by (may_lead channel ([] ∷ [])) refl where
  by : (t : Bool) → may_lead channel ([] ∷ []) ≡ t → IsFit (cond t (errand channel) no_channel)
  by true e = each channel (channel_lead channel e) utf8
  by false e = tt

pub pair_fit : (command nick channel : List ℕ) → is_command command ≡ true → IsLead nick → IsUtf8 nick → IsLine channel → IsSent (message command (nick ∷ channel ∷ []))
pair_fit command nick channel known lead utf8 line = led_words command nick (channel ∷ []) known lead utf8 (omega arith) refl (and_from (is_one_line channel) true line.one refl) (line.utf8, tt)

nick_fit : (command : List ℕ) (here : Option (List ℕ)) (nick channel : List ℕ) → is_command command ≡ true → IsUtf8In here → IsLead nick → IsUtf8 nick → IsLine channel → IsFit (nick_and_channel command here nick channel)
nick_fit command here nick [] known place lead utf8 line =
    channel_fits (λ channel. Sends (message command (nick ∷ channel ∷ []))) here place (λ channel is text. pair_fit command nick channel known lead utf8 (record { one = is.0; utf8 = text }))
nick_fit command here nick (b ∷ channel) known place lead utf8 line = pair_fit command nick (b ∷ channel) known lead utf8 line

pub reason_fit : (command channel reason : List ℕ) → is_command command ≡ true → IsLead channel → IsUtf8 channel → IsLine reason → IsSent (message command (channel ∷ reason_params reason))
reason_fit command channel [] known lead utf8 line = led_words command channel [] known lead utf8 (omega arith) refl refl tt
reason_fit command channel (b ∷ reason) known lead utf8 line = pair_fit command channel (b ∷ reason) known lead utf8 line

kick_fit : (channel nick reason : List ℕ) → IsLead channel → IsUtf8 channel → IsLead nick → IsUtf8 nick → IsLine reason → IsSent (message (codes "KICK") (channel ∷ nick ∷ reason_params reason))
kick_fit channel nick [] lead utf8 named text line = led_words (codes "KICK") channel (nick ∷ []) refl lead utf8 (omega arith) refl (and_from (is_one_line nick) true named.0 refl) (text, tt)
kick_fit channel nick (b ∷ reason) lead utf8 named text line =
    led_words (codes "KICK") channel (nick ∷ (b ∷ reason) ∷ []) refl lead utf8 (omega arith) (and_from (not (needs_colon nick)) true (lead_word nick named) refl)
    (and_from (is_one_line nick) (is_one_line (b ∷ reason) && true) named.0 (and_from (is_one_line (b ∷ reason)) true line.one refl)) (text, (line.utf8, tt))

-- the mask of a nick
mask_text : IsUtf8 (codes "!*@*")
mask_text = utf8_cons 33 (codes "*@*") (omega arith) (utf8_cons 42 (codes "@*") (omega arith) (utf8_cons 64 (codes "*") (omega arith) (utf8_one 42 (omega arith))))

plus_b : IsUtf8 (codes "+b")
plus_b = utf8_cons 43 (codes "b") (omega arith) (utf8_one 98 (omega arith))

ban_fit : (channel nick : List ℕ) → IsLead channel → IsUtf8 channel → IsLead nick → IsUtf8 nick → IsSent (message (codes "MODE") (channel ∷ codes "+b" ∷ (nick ++ codes "!*@*") ∷ []))
ban_fit channel nick lead utf8 named text =
    let mask = nick ++ codes "!*@*" in
    let one : is_one_line mask ≡ true = joined_line nick (codes "!*@*") named.0 refl in
    led_words (codes "MODE") channel (codes "+b" ∷ mask ∷ []) refl lead utf8 (omega arith) refl (and_from (is_one_line mask) true one refl)
    (plus_b, (IsUtf8-append nick (codes "!*@*") text mask_text, tt))

-- ---- letters of modes

pub record IsLetter (letter : ℕ) : Type 0 where
  pub small : letter < 128
  pub filled : (letter == 32) ≡ false
  pub inside : ends_lines letter ≡ false

letters_bare : (letter : ℕ) (names : List (List ℕ)) → (letter == 32) ≡ false → list_any (λ c. c == 32) (map (λ (name : List ℕ). letter) names) ≡ false
letters_bare letter [] e = refl
letters_bare letter (name ∷ names) e = ap (λ t. t || list_any (λ c. c == 32) (map (λ (name : List ℕ). letter) names)) e ∙ letters_bare letter names e

letters_line : (letter : ℕ) (names : List (List ℕ)) → ends_lines letter ≡ false → is_one_line (map (λ (name : List ℕ). letter) names) ≡ true
letters_line letter [] e = refl
letters_line letter (name ∷ names) e = and_from (not (ends_lines letter)) (is_one_line (map (λ (name : List ℕ). letter) names)) (ap not e) (letters_line letter names e)

letters_text : (letter : ℕ) (names : List (List ℕ)) → letter < 128 → IsUtf8 (map (λ (name : List ℕ). letter) names)
letters_text letter [] small = IsUtf8-nil
letters_text letter (name ∷ names) small = utf8_cons letter (map (λ (name : List ℕ). letter) names) small (letters_text letter names small)

letters_lead : (adds : Bool) (letter : ℕ) (names : List (List ℕ)) → IsLetter letter → IsLead (mode_letters adds letter names)
letters_lead true letter names is = (letters_line letter names is.inside, letters_bare letter names is.filled)
letters_lead false letter names is = (letters_line letter names is.inside, letters_bare letter names is.filled)

letters_utf8 : (adds : Bool) (letter : ℕ) (names : List (List ℕ)) → IsLetter letter → IsUtf8 (mode_letters adds letter names)
letters_utf8 true letter names is = utf8_cons 43 _ (omega arith) (letters_text letter names is.small)
letters_utf8 false letter names is = utf8_cons 45 _ (omega arith) (letters_text letter names is.small)

modes_sent : (adds : Bool) (letter : ℕ) (names : List (List ℕ)) (channel : List ℕ) → IsLetter letter → length names ≤ 4 → are_words names ≡ true → list_all is_one_line names ≡ true → AreUtf8Texts names → IsLead channel → IsUtf8 channel → IsSent (message (codes "MODE") (mode_params adds letter channel names))
modes_sent adds letter names channel is few are lines texts lead utf8 =
    let own = letters_lead adds letter names is in
    let more : length (mode_letters adds letter names ∷ names) < 15 = omega (arith, few) in
    led_words (codes "MODE") channel (mode_letters adds letter names ∷ names) refl lead utf8 more (words names are own)
    (and_from (is_one_line (mode_letters adds letter names)) (list_all is_one_line names) own.0 lines) (letters_utf8 adds letter names is, texts)
  where
    words : (rest : List (List ℕ)) → are_words rest ≡ true → IsLead (mode_letters adds letter names) → are_words (mode_letters adds letter names ∷ rest) ≡ true
    words [] are own = refl
    words (w ∷ rest) are own = and_from (not (needs_colon (mode_letters adds letter names))) (are_words (w ∷ rest)) (lead_word (mode_letters adds letter names) own) are

-- names that can be sent, in any number
pub record AreNames (names : List (List ℕ)) : Type 0 where
  pub are : are_words names ≡ true
  pub lines : list_all is_one_line names ≡ true
  pub texts : AreUtf8Texts names

one_less : (name : List ℕ) (names : List (List ℕ)) → AreNames (name ∷ names) → AreNames names
one_less name [] are = record { are = refl; lines = refl; texts = tt }
one_less name (next ∷ names) are = record {
  are = (and_parts (not (needs_colon name)) (are_words (next ∷ names)) are.are).1;
  lines = (and_parts (is_one_line name) (list_all is_one_line (next ∷ names)) are.lines).1;
  texts = are.texts.1;
}

one_more : (name next : List ℕ) (others rest : List (List ℕ)) → AreNames (name ∷ next ∷ rest) → AreNames (next ∷ others) → AreNames (name ∷ next ∷ others)
one_more name next others rest whole are = record {
  are = and_from (not (needs_colon name)) (are_words (next ∷ others)) (and_parts (not (needs_colon name)) (are_words (next ∷ rest)) whole.are).0 are.are;
  lines = and_from (is_one_line name) (list_all is_one_line (next ∷ others)) (and_parts (is_one_line name) (list_all is_one_line (next ∷ rest)) whole.lines).0 are.lines;
  texts = (whole.texts.0, are.texts);
}

alone : (name : List ℕ) (names : List (List ℕ)) → AreNames (name ∷ names) → AreNames (name ∷ [])
alone name names are = record { are = refl; lines = and_from (is_one_line name) true (and_parts (is_one_line name) (list_all is_one_line names) are.lines).0 refl; texts = (are.texts.0, tt) }

first_four : (a b c d : List ℕ) (names : List (List ℕ)) → AreNames (a ∷ b ∷ c ∷ d ∷ names) → AreNames (a ∷ b ∷ c ∷ d ∷ [])
first_four a b c d names are =
    let second = one_less a (b ∷ c ∷ d ∷ names) are in
    let third = one_less b (c ∷ d ∷ names) second in
    let fourth = one_less c (d ∷ names) third in
    one_more a b (c ∷ d ∷ []) (c ∷ d ∷ names) are (one_more b c (d ∷ []) (d ∷ names) second (one_more c d [] names third (alone d names fourth)))

modes_fit : (adds : Bool) (letter : ℕ) (names : List (List ℕ)) (channel : List ℕ) → IsLetter letter → AreNames names → IsLead channel → IsUtf8 channel → IsFit (modes_of adds letter names channel)
modes_fit adds letter [] channel is are lead utf8 = tt
modes_fit adds letter (a ∷ []) channel is are lead utf8 = (modes_sent adds letter (a ∷ []) channel is (omega arith) are.are are.lines are.texts lead utf8, tt)
modes_fit adds letter (a ∷ b ∷ []) channel is are lead utf8 = (modes_sent adds letter (a ∷ b ∷ []) channel is (omega arith) are.are are.lines are.texts lead utf8, tt)
modes_fit adds letter (a ∷ b ∷ c ∷ []) channel is are lead utf8 = (modes_sent adds letter (a ∷ b ∷ c ∷ []) channel is (omega arith) are.are are.lines are.texts lead utf8, tt)
modes_fit adds letter (a ∷ b ∷ c ∷ d ∷ names) channel is are lead utf8 =
    let first = first_four a b c d names are in
    let rest = one_less d names (one_less c (d ∷ names) (one_less b (c ∷ d ∷ names) (one_less a (b ∷ c ∷ d ∷ names) are))) in
    (modes_sent adds letter (a ∷ b ∷ c ∷ d ∷ []) channel is (omega arith) first.are first.lines first.texts lead utf8, modes_fit adds letter names channel is rest lead utf8)

-- ---- forms

abbrev HasLetter : Form → Type 0
HasLetter form.Words = Unit {0}
HasLetter form.SomeWords = Unit {0}
HasLetter form.Text = Unit {0}
HasLetter form.WordAndText = Unit {0}
HasLetter form.NickAndChannel = Unit {0}
HasLetter (form.Modes adds letter) = IsLetter letter
HasLetter form.BanAndKick = Unit {0}
HasLetter form.Request = Unit {0}
HasLetter form.PartAndJoin = Unit {0}

request_line : (text : List ℕ) → IsLine text → IsLine (request text)
request_line text line = record {
  one = joined_line text (1 ∷ []) line.one refl;
  utf8 = utf8_cons 1 (text ++ 1 ∷ []) (omega arith) (IsUtf8-append text (1 ∷ []) line.utf8 (utf8_one 1 (omega arith)));
}

form_fit : (place : Place) (f : Form) (command text : List ℕ) → IsUtf8In (channel_in place) → is_command command ≡ true → is_one_line command ≡ true → HasLetter f → is_right f text ≡ true → IsLine text
    → IsFit (form_errand place f command text)
form_fit place form.Words command text utf8 known one has right line = words_in command text one line.one
form_fit place form.SomeWords command text utf8 known one has right line = words_in command text one line.one
form_fit place form.Text command text utf8 known one has right line = text_in command text one line.one
form_fit place form.WordAndText command text utf8 known one has right line =
    text_in (words_line command (word_of text)) (rest_of text) (words_in command (word_of text) one (line_word text line).one) (line_rest text line).one
form_fit place form.NickAndChannel command text utf8 known one has right line =
    let target = (and_parts (is_target (word_of text)) (not (is_filled (rest_of (rest_of text)))) right).0 in
    nick_fit command (channel_in place) (word_of text) (word_of (rest_of text)) known utf8 (word_lead text line target) (line_word text line).utf8 (line_word (rest_of text) (line_rest text line))
form_fit place (form.Modes adds letter) command text utf8 known one has right line =
    let ready = words_ready 100 text line right in
    let names : AreNames (words_of text) = record { are = ready.1; lines = ready.2; texts = ready.3 } in
    channel_fits (modes_of adds letter (words_of text)) (channel_in place) utf8 (λ channel lead its. modes_fit adds letter (words_of text) channel has names lead its)
form_fit place form.BanAndKick command text utf8 known one has right line =
    let named = word_lead text line right in
    let its = (line_word text line).utf8 in
    channel_fits (ban_and_kick (word_of text) (rest_of text)) (channel_in place) utf8
    (λ channel lead own. (ban_fit channel (word_of text) lead own named its, kick_fit channel (word_of text) (rest_of text) lead own named its (line_rest text line)))
form_fit place form.Request command text utf8 known one has right line =
    let target = (and_parts (is_target (word_of text)) (is_filled (rest_of text)) right).0 in
    let said = request_line (rest_of text) (line_rest text line) in
    let its = (line_word text line).utf8 in
    record { lead = word_lead text line target; utf8 = its; line = said }
form_fit place form.PartAndJoin command text utf8 known one has right line =
    channel_fits (part_and_join text) (channel_in place) utf8
    (λ channel lead own. (reason_fit (codes "PART") channel text refl lead own line, reason_fit (codes "JOIN") channel [] refl lead own (record { one = refl; utf8 = IsUtf8-nil })))

-- ---- the table

-- each has a command that a line may begin with
spelled : (w : Everyday) → (is_command (everyday_command w) ≡ true) × (is_one_line (everyday_command w) ≡ true)
spelled word.Whois = (refl, refl)
spelled word.Whowas = (refl, refl)
spelled word.Who = (refl, refl)
spelled word.List = (refl, refl)
spelled word.Away = (refl, refl)
spelled word.Invite = (refl, refl)
spelled word.Op = (refl, refl)
spelled word.Deop = (refl, refl)
spelled word.Voice = (refl, refl)
spelled word.Devoice = (refl, refl)
spelled word.Halfop = (refl, refl)
spelled word.Dehalfop = (refl, refl)
spelled word.Ban = (refl, refl)
spelled word.Unban = (refl, refl)
spelled word.Kickban = (refl, refl)
spelled word.Ctcp = (refl, refl)
spelled word.Ping = (refl, refl)
spelled word.Motd = (refl, refl)
spelled word.Cycle = (refl, refl)
spelled word.Oper = (refl, refl)
spelled word.Knock = (refl, refl)
spelled word.Time = (refl, refl)
spelled word.Version = (refl, refl)
spelled word.Stats = (refl, refl)

letters : (w : Everyday) → HasLetter (form_of w)
letters word.Whois = tt
letters word.Whowas = tt
letters word.Who = tt
letters word.List = tt
letters word.Away = tt
letters word.Invite = tt
letters word.Op = record { small = omega arith; filled = refl; inside = refl }
letters word.Deop = record { small = omega arith; filled = refl; inside = refl }
letters word.Voice = record { small = omega arith; filled = refl; inside = refl }
letters word.Devoice = record { small = omega arith; filled = refl; inside = refl }
letters word.Halfop = record { small = omega arith; filled = refl; inside = refl }
letters word.Dehalfop = record { small = omega arith; filled = refl; inside = refl }
letters word.Ban = record { small = omega arith; filled = refl; inside = refl }
letters word.Unban = record { small = omega arith; filled = refl; inside = refl }
letters word.Kickban = tt
letters word.Ctcp = tt
letters word.Ping = tt
letters word.Motd = tt
letters word.Cycle = tt
letters word.Oper = tt
letters word.Knock = tt
letters word.Time = tt
letters word.Version = tt
letters word.Stats = tt

pub everyday_fit : (place : Place) (w : Everyday) (text : List ℕ) → IsUtf8In (channel_in place) → IsLine text → IsFit (everyday_errand place w text)
unfolding everyday_errand
everyday_fit place w text utf8 line = by (is_right (form_of w) text) refl where
  by : (t : Bool) → is_right (form_of w) text ≡ t → IsFit (cond t (form_errand place (form_of w) (everyday_command w) text) (wrong_arguments (everyday_name w)))
  by true e = form_fit place (form_of w) (everyday_command w) text utf8 (spelled w).0 (spelled w).1 (letters w) e line
  by false e = tt
