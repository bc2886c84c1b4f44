-- The parts of a text that is sent are lines of text, and so is what is done.
use Rattle.std.proofs.Common.{◌≡◌, ℕ, zero, suc, ◌<◌, ◌≤◌, Bool, true, false, cond, List, [], ◌∷◌, ◌++◌, length, get_or, refl, ap, sym, ◌∙◌, subst, arith, Option, Some, None, codes}
use Rattle.std.specs.Prelude.{not, bytes_eq, All, option_and_then}
use Rattle.std.specs.List.{AllByRecursion}
use Rattle.std.specs.Str.{IsUtf8}
use Rattle.std.proofs.lemmas.Bool.{and_parts, and_from}
use Rattle.std.proofs.lemmas.List.Folds.{list_all-append}
use Rattle.std.proofs.lemmas.Str.{IsUtf8-append, IsUtf8-nil}
use Rattle.wc_text.proofs.Utf8Lemmas.{utf8_one, utf8_cons, utf8_parts}
use Rattle.wc_text.proofs.WordLemmas.{cut_after}
use Rattle.wc_text.specs.Splits.{before, text_after}
use Rattle.wc_text.specs.Words.{is_filled}
use Rattle.wc_ircmsg.specs.Commands.{is_command}
use Rattle.wc_ircmsg.specs.Sources.{or_empty}
use Rattle.wc_ircmsg.specs.Written.{IsWritable, ends_lines, is_one_line}
use Rattle.wc_irc.specs.CommandSeen.{IsSent, IsLine, IsLead, IsSendable, AreSendable}
use Rattle.wc_irc.specs.LongTexts.{text_to, action, wrapped}
use Rattle.wc_irc.specs.SpeechActs.{quoted, word_and_rest, request_of, Talk, Says, Does, Requests, talk_in, talk_of}
use Rattle.wc_irc.proofs.FormLemmas.{pair_fit}
use Rattle.wc_irc.proofs.LineTextLemmas.{line_tail}
use Rattle.wc_irc.proofs.TalkLemmas.{quoted_is}
use Rattle.wc_irc_texts.specs.Parts.{parts, AreParts}
use Rattle.wc_irc_texts.proofs.PartLemmas.{are_whole}

-- ---- one line of text, in two

abbrev stays_in : ℕ → Bool
stays_in b = not (ends_lines b)

line_halves : (front : List ℕ) (b : ℕ) (rest : List ℕ) → b < 128 → IsLine (front ++ b ∷ rest) → IsLine front × IsLine rest
line_halves front b rest small line =
    let both = and_parts (is_one_line front) (is_one_line (b ∷ rest)) (sym (list_all-append stays_in front (b ∷ rest)) ∙ line.one) in
    let texts = utf8_parts front b rest small line.utf8 in
    (record { one = both.0; utf8 = texts.0 }, record { one = (and_parts (stays_in b) (is_one_line rest) both.1).1; utf8 = texts.1 })

empty_line : IsLine []
empty_line = record { one = refl; utf8 = IsUtf8-nil }

-- ---- what is done

-- the bytes before the deed
action_front : IsUtf8 (1 ∷ codes "ACTION ")
action_front = utf8_cons 1 (codes "ACTION ") (omega arith) (
    utf8_cons 65 (codes "CTION ") (omega arith) (
    utf8_cons 67 (codes "TION ") (omega arith) (
    utf8_cons 84 (codes "ION ") (omega arith) (
    utf8_cons 73 (codes "ON ") (omega arith) (
    utf8_cons 79 (codes "N ") (omega arith) (
    utf8_cons 78 (codes " ") (omega arith) (
    utf8_cons 32 [] (omega arith) IsUtf8-nil)))))))

pub action_line : (deed : List ℕ) → IsLine deed → IsLine (action deed)
action_line deed line = record {
  one = list_all-append stays_in deed (1 ∷ []) ∙ and_from (is_one_line deed) true line.one refl;
  utf8 = IsUtf8-append (1 ∷ codes "ACTION ") (deed ++ 1 ∷ []) action_front (IsUtf8-append deed (1 ∷ []) line.utf8 (utf8_one 1 (omega arith)));
}

wrapped_line : (does : Bool) (text : List ℕ) → IsLine text → IsLine (wrapped does text)
wrapped_line false text line = line
wrapped_line true deed line = action_line deed line

-- ---- what a text is

abbrev pub IsTalkLine : Talk → Type 0
IsTalkLine (Says text) = IsLine text
IsTalkLine (Does deed) = IsLine deed
IsTalkLine (Requests word) = Unit {0}

rest_line : (inner : List ℕ) → IsLine inner → IsLine (or_empty (text_after 32 inner))
rest_line inner line = by (text_after 32 inner) refl where
  by : (o : Option (List ℕ)) → text_after 32 inner ≡ o → IsLine (or_empty o)
  by None e = empty_line
  by (Some rest) e = (line_halves (before 32 inner) 32 rest (omega arith) (subst IsLine (cut_after 32 inner rest e) line)).1

asked : (text word rest : List ℕ) → IsLine rest → IsTalkLine (talk_in text (Some (word, rest)))
asked text word rest line = by (bytes_eq word (codes "ACTION")) where
  by : (t : Bool) → IsTalkLine (cond t (Does rest) (Requests word))
  by true = line
  by false = tt

asked_line : (text inner : List ℕ) → IsLine text → IsLine inner → IsTalkLine (talk_in text (word_and_rest inner))
asked_line text inner whole line = by (is_filled (before 32 inner)) where
  by : (t : Bool) → IsTalkLine (talk_in text (cond t (Some (before 32 inner, or_empty (text_after 32 inner))) None))
  by true = asked text (before 32 inner) (or_empty (text_after 32 inner)) (rest_line inner line)
  by false = whole

pub talk_line : (text : List ℕ) → IsLine text → IsTalkLine (talk_of text)
unfolding request_of
talk_line text line = by (quoted text) refl where
  by : (o : Option (List ℕ)) → quoted text ≡ o → IsTalkLine (talk_in text (option_and_then word_and_rest o))
  by None e = line
  by (Some inner) e =
      let spelled : IsLine (1 ∷ (inner ++ 1 ∷ [])) = subst IsLine (quoted_is text inner e) line in
      asked_line text inner line (line_halves inner 1 [] (omega arith) (line_tail 1 (inner ++ 1 ∷ []) (omega arith) spelled)).0

pub said_sendable : (target whole text : List ℕ) → IsSendable target whole → Says text ≡ talk_of whole → IsSendable target text
said_sendable target whole text is same = record { lead = is.lead; utf8 = is.utf8; line = subst IsTalkLine (sym same) (talk_line whole is.line) }

pub done_sendable : (target whole deed : List ℕ) → IsSendable target whole → Does deed ≡ talk_of whole → IsSendable target deed
done_sendable target whole deed is same = record { lead = is.lead; utf8 = is.utf8; line = subst IsTalkLine (sym same) (talk_line whole is.line) }

-- ---- parts

lines_of : (room : ℕ) (texts : List (List ℕ)) (text : List ℕ) → AreParts room texts text → is_one_line text ≡ true → AllByRecursion IsLine texts
lines_of room [] text are one = tt
lines_of room (part ∷ texts) text are one =
    let is = are.1 in
    let first = and_parts (is_one_line part) (is_one_line (is.seam ++ are.0)) (sym (list_all-append stays_in part (is.seam ++ are.0)) ∙ ap is_one_line (sym is.whole) ∙ one) in
    let later = and_parts (is_one_line is.seam) (is_one_line are.0) (sym (list_all-append stays_in is.seam are.0) ∙ first.1) in
    (record { one = first.0; utf8 = is.utf8 }, lines_of room texts are.0 are.2 later.1)

pub part_lines : (room : ℕ) (text : List ℕ) → 4 ≤ room → IsLine text → AllByRecursion IsLine (parts room text)
part_lines room text most line = lines_of room (parts room text) text (are_whole room text most line.utf8) line.one

pub part_sent : (command target : List ℕ) (does : Bool) (text : List ℕ) → is_command command ≡ true → IsLead target → IsUtf8 target → IsLine text → IsSent (text_to command target (wrapped does text))
part_sent command target does text known lead utf8 line = pair_fit command target (wrapped does text) known lead utf8 (wrapped_line does text line)

one_more : (P : List ℕ → Type 0) (x : List ℕ) (xs : List (List ℕ)) → P x → All P xs → All P (x ∷ xs)
one_more P x xs here more = by where
  by : (i : ℕ) (d : List ℕ) → i < suc (length xs) → P (get_or (x ∷ xs) i d)
  by zero d inside = here
  by (suc i) d inside = more i d (omega arith)

sendable : (command target : List ℕ) (does : Bool) (texts : List (List ℕ)) → is_command command ≡ true → IsLead target → IsUtf8 target → AllByRecursion IsLine texts → AreSendable command target does texts
sendable command target does [] known lead utf8 are = λ i d inside. absurd (omega arith)
sendable command target does (text ∷ texts) known lead utf8 are =
    one_more (λ x. IsWritable (text_to command target (wrapped does x))) text texts (part_sent command target does text known lead utf8 are.0).0 (sendable command target does texts known lead utf8 are.1)

-- the parts of a text that can be sent, under one name or another
pub parts_sendable : (command word target : List ℕ) (does : Bool) (room : ℕ) (text : List ℕ) (texts : List (List ℕ)) → is_command command ≡ true → word ≡ command → 4 ≤ room → IsSendable target text → texts ≡ parts room text
    → AreSendable word target does texts
parts_sendable command word target does room text texts known named most is are =
    subst (λ (w : List ℕ). AreSendable w target does texts) (sym named)
    (subst (λ (ts : List (List ℕ)). AreSendable command target does ts) (sym are) (sendable command target does (parts room text) known is.lead is.utf8 (part_lines room text most is.line)))

pub text_sendable : (command word target text : List ℕ) → is_command command ≡ true → word ≡ command → IsSendable target text → IsWritable (text_to word target text)
text_sendable command word target text known named is =
    subst (λ (w : List ℕ). IsWritable (text_to w target text)) (sym named) (pair_fit command target text known is.lead is.utf8 is.line).0
