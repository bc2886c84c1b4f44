-- What a text spells is text.
use Rattle.std.proofs.Common.{◌≢◌, ℕ, zero, suc, ◌<◌, inl, inr, List, [], ◌∷◌, ◌++◌, sym, arith, Option, Some, None, subst, append-nil, Result, Ok, Err, IfOk}
use Rattle.std.proofs.lemmas.Str.{IsUtf8-nil}
use Rattle.std.specs.Str.{IsUtf8}
use Rattle.wc_text.specs.Lossy.{lossy_of}
use Rattle.wc_text.proofs.LossyLemmas.{lossy_of_is_utf8}
use Rattle.wc_text.proofs.Utf8Lemmas.{utf8_parts}
use Rattle.wc_ircmsg.specs.declared.message.Message.{Message}
use Rattle.wc_ircmsg.specs.declared.message.LineRefused.{LineRefused}
use Rattle.wc_text.specs.Splits.{blanks, WordAndRest}
use Rattle.wc_ircmsg.specs.Words.{Marked}
use Rattle.wc_ircmsg.specs.Sources.{text_with_mark, or_empty, Names}
use Rattle.wc_ircmsg.specs.Params.{FirstParam, SpellsParams}
use Rattle.wc_ircmsg.specs.Grammar.{Front, SpellsLine, ReadsLine}
use Rattle.wc_ircmsg.specs.Utf8.{AreUtf8Texts, MessageIsUtf8}

after_blanks_text : (n : ℕ) (rest : List ℕ) → IsUtf8 (blanks n ++ rest) → IsUtf8 rest
after_blanks_text zero rest utf8 = utf8
after_blanks_text (suc n) rest utf8 = after_blanks_text n rest (utf8_parts [] 32 (blanks n ++ rest) (omega arith) utf8).1

-- a word, and what follows it
parts_text : (text word rest : List ℕ) → WordAndRest text word rest → IsUtf8 text → IsUtf8 word × IsUtf8 rest
parts_text text word rest parts utf8 = by parts.gap rest parts.parted (subst IsUtf8 parts.spelled utf8) where
  by : (gap : ℕ) (rest : List ℕ) → (rest ≢ [] → 0 < gap) → IsUtf8 (word ++ (blanks gap ++ rest)) → IsUtf8 word × IsUtf8 rest
  by zero [] parted here = (subst IsUtf8 (append-nil word) here, IsUtf8-nil)
  by zero (b ∷ rest) parted here = let none : 0 < 0 = parted (λ e. cc) in absurd (omega arith)
  by (suc gap) rest parted here = let cut = utf8_parts word 32 (blanks gap ++ rest) (omega arith) here in (cut.0, after_blanks_text gap rest cut.1)

-- a marked word, and what follows it
marked_text : (mark : ℕ) (text rest : List ℕ) (word : Option (List ℕ)) → mark < 128 → Marked mark text word rest → IsUtf8 text → IsUtf8 (or_empty word) × IsUtf8 rest
marked_text mark text rest None small is utf8 = (IsUtf8-nil, subst IsUtf8 (sym is.1) utf8)
marked_text mark text rest (Some word) small parts utf8 =
    let cut = parts_text text (mark ∷ word) rest parts utf8 in
    ((utf8_parts [] mark word small cut.0).1, cut.1)

front_text : (text told source call : List ℕ) → Front text told source call → IsUtf8 text → IsUtf8 source × IsUtf8 call × IsUtf8 told
front_text text told source call front utf8 =
    let body = after_blanks_text front.margin front.body (subst IsUtf8 front.spelled utf8) in
    let tagged = marked_text 64 front.body front.untagged front.tags (omega arith) front.tagged body in
    let prefixed = marked_text 58 front.untagged call front.prefix (omega arith) front.prefixed tagged.1 in
    (subst IsUtf8 (sym front.source_is) prefixed.0, prefixed.1, subst IsUtf8 (sym front.told_is) tagged.0)

-- a text, and what a mark parts from it
after_mark_text : (mark : ℕ) (front : List ℕ) (text : Option (List ℕ)) → mark < 128 → IsUtf8 (front ++ text_with_mark mark text) → IsUtf8 front × IsUtf8 (or_empty text)
after_mark_text mark front None small utf8 = (subst IsUtf8 (append-nil front) utf8, IsUtf8-nil)
after_mark_text mark front (Some text) small utf8 = utf8_parts front mark text small utf8

names_text : (source nick user host : List ℕ) → Names source nick user host → IsUtf8 source → IsUtf8 nick × IsUtf8 user × IsUtf8 host
names_text source nick user host names utf8 =
    let outer = after_mark_text 64 (nick ++ text_with_mark 33 names.user_part) names.host_part (omega arith) (subst IsUtf8 names.spelled utf8) in
    let inner = after_mark_text 33 nick names.user_part (omega arith) outer.0 in
    (inner.0, subst IsUtf8 (sym names.user_is) inner.1, subst IsUtf8 (sym names.host_is) outer.1)

first_text : (more : ℕ) (text param rest : List ℕ) → FirstParam more text param rest → IsUtf8 text → IsUtf8 param × IsUtf8 rest
first_text more [] param rest first utf8 = absurd first
first_text more (b ∷ text) param rest (inl trailing) utf8 =
    let small : b < 128 = omega (arith, trailing.0) in
    (subst IsUtf8 (sym trailing.1) (utf8_parts [] b text small utf8).1, subst IsUtf8 (sym trailing.2) IsUtf8-nil)
first_text zero (b ∷ text) param rest (inr other) utf8 = (subst IsUtf8 (sym other.1.0) utf8, subst IsUtf8 (sym other.1.1) IsUtf8-nil)
first_text (suc more) (b ∷ text) param rest (inr other) utf8 = parts_text (b ∷ text) param rest other.1 utf8

params_text : (places : ℕ) (text : List ℕ) (params : List (List ℕ)) → SpellsParams places text params → IsUtf8 text → AreUtf8Texts params
unfolding SpellsParams
params_text places text [] spells utf8 = tt
params_text zero text (param ∷ params) spells utf8 = absurd spells
params_text (suc more) text (param ∷ params) (rest, first, others) utf8 =
    let cut = first_text more text param rest first utf8 in
    (cut.0, params_text more rest params others cut.1)

SpellsLine-text : (text : List ℕ) (message : Message) → SpellsLine text message → IsUtf8 text → MessageIsUtf8 message
SpellsLine-text text message spells utf8 =
    let front = front_text text message.tags spells.source spells.call spells.front utf8 in
    let names = names_text spells.source message.nick message.user message.host spells.named front.0 in
    let called = parts_text spells.call message.command spells.rest spells.called front.1 in
    record {
      tags = front.2;
      nick = names.0;
      user = names.1;
      host = names.2;
      command = called.0;
      params = params_text 15 spells.rest message.params spells.params called.1;
    }

-- each text of a message that any bytes spell is UTF-8
pub ReadsLine-text : (line : List ℕ) (message : Message) → ReadsLine line message → MessageIsUtf8 message
ReadsLine-text line message reads = SpellsLine-text (lossy_of line) message reads (lossy_of_is_utf8 line)

pub texts_from : (result : Result Message LineRefused) (line : List ℕ) → IfOk result (ReadsLine line) → IfOk result MessageIsUtf8
texts_from (Ok message) line reads = ReadsLine-text line message reads
texts_from (Err refused) line reads = tt
