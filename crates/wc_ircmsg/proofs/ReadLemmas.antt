-- A text's message is the one that is computed.
use Rattle.std.proofs.Common.{◌≡◌, ◌≢◌, ℕ, ◌-◌, ◌⊎◌, inl, inr, List, [], ◌∷◌, ◌++◌, length, refl, ap, sym, ◌∙◌, arith, eqb, Bool, true, false, cond, subst, append-nil, Result, Ok, Err, IfOk, IfErr}
use Rattle.std.proofs.lemmas.Bool.{false≢true}
use Rattle.wc_ircmsg.specs.declared.message.Message.{Message}
use Rattle.wc_ircmsg.specs.declared.message.LineRefused.{LineRefused}
use Rattle.wc_ircmsg.specs.declared.message.LineRefused.TheVariants as Refusals
use Rattle.wc_text.specs.Splits.{past, blanks, word_of, rest_of}
use Rattle.wc_ircmsg.specs.Commands.{is_command, is_filled}
use Rattle.wc_ircmsg.specs.Sources.{Names}
use Rattle.wc_ircmsg.specs.Params.{SpellsParams}
use Rattle.wc_ircmsg.specs.Grammar.{SpellsLine, IsBlank, RefusesLine, ReadsLine}
use Rattle.wc_text.specs.Lossy.{lossy_of}
use Rattle.wc_ircmsg.specs.Answers.{tags_of, source_of, call_of, message_from, refusal_of, reading_of, untagged_of, after_marked}
use Rattle.wc_text.proofs.WordLemmas.{past-blanks, margin, WordAndRest-same, WordAndRest-made}
use Rattle.wc_ircmsg.proofs.FrontLemmas.{Front-same, Front-made, length-call_of}
use Rattle.wc_ircmsg.proofs.SourceLemmas.{Names-same, Names-made}
use Rattle.wc_ircmsg.proofs.ParamLemmas.{SpellsParams-same, SpellsParams-made}

-- a message with these parts is the one that is computed of them
message_from-same : (source rest : List ℕ) (message : Message) → Names source message.nick message.user message.host → SpellsParams 15 rest message.params → message_from message.tags source message.command rest ≡ message
unfolding message_from
message_from-same source rest message named params =
    let names = Names-same source message.nick message.user message.host named in
    let list = SpellsParams-same 15 rest message.params params in
    λ k. record { tags = message.tags; nick = sym names.0 k; user = sym names.1 k; host = sym names.2 k; command = message.command; params = sym list k }

pub SpellsLine-reading : (text : List ℕ) (message : Message) → SpellsLine text message → reading_of text ≡ Ok message
unfolding reading_of
SpellsLine-reading text message spells =
    let front = Front-same text message.tags spells.source spells.call spells.front in
    let called = WordAndRest-same spells.call message.command spells.rest spells.called in
    let command : word_of (call_of text) ≡ message.command = sym (called.0 ∙ ap word_of front.1) in
    let rest : rest_of (call_of text) ≡ spells.rest = sym (called.1 ∙ ap rest_of front.1) in
    let readable : is_command (word_of (call_of text)) ≡ true = ap is_command command ∙ spells.readable in
    ap (λ t. cond t (Ok (message_from (tags_of text) (source_of text) (word_of (call_of text)) (rest_of (call_of text)))) (Err (refusal_of text))) readable
    ∙ (λ k. Ok (message_from (sym front.2 k) (sym front.0 k) (command k) (rest k)))
    ∙ ap Ok (message_from-same spells.source spells.rest message spells.named spells.params)

-- the message of a text whose command is readable
spelled : (text : List ℕ) → is_command (word_of (call_of text)) ≡ true → SpellsLine text (message_from (tags_of text) (source_of text) (word_of (call_of text)) (rest_of (call_of text)))
unfolding message_from
spelled text readable = record {
  source = source_of text;
  call = call_of text;
  rest = rest_of (call_of text);
  front = Front-made text;
  named = Names-made (source_of text);
  called = WordAndRest-made (call_of text);
  readable = readable;
  params = SpellsParams-made 14 (rest_of (call_of text));
}

pub reading-SpellsLine : (text : List ℕ) (message : Message) → reading_of text ≡ Ok message → SpellsLine text message
unfolding reading_of
reading-SpellsLine text message is = by (is_command (word_of (call_of text))) refl is where
  made : Message
  made = message_from (tags_of text) (source_of text) (word_of (call_of text)) (rest_of (call_of text))

  by : (t : Bool) → is_command (word_of (call_of text)) ≡ t → cond t (Ok made) (Err (refusal_of text)) ≡ Ok message → SpellsLine text message
  by true e here = let same : made ≡ message = cc in subst (λ m. SpellsLine text m) same (spelled text e)
  by false e here = absurd (cc)

-- a text spells one message at most
pub SpellsLine-one : (text : List ℕ) (a b : Message) → SpellsLine text a → SpellsLine text b → a ≡ b
SpellsLine-one text a b spells_a spells_b =
    let first = SpellsLine-reading text a spells_a in
    let second = SpellsLine-reading text b spells_b in
    cc

-- ---- refusals
pub blank-past : (text : List ℕ) → IsBlank text → past 32 text ≡ []
blank-past text (n, is) = ap (past 32) (is ∙ sym (append-nil (blanks n))) ∙ past-blanks n []

pub past-blank : (text : List ℕ) → past 32 text ≡ [] → IsBlank text
past-blank text none = let front = margin text in (front.0, front.1 ∙ ap (λ t. blanks front.0 ++ t) none ∙ append-nil (blanks front.0))

filled-some : (text : List ℕ) → (text ≡ [] → ⊥) → is_filled text ≡ true
filled-some [] some = absurd (some refl)
filled-some (b ∷ text) some = refl

filled-none : (text : List ℕ) → is_filled text ≡ false → text ≡ []
filled-none [] none = refl
filled-none (b ∷ text) none = absurd (false≢true (sym none))

some-filled : (text : List ℕ) → is_filled text ≡ true → text ≡ [] → ⊥
some-filled [] filled none = false≢true filled
some-filled (b ∷ text) filled none = cc

-- blanks alone call nothing
blank-call : (text : List ℕ) → past 32 text ≡ [] → call_of text ≡ []
unfolding call_of untagged_of
blank-call text none = ap (λ t. after_marked 58 (after_marked 64 t)) none

-- a text whose command is unreadable
refused_by : (text : List ℕ) → is_command (word_of (call_of text)) ≡ false → reading_of text ≡ Err (refusal_of text)
unfolding reading_of
refused_by text unreadable = ap (λ t. cond t (Ok (message_from (tags_of text) (source_of text) (word_of (call_of text)) (rest_of (call_of text)))) (Err (refusal_of text))) unreadable

pub refusal_of-blank : (text : List ℕ) → past 32 text ≡ [] → refusal_of text ≡ Refusals.Empty
unfolding refusal_of
refusal_of-blank text none = ap (λ t. cond (is_filled t) (Refusals.BadCommand (length text - length (call_of text))) Refusals.Empty) none

pub refusal_of-filled : (text : List ℕ) → (past 32 text ≡ [] → ⊥) → refusal_of text ≡ Refusals.BadCommand (length text - length (call_of text))
unfolding refusal_of
refusal_of-filled text some = ap (λ t. cond t (Refusals.BadCommand (length text - length (call_of text))) Refusals.Empty) (filled-some (past 32 text) some)

pub RefusesLine-reading : (text : List ℕ) (refused : LineRefused) → RefusesLine text refused → reading_of text ≡ Err refused
RefusesLine-reading text Refusals.Empty blank =
    let none = blank-past text blank in
    refused_by text (ap (λ t. is_command (word_of t)) (blank-call text none)) ∙ ap Err (refusal_of-blank text none)
RefusesLine-reading text (Refusals.BadCommand place) lacks =
    let front = Front-same text lacks.tags lacks.source lacks.call lacks.front in
    let word : word_of (call_of text) ≡ lacks.word = sym ((WordAndRest-same lacks.call lacks.word lacks.rest lacks.called).0 ∙ ap word_of front.1) in
    let same : length lacks.call ≡ length (call_of text) = ap length front.1 in
    let is : length text - length (call_of text) ≡ place = omega (arith, lacks.place_is, length-call_of text) in
    refused_by text (ap is_command word ∙ lacks.unreadable) ∙ ap Err (refusal_of-filled text (λ none. lacks.filled (past-blank text none)) ∙ ap (λ n. Refusals.BadCommand n) is)
RefusesLine-reading text Refusals.NoMemory refuses = absurd refuses

-- the refusal of a text whose command is unreadable
refuses : (text : List ℕ) → is_command (word_of (call_of text)) ≡ false → RefusesLine text (refusal_of text)
unfolding refusal_of
refuses text unreadable = by (is_filled (past 32 text)) refl where
  by : (t : Bool) → is_filled (past 32 text) ≡ t → RefusesLine text (cond t (Refusals.BadCommand (length text - length (call_of text))) Refusals.Empty)
  by true e = record {
    filled = λ blank. some-filled (past 32 text) e (blank-past text blank);
    tags = tags_of text;
    source = source_of text;
    call = call_of text;
    word = word_of (call_of text);
    rest = rest_of (call_of text);
    front = Front-made text;
    called = WordAndRest-made (call_of text);
    unreadable = unreadable;
    place_is = omega (arith, length-call_of text);
  }
  by false e = past-blank text (filled-none (past 32 text) e)

pub reading-RefusesLine : (text : List ℕ) (refused : LineRefused) → reading_of text ≡ Err refused → RefusesLine text refused
unfolding reading_of
reading-RefusesLine text refused is = by (is_command (word_of (call_of text))) refl is where
  made : Message
  made = message_from (tags_of text) (source_of text) (word_of (call_of text)) (rest_of (call_of text))

  by : (t : Bool) → is_command (word_of (call_of text)) ≡ t → cond t (Ok made) (Err (refusal_of text)) ≡ Err refused → RefusesLine text refused
  by true e here = absurd (cc)
  by false e here = let same : refusal_of text ≡ refused = cc in subst (λ r. RefusesLine text r) same (refuses text e)

-- ---- for the code
pub refusal_empty : (text text_after : List ℕ) → text_after ≡ past 32 text → eqb (length text_after) 0 ≡ true → Refusals.Empty ≡ refusal_of text
refusal_empty text [] is none = sym (refusal_of-blank text (sym is))
refusal_empty text (b ∷ text_after) is none = absurd (false≢true (sym longer ∙ none)) where
  longer : eqb (length (b ∷ text_after)) 0 ≡ false
  longer = grind arith

pub refusal_filled : (text text_after call : List ℕ) → text_after ≡ past 32 text → eqb (length text_after) 0 ≡ false → call ≡ call_of text → Refusals.BadCommand (length text - length call) ≡ refusal_of text
refusal_filled text [] call is some called = absurd (false≢true (sym some))
refusal_filled text (b ∷ text_after) call is some called =
    ap (λ t. Refusals.BadCommand (length text - length t)) called ∙ sym (refusal_of-filled text (λ none. cc))

pub ruleset refusals = (refusal_empty, refusal_filled, length-call_of)

-- the clauses of a reading, from what was computed
pub read_from : (result : Result Message LineRefused) (text line : List ℕ) → text ≡ lossy_of line → IfOk result (λ message. reading_of text ≡ Ok message) → IfOk result (ReadsLine line)
read_from (Ok message) text line is computed = reading-SpellsLine (lossy_of line) message (ap reading_of (sym is) ∙ computed)
read_from (Err refused) text line is computed = tt

pub refused_from : (result : Result Message LineRefused) (text line : List ℕ) → text ≡ lossy_of line → IfErr result (λ refused. refused ≢ Refusals.NoMemory → reading_of text ≡ Err refused) → IfErr result (λ refused. refused ≢ Refusals.NoMemory → RefusesLine (lossy_of line) refused)
refused_from (Ok message) text line is computed = tt
refused_from (Err refused) text line is computed = λ other. reading-RefusesLine (lossy_of line) refused (ap reading_of (sym is) ∙ computed other)

pub only_from : (result : Result Message LineRefused) (text line : List ℕ) → text ≡ lossy_of line → IfOk result (λ message. reading_of text ≡ Ok message) → IfErr result (λ refused. refused ≢ Refusals.NoMemory → reading_of text ≡ Err refused)
    → (message : Message) → ReadsLine line message → (result ≡ Ok message) ⊎ (result ≡ Err Refusals.NoMemory)
only_from (Ok read) text line is computed refusal message reads =
    let spelt : reading_of text ≡ Ok message = ap reading_of is ∙ SpellsLine-reading (lossy_of line) message reads in
    inl (sym computed ∙ spelt)
only_from (Err Refusals.NoMemory) text line is computed refusal message reads = inr refl
only_from (Err Refusals.Empty) text line is computed refusal message reads =
    let spelt : reading_of text ≡ Ok message = ap reading_of is ∙ SpellsLine-reading (lossy_of line) message reads in
    let refused : reading_of text ≡ Err Refusals.Empty = refusal (λ e. cc) in
    absurd (cc)
only_from (Err (Refusals.BadCommand place)) text line is computed refusal message reads =
    let spelt : reading_of text ≡ Ok message = ap reading_of is ∙ SpellsLine-reading (lossy_of line) message reads in
    let refused : reading_of text ≡ Err (Refusals.BadCommand place) = refusal (λ e. cc) in
    absurd (cc)
