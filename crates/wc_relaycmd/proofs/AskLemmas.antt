-- What the arguments of a command ask.
use Rattle.std.proofs.Common.{◌≡◌, ◌≢◌, ℕ, List, [], ◌∷◌, ◌++◌, refl, ap, sym, ◌∙◌, eqb, Bool, true, false, cond, Option, Some, None, option_map, option_and_then, ℤ, subst}
use Rattle.std.proofs.lemmas.Bool.{false≢true}
use Rattle.wc_relaycmd.specs.declared.word.Word.{Word}
use Rattle.wc_relaycmd.specs.declared.word.Word.TheVariants as Words
use Rattle.wc_relaycmd.specs.declared.request.Command.{Command}
use Rattle.wc_relaycmd.specs.declared.request.Command.TheVariants as Commands
use Rattle.wc_text.specs.Integer.{integer_of}
use Rattle.wc_text.specs.Splits.{before, text_after, Lacks, BeginsWithout, WordAndRest, word_of, rest_of}
use Rattle.wc_relaycmd.specs.Lists.{pieces_of, pairs_of}
use Rattle.wc_relaycmd.specs.Grammar.{TwoParts, AreOptions, Selects, AsksNicks, Asks}
use Rattle.wc_relaycmd.specs.Answers.{if_filled, leading_of, second_of, third_of, hdata_of, infolist_of, input_of, completion_of, buffers_of, options_of, command_of}
use Rattle.wc_text.proofs.WordLemmas.{other_byte, before-at, text_after-at, Lacks-before, cut_after, WordAndRest-same, WordAndRest-made}

-- a value of a text that is not empty
pub filled-some : {A : Type 0} (text : List ℕ) (value : A) → text ≢ [] → if_filled text value ≡ Some value
filled-some [] value some = absurd (some refl)
filled-some (b ∷ text) value some = refl

pub filled_given : {A : Type 0} (text : List ℕ) (value given : A) → if_filled text value ≡ Some given → (text ≢ []) × (value ≡ given)
filled_given [] value given is = absurd (cc)
filled_given (b ∷ text) value given is = (λ e. cc, cc)

-- the first word of a text that does not begin with a blank is not empty, unless the text is
pub word_of-filled : (text : List ℕ) → BeginsWithout 32 text → text ≢ [] → word_of text ≢ []
word_of-filled [] bare some none = some refl
word_of-filled (b ∷ text) bare some none = by (eqb b 32) (other_byte b 32 bare) none where
  by : (t : Bool) → t ≡ false → cond t [] (b ∷ before 32 text) ≡ [] → ⊥
  by true e none = false≢true (sym e)
  by false e none = cc

pub text_filled : (text : List ℕ) → word_of text ≢ [] → text ≢ []
text_filled text some none = some (ap word_of none)

-- the first word of a text
pub leading-some : (text word rest : List ℕ) → word ≢ [] → WordAndRest text word rest → leading_of text ≡ Some word
leading-some text word rest some parts =
    let same = WordAndRest-same text word rest parts in
    filled-some text (word_of text) (text_filled text (λ none. some (same.0 ∙ none))) ∙ ap (λ w. Some w) (sym same.0)

-- two words and what follows them
pub record SameTwo (text first second rest : List ℕ) : Type 0 where
  pub filled : text ≢ []
  pub first_is : first ≡ word_of text
  pub second_is : second ≡ second_of text
  pub rest_is : rest ≡ rest_of (rest_of text)

pub TwoParts-same : (text first second rest : List ℕ) → TwoParts text first second rest → SameTwo text first second rest
TwoParts-same text first second rest two =
    let front = WordAndRest-same text first two.text_after two.front in
    let back = WordAndRest-same two.text_after second rest two.back in
    record {
      filled = text_filled text (λ none. two.filled (front.0 ∙ none));
      first_is = front.0;
      second_is = back.0 ∙ ap word_of front.1;
      rest_is = back.1 ∙ ap rest_of front.1;
    }

pub TwoParts-made : (text : List ℕ) → BeginsWithout 32 text → text ≢ [] → TwoParts text (word_of text) (second_of text) (rest_of (rest_of text))
TwoParts-made text bare some = record {
  filled = word_of-filled text bare some;
  text_after = rest_of text;
  front = WordAndRest-made text;
  back = WordAndRest-made (rest_of text);
}

-- what is asked is computed
hdata_asked : (text path keys rest : List ℕ) → TwoParts text path keys rest → hdata_of text ≡ Some (Commands.Hdata path keys)
hdata_asked text path keys rest two =
    let same = TwoParts-same text path keys rest two in
    let first_is = same.first_is in
    let second_is = same.second_is in
    let known = filled-some text (Commands.Hdata (word_of text) (second_of text)) same.filled in
    cc

infolist_asked : (text name pointer following argument rest : List ℕ) → TwoParts text name pointer following → WordAndRest following argument rest → infolist_of text ≡ Some (Commands.Infolist name argument)
infolist_asked text name pointer following argument rest two parts =
    let same = TwoParts-same text name pointer following two in
    let name_is = same.first_is in
    let argument_is = (WordAndRest-same following argument rest parts).0 ∙ ap word_of same.rest_is in
    let known = filled-some text (Commands.Infolist (word_of text) (third_of text)) same.filled in
    cc

input_asked : (text buffer typed : List ℕ) → typed ≢ [] → Lacks 32 buffer → text ≡ buffer ++ 32 ∷ typed → input_of text ≡ Some (Commands.Input buffer typed)
input_asked text buffer typed some lacks is =
    ap (λ o. option_and_then (λ typed. if_filled typed (Commands.Input (word_of text) typed)) o) (ap (text_after 32) is ∙ text_after-at 32 buffer typed lacks) ∙
    filled-some typed (Commands.Input (word_of text) typed) some ∙ ap (λ b. Some (Commands.Input b typed)) (ap word_of is ∙ before-at 32 buffer typed lacks)

completion_filled : (text : List ℕ) → text ≢ [] → completion_of text ≡ option_map (λ position. Commands.Completion (word_of text) position (rest_of (rest_of text))) (integer_of (second_of text))
unfolding completion_of
completion_filled [] some = absurd (some refl)
completion_filled (b ∷ text) some = refl

completion_asked : (text buffer number typed : List ℕ) (position : ℤ) → TwoParts text buffer number typed → integer_of number ≡ Some position → completion_of text ≡ Some (Commands.Completion buffer position typed)
completion_asked text buffer number typed position two is =
    let same = TwoParts-same text buffer number typed two in
    let first_is = same.first_is in
    let rest_is = same.rest_is in
    completion_filled text same.filled ∙
    ap (λ o. option_map (λ position. Commands.Completion (word_of text) position (rest_of (rest_of text))) o) (sym (ap integer_of same.second_is) ∙ is) ∙ cc

buffers_filled : (text : List ℕ) → text ≢ [] → buffers_of text ≡ pieces_of (word_of text)
buffers_filled [] some = absurd (some refl)
buffers_filled (b ∷ text) some = refl

options_asked : (text second : List ℕ) (options : Option (List (List ℕ))) → second ≡ second_of text → AreOptions second options → options_of text ≡ options
options_asked text second None is none = ap (λ s. if_filled s (pieces_of s)) (sym is ∙ none)
options_asked text second (Some options) is given =
    ap (λ s. if_filled s (pieces_of s)) (sym is) ∙ filled-some second (pieces_of second) given.0 ∙ ap (λ o. Some o) (sym given.1)

selection_asked : (text : List ℕ) (buffers : List (List ℕ)) (options : Option (List (List ℕ))) → Selects text buffers options → (buffers_of text ≡ buffers) × (options_of text ≡ options)
selection_asked [] buffers options selects = (sym selects.0, sym selects.1)
selection_asked (b ∷ text) buffers options (first, second, rest, two, are, options_are) =
    let same = TwoParts-same (b ∷ text) first second rest two in
    (ap pieces_of (sym same.first_is) ∙ sym are, options_asked (b ∷ text) second options same.second_is options_are)

nicks_asked : (text : List ℕ) (command : Command) → AsksNicks text command → Some (Commands.Nicklist (leading_of text)) ≡ Some command
nicks_asked [] command asks = ap (λ c. Some c) (sym asks)
nicks_asked (b ∷ text) command (buffer, rest, parts, is) =
    let first_is = (WordAndRest-same (b ∷ text) buffer rest parts).0 in cc

pub command_of-asks : (word : Word) (text : List ℕ) (command : Command) → Asks word text command → command_of word text ≡ Some command
unfolding Asks command_of
command_of-asks Words.Handshake text command asks = ap (λ c. Some c) (sym asks)
command_of-asks Words.Init text command asks = filled-some text (Commands.Init (pairs_of text)) asks.0 ∙ ap (λ c. Some c) (sym asks.1)
command_of-asks Words.Hdata text command (path, keys, rest, two, is) = hdata_asked text path keys rest two ∙ ap (λ c. Some c) (sym is)
command_of-asks Words.Info text command (name, rest, some, parts, is) = ap (λ o. option_map (λ name. Commands.Info name) o) (leading-some text name rest some parts) ∙ ap (λ c. Some c) (sym is)
command_of-asks Words.Infolist text command (name, pointer, following, argument, rest, two, parts, is) = infolist_asked text name pointer following argument rest two parts ∙ ap (λ c. Some c) (sym is)
command_of-asks Words.Nicklist text command asks = nicks_asked text command asks
command_of-asks Words.Input text command (buffer, typed, some_buffer, some_typed, lacks, spelled, is) = input_asked text buffer typed some_typed lacks spelled ∙ ap (λ c. Some c) (sym is)
command_of-asks Words.Completion text command (buffer, number, typed, position, two, reads, is) = completion_asked text buffer number typed position two reads ∙ ap (λ c. Some c) (sym is)
command_of-asks Words.Sync text command (buffers, options, selects, is) = let asked = selection_asked text buffers options selects in let b = asked.0 in let o = asked.1 in cc
command_of-asks Words.Desync text command (buffers, options, selects, is) = let asked = selection_asked text buffers options selects in let b = asked.0 in let o = asked.1 in cc
command_of-asks Words.Test text command asks = ap (λ c. Some c) (sym asks)
command_of-asks Words.Ping text command asks = ap (λ c. Some c) (sym asks)
command_of-asks Words.Quit text command asks = ap (λ c. Some c) (sym asks)

-- what is computed is asked
leading_asks : (text name : List ℕ) → BeginsWithout 32 text → leading_of text ≡ Some name → (rest : List ℕ) × (name ≢ []) × WordAndRest text name rest
leading_asks text name bare is =
    let given = filled_given text (word_of text) name is in
    (rest_of text, subst (λ w. w ≢ []) given.1 (word_of-filled text bare given.0), subst (λ w. WordAndRest text w (rest_of text)) given.1 (WordAndRest-made text))

-- the command of one name
named_asks : (text : List ℕ) (command : Command) (make : List ℕ → Command) → BeginsWithout 32 text → (o : Option (List ℕ)) → leading_of text ≡ o → option_map make o ≡ Some command →
    (name rest : List ℕ) × (name ≢ []) × WordAndRest text name rest × (command ≡ make name)
named_asks text command make bare None e is = absurd (cc)
named_asks text command make bare (Some name) e is =
    let asks = leading_asks text name bare e in
    (name, asks.0, asks.1, asks.2, cc)

hdata_asks : (text : List ℕ) (command : Command) → BeginsWithout 32 text → hdata_of text ≡ Some command → (path keys rest : List ℕ) × TwoParts text path keys rest × (command ≡ Commands.Hdata path keys)
hdata_asks text command bare is =
    let given = filled_given text (Commands.Hdata (word_of text) (second_of text)) command is in
    (word_of text, second_of text, rest_of (rest_of text), TwoParts-made text bare given.0, sym given.1)

infolist_asks : (text : List ℕ) (command : Command) → BeginsWithout 32 text → infolist_of text ≡ Some command →
    (name pointer following argument rest : List ℕ) × TwoParts text name pointer following × WordAndRest following argument rest × (command ≡ Commands.Infolist name argument)
infolist_asks text command bare is =
    let given = filled_given text (Commands.Infolist (word_of text) (third_of text)) command is in
    (word_of text, second_of text, rest_of (rest_of text), third_of text, rest_of (rest_of (rest_of text)), TwoParts-made text bare given.0, WordAndRest-made (rest_of (rest_of text)), sym given.1)

nicks_asks : (text : List ℕ) (command : Command) → BeginsWithout 32 text → Some (Commands.Nicklist (leading_of text)) ≡ Some command → AsksNicks text command
nicks_asks [] command bare is = cc
nicks_asks (b ∷ text) command bare is = (word_of (b ∷ text), rest_of (b ∷ text), WordAndRest-made (b ∷ text), cc)

input_asks : (text : List ℕ) (command : Command) → BeginsWithout 32 text → (o : Option (List ℕ)) → text_after 32 text ≡ o → option_and_then (λ typed. if_filled typed (Commands.Input (word_of text) typed)) o ≡ Some command →
    (buffer typed : List ℕ) × (buffer ≢ []) × (typed ≢ []) × Lacks 32 buffer × (text ≡ buffer ++ 32 ∷ typed) × (command ≡ Commands.Input buffer typed)
input_asks text command bare None e is = absurd (cc)
input_asks [] command bare (Some typed) e is = absurd (cc)
input_asks (b ∷ text) command bare (Some typed) e is =
    let given = filled_given typed (Commands.Input (word_of (b ∷ text)) typed) command is in
    (word_of (b ∷ text), typed, word_of-filled (b ∷ text) bare (λ none. cc), given.0, Lacks-before 32 (b ∷ text), cut_after 32 (b ∷ text) typed e, sym given.1)

completion_asks : (text : List ℕ) (command : Command) → BeginsWithout 32 text → completion_of text ≡ Some command →
    (buffer number typed : List ℕ) × (position : ℤ) × TwoParts text buffer number typed × (integer_of number ≡ Some position) × (command ≡ Commands.Completion buffer position typed)
unfolding completion_of
completion_asks [] command bare is = absurd (cc)
completion_asks (b ∷ text) command bare is = by (integer_of (second_of (b ∷ text))) refl is where
  by : (o : Option ℤ) → integer_of (second_of (b ∷ text)) ≡ o → option_map (λ position. Commands.Completion (word_of (b ∷ text)) position (rest_of (rest_of (b ∷ text)))) o ≡ Some command →
      (buffer number typed : List ℕ) × (position : ℤ) × TwoParts (b ∷ text) buffer number typed × (integer_of number ≡ Some position) × (command ≡ Commands.Completion buffer position typed)
  by None e here = absurd (cc)
  by (Some position) e here =
      (word_of (b ∷ text), second_of (b ∷ text), rest_of (rest_of (b ∷ text)), position, TwoParts-made (b ∷ text) bare (λ none. cc), e, cc)

options_asks : (second : List ℕ) → AreOptions second (if_filled second (pieces_of second))
options_asks [] = refl
options_asks (b ∷ second) = (λ none. cc, refl)

selection_asks : (text : List ℕ) → BeginsWithout 32 text → Selects text (buffers_of text) (options_of text)
selection_asks [] bare = (refl, refl)
selection_asks (b ∷ text) bare =
    (word_of (b ∷ text), second_of (b ∷ text), rest_of (rest_of (b ∷ text)), TwoParts-made (b ∷ text) bare (λ none. cc), refl, options_asks (second_of (b ∷ text)))

pub asks-command_of : (word : Word) (text : List ℕ) (command : Command) → BeginsWithout 32 text → command_of word text ≡ Some command → Asks word text command
unfolding Asks command_of
asks-command_of Words.Handshake text command bare is = cc
asks-command_of Words.Init text command bare is = let given = filled_given text (Commands.Init (pairs_of text)) command is in (given.0, sym given.1)
asks-command_of Words.Hdata text command bare is = hdata_asks text command bare is
asks-command_of Words.Info text command bare is = named_asks text command (λ name. Commands.Info name) bare (leading_of text) refl is
asks-command_of Words.Infolist text command bare is = infolist_asks text command bare is
asks-command_of Words.Nicklist text command bare is = nicks_asks text command bare is
asks-command_of Words.Input text command bare is = input_asks text command bare (text_after 32 text) refl is
asks-command_of Words.Completion text command bare is = completion_asks text command bare is
asks-command_of Words.Sync text command bare is = (buffers_of text, options_of text, selection_asks text bare, cc)
asks-command_of Words.Desync text command bare is = (buffers_of text, options_of text, selection_asks text bare, cc)
asks-command_of Words.Test text command bare is = cc
asks-command_of Words.Ping text command bare is = cc
asks-command_of Words.Quit text command bare is = cc
