-- Commands by their names, and words one after another.
use Rattle.std.proofs.Common.{◌≡◌, ℕ, eqb, suc, ◌+◌, ◌<◌, ◌≤◌, Bool, true, false, cond, List, [], ◌∷◌, length, Option, Some, None, refl, ap, sym, ◌∙◌, arith, codes, nat_lt}
use Rattle.std.specs.Prelude.{not, ◌&&◌, ◌||◌, ◌==◌, nat_le, option_map}
use Rattle.std.proofs.lemmas.Bool.Decides.{nat_tests}
use Rattle.wc_irc_words.specs.declared.command_word.CommandWord.{CommandWord}
use Rattle.wc_irc_words.specs.declared.command_word.CommandWord.TheVariants as words
use Rattle.wc_irc_words.specs.declared.everyday.Everyday.{Everyday}
use Rattle.wc_irc_words.specs.Everyday.{everyday_named}
use Rattle.wc_irc_words.specs.Typed.{ServerCommand, Bids, command_of, is_called, is_either, is_target, ends_at_colon, are_words_to}
use Rattle.wc_irc_words.specs.TypedSeen.{asked_with, word_or, word_named, words_from}

abbrev pub asked_by : Option CommandWord → List ℕ → Option ServerCommand
asked_by None text = None
asked_by (Some word) text = Some (asked_with word text)

asked_if : (b : Bool) (word : CommandWord) (others : Option CommandWord) (more : Option Everyday) (text : List ℕ)
    → asked_by (word_or (cond b (Some word) others) more) text ≡ cond b (Some (asked_with word text)) (asked_by (word_or others more) text)
asked_if true word others more text = refl
asked_if false word others more text = refl

-- one more name before others
step : (b : Bool) (word : CommandWord) (others : Option CommandWord) (more : Option Everyday) (text : List ℕ) (rest : Option ServerCommand) → asked_by (word_or others more) text ≡ rest
    → asked_by (word_or (cond b (Some word) others) more) text ≡ cond b (Some (asked_with word text)) rest
step b word others more text rest same = asked_if b word others more text ∙ ap (cond b (Some (asked_with word text))) same

-- no name but those of everyday commands
bids : (more : Option Everyday) (text : List ℕ) → asked_by (word_or None more) text ≡ option_map (λ word. Bids word text) more
bids None text = refl
bids (Some word) text = refl

-- a command that no letter stands for as well
one_name : (b : Bool) → (b || b) ≡ b
one_name true = refl
one_name false = refl

step_one : (b : Bool) (word : CommandWord) (others : Option CommandWord) (more : Option Everyday) (text : List ℕ) (rest : Option ServerCommand) → asked_by (word_or others more) text ≡ rest
    → asked_by (word_or (cond (b || b) (Some word) others) more) text ≡ cond b (Some (asked_with word text)) rest
step_one b word others more text rest same = ap (λ t. asked_by (word_or (cond t (Some word) others) more) text) (one_name b) ∙ step b word others more text rest same

pub command_named : (name text : List ℕ) → asked_by (word_named name) text ≡ command_of name text
unfolding command_of
command_named name text =
    let more = everyday_named name in
    step (is_either name (codes "join") (codes "j")) words.Join _ more text _ (
    step_one (is_called name (codes "part")) words.Part _ more text _ (
    step (is_either name (codes "msg") (codes "m")) words.Msg _ more text _ (
    step_one (is_called name (codes "notice")) words.Notice _ more text _ (
    step (is_either name (codes "query") (codes "q")) words.Query _ more text _ (
    step_one (is_called name (codes "me")) words.Me _ more text _ (
    step_one (is_called name (codes "nick")) words.Nick _ more text _ (
    step_one (is_called name (codes "topic")) words.Topic _ more text _ (
    step (is_either name (codes "kick") (codes "k")) words.Kick _ more text _ (
    step_one (is_called name (codes "mode")) words.Mode _ more text _ (
    step (is_either name (codes "names") (codes "n")) words.Names _ more text _ (
    step_one (is_called name (codes "quote")) words.Quote _ more text _ (
    step_one (is_called name (codes "server")) words.Server _ more text _ (
    step_one (is_called name (codes "connect")) words.Connect _ more text _ (
    step_one (is_called name (codes "disconnect")) words.Disconnect None more text _ (bids more text)))))))))))))))

-- what so many words before, which did not end them, and these make together
abbrev all_from : ℕ → ℕ → List (List ℕ) → Bool
all_from most count words = nat_lt 0 (count + length words) && (nat_le (count + length words) most && ends_at_colon words)

too_many : (most count n : ℕ) (rest ends : Bool) → eqb count most ≡ true → false ≡ (nat_lt 0 (count + suc n) && (nat_le (count + suc n) most && ends))
too_many most count n rest ends full =
    let over : nat_le (count + suc n) most ≡ false = grind (arith, nat_tests) in
    sym (ap (λ t. nat_lt 0 (count + suc n) && (t && ends)) over ∙ and_false (nat_lt 0 (count + suc n))) where
      and_false : (b : Bool) → (b && false) ≡ false
      and_false true = refl
      and_false false = refl

none_after : (most count : ℕ) → count ≤ most → nat_lt 0 count ≡ all_from most count []
none_after most count few = grind (arith, nat_tests)

last_word : (most count : ℕ) (word : List ℕ) → count ≤ most → words_from most count false (word ∷ []) ≡ all_from most count (word ∷ [])
last_word most count word few = by (eqb count most) refl where
  by : (t : Bool) → eqb count most ≡ t → (not t && nat_lt 0 (suc count)) ≡ (nat_lt 0 (count + 1) && (nat_le (count + 1) most && true))
  by true full = too_many most count 0 true true full
  by false free = let more : count < most = grind (arith, nat_tests) in grind (arith, nat_tests)

more_words : (most count : ℕ) (word next : List ℕ) (words : List (List ℕ)) → count ≤ most
    → (suc count ≤ most → words_from most (suc count) false (next ∷ words) ≡ all_from most (suc count) (next ∷ words))
    → words_from most count false (word ∷ next ∷ words) ≡ all_from most count (word ∷ next ∷ words)
more_words most count word next words few ih = by (eqb count most) refl (is_target word) where
  by : (t : Bool) → eqb count most ≡ t → (target : Bool) → (not t && words_from most (suc count) (not target) (next ∷ words))
      ≡ (nat_lt 0 (count + suc (suc (length words))) && (nat_le (count + suc (suc (length words))) most && (target && ends_at_colon (next ∷ words))))
  by true full target = too_many most count (suc (length words)) true (target && ends_at_colon (next ∷ words)) full
  by false free true =
      let more : count < most = grind (arith, nat_tests) in
      let same : suc count + suc (length words) ≡ count + suc (suc (length words)) = omega arith in
      ih (omega arith) ∙ ap (λ n. nat_lt 0 n && (nat_le n most && ends_at_colon (next ∷ words))) same
  by false free false = sym (never (nat_lt 0 (count + suc (suc (length words)))) (nat_le (count + suc (suc (length words))) most)) where
    never : (a b : Bool) → (a && (b && false)) ≡ false
    never true true = refl
    never true false = refl
    never false b = refl

few_words_more : (most : ℕ) (words : List (List ℕ)) (count : ℕ) → count ≤ most → words_from most count false words ≡ all_from most count words
few_words_more most [] count few = none_after most count few
few_words_more most (word ∷ []) count few = last_word most count word few
few_words_more most (word ∷ next ∷ words) count few = more_words most count word next words few (few_words_more most (next ∷ words) (suc count))

pub few_words_all : (most : ℕ) (words : List (List ℕ)) → words_from most 0 false words ≡ are_words_to most words
few_words_all most words = few_words_more most words 0 (omega arith) ∙ ap (λ n. nat_lt 0 n && (nat_le n most && ends_at_colon words)) (none (length words)) where
  none : (n : ℕ) → 0 + n ≡ n
  none n = omega arith

-- a word that may not come any more
pub few_words_end : (most count : ℕ) (ends : Bool) (word : List ℕ) (words : List (List ℕ)) → (ends || (count == most)) ≡ true → words_from most count ends (word ∷ words) ≡ false
few_words_end most count ends word words full = ap (λ t. not t && words_from most (suc count) (not (is_target word)) words) full
