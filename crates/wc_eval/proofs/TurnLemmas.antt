-- How a condition is gone through along its texts, and what its sides are worth.
use Rattle.std.proofs.Common.{◌≡◌, ℕ, zero, suc, ◌-◌, ◌<◌, ◌≤◌, Bool, true, false, List, [], ◌∷◌, Option, Some, None}
use Rattle.std.proofs.Common.{Result, Ok, Err, refl, ap, sym, subst, ◌∙◌, arith, IsUtf8}
use Rattle.std.specs.Prelude.{if◌then◌else◌}
use Rattle.std.specs.Borrow.{Bor}
use Rattle.wc_eval.specs.declared.values.Stop.{Stop}
use Rattle.wc_eval.specs.declared.values.Stop.TheVariants.{Over, NoMemory}
use Rattle.wc_eval.specs.declared.parts.Sides.{Sides}
use Rattle.wc_eval.specs.declared.turns.Ranks.{Ranks}
use Rattle.wc_eval.specs.declared.turns.Turn.{Turn as Lent}
use Rattle.wc_eval.specs.declared.turns.Turn.TheVariants as lent
use Rattle.wc_eval.specs.declared.comparison.Comparison.{Comparison}
use Rattle.wc_eval.specs.Verdicts.{VerdictsView, Oracle, Agrees, Stay}
use Rattle.wc_eval.specs.Texts.{without_blanks, is_true, digit_of}
use Rattle.wc_eval.specs.Parts.{Comparing, parts_of, whole_group, comparing_in}
use Rattle.wc_eval.specs.Reading.{IsComparing, texts_left}
use Rattle.wc_eval.specs.Comparisons.{has_text_sides, holds_by}
use Rattle.wc_eval.specs.Progress.{Progress, Answer, Evaluator, then_do, answer_of, Gives}
use Rattle.wc_eval.specs.Conditions.{Test, some_holds, all_hold, side_of, worth_of, comparison_holds, comparison_or_text}
use Rattle.wc_eval.specs.Conditions.{single_holds, holds_with, never, holds_at, inside_at}
use Rattle.wc_eval.specs.Turns.{turn_among, next_turn, found_after, found_from, turn_of}
use Rattle.wc_eval.specs.Turns.{turn_size, ranks_size, EachUtf8, TurnUtf8}
use Rattle.wc_eval.proofs.StepLemmas.{Comes, agrees_earlier, gives_same, gives_then, gives_stop}
use Rattle.wc_eval.proofs.Utf8Lemmas.{parts_utf8, comparing_utf8}

-- ---- turns

among_is : (test : Test) (rest others : List (List ℕ)) (progress : Progress) →
    found_from test (turn_among rest others) progress ≡ found_after test rest others true progress
among_is test [] others progress = refl
among_is test (text ∷ rest) others progress = by (test text progress)
  where
    by : (o : Answer Bool) → then_do o (found_after test rest others)
        ≡ then_do (then_do o (λ holds after. if holds then all_hold test rest after
        else answer_of false after)) (λ all after. if all then answer_of true after
        else some_holds (λ part. all_hold test (parts_of 38 part)) others after)
    by None = refl
    by (Some found) = refl

turn_is : (test : Test) (holds : Bool) (rest others : List (List ℕ)) (progress : Progress) →
    found_from test (next_turn holds rest others) progress ≡ found_after test rest others holds progress
turn_is test true rest others progress = among_is test rest others progress
turn_is test false rest [] progress = refl
turn_is test false rest (part ∷ others) progress = among_is test (parts_of 38 part) others progress

-- ---- conditions by the groups that may nest

holds_is : (oracle : Oracle) (evaluate : Evaluator) (groups : ℕ) (text : List ℕ) (progress : Progress) →
    holds_at oracle evaluate groups text progress
    ≡ holds_with oracle evaluate (inside_at oracle evaluate groups) text progress
unfolding holds_at
holds_is oracle evaluate zero text progress = refl
holds_is oracle evaluate (suc groups) text progress = refl

inside_is : (oracle : Oracle) (evaluate : Evaluator) (groups : ℕ) → 0 < groups →
    inside_at oracle evaluate groups ≡ holds_at oracle evaluate (groups - 1)
inside_is oracle evaluate zero some = absurd (omega (arith, some))
inside_is oracle evaluate (suc groups) some =
    let e : suc groups - 1 ≡ groups = omega arith in ap (holds_at oracle evaluate) (sym e)

inside_none : (oracle : Oracle) (evaluate : Evaluator) (groups : ℕ) → groups ≡ 0 →
    inside_at oracle evaluate groups ≡ never
inside_none oracle evaluate zero e = refl
inside_none oracle evaluate (suc groups) e = absurd (omega (arith, e))

module _ (evaluate : Oracle → Evaluator) (groups : ℕ) (text : List ℕ) where
  abbrev single : Oracle → Test
  single oracle = single_holds oracle (evaluate oracle) (inside_at oracle (evaluate oracle) groups)

  abbrev whole : Oracle → Progress → Answer Bool
  whole oracle = holds_at oracle (evaluate oracle) groups text

  pub turns_begin : (turn : Lent) (v : VerdictsView) (p : Progress) →
      turn_of turn ≡ next_turn false [] (parts_of 124 text) →
      Comes whole (λ oracle. found_from (single oracle) (turn_of turn)) v p p
  turns_begin turn v p e oracle agrees =
      holds_is oracle (evaluate oracle) groups text p
      ∙ sym (turn_is (single oracle) false [] (parts_of 124 text) p)
      ∙ ap (λ t. found_from (single oracle) t p) (sym e)

  -- the condition holds or not
  pub turns_end : (turn : Lent) (holds : Bool) (v : VerdictsView) (old now : Progress) →
      turn ≡ lent.End holds → Comes whole (λ oracle. found_from (single oracle) (turn_of turn)) v old now →
      Gives whole v old now (Ok holds)
  turns_end turn holds v old now is comes =
      subst (λ t. Comes whole (λ oracle. found_from (single oracle) (turn_of t)) v old now) is comes

  module _ (turn : Lent) (part : Bor (List ℕ)) (ranks : Ranks) (is : turn ≡ lent.Test part ranks)
      (one two : VerdictsView) (old now later : Progress)
      (comes : Comes whole (λ oracle. found_from (single oracle) (turn_of turn)) one old now)
      (stay : Stay one two) where
    abbrev onward : Oracle → Bool → Progress → Answer Bool
    onward oracle = found_after (single oracle) (texts_left ranks.rest) (texts_left ranks.others)

    here : (oracle : Oracle) → Agrees oracle two →
        whole oracle old ≡ then_do (single oracle part.now now) (onward oracle)
    here oracle agrees =
        comes oracle (agrees_earlier oracle one two stay agrees)
        ∙ ap (λ t. found_from (single oracle) (turn_of t) now) is

    pub turns_next : (holds : Bool) (after : Lent) →
        Gives (λ oracle. single oracle part.now) two now later (Ok holds) →
        turn_of after ≡ next_turn holds (texts_left ranks.rest) (texts_left ranks.others) →
        Comes whole (λ oracle. found_from (single oracle) (turn_of after)) two old later
    turns_next holds after gives e oracle agrees =
        here oracle agrees
        ∙ ap (λ o. then_do o (onward oracle)) (gives oracle agrees)
        ∙ sym (turn_is (single oracle) holds (texts_left ranks.rest) (texts_left ranks.others) later)
        ∙ ap (λ t. found_from (single oracle) t later) (sym e)

    pub turns_stop : (stop : Stop) → Gives (λ oracle. single oracle part.now) two now later (Err stop) →
        Gives whole two old later (Err stop)
    turns_stop Over gives = λ oracle agrees. here oracle agrees
        ∙ ap (λ o. then_do o (onward oracle)) (gives oracle agrees)
    turns_stop NoMemory gives = tt

-- ---- one condition

compares_none : (text : List ℕ) → IsComparing (comparing_in text) None → comparing_in text ≡ None
compares_none text is = by (comparing_in text) refl is
  where
    by : (o : Option Comparing) → comparing_in text ≡ o → IsComparing o None → comparing_in text ≡ None
    by None e is = e
    by (Some found) e is = absurd is

pub sides_utf8 : (text : List ℕ) (sides : Sides) → IsComparing (comparing_in text) (Some sides) →
    IsUtf8 text → IsUtf8 sides.left.now × IsUtf8 sides.right.now
sides_utf8 text sides is utf8 = by (comparing_in text) refl is
  where
    by : (o : Option Comparing) → comparing_in text ≡ o → IsComparing o (Some sides) →
        IsUtf8 sides.left.now × IsUtf8 sides.right.now
    by None e is = absurd is
    by (Some found) e is = let both = comparing_utf8 text found e utf8 in
        (subst IsUtf8 (sym is.0) both.0, subst IsUtf8 (sym is.2) both.1)

module _ (evaluate : Oracle → Evaluator) (inside : Oracle → Test) (part text : List ℕ)
    (e : text ≡ without_blanks part) (v : VerdictsView) (a b : Progress) where
  abbrev tested : Oracle → Progress → Answer Bool
  tested oracle = single_holds oracle (evaluate oracle) (inside oracle) part

  -- a comparison
  pub single_compares : (sides : Sides) → IsComparing (comparing_in text) (Some sides) →
      (result : Result Bool Stop) → Gives (λ oracle. comparison_holds oracle (evaluate oracle)
      (inside oracle) sides.comparison sides.left.now sides.right.now) v a b result →
      Gives tested v a b result
  single_compares sides is result gives = gives_same v a b (λ oracle. comparison_holds oracle
      (evaluate oracle) (inside oracle) sides.comparison sides.left.now sides.right.now) tested
      (λ oracle progress. by oracle progress (comparing_in text) is
      ∙ ap (λ t. comparison_or_text oracle (evaluate oracle) (inside oracle) t (comparing_in t) progress) e)
      result gives
    where
      by : (oracle : Oracle) (progress : Progress) (o : Option Comparing) → IsComparing o (Some sides) →
          comparison_holds oracle (evaluate oracle) (inside oracle) sides.comparison sides.left.now
          sides.right.now progress
          ≡ comparison_or_text oracle (evaluate oracle) (inside oracle) text o progress
      by oracle progress None is = absurd is
      by oracle progress (Some found) is = rw (is.0, is.1, is.2) refl

  text_is : IsComparing (comparing_in text) None → (oracle : Oracle) (progress : Progress) →
      then_do (side_of (evaluate oracle) (inside oracle) false text progress)
      (λ value after. answer_of (is_true value) after) ≡ tested oracle progress
  text_is is oracle progress =
      ap (λ o. comparison_or_text oracle (evaluate oracle) (inside oracle) text o progress)
      (sym (compares_none text is))
      ∙ ap (λ t. comparison_or_text oracle (evaluate oracle) (inside oracle) t (comparing_in t) progress) e

  -- a text
  pub single_text : IsComparing (comparing_in text) None → (value : List ℕ) →
      Gives (λ oracle. side_of (evaluate oracle) (inside oracle) false text) v a b (Ok value) →
      Gives tested v a b (Ok (is_true value))
  single_text is value gives = λ oracle agrees. sym (text_is is oracle a)
      ∙ ap (λ o. then_do o (λ value after. answer_of (is_true value) after)) (gives oracle agrees)

  pub single_stops : IsComparing (comparing_in text) None → (stop : Stop) →
      Gives (λ oracle. side_of (evaluate oracle) (inside oracle) false text) v a b (Err stop) →
      Gives tested v a b (Err stop)
  single_stops is Over gives = λ oracle agrees. sym (text_is is oracle a)
      ∙ ap (λ o. then_do o (λ value after. answer_of (is_true value) after)) (gives oracle agrees)
  single_stops is NoMemory gives = tt

-- ---- both sides

module _ (evaluate : Oracle → Evaluator) (inside : Oracle → Test) (comparison : Comparison)
    (left right : List ℕ) where
  abbrev side : List ℕ → Oracle → Progress → Answer (List ℕ)
  side text oracle = side_of (evaluate oracle) (inside oracle) (has_text_sides comparison)
      (without_blanks text)

  abbrev compared : Oracle → Progress → Answer Bool
  compared oracle = comparison_holds oracle (evaluate oracle) (inside oracle) comparison left right

  abbrev second : Oracle → List ℕ → Progress → Answer Bool
  second oracle a after = then_do (side right oracle after)
      (λ b last. answer_of (holds_by oracle comparison a b) last)

  -- the left side stops
  pub left_stops : (v : VerdictsView) (a b : Progress) (stop : Stop) →
      Gives (side left) v a b (Err stop) → Gives compared v a b (Err stop)
  left_stops v a b stop gives = gives_stop (side left) second v v a a b stop gives

  module _ (one two : VerdictsView) (a b c : Progress) (l : List ℕ)
      (first : Gives (side left) one a b (Ok l)) where
    pub right_stops : (stop : Stop) → Stay one two → Gives (side right) two b c (Err stop) →
        Gives compared two a c (Err stop)
    right_stops stop stay gives = gives_then (side left) second one two a b c l (Err stop) first stay
        (gives_stop (side right) (λ oracle b last. answer_of (holds_by oracle comparison l b) last)
        two two b b c stop gives)

    pub both_hold : (three : VerdictsView) (r : List ℕ) (holds : Bool) → Stay one two → Stay two three →
        Gives (side right) two b c (Ok r) →
        ((oracle : Oracle) → Agrees oracle three → holds ≡ holds_by oracle comparison l r) →
        Gives compared three a c (Ok holds)
    both_hold three r holds early late gives found = λ oracle agrees.
        let middle = agrees_earlier oracle two three late agrees in
        ap (λ o. then_do o (second oracle)) (first oracle (agrees_earlier oracle one two early middle))
        ∙ ap (λ o. then_do o (λ b last. answer_of (holds_by oracle comparison l b) last))
        (gives oracle middle)
        ∙ ap (λ h. answer_of h c) (sym (found oracle agrees))

-- ---- one side

module _ (evaluate : Oracle → Evaluator) (groups : ℕ) (is_text : Bool) (text : List ℕ)
    (v : VerdictsView) (a b : Progress) where
  abbrev worth : Oracle → Progress → Answer (List ℕ)
  worth oracle = side_of (evaluate oracle) (inside_at oracle (evaluate oracle) groups) is_text text

  pub side_text : is_text ≡ true → (result : Result (List ℕ) Stop) →
      Gives (λ oracle. evaluate oracle text) v a b result → Gives worth v a b result
  side_text e result gives = gives_same v a b (λ oracle. evaluate oracle text) worth
      (λ oracle progress. ap (λ t. side_of (evaluate oracle) (inside_at oracle (evaluate oracle) groups)
      t text progress) (sym e)) result gives

  grouped : (o : Option (List ℕ)) → is_text ≡ false → whole_group text ≡ o →
      (oracle : Oracle) (progress : Progress) →
      worth_of (evaluate oracle) (inside_at oracle (evaluate oracle) groups) text o progress
      ≡ worth oracle progress
  grouped o e is oracle progress =
      ap (λ o. worth_of (evaluate oracle) (inside_at oracle (evaluate oracle) groups) text o progress) (sym is)
      ∙ ap (λ t. side_of (evaluate oracle) (inside_at oracle (evaluate oracle) groups) t text progress) (sym e)

  pub side_plain : is_text ≡ false → whole_group text ≡ None → (result : Result (List ℕ) Stop) →
      Gives (λ oracle. evaluate oracle text) v a b result → Gives worth v a b result
  side_plain e is result gives = gives_same v a b (λ oracle. evaluate oracle text) worth
      (grouped None e is) result gives

  -- deeper than may be
  pub side_over : is_text ≡ false → (inside : List ℕ) → whole_group text ≡ Some inside → groups ≡ 0 →
      Gives worth v a a (Ok (48 ∷ []))
  side_over e inside is none = λ oracle agrees. sym (grouped (Some inside) e is oracle a)
      ∙ ap (λ (t : Test). then_do (t inside a) (λ holds after. answer_of (digit_of holds) after))
      (inside_none oracle (evaluate oracle) groups none)

  module _ (e : is_text ≡ false) (inside : List ℕ) (is : whole_group text ≡ Some inside)
      (some : 0 < groups) where
    group_is : (oracle : Oracle) (progress : Progress) →
        then_do (holds_at oracle (evaluate oracle) (groups - 1) inside progress)
        (λ holds after. answer_of (digit_of holds) after) ≡ worth oracle progress
    group_is oracle progress =
        ap (λ (t : Test). then_do (t inside progress) (λ holds after. answer_of (digit_of holds) after))
        (sym (inside_is oracle (evaluate oracle) groups some))
        ∙ grouped (Some inside) e is oracle progress

    pub side_group : (holds : Bool) →
        Gives (λ oracle. holds_at oracle (evaluate oracle) (groups - 1) inside) v a b (Ok holds) →
        Gives worth v a b (Ok (digit_of holds))
    side_group holds gives = λ oracle agrees. sym (group_is oracle a)
        ∙ ap (λ o. then_do o (λ holds after. answer_of (digit_of holds) after)) (gives oracle agrees)

    pub side_stops : (stop : Stop) →
        Gives (λ oracle. holds_at oracle (evaluate oracle) (groups - 1) inside) v a b (Err stop) →
        Gives worth v a b (Err stop)
    side_stops Over gives = λ oracle agrees. sym (group_is oracle a)
        ∙ ap (λ o. then_do o (λ holds after. answer_of (digit_of holds) after)) (gives oracle agrees)
    side_stops NoMemory gives = tt

-- ---- UTF-8

among_texts : (rest others : List (List ℕ)) → EachUtf8 rest → EachUtf8 others →
    TurnUtf8 (turn_among rest others)
among_texts [] others r o = tt
among_texts (text ∷ rest) others r o = (r.0, (r.1, o))

next_utf8 : (holds : Bool) (rest others : List (List ℕ)) → EachUtf8 rest → EachUtf8 others →
    TurnUtf8 (next_turn holds rest others)
next_utf8 true rest others r o = among_texts rest others r o
next_utf8 false rest [] r o = tt
next_utf8 false rest (part ∷ others) r o =
    among_texts (parts_of 38 part) others (parts_utf8 38 part (omega arith) o.0) o.1

pub begin_utf8 : (text : List ℕ) (turn : Lent) → turn_of turn ≡ next_turn false [] (parts_of 124 text) →
    IsUtf8 text → TurnUtf8 (turn_of turn)
begin_utf8 text turn e utf8 = subst TurnUtf8 (sym e)
    (next_utf8 false [] (parts_of 124 text) tt (parts_utf8 124 text (omega arith) utf8))

module _ (turn : Lent) (part : Bor (List ℕ)) (ranks : Ranks) (is : turn ≡ lent.Test part ranks)
    (utf8 : TurnUtf8 (turn_of turn)) where
  tests : TurnUtf8 (turn_of (lent.Test part ranks))
  tests = subst (λ t. TurnUtf8 (turn_of t)) is utf8

  pub part_utf8 : IsUtf8 part.now
  part_utf8 = tests.0

  pub turn_utf8 : (holds : Bool) (after : Lent) →
      turn_of after ≡ next_turn holds (texts_left ranks.rest) (texts_left ranks.others) →
      TurnUtf8 (turn_of after)
  turn_utf8 holds after e = subst TurnUtf8 (sym e)
      (next_utf8 holds (texts_left ranks.rest) (texts_left ranks.others) tests.1.0 tests.1.1)

-- the measure falls
pub turn_falls : (turn after : Lent) (part : Bor (List ℕ)) (ranks : Ranks) →
    turn ≡ lent.Test part ranks → turn_size after ≤ ranks_size ranks → turn_size after < turn_size turn
turn_falls turn after part ranks is less =
    subst (λ t. turn_size after < turn_size t) (sym is) (omega (arith, less))
