-- The value of a text in which matches are replaced, and what is left of it on the way.
use Rattle.std.proofs.Common.{◌≡◌, ℕ, ◌+◌, ◌<◌, ◌≤◌, List, [], ◌∷◌, ◌++◌, length, None, Result, Ok, Err}
use Rattle.std.proofs.Common.{refl, ap, ap₂, sym, subst, ◌∙◌, length-append, arith}
use Rattle.wc_eval.specs.declared.values.Stop.{Stop}
use Rattle.wc_eval.specs.declared.values.Stop.TheVariants.{Over, NoMemory}
use Rattle.wc_eval.specs.Verdicts.{VerdictsView, Oracle, Agrees, Stay}
use Rattle.wc_eval.specs.Names.{Facts}
use Rattle.wc_eval.specs.Progress.{Progress, Answer, then_do, answer_of, if_short, Gives}
use Rattle.wc_eval.specs.Meaning.{put_before, evaluator}
use Rattle.wc_eval.specs.Replaced.{Groups, Replacer, match_span, group_texts, text_between, matches_value, value_at, replaced_text}
use Rattle.wc_eval.proofs.StepLemmas.{agrees_earlier, Comes}
use Rattle.wc_eval.proofs.MeaningLemmas.{put_both, put_none, too_long, short_is, long_is}

pub nothing : {A : Type 0} (xs : List A) → length xs ≡ 0 → xs ≡ []
nothing [] e = refl
nothing (x ∷ xs) e = absurd (omega (arith, e))

-- ---- one match

-- a text that is evaluated with the groups of a match
pub value_is : (scope inner at : Facts) (groups : List (List ℕ)) (levels : ℕ) (replacement : List ℕ) (v : VerdictsView) (p q : Progress) →
    inner ≡ record scope { groups = groups } → at ≡ inner → levels ≡ 32 → (result : Result (List ℕ) Stop) →
    Gives (λ oracle. evaluator at oracle levels replacement) v p q result →
    Gives (λ oracle. value_at scope oracle replacement groups) v p q result
value_is scope inner at groups levels replacement v p q is same most result gives =
    subst (λ f. Gives (λ oracle. evaluator f oracle 32 replacement) v p q result) (same ∙ is)
    (subst (λ n. Gives (λ oracle. evaluator at oracle n replacement) v p q result) most gives)

-- ---- along the matches

-- what is left after a value of what is before it
abbrev pub left_of_matches : Replacer → List ℕ → List ℕ → ℕ → List Groups → Progress → Answer (List ℕ)
left_of_matches replacer text value at rest progress = if_short (put_before value (matches_value replacer text at rest progress))

pub matches_begin : (scope : Facts) (replacement text value : List ℕ) (at : ℕ) (rest matches : List Groups) (v : VerdictsView) (p : Progress) →
    value ≡ [] → at ≡ 0 → rest ≡ matches →
    Comes (λ oracle. replaced_text scope oracle replacement text matches)
    (λ oracle. left_of_matches (value_at scope oracle replacement) text value at rest) v p p
unfolding replaced_text
matches_begin scope replacement text value at rest matches v p e start all oracle agrees =
    ap if_short (sym (put_none (matches_value (value_at scope oracle replacement) text 0 matches p)))
    ∙ ap (λ l. left_of_matches (value_at scope oracle replacement) text l 0 matches p) (sym e)
    ∙ ap (λ n. left_of_matches (value_at scope oracle replacement) text value n matches p) (sym start)
    ∙ ap (λ ms. left_of_matches (value_at scope oracle replacement) text value at ms p) (sym all)

module _ (whole : Oracle → Progress → Answer (List ℕ)) (replacer : Oracle → Replacer)
    (text value plain more : List ℕ) (at : ℕ) (rest : List Groups) (one : VerdictsView) (old now : Progress)
    (comes : Comes whole (λ oracle. left_of_matches (replacer oracle) text value at rest) one old now) where
  -- after the last match
  module _ (none : rest ≡ []) (is : plain ≡ text_between text at (length text)) where
    last : (oracle : Oracle) → Agrees oracle one → whole oracle old ≡ if_short (answer_of (value ++ plain) now)
    last oracle agrees = comes oracle agrees
        ∙ ap (λ ms. left_of_matches (replacer oracle) text value at ms now) none
        ∙ ap (λ l. if_short (answer_of (value ++ l) now)) (sym is)

    pub matches_end : more ≡ value ++ plain → length more ≤ 65536 → Gives whole one old now (Ok more)
    matches_end e short oracle agrees = last oracle agrees
        ∙ ap (λ l. if_short (answer_of l now)) (sym e)
        ∙ short_is more now short

    pub end_over : 65536 < length value + length plain → (oracle : Oracle) → Agrees oracle one → whole oracle old ≡ None
    end_over long oracle agrees =
        let over : 65536 < length (value ++ plain) = omega (arith, long, length-append value plain) in
        last oracle agrees ∙ long_is (value ++ plain) now over

  -- at a match
  module _ (m : Groups) (others : List Groups) (first : rest ≡ m ∷ others) (is : plain ≡ text_between text at (match_span m).0) where
    abbrev onward : Oracle → List ℕ → Progress → Answer (List ℕ)
    onward oracle made after = put_before made (matches_value (replacer oracle) text (match_span m).1 others after)

    abbrev following : Oracle → Answer (List ℕ)
    following oracle = then_do (replacer oracle (group_texts text m) now) (onward oracle)

    before : (oracle : Oracle) → Agrees oracle one → whole oracle old ≡ if_short (put_before (value ++ plain) (following oracle))
    before oracle agrees = comes oracle agrees
        ∙ ap (λ ms. left_of_matches (replacer oracle) text value at ms now) first
        ∙ ap (λ l. if_short (put_before value (put_before l (following oracle)))) (sym is)
        ∙ ap if_short (put_both value plain (following oracle))

    -- what is before it is too long
    pub plain_over : 65536 < length value + length plain → (oracle : Oracle) → Agrees oracle one → whole oracle old ≡ None
    plain_over long oracle agrees =
        let over : 65536 < length (value ++ plain) = omega (arith, long, length-append value plain) in
        before oracle agrees ∙ too_long (value ++ plain) (following oracle) over

    module _ (two : VerdictsView) (later : Progress) (e : more ≡ value ++ plain) (stay : Stay one two) where
      here : (oracle : Oracle) → Agrees oracle two → whole oracle old ≡ if_short (put_before more (following oracle))
      here oracle agrees = before oracle (agrees_earlier oracle one two stay agrees)
          ∙ ap (λ l. if_short (put_before l (following oracle))) (sym e)

      pub match_stops : (stop : Stop) → Gives (λ oracle. replacer oracle (group_texts text m)) two now later (Err stop) →
          Gives whole two old later (Err stop)
      match_stops Over gives = λ oracle agrees. here oracle agrees
          ∙ ap (λ o. if_short (put_before more (then_do o (onward oracle)))) (gives oracle agrees)
      match_stops NoMemory gives = tt

      module _ (made : List ℕ) (gives : Gives (λ oracle. replacer oracle (group_texts text m)) two now later (Ok made)) where
        after_made : (oracle : Oracle) → Agrees oracle two →
            whole oracle old ≡ left_of_matches (replacer oracle) text (more ++ made) (match_span m).1 others later
        after_made oracle agrees = here oracle agrees
            ∙ ap (λ o. if_short (put_before more (then_do o (onward oracle)))) (gives oracle agrees)
            ∙ ap if_short (put_both more made (matches_value (replacer oracle) text (match_span m).1 others later))

        -- the value is too long
        pub made_over : 65536 < length more + length made → (oracle : Oracle) → Agrees oracle two → whole oracle old ≡ None
        made_over long oracle agrees =
            let over : 65536 < length (more ++ made) = omega (arith, long, length-append more made) in
            after_made oracle agrees ∙ too_long (more ++ made) (matches_value (replacer oracle) text (match_span m).1 others later) over

        pub match_next : (next : List ℕ) (place : ℕ) → next ≡ more ++ made → place ≡ (match_span m).1 →
            Comes whole (λ oracle. left_of_matches (replacer oracle) text next place others) two old later
        match_next next place grown end oracle agrees = after_made oracle agrees
            ∙ ap₂ (λ l n. left_of_matches (replacer oracle) text l n others later) (sym grown) (sym end)
