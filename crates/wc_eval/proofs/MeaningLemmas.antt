-- The value of a text along its forms, and what is left of it on the way.
use Rattle.std.proofs.Common.{◌≡◌, ℕ, zero, suc, ◌+◌, ◌<◌, ◌≤◌, ◌⊎◌, Bool, true, false, List, [], ◌∷◌, ◌++◌, length, drop, get_or}
use Rattle.std.proofs.Common.{Option, Some, None, Result, Ok, Err, refl, ap, sym, ◌∙◌, append-nil, append_assoc, length-append, arith}
use Rattle.std.specs.Prelude.{nat_le, nat_lt, All, if◌then◌else◌}
use Rattle.std.proofs.lemmas.Option.{none-some, same_Some}
use Rattle.std.specs.Str.{IsUtf8}
use Rattle.std.proofs.lemmas.List.{drop_more, drop_all}
use Rattle.std.proofs.lemmas.List.Elements.{All-head, All-tail}
use Rattle.wc_eval.specs.Arguments.{lent_texts}
use Rattle.std.specs.Borrow.{Bor}
use mathlib.Core.Logic.{inl, inr}
use Rattle.std.proofs.lemmas.Bool.Decides.{nat_tests}
use Rattle.wc_eval.specs.declared.values.Stop.{Stop}
use Rattle.wc_eval.specs.declared.values.Stop.TheVariants.{Over, NoMemory}
use Rattle.wc_eval.specs.Verdicts.{VerdictsView, Oracle, Agrees, Stay}
use Rattle.wc_eval.specs.Pieces.{Piece, Form, bytes_of, pieces_of}
use Rattle.wc_eval.specs.Walks.{CutsToForm}
use Rattle.wc_eval.specs.declared.kind.Kind.{Kind}
use Rattle.wc_eval.specs.Kinds.{kind_of}
use Rattle.wc_eval.specs.Values.{longest}
use Rattle.wc_eval.specs.Names.{Facts}
use Rattle.wc_eval.specs.Progress.{Progress, Answer, Evaluator, then_do, answer_of, if_short, if_fits, value_fits, with_made, counted, most_forms, Gives}
use Rattle.wc_eval.specs.Meaning.{put_before, pieces_value, values_by, kind_value, evaluator, form_at}
use Rattle.wc_eval.proofs.StepLemmas.{agrees_earlier, Comes}

-- ---- a limit

fits : (text : List ℕ) → length text ≤ 65536 → nat_le (length text) longest ≡ true
fits text short = grind (arith, nat_tests)

fits_not : (text : List ℕ) → 65536 < length text → nat_le (length text) longest ≡ false
fits_not text long = grind (arith, nat_tests)

pub short_is : (text : List ℕ) (p : Progress) → length text ≤ 65536 →
    if_short (answer_of text p) ≡ Some (text, p)
short_is text p short = rw (fits text short) refl

pub long_is : (text : List ℕ) (p : Progress) → 65536 < length text → if_short (answer_of text p) ≡ None
long_is text p long = rw (fits_not text long) refl

-- a value that is too long does not fit
pub long_fits_not : (text : List ℕ) (p : Progress) → 65536 < length text → if_fits (answer_of text p) ≡ None
long_fits_not text p long = rw (fits_not text long) refl

pub fits_same : (text : List ℕ) (p q : Progress) (made : List ℕ) → if_fits (answer_of text p) ≡ Some (made, q) →
    text ≡ made
fits_same text p q made = by (value_fits (length text) p)
  where
    by : (b : Bool) → ◌≡◌ {A = Answer (List ℕ)} (if b then Some (text, with_made (length text) p) else None)
        (Some (made, q)) → text ≡ made
    by true e = ap (λ f. f.0) (same_Some _ _ e)
    by false e = absurd (none-some _ e)

pub too_long : (front : List ℕ) (o : Answer (List ℕ)) → 65536 < length front → if_short (put_before front o) ≡ None
too_long front None long = refl
too_long front (Some found) long =
    let more : 65536 < length (front ++ found.0) = omega (arith, long, length-append front found.0) in
    long_is (front ++ found.0) found.1 more

-- ---- bytes before pieces

pub put_both : (a b : List ℕ) (o : Answer (List ℕ)) → put_before a (put_before b o) ≡ put_before (a ++ b) o
put_both a b None = refl
put_both a b (Some found) = ap (λ l. answer_of l found.1) (sym (append_assoc a b found.0))

pub put_none : (o : Answer (List ℕ)) → put_before [] o ≡ o
put_none None = refl
put_none (Some found) = refl

module _ (form : Evaluator) where
  bytes_value : (front : List ℕ) (ps : List Piece) (p : Progress) →
      pieces_value form (bytes_of front ++ ps) p ≡ put_before front (pieces_value form ps p)
  bytes_value [] ps p = sym (put_none (pieces_value form ps p))
  bytes_value (b ∷ front) ps p = ap (put_before (b ∷ [])) (bytes_value front ps p)
      ∙ put_both (b ∷ []) front (pieces_value form ps p)

  bytes_alone : (text : List ℕ) (p : Progress) → pieces_value form (bytes_of text) p ≡ Some (text, p)
  bytes_alone [] p = refl
  bytes_alone (b ∷ text) p = ap (put_before (b ∷ [])) (bytes_alone text p)

  -- what comes after the bytes at the front
  record IsCut (rest plain : List ℕ) (p : Progress) : Type 0 where
    pub others : Answer (List ℕ)
    pub is : pieces_value form (pieces_of rest) p ≡ put_before plain others

  is_cut : (rest plain : List ℕ) (following : Option (Bor (List ℕ) × Bor (List ℕ))) (p : Progress) →
      CutsToForm rest plain following → IsCut rest plain p
  is_cut rest plain None p cuts = record {
    others = Some ([], p);
    is = ap (λ ps. pieces_value form ps p) cuts.1
        ∙ bytes_alone rest p
        ∙ ap (λ l. answer_of l p) (sym cuts.0 ∙ sym (append-nil plain));
  }
  is_cut rest plain (Some parts) p cuts = record {
    others = pieces_value form (Form parts.0.now ∷ pieces_of parts.1.now) p;
    is = ap (λ ps. pieces_value form ps p) cuts
        ∙ bytes_value plain (Form parts.0.now ∷ pieces_of parts.1.now) p;
  }

-- ---- along a text

-- what is left after a value of what is before it
abbrev pub left_of_text : Evaluator → List ℕ → List ℕ → Progress → Answer (List ℕ)
left_of_text form value rest progress =
    if_short (put_before value (pieces_value form (pieces_of rest) progress))

module _ (whole : Oracle → Progress → Answer (List ℕ)) (form : Oracle → Evaluator)
    (value plain rest more : List ℕ) (one : VerdictsView) (old now : Progress)
    (comes : Comes whole (λ oracle. left_of_text (form oracle) value rest) one old now) where
  pub text_end : CutsToForm rest plain None → more ≡ value ++ plain → length more ≤ 65536 →
      Gives whole one old now (Ok more)
  text_end cuts e short oracle agrees =
      comes oracle agrees
      ∙ ap (λ ps. if_short (put_before value (pieces_value (form oracle) ps now))) cuts.1
      ∙ ap (λ o. if_short (put_before value o)) (bytes_alone (form oracle) rest now)
      ∙ ap (λ l. if_short (answer_of l now)) (ap (λ l. value ++ l) (sym cuts.0) ∙ sym e)
      ∙ short_is more now short

  -- the bytes are too many
  pub text_over : (following : Option (Bor (List ℕ) × Bor (List ℕ))) → CutsToForm rest plain following →
      65536 < length value + length plain →
      (oracle : Oracle) → Agrees oracle one → whole oracle old ≡ None
  text_over following cuts long oracle agrees =
      let cut = is_cut (form oracle) rest plain following now cuts in
      let over : 65536 < length (value ++ plain) = omega (arith, long, length-append value plain) in
      comes oracle agrees
      ∙ ap (λ o. if_short (put_before value o)) cut.is
      ∙ ap if_short (put_both value plain cut.others)
      ∙ too_long (value ++ plain) cut.others over

  module _ (two : VerdictsView) (later : Progress) (parts : Bor (List ℕ) × Bor (List ℕ))
      (cuts : CutsToForm rest plain (Some parts)) (e : more ≡ value ++ plain) (stay : Stay one two) where
    abbrev onward : Oracle → List ℕ → Progress → Answer (List ℕ)
    onward oracle made after = put_before made (pieces_value (form oracle) (pieces_of parts.1.now) after)

    here : (oracle : Oracle) → Agrees oracle two →
        whole oracle old ≡ if_short (put_before more (then_do (form oracle parts.0.now now) (onward oracle)))
    here oracle agrees =
        comes oracle (agrees_earlier oracle one two stay agrees)
        ∙ ap (λ ps. if_short (put_before value (pieces_value (form oracle) ps now))) cuts
        ∙ ap (λ o. if_short (put_before value o)) (bytes_value (form oracle) plain
        (Form parts.0.now ∷ pieces_of parts.1.now) now)
        ∙ ap if_short (put_both value plain (then_do (form oracle parts.0.now now) (onward oracle)))
        ∙ ap (λ l. if_short (put_before l (then_do (form oracle parts.0.now now) (onward oracle)))) (sym e)

    pub form_stops : (stop : Stop) → Gives (λ oracle. form oracle parts.0.now) two now later (Err stop) →
        Gives whole two old later (Err stop)
    form_stops Over gives = λ oracle agrees. here oracle agrees
        ∙ ap (λ o. if_short (put_before more (then_do o (onward oracle)))) (gives oracle agrees)
    form_stops NoMemory gives = tt

    module _ (made : List ℕ) (gives : Gives (λ oracle. form oracle parts.0.now) two now later (Ok made)) where
      after_made : (oracle : Oracle) → Agrees oracle two →
          whole oracle old ≡ left_of_text (form oracle) (more ++ made) parts.1.now later
      after_made oracle agrees = here oracle agrees
          ∙ ap (λ o. if_short (put_before more (then_do o (onward oracle)))) (gives oracle agrees)
          ∙ ap if_short (put_both more made (pieces_value (form oracle) (pieces_of parts.1.now) later))

      -- the value is too long
      pub made_over : 65536 < length more + length made → (oracle : Oracle) → Agrees oracle two →
          whole oracle old ≡ None
      made_over long oracle agrees =
          let over : 65536 < length (more ++ made) = omega (arith, long, length-append more made) in
          after_made oracle agrees
          ∙ too_long (more ++ made) (pieces_value (form oracle) (pieces_of parts.1.now) later) over

      pub text_next : (next : List ℕ) → next ≡ more ++ made →
          Comes whole (λ oracle. left_of_text (form oracle) next parts.1.now) two old later
      text_next next is oracle agrees = after_made oracle agrees
          ∙ ap (λ l. left_of_text (form oracle) l parts.1.now later) (sym is)

-- ---- by the forms that may nest

few_forms : (n : ℕ) → n < 65536 → nat_lt n most_forms ≡ true
few_forms n few = grind (arith, nat_tests)

many_forms : (n : ℕ) → 65536 ≤ n → nat_lt n most_forms ≡ false
many_forms n many = grind (arith, nat_tests)

module _ (scope : Facts) (oracle : Oracle) where
  evaluator_is : (n : ℕ) (text : List ℕ) (p : Progress) →
      evaluator scope oracle n text p ≡ left_of_text (form_at scope oracle n) [] text p
  unfolding evaluator form_at
  evaluator_is zero text p = ap if_short (sym (put_none (pieces_value (form_at scope oracle zero) (pieces_of text) p)))
  evaluator_is (suc n) text p = ap if_short (sym (put_none (pieces_value (form_at scope oracle (suc n)) (pieces_of text) p)))

  pub form_is : (n m : ℕ) (inside : List ℕ) (p : Progress) → m + 1 ≡ n → p.forms < 65536 →
      form_at scope oracle n inside p ≡ if_fits (kind_value scope oracle (evaluator scope oracle m)
      (kind_of inside).0 (kind_of inside).1 (counted p))
  unfolding form_at
  form_is zero m inside p e few = absurd (omega (arith, e))
  form_is (suc n) m inside p e few =
      let same : n ≡ m = omega (arith, e) in
      rw (few_forms p.forms few) (ap (λ k. if_fits (kind_value scope oracle (evaluator scope oracle k) (kind_of inside).0
      (kind_of inside).1 (counted p))) same)

  form_over : (n : ℕ) (inside : List ℕ) (p : Progress) → (n ≡ 0) ⊎ (65536 ≤ p.forms) →
      form_at scope oracle n inside p ≡ None
  unfolding form_at
  form_over zero inside p over = refl
  form_over (suc n) inside p (inl e) = absurd (omega (arith, e))
  form_over (suc n) inside p (inr many) =
      rw (many_forms p.forms many) refl

pub text_begin : (scope : Facts) (n : ℕ) (text : List ℕ) (v : VerdictsView) (p : Progress) (value : List ℕ) →
    value ≡ [] → Comes (λ oracle. evaluator scope oracle n text)
    (λ oracle. left_of_text (form_at scope oracle n) value text) v p p
text_begin scope n text v p value e oracle agrees = evaluator_is scope oracle n text p
    ∙ ap (λ l. left_of_text (form_at scope oracle n) l text p) (sym e)

-- one form more than may be
pub form_enters : (scope : Facts) (n : ℕ) (inside : List ℕ) (v : VerdictsView) (p q : Progress) →
    (n ≡ 0) ⊎ (65536 ≤ p.forms) → (stop : Stop) →
    Gives (λ oracle. form_at scope oracle n inside) v p q (Err stop)
form_enters scope n inside v p q over Over = λ oracle agrees. form_over scope oracle n inside p over
form_enters scope n inside v p q over NoMemory = tt

module _ (scope inner : Facts) (s : inner ≡ scope) (n m : ℕ) (inside text : List ℕ) (k : Kind)
    (v : VerdictsView) (p a b : Progress)
    (e : m + 1 ≡ n) (few : p.forms < 65536) (is : a ≡ counted p) (cut : (k, text) ≡ kind_of inside) where
  same : (oracle : Oracle) → form_at scope oracle n inside p
      ≡ if_fits (kind_value inner oracle (evaluator inner oracle m) k text a)
  same oracle = form_is scope oracle n m inside p e few
      ∙ ap (λ (f : Kind × List ℕ). if_fits (kind_value scope oracle (evaluator scope oracle m) f.0 f.1
      (counted p))) (sym cut)
      ∙ ap (λ q. if_fits (kind_value scope oracle (evaluator scope oracle m) k text q)) (sym is)
      ∙ ap (λ f. if_fits (kind_value f oracle (evaluator f oracle m) k text a)) (sym s)

  pub form_value : (result : Result (List ℕ) Stop) → Gives (λ oracle progress. if_fits
      (kind_value inner oracle (evaluator inner oracle m) k text progress)) v a b result →
      Gives (λ oracle. form_at scope oracle n inside) v p b result
  form_value (Ok value) gives = λ oracle agrees. same oracle ∙ gives oracle agrees
  form_value (Err Over) gives = λ oracle agrees. same oracle ∙ gives oracle agrees
  form_value (Err NoMemory) gives = tt

-- ---- values of arguments

-- what is left after the values of those before
abbrev pub left_of_values : Evaluator → List (List ℕ) → List (List ℕ) → Progress →
    Answer (List (List ℕ))
left_of_values evaluate values rest progress = then_do (values_by evaluate rest progress)
    (λ more after. answer_of (values ++ more) after)

module _ (evaluate : Oracle → Evaluator) (texts : List (List ℕ)) where
  abbrev all : Oracle → Progress → Answer (List (List ℕ))
  all oracle = values_by (evaluate oracle) texts

  none_before : (o : Answer (List (List ℕ))) → o ≡ then_do o (λ more after. answer_of ([] ++ more) after)
  none_before None = refl
  none_before (Some found) = refl

  pub values_begin : (values : List (List ℕ)) (rest : List (List ℕ)) (v : VerdictsView) (p : Progress) →
      values ≡ [] → rest ≡ texts → Comes all (λ oracle. left_of_values (evaluate oracle) values rest) v p p
  values_begin values rest v p e is oracle agrees =
      none_before (values_by (evaluate oracle) texts p)
      ∙ ap (λ l. left_of_values (evaluate oracle) l texts p) (sym e)
      ∙ ap (λ l. left_of_values (evaluate oracle) values l p) (sym is)

  pub values_end : (values rest : List (List ℕ)) (v : VerdictsView) (old now : Progress) →
      Comes all (λ oracle. left_of_values (evaluate oracle) values rest) v old now → rest ≡ [] →
      Gives all v old now (Ok values)
  values_end values rest v old now comes e oracle agrees = comes oracle agrees
      ∙ ap (λ l. left_of_values (evaluate oracle) values l now) e
      ∙ ap (λ l. answer_of l now) (append-nil values)

  module _ (values rest others : List (List ℕ)) (text : List ℕ) (is : rest ≡ text ∷ others)
      (one two : VerdictsView) (old now later : Progress)
      (comes : Comes all (λ oracle. left_of_values (evaluate oracle) values rest) one old now)
      (stay : Stay one two) where
    abbrev then_others : Oracle → List ℕ → Progress → Answer (List (List ℕ))
    then_others oracle value after = then_do (then_do (values_by (evaluate oracle) others after)
        (λ more last. answer_of (value ∷ more) last)) (λ more last. answer_of (values ++ more) last)

    joined : (oracle : Oracle) (o : Answer (List ℕ)) → then_do (then_do o (λ value after.
        then_do (values_by (evaluate oracle) others after) (λ more last. answer_of (value ∷ more) last)))
        (λ more last. answer_of (values ++ more) last) ≡ then_do o (then_others oracle)
    joined oracle None = refl
    joined oracle (Some found) = refl

    from_here : (oracle : Oracle) → Agrees oracle two →
        all oracle old ≡ then_do (evaluate oracle text now) (then_others oracle)
    from_here oracle agrees = comes oracle (agrees_earlier oracle one two stay agrees)
        ∙ ap (λ l. left_of_values (evaluate oracle) values l now) is
        ∙ joined oracle (evaluate oracle text now)

    pub values_stop : (stop : Stop) → Gives (λ oracle. evaluate oracle text) two now later (Err stop) →
        Gives all two old later (Err stop)
    values_stop Over gives = λ oracle agrees. from_here oracle agrees
        ∙ ap (λ o. then_do o (then_others oracle)) (gives oracle agrees)
    values_stop NoMemory gives = tt

    pushed : (value : List ℕ) (o : Answer (List (List ℕ))) →
        then_do (then_do o (λ more last. answer_of (value ∷ more) last))
        (λ more last. answer_of (values ++ more) last)
        ≡ then_do o (λ more last. answer_of ((values ++ value ∷ []) ++ more) last)
    pushed value None = refl
    pushed value (Some found) = ap (λ l. answer_of l found.1) (sym (append_assoc values (value ∷ []) found.0))

    pub values_next : (value : List ℕ) (more : List (List ℕ)) →
        Gives (λ oracle. evaluate oracle text) two now later (Ok value) → more ≡ values ++ value ∷ [] →
        Comes all (λ oracle. left_of_values (evaluate oracle) more others) two old later
    values_next value more gives e oracle agrees = from_here oracle agrees
        ∙ ap (λ o. then_do o (then_others oracle)) (gives oracle agrees)
        ∙ pushed value (values_by (evaluate oracle) others later)
        ∙ ap (λ l. left_of_values (evaluate oracle) l others later) (sym e)

-- ---- texts that are lent

pub lent_at : (texts : List (Bor (List ℕ))) (i : ℕ) (d : Bor (List ℕ)) → i < length texts →
    lent_texts (drop i texts) ≡ (get_or texts i d).now ∷ lent_texts (drop (i + 1) texts)
lent_at texts i d within = ap lent_texts (drop_more texts i d within)

pub lent_none : (texts : List (Bor (List ℕ))) (i : ℕ) → length texts ≤ i → lent_texts (drop i texts) ≡ []
lent_none texts i past = ap lent_texts (drop_all i texts past)

pub lent_utf8 : (texts : List (Bor (List ℕ))) (i : ℕ) (d : Bor (List ℕ)) → i < length texts →
    All IsUtf8 (lent_texts texts) → IsUtf8 (get_or texts i d).now
lent_utf8 [] i d within utf8 = absurd (omega (arith, within))
lent_utf8 (t ∷ texts) zero d within utf8 = All-head IsUtf8 t.now (lent_texts texts) utf8
lent_utf8 (t ∷ texts) (suc i) d within utf8 =
    lent_utf8 texts i d (omega (arith, within)) (All-tail IsUtf8 t.now (lent_texts texts) utf8)
