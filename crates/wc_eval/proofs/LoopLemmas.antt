-- Products and sums, number after number.
use Rattle.std.proofs.Common.{◌≡◌, ℕ, ◌+◌, Bool, true, false, ◌==◌, List, [], ◌∷◌, length, Option, Some, None, IfSome, ℤ, refl, sym, ◌∙◌, Bor}
use Rattle.std.specs.Prelude.{option_and_then}
use Rattle.std.specs.Char.{is_ascii_digit}
use Rattle.std.proofs.lemmas.Option.{none-some}
use Rattle.wc_eval.specs.declared.operator.Operator.{Operator}
use Rattle.wc_eval.specs.Texts.{is_blank}
use Rattle.wc_eval.specs.Sums.{result_of, rank_of}
use Rattle.wc_eval.specs.Signs.{sum_sign, product_sign}
use Rattle.wc_eval.specs.Tokens.{Token, Digits, Sign, Opens, Closes, Half, onto_digits, with_byte, begins_with_digit, tokens_of}
use Rattle.wc_eval.specs.Answers.{Level, bare_level, has, wants, end_by, run}
use Rattle.wc_eval.specs.Fronts.{run_on, NumberGoesOn, ProductGoesOn, SumGoesOn, EndsProduct}
use Rattle.wc_eval.proofs.RunLemmas.{by_bool, same_on, product_on, sum_on, multiplied, added, half_apart, not_blank, no_slash}

-- ---- products

-- so far the product of a text is this number, and this is left of it
abbrev pub ProductStands : ℕ → List ℕ → ℤ → List ℕ → Type 0
ProductStands depth text v rest = (level : Level) (outer : List Level) → length outer + depth ≡ 32 → level.negations ≡ 0 →
    level.product ≡ None → run_on (wants level outer) text ≡ run_on (has level outer v) rest

module _ (depth : ℕ) (text : List ℕ) where
  pub product_start : (v : ℤ) (rest : Bor (List ℕ)) → NumberGoesOn depth text (Some (v, rest)) → ProductStands depth text v rest.now
  product_start v rest goes level outer deep none bare = goes level outer deep none ∙ rw (none, bare) refl

  pub product_none : NumberGoesOn depth text None → ProductGoesOn depth text None
  product_none goes level outer deep none bare = goes level outer deep none

  module _ (x : ℤ) (rest : List ℕ) (operator : Operator) (following : List ℕ) (stands : ProductStands depth text x rest)
      (sign : product_sign rest ≡ Some (operator, following)) where
    pub product_next : (y v : ℤ) (after : Bor (List ℕ)) → NumberGoesOn depth following (Some (y, after)) →
        result_of operator x y ≡ Some v → ProductStands depth text v after.now
    product_next y v after goes is level outer deep none bare =
        stands level outer deep none bare ∙ product_on level outer x rest (operator, following) sign
        ∙ goes (multiplied level x operator) outer deep refl
        ∙ rw is (same_on level.sum (Some (x, operator)) level.product 0 level.negations outer v after.now)

    pub product_stops : NumberGoesOn depth following None → ProductGoesOn depth text None
    product_stops goes level outer deep none bare =
        stands level outer deep none bare ∙ product_on level outer x rest (operator, following) sign
        ∙ goes (multiplied level x operator) outer deep refl

    pub product_over : (y : ℤ) (after : Bor (List ℕ)) → NumberGoesOn depth following (Some (y, after)) →
        result_of operator x y ≡ None → ProductGoesOn depth text None
    product_over y after goes is level outer deep none bare =
        stands level outer deep none bare ∙ product_on level outer x rest (operator, following) sign
        ∙ goes (multiplied level x operator) outer deep refl
        ∙ rw is refl

-- ---- what is after a product

-- the first token, if there is one, goes on with no product
abbrev EndsTokens : List Token → Type 0
EndsTokens (Sign operator ∷ ts) = rank_of operator ≡ 0
EndsTokens ts = Unit {0}

digit_ends : (b : ℕ) (adjacent : Bool) (ts : List Token) → EndsTokens (onto_digits b adjacent ts)
digit_ends b adjacent [] = tt
digit_ends b true (Digits d ∷ ts) = tt
digit_ends b false (Digits d ∷ ts) = tt
digit_ends b adjacent (Sign o ∷ ts) = tt
digit_ends b adjacent (Opens ∷ ts) = tt
digit_ends b adjacent (Closes ∷ ts) = tt
digit_ends b adjacent (Half ∷ ts) = tt

first_ends : (b : ℕ) (text : List ℕ) (o : Option (List Token)) → is_blank b ≡ false → product_sign (b ∷ text) ≡ None →
    IfSome (option_and_then (with_byte b text) o) EndsTokens
first_ends b text None blank none = tt
first_ends b text (Some ts) blank none = by_bool (is_ascii_digit b) _
    (λ t. rw (blank, t) (digit_ends b (begins_with_digit text) ts))
    (λ digit. by_bool (b == 42) _
    (λ t. absurd (none-some _ (sym (rw t at none))))
    (λ star. by_bool (b == 47) _
    (λ t. rw (blank, digit, t, no_slash _ text b t star none refl, half_apart ts) tt)
    (λ slash. by_bool (b == 37) _
    (λ t. absurd (none-some _ (sym (rw (star, slash, t) at none))))
    (λ percent. by_bool (b == 43) _
    (λ t. rw (blank, digit, slash, t) refl)
    (λ plus. by_bool (b == 45) _
    (λ t. rw (blank, digit, slash, plus, t) refl)
    (λ minus. by_bool (b == 40) _
    (λ t. rw (blank, digit, slash, plus, minus, star, percent, t) tt)
    (λ opens. by_bool (b == 41) _
    (λ t. rw (blank, digit, slash, plus, minus, star, percent, opens, t) tt)
    (λ closes. rw (blank, digit, slash, plus, minus, star, percent, opens, closes) tt))))))))

ends_tokens : (text : List ℕ) → EndsProduct text → IfSome (tokens_of text) EndsTokens
unfolding tokens_of
ends_tokens [] ends = tt
ends_tokens (b ∷ text) ends = first_ends b text (tokens_of text) (not_blank b text ends.0) ends.1

-- ---- sums

module _ (outer : List Level) (x y v : ℤ) (operator : Operator) (is : result_of operator x y ≡ Some v) where
  summed_run : (ts : List Token) → EndsTokens ts → run (has (added x operator) outer y) ts ≡ run (has bare_level outer v) ts
  unfolding run
  summed_run [] ends = by outer
    where
      by : (o : List Level) → end_by (added x operator) o (Some y) ≡ end_by bare_level o (Some v)
      by [] = is
      by (l ∷ o) = refl
  summed_run (Digits d ∷ ts) ends = refl
  summed_run (Sign next ∷ ts) ends = rw (ends, is) refl
  summed_run (Opens ∷ ts) ends = refl
  summed_run (Closes ∷ ts) ends = rw is refl
  summed_run (Half ∷ ts) ends = refl

  pub summed_on : (text : List ℕ) → EndsProduct text → run_on (has (added x operator) outer y) text ≡ run_on (has bare_level outer v) text
  summed_on text ends = by (tokens_of text) (ends_tokens text ends)
    where
      by : (o : Option (List Token)) → IfSome o EndsTokens → option_and_then (run (has (added x operator) outer y)) o ≡ option_and_then (run (has bare_level outer v)) o
      by None e = refl
      by (Some ts) e = summed_run ts e

-- so far the sum of a text is this number, and this is left of it
abbrev pub SumStands : ℕ → List ℕ → ℤ → List ℕ → Type 0
SumStands depth text v rest = (outer : List Level) → length outer + depth ≡ 32 →
    run_on (wants bare_level outer) text ≡ run_on (has bare_level outer v) rest

module _ (depth : ℕ) (text : List ℕ) where
  pub sum_start : (v : ℤ) (rest : Bor (List ℕ)) → ProductGoesOn depth text (Some (v, rest)) → SumStands depth text v rest.now
  sum_start v rest goes outer deep = goes bare_level outer deep refl refl

  pub sum_none : ProductGoesOn depth text None → SumGoesOn depth text None
  sum_none goes outer deep = goes bare_level outer deep refl refl

  module _ (x : ℤ) (rest : List ℕ) (operator : Operator) (following : List ℕ) (stands : SumStands depth text x rest)
      (sign : sum_sign rest ≡ Some (operator, following)) where
    pub sum_next : (y v : ℤ) (after : Bor (List ℕ)) → ProductGoesOn depth following (Some (y, after)) →
        EndsProduct after.now → result_of operator x y ≡ Some v → SumStands depth text v after.now
    sum_next y v after goes ends is outer deep =
        stands outer deep ∙ sum_on outer x rest (operator, following) sign
        ∙ goes (added x operator) outer deep refl refl ∙ summed_on outer x y v operator is after.now ends

    pub sum_stops : ProductGoesOn depth following None → SumGoesOn depth text None
    sum_stops goes outer deep =
        stands outer deep ∙ sum_on outer x rest (operator, following) sign
        ∙ goes (added x operator) outer deep refl refl

module _ (outer : List Level) (x y : ℤ) (operator : Operator) (is : result_of operator x y ≡ None) where
  summed_none : (ts : List Token) → EndsTokens ts → run (has (added x operator) outer y) ts ≡ None
  unfolding run
  summed_none [] ends = by outer
    where
      by : (o : List Level) → end_by (added x operator) o (Some y) ≡ None
      by [] = is
      by (l ∷ o) = refl
  summed_none (Digits d ∷ ts) ends = refl
  summed_none (Sign next ∷ ts) ends = rw (ends, is) refl
  summed_none (Opens ∷ ts) ends = refl
  summed_none (Closes ∷ ts) ends = rw is refl
  summed_none (Half ∷ ts) ends = refl

  pub summed_over : (text : List ℕ) → EndsProduct text → run_on (has (added x operator) outer y) text ≡ None
  summed_over text ends = by (tokens_of text) (ends_tokens text ends)
    where
      by : (o : Option (List Token)) → IfSome o EndsTokens → option_and_then (run (has (added x operator) outer y)) o ≡ None
      by None e = refl
      by (Some ts) e = summed_none ts e

pub sum_over : (depth : ℕ) (text : List ℕ) (x : ℤ) (rest : List ℕ) (operator : Operator) (following : List ℕ) →
    SumStands depth text x rest → sum_sign rest ≡ Some (operator, following) → (y : ℤ) (after : Bor (List ℕ)) →
    ProductGoesOn depth following (Some (y, after)) → EndsProduct after.now → result_of operator x y ≡ None →
    SumGoesOn depth text None
sum_over depth text x rest operator following stands sign y after goes ends is outer deep =
    stands outer deep ∙ sum_on outer x rest (operator, following) sign
    ∙ goes (added x operator) outer deep refl refl ∙ summed_over outer x y operator is after.now ends
