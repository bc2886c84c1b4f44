-- What each function that reads an expression owes, from what the functions that it calls owe.
use Rattle.std.proofs.Common.{◌≡◌, ℕ, zero, suc, ◌+◌, ◌-◌, ◌<◌, Bool, true, false, ◌==◌, List, [], ◌∷◌, length, Option, Some, None, IfSome, option_map, ℤ, refl, ap, sym, subst, ◌∙◌, Bor, nat_lt, arith}
use Rattle.std.specs.Prelude.{option_and_then}
use Rattle.std.specs.Char.{is_ascii_digit}
use Rattle.std.proofs.lemmas.Option.{none-some, same_Some}
use Rattle.std.proofs.lemmas.Bool.{eqb-true, false≢true}
use Rattle.std.proofs.lemmas.Bool.Decides.{nat_tests}
use Rattle.wc_text.specs.Integer.{positive_of}
use Rattle.wc_eval.specs.declared.operator.Operator.{Operator}
use Rattle.wc_eval.specs.declared.operator.Operator.TheVariants.{Subtract}
use Rattle.wc_eval.specs.Texts.{is_blank, past_margin}
use Rattle.wc_eval.specs.Signs.{sum_sign, product_sign, after_byte}
use Rattle.wc_eval.specs.Tokens.{Token, Digits, Sign, Opens, Closes, Half, onto_digits, with_byte, begins_with_digit, tokens_of}
use Rattle.wc_eval.specs.Answers.{Level, bare_level, has, wants, with_number, value_after, negation_of, run}
use Rattle.wc_eval.specs.Fronts.{Read, run_on, run_from, digits_in, past_digits, literal_front, or_none, negations_in, past_negations, IsBody, NumberGoesOn, PlainGoesOn, SumGoesOn, EnclosedGoesOn, EndsSum, IsFront}
use Rattle.wc_eval.proofs.RunLemmas.{by_bool, sign_on, blank_on, digits_on, margin_from, margin_once, half_apart, not_blank, no_slash, nothing_begins, same_on}

-- ---- the `-` before a number

abbrev level_of : Option (ℤ × Operator) → Option (ℤ × Operator) → ℕ → Level
level_of sum product n = record { sum = sum; product = product; negations = n }

abbrev Negated : Option (ℤ × Operator) → Option (ℤ × Operator) → List Level → ℕ → List ℕ → Type 0
Negated sum product outer k text = run_on (wants (level_of sum product k) outer) text
    ≡ run_on (wants (level_of sum product (k + negations_in text)) outer) (past_negations text)

module _ (sum product : Option (ℤ × Operator)) (outer : List Level) where
  negated_more : (k n : ℕ) (text rest : List ℕ) →
      run_on (wants (level_of sum product (k + 1)) outer) text ≡ run_on (wants (level_of sum product (k + 1 + n)) outer) rest →
      run_on (wants (level_of sum product k) outer) (45 ∷ text) ≡ run_on (wants (level_of sum product (k + suc n)) outer) rest
  negated_more k n text rest e =
      let same : k + 1 + n ≡ k + suc n = omega arith in
      sign_on (wants (level_of sum product k) outer) 45 text (Sign Subtract) refl refl refl refl
      ∙ e ∙ ap (λ m. run_on (wants (level_of sum product m) outer) rest) same

  pub negations_on : (text : List ℕ) (k : ℕ) → Negated sum product outer k text
  negations_on [] k = let same : k ≡ k + 0 = omega arith in ap (λ m. run_on (wants (level_of sum product m) outer) []) same
  negations_on (b ∷ text) k = by_bool (b == 45) _
      (λ t. subst (λ c. Negated sum product outer k (c ∷ text)) (sym (eqb-true b 45 t))
      (negated_more k (negations_in text) text (past_negations text) (negations_on text (k + 1))))
      (λ f. by_bool (is_blank b) _
      (λ t. rw (f, t) (blank_on (wants (level_of sum product k) outer) b text t ∙ negations_on text k))
      (λ g. let same : k ≡ k + 0 = omega arith in
      rw (f, g) (ap (λ m. run_on (wants (level_of sum product m) outer) (b ∷ text)) same)))

pub body_of : (text : List ℕ) → IsBody (past_negations text)
body_of [] = tt
body_of (b ∷ text) = by_bool (b == 45) _
    (λ t. rw t (body_of text))
    (λ f. by_bool (is_blank b) _
    (λ t. rw (f, t) (body_of text))
    (λ g. rw (f, g) (f, g)))

-- ---- a literal

abbrev or_none_of : (ℤ → List ℕ → Option ℤ) → Option (ℤ × List ℕ) → Option ℤ
or_none_of next None = None
or_none_of next (Some front) = next front.0 front.1

read_as : (next : ℤ → List ℕ → Option ℤ) (read : Read) → or_none_of next (option_map (λ front. (front.0, front.1.now)) read) ≡ or_none next read
read_as next None = refl
read_as next (Some front) = refl

module _ (level : Level) (outer : List Level) where
  abbrev next : ℤ → List ℕ → Option ℤ
  next x rest = run_from (with_number level outer x) rest

  literal_by : (o : Option ℤ) (rest : List ℕ) →
      run_from (option_and_then (with_number level outer) o) rest ≡ or_none_of next (option_map (λ x. (x, rest)) o)
  literal_by None rest = refl
  literal_by (Some x) rest = refl

  literal_text : (text : List ℕ) → IsBody text → ((rest : List ℕ) → text ≡ 40 ∷ rest → ⊥) →
      run_on (wants level outer) text ≡ or_none_of next (literal_front text)
  unfolding run tokens_of
  literal_text [] body closed = refl
  literal_text (b ∷ text) body closed = by_bool (is_ascii_digit b) _
      (λ t. rw t (digits_on (wants level outer) b text t ∙ literal_by (positive_of (b ∷ digits_in text)) (past_digits text)))
      (λ f. rw f (nothing_begins level outer b text body.1 f body.0 (not_open (b == 40) refl)))
    where
      not_open : (o : Bool) → (b == 40) ≡ o → (b == 40) ≡ false
      not_open false e = e
      not_open true e = absurd (closed text (ap (λ c. c ∷ text) (eqb-true b 40 e)))

  pub literal_on : (text : List ℕ) (read : Read) → option_map (λ front. (front.0, front.1.now)) read ≡ literal_front text →
      ((rest : List ℕ) → text ≡ 40 ∷ rest → ⊥) → IsBody text → run_on (wants level outer) text ≡ or_none next read
  literal_on text read e closed body = literal_text text body closed ∙ ap (or_none_of next) (sym e) ∙ read_as next read

-- ---- what goes on after no sum

digits_stop : (outer : List Level) (v : ℤ) (b : ℕ) (adjacent : Bool) (ts : List Token) →
    run (has bare_level outer v) (onto_digits b adjacent ts) ≡ None
unfolding run
digits_stop outer v b adjacent [] = refl
digits_stop outer v b true (Digits d ∷ ts) = refl
digits_stop outer v b false (Digits d ∷ ts) = refl
digits_stop outer v b adjacent (Sign o ∷ ts) = refl
digits_stop outer v b adjacent (Opens ∷ ts) = refl
digits_stop outer v b adjacent (Closes ∷ ts) = refl
digits_stop outer v b adjacent (Half ∷ ts) = refl

-- only a `)` that closes a parenthesis goes on
abbrev MayClose : List Level → ℕ → Type 0
MayClose [] b = Unit {0}
MayClose (level ∷ outer) b = (b == 41) ≡ false

first_stops : (outer : List Level) (v : ℤ) (b : ℕ) (text : List ℕ) (o : Option (List Token)) →
    MayClose outer b → is_blank b ≡ false → product_sign (b ∷ text) ≡ None →
    sum_sign (b ∷ text) ≡ None →
    option_and_then (run (has bare_level outer v)) (option_and_then (with_byte b text) o) ≡ None
unfolding run
first_stops outer v b text None closes blank product sum = refl
first_stops outer v b text (Some ts) closes blank product sum = by_bool (is_ascii_digit b) _
    (λ t. rw (blank, t) (digits_stop outer v b (begins_with_digit text) ts))
    (λ digit. by_bool (b == 42) _
    (λ t. absurd (none-some _ (sym (rw t at product))))
    (λ star. by_bool (b == 47) _
    (λ t. rw (blank, digit, t, no_slash _ text b t star product refl, half_apart ts) refl)
    (λ slash. by_bool (b == 37) _
    (λ t. absurd (none-some _ (sym (rw (star, slash, t) at product))))
    (λ percent. by_bool (b == 43) _
    (λ t. absurd (none-some _ (sym (rw t at sum))))
    (λ plus. by_bool (b == 45) _
    (λ t. absurd (none-some _ (sym (rw (plus, t) at sum))))
    (λ minus. by_bool (b == 40) _
    (λ t. rw (blank, digit, slash, plus, minus, star, percent, t) refl)
    (λ opens. by_bool (b == 41) _
    (λ t. by outer closes blank digit slash plus minus star percent opens t)
    (λ closing. rw (blank, digit, slash, plus, minus, star, percent, opens, closing) refl))))))))
  where
    by : (outer : List Level) → MayClose outer b → is_blank b ≡ false → is_ascii_digit b ≡ false →
        (b == 47) ≡ false → (b == 43) ≡ false → (b == 45) ≡ false → (b == 42) ≡ false →
        (b == 37) ≡ false → (b == 40) ≡ false → (b == 41) ≡ true →
        option_and_then (run (has bare_level outer v)) (option_and_then (with_byte b text) (Some ts))
        ≡ None
    by [] closes blank digit slash plus minus star percent opens t =
        rw (blank, digit, slash, plus, minus, star, percent, opens, t) refl
    by (level ∷ outer) closes blank digit slash plus minus star percent opens t =
        absurd (false≢true (sym closes ∙ t))

stops : (outer : List Level) (v : ℤ) (b : ℕ) (text : List ℕ) → MayClose outer b →
    EndsSum (b ∷ text) → run_on (has bare_level outer v) (b ∷ text) ≡ None
unfolding tokens_of
stops outer v b text closes ends =
    first_stops outer v b text (tokens_of text) closes (not_blank b text ends.0.0) ends.0.1 ends.1

nothing_goes : (outer : List Level) (v : ℤ) (rest : List ℕ) → EndsSum rest →
    None ≡ after_byte 41 rest → (level : Level) → run_on (has bare_level (level ∷ outer) v) rest ≡ None
unfolding tokens_of run
nothing_goes outer v [] ends none level = refl
nothing_goes outer v (b ∷ rest) ends none level = stops (level ∷ outer) v b rest
    (by_bool (b == 41) _ (λ t. absurd (none-some _ (rw t at none))) (λ f. f)) ends

-- what is left after the whole sum is too much
pub too_much : (v : ℤ) (b : ℕ) (rest : List ℕ) → EndsSum (b ∷ rest) →
    run_on (has bare_level [] v) (b ∷ rest) ≡ None
too_much v b rest ends = stops [] v b rest tt ends

-- ---- a number in parentheses

pub after_parts : (c : ℕ) (text rest : List ℕ) → Some rest ≡ after_byte c text → text ≡ c ∷ rest
after_parts c [] rest e = absurd (none-some _ (sym e))
after_parts c (b ∷ text) rest e = by_bool (b == c) _
    (λ t. let is : rest ≡ text = same_Some _ _ (rw t at e) in rw (is, ← eqb-true b c t) refl)
    (λ f. absurd (none-some _ (sym (rw f at e))))

plain_open : (depth : ℕ) (inside : List ℕ) (read : Read) → EnclosedGoesOn depth inside read →
    PlainGoesOn depth (40 ∷ inside) read
plain_open zero inside read none level outer deep body =
    let long : length outer ≡ 32 = omega (arith, deep) in
    sign_on (wants level outer) 40 inside Opens refl refl refl refl ∙ rw (long, none) refl
plain_open (suc depth) inside read goes level outer deep body =
    let short : nat_lt (length outer) 32 ≡ true = grind (arith, nat_tests) in
    sign_on (wants level outer) 40 inside Opens refl refl refl refl
    ∙ rw short (goes level outer deep)

module _ (depth : ℕ) (text : List ℕ) (read : Read) where
  pub plain_enclosed : (inside : List ℕ) → Some inside ≡ after_byte 40 text →
      EnclosedGoesOn depth inside read → PlainGoesOn depth text read
  plain_enclosed inside e goes =
      subst (λ l. PlainGoesOn depth l read) (sym (after_parts 40 text inside e))
      (plain_open depth inside read goes)

  pub plain_front : (inside : List ℕ) → Some inside ≡ after_byte 40 text →
      IfSome read (λ read. IsFront depth 2 (40 ∷ inside) read.0 read.1.now) →
      IfSome read (λ read. IsFront depth 2 text read.0 read.1.now)
  plain_front inside e fronts =
      subst (λ l. IfSome read (λ read. IsFront depth 2 l read.0 read.1.now))
      (sym (after_parts 40 text inside e)) fronts

  pub plain_literal : None ≡ after_byte 40 text →
      option_map (λ front. (front.0, front.1.now)) read ≡ literal_front text →
      PlainGoesOn depth text read
  plain_literal none e level outer deep body =
      literal_on level outer text read e
      (λ rest is. absurd (none-some rest (none ∙ ap (after_byte 40) is))) body

module _ (depth : ℕ) (text : List ℕ) where
  pub enclosed_deep : depth ≡ 0 → EnclosedGoesOn depth text None
  enclosed_deep e = subst (λ d. EnclosedGoesOn d text None) (sym e) refl

  pub enclosed_none : 0 < depth → SumGoesOn (depth - 1) text None → EnclosedGoesOn depth text None
  enclosed_none more goes =
      let is : depth ≡ suc (depth - 1) = omega arith in
      subst (λ d. EnclosedGoesOn d text None) (sym is)
      (λ level outer deep. goes (level ∷ outer) (omega (arith, deep)))

  module _ (v : ℤ) (rest : Bor (List ℕ)) (more : 0 < depth)
      (goes : SumGoesOn (depth - 1) text (Some (v, rest))) where
    pub enclosed_open : EndsSum rest.now → None ≡ after_byte 41 rest.now →
        EnclosedGoesOn depth text None
    enclosed_open ends none =
        let is : depth ≡ suc (depth - 1) = omega arith in
        subst (λ d. EnclosedGoesOn d text None) (sym is)
        (λ level outer deep. goes (level ∷ outer) (omega (arith, deep))
        ∙ nothing_goes outer v rest.now ends none level)

    pub enclosed_close : (after : Bor (List ℕ)) → Some after.now ≡ after_byte 41 rest.now →
        EnclosedGoesOn depth text (Some (v, after))
    enclosed_close after e =
        let is : depth ≡ suc (depth - 1) = omega arith in
        subst (λ d. EnclosedGoesOn d text (Some (v, after))) (sym is)
        (λ level outer deep. goes (level ∷ outer) (omega (arith, deep))
        ∙ ap (run_on (has bare_level (level ∷ outer) v)) (after_parts 41 rest.now after.now e)
        ∙ sign_on (has bare_level (level ∷ outer) v) 41 after.now Closes refl refl refl refl)

-- ---- a number, with what is before it and the blanks after it

module _ (sum product : Option (ℤ × Operator)) (outer : List Level) (n : ℕ) (rest : List ℕ) where
  pub number_after : (v y : ℤ) → negation_of n v ≡ Some y →
      run_from (with_number (level_of sum product n) outer v) rest ≡ run_from (with_number (level_of sum product 0) outer y) rest
  number_after v y e = rw e (by (value_after product y))
    where
      by : (o : Option ℤ) → run_from (option_map (has (level_of sum product n) outer) o) rest ≡ run_from (option_map (has (level_of sum product 0) outer) o) rest
      by None = refl
      by (Some z) = same_on sum product product n 0 outer z rest

  pub number_none : (v : ℤ) → negation_of n v ≡ None → run_from (with_number (level_of sum product n) outer v) rest ≡ None
  number_none v e = rw e refl

module _ (level : Level) (outer : List Level) (none : level.negations ≡ 0) where
  number_on : (text : List ℕ) → run_on (wants level outer) text
      ≡ run_on (wants (level_of level.sum level.product (negations_in text)) outer) (past_negations text)
  number_on text =
      let more : 0 + negations_in text ≡ negations_in text = omega arith in
      ap (λ n. run_on (wants (level_of level.sum level.product n) outer) text) none
      ∙ negations_on level.sum level.product outer text 0
      ∙ ap (λ n. run_on (wants (level_of level.sum level.product n) outer) (past_negations text)) more

  number_over_at : (n : ℕ) (v y : ℤ) (rest : List ℕ) → negation_of n v ≡ Some y →
      run_from (with_number (level_of level.sum level.product n) outer v) rest
      ≡ run_from (with_number level outer y) (past_margin rest)
  number_over_at n v y rest e =
      number_after level.sum level.product outer n rest v y e
      ∙ ap (λ m. run_from (with_number (level_of level.sum level.product m) outer y) rest) (sym none)
      ∙ margin_from (with_number level outer y) rest

module _ (depth : ℕ) (text body : List ℕ) (n : ℕ) (body_is : body ≡ past_negations text)
    (n_is : n ≡ negations_in text) where
  plain_here : (read : Read) → PlainGoesOn depth body read → PlainGoesOn depth (past_negations text) read
  plain_here read goes = subst (λ l. PlainGoesOn depth l read) body_is goes

  pub number_fails : PlainGoesOn depth body None → NumberGoesOn depth text None
  number_fails goes level outer deep none =
      number_on level outer none text
      ∙ plain_here None goes (level_of level.sum level.product (negations_in text)) outer deep (body_of text)

  pub number_over : (v : ℤ) (rest : Bor (List ℕ)) → PlainGoesOn depth body (Some (v, rest)) →
      None ≡ negation_of n v → NumberGoesOn depth text None
  number_over v rest goes e level outer deep none =
      number_on level outer none text
      ∙ plain_here (Some (v, rest)) goes (level_of level.sum level.product (negations_in text)) outer deep (body_of text)
      ∙ number_none level.sum level.product outer (negations_in text) rest.now v
      (subst (λ m. negation_of m v ≡ None) n_is (sym e))

  pub number_reads : (v y : ℤ) (rest after : Bor (List ℕ)) → PlainGoesOn depth body (Some (v, rest)) →
      Some y ≡ negation_of n v → after.now ≡ past_margin rest.now → NumberGoesOn depth text (Some (y, after))
  number_reads v y rest after goes e is level outer deep none =
      number_on level outer none text
      ∙ plain_here (Some (v, rest)) goes (level_of level.sum level.product (negations_in text)) outer deep (body_of text)
      ∙ number_over_at level outer none (negations_in text) v y rest.now
      (subst (λ m. negation_of m v ≡ Some y) n_is (sym e))
      ∙ ap (run_from (with_number level outer y)) (sym is)

pub number_ends : (rest after : List ℕ) → after ≡ past_margin rest → past_margin after ≡ after
number_ends rest after e = rw e (margin_once rest)
