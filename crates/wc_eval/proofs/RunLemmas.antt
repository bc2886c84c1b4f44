-- How the value of an expression goes on along its text, sign by sign and number by number.
use Rattle.std.proofs.Common.{◌≡◌, ℕ, suc, ◌≤◌, Bool, true, false, ◌==◌, List, [], ◌∷◌, length, Option, Some, None, option_map, ℤ, refl, ap, sym, subst, ◌∙◌, arith}
use Rattle.std.specs.Prelude.{option_and_then}
use Rattle.std.specs.Char.{is_ascii_digit}
use Rattle.std.proofs.lemmas.Option.{none-some, same_Some}
use Rattle.std.proofs.lemmas.Bool.{eqb-true}
use Rattle.std.proofs.lemmas.Bool.Decides.{nat_tests}
use Rattle.wc_text.specs.Splits.{begins_with}
use Rattle.wc_eval.specs.declared.operator.Operator.{Operator}
use Rattle.wc_eval.specs.declared.operator.Operator.TheVariants.{Add, Subtract, Multiply, Divide, Remainder}
use Rattle.wc_eval.specs.Texts.{is_blank, past_margin}
use Rattle.wc_eval.specs.Signs.{sum_sign, product_sign}
use Rattle.wc_eval.specs.Tokens.{Token, Digits, Sign, Opens, Closes, Half, onto_digits, onto_half, single_sign, with_byte, tokens_of}
use Rattle.wc_eval.specs.Answers.{Level, bare_level, Point, has, wants, end_by, step, run}
use Rattle.wc_eval.specs.Fronts.{run_on, run_from, digits_in, past_digits}

pub by_bool : (b : Bool) (P : Type 0) → (b ≡ true → P) → (b ≡ false → P) → P
by_bool true P t f = t refl
by_bool false P t f = f refl

-- ---- one token

abbrev go : Option Point → Option (List Token) → Option ℤ
go None tokens = None
go (Some point) tokens = option_and_then (run point) tokens

go_text : (q : Option Point) (text : List ℕ) → run_from q text ≡ go q (tokens_of text)
go_text None text = refl
go_text (Some point) text = refl

one_token : (p : Point) (t : Token) (o : Option (List Token)) →
    option_and_then (run p) (option_map (λ ts. t ∷ ts) o) ≡ go (step p t) o
unfolding run
one_token p t None = by (step p t)
  where
    by : (q : Option Point) → None ≡ go q None
    by None = refl
    by (Some q) = refl
one_token p t (Some ts) = by (step p t)
  where
    by : (q : Option Point) → option_and_then (λ next. run next ts) q ≡ go q (Some ts)
    by None = refl
    by (Some q) = refl

single : (b : ℕ) (text : List ℕ) (t : Token) (o : Option (List Token)) → is_blank b ≡ false → is_ascii_digit b ≡ false →
    (b == 47) ≡ false → single_sign b ≡ Some t → option_and_then (with_byte b text) o ≡ option_map (λ ts. t ∷ ts) o
single b text t None blank digit half s = refl
single b text t (Some ts) blank digit half s = rw (blank, digit, half) (ap (option_map (λ x. x ∷ ts)) s)

pub sign_on : (p : Point) (b : ℕ) (text : List ℕ) (t : Token) → is_blank b ≡ false → is_ascii_digit b ≡ false →
    (b == 47) ≡ false → single_sign b ≡ Some t → run_on p (b ∷ text) ≡ run_from (step p t) text
unfolding tokens_of
sign_on p b text t blank digit half s =
    ap (option_and_then (run p)) (single b text t (tokens_of text) blank digit half s) ∙ one_token p t (tokens_of text)
    ∙ sym (go_text (step p t) text)

-- ---- blanks

blank_tokens : (b : ℕ) (text : List ℕ) (o : Option (List Token)) → is_blank b ≡ true → option_and_then (with_byte b text) o ≡ o
blank_tokens b text None blank = refl
blank_tokens b text (Some ts) blank = rw blank refl

pub blank_on : (p : Point) (b : ℕ) (text : List ℕ) → is_blank b ≡ true → run_on p (b ∷ text) ≡ run_on p text
unfolding tokens_of
blank_on p b text blank = ap (option_and_then (run p)) (blank_tokens b text (tokens_of text) blank)

pub margin_on : (p : Point) (text : List ℕ) → run_on p text ≡ run_on p (past_margin text)
margin_on p [] = refl
margin_on p (b ∷ text) = by_bool (is_blank b) _
    (λ t. rw t (blank_on p b text t ∙ margin_on p text))
    (λ f. rw f refl)

pub margin_from : (q : Option Point) (text : List ℕ) → run_from q text ≡ run_from q (past_margin text)
margin_from None text = refl
margin_from (Some p) text = margin_on p text

pub margin_once : (text : List ℕ) → past_margin (past_margin text) ≡ past_margin text
margin_once [] = refl
margin_once (b ∷ text) = by_bool (is_blank b) _
    (λ t. rw t (margin_once text))
    (λ f. rw (f, f) refl)

long_margin : (text : List ℕ) → length (past_margin text) ≤ length text
long_margin [] = omega arith
long_margin (b ∷ text) = let rest = long_margin text in by_bool (is_blank b) _
    (λ t. rw t (omega (arith, rest)))
    (λ f. rw f (omega arith))

pub not_blank : (b : ℕ) (text : List ℕ) → past_margin (b ∷ text) ≡ b ∷ text → is_blank b ≡ false
not_blank b text same = by_bool (is_blank b) _
    (λ t. let short = long_margin text in
    let long : length (past_margin text) ≡ suc (length text) = ap length (rw t at same) in
    absurd (omega (arith, short, long)))
    (λ f. f)

-- ---- digits

digit_not_blank : (b : ℕ) → is_ascii_digit b ≡ true → is_blank b ≡ false
digit_not_blank b digit = grind (arith, nat_tests)

onto_apart : (b : ℕ) (ts : List Token) → onto_digits b false ts ≡ Digits (b ∷ []) ∷ ts
onto_apart b [] = refl
onto_apart b (Digits d ∷ ts) = refl
onto_apart b (Sign o ∷ ts) = refl
onto_apart b (Opens ∷ ts) = refl
onto_apart b (Closes ∷ ts) = refl
onto_apart b (Half ∷ ts) = refl

digit_last : (b c : ℕ) (text : List ℕ) (o : Option (List Token)) → is_ascii_digit b ≡ true → is_ascii_digit c ≡ false →
    option_and_then (with_byte b (c ∷ text)) o ≡ option_map (λ ts. Digits (b ∷ []) ∷ ts) o
digit_last b c text None digit other = refl
digit_last b c text (Some ts) digit other = rw (digit_not_blank b digit, digit, other) (ap Some (onto_apart b ts))

digit_more : (b c : ℕ) (text ds : List ℕ) (o : Option (List Token)) → is_ascii_digit b ≡ true → is_ascii_digit c ≡ true →
    option_and_then (with_byte b (c ∷ text)) (option_map (λ ts. Digits (c ∷ ds) ∷ ts) o) ≡ option_map (λ ts. Digits (b ∷ c ∷ ds) ∷ ts) o
digit_more b c text ds None digit next = refl
digit_more b c text ds (Some ts) digit next = rw (digit_not_blank b digit, digit, next) refl

digits_tokens : (b : ℕ) (text : List ℕ) → is_ascii_digit b ≡ true →
    tokens_of (b ∷ text) ≡ option_map (λ ts. Digits (b ∷ digits_in text) ∷ ts) (tokens_of (past_digits text))
unfolding tokens_of
digits_tokens b [] digit = rw (digit_not_blank b digit, digit) refl
digits_tokens b (c ∷ text) digit = by_bool (is_ascii_digit c) _
    (λ t. rw t (ap (option_and_then (with_byte b (c ∷ text))) (digits_tokens c text t)
    ∙ digit_more b c text (digits_in text) (tokens_of (past_digits text)) digit t))
    (λ f. rw f (digit_last b c text (tokens_of (c ∷ text)) digit f))

pub digits_on : (p : Point) (b : ℕ) (text : List ℕ) → is_ascii_digit b ≡ true →
    run_on p (b ∷ text) ≡ run_from (step p (Digits (b ∷ digits_in text))) (past_digits text)
digits_on p b text digit =
    ap (option_and_then (run p)) (digits_tokens b text digit) ∙ one_token p _ (tokens_of (past_digits text))
    ∙ sym (go_text (step p (Digits (b ∷ digits_in text))) (past_digits text))

-- ---- a `/`

pub half_apart : (ts : List Token) → onto_half false ts ≡ Half ∷ ts
half_apart [] = refl
half_apart (Digits d ∷ ts) = refl
half_apart (Sign o ∷ ts) = refl
half_apart (Opens ∷ ts) = refl
half_apart (Closes ∷ ts) = refl
half_apart (Half ∷ ts) = refl

pub no_slash : (c : Bool) (text : List ℕ) → (b : ℕ) → (b == 47) ≡ true → (b == 42) ≡ false → product_sign (b ∷ text) ≡ None →
    begins_with 47 text ≡ c → c ≡ false
no_slash false text b slash star none e = refl
no_slash true text b slash star none e = absurd (none-some _ (sym (rw (star, slash, e) at none)))

-- a `/` is a half, or one sign with what is after it
half_cases : (P : List Token → Type 0) (adjacent : Bool) (ts : List Token) → ((u : List Token) → P (Half ∷ u)) →
    ((u : List Token) → P (Sign Divide ∷ u)) → P (onto_half adjacent ts)
half_cases P false ts h d = subst P (sym (half_apart ts)) (h ts)
half_cases P true [] h d = h []
half_cases P true (Digits x ∷ ts) h d = h (Digits x ∷ ts)
half_cases P true (Sign o ∷ ts) h d = h (Sign o ∷ ts)
half_cases P true (Opens ∷ ts) h d = h (Opens ∷ ts)
half_cases P true (Closes ∷ ts) h d = h (Closes ∷ ts)
half_cases P true (Half ∷ ts) h d = d ts

abbrev divided : Level → List Level → ℤ → Point
divided level outer x = wants (record { sum = level.sum; product = Some (x, Divide); negations = 0 }) outer

divide_half : (level : Level) (outer : List Level) (x : ℤ) (u : List Token) →
    run (has level outer x) (onto_half true (onto_half true (Half ∷ u))) ≡ run (divided level outer x) (Half ∷ u)
unfolding run
divide_half level outer x u = refl

divide_sign : (level : Level) (outer : List Level) (x : ℤ) (u : List Token) →
    run (has level outer x) (onto_half true (onto_half true (Sign Divide ∷ u))) ≡ run (divided level outer x) (Sign Divide ∷ u)
unfolding run
divide_sign level outer x u = refl

abbrev Divides : Level → List Level → ℤ → ℕ → List ℕ → Option (List Token) → Type 0
Divides level outer x b text o =
    option_and_then (run (has level outer x)) (option_and_then (with_byte 47 (47 ∷ b ∷ text)) (option_and_then (with_byte 47 (b ∷ text)) o))
    ≡ option_and_then (run (divided level outer x)) o

divides_again : (level : Level) (outer : List Level) (x : ℤ) (text : List ℕ) (o : Option (List Token)) →
    Divides level outer x 47 text (option_and_then (with_byte 47 text) o)
divides_again level outer x text None = refl
divides_again level outer x text (Some ts) =
    half_cases (λ u. run (has level outer x) (onto_half true (onto_half true u)) ≡ run (divided level outer x) u)
    (begins_with 47 text) ts (divide_half level outer x) (divide_sign level outer x)

divides_apart : (level : Level) (outer : List Level) (x : ℤ) (b : ℕ) (text : List ℕ) (o : Option (List Token)) → (b == 47) ≡ false →
    Divides level outer x b text o
unfolding run
divides_apart level outer x b text None other = refl
divides_apart level outer x b text (Some ts) other = rw (other, half_apart ts) refl

divides : (level : Level) (outer : List Level) (x : ℤ) (b : ℕ) (text : List ℕ) → Divides level outer x b text (tokens_of (b ∷ text))
unfolding tokens_of
divides level outer x b text = by_bool (b == 47) _
    (λ t. subst (λ c. Divides level outer x c text (option_and_then (with_byte c text) (tokens_of text))) (sym (eqb-true b 47 t))
    (divides_again level outer x text (tokens_of text)))
    (λ f. divides_apart level outer x b text (tokens_of (b ∷ text)) f)

divide_on : (level : Level) (outer : List Level) (x : ℤ) (text : List ℕ) →
    run_on (has level outer x) (47 ∷ 47 ∷ text) ≡ run_on (divided level outer x) text
unfolding tokens_of run
divide_on level outer x [] = refl
divide_on level outer x (b ∷ text) = divides level outer x b text

-- ---- signs after a number

abbrev pub multiplied : Level → ℤ → Operator → Level
multiplied level x operator = record { sum = level.sum; product = Some (x, operator); negations = 0 }

abbrev pub added : ℤ → Operator → Level
added x operator = record { sum = Some (x, operator); product = None; negations = 0 }

abbrev ProductGoes : Level → List Level → ℤ → List ℕ → Operator × List ℕ → Type 0
ProductGoes level outer x rest sign =
    run_on (has level outer x) rest ≡ run_on (wants (multiplied level x sign.0) outer) sign.1

product_slash : (level : Level) (outer : List Level) (x : ℤ) (text : List ℕ) (sign : Operator × List ℕ) →
    product_sign (47 ∷ text) ≡ Some sign → ProductGoes level outer x (47 ∷ text) sign
product_slash level outer x [] sign e = absurd (none-some _ e)
product_slash level outer x (c ∷ text) sign e = by_bool (c == 47) _
    (λ t. let is : (Divide, text) ≡ sign = same_Some _ _ (rw t at e) in
    subst (ProductGoes level outer x (47 ∷ c ∷ text)) is
    (subst (λ d. ProductGoes level outer x (47 ∷ d ∷ text) (Divide, text)) (sym (eqb-true c 47 t)) (divide_on level outer x text)))
    (λ f. absurd (none-some _ (rw f at e)))

pub product_on : (level : Level) (outer : List Level) (x : ℤ) (rest : List ℕ) (sign : Operator × List ℕ) →
    product_sign rest ≡ Some sign → ProductGoes level outer x rest sign
product_on level outer x [] sign e = absurd (none-some _ e)
product_on level outer x (b ∷ text) sign e = by_bool (b == 42) _
    (λ t. let is : (Multiply, text) ≡ sign = same_Some _ _ (rw t at e) in
    subst (ProductGoes level outer x (b ∷ text)) is
    (subst (λ c. ProductGoes level outer x (c ∷ text) (Multiply, text)) (sym (eqb-true b 42 t))
    (sign_on (has level outer x) 42 text (Sign Multiply) refl refl refl refl)))
    (λ f. by_bool (b == 47) _
    (λ t. subst (λ c. ProductGoes level outer x (c ∷ text) sign) (sym (eqb-true b 47 t))
    (product_slash level outer x text sign (subst (λ c. product_sign (c ∷ text) ≡ Some sign) (eqb-true b 47 t) e)))
    (λ g. by_bool (b == 37) _
    (λ t. let is : (Remainder, text) ≡ sign = same_Some _ _ (rw (f, g, t) at e) in
    subst (ProductGoes level outer x (b ∷ text)) is
    (subst (λ c. ProductGoes level outer x (c ∷ text) (Remainder, text)) (sym (eqb-true b 37 t))
    (sign_on (has level outer x) 37 text (Sign Remainder) refl refl refl refl)))
    (λ h. absurd (none-some _ (rw (f, g, h) at e)))))

abbrev SumGoes : List Level → ℤ → List ℕ → Operator × List ℕ → Type 0
SumGoes outer x rest sign = run_on (has bare_level outer x) rest ≡ run_on (wants (added x sign.0) outer) sign.1

pub sum_on : (outer : List Level) (x : ℤ) (rest : List ℕ) (sign : Operator × List ℕ) →
    sum_sign rest ≡ Some sign → SumGoes outer x rest sign
sum_on outer x [] sign e = absurd (none-some _ e)
sum_on outer x (b ∷ text) sign e = by_bool (b == 43) _
    (λ t. let is : (Add, text) ≡ sign = same_Some _ _ (rw t at e) in
    subst (SumGoes outer x (b ∷ text)) is
    (subst (λ c. SumGoes outer x (c ∷ text) (Add, text)) (sym (eqb-true b 43 t))
    (sign_on (has bare_level outer x) 43 text (Sign Add) refl refl refl refl)))
    (λ f. by_bool (b == 45) _
    (λ t. let is : (Subtract, text) ≡ sign = same_Some _ _ (rw (f, t) at e) in
    subst (SumGoes outer x (b ∷ text)) is
    (subst (λ c. SumGoes outer x (c ∷ text) (Subtract, text)) (sym (eqb-true b 45 t))
    (sign_on (has bare_level outer x) 45 text (Sign Subtract) refl refl refl refl)))
    (λ h. absurd (none-some _ (rw (f, h) at e))))

-- ---- what a level has on the left is all that counts after a number

module _ (sum : Option (ℤ × Operator)) (one two : Option (ℤ × Operator)) (m n : ℕ) (outer : List Level) (x : ℤ) where
  same_run : (ts : List Token) → run (has (record { sum = sum; product = one; negations = m }) outer x) ts
      ≡ run (has (record { sum = sum; product = two; negations = n }) outer x) ts
  unfolding run
  same_run [] = by outer
    where
      by : (o : List Level) → end_by (record { sum = sum; product = one; negations = m }) o (Some x)
          ≡ end_by (record { sum = sum; product = two; negations = n }) o (Some x)
      by [] = refl
      by (l ∷ o) = refl
  same_run (Digits d ∷ ts) = refl
  same_run (Sign o ∷ ts) = refl
  same_run (Opens ∷ ts) = refl
  same_run (Closes ∷ ts) = refl
  same_run (Half ∷ ts) = refl

  pub same_on : (text : List ℕ) → run_on (has (record { sum = sum; product = one; negations = m }) outer x) text
      ≡ run_on (has (record { sum = sum; product = two; negations = n }) outer x) text
  same_on text = by (tokens_of text)
    where
      by : (o : Option (List Token)) → option_and_then (run (has (record { sum = sum; product = one; negations = m }) outer x)) o
          ≡ option_and_then (run (has (record { sum = sum; product = two; negations = n }) outer x)) o
      by None = refl
      by (Some ts) = same_run ts

-- ---- what begins no number, and what goes on after none

half_run : (level : Level) (outer : List Level) (value : Option ℤ) (adjacent : Bool) (ts : List Token) → (value ≡ None) →
    run (record { level = level; outer = outer; value = value }) (onto_half adjacent ts) ≡ None
unfolding run
half_run level outer value adjacent ts e =
    half_cases (λ u. run (record { level = level; outer = outer; value = value }) u ≡ None) adjacent ts
    (λ u. rw e refl) (λ u. rw e refl)

bad_begin : (level : Level) (outer : List Level) (b : ℕ) (text : List ℕ) (o : Option (List Token)) → is_blank b ≡ false →
    is_ascii_digit b ≡ false → (b == 45) ≡ false → (b == 40) ≡ false →
    option_and_then (run (wants level outer)) (option_and_then (with_byte b text) o) ≡ None
unfolding run
bad_begin level outer b text None blank digit minus opens = refl
bad_begin level outer b text (Some ts) blank digit minus opens = by_bool (b == 47) _
    (λ t. rw (blank, digit, t) (half_run level outer None (begins_with 47 text) ts refl))
    (λ f. by_bool (b == 43) _ (λ t. rw (blank, digit, f, t) refl)
    (λ g. by_bool (b == 42) _ (λ t. rw (blank, digit, f, g, minus, t) refl)
    (λ h. by_bool (b == 37) _ (λ t. rw (blank, digit, f, g, minus, h, t) refl)
    (λ i. by_bool (b == 41) _ (λ t. rw (blank, digit, f, g, minus, h, i, opens, t) refl)
    (λ j. rw (blank, digit, f, g, minus, h, i, opens, j) refl)))))

pub nothing_begins : (level : Level) (outer : List Level) (b : ℕ) (text : List ℕ) → is_blank b ≡ false → is_ascii_digit b ≡ false →
    (b == 45) ≡ false → (b == 40) ≡ false → run_on (wants level outer) (b ∷ text) ≡ None
unfolding tokens_of
nothing_begins level outer b text blank digit minus opens =
    bad_begin level outer b text (tokens_of text) blank digit minus opens
