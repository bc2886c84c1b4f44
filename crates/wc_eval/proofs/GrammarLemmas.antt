-- The value of an expression, as its text comes to it from the left, is what it is worth.
use Rattle.std.proofs.Common.{◌≡◌, ℕ, zero, suc, ◌+◌, ◌≤◌, true, false, ◌==◌, nat_lt, List, []}
use Rattle.std.proofs.Common.{◌∷◌, ◌++◌, length, Option, Some, None, ℤ, refl, ap, sym, subst, ◌∙◌}
use Rattle.std.proofs.Common.{append_assoc, append-nil, ◌↔◌, Bor, arith}
use Rattle.std.specs.Prelude.{option_and_then, option_map, neg_ℤ}
use Rattle.std.specs.Char.{is_ascii_digit}
use Rattle.std.specs.List.{list_all}
use Rattle.std.proofs.lemmas.Option.{none-some, same_Some}
use Rattle.std.proofs.lemmas.Bool.{and_parts, false≢true, eqb-true}
use Rattle.std.proofs.lemmas.Bool.Decides.{nat_tests}
use Rattle.wc_text.specs.Integer.{positive_of, is_numeral}
use Rattle.wc_eval.specs.declared.operator.Operator.{Operator}
use Rattle.wc_eval.specs.declared.operator.Operator.TheVariants.{Add, Subtract, Multiply, Divide, Remainder}
use Rattle.wc_eval.specs.Texts.{is_blank}
use Rattle.wc_eval.specs.Sums.{Sum, Literal, Negative, Enclosed, Joined, AreBlanks, Writes, sign_of, rank_of}
use Rattle.wc_eval.specs.Sums.{whole, result_of, worth, IsWorth}
use Rattle.wc_eval.specs.Signs.{sum_sign, product_sign}
use Rattle.wc_eval.specs.Tokens.{Sign, Opens, Closes, begins_with_digit, tokens_of}
use Rattle.wc_eval.specs.Answers.{Level, bare_level, Point, has, wants, with_number, value_after}
use Rattle.wc_eval.specs.Answers.{negation_of, run, calc_of}
use Rattle.wc_eval.specs.Fronts.{run_on, run_from, SumGoesOn, EndsProduct, EndsSum, digits_in, past_digits}
use Rattle.wc_eval.proofs.RunLemmas.{by_bool, sign_on, blank_on, digits_on, same_on, product_on, sum_on}
use Rattle.wc_eval.proofs.RunLemmas.{multiplied, added}
use Rattle.wc_eval.proofs.NumberLemmas.{too_much}
use Rattle.wc_eval.proofs.LoopLemmas.{summed_on}

-- ---- blanks and digits before what is left

blanks_on : (p : Point) (m rest : List ℕ) → AreBlanks m → run_on p (m ++ rest) ≡ run_on p rest
blanks_on p [] rest blank = refl
blanks_on p (b ∷ m) rest blank =
    let parts : (is_blank b ≡ true) × (list_all is_blank m ≡ true) =
    and_parts (is_blank b) (list_all is_blank m) blank in
    blank_on p b (m ++ rest) parts.0 ∙ blanks_on p m rest parts.1

blanks_from : (q : Option Point) (m rest : List ℕ) → AreBlanks m →
    run_from q (m ++ rest) ≡ run_from q rest
blanks_from None m rest blank = refl
blanks_from (Some p) m rest blank = blanks_on p m rest blank

-- no digit is at the front
abbrev IsApart : List ℕ → Type 0
IsApart text = begins_with_digit text ≡ false

blank_apart : (m rest : List ℕ) → AreBlanks m → IsApart rest → IsApart (m ++ rest)
blank_apart [] rest blank apart = apart
blank_apart (b ∷ m) rest blank apart =
    let parts : (is_blank b ≡ true) × (list_all is_blank m ≡ true) =
    and_parts (is_blank b) (list_all is_blank m) blank in
    not_digit b parts.0
  where
    not_digit : (b : ℕ) → is_blank b ≡ true → is_ascii_digit b ≡ false
    not_digit b blank = grind (arith, nat_tests)

no_digits : (rest : List ℕ) → IsApart rest → (digits_in rest ≡ []) × (past_digits rest ≡ rest)
no_digits [] apart = (refl, refl)
no_digits (b ∷ rest) apart = (rw apart refl, rw apart refl)

digits_apart : (digits rest : List ℕ) → list_all is_ascii_digit digits ≡ true → IsApart rest →
    (digits_in (digits ++ rest) ≡ digits) × (past_digits (digits ++ rest) ≡ rest)
digits_apart [] rest all apart = no_digits rest apart
digits_apart (b ∷ digits) rest all apart =
    let parts : (is_ascii_digit b ≡ true) × (list_all is_ascii_digit digits ≡ true) =
    and_parts (is_ascii_digit b) (list_all is_ascii_digit digits) all in
    let more = digits_apart digits rest parts.1 apart in
    (rw parts.0 (ap (λ l. b ∷ l) more.0), rw parts.0 more.1)

abbrev Numeral : List ℕ → Type 0
Numeral digits = (nat_lt 0 (length digits) ≡ true) × (list_all is_ascii_digit digits ≡ true)

numeral : (digits : List ℕ) (x : ℤ) → positive_of digits ≡ Some x → Numeral digits
numeral digits x e = by_bool (is_numeral digits) _
    (λ t. and_parts (nat_lt 0 (length digits)) (list_all is_ascii_digit digits) t)
    (λ f. absurd (none-some _ (rw f at e)))

-- ---- what each expression comes to, whatever is left

abbrev NumberComes : ℕ → List ℕ → ℤ → Type 0
NumberComes depth text x = (level : Level) (outer : List Level) (rest : List ℕ) →
    length outer + depth ≡ 32 → IsApart rest →
    run_on (wants level outer) (text ++ rest) ≡ run_from (with_number level outer x) rest

abbrev ProductComes : ℕ → List ℕ → ℤ → Type 0
ProductComes depth text x = (level : Level) (outer : List Level) (rest : List ℕ) →
    length outer + depth ≡ 32 → level.negations ≡ 0 → level.product ≡ None → IsApart rest →
    run_on (wants level outer) (text ++ rest) ≡ run_on (has level outer x) rest

abbrev SumComes : ℕ → List ℕ → ℤ → Type 0
SumComes depth text x = (outer : List Level) (rest : List ℕ) → length outer + depth ≡ 32 →
    IsApart rest → EndsProduct rest →
    run_on (wants bare_level outer) (text ++ rest) ≡ run_on (has bare_level outer x) rest

abbrev Comes : ℕ → ℕ → List ℕ → ℤ → Type 0
Comes zero depth text x = SumComes depth text x
Comes (suc zero) depth text x = ProductComes depth text x
Comes (suc (suc rank)) depth text x = NumberComes depth text x

product_from_number : (depth : ℕ) (text : List ℕ) (x : ℤ) → NumberComes depth text x →
    ProductComes depth text x
product_from_number depth text x comes level outer rest deep none bare apart =
    comes level outer rest deep apart ∙ rw (none, bare) refl

sum_from_product : (depth : ℕ) (text : List ℕ) (x : ℤ) → ProductComes depth text x →
    SumComes depth text x
sum_from_product depth text x comes outer rest deep apart ends =
    comes bare_level outer rest deep refl refl apart

from_number : (rank depth : ℕ) (text : List ℕ) (x : ℤ) → NumberComes depth text x →
    Comes rank depth text x
from_number zero depth text x comes = sum_from_product depth text x (product_from_number depth text x comes)
from_number (suc zero) depth text x comes = product_from_number depth text x comes
from_number (suc (suc rank)) depth text x comes = comes

-- ---- numbers

literal_comes : (depth : ℕ) (digits m tail text : List ℕ) (x : ℤ) → positive_of digits ≡ Some x →
    AreBlanks m → AreBlanks tail → text ≡ m ++ (digits ++ tail) → NumberComes depth text x
literal_comes depth digits m tail text x e before behind is level outer rest deep apart =
    ap (λ l. run_on (wants level outer) (l ++ rest)) is
    ∙ ap (run_on (wants level outer)) (append_assoc m (digits ++ tail) rest
    ∙ ap (λ l. m ++ l) (append_assoc digits tail rest))
    ∙ blanks_on (wants level outer) m (digits ++ (tail ++ rest)) before
    ∙ by digits e (numeral digits x e)
    ∙ blanks_from (with_number level outer x) tail rest behind
  where
    by : (digits : List ℕ) → positive_of digits ≡ Some x → Numeral digits →
        run_on (wants level outer) (digits ++ (tail ++ rest))
        ≡ run_from (with_number level outer x) (tail ++ rest)
    by [] e all = absurd (false≢true all.0)
    by (b ∷ digits) e all =
        let parts : (is_ascii_digit b ≡ true) × (list_all is_ascii_digit digits ≡ true) =
        and_parts (is_ascii_digit b) (list_all is_ascii_digit digits) all.1 in
        let split = digits_apart digits (tail ++ rest) parts.1 (blank_apart tail rest behind apart) in
        digits_on (wants level outer) b (digits ++ (tail ++ rest)) parts.0
        ∙ rw (split.0, split.1, e) refl

negative_comes : (depth : ℕ) (m body text : List ℕ) (z x : ℤ) → NumberComes depth body z →
    whole (neg_ℤ z) ≡ Some x → AreBlanks m → text ≡ m ++ 45 ∷ body → NumberComes depth text x
negative_comes depth m body text z x comes e before is level outer rest deep apart =
    ap (λ l. run_on (wants level outer) (l ++ rest)) is
    ∙ ap (run_on (wants level outer)) (append_assoc m (45 ∷ body) rest)
    ∙ blanks_on (wants level outer) m (45 ∷ (body ++ rest)) before
    ∙ sign_on (wants level outer) 45 (body ++ rest) (Sign Subtract) refl refl refl refl
    ∙ comes (record level { negations = level.negations + 1 }) outer rest deep apart
    ∙ once level.negations
  where
    by : (n : ℕ) (o : Option ℤ) →
        run_from (option_map (has (record level { negations = n + 1 }) outer) o) rest
        ≡ run_from (option_map (has (record level { negations = n }) outer) o) rest
    by n None = refl
    by n (Some u) = same_on level.sum level.product level.product (n + 1) n outer u rest

    once : (n : ℕ) →
        run_from (with_number (record level { negations = n + 1 }) outer z) rest
        ≡ run_from (with_number (record level { negations = n }) outer x) rest
    once n =
        let more : n + 1 ≡ suc n = omega arith in
        let same : negation_of (n + 1) z ≡ negation_of n x =
        rw more (ap (option_and_then (negation_of n)) e) in
        rw same (by n (option_and_then (value_after level.product) (negation_of n x)))

enclosed_comes : (depth : ℕ) (m body tail text : List ℕ) (x : ℤ) → SumComes depth body x →
    AreBlanks m → AreBlanks tail → text ≡ m ++ 40 ∷ (body ++ 41 ∷ tail) →
    NumberComes (suc depth) text x
enclosed_comes depth m body tail text x comes before behind is level outer rest deep apart =
    let short : nat_lt (length outer) 32 ≡ true = grind (arith, nat_tests) in
    ap (λ l. run_on (wants level outer) (l ++ rest)) is
    ∙ ap (run_on (wants level outer)) (append_assoc m (40 ∷ (body ++ 41 ∷ tail)) rest
    ∙ ap (λ l. m ++ 40 ∷ l) (append_assoc body (41 ∷ tail) rest))
    ∙ blanks_on (wants level outer) m (40 ∷ (body ++ 41 ∷ (tail ++ rest))) before
    ∙ sign_on (wants level outer) 40 (body ++ 41 ∷ (tail ++ rest)) Opens refl refl refl refl
    ∙ rw short (comes (level ∷ outer) (41 ∷ (tail ++ rest)) (omega (arith, deep)) refl (refl, refl))
    ∙ sign_on (has bare_level (level ∷ outer) x) 41 (tail ++ rest) Closes refl refl refl refl
    ∙ blanks_from (with_number level outer x) tail rest behind

-- ---- products and sums

module _ (depth : ℕ) (left right text : List ℕ) (x y v : ℤ) where
  product_comes : (operator : Operator) → ((rest : List ℕ) → IsApart (sign_of operator ++ rest)) →
      ((rest : List ℕ) → product_sign (sign_of operator ++ rest) ≡ Some (operator, rest)) →
      result_of operator x y ≡ Some v → ProductComes depth left x → NumberComes depth right y →
      text ≡ left ++ (sign_of operator ++ right) → ProductComes depth text v
  product_comes operator alone sign e first second is level outer rest deep none bare apart =
      ap (λ l. run_on (wants level outer) (l ++ rest)) is
      ∙ ap (run_on (wants level outer)) (append_assoc left (sign_of operator ++ right) rest
      ∙ ap (λ l. left ++ l) (append_assoc (sign_of operator) right rest))
      ∙ first level outer (sign_of operator ++ (right ++ rest)) deep none bare (alone (right ++ rest))
      ∙ product_on level outer x (sign_of operator ++ (right ++ rest)) (operator, right ++ rest)
      (sign (right ++ rest))
      ∙ second (multiplied level x operator) outer rest deep apart
      ∙ rw e (same_on level.sum (Some (x, operator)) level.product 0 level.negations outer v rest)

  sum_comes : (operator : Operator) → ((rest : List ℕ) → IsApart (sign_of operator ++ rest)) →
      ((rest : List ℕ) → EndsProduct (sign_of operator ++ rest)) →
      ((rest : List ℕ) → sum_sign (sign_of operator ++ rest) ≡ Some (operator, rest)) →
      result_of operator x y ≡ Some v → SumComes depth left x → ProductComes depth right y →
      text ≡ left ++ (sign_of operator ++ right) → SumComes depth text v
  sum_comes operator alone ends sign e first second is outer rest deep apart over =
      ap (λ l. run_on (wants bare_level outer) (l ++ rest)) is
      ∙ ap (run_on (wants bare_level outer)) (append_assoc left (sign_of operator ++ right) rest
      ∙ ap (λ l. left ++ l) (append_assoc (sign_of operator) right rest))
      ∙ first outer (sign_of operator ++ (right ++ rest)) deep (alone (right ++ rest)) (ends (right ++ rest))
      ∙ sum_on outer x (sign_of operator ++ (right ++ rest)) (operator, right ++ rest) (sign (right ++ rest))
      ∙ second (added x operator) outer rest deep refl refl apart
      ∙ summed_on outer x y v operator e rest over

  from_product : (rank : ℕ) → rank ≤ 1 → ProductComes depth text v → Comes rank depth text v
  from_product zero le comes = sum_from_product depth text v comes
  from_product (suc zero) le comes = comes
  from_product (suc (suc rank)) le comes = absurd (omega (arith, le))

  joined_comes : (operator : Operator) (rank : ℕ) → rank ≤ rank_of operator →
      result_of operator x y ≡ Some v → Comes (rank_of operator) depth left x →
      Comes (suc (rank_of operator)) depth right y → text ≡ left ++ (sign_of operator ++ right) →
      Comes rank depth text v
  joined_comes Add zero le e first second is =
      sum_comes Add (λ r. refl) (λ r. (refl, refl)) (λ r. refl) e first second is
  joined_comes Subtract zero le e first second is =
      sum_comes Subtract (λ r. refl) (λ r. (refl, refl)) (λ r. refl) e first second is
  joined_comes Add (suc rank) le e first second is = absurd (omega (arith, le))
  joined_comes Subtract (suc rank) le e first second is = absurd (omega (arith, le))
  joined_comes Multiply rank le e first second is =
      from_product rank le (product_comes Multiply (λ r. refl) (λ r. refl) e first second is)
  joined_comes Divide rank le e first second is =
      from_product rank le (product_comes Divide (λ r. refl) (λ r. refl) e first second is)
  joined_comes Remainder rank le e first second is =
      from_product rank le (product_comes Remainder (λ r. refl) (λ r. refl) e first second is)

-- ---- each expression

some_then : {A B : Type 0} (f : A → Option B) (o : Option A) (y : B) → option_and_then f o ≡ Some y →
    (x : A) × (o ≡ Some x) × (f x ≡ Some y)
some_then f None y e = absurd (none-some _ e)
some_then f (Some x) y e = (x, refl, e)

comes : (sum : Sum) (rank depth : ℕ) (text : List ℕ) (x : ℤ) → Writes rank sum text →
    worth depth sum ≡ Some x → Comes rank depth text x
comes (Literal digits) rank depth text x w e =
    from_number rank depth text x (literal_comes depth digits w.0 w.1 text x e w.2 w.3 w.4)
comes (Negative a) rank depth text x w e =
    let some = some_then (λ x. whole (neg_ℤ x)) (worth depth a) x e in
    from_number rank depth text x (negative_comes depth w.0 w.1 text some.0 x
    (comes a 2 depth w.1 some.0 w.4 some.1) some.2 w.2 w.3)
comes (Enclosed a) rank zero text x w e = absurd (none-some _ e)
comes (Enclosed a) rank (suc depth) text x w e =
    from_number rank (suc depth) text x (enclosed_comes depth w.0 w.1 w.2 text x
    (comes a 0 depth w.1 x w.6 e) w.3 w.4 w.5)
comes (Joined operator a b) rank depth text v w e =
    let one = some_then (λ x. option_and_then (λ y. result_of operator x y) (worth depth b))
    (worth depth a) v e in
    let two = some_then (λ y. result_of operator one.0 y) (worth depth b) v one.2 in
    joined_comes depth w.0 w.1 text one.0 two.0 v operator rank w.2 two.2
    (comes a (rank_of operator) depth w.0 one.0 w.4 one.1)
    (comes b (suc (rank_of operator)) depth w.1 two.0 w.5 two.1) w.3

-- ---- the whole text

starts : (text : List ℕ) → calc_of text ≡ run_on (wants bare_level []) text
unfolding calc_of
starts text = refl

ended : (x : ℤ) → run_on (has bare_level [] x) [] ≡ Some x
unfolding tokens_of run
ended x = refl

is_worth : (text : List ℕ) (v : ℤ) → IsWorth text v → calc_of text ≡ Some v
is_worth text v is =
    starts text ∙ ap (run_on (wants bare_level [])) (sym (append-nil text))
    ∙ comes is.sum 0 32 text v is.written is.value_is [] [] refl refl (refl, refl) ∙ ended v

module _ (text : List ℕ) where
  pub calc_fails : SumGoesOn 32 text None → calc_of text ≡ None
  calc_fails goes = starts text ∙ goes [] refl

  module _ (v : ℤ) (rest : Bor (List ℕ)) (goes : SumGoesOn 32 text (Some (v, rest))) where
    pub calc_over : EndsSum rest.now → false ≡ (length rest.now == 0) → calc_of text ≡ None
    calc_over ends more = starts text ∙ goes [] refl ∙ by rest.now ends more
      where
        by : (left : List ℕ) → EndsSum left → false ≡ (length left == 0) →
            run_on (has bare_level [] v) left ≡ None
        by [] ends more = absurd (false≢true more)
        by (b ∷ left) ends more = too_much v b left ends

    pub calc_done : rest.now ≡ [] → calc_of text ≡ Some v
    calc_done none = starts text ∙ goes [] refl ∙ ap (run_on (has bare_level [] v)) none ∙ ended v

  pub no_worth : (r : Option ℤ) → r ≡ None → calc_of text ≡ None →
      (value : ℤ) → (r ≡ Some value) ↔ IsWorth text value
  no_worth r none is value = (
    λ e. absurd (none-some _ (sym none ∙ e)),
    λ w. absurd (none-some _ (sym is ∙ is_worth text value w)),
  )

  pub one_worth : (v : ℤ) → calc_of text ≡ Some v → IsWorth text v →
      (value : ℤ) → (Some v ≡ Some value) ↔ IsWorth text value
  one_worth v is worthy value = (
    λ e. subst (IsWorth text) (same_Some _ _ e) worthy,
    λ w. sym is ∙ is_worth text value w,
  )

pub none_left : (rest : List ℕ) → true ≡ (length rest == 0) → rest ≡ []
none_left [] e = refl
none_left (b ∷ rest) e = let more : length (b ∷ rest) ≡ 0 = eqb-true (length (b ∷ rest)) 0 (sym e) in
    absurd (omega (arith, more))
