-- Which expression stands at the front of a text, from those at the fronts of its parts.
use Rattle.std.proofs.Common.{◌≡◌, ℕ, zero, suc, ◌-◌, ◌<◌, true, ◌==◌, List, [], ◌∷◌, ◌++◌}
use Rattle.std.proofs.Common.{Option, Some, None, IfSome, option_map, ℤ, refl, ap, sym, subst, ◌∙◌}
use Rattle.std.proofs.Common.{append_assoc, append-nil, arith}
use Rattle.std.specs.Prelude.{option_and_then, neg_ℤ, if◌then◌else◌}
use Rattle.std.specs.Char.{is_ascii_digit}
use Rattle.std.specs.List.{list_all}
use Rattle.std.proofs.lemmas.Option.{none-some, same_Some, some_pair_parts}
use Rattle.std.proofs.lemmas.Bool.{eqb-true, and_from, and_parts}
use Rattle.wc_text.specs.Integer.{positive_of}
use Rattle.wc_eval.specs.declared.operator.Operator.{Operator}
use Rattle.wc_eval.specs.declared.operator.Operator.TheVariants.{Add, Subtract, Multiply, Divide, Remainder}
use Rattle.wc_eval.specs.Texts.{is_blank, past_margin}
use Rattle.wc_eval.specs.Sums.{Sum, Literal, Negative, Enclosed, Joined, AreBlanks, Writes, sign_of, rank_of}
use Rattle.wc_eval.specs.Sums.{whole, result_of, IsWorth}
use Rattle.wc_eval.specs.Signs.{sum_sign, product_sign, after_byte}
use Rattle.wc_eval.specs.Answers.{negation_of}
use Rattle.wc_eval.specs.Fronts.{Read, IsFront, digits_in, past_digits, literal_front, negations_in}
use Rattle.wc_eval.specs.Fronts.{past_negations}
use Rattle.wc_eval.proofs.RunLemmas.{by_bool}
use Rattle.wc_eval.proofs.NumberLemmas.{after_parts}

-- ---- blanks around what is written

before_blank : (b : ℕ) (sum : Sum) (rank : ℕ) (text : List ℕ) → is_blank b ≡ true →
    Writes rank sum text → Writes rank sum (b ∷ text)
before_blank b (Literal digits) rank text blank w =
    (b ∷ w.0, w.1, and_from (is_blank b) (list_all is_blank w.0) blank w.2, w.3, ap (λ l. b ∷ l) w.4)
before_blank b (Negative a) rank text blank w =
    (b ∷ w.0, w.1, and_from (is_blank b) (list_all is_blank w.0) blank w.2, ap (λ l. b ∷ l) w.3, w.4)
before_blank b (Enclosed a) rank text blank w = (
  b ∷ w.0,
  w.1,
  w.2,
  and_from (is_blank b) (list_all is_blank w.0) blank w.3,
  w.4,
  ap (λ l. b ∷ l) w.5,
  w.6,
)
before_blank b (Joined operator a c) rank text blank w =
    (b ∷ w.0, w.1, w.2, ap (λ l. b ∷ l) w.3, before_blank b a (rank_of operator) w.0 blank w.4, w.5)

blanks_both : (a m : List ℕ) → AreBlanks a → AreBlanks m → AreBlanks (a ++ m)
blanks_both [] m ha hm = hm
blanks_both (b ∷ a) m ha hm =
    let parts : (is_blank b ≡ true) × (list_all is_blank a ≡ true) =
    and_parts (is_blank b) (list_all is_blank a) ha in
    and_from (is_blank b) (list_all is_blank (a ++ m)) parts.0 (blanks_both a m parts.1 hm)

after_blanks : (m : List ℕ) (sum : Sum) (rank : ℕ) (text : List ℕ) → AreBlanks m →
    Writes rank sum text → Writes rank sum (text ++ m)
after_blanks m (Literal digits) rank text blank w = (
  w.0,
  w.1 ++ m,
  w.2,
  blanks_both w.1 m w.3 blank,
  ap (λ l. l ++ m) w.4 ∙ append_assoc w.0 (digits ++ w.1) m
      ∙ ap (λ l. w.0 ++ l) (append_assoc digits w.1 m),
)
after_blanks m (Negative a) rank text blank w = (
  w.0,
  w.1 ++ m,
  w.2,
  ap (λ l. l ++ m) w.3 ∙ append_assoc w.0 (45 ∷ w.1) m,
  after_blanks m a 2 w.1 blank w.4,
)
after_blanks m (Enclosed a) rank text blank w = (
  w.0,
  w.1,
  w.2 ++ m,
  w.3,
  blanks_both w.2 m w.4 blank,
  ap (λ l. l ++ m) w.5 ∙ append_assoc w.0 (40 ∷ (w.1 ++ 41 ∷ w.2)) m
      ∙ ap (λ l. w.0 ++ 40 ∷ l) (append_assoc w.1 (41 ∷ w.2) m),
  w.6,
)
after_blanks m (Joined operator a b) rank text blank w = (
  w.0,
  w.1 ++ m,
  w.2,
  ap (λ l. l ++ m) w.3 ∙ append_assoc w.0 (sign_of operator ++ w.1) m
      ∙ ap (λ l. w.0 ++ l) (append_assoc (sign_of operator) w.1 m),
  w.4,
  after_blanks m b (suc (rank_of operator)) w.1 blank w.5,
)

-- the blanks at the front of a text
abbrev margin_in : List ℕ → List ℕ
margin_in [] = []
margin_in (b ∷ text) = if is_blank b then b ∷ margin_in text else []

margin_parts : (text : List ℕ) → text ≡ margin_in text ++ past_margin text
margin_parts [] = refl
margin_parts (b ∷ text) = by_bool (is_blank b) _
    (λ t. rw t (ap (λ l. b ∷ l) (margin_parts text)))
    (λ f. rw f refl)

margin_blank : (text : List ℕ) → AreBlanks (margin_in text)
margin_blank [] = refl
margin_blank (b ∷ text) = by_bool (is_blank b) _
    (λ t. rw (t, t) (margin_blank text))
    (λ f. rw f refl)

module _ (depth rank : ℕ) (text : List ℕ) (v : ℤ) (rest : List ℕ) where
  front_margin : IsFront depth rank text v rest → IsFront depth rank text v (past_margin rest)
  front_margin f = record {
    sum = f.sum;
    front = f.front ++ margin_in rest;
    parted = f.parted ∙ ap (λ l. f.front ++ l) (margin_parts rest)
        ∙ sym (append_assoc f.front (margin_in rest) (past_margin rest));
    written = after_blanks (margin_in rest) f.sum rank f.front (margin_blank rest) f.written;
    value_is = f.value_is;
  }

  blank_front : (b : ℕ) → is_blank b ≡ true → IsFront depth rank text v rest →
      IsFront depth rank (b ∷ text) v rest
  blank_front b blank f = record {
    sum = f.sum;
    front = b ∷ f.front;
    parted = ap (λ l. b ∷ l) f.parted;
    written = before_blank b f.sum rank f.front blank f.written;
    value_is = f.value_is;
  }

-- ---- the `-` before a number

last_negation : (n : ℕ) (v y : ℤ) → negation_of (suc n) v ≡ Some y →
    (z : ℤ) × (negation_of n v ≡ Some z) × (whole (neg_ℤ z) ≡ Some y)
last_negation zero v y e = (v, refl, by (whole (neg_ℤ v)) e)
  where
    by : (o : Option ℤ) → option_and_then (negation_of 0) o ≡ Some y → o ≡ Some y
    by None e = e
    by (Some u) e = e
last_negation (suc n) v y e = by (λ u. last_negation n u y) (whole (neg_ℤ v)) refl e
  where
    by : ((u : ℤ) → negation_of (suc n) u ≡ Some y →
        (z : ℤ) × (negation_of n u ≡ Some z) × (whole (neg_ℤ z) ≡ Some y)) →
        (o : Option ℤ) → whole (neg_ℤ v) ≡ o → option_and_then (negation_of (suc n)) o ≡ Some y →
        (z : ℤ) × (negation_of (suc n) v ≡ Some z) × (whole (neg_ℤ z) ≡ Some y)
    by ih None is e = absurd (none-some _ e)
    by ih (Some u) is e = let last = ih u e in
        (last.0, ap (option_and_then (negation_of n)) is ∙ last.1, last.2)

minus_front : (depth : ℕ) (text : List ℕ) (z y : ℤ) (rest : List ℕ) → IsFront depth 2 text z rest →
    whole (neg_ℤ z) ≡ Some y → IsFront depth 2 (45 ∷ text) y rest
minus_front depth text z y rest f e = record {
  sum = Negative f.sum;
  front = 45 ∷ f.front;
  parted = ap (λ l. 45 ∷ l) f.parted;
  written = ([], f.front, refl, refl, f.written);
  value_is = ap (option_and_then (λ x. whole (neg_ℤ x))) f.value_is ∙ e;
}

signed_front : (depth : ℕ) (text : List ℕ) (v y : ℤ) (rest : List ℕ) →
    IsFront depth 2 (past_negations text) v rest → negation_of (negations_in text) v ≡ Some y →
    IsFront depth 2 text y rest
signed_front depth [] v y rest f e = subst (λ u. IsFront depth 2 [] u rest) (same_Some _ _ e) f
signed_front depth (b ∷ text) v y rest f e = by_bool (b == 45) _
    (λ t. let last = last_negation (negations_in text) v y (rw t at e) in
    subst (λ c. IsFront depth 2 (c ∷ text) y rest) (sym (eqb-true b 45 t))
    (minus_front depth text last.0 y rest (signed_front depth text v last.0 rest (rw t at f) last.1)
    last.2))
    (λ g. by_bool (is_blank b) _
    (λ t. blank_front depth 2 text y rest b t
    (signed_front depth text v y rest (rw (g, t) at f) (rw (g, t) at e)))
    (λ h. subst (λ u. IsFront depth 2 (b ∷ text) u rest) (same_Some _ _ (rw (g, h) at e))
    (rw (g, h) at f)))

pub number_front : (depth : ℕ) (text body : List ℕ) (n : ℕ) → body ≡ past_negations text →
    n ≡ negations_in text → (v y : ℤ) (rest after : List ℕ) → IsFront depth 2 body v rest →
    Some y ≡ negation_of n v → after ≡ past_margin rest → IsFront depth 2 text y after
number_front depth text body n body_is n_is v y rest after f e is =
    signed_front depth text v y after
    (subst (λ l. IsFront depth 2 (past_negations text) v l) (sym is)
    (front_margin depth 2 (past_negations text) v rest
    (subst (λ l. IsFront depth 2 l v rest) body_is f)))
    (subst (λ m. negation_of m v ≡ Some y) n_is (sym e))

-- ---- digits

digits_parts : (text : List ℕ) → text ≡ digits_in text ++ past_digits text
digits_parts [] = refl
digits_parts (b ∷ text) = by_bool (is_ascii_digit b) _
    (λ t. rw t (ap (λ l. b ∷ l) (digits_parts text)))
    (λ f. rw f refl)

pub literal_written : (depth : ℕ) (text : List ℕ) (read : Read) →
    option_map (λ front. (front.0, front.1.now)) read ≡ literal_front text →
    IfSome read (λ read. IsFront depth 2 text read.0 read.1.now)
literal_written depth text None e = tt
literal_written depth text (Some read) e = by (positive_of (digits_in text)) refl e
  where
    by : (o : Option ℤ) → positive_of (digits_in text) ≡ o →
        ◌≡◌ {A = Option (ℤ × List ℕ)} (Some (read.0, read.1.now))
        (option_map (λ x. (x, past_digits text)) o) →
        IsFront depth 2 text read.0 read.1.now
    by None is e = absurd (none-some _ (sym e))
    by (Some x) is e = let parts = some_pair_parts read.0 x read.1.now (past_digits text) e in record {
      sum = Literal (digits_in text);
      front = digits_in text;
      parted = digits_parts text ∙ ap (λ l. digits_in text ++ l) (sym parts.1);
      written = ([], [], refl, refl, sym (append-nil (digits_in text)));
      value_is = is ∙ ap Some (sym parts.0);
    }

-- ---- parentheses

enclosed_front : (depth : ℕ) (text : List ℕ) (v : ℤ) (rest after : List ℕ) →
    IsFront depth 0 text v rest → rest ≡ 41 ∷ after → IsFront (suc depth) 2 (40 ∷ text) v after
enclosed_front depth text v rest after f is = record {
  sum = Enclosed f.sum;
  front = 40 ∷ (f.front ++ 41 ∷ []);
  parted = ap (λ l. 40 ∷ l) (f.parted ∙ ap (λ l. f.front ++ l) is
      ∙ sym (append_assoc f.front (41 ∷ []) after));
  written = ([], f.front, [], refl, refl, refl, f.written);
  value_is = f.value_is;
}

pub enclosed_reads : (depth : ℕ) (text : List ℕ) (v : ℤ) (rest after : List ℕ) → 0 < depth →
    IsFront (depth - 1) 0 text v rest → Some after ≡ after_byte 41 rest →
    IsFront depth 2 (40 ∷ text) v after
enclosed_reads depth text v rest after more f e =
    let is : depth ≡ suc (depth - 1) = omega arith in
    subst (λ d. IsFront d 2 (40 ∷ text) v after) (sym is)
    (enclosed_front (depth - 1) text v rest after f (after_parts 41 rest after e))

-- ---- products and sums

weaker : (sum : Sum) (rank : ℕ) (text : List ℕ) → Writes (suc rank) sum text → Writes rank sum text
weaker (Literal digits) rank text w = w
weaker (Negative a) rank text w = w
weaker (Enclosed a) rank text w = w
weaker (Joined operator a b) rank text w = (w.0, w.1, omega (arith, w.2), w.3, w.4, w.5)

pub front_weaker : (depth rank : ℕ) (text : List ℕ) (v : ℤ) (rest : List ℕ) →
    IsFront depth (suc rank) text v rest → IsFront depth rank text v rest
front_weaker depth rank text v rest f = record {
  sum = f.sum;
  front = f.front;
  parted = f.parted;
  written = weaker f.sum rank f.front f.written;
  value_is = f.value_is;
}

joined_front : (depth : ℕ) (text : List ℕ) (x y v : ℤ) (operator : Operator)
    (rest following after : List ℕ) → IsFront depth (rank_of operator) text x rest →
    rest ≡ sign_of operator ++ following → IsFront depth (suc (rank_of operator)) following y after →
    result_of operator x y ≡ Some v → IsFront depth (rank_of operator) text v after
joined_front depth text x y v operator rest following after f is g e = record {
  sum = Joined operator f.sum g.sum;
  front = f.front ++ (sign_of operator ++ g.front);
  parted = f.parted ∙ ap (λ l. f.front ++ l) (is ∙ ap (λ l. sign_of operator ++ l) g.parted
      ∙ sym (append_assoc (sign_of operator) g.front after))
      ∙ sym (append_assoc f.front (sign_of operator ++ g.front) after);
  written = (f.front, g.front, omega arith, refl, f.written, g.written);
  value_is = rw (f.value_is, g.value_is) e;
}

abbrev IsParted : ℕ → List ℕ → Operator × List ℕ → Type 0
IsParted rank text sign = (text ≡ sign_of sign.0 ++ sign.1) × (rank_of sign.0 ≡ rank)

product_slash : (text : List ℕ) (sign : Operator × List ℕ) → product_sign (47 ∷ text) ≡ Some sign →
    IsParted 1 (47 ∷ text) sign
product_slash [] sign e = absurd (none-some _ e)
product_slash (c ∷ text) sign e = by_bool (c == 47) _
    (λ t. let is : (Divide, text) ≡ sign = same_Some _ _ (rw t at e) in
    subst (IsParted 1 (47 ∷ c ∷ text)) is (ap (λ d. 47 ∷ d ∷ text) (eqb-true c 47 t), refl))
    (λ f. absurd (none-some _ (rw f at e)))

product_parts : (text : List ℕ) (sign : Operator × List ℕ) → product_sign text ≡ Some sign →
    IsParted 1 text sign
product_parts [] sign e = absurd (none-some _ e)
product_parts (b ∷ text) sign e = by_bool (b == 42) _
    (λ t. let is : (Multiply, text) ≡ sign = same_Some _ _ (rw t at e) in
    subst (IsParted 1 (b ∷ text)) is (ap (λ c. c ∷ text) (eqb-true b 42 t), refl))
    (λ f. by_bool (b == 47) _
    (λ t. subst (λ c. IsParted 1 (c ∷ text) sign) (sym (eqb-true b 47 t))
    (product_slash text sign (subst (λ c. product_sign (c ∷ text) ≡ Some sign) (eqb-true b 47 t) e)))
    (λ g. by_bool (b == 37) _
    (λ t. let is : (Remainder, text) ≡ sign = same_Some _ _ (rw (f, g, t) at e) in
    subst (IsParted 1 (b ∷ text)) is (ap (λ c. c ∷ text) (eqb-true b 37 t), refl))
    (λ h. absurd (none-some _ (rw (f, g, h) at e)))))

sum_parts : (text : List ℕ) (sign : Operator × List ℕ) → sum_sign text ≡ Some sign →
    IsParted 0 text sign
sum_parts [] sign e = absurd (none-some _ e)
sum_parts (b ∷ text) sign e = by_bool (b == 43) _
    (λ t. let is : (Add, text) ≡ sign = same_Some _ _ (rw t at e) in
    subst (IsParted 0 (b ∷ text)) is (ap (λ c. c ∷ text) (eqb-true b 43 t), refl))
    (λ f. by_bool (b == 45) _
    (λ t. let is : (Subtract, text) ≡ sign = same_Some _ _ (rw (f, t) at e) in
    subst (IsParted 0 (b ∷ text)) is (ap (λ c. c ∷ text) (eqb-true b 45 t), refl))
    (λ h. absurd (none-some _ (rw (f, h) at e))))

module _ (depth : ℕ) (text : List ℕ) (x y v : ℤ) (operator : Operator) (rest following after : List ℕ)
  where
    ranked : (rank : ℕ) → IsParted rank rest (operator, following) → IsFront depth rank text x rest →
        IsFront depth (suc rank) following y after → result_of operator x y ≡ Some v →
        IsFront depth rank text v after
    ranked rank is f g e = subst (λ r. IsFront depth r text v after) is.1
        (joined_front depth text x y v operator rest following after
        (subst (λ r. IsFront depth r text x rest) (sym is.1) f) is.0
        (subst (λ r. IsFront depth (suc r) following y after) (sym is.1) g) e)

    pub product_joined : IsFront depth 1 text x rest → product_sign rest ≡ Some (operator, following) →
        IsFront depth 2 following y after → result_of operator x y ≡ Some v →
        IsFront depth 1 text v after
    product_joined f sign g e = ranked 1 (product_parts rest (operator, following) sign) f g e

    pub sum_joined : IsFront depth 0 text x rest → sum_sign rest ≡ Some (operator, following) →
        IsFront depth 1 following y after → result_of operator x y ≡ Some v →
        IsFront depth 0 text v after
    sum_joined f sign g e = ranked 0 (sum_parts rest (operator, following) sign) f g e

-- ---- the whole text

pub front_worth : (text : List ℕ) (v : ℤ) (rest : List ℕ) → IsFront 32 0 text v rest → rest ≡ [] →
    IsWorth text v
front_worth text v rest f is = record {
  sum = f.sum;
  written = subst (λ l. Writes 0 f.sum l)
      (sym (f.parted ∙ ap (λ l. f.front ++ l) is ∙ append-nil f.front)) f.written;
  value_is = f.value_is;
}
