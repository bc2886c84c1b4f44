-- What the first bytes of a client tell.
use Rattle.std.proofs.Common.{◌≡◌, ℕ, Bool, true, false, eqb, ◌&&◌, not, List, [], ◌∷◌, ◌++◌, refl, sym, ap, ◌∙◌, arith}
use Rattle.std.proofs.lemmas.Bool.{false≢true}
use Rattle.std.proofs.lemmas.Bool.Decides.{nat_tests}
use Rattle.wc_framing.specs.Opening.{mark, is_front, begins, may_open}

pub and-left : (a b : Bool) → (a && b) ≡ true → a ≡ true
and-left true b e = refl
and-left false b e = absurd (false≢true e)

pub and-right : (a b : Bool) → (a && b) ≡ true → b ≡ true
and-right true b e = e
and-right false b e = absurd (false≢true e)

same-head : (x y : ℕ) → eqb x y ≡ true → x ≡ y
same-head x y e = grind (arith, nat_tests)

-- a front of a list is one of a longer list
pub front-more : (w b m : List ℕ) → is_front w b ≡ true → is_front w (b ++ m) ≡ true
front-more [] b m e = refl
front-more (x ∷ w) [] m e = absurd (false≢true e)
front-more (x ∷ w) (y ∷ b) m e =
    ap (λ t. t && is_front w (b ++ m)) (and-left (eqb x y) (is_front w b) e)
    ∙ front-more w b m (and-right (eqb x y) (is_front w b) e)

-- lists of which none is a front of the other differ also where one goes on
pub apart-more : (w b m : List ℕ) → is_front w b ≡ false → is_front b w ≡ false → (is_front w (b ++ m) ≡ false) × (is_front (b ++ m) w ≡ false)
apart-more [] b m e f = absurd (false≢true (sym e))
apart-more (x ∷ w) [] m e f = absurd (false≢true (sym f))
apart-more (x ∷ w) (y ∷ b) m e f = by (eqb x y) (eqb y x) refl refl e f (λ p q. apart-more w b m p q)
  where
    by : (s t : Bool) → eqb x y ≡ s → eqb y x ≡ t → (eqb x y && is_front w b) ≡ false → (eqb y x && is_front b w) ≡ false
        → (is_front w b ≡ false → is_front b w ≡ false → (is_front w (b ++ m) ≡ false) × (is_front (b ++ m) w ≡ false))
        → ((eqb x y && is_front w (b ++ m)) ≡ false) × ((eqb y x && is_front (b ++ m) w) ≡ false)
    by true true p q e' f' rest =
        let ih = rest (sym (ap (λ t. t && is_front w b) p) ∙ e') (sym (ap (λ t. t && is_front b w) q) ∙ f') in
        (ap (λ t. t && is_front w (b ++ m)) p ∙ ih.0, ap (λ t. t && is_front (b ++ m) w) q ∙ ih.1)
    by false false p q e' f' rest = (ap (λ t. t && is_front w (b ++ m)) p, ap (λ t. t && is_front (b ++ m) w) q)
    by true false p q e' f' rest = absurd (let same : x ≡ y = same-head x y p in grind (arith, nat_tests))
    by false true p q e' f' rest = absurd (let same : y ≡ x = same-head y x q in grind (arith, nat_tests))

pub begins-more : (bytes more : List ℕ) → begins bytes ≡ true → begins (bytes ++ more) ≡ true
begins-more bytes more e = front-more mark bytes more e

-- a client whose bytes are text stays so
pub plain-more : (bytes more : List ℕ) → begins bytes ≡ false → may_open bytes ≡ false → (begins (bytes ++ more) ≡ false) × (may_open (bytes ++ more) ≡ false)
plain-more bytes more e f =
    let other : is_front bytes mark ≡ false = sym (and-true (is_front bytes mark)) ∙ sym (ap (λ t. is_front bytes mark && not t) e) ∙ f in
    let both = apart-more mark bytes more e other in
    (both.0, ap (λ t. t && not (begins (bytes ++ more))) both.1)
  where
    and-true : (b : Bool) → (b && true) ≡ b
    and-true true = refl
    and-true false = refl

-- bytes that are too few to tell begin no head
pub undecided-no : (bytes : List ℕ) → may_open bytes ≡ true → begins bytes ≡ false
undecided-no bytes e = not-true (begins bytes) (and-right (is_front bytes mark) (not (begins bytes)) e)
  where
    not-true : (b : Bool) → not b ≡ true → b ≡ false
    not-true true q = absurd (false≢true q)
    not-true false q = refl
