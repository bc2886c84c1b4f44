-- The touches of several buffers.
use Rattle.std.proofs.Common.{◌≡◌, ℕ, zero, suc, ◌+◌, ◌<◌, ◌≤◌, Bool, true, false, cond, not, ◌==◌, Option, Some, None, List, [], ◌∷◌, ◌++◌, length, get_or, set, refl, sym, ap, ◌∙◌, arith}
use Rattle.std.specs.Prelude.{filter, nat_lt}
use Rattle.std.specs.List.{position, position_or_len}
use Rattle.std.proofs.lemmas.Bool.{true≢false, eqb-true}
use Rattle.std.proofs.lemmas.Bool.Decides.{nat_tests}
use Rattle.std.proofs.lemmas.List.Quantifiers.{position-Some}
use Rattle.std.proofs.lemmas.List.Sums.{fails_before_first}
use Rattle.wc_text.specs.declared.names.Handle.{Handle}
use Rattle.wc_nicklist.proofs.OrderLaws.{by_bool}
use Rattle.wc_nickdiff.specs.declared.diff_item.FirstTouch.{FirstTouch}
use Rattle.wc_nicklist.specs.declared.item.Key.{Key}
use Rattle.wc_nicklist.specs.declared.item.Row.{Row}
use Rattle.wc_nicklist.specs.Touched.{first_touch}
use Rattle.wc_nickdiff.specs.Held.{OfBuffer, touches_of, with_touch, before_at}
use Rattle.wc_nickdiff.proofs.Touches.{before_touched}

-- those of a buffer that is left out
pub of_others : (h : Handle) (xs : List OfBuffer) (b : Handle) → touches_of b (filter (λ x. not (x.buffer.0 == h.0)) xs) ≡ cond (h.0 == b.0) [] (touches_of b xs)
of_others h [] b = elim (h.0 == b.0) as (λ c. [] ≡ cond {A = List FirstTouch} c [] []) [ true ↦ refl | false ↦ refl ]
of_others h (x ∷ xs) b =
    let more = of_others h xs b in
    by_bool (x.buffer.0 == h.0) _
    (λ t. rw (t, more) (by_bool (h.0 == b.0) _
    (λ s. rw s refl)
    (λ s. let w : (x.buffer.0 == b.0) ≡ false = ap (λ n. n == b.0) (eqb-true x.buffer.0 h.0 t) ∙ s in rw (s, w) refl)))
    (λ t. rw (t, more) (by_bool (x.buffer.0 == b.0) _
    (λ s. let w : (h.0 == b.0) ≡ false = grind (arith, nat_tests) in rw (s, w) refl)
    (λ s. rw s refl)))

-- those of the buffer at a place
pub of_place : (b : Handle) (xs : List OfBuffer) (n : ℕ) (d : OfBuffer) → n < length xs → d ≡ get_or xs n d → (d.buffer.0 == b.0) ≡ true → ((k : ℕ) → k < n → (get_or xs k d).buffer.0 == b.0 ≡ false) → d.touches ≡ touches_of b xs
of_place b [] n d l e t h = absurd (omega arith)
of_place b (x ∷ xs) zero d l e t h =
    let s : (x.buffer.0 == b.0) ≡ true = ap (λ z. z.buffer.0 == b.0) (sym e) ∙ t in
    rw s (ap (λ z. z.touches) e)
of_place b (x ∷ xs) (suc n) d l e t h =
    let s : (x.buffer.0 == b.0) ≡ false = h 0 (omega arith) in
    rw s (of_place b xs n d (omega arith) e t (λ k i. h (suc k) (omega arith)))

pub of_none : (b : Handle) (xs : List OfBuffer) → ((k : ℕ) (d : OfBuffer) → k < length xs → (get_or xs k d).buffer.0 == b.0 ≡ false) → touches_of b xs ≡ []
of_none b [] h = refl
of_none b (x ∷ xs) h =
    let s : (x.buffer.0 == b.0) ≡ false = h 0 x (omega arith) in
    rw s (of_none b xs (λ k d i. h (suc k) d (omega arith)))

-- where no place is found
none_passes : (p : OfBuffer → Bool) (xs : List OfBuffer) → position p xs ≡ None → length xs ≤ position_or_len p xs
none_passes p xs e = by_bool (nat_lt (position_or_len p xs) (length xs)) _
    (λ t. absurd (let i : Some (position_or_len p xs) ≡ None = rw t at e in cc))
    (λ t. grind (arith, nat_tests))

pub others : (b : Handle) (xs : List OfBuffer) → position (λ x. x.buffer.0 == b.0) xs ≡ None → (k : ℕ) (d : OfBuffer) → k < length xs → ((get_or xs k d).buffer.0 == b.0) ≡ false
others b xs e k d l =
    let m = none_passes (λ x. x.buffer.0 == b.0) xs e in
    fails_before_first (λ x. x.buffer.0 == b.0) xs k d (omega arith)

pub of_absent : (b : Handle) (xs : List OfBuffer) → position (λ x. x.buffer.0 == b.0) xs ≡ None → touches_of b xs ≡ []
of_absent b xs e = of_none b xs (others b xs e)

-- where one is found
pub found_within : (b : Handle) (xs : List OfBuffer) (n : ℕ) (d : OfBuffer) → position (λ x. x.buffer.0 == b.0) xs ≡ Some n → n < length xs
found_within b xs n d e = (position-Some (λ x. x.buffer.0 == b.0) xs n d e).0

pub of_found : (b : Handle) (xs : List OfBuffer) (n : ℕ) (d : OfBuffer) → position (λ x. x.buffer.0 == b.0) xs ≡ Some n → d ≡ get_or xs n d → d.touches ≡ touches_of b xs
of_found b xs n d e g =
    let s = position-Some (λ x. x.buffer.0 == b.0) xs n d e in
    of_place b xs n d s.0 g (ap (λ z. z.buffer.0 == b.0) g ∙ s.1) s.2

-- those after a touch of the buffer at a place
pub of_written : (h : Handle) (xs : List OfBuffer) (n : ℕ) (d y : OfBuffer) → n < length xs → d ≡ get_or xs n d → (d.buffer.0 == h.0) ≡ true → y.buffer ≡ d.buffer → ((k : ℕ) → k < n → (get_or xs k d).buffer.0 == h.0 ≡ false)
    → (b : Handle) → touches_of b (set xs n y) ≡ cond (h.0 == b.0) y.touches (touches_of b xs)
of_written h [] n d y l e t same before b = absurd (omega arith)
of_written h (x ∷ xs) zero d y l e t same before b = by_bool (h.0 == b.0) _
    (λ s.
    let u : (y.buffer.0 == b.0) ≡ true = ap (λ (z : Handle). z.0 == b.0) same ∙ ap (λ n. n == b.0) (eqb-true d.buffer.0 h.0 t) ∙ s in
    rw (s, u) refl)
    (λ s.
    let u : (y.buffer.0 == b.0) ≡ false = ap (λ (z : Handle). z.0 == b.0) same ∙ ap (λ n. n == b.0) (eqb-true d.buffer.0 h.0 t) ∙ s in
    let v : (x.buffer.0 == b.0) ≡ false = ap (λ z. z.buffer.0 == b.0) (sym e) ∙ ap (λ n. n == b.0) (eqb-true d.buffer.0 h.0 t) ∙ s in
    rw (s, u, v) refl)
of_written h (x ∷ xs) (suc n) d y l e t same before b =
    let more = of_written h xs n d y (omega arith) e t same (λ k i. before (suc k) (omega arith)) b in
    let s : (x.buffer.0 == h.0) ≡ false = before 0 (omega arith) in
    by_bool (x.buffer.0 == b.0) _
    (λ v. let w : (h.0 == b.0) ≡ false = grind (arith, nat_tests) in rw (v, w) refl)
    (λ v. rw v more)

-- those after the first touch of a buffer
pub of_pushed : (h : Handle) (xs : List OfBuffer) (y : OfBuffer) → y.buffer ≡ h → touches_of h xs ≡ [] → ((k : ℕ) (d : OfBuffer) → k < length xs → (get_or xs k d).buffer.0 == h.0 ≡ false)
    → (b : Handle) → touches_of b (xs ++ y ∷ []) ≡ cond (h.0 == b.0) y.touches (touches_of b xs)
of_pushed h [] y same none other b = by_bool (h.0 == b.0) _
    (λ s. let u : (y.buffer.0 == b.0) ≡ true = ap (λ (z : Handle). z.0 == b.0) same ∙ s in rw (s, u) refl)
    (λ s. let u : (y.buffer.0 == b.0) ≡ false = ap (λ (z : Handle). z.0 == b.0) same ∙ s in rw (s, u) refl)
of_pushed h (x ∷ xs) y same none other b =
    let s : (x.buffer.0 == h.0) ≡ false = other 0 x (omega arith) in
    let more = of_pushed h xs y same (of_none h xs (λ k d i. other (suc k) d (omega arith))) (λ k d i. other (suc k) d (omega arith)) b in
    by_bool (x.buffer.0 == b.0) _
    (λ v. let w : (h.0 == b.0) ≡ false = grind (arith, nat_tests) in rw (v, w) refl)
    (λ v. rw v more)

-- a touch of a buffer that had none, and of one that had some
same_handle : (h b : Handle) → (h.0 == b.0) ≡ true → h ≡ b
same_handle h b t = λ i. record { 0 = eqb-true h.0 b.0 t i }

pub note_first : (h : Handle) (k : Key) (row : Option Row) (xs : List OfBuffer) (fresh y : OfBuffer) → position (λ x. x.buffer.0 == h.0) xs ≡ None → fresh ≡ record { buffer = h; touches = [] } → y ≡ record { buffer = fresh.buffer; touches = with_touch k row fresh.touches }
    → (b : Handle) → touches_of b (xs ++ y ∷ []) ≡ cond (h.0 == b.0) (with_touch k row (touches_of b xs)) (touches_of b xs)
note_first h k row xs fresh y absent none is b =
    let whole : y ≡ record { buffer = h; touches = with_touch k row [] } = is ∙ ap (λ (z : OfBuffer). record { buffer = z.buffer; touches = with_touch k row z.touches }) none in
    let nothing : touches_of h xs ≡ [] = of_absent h xs absent in
    of_pushed h xs y (ap (λ z. z.buffer) whole) nothing (others h xs absent) b ∙ by_bool (h.0 == b.0) _
    (λ t. rw t (ap (λ z. z.touches) whole ∙ ap (with_touch k row) (sym nothing ∙ ap (λ z. touches_of z xs) (same_handle h b t))))
    (λ t. rw t refl)

pub note_again : (h : Handle) (k : Key) (row : Option Row) (xs : List OfBuffer) (n : ℕ) (d y : OfBuffer) → position (λ x. x.buffer.0 == h.0) xs ≡ Some n → d ≡ get_or xs n d → y ≡ record { buffer = d.buffer; touches = with_touch k row d.touches }
    → (b : Handle) → touches_of b (set xs n y) ≡ cond (h.0 == b.0) (with_touch k row (touches_of b xs)) (touches_of b xs)
note_again h k row xs n d y there at is b =
    let s = position-Some (λ x. x.buffer.0 == h.0) xs n d there in
    of_written h xs n d y s.0 at (ap (λ z. z.buffer.0 == h.0) at ∙ s.1) (ap (λ z. z.buffer) is) s.2 b ∙ by_bool (h.0 == b.0) _
    (λ t. rw t (ap (λ z. z.touches) is ∙ ap (with_touch k row) (of_found h xs n d there at ∙ ap (λ z. touches_of z xs) (same_handle h b t))))
    (λ t. rw t refl)

-- what was at the first touches then
pub noted : (h : Handle) (k : Key) (row : Option Row) (old new : List OfBuffer) → ((b : Handle) → touches_of b new ≡ cond (h.0 == b.0) (with_touch k row (touches_of b old)) (touches_of b old))
    → (b : Handle) (q : Key) → before_at q (touches_of b new) ≡ first_touch h k row (λ z j. before_at j (touches_of z old)) b q
noted h k row old new e b q = ap (before_at q) (e b) ∙ by_bool (h.0 == b.0) _
    (λ t. rw t (before_touched k row (touches_of b old) q))
    (λ t. rw t refl)
