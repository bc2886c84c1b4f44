-- Where a row is among rows in order, and what the edits do there.
use Rattle.std.proofs.Common.{◌≡◌, ℕ, zero, suc, ◌+◌, ◌<◌, true, false, Option, Some, None, List, [], ◌∷◌, ◌++◌, length, take, drop, get_or, refl, sym, ap, ◌∙◌, subst, arith, add-one}
use Rattle.std.specs.Prelude.{slice_get, IsSomeAnd}
use Rattle.std.specs.Prelude.{nat_lt}
use Rattle.std.proofs.lemmas.Bool.{true≢false}
use borrow.Author.Tests.{ltb-true}
use Rattle.wc_nicklist.specs.declared.item.Key.{Key}
use Rattle.wc_nicklist.specs.declared.item.Row.{Row}
use Rattle.wc_nicklist.specs.Order.{key, address, is_before, before}
use Rattle.wc_nicklist.specs.Rows.{key_eq, find_row, insert_row, remove_row, AllAfter, Ascending, Keyed}
use Rattle.wc_nicklist.specs.Stored.{AllBefore, FirstNotBefore, IsSplitAt}
use Rattle.wc_nicklist.proofs.OrderLaws.{by_bool, before_chain_at, before_is, before_itself, before_one_way, before_other, key_eq-true, key_eq-same}
use Rattle.wc_nicklist.proofs.RowLaws.{after_found, key_eq-at}

-- one step of a search
after_at : (x y : Row) (ys : List Row) (m : ℕ) → AllAfter x ys → m < length ys → y ≡ get_or ys m y → before x y ≡ true
after_at x y [] m h l e = absurd (omega arith)
after_at x y (z ∷ zs) zero h l e = ap (before x) e ∙ h.0
after_at x y (z ∷ zs) (suc m) h l e = after_at x y zs m h.1 (omega arith) e

pub left_grows : (rows : List Row) (a : List Key) (m : ℕ) (x : Row) → Ascending rows → m < length rows → x ≡ get_or rows m x → is_before x a ≡ true → AllBefore (take (m + 1) rows) a
left_grows rows a m x h l e b = subst (λ n. AllBefore (take n rows) a) (sym (add-one m)) (go rows m h l e)
  where
    go : (rs : List Row) (n : ℕ) → Ascending rs → n < length rs → x ≡ get_or rs n x → AllBefore (take (suc n) rs) a
    go [] n h l e = absurd (omega arith)
    go (y ∷ ys) zero h l e = (ap (λ z. is_before z a) (sym e) ∙ b, tt)
    go (y ∷ ys) (suc n) h l e = (before_chain_at y x a (after_at y x ys n h.0 (omega arith) e) b, go ys n h.1 (omega arith) e)

-- what is found in two lists, one after the other
pub or_row : Option Row → Option Row → Option Row
or_row None b = b
or_row (Some r) b = Some r

pub find-append : (q : Key) (xs ys : List Row) → find_row q (xs ++ ys) ≡ or_row (find_row q xs) (find_row q ys)
unfolding or_row
find-append q [] ys = refl
find-append q (x ∷ xs) ys = by_bool (key_eq (key x) q) _ (λ t. rw t refl) (λ t. rw t (find-append q xs ys))

before_found : (a : List Row) (at : List Key) (k : Key) (r : Row) → AllBefore a at → find_row k a ≡ Some r → is_before r at ≡ true
before_found [] at k r h e = absurd cc
before_found (x ∷ xs) at k r h e = by_bool (key_eq (key x) k) _
    (λ t. let i : Some x ≡ Some r = rw t at e in let j : x ≡ r = cc in ap (λ z. is_before z at) (sym j) ∙ h.0)
    (λ t. before_found xs at k r h.1 (rw t at e))

ascending_right : (a ys : List Row) → Ascending (a ++ ys) → Ascending ys
ascending_right [] ys h = h
ascending_right (x ∷ xs) ys h = ascending_right xs ys h.1

-- the row of an address is at its place
first_is : (b : List Row) (at : List Key) (k : Key) (r : Row) → Ascending b → FirstNotBefore b at → find_row k b ≡ Some r → is_before r at ≡ false → address r ≡ at → (rest : List Row) × (b ≡ r ∷ rest)
first_is [] at k r h f e n i = absurd cc
first_is (y ∷ ys) at k r h f e n i = by_bool (key_eq (key y) k) _
    (λ t. let j : Some y ≡ Some r = rw t at e in let same : y ≡ r = cc in (ys, (λ z. same z ∷ ys)))
    (λ t. absurd (true≢false (sym (sym (before_is y r) ∙ after_found y k ys r h.0 (rw t at e)) ∙ ap (is_before y) i ∙ f)))

-- a row that is found is not before itself, so it is the first of those that come after the place
pub found_place : (a b : List Row) (at : List Key) (k : Key) (r : Row) → Ascending (a ++ b) → AllBefore a at → FirstNotBefore b at → find_row k (a ++ b) ≡ Some r → address r ≡ at → (rest : List Row) × (b ≡ r ∷ rest)
unfolding or_row
found_place a b at k r h l f e i =
    let own : is_before r at ≡ false = ap (is_before r) (sym i) ∙ sym (before_is r r) ∙ before_itself r in
    let parts = sym (find-append k a b) ∙ e in
    go own (find_row k a) refl parts
  where
    go : is_before r at ≡ false → (o : Option Row) → find_row k a ≡ o → or_row o (find_row k b) ≡ Some r → (rest : List Row) × (b ≡ r ∷ rest)
    go own None n p = first_is b at k r (ascending_right a b h) f p own i
    go own (Some x) n p = let same : x ≡ r = cc in absurd (true≢false (sym (before_found a at k x l n) ∙ ap (λ z. is_before z at) same ∙ own))

-- the edits at a place
pub insert_place : (a b : List Row) (r : Row) → AllBefore a (address r) → FirstNotBefore b (address r) → find_row (key r) (a ++ b) ≡ None → insert_row r (a ++ b) ≡ a ++ r ∷ b
insert_place [] [] r l f n = refl
insert_place [] (y ∷ ys) r l f n =
    let other : key r ≡ key y → ⊥ = λ e. let t = key_eq-at (key y) (key r) (sym e) in let i : Some y ≡ None = rw t at n in cc in
    let b : before r y ≡ true = before_other y r (before_is y r ∙ f) (λ e. other (sym e)) in
    rw b refl
insert_place (x ∷ xs) b r l f n =
    let w : before r x ≡ false = before_one_way x r (before_is x r ∙ l.0) in
    by_bool (key_eq (key x) (key r)) _
    (λ t. absurd (let i : Some x ≡ None = rw t at n in cc))
    (λ t. rw w (ap (λ rows. x ∷ rows) (insert_place xs b r l.1 f (rw t at n))))

pub absent_removed : (k : Key) (rows : List Row) → find_row k rows ≡ None → remove_row k rows ≡ rows
absent_removed k [] e = refl
absent_removed k (x ∷ xs) e = by_bool (key_eq (key x) k) _
    (λ t. absurd (let i : Some x ≡ None = rw t at e in cc))
    (λ t. rw t (ap (λ rows. x ∷ rows) (absent_removed k xs (rw t at e))))

-- a key that comes after is not the one in front
other_key : (x r : Row) (xs b : List Row) → Keyed (x ∷ (xs ++ r ∷ b)) → key_eq (key x) (key r) ≡ false
other_key x r xs b h = by_bool (key_eq (key x) (key r)) _
    (λ t. absurd (none xs (let n = h.0 in ap (λ k. find_row k (xs ++ r ∷ b)) (sym (key_eq-true _ _ t)) ∙ n)))
    (λ t. t)
  where
    none : (ys : List Row) → find_row (key r) (ys ++ r ∷ b) ≡ None → ⊥
    none [] n = let t = key_eq-same (key r) in let i : Some r ≡ None = rw t at n in cc
    none (y ∷ ys) n = by_bool (key_eq (key y) (key r)) _
        (λ t. let i : Some y ≡ None = rw t at n in cc)
        (λ t. none ys (rw t at n))

pub remove_place : (a b : List Row) (r : Row) → Keyed (a ++ r ∷ b) → remove_row (key r) (a ++ r ∷ b) ≡ a ++ b
remove_place [] b r h = rw (key_eq-same (key r)) (absent_removed (key r) b h.0)
remove_place (x ∷ xs) b r h = rw (other_key x r xs b h) (ap (λ rows. x ∷ rows) (remove_place xs b r h.1))

pub find_place : (a b : List Row) (r : Row) → Keyed (a ++ r ∷ b) → find_row (key r) (a ++ r ∷ b) ≡ Some r
find_place [] b r h = rw (key_eq-same (key r)) refl
find_place (x ∷ xs) b r h = rw (other_key x r xs b h) (find_place xs b r h.1)

pub split_at : {A : Type 0} (xs : List A) (n : ℕ) (x : A) (rest : List A) → drop n xs ≡ x ∷ rest → IsSplitAt xs n x rest
split_at [] zero x rest e = absurd cc
split_at [] (suc n) x rest e = absurd cc
split_at (y ∷ ys) zero x rest e =
    let first : y ≡ x = cc in
    let others : ys ≡ rest = cc in
    record {
      within = omega arith;
      value = λ d. first;
      got = ap Some first;
      following = others;
      whole = e;
      written = λ z. ap (λ l. z ∷ l) others;
    }
split_at (y ∷ ys) (suc n) x rest e =
    let s = split_at ys n x rest e in
    record {
      within = omega (arith, s.within);
      value = s.value;
      got = s.got;
      following = s.following;
      whole = ap (λ l. y ∷ l) s.whole;
      written = λ z. ap (λ l. y ∷ l) (s.written z);
    }

pub drop_of_get : {A : Type 0} (xs : List A) (n : ℕ) (x : A) → slice_get xs n ≡ Some x → drop n xs ≡ x ∷ drop (suc n) xs
drop_of_get [] n x e = absurd cc
drop_of_get (y ∷ ys) zero x e = let i : y ≡ x = cc in ap (λ z. z ∷ ys) i
drop_of_get (y ∷ ys) (suc n) x e = drop_of_get ys n x e

-- what a look-up by index tells
pub got_some : {A : Type 0} (xs : List A) (n : ℕ) (x : A) → true ≡ nat_lt n (length xs) → x ≡ get_or xs n x → slice_get xs n ≡ Some x
got_some {A} xs n x t e = go xs n (ltb-true n (length xs) (sym t)) e
  where
    go : (ys : List A) (m : ℕ) → m < length ys → x ≡ get_or ys m x → slice_get ys m ≡ Some x
    go [] m h e = absurd (omega arith)
    go (y ∷ ys) zero h e = ap Some (sym e)
    go (y ∷ ys) (suc m) h e = go ys m (omega arith) e

pub some_and : {A : Type 0} {P : A → Type 0} (o : Option A) → IsSomeAnd o P → (x : A) × (o ≡ Some x) × P x
some_and None h = absurd h
some_and (Some x) h = (x, refl, h)
