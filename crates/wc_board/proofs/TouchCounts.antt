-- How many of some buffers were touched.
use Rattle.std.proofs.Common.{◌≡◌, ℕ, zero, suc, ◌+◌, Bool, true, not, eqb, ltb, List, [], ◌∷◌, ◌++◌, ap, sym, ◌∙◌, arith}
use Rattle.std.proofs.lemmas.Bool.{eq-eqb, ne_eqb, lt-ltb}
use Rattle.wc_nickdiff.specs.Held.{OfBuffer}
use Rattle.wc_board.specs.Pushes.{is_touched, touched_number}
use Rattle.wc_hooks.proofs.Lists.{by_bool, count_first, count_rest}

-- of the first of them and of the others
pub touched_first : (pending : List OfBuffer) (b : ℕ) (rest : List ℕ) → touched_number pending (b ∷ rest) ≡ touched_number pending (b ∷ []) + touched_number pending rest
touched_first pending b rest =
    let touched : ℕ → Bool = λ n. is_touched pending n in
    by_bool (is_touched pending b)
    (λ t. let one = count_first touched b [] t in let all = count_first touched b rest t in omega (arith, one, all))
    (λ f. let one = count_rest touched b [] f in let all = count_rest touched b rest f in omega (arith, one, all))

-- of some and of others
pub touched_more : (pending : List OfBuffer) (xs ys : List ℕ) → touched_number pending (xs ++ ys) ≡ touched_number pending xs + touched_number pending ys
touched_more pending [] ys = omega arith
touched_more pending (x ∷ xs) ys =
    let all = touched_first pending x (xs ++ ys) in
    let front = touched_first pending x xs in
    let more = touched_more pending xs ys in
    omega (arith, all, front, more)

pub touched_one : (pending : List OfBuffer) (b : ℕ) → is_touched pending b ≡ true → touched_number pending (b ∷ []) ≡ 1
touched_one pending b is = let one = count_first (λ n. is_touched pending n) b [] is in omega (arith, one)

-- a count is not 0 exactly where it is above 0
pub some_test : (n m : ℕ) → n ≡ m → not (eqb n 0) ≡ ltb 0 m
some_test n zero e = ap not (eq-eqb n 0 e)
some_test n (suc m) e = ap not (ne_eqb n 0 (λ none. omega (arith, e, none))) ∙ sym (lt-ltb 0 (suc m) (omega arith))
