-- Laws of the cursors of the listener and of all links.
use Rattle.std.proofs.Common.{◌≡◌, ℕ, zero, suc, ◌+◌, ◌<◌, ◌≤◌, inr, Bool, true, false, cond, eqb, List, [], ◌∷◌, ◌++◌, length, take, drop, refl, ap, sym, ◌∙◌, subst, arith, append_assoc, get_or, slice_get, Some, None}
use Rattle.std.specs.List.{position_or_len}
use Rattle.std.proofs.lemmas.Bool.Decides.{nat_tests}
use Rattle.std.proofs.lemmas.List.{take-append-drop, length-append, length-drop, take-append-le, drop-drop, append-nil}
use Rattle.std.proofs.Math.Seq.{take-add}
use Rattle.std.proofs.Math.ListN.{drop_of_length-le}
use Rattle.wc_scripted.specs.Plays.{IsNonce}
use Rattle.wc_scripted.specs.declared.cursors.Cursor.{Cursor}
use Rattle.wc_scripted.specs.declared.scripted.Scripted.{Scripted}
use Rattle.wc_scripted.specs.declared.scripted.Scripted.TheVariants.{Wake, Arrive, Stands, Gives, Ends}
use Rattle.wc_scripted.specs.Scripts.{nonces, nonce_of, listed, is_arrival}
use Rattle.wc_scripted.specs.Cursors.{at_start, cursor_at, IsPlaced, IsPlay, BeginsArrival}
use Rattle.wc_scripted.proofs.CursorLemmas.{placed_more}

-- an element after a list
pub get_or-pushed : {X : Type 0} (xs : List X) (y d : X) (i : ℕ) → get_or (xs ++ y ∷ []) i d ≡ cond (eqb i (length xs)) y (get_or xs i d)
get_or-pushed [] y d zero = refl
get_or-pushed [] y d (suc i) = grind (arith, nat_tests)
get_or-pushed (x ∷ xs) y d zero = grind (arith, nat_tests)
get_or-pushed (x ∷ xs) y d (suc i) = grind (arith, nat_tests, get_or-pushed xs y d i)

one_more : (n : ℕ) → 1 + n ≡ suc n
one_more n = omega arith

nonces-append : (xs ys : List Scripted) → nonces (xs ++ ys) ≡ nonces xs ++ nonces ys
nonces-append [] ys = refl
nonces-append (x ∷ xs) ys = ap (λ s. listed (nonce_of x) ++ s) (nonces-append xs ys) ∙ sym (append_assoc (listed (nonce_of x)) (nonces xs) (nonces ys))

none-nonces : (x : Scripted) → is_arrival x ≡ false → listed (nonce_of x) ≡ []
none-nonces (Wake m) h = refl
none-nonces (Arrive n) h = cc
none-nonces (Stands l) h = refl
none-nonces (Gives l b) h = refl
none-nonces (Ends l) h = refl

passed-nonces-by : (x : Scripted) (xs : List Scripted) (b : Bool) → is_arrival x ≡ b → nonces (take (position_or_len is_arrival xs) xs) ≡ [] → nonces (take (position_or_len is_arrival (x ∷ xs)) (x ∷ xs)) ≡ []
passed-nonces-by x xs true e h = rw e refl
passed-nonces-by x xs false e h = let n = none-nonces x e in rw (e, one_more) (rw (n, h) refl)

-- no arrival is before the first
passed-nonces : (xs : List Scripted) → nonces (take (position_or_len is_arrival xs) xs) ≡ []
passed-nonces [] = refl
passed-nonces (x ∷ xs) = passed-nonces-by x xs (is_arrival x) refl (passed-nonces xs)

-- what is released later
pub play_more : (xs more : List Scripted) (l k : ℕ) (cs : List Cursor) → IsPlay xs l k cs → IsPlay (xs ++ more) l k cs
play_more xs more l k cs p = record {
  all = p.all;
  within = (let h = p.within in omega (arith, length-append xs more));
  placed = λ link. placed_more link xs more (cursor_at link cs) (p.placed link);
}

-- the listener passes what is not for it
pub play_passed : (xs : List Scripted) (l k m : ℕ) (cs : List Cursor) → IsPlay xs l k cs → m ≡ position_or_len is_arrival (drop l xs) → m ≤ length (drop l xs) → IsPlay xs (l + m) k cs
play_passed xs l k m cs p e w = record {
  all = p.all;
  within = (let h = p.within in omega (arith, length-drop l xs));
  placed = p.placed;
}

-- and takes no arrival by that
pub arrived_same : (xs : List Scripted) (l m : ℕ) → m ≡ position_or_len is_arrival (drop l xs) → nonces (take (l + m) xs) ≡ nonces (take l xs)
arrived_same xs l m e =
    let none : nonces (take m (drop l xs)) ≡ [] = rw e (passed-nonces (drop l xs)) in
    rw (take-add l m xs, nonces-append (take l xs) (take m (drop l xs)), none) (append-nil (nonces (take l xs)))

-- what is released later is no arrival that was taken
pub arrived_more : (xs more : List Scripted) (l : ℕ) → l ≤ length xs → length (nonces (take l (xs ++ more))) ≡ length (nonces (take l xs))
arrived_more xs more l h = ap (λ s. length (nonces s)) (take-append-le l xs more h)

-- the listener passes an arrival
begins-one : (xs : List Scripted) → BeginsArrival xs → length (nonces (take 1 xs)) ≡ 1
begins-one [] h = absurd h
begins-one (Wake m ∷ xs) h = cc
begins-one (Arrive n ∷ xs) h = refl
begins-one (Stands l ∷ xs) h = cc
begins-one (Gives l b ∷ xs) h = cc
begins-one (Ends l ∷ xs) h = cc

pub begins-within : (xs : List Scripted) → BeginsArrival xs → 0 < length xs
begins-within [] h = absurd h
begins-within (x ∷ xs) h = omega arith

placed-pick : (xs : List Scripted) (b : Bool) (link : ℕ) (c d : Cursor) → (b ≡ true → IsPlaced xs link c) → IsPlaced xs link d → IsPlaced xs link (cond b c d)
placed-pick xs true link c d f g = f refl
placed-pick xs false link c d f g = g

pub play_arrived : (xs : List Scripted) (l k : ℕ) (cs : List Cursor) → IsPlay xs l k cs → BeginsArrival (drop l xs) → IsPlay xs (l + 1) k cs
play_arrived xs l k cs p b = record {
  all = p.all;
  within = (let h = p.within in let g = begins-within (drop l xs) b in omega (arith, length-drop l xs));
  placed = p.placed;
}

pub arrived_one : (xs : List Scripted) (l : ℕ) → BeginsArrival (drop l xs) → length (nonces (take (l + 1) xs)) ≡ length (nonces (take l xs)) + 1
arrived_one xs l b = rw (take-add l 1 xs, nonces-append (take l xs) (take 1 (drop l xs))) (let g = begins-one (drop l xs) b in omega (arith, length-append (nonces (take l xs)) (nonces (take 1 (drop l xs)))))

-- a link is made
pub play_admitted : (xs : List Scripted) (l k : ℕ) (cs : List Cursor) (c : Cursor) → IsPlay xs l k cs → IsPlaced xs k c → IsPlay xs l (k + 1) (cs ++ c ∷ [])
play_admitted xs l k cs c p q = record {
  all = (let h = p.all in omega (arith, length-append cs (c ∷ [])));
  within = p.within;
  placed = λ link. rw (get_or-pushed cs c at_start link) (placed-pick xs (eqb link (length cs)) link c (cursor_at link cs) (λ e. let same : k ≡ link = (let h = p.all in grind (arith, nat_tests)) in subst (λ n. IsPlaced xs n c) same q) (p.placed link));
}

begins-first-by : (x : Scripted) (xs : List Scripted) (b : Bool) → is_arrival x ≡ b → (position_or_len is_arrival xs < length xs → BeginsArrival (drop (position_or_len is_arrival xs) xs)) → position_or_len is_arrival (x ∷ xs) < length (x ∷ xs) → BeginsArrival (drop (position_or_len is_arrival (x ∷ xs)) (x ∷ xs))
begins-first-by x xs true e f h = rw e (rw e refl)
begins-first-by x xs false e f h = rw (e, one_more) (f (let g = rw (e, one_more) at h in omega arith))

-- the first arrival, where there is one
begins-first : (xs : List Scripted) → position_or_len is_arrival xs < length xs → BeginsArrival (drop (position_or_len is_arrival xs) xs)
begins-first [] h = absurd (omega arith)
begins-first (x ∷ xs) h = begins-first-by x xs (is_arrival x) refl (begins-first xs) h

-- the nonce of the next arrival is the first that no link has
nonce-first : (xs : List (List ℕ)) (n : List ℕ) (ys : List (List ℕ)) → slice_get (xs ++ n ∷ ys) (length xs) ≡ Some n
nonce-first [] n ys = refl
nonce-first (x ∷ xs) n ys = nonce-first xs n ys

nonce_first-by : (xs : List Scripted) (l used : ℕ) (x : Scripted) (rest : List Scripted) → drop l xs ≡ x ∷ rest → BeginsArrival (x ∷ rest) → IsNonce xs used (length (nonces (take l xs))) (nonce_of x)
nonce_first-by xs l used (Wake m) rest e b = cc
nonce_first-by xs l used (Arrive n) rest e b =
    let whole : nonces xs ≡ nonces (take l xs) ++ n ∷ nonces rest = ap nonces (sym (take-append-drop l xs)) ∙ nonces-append (take l xs) (drop l xs) ∙ ap (λ s. nonces (take l xs) ++ nonces s) e in
    rw whole (nonce-first (nonces (take l xs)) n (nonces rest))
nonce_first-by xs l used (Stands o) rest e b = cc
nonce_first-by xs l used (Gives o bs) rest e b = cc
nonce_first-by xs l used (Ends o) rest e b = cc

-- where a step is at the place of the listener, it is an arrival
begins-read : (xs : List Scripted) (x : Scripted) (rest : List Scripted) (m : ℕ) → m ≡ position_or_len is_arrival xs → drop m xs ≡ x ∷ rest → BeginsArrival (x ∷ rest)
begins-read xs x rest m e d = subst BeginsArrival d (rw e (begins-first xs (rw (sym e) (let size = ap length d in omega (arith, length-drop m xs)))))

-- the step at the place of the listener, after it passed what is not for it
pub nonce_next : (xs : List Scripted) (l used m : ℕ) (x : Scripted) (rest : List Scripted) → m ≡ position_or_len is_arrival (drop l xs) → drop (l + m) xs ≡ x ∷ rest → IsNonce xs used (length (nonces (take l xs))) (nonce_of x) × BeginsArrival (drop (l + m) xs)
nonce_next xs l used m x rest e d =
    let begins = begins-read (drop l xs) x rest m e (drop-drop m l xs ∙ d) in
    (rw (sym (arrived_same xs l m e)) (nonce_first-by xs (l + m) used x rest d begins), rw d begins)

pub nonce_none : (xs : List Scripted) (l m used : ℕ) → m ≡ position_or_len is_arrival (drop l xs) → length xs ≤ l + m → IsNonce xs used (length (nonces (take l xs))) None
nonce_none xs l m used e h =
    let none = drop_of_length-le xs h in
    let same = ap length (arrived_same xs l m e) in
    let whole : nonces xs ≡ nonces (take (l + m) xs) ++ [] = ap nonces (sym (take-append-drop (l + m) xs)) ∙ nonces-append (take (l + m) xs) (drop (l + m) xs) ∙ ap (λ s. nonces (take (l + m) xs) ++ nonces s) none in
    inr (rw whole (omega (arith, length-append (nonces (take (l + m) xs)) [])))
