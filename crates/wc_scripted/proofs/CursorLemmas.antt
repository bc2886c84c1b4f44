-- Laws of the steps that a link's cursor passes.
use Rattle.std.proofs.Common.{◌≡◌, ℕ, zero, suc, ◌+◌, ◌<◌, ◌≤◌, Bool, true, false, ◌||◌, cond, List, [], ◌∷◌, ◌++◌, length, take, drop, map, refl, ap, sym, ◌∙◌, subst, arith, IsTrue, append_assoc, nat_lt, nat_eq, eqb, add-zero, append-nil, Option, Some, None, get_or, min, inl}
use Rattle.std.specs.Prelude.{unwrap_or}
use Rattle.std.specs.List.{list_any, position_or_len}
use Rattle.std.proofs.lemmas.Bool.Decides.{nat_tests}
use Rattle.std.proofs.lemmas.Grind.{common_steps}
use Rattle.std.proofs.lemmas.List.{take-append-drop, length-append, length-drop, drop-append-le, take-append-le, length-take-le, take_all, drop-drop, length-map, take-map, drop-map}
use Rattle.std.proofs.lemmas.List.Folds.{list_any-append}
use Rattle.std.proofs.Math.Seq.{drop-append-add, take-add}
use Rattle.wc_scripted.specs.declared.cursors.Cursor.{Cursor}
use Rattle.wc_scripted.specs.declared.scripted.Scripted.{Scripted}
use Rattle.wc_scripted.specs.declared.scripted.Scripted.TheVariants.{Wake, Arrive, Stands, Gives, Ends}
use Rattle.wc_scripted.specs.Scripts.{due, has_end, is_end, is_for, due_of}
use Rattle.wc_scripted.specs.Cursors.{at_start, given_at, IsPlaced, BeginsFor, front_due}
use Rattle.wc_scripted.specs.Plays.{left, IsFound, stands_next}
use Rattle.wc_outside.specs.declared.sockets.Got.TheVariants.{Bytes, End, NotYet}
use Rattle.wc_text.specs.declared.names.LinkId.{LinkId}

one_more : (n : ℕ) → 1 + n ≡ suc n
one_more n = omega arith

-- the first place, or the length where there is none
pub first_or_all : (p n : ℕ) (r : Option ℕ) → p ≤ n → r ≡ cond (nat_lt p n) (Some p) None → unwrap_or r n ≡ p
first_or_all p n r within e = grind (arith, nat_tests)

-- what steps give that do not end the link, and then further ones
pub due-append : (link : ℕ) (xs ys : List Scripted) → has_end link xs ≡ false → due link (xs ++ ys) ≡ due link xs ++ due link ys
due-append link [] ys h = refl
due-append link (x ∷ xs) ys h = grind (arith, common_steps, due-append link xs ys, append_assoc)

-- steps of which none is for a link
pub none-due : (link : ℕ) (x : Scripted) → is_for link x ≡ false → due_of link x ≡ []
none-due link (Wake m) h = refl
none-due link (Arrive n) h = refl
none-due link (Stands other) h = rw h refl
none-due link (Gives other []) h = grind (arith, common_steps)
none-due link (Gives other (b ∷ bs)) h = grind (arith, common_steps)
none-due link (Ends other) h = refl

pub none-ends : (link : ℕ) (x : Scripted) → is_for link x ≡ false → is_end link x ≡ false
none-ends link (Wake m) h = refl
none-ends link (Arrive n) h = refl
none-ends link (Stands other) h = refl
none-ends link (Gives other bs) h = refl
none-ends link (Ends other) h = h

-- the steps before the first that is for a link
passed-due-by : (link : ℕ) (x : Scripted) (xs : List Scripted) (b : Bool) → is_for link x ≡ b → due link (take (position_or_len (is_for link) xs) xs) ≡ [] → due link (take (position_or_len (is_for link) (x ∷ xs)) (x ∷ xs)) ≡ []
passed-due-by link x xs true e h = rw e refl
passed-due-by link x xs false e h = let n = none-due link x e in let m = none-ends link x e in rw (e, one_more) (rw (m, n, h) refl)

pub passed-due : (link : ℕ) (xs : List Scripted) → due link (take (position_or_len (is_for link) xs) xs) ≡ []
passed-due link [] = refl
passed-due link (x ∷ xs) = passed-due-by link x xs (is_for link x) refl (passed-due link xs)

passed-end-by : (link : ℕ) (x : Scripted) (xs : List Scripted) (b : Bool) → is_for link x ≡ b → has_end link (take (position_or_len (is_for link) xs) xs) ≡ false → has_end link (take (position_or_len (is_for link) (x ∷ xs)) (x ∷ xs)) ≡ false
passed-end-by link x xs true e h = rw e refl
passed-end-by link x xs false e h = let m = none-ends link x e in rw (e, one_more) (rw (m, h) refl)

pub passed-end : (link : ℕ) (xs : List Scripted) → has_end link (take (position_or_len (is_for link) xs) xs) ≡ false
passed-end link [] = refl
passed-end link (x ∷ xs) = passed-end-by link x xs (is_for link x) refl (passed-end link xs)

begins-by : (link : ℕ) (x : Scripted) (xs : List Scripted) (b : Bool) → is_for link x ≡ b → BeginsFor link (drop (position_or_len (is_for link) xs) xs) → BeginsFor link (drop (position_or_len (is_for link) (x ∷ xs)) (x ∷ xs))
begins-by link x xs true e h = rw e (rw e refl)
begins-by link x xs false e h = rw (e, one_more) h

pub passed-begins : (link : ℕ) (xs : List Scripted) → BeginsFor link (drop (position_or_len (is_for link) xs) xs)
passed-begins link [] = tt
passed-begins link (x ∷ xs) = begins-by link x xs (is_for link x) refl (passed-begins link xs)

-- whether a step is for the link: one is exactly where the first is not past the end
found-by : (link : ℕ) (x : Scripted) (xs : List Scripted) (b : Bool) → is_for link x ≡ b → nat_lt (position_or_len (is_for link) xs) (length xs) ≡ list_any (is_for link) xs → nat_lt (position_or_len (is_for link) (x ∷ xs)) (length (x ∷ xs)) ≡ list_any (is_for link) (x ∷ xs)
found-by link x xs true e h = rw e (grind (arith, nat_tests))
found-by link x xs false e h = rw e (grind (arith, nat_tests))

pub passed-found : (link : ℕ) (xs : List Scripted) → nat_lt (position_or_len (is_for link) xs) (length xs) ≡ list_any (is_for link) xs
passed-found link [] = refl
passed-found link (x ∷ xs) = found-by link x xs (is_for link x) refl (passed-found link xs)

-- where the first step has something for the link, none is passed
pub passed-none : (link : ℕ) (xs : List Scripted) → 0 < length (front_due link xs) → position_or_len (is_for link) xs ≡ 0
passed-none link [] h = refl
passed-none link (Wake m ∷ xs) h = absurd (omega arith)
passed-none link (Arrive n ∷ xs) h = absurd (omega arith)
passed-none link (Stands other ∷ xs) h = grind (arith, common_steps)
passed-none link (Gives other [] ∷ xs) h = grind (arith, common_steps)
passed-none link (Gives other (b ∷ bs) ∷ xs) h = grind (arith, common_steps)
passed-none link (Ends other ∷ xs) h = absurd (omega arith)

-- what is left, and whether it ends, is what the steps from the cursor on have
pub left_from : (link : ℕ) (xs : List Scripted) (cursor : Cursor) → IsPlaced xs link cursor → left xs link (given_at xs link cursor) ≡ drop cursor.given (due link (drop cursor.step xs))
left_from link xs cursor p =
    let whole = ap (λ s. drop (length (due link (take cursor.step xs)) + cursor.given) (due link s)) (sym (take-append-drop cursor.step xs)) in
    let parts = ap (λ s. drop (length (due link (take cursor.step xs)) + cursor.given) s) (due-append link (take cursor.step xs) (drop cursor.step xs) p.goes) in
    whole ∙ parts ∙ drop-append-add (due link (take cursor.step xs)) (due link (drop cursor.step xs)) cursor.given

pub end_from : (link : ℕ) (xs : List Scripted) (cursor : Cursor) → IsPlaced xs link cursor → has_end link xs ≡ has_end link (drop cursor.step xs)
end_from link xs cursor p =
    let whole = ap (λ s. has_end link s) (sym (take-append-drop cursor.step xs)) in
    let parts = list_any-append (is_end link) (take cursor.step xs) (drop cursor.step xs) in
    whole ∙ parts ∙ ap (λ b. b || has_end link (drop cursor.step xs)) p.goes

-- a cursor after it passed steps that are not for its link
pub seek-placed : (link : ℕ) (xs : List Scripted) (cursor : Cursor) (n : ℕ) → IsPlaced xs link cursor → n ≡ position_or_len (is_for link) (drop cursor.step xs) → cursor.step + n ≤ length xs → IsPlaced xs link (record cursor { step = cursor.step + n })
seek-placed link xs cursor n p e w = record {
  within = w;
  goes = rw (take-add cursor.step n xs) (list_any-append (is_end link) (take cursor.step xs) (take n (drop cursor.step xs)) ∙ ap (λ b. b || has_end link (take n (drop cursor.step xs))) p.goes ∙ rw e (passed-end link (drop cursor.step xs)));
  fits = λ g. let stays : n ≡ 0 = e ∙ passed-none link (drop cursor.step xs) (let h = p.fits g in omega arith) in
      subst (λ m. cursor.given < length (front_due link (drop (cursor.step + m) xs))) (sym stays) (rw add-zero (p.fits g));
}

pub seek-given : (link : ℕ) (xs : List Scripted) (cursor : Cursor) (n : ℕ) → IsPlaced xs link cursor → n ≡ position_or_len (is_for link) (drop cursor.step xs) → given_at xs link (record cursor { step = cursor.step + n }) ≡ given_at xs link cursor
seek-given link xs cursor n p e =
    let split = take-add cursor.step n xs in
    let parts = due-append link (take cursor.step xs) (take n (drop cursor.step xs)) p.goes in
    let none : due link (take n (drop cursor.step xs)) ≡ [] = rw e (passed-due link (drop cursor.step xs)) in
    rw (split, parts, none) (grind (arith, common_steps))

-- the steps that are released later change nothing of it
front_more : (link : ℕ) (xs more : List Scripted) → 0 < length (front_due link xs) → front_due link (xs ++ more) ≡ front_due link xs
front_more link [] more h = absurd (omega arith)
front_more link (x ∷ xs) more h = refl

pub placed_more : (link : ℕ) (xs more : List Scripted) (cursor : Cursor) → IsPlaced xs link cursor → IsPlaced (xs ++ more) link cursor
placed_more link xs more cursor p = record {
  within = (let h = p.within in omega (arith, length-append xs more));
  goes = rw (take-append-le cursor.step xs more p.within) p.goes;
  fits = λ g. let h = p.fits g in let e = front_more link (drop cursor.step xs) more (omega arith) in rw (drop-append-le cursor.step xs more p.within, e) h;
}

pub given_more : (link : ℕ) (xs more : List Scripted) (cursor : Cursor) → cursor.step ≤ length xs → given_at (xs ++ more) link cursor ≡ given_at xs link cursor
given_more link xs more cursor w = ap (λ s. length (due link s) + cursor.given) (take-append-le cursor.step xs more w)

-- a cursor before which nothing is
pub start_placed : (link : ℕ) (xs : List Scripted) → IsPlaced xs link at_start
start_placed link xs = record { within = omega arith; goes = refl; fits = λ g. absurd (omega arith) }

pub seek-begins : (link : ℕ) (xs : List Scripted) (step n : ℕ) → n ≡ position_or_len (is_for link) (drop step xs) → BeginsFor link (drop (step + n) xs)
seek-begins link xs step n e = subst (λ s. BeginsFor link s) (drop-drop n step xs) (rw e (passed-begins link (drop step xs)))

-- whether there is a step for the link
pub seek-found : (link : ℕ) (xs : List Scripted) (step n : ℕ) → step ≤ length xs → n ≡ position_or_len (is_for link) (drop step xs) → nat_lt (step + n) (length xs) ≡ list_any (is_for link) (drop step xs)
seek-found link xs step n w e =
    let size = length-drop step xs in
    let same : nat_lt (step + n) (length xs) ≡ nat_lt n (length (drop step xs)) = grind (arith, nat_tests) in
    same ∙ rw e (passed-found link (drop step xs))

-- the step at a place, and those after it
pub drop_read : (xs : List Scripted) (i : ℕ) (x : Scripted) → i < length xs → x ≡ get_or xs i x → drop i xs ≡ x ∷ drop (suc i) xs
drop_read [] i x h e = absurd (omega arith)
drop_read (y ∷ ys) zero x h e = ap (λ z. z ∷ ys) (sym e)
drop_read (y ∷ ys) (suc i) x h e = drop_read ys i x (omega arith) e

-- what a step with bytes for the link gives, and those after it
due_gives : (link : ℕ) (other : LinkId) (bs : List ℕ) (rest : List Scripted) → IsTrue (is_for link (Gives other bs)) → due link (Gives other bs ∷ rest) ≡ map Some bs ++ due link rest
due_gives link other [] rest h = grind (arith, common_steps)
due_gives link other (b ∷ bs) rest h = grind (arith, common_steps)

copied : (n : ℕ) (piece rest : List ℕ) → n ≤ length piece → take n (take n piece ++ rest) ≡ take n piece
copied n piece rest h = let size = length-take-le n piece h in take-append-le n (take n piece) rest (omega arith) ∙ take_all n (take n piece) (omega arith)

-- what is left of a link after so many bytes of its next step
left_gives : (link : ℕ) (xs : List Scripted) (cursor : Cursor) (other : LinkId) (bs : List ℕ) (rest : List Scripted) → IsPlaced xs link cursor → drop cursor.step xs ≡ Gives other bs ∷ rest → BeginsFor link (drop cursor.step xs) → cursor.given ≤ length bs → left xs link (given_at xs link cursor) ≡ map Some (drop cursor.given bs) ++ due link rest
left_gives link xs cursor other bs rest p e f g =
    let fits = rw e at f in
    let size = length-map bs (λ (b : ℕ). Some b) in
    left_from link xs cursor p ∙ ap (λ s. drop cursor.given (due link s)) e ∙ ap (λ s. drop cursor.given s) (due_gives link other bs rest fits) ∙ drop-append-le cursor.given (map Some bs) (due link rest) (omega arith) ∙ ap (λ s. s ++ due link rest) (drop-map Some cursor.given bs)

pub give-found : (link : ℕ) (xs : List Scripted) (cursor : Cursor) (other : LinkId) (bs : List ℕ) (rest : List Scripted) (n m : ℕ) (piece room : List ℕ)
    → IsPlaced xs link cursor → drop cursor.step xs ≡ Gives other bs ∷ rest → BeginsFor link (drop cursor.step xs) → cursor.given ≤ length bs
    → n ≡ min (length (drop cursor.given bs)) m → piece ≡ take n (drop cursor.given bs) → IsFound xs link (given_at xs link cursor) (piece ++ room) (Bytes n)
give-found link xs cursor other bs rest n m piece room p e f g w b =
    let there = left_gives link xs cursor other bs rest p e f g in
    let size : n ≤ length (drop cursor.given bs) = omega arith in
    let whole = length-map (drop cursor.given bs) (λ (b : ℕ). Some b) in
    let front : take n (piece ++ room) ≡ take n (drop cursor.given bs) = rw b (copied n (drop cursor.given bs) room size) in
    rw there (omega (arith, length-append (map Some (drop cursor.given bs)) (due link rest)), ap (λ s. map Some s) front ∙ sym (take-map Some n (drop cursor.given bs)) ∙ sym (take-append-le n (map Some (drop cursor.given bs)) (due link rest) (omega arith)))

pub given_step : (link : ℕ) (xs : List Scripted) (step : ℕ) (x : Scripted) (rest : List Scripted) → has_end link (take step xs) ≡ false → is_end link x ≡ false → drop step xs ≡ x ∷ rest → length (due link (take (step + 1) xs)) ≡ length (due link (take step xs)) + length (due_of link x)
given_step link xs step x rest h k e =
    let front : take 1 (drop step xs) ≡ x ∷ [] = rw e refl in
    let alone : due link (x ∷ []) ≡ due_of link x = rw k (append-nil (due_of link x)) in
    rw (take-add step 1 xs, front, due-append link (take step xs) (x ∷ []) h, alone) (length-append (due link (take step xs)) (due_of link x))

size_gives : (link : ℕ) (other : LinkId) (bs : List ℕ) → IsTrue (is_for link (Gives other bs)) → length (due_of link (Gives other bs)) ≡ length bs
size_gives link other [] h = grind (arith, common_steps)
size_gives link other (b ∷ bs) h = let size = length-map (b ∷ bs) (λ (d : ℕ). Some d) in grind (arith, common_steps)

give_within-by : (given n : ℕ) (b : Bool) → nat_lt 0 given ≡ b → (0 < given → given < n) → given ≤ n
give_within-by given n true e f = let h = f (grind (arith, nat_tests)) in omega arith
give_within-by given n false e f = grind (arith, nat_tests)

-- no more was given of a step than it has
pub give_within : (link : ℕ) (xs : List Scripted) (cursor : Cursor) (other : LinkId) (bs : List ℕ) (rest : List Scripted) → IsPlaced xs link cursor → drop cursor.step xs ≡ Gives other bs ∷ rest → BeginsFor link (drop cursor.step xs) → cursor.given ≤ length bs
give_within link xs cursor other bs rest p e f =
    let fits = rw e at f in
    let all = size_gives link other bs fits in
    give_within-by cursor.given (length bs) (nat_lt 0 cursor.given) refl (λ g. let h = rw (e, all) at (p.fits g) in h)

give-given-by : (link : ℕ) (xs : List Scripted) (cursor later : Cursor) (other : LinkId) (bs : List ℕ) (rest : List Scripted) (n : ℕ) (b : Bool)
    → nat_eq (cursor.given + n) (length bs) ≡ b → IsPlaced xs link cursor → drop cursor.step xs ≡ Gives other bs ∷ rest → IsTrue (is_for link (Gives other bs))
    → later.step ≡ cond b (cursor.step + 1) cursor.step → later.given ≡ cond b 0 (cursor.given + n) → given_at xs link later ≡ given_at xs link cursor + n
give-given-by link xs cursor later other bs rest n true q p e f s g =
    let more = given_step link xs cursor.step (Gives other bs) rest p.goes refl e in
    let size = size_gives link other bs f in
    let full : cursor.given + n ≡ length bs = grind (arith, nat_tests) in
    rw (s, g) (omega arith)
give-given-by link xs cursor later other bs rest n false q p e f s g = rw (s, g) (omega arith)

pub give-given : (link : ℕ) (xs : List Scripted) (cursor later : Cursor) (other : LinkId) (bs : List ℕ) (rest : List Scripted) (n : ℕ)
    → IsPlaced xs link cursor → drop cursor.step xs ≡ Gives other bs ∷ rest → BeginsFor link (drop cursor.step xs)
    → later.step ≡ cond (nat_eq (cursor.given + n) (length bs)) (cursor.step + 1) cursor.step → later.given ≡ cond (nat_eq (cursor.given + n) (length bs)) 0 (cursor.given + n)
    → given_at xs link later ≡ given_at xs link cursor + n
give-given link xs cursor later other bs rest n p e f s g = let fits = rw e at f in give-given-by link xs cursor later other bs rest n (nat_eq (cursor.given + n) (length bs)) refl p e fits s g

drop_nil : (n : ℕ) → drop {A = Option ℕ} n [] ≡ []
drop_nil zero = refl
drop_nil (suc n) = refl

-- an end that is next
pub give-end : (link : ℕ) (xs : List Scripted) (cursor : Cursor) (other : LinkId) (rest : List Scripted) (buffer : List ℕ) → IsPlaced xs link cursor → drop cursor.step xs ≡ Ends other ∷ rest → BeginsFor link (drop cursor.step xs) → IsFound xs link (given_at xs link cursor) buffer End
give-end link xs cursor other rest buffer p e f =
    let fits = rw e at f in
    let ends : is_end link (Ends other) ≡ true = fits in
    let none : due link (drop cursor.step xs) ≡ [] = rw (e, ends) refl in
    let last : has_end link (drop cursor.step xs) ≡ true = rw (e, ends) refl in
    (left_from link xs cursor p ∙ rw none (drop_nil cursor.given), end_from link xs cursor p ∙ last)

-- a wake or an arrival is not next
pub not_wake : (link : ℕ) (xs : List Scripted) (moment : ℕ) (rest : List Scripted) → xs ≡ Wake moment ∷ rest → BeginsFor link xs → ⊥
not_wake link xs moment rest e f = let fits = rw e at f in cc

pub not_arrive : (link : ℕ) (xs : List Scripted) (nonce : List ℕ) (rest : List Scripted) → xs ≡ Arrive nonce ∷ rest → BeginsFor link xs → ⊥
not_arrive link xs nonce rest e f = let fits = rw e at f in cc

-- that the connection stands, which is next
none_given : (n : ℕ) → (0 < n → n < 1) → n ≡ 0
none_given zero f = refl
none_given (suc n) f = let h = f (omega arith) in absurd (omega arith)

given_none : (link : ℕ) (xs : List Scripted) (cursor : Cursor) (other : LinkId) (rest : List Scripted) → IsPlaced xs link cursor → drop cursor.step xs ≡ Stands other ∷ rest → BeginsFor link (drop cursor.step xs) → cursor.given ≡ 0
given_none link xs cursor other rest p e f =
    let fits : eqb other.0 link ≡ true = rw e at f in
    none_given cursor.given (λ g. let h = rw (e, fits) at (p.fits g) in h)

due_stands : (link : ℕ) (other : LinkId) (rest : List Scripted) → eqb other.0 link ≡ true → due link (Stands other ∷ rest) ≡ None ∷ due link rest
due_stands link other rest h = rw h refl

pub left_stands : (link : ℕ) (xs : List Scripted) (cursor : Cursor) (other : LinkId) (rest : List Scripted) → IsPlaced xs link cursor → drop cursor.step xs ≡ Stands other ∷ rest → BeginsFor link (drop cursor.step xs) → stands_next (left xs link (given_at xs link cursor)) ≡ true
left_stands link xs cursor other rest p e f =
    let fits : eqb other.0 link ≡ true = rw e at f in
    ap stands_next (left_from link xs cursor p ∙ ap (λ n. drop n (due link (drop cursor.step xs))) (given_none link xs cursor other rest p e f) ∙ ap (λ s. due link s) e ∙ due_stands link other rest fits)

pub give-stands : (link : ℕ) (xs : List Scripted) (cursor : Cursor) (other : LinkId) (rest : List Scripted) (buffer : List ℕ) → IsPlaced xs link cursor → drop cursor.step xs ≡ Stands other ∷ rest → BeginsFor link (drop cursor.step xs) → IsFound xs link (given_at xs link cursor) buffer NotYet
give-stands link xs cursor other rest buffer p e f = inl (left_stands link xs cursor other rest p e f)

pub stand-given : (link : ℕ) (xs : List Scripted) (cursor : Cursor) (other : LinkId) (rest : List Scripted) → IsPlaced xs link cursor → drop cursor.step xs ≡ Stands other ∷ rest → BeginsFor link (drop cursor.step xs) → given_at xs link (record cursor { step = cursor.step + 1 }) ≡ given_at xs link cursor + 1
stand-given link xs cursor other rest p e f =
    let fits : eqb other.0 link ≡ true = rw e at f in
    let more = given_step link xs cursor.step (Stands other) rest p.goes refl e in
    let one : length (due_of link (Stands other)) ≡ 1 = rw fits refl in
    omega arith

pub stand-placed : (link : ℕ) (xs : List Scripted) (cursor : Cursor) (other : LinkId) (rest : List Scripted) → IsPlaced xs link cursor → drop cursor.step xs ≡ Stands other ∷ rest → BeginsFor link (drop cursor.step xs) → IsPlaced xs link (record cursor { step = cursor.step + 1 })
stand-placed link xs cursor other rest p e f =
    let front : take 1 (drop cursor.step xs) ≡ Stands other ∷ [] = rw e refl in
    let size = ap length e in
    let none = given_none link xs cursor other rest p e f in
    record {
      within = (let h = p.within in omega (arith, length-drop cursor.step xs));
      goes = rw (take-add cursor.step 1 xs, front) (list_any-append (is_end link) (take cursor.step xs) (Stands other ∷ []) ∙ ap (λ b. b || false) p.goes);
      fits = λ g. absurd (omega arith);
    }

-- no connection stands where bytes or an end are next, or nothing
some_next : (n : ℕ) (bs : List ℕ) (rest : List (Option ℕ)) → n < length bs → stands_next (map Some (drop n bs) ++ rest) ≡ false
some_next n [] rest h = absurd (omega arith)
some_next zero (b ∷ bs) rest h = refl
some_next (suc n) (b ∷ bs) rest h = some_next n bs rest (omega arith)

given_less : (given n : ℕ) → 0 < n → (0 < given → given < n) → given < n
given_less zero n h f = h
given_less (suc given) n h f = f (omega arith)

has_some : (link : ℕ) (other : LinkId) (bs : List ℕ) → IsTrue (is_for link (Gives other bs)) → 0 < length bs
has_some link other [] h = grind (arith, common_steps)
has_some link other (b ∷ bs) h = omega arith

pub left_bytes : (link : ℕ) (xs : List Scripted) (cursor : Cursor) (other : LinkId) (bs : List ℕ) (rest : List Scripted) → IsPlaced xs link cursor → drop cursor.step xs ≡ Gives other bs ∷ rest → BeginsFor link (drop cursor.step xs) → stands_next (left xs link (given_at xs link cursor)) ≡ false
left_bytes link xs cursor other bs rest p e f =
    let fits = rw e at f in
    let all = size_gives link other bs fits in
    let less = given_less cursor.given (length bs) (has_some link other bs fits) (λ g. let h = rw (e, all) at (p.fits g) in h) in
    ap stands_next (left_gives link xs cursor other bs rest p e f (omega arith)) ∙ some_next cursor.given bs (due link rest) less

pub left_end : (link : ℕ) (xs : List Scripted) (cursor : Cursor) (other : LinkId) (rest : List Scripted) → IsPlaced xs link cursor → drop cursor.step xs ≡ Ends other ∷ rest → BeginsFor link (drop cursor.step xs) → stands_next (left xs link (given_at xs link cursor)) ≡ false
left_end link xs cursor other rest p e f = ap stands_next (give-end link xs cursor other rest [] p e f).0

pub left_none : (link : ℕ) (xs : List Scripted) (cursor : Cursor) → IsPlaced xs link cursor → drop cursor.step xs ≡ [] → stands_next (left xs link (given_at xs link cursor)) ≡ false
left_none link xs cursor p e = ap stands_next (left_from link xs cursor p ∙ ap (λ s. drop cursor.given (due link s)) e ∙ drop_nil cursor.given)
