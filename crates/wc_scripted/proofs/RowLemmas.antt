-- Laws of rows by link number, of what is released, and of what waits report.
use Rattle.std.proofs.Common.{◌≡◌, ℕ, zero, suc, ◌+◌, ◌<◌, ◌≤◌, Bool, true, false, ◌||◌, ◌&&◌, not, List, [], ◌∷◌, ◌++◌, length, take, map, refl, ap, sym, ◌∙◌, subst, arith, All, append_assoc, append-nil, nat_lt, set, ◌⊎◌, inl, inr}
use Rattle.std.specs.List.{list_any}
use Rattle.std.proofs.lemmas.List.Folds.{list_any-append}
use Rattle.std.proofs.lemmas.List.{take_all, get_or_past}
use Rattle.std.proofs.Math.Seq.{take-append_seam}
use Rattle.std.proofs.lemmas.Bool.Decides.{nat_tests}
use Rattle.std.proofs.lemmas.Grind.{common_steps}
use Rattle.wc_scripted.specs.declared.rows.Row.{Row}
use Rattle.wc_scripted.specs.declared.scripted.Scripted.{Scripted}
use Rattle.wc_outside.specs.declared.sockets.Token.{Token}
use Rattle.wc_outside.specs.declared.sockets.Token.TheVariants.{Listener, Link}
use Rattle.wc_outside.specs.Happenings.{is_link, is_listener, IsThere}
use Rattle.wc_scripted.specs.Plays.{front, found_at, links_below, sources}
use Rattle.wc_scripted.specs.Rows.{blank, row_at, noted, marked, refilled, waited, Noted, Reported, is_fresh_row}
use Rattle.wc_scripted.specs.Scripts.{is_for, is_arrival}

or_assoc : (a b c : Bool) → (a || b) || c ≡ a || (b || c)
or_assoc true b c = refl
or_assoc false b c = refl

neither : (a b c : Bool) → (a && not b) && not c ≡ a && not (b || c)
neither false b c = refl
neither true true c = refl
neither true false c = refl

both : (a b c : Bool) → (a || (b && c)) || (b && false) ≡ a || (b && c)
both true b c = refl
both false true true = refl
both false true false = refl
both false false c = refl

-- a row that was noted by steps, and then by more
noted_more : (n o a b : Bool) → (n || (o && a)) || (o && b) ≡ n || (o && (a || b))
noted_more true o a b = refl
noted_more false false a b = refl
noted_more false true a b = refl

noted-trans : (link : ℕ) (ss ts : List Scripted) (row : Row) → noted link ts (noted link ss row) ≡ noted link (ss ++ ts) row
noted-trans link ss ts row = ap (λ (b : Bool). record row { news = b }) (noted_more row.news row.is_open (list_any (is_for link) ss) (list_any (is_for link) ts) ∙ ap (λ b. row.news || (row.is_open && b)) (sym (list_any-append (is_for link) ss ts)))

-- what is released after more was released
pub Noted-trans : (a b c : List Row) (l m n : Bool) (ss ts : List Scripted) → Noted a b l m ss → Noted b c m n ts → Noted a c l n (ss ++ ts)
Noted-trans a b c l m n ss ts p q = record {
  rows = λ link. q.rows link ∙ ap (noted link ts) (p.rows link) ∙ noted-trans link ss ts (row_at link a);
  arriving = q.arriving ∙ ap (λ d. d || list_any is_arrival ts) p.arriving ∙ or_assoc l (list_any is_arrival ss) (list_any is_arrival ts) ∙ ap (λ d. l || d) (sym (list_any-append is_arrival ss ts));
  count = q.count ∙ p.count;
}

or-false : (a : Bool) → a ≡ a || false
or-false true = refl
or-false false = refl

and-false : (a : Bool) → false ≡ a && false
and-false true = refl
and-false false = refl

noted-none : (link : ℕ) (row : Row) → row ≡ noted link [] row
noted-none link row = ap (λ (b : Bool). record row { news = b }) (or-false row.news ∙ ap (λ b. row.news || b) (and-false row.is_open))

pub Noted-none : (a : List Row) (l : Bool) → Noted a a l l []
Noted-none a l = record { rows = λ link. noted-none link (row_at link a); arriving = or-false l; count = refl }

marked-trans : (a b : Bool) (row : Row) → marked b (marked a row) ≡ marked (a || b) row
marked-trans a b row = ap (λ (u : Bool). record row { undrained = u; blocked = (row.blocked && not a) && not b; news = (row.news && not a) && not b }) (or_assoc row.undrained a b)
    ∙ ap (λ (u : Bool). record row { undrained = row.undrained || (a || b); blocked = u; news = (row.news && not a) && not b }) (neither row.blocked a b)
    ∙ ap (λ (u : Bool). record row { undrained = row.undrained || (a || b); blocked = row.blocked && not (a || b); news = u }) (neither row.news a b)

and-true : (a : Bool) → a ≡ a && true
and-true true = refl
and-true false = refl

marked-none : (row : Row) → row ≡ marked false row
marked-none row = ap (λ (u : Bool). record row { undrained = u }) (or-false row.undrained)
    ∙ ap (λ (u : Bool). record row { undrained = row.undrained || false; blocked = u }) (and-true row.blocked)
    ∙ ap (λ (u : Bool). record row { undrained = row.undrained || false; blocked = row.blocked && true; news = u }) (and-true row.news)

All_join : (P : Token → Type 0) (ts us : List Token) → All P ts → All P us → All P (ts ++ us)
All_join P ts us p q = grind (arith, common_steps)

IsThere_like : (p q : ℕ → Bool) → ((link : ℕ) → q link ≡ p link) → (t : Token) → IsThere q t → IsThere p t
IsThere_like p q e Listener h = h
IsThere_like p q e (Link link) h = rw (sym (e link.0)) h

IsThere_along : (p q : ℕ → Bool) → ((link : ℕ) → q link ≡ p link) → (ts : List Token) → All (IsThere q) ts → All (IsThere p) ts
IsThere_along p q e ts h = λ k d l. IsThere_like p q e _ (h k d l)

-- what is reported after more was reported
pub Reported-trans : (a b c : List Row) (ts us : List Token) → Reported a b ts → Reported b c us → Reported a c (ts ++ us)
Reported-trans a b c ts us p q = record {
  there = All_join (IsThere (λ link. (row_at link a).is_open)) ts us p.there (IsThere_along _ _ (λ link. ap (λ (row : Row). row.is_open) (p.rows link)) us q.there);
  rows = λ link. q.rows link ∙ ap (marked (list_any (is_link link) us)) (p.rows link) ∙ marked-trans (list_any (is_link link) ts) (list_any (is_link link) us) (row_at link a) ∙ ap (λ d. marked d (row_at link a)) (sym (list_any-append (is_link link) ts us));
  count = q.count ∙ p.count;
}

pub Reported-none : (a : List Row) → Reported a a []
Reported-none a = record { there = λ k d l. absurd (omega arith); rows = λ link. marked-none (row_at link a); count = refl }

There-listener : (there : ℕ → Bool) → All (IsThere there) (Listener ∷ [])
There-listener there zero d h = tt
There-listener there (suc k) d h = absurd (omega arith)

-- the listener is no row
pub Reported-front : (a : List Row) (arriving : Bool) → Reported a a (front arriving)
Reported-front a true = record { there = There-listener _; rows = λ link. marked-none (row_at link a); count = refl }
Reported-front a false = Reported-none a

below_split-by : (test : ℕ → Bool) (k m : ℕ) (b : Bool) → nat_lt m k ≡ b → k ≤ suc m
    → (k ≤ m → (more : List Token) × (links_below test m ≡ links_below test k ++ more))
    → (more : List Token) × (links_below test (suc m) ≡ links_below test k ++ more)
below_split-by test k m true e h f = let same : k ≡ suc m = grind (arith, nat_tests) in subst (λ n. (more : List Token) × (links_below test (suc m) ≡ links_below test n ++ more)) (sym same) ([], sym (append-nil (links_below test (suc m))))
below_split-by test k m false e h f = let p = f (grind (arith, nat_tests)) in let last : List Token = found_at (test m) m in (p.0 ++ last, ap (λ s. s ++ last) p.1 ∙ append_assoc (links_below test k) p.0 last)

-- the links below a number are those below a smaller one, and more
pub below_split : (test : ℕ → Bool) (k n : ℕ) → k ≤ n → (more : List Token) × (links_below test n ≡ links_below test k ++ more)
below_split test k zero h = let same : k ≡ 0 = omega arith in subst (λ n. (more : List Token) × (links_below test 0 ≡ links_below test n ++ more)) (sym same) ([], refl)
below_split test k (suc m) h = below_split-by test k m (nat_lt m k) refl h (below_split test k m)

-- no more fits
pub reported_full : (before tokens : List Token) (test : ℕ → Bool) (k n : ℕ) → k ≤ n → tokens ≡ before ++ links_below test k → length tokens ≡ 64 → tokens ≡ take 64 (before ++ links_below test n)
reported_full before tokens test k n h e c =
    let p = below_split test k n h in
    let whole : before ++ links_below test n ≡ tokens ++ p.0 = ap (λ s. before ++ s) p.1 ∙ sym (append_assoc before (links_below test k) p.0) ∙ ap (λ s. s ++ p.0) (sym e) in
    rw whole (sym (ap (λ m. take m (tokens ++ p.0)) (sym c) ∙ take-append_seam tokens p.0))

-- all fit
pub reported_all : (before tokens : List Token) (test : ℕ → Bool) (n : ℕ) → tokens ≡ before ++ links_below test n → length tokens ≤ 64 → tokens ≡ take 64 (before ++ links_below test n)
reported_all before tokens test n e c = rw (sym e) (sym (take_all 64 tokens c))

-- one more link was looked at
pub reported_step : (before now more : List Token) (test : ℕ → Bool) (n : ℕ) (b : Bool) → now ≡ before ++ links_below test n → more ≡ now ++ found_at b n → b ≡ test n → more ≡ before ++ links_below test (n + 1)
reported_step before now more test n b e f g =
    let next : n + 1 ≡ suc n = omega arith in
    rw next (f ∙ ap (λ s. s ++ found_at b n) e ∙ append_assoc before (links_below test n) (found_at b n) ∙ ap (λ d. before ++ (links_below test n ++ found_at d n)) g)

any_front : (p : Token → Bool) (xs : List Token) (k : ℕ) → list_any p xs ≡ false → list_any p (take k xs) ≡ false
any_front p xs zero h = refl
any_front p [] (suc k) h = refl
any_front p (x ∷ xs) (suc k) h = grind (arith, any_front p xs k)

found-none : (b : Bool) (n : ℕ) → list_any is_listener (found_at b n) ≡ false
found-none true n = refl
found-none false n = refl

below-none : (test : ℕ → Bool) (n : ℕ) → list_any is_listener (links_below test n) ≡ false
below-none test zero = refl
below-none test (suc n) = list_any-append is_listener (links_below test n) (found_at (test n) n) ∙ rw (below-none test n) (found-none (test n) n)

-- the listener is reported exactly where it has an arrival
pub front_listener : (b : Bool) (test : ℕ → Bool) (n k : ℕ) → list_any is_listener (take (suc k) (front b ++ links_below test n)) ≡ b
front_listener true test n k = refl
front_listener false test n k = any_front is_listener (links_below test n) (suc k) (below-none test n)

pub row_at-refilled : (rows : List Row) (link : ℕ) → row_at link (map refilled rows) ≡ refilled (row_at link rows)
row_at-refilled [] link = refl
row_at-refilled (row ∷ rows) zero = refl
row_at-refilled (row ∷ rows) (suc link) = row_at-refilled rows link

-- where two tests agree, so do the links for which they hold
links_along : (f g : ℕ → Bool) → ((link : ℕ) → f link ≡ g link) → (n : ℕ) → links_below f n ≡ links_below g n
links_along f g e zero = refl
links_along f g e (suc n) = ap (λ s. s ++ found_at (f n) n) (links_along f g e n) ∙ ap (λ b. links_below g n ++ found_at b n) (e n)

pub sources_along : (a b : Bool) (f g : ℕ → Bool) (m n : ℕ) → a ≡ b → ((link : ℕ) → f link ≡ g link) → m ≡ n → sources a f m ≡ sources b g n
sources_along a b f g m n d e h = rw (d, h) (ap (λ s. front b ++ s) (links_along f g e n))

-- a wait reports what the definitions say
pub fresh_same : (there news any blocked : Bool) → there && ((news || (there && any)) || blocked) ≡ there && ((news || any) || blocked)
fresh_same true news any blocked = refl
fresh_same false news any blocked = refl

length-refilled : (rows : List Row) → length (map refilled rows) ≡ length rows
length-refilled rows = grind (arith, common_steps)

noted_row : (a b c : List Row) (l m : Bool) (steps : List Scripted) → b ≡ map refilled a → Noted b c l m steps → (link : ℕ) → row_at link c ≡ noted link steps (refilled (row_at link a))
noted_row a b c l m steps e p link = let same : row_at link b ≡ refilled (row_at link a) = rw e (row_at-refilled a link) in p.rows link ∙ ap (λ row. noted link steps row) same

pub turn-rows : (a b c d : List Row) (l m : Bool) (steps : List Scripted) (tokens : List Token) → b ≡ map refilled a → Noted b c l m steps → Reported c d tokens → (link : ℕ) → row_at link d ≡ waited (list_any (is_link link) tokens) link steps (row_at link a)
turn-rows a b c d l m steps tokens e p q link = q.rows link ∙ ap (λ row. marked (list_any (is_link link) tokens) row) (noted_row a b c l m steps e p link)

pub turn-there : (a b c d : List Row) (l m : Bool) (steps : List Scripted) (tokens : List Token) → b ≡ map refilled a → Noted b c l m steps → Reported c d tokens → All (IsThere (λ link. (row_at link a).is_open)) tokens
turn-there a b c d l m steps tokens e p q =
    let there : (link : ℕ) → (row_at link c).is_open ≡ (row_at link a).is_open = λ link. ap (λ (row : Row). row.is_open) (noted_row a b c l m steps e p link) in
    IsThere_along (λ link. (row_at link a).is_open) (λ link. (row_at link c).is_open) there tokens q.there

pub turn-tokens : (a b c : List Row) (l m : Bool) (steps : List Scripted) (tokens : List Token) → b ≡ map refilled a → Noted b c l m steps → tokens ≡ take 64 (sources m (λ link. is_fresh_row (row_at link c)) (length c)) → tokens ≡ take 64 (sources (l || list_any is_arrival steps) (λ link. is_fresh_row (noted link steps (refilled (row_at link a)))) (length a))
turn-tokens a b c l m steps tokens e p t =
    let fresh : (link : ℕ) → is_fresh_row (row_at link c) ≡ is_fresh_row (noted link steps (refilled (row_at link a))) = λ link. ap is_fresh_row (noted_row a b c l m steps e p link) in
    let size : length b ≡ length a = rw e (length-refilled a) in
    t ∙ ap (λ s. take 64 s) (sources_along m (l || list_any is_arrival steps) (λ link. is_fresh_row (row_at link c)) (λ link. is_fresh_row (noted link steps (refilled (row_at link a)))) (length c) (length a) p.arriving fresh (p.count ∙ size))

-- what a change of one row leaves as it was
pub set_rest : {A : Type 0} (f : Row → A) (rows : List Row) (link other : ℕ) (row : Row) → f row ≡ f (row_at link rows) → f (row_at other (set rows link row)) ≡ f (row_at other rows)
set_rest f [] link other row h = refl
set_rest f (x ∷ xs) zero zero row h = h
set_rest f (x ∷ xs) zero (suc other) row h = refl
set_rest f (x ∷ xs) (suc link) zero row h = refl
set_rest f (x ∷ xs) (suc link) (suc other) row h = set_rest f xs link other row h

-- a number past the last row has a blank one
pub row_past : (rows : List Row) (link : ℕ) → length rows ≤ link → row_at link rows ≡ blank
row_past rows link h = get_or_past rows link blank h

pub fresh_past : (rows : List Row) (link : ℕ) (b : Bool) → length rows ≤ link → (row_at link rows).is_open && b ≡ false
fresh_past rows link b h = rw (row_past rows link h) refl

below_past-by : (test : ℕ → Bool) (n m : ℕ) (b : Bool) → nat_lt m n ≡ b → n ≤ suc m → test m ≡ false ⊎ (m < n) → (n ≤ m → links_below test m ≡ links_below test n) → links_below test (suc m) ≡ links_below test n
below_past-by test n m true e h t f = let same : suc m ≡ n = grind (arith, nat_tests) in ap (links_below test) same
below_past-by test n m false e h (inl t) f = ap (λ b. links_below test m ++ found_at b m) t ∙ append-nil (links_below test m) ∙ f (grind (arith, nat_tests))
below_past-by test n m false e h (inr t) f = absurd (grind (arith, nat_tests))

at_or_below : (test : ℕ → Bool) (n m : ℕ) (b : Bool) → nat_lt m n ≡ b → ((link : ℕ) → n ≤ link → test link ≡ false) → test m ≡ false ⊎ (m < n)
at_or_below test n m true e f = inr (grind (arith, nat_tests))
at_or_below test n m false e f = inl (f m (grind (arith, nat_tests)))

-- where a test holds for no number from one on, the links below are those below it
below_past : (test : ℕ → Bool) (n m : ℕ) → n ≤ m → ((link : ℕ) → n ≤ link → test link ≡ false) → links_below test m ≡ links_below test n
below_past test n zero h f = let same : 0 ≡ n = omega arith in ap (links_below test) same
below_past test n (suc m) h f = below_past-by test n m (nat_lt m n) refl h (at_or_below test n m (nat_lt m n) refl f) (λ g. below_past test n m g f)

pub sources_past : (a : Bool) (test : ℕ → Bool) (n m : ℕ) → n ≤ m → ((link : ℕ) → n ≤ link → test link ≡ false) → sources a test n ≡ sources a test m
sources_past a test n m h f = ap (λ s. front a ++ s) (sym (below_past test n m h f))
