-- The least link above another.
use Rattle.std.proofs.Common.{◌≡◌, ◌≢◌, ℕ, ◌+◌, ◌<◌, ◌≤◌, Bool, true, false, eqb, cond, refl, List, [], ◌∷◌, ◌++◌, length, take, slice_index_or, Option, Some, None, IfSome, arith, ◌⊎◌, ◌||◌, inl, inr, subst, sym}
use Rattle.std.proofs.lemmas.Bool.Decides.{nat_tests}
use Rattle.std.proofs.lemmas.List.{take_more}
use Rattle.wc_text.specs.declared.names.LinkId.{LinkId}
use Rattle.wc_outside.specs.Keyed.{at_key}
use Rattle.wc_turns.specs.Sources.{has_flag}

push-first : {X : Type 0} (flag : X → Bool) (k : ℕ) (s : X) (b : Bool) → (b ≡ true → flag s ≡ false) → has_flag flag (cond b (Some s) None) ≡ false
push-first flag k s true new = new refl
push-first flag k s false new = refl

push-following : {X : Type 0} (flag : X → Bool) (x : X) (b : Bool) (here there : Option X) → (has_flag flag here ≡ false → has_flag flag there ≡ false) → has_flag flag (cond b (Some x) here) ≡ false → has_flag flag (cond b (Some x) there) ≡ false
push-following flag x true here there more q = q
push-following flag x false here there more q = more q

flagged-push : {X : Type 0} (key : X → ℕ) (flag : X → Bool) (k : ℕ) (s : X) (xs : List X) → (key s ≡ k → flag s ≡ false) → has_flag flag (at_key key k xs) ≡ false → has_flag flag (at_key key k (xs ++ s ∷ [])) ≡ false
flagged-push key flag k s [] new h = push-first flag k s (eqb (key s) k) (λ e. new (grind (arith, nat_tests)))
flagged-push key flag k s (x ∷ xs) new h = push-following flag x (eqb (key x) k) (at_key key k xs) (at_key key k (xs ++ s ∷ [])) (flagged-push key flag k s xs new) h

-- one more was looked at
pub none_more : {X : Type 0} (key : X → ℕ) (flag : X → Bool) (k i : ℕ) (xs : List X) (d s : X) → slice_index_or xs i d ≡ s → i < length xs → (key s ≡ k → flag s ≡ false) → has_flag flag (at_key key k (take i xs)) ≡ false → has_flag flag (at_key key k (take (i + 1) xs)) ≡ false
none_more key flag k i xs d s is n new h = rw (take_more xs i d n, is) (flagged-push key flag k s (take i xs) new h)

none_before : {X : Type 0} (key : X → ℕ) (flag : X → Bool) (last k r : ℕ) (xs : List X) (next : Option LinkId) → IfSome next (λ known. r ≤ known.0) → IfSome next (λ link. (o : ℕ) → last < o → o < link.0 → has_flag flag (at_key key o xs) ≡ false)
    → (next ≡ None → (o : ℕ) → last < o → has_flag flag (at_key key o xs) ≡ false) → last < k → k < r → has_flag flag (at_key key k xs) ≡ false
none_before key flag last k r xs None least between none low high = none refl k low
none_before key flag last k r xs (Some known) least between none low high = between k low (omega arith)

pub least_between : {X : Type 0} (key : X → ℕ) (flag : X → Bool) (last i : ℕ) (xs : List X) (d s : X) (next result : Option LinkId) → slice_index_or xs i d ≡ s → i < length xs
    → IfSome result (λ least. (o : ℕ) → last < o → o < least.0 → key s ≡ o → flag s ≡ false) → IfSome result (λ least. IfSome next (λ known. least.0 ≤ known.0))
    → IfSome next (λ link. (o : ℕ) → last < o → o < link.0 → has_flag flag (at_key key o (take i xs)) ≡ false) → (next ≡ None → (o : ℕ) → last < o → has_flag flag (at_key key o (take i xs)) ≡ false)
    → IfSome result (λ link. (o : ℕ) → last < o → o < link.0 → has_flag flag (at_key key o (take (i + 1) xs)) ≡ false)
least_between key flag last i xs d s next None is n other before between none = tt
least_between key flag last i xs d s next (Some r) is n other before between none = λ o low high. none_more key flag o i xs d s is n (other o low high) (none_before key flag last o r.0 (take i xs) next before between none low high)

-- the same, where the one that is looked at is passed over
pub passed_between : {X : Type 0} (key : X → ℕ) (flag : X → Bool) (last i : ℕ) (xs : List X) (d s : X) (next : Option LinkId) → slice_index_or xs i d ≡ s → i < length xs → flag s ≡ false
    → IfSome next (λ link. (o : ℕ) → last < o → o < link.0 → has_flag flag (at_key key o (take i xs)) ≡ false) → IfSome next (λ link. (o : ℕ) → last < o → o < link.0 → has_flag flag (at_key key o (take (i + 1) xs)) ≡ false)
passed_between key flag last i xs d s None is n f between = tt
passed_between key flag last i xs d s (Some r) is n f between = λ o low high. none_more key flag o i xs d s is n (λ same. f) (between o low high)

pub other_between : {X : Type 0} (key : X → ℕ) (flag : X → Bool) (last : ℕ) (s : X) (result : Option LinkId) → IfSome result (λ least. (o : ℕ) → last < o → o < least.0 → key s ≢ o) → IfSome result (λ least. (o : ℕ) → last < o → o < least.0 → key s ≡ o → flag s ≡ false)
other_between key flag last s None h = tt
other_between key flag last s (Some r) h = λ o low high same. absurd (h o low high same)

-- ---- the lesser one of two

pub least-above : (r a b : Option LinkId) (last : ℕ) → (r ≡ a) ⊎ (r ≡ b) → IfSome a (λ link. last < link.0) → IfSome b (λ link. last < link.0) → IfSome r (λ link. last < link.0)
least-above r a b last (inl e) h g = subst (λ (o : Option LinkId). IfSome o (λ link. last < link.0)) (sym e) h
least-above r a b last (inr e) h g = subst (λ (o : Option LinkId). IfSome o (λ link. last < link.0)) (sym e) g

quiet-below : (a : Option LinkId) (least : LinkId) (last : ℕ) (f : ℕ → Bool) (k : ℕ) → IfSome a (λ link. least.0 ≤ link.0) → IfSome a (λ link. (other : ℕ) → last < other → other < link.0 → f other ≡ false) → (a ≡ None → (other : ℕ) → last < other → f other ≡ false) → last < k → k < least.0 → f k ≡ false
quiet-below None least last f k below between none above low = none refl k above
quiet-below (Some link) least last f k below between none above low = between k above (omega arith)

pub next-none : (f g : Bool) → f ≡ false → g ≡ false → (f || g) ≡ false
next-none true g e h = e
next-none false g e h = h

pub next-between : (r a b : Option LinkId) (last : ℕ) (f g : ℕ → Bool) → IfSome a (λ link. IfSome r (λ least. least.0 ≤ link.0)) → IfSome b (λ link. IfSome r (λ least. least.0 ≤ link.0))
    → IfSome a (λ link. (other : ℕ) → last < other → other < link.0 → f other ≡ false) → (a ≡ None → (other : ℕ) → last < other → f other ≡ false)
    → IfSome b (λ link. (other : ℕ) → last < other → other < link.0 → g other ≡ false) → (b ≡ None → (other : ℕ) → last < other → g other ≡ false)
    → IfSome r (λ link. (other : ℕ) → last < other → other < link.0 → (f other || g other) ≡ false)
next-between None a b last f g first second between none between' none' = tt
next-between (Some least) a b last f g first second between none between' none' =
    λ k above low. next-none (f k) (g k) (quiet-below a least last f k first between none above low) (quiet-below b least last g k second between' none' above low)
