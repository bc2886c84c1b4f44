-- No link is lost.
use Rattle.std.proofs.Common.{◌≡◌, ◌≢◌, ℕ, ◌+◌, ◌-◌, ◌^◌, ◌<◌, ◌≤◌, ◌⊎◌, inl, inr, nat_lt, nat_le, Bool, true, false, eqb, ◌||◌, List, [], ◌∷◌, ◌++◌, Option, Some, None, is_some, refl, ap, ◌∙◌, arith}
use Rattle.std.proofs.lemmas.Bool.{false≢true}
use Rattle.std.proofs.lemmas.Bool.Decides.{nat_tests}
use Rattle.std.proofs.lemmas.List.{append-nil}
use Rattle.wc_text.specs.declared.names.LinkId.{LinkId}
use Rattle.wc_text.specs.declared.names.Cause.{Cause}
use Rattle.wc_outside.specs.Keyed.{at_key, without}
use Rattle.wc_turns.specs.declared.links.LinkState.{LinkState}
use Rattle.wc_turns.specs.declared.links.Closed.{Closed}
use Rattle.wc_turns.specs.declared.headless.Headless.{Headless}
use Rattle.wc_turns.specs.Contained.{is_known, HasStarved, KeepsLinks}
use Rattle.wc_turns.specs.Heard.{Heard}
use Rattle.wc_turns.specs.Links.{link_number, new_state, with_closed}
use Rattle.wc_turns.specs.Served.{closed_by, closed_number}
use Rattle.wc_turns.specs.Steps.{LinkComes, TakesArrival, RefusesArrival}
use Rattle.wc_turns.specs.Turns.{TakesHappening}
use Rattle.wc_turns.proofs.KeyedLemmas.{or-true, is_some-push, at_key-filter_other, same-keys}

pub KeepsLinks-refl : (x : Headless) → KeepsLinks x x
KeepsLinks-refl x = record { used = omega arith; rises = omega arith; known = λ k h. h; came = λ k above below. absurd (omega arith) }

pub starved-following : (a b c : ℕ) → a ≤ b → HasStarved b c → HasStarved a c
starved-following a b c low (inl h) = inl (omega arith)
starved-following a b c low (inr h) = inr h

pub starved-later : (a b c : ℕ) → b ≤ c → HasStarved a b → HasStarved a c
starved-later a b c low (inl h) = inl (omega arith)
starved-later a b c low (inr h) = inr (omega arith)

-- it is counted where it can be
pub starved-counted : (old mid new : ℕ) → old ≤ mid → mid ≤ new → (mid < 2 ^ 64 - 1 → mid < new) → HasStarved old new
starved-counted old mid new rises later counts = counted-by (nat_lt mid (2 ^ 64 - 1)) refl
  where
    counted-by : (t : Bool) → nat_lt mid (2 ^ 64 - 1) ≡ t → HasStarved old new
    counted-by true e = inl (let below : mid < 2 ^ 64 - 1 = grind (arith, nat_tests) in let more = counts below in omega arith)
    counted-by false e = inr (let above : 2 ^ 64 - 1 ≤ mid = grind (arith, nat_tests) in omega arith)

pub KeepsLinks-trans : (x y z : Headless) → KeepsLinks x y → KeepsLinks y z → KeepsLinks x z
KeepsLinks-trans x y z h g = record {
  used = (let p = h.used in let q = g.used in omega arith);
  rises = (let p = h.rises in let q = g.rises in omega arith);
  known = λ k known. g.known k (h.known k known);
  came = λ k above below. came-by k above below (nat_le k y.used) refl;
}
  where
    later-by : (k : ℕ) → (is_known k y ≡ true) ⊎ HasStarved x.core.starved y.core.starved → (is_known k z ≡ true) ⊎ HasStarved x.core.starved z.core.starved
    later-by k (inl known) = inl (g.known k known)
    later-by k (inr starved) = inr (starved-later x.core.starved y.core.starved z.core.starved g.rises starved)

    following-by : (k : ℕ) → (is_known k z ≡ true) ⊎ HasStarved y.core.starved z.core.starved → (is_known k z ≡ true) ⊎ HasStarved x.core.starved z.core.starved
    following-by k (inl known) = inl known
    following-by k (inr starved) = inr (starved-following x.core.starved y.core.starved z.core.starved h.rises starved)

    came-by : (k : ℕ) → x.used < k → k ≤ z.used → (t : Bool) → nat_le k y.used ≡ t → (is_known k z ≡ true) ⊎ HasStarved x.core.starved z.core.starved
    came-by k above below true e = later-by k (h.came k above (grind (arith, nat_tests)))
    came-by k above below false e = following-by k (g.came k (grind (arith, nat_tests)) below)

-- the same links are there
pub KeepsLinks-same : (x y : Headless) → y.used ≡ x.used → x.core.starved ≤ y.core.starved → ((k : ℕ) → is_some (at_key link_number k y.links.opened.items) ≡ is_some (at_key link_number k x.links.opened.items)) → y.links.closed.items ≡ x.links.closed.items → KeepsLinks x y
KeepsLinks-same x y used rises links closed = record {
  used = omega arith;
  rises = rises;
  known = λ k h. rw (links k, closed) h;
  came = λ k above below. absurd (omega arith);
}

or-either : (a b c d : Bool) → (a ≡ true → c ≡ true) → (b ≡ true → (c || d) ≡ true) → (a || b) ≡ true → (c || d) ≡ true
or-either true b c d f g h = ap (λ t. t || d) (f refl)
or-either false b c d f g h = g h

or-here : (a b : Bool) → a ≡ true → (b || a) ≡ true
or-here a b e = ap (λ t. b || t) e ∙ or-true b

listed-more : (k : ℕ) (o : Option LinkState) (closed : List Closed) (one : Closed) → is_some (at_key closed_number k closed) ≡ true → is_some (at_key closed_number k (with_closed o closed one)) ≡ true
listed-more k None closed one e = e
listed-more k (Some state) closed one e = is_some-push closed_number k one closed ∙ ap (λ t. t || eqb (closed_number one) k) e

listed-one : (k : ℕ) (o : Option LinkState) (closed : List Closed) (one : Closed) → closed_number one ≡ k → is_some o ≡ true → is_some (at_key closed_number k (with_closed o closed one)) ≡ true
listed-one k None closed one e there = absurd (false≢true there)
listed-one k (Some state) closed one e there = let test : eqb (closed_number one) k ≡ true = grind (arith, nat_tests) in is_some-push closed_number k one closed ∙ or-here (eqb (closed_number one) k) (is_some (at_key closed_number k closed)) test

close-known : (k link : ℕ) (states : List LinkState) (closed : List Closed) (one : Closed) (t : Bool) → eqb k link ≡ t → closed_number one ≡ link → (is_some (at_key link_number k states) || is_some (at_key closed_number k closed)) ≡ true
    → (is_some (at_key link_number k (without link_number link states)) || is_some (at_key closed_number k (with_closed (at_key link_number link states) closed one))) ≡ true
close-known k link states closed one true e number h =
    let same : link ≡ k = grind (arith, nat_tests) in
    let there = is_some (at_key link_number k (without link_number link states)) in
    or-by (is_some (at_key link_number k states)) refl h
  where
    or-by : (u : Bool) → is_some (at_key link_number k states) ≡ u → (u || is_some (at_key closed_number k closed)) ≡ true
        → (is_some (at_key link_number k (without link_number link states)) || is_some (at_key closed_number k (with_closed (at_key link_number link states) closed one))) ≡ true
    or-by true was q =
        let same : link ≡ k = grind (arith, nat_tests) in
        let here : is_some (at_key link_number link states) ≡ true = ap (λ i. is_some (at_key link_number i states)) same ∙ was in
        or-here _ _ (listed-one k (at_key link_number link states) closed one (number ∙ same) here)
    or-by false was q = or-here _ _ (listed-more k (at_key link_number link states) closed one q)
close-known k link states closed one false e number h =
    let other : k ≢ link = λ q. grind (arith, nat_tests) in
    or-either (is_some (at_key link_number k states)) (is_some (at_key closed_number k closed)) _ _
    (λ q. ap is_some (at_key-filter_other link_number link k states other) ∙ q)
    (λ q. or-here _ _ (listed-more k (at_key link_number link states) closed one q)) h

-- a link is closed, and listed
pub KeepsLinks-close : (x y : Headless) (link : LinkId) (cause : Cause) → y.used ≡ x.used → y.core.starved ≡ x.core.starved → y.links.opened.items ≡ without link_number link.0 x.links.opened.items
    → y.links.closed.items ≡ with_closed (at_key link_number link.0 x.links.opened.items) x.links.closed.items (record { link = link; cause = cause }) → KeepsLinks x y
KeepsLinks-close x y link cause used starved opened closed = record {
  used = omega arith;
  rises = omega arith;
  known = λ k h. rw (opened, closed) (close-known k link.0 x.links.opened.items x.links.closed.items (record { link = link; cause = cause }) (eqb k link.0) refl refl h);
  came = λ k above below. absurd (omega arith);
}

-- a link comes, and is kept
pub KeepsLinks-more : (x y : Headless) (state : LinkState) → link_number state ≡ x.used + 1 → y.used ≡ x.used + 1 → x.core.starved ≤ y.core.starved → y.links.opened.items ≡ x.links.opened.items ++ state ∷ [] → y.links.closed.items ≡ x.links.closed.items → KeepsLinks x y
KeepsLinks-more x y state next used rises opened closed =
    let some : (k : ℕ) → is_some (at_key link_number k y.links.opened.items) ≡ (is_some (at_key link_number k x.links.opened.items) || eqb (link_number state) k) = λ k. ap (λ ss. is_some (at_key link_number k ss)) opened ∙ is_some-push link_number k state x.links.opened.items in
    record {
      used = omega arith;
      rises = rises;
      known = λ k h. or-either (is_some (at_key link_number k x.links.opened.items)) (is_some (at_key closed_number k x.links.closed.items)) _ _ (λ q. some k ∙ ap (λ t. t || eqb (link_number state) k) q) (λ q. or-here _ _ (ap (λ cs. is_some (at_key closed_number k cs)) closed ∙ q)) h;
      came = λ k above below. inl
          (let same : link_number state ≡ k = omega arith in
          let here : eqb (link_number state) k ≡ true = grind (arith, nat_tests) in
          ap (λ t. t || is_some (at_key closed_number k y.links.closed.items)) (some k ∙ or-here (eqb (link_number state) k) (is_some (at_key link_number k x.links.opened.items)) here));
    }

-- a link comes for which there is no memory
pub KeepsLinks-dropped : (x y : Headless) → y.used ≡ x.used + 1 → x.core.starved ≤ y.core.starved → HasStarved x.core.starved y.core.starved → y.links.opened.items ≡ x.links.opened.items → y.links.closed.items ≡ x.links.closed.items → KeepsLinks x y
KeepsLinks-dropped x y used rises starved opened closed = record {
  used = omega arith;
  rises = rises;
  known = λ k h. rw (opened, closed) h;
  came = λ k above below. inr starved;
}

-- a client came
pub KeepsLinks-came : (x y : Headless) (link : LinkId) (nonce : List ℕ) → LinkComes x y link → TakesArrival x y link nonce → link.0 ≡ x.used + 1 → KeepsLinks x y
KeepsLinks-came x y link nonce comes admits next =
    let starved = ap (λ c. c.starved) admits.core in
    KeepsLinks-more x y (new_state link None false) next (comes.used ∙ next) (omega arith) admits.opened admits.closed

closed-more : (k : ℕ) (link : LinkId) (o : Option Cause) (closed : List Closed) → is_some (at_key closed_number k closed) ≡ true → is_some (at_key closed_number k (closed ++ closed_by link o)) ≡ true
closed-more k link None closed e = ap (λ cs. is_some (at_key closed_number k cs)) (append-nil closed) ∙ e
closed-more k link (Some why) closed e = is_some-push closed_number k (record { link = link; cause = why }) closed ∙ ap (λ t. t || eqb link.0 k) e

-- an arrival was refused
pub KeepsLinks-refused : (x y : Headless) (link : LinkId) (nonce : List ℕ) → LinkComes x y link → RefusesArrival x y link nonce → link.0 ≡ x.used + 1 → at_key link_number link.0 x.links.opened.items ≡ None → KeepsLinks x y
KeepsLinks-refused x y link nonce comes r next none =
    let used = comes.used in
    record {
      used = omega arith;
      rises = r.rises;
      known = λ k h. or-either (is_some (at_key link_number k x.links.opened.items)) (is_some (at_key closed_number k x.links.closed.items)) _ _ (λ q. ap (λ ss. is_some (at_key link_number k ss)) (r.opened none) ∙ q)
          (λ q. or-here _ _ (ap (λ cs. is_some (at_key closed_number k cs)) (r.closed none) ∙ closed-more k link r.cause x.links.closed.items q)) h;
      came = λ k above below. came-by k (omega arith) r.cause refl;
    }
  where
    came-by : (k : ℕ) → link.0 ≡ k → (o : Option Cause) → r.cause ≡ o → (is_known k y ≡ true) ⊎ HasStarved x.core.starved y.core.starved
    came-by k same None e = inr (r.starves e)
    came-by k same (Some why) e =
        let here : eqb link.0 k ≡ true = grind (arith, nat_tests) in
        inl (or-here _ _ (ap (λ cs. is_some (at_key closed_number k cs)) (r.closed none ∙ ap (λ o. x.links.closed.items ++ closed_by link o) e) ∙ is_some-push closed_number k (record { link = link; cause = why }) x.links.closed.items ∙ or-here (eqb link.0 k) (is_some (at_key closed_number k x.links.closed.items)) here))

pub KeepsLinks-takes : (x y : Headless) (h : Heard) → TakesHappening x y h → x.core.starved ≤ y.core.starved → KeepsLinks x y
KeepsLinks-takes x y h takes rises = KeepsLinks-same x y takes.used rises (λ k. same-keys link_number k y.links.opened.items x.links.opened.items takes.numbers) takes.closed
