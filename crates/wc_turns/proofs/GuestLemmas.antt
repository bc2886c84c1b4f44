-- Guests that wait while the login of another is decided.
use Rattle.std.proofs.Common.{◌≡◌, ℕ, ◌+◌, ◌⊎◌, inl, inr, Bool, true, false, not, ◌||◌, refl, sym, ◌∙◌, subst}
use Rattle.std.proofs.lemmas.Bool.{false≢true}
use Rattle.wc_outside.specs.Seen.{Seen}
use Rattle.wc_turns.specs.declared.headless.Headless.{Headless}
use Rattle.wc_turns.specs.Sources.{NothingBecameReady, IsServed, IsServedAfter, Reaches, DecidesOn, DecidesBy, HasDecided, NothingRead, ReadsAlone, ReadsGuests, OneLogin, TakesNothing, is_guest_on, is_slow_on, decides_on}
use Rattle.wc_turns.specs.Sources.ReadsGuests.{ends, passes, reads}
use Rattle.wc_turns.specs.Turns.{LoopStep}
use Rattle.wc_turns.proofs.TurnLemmas.{LoopStep-sum, LoopStep-wider}
use Rattle.wc_turns.proofs.CloseLemmas.{LoopStep-refl}
use Rattle.wc_turns.proofs.SourceLemmas.{Later, later-of, IsReadUp-later, IsReadUp-following}

-- ---- moments, one after another

pub Reaches-of : {w : Bool} {n f : ℕ} (x y : Headless) (a b : Seen) → LoopStep w n f x y a b → Reaches x y a b
Reaches-of {w} {n} {f} x y a b h = record { waits = n; faults = f; step = LoopStep-wider x y a b h }

pub Reaches-refl : (x : Headless) (a : Seen) → Reaches x x a a
Reaches-refl x a = Reaches-of x x a a (LoopStep-refl x a)

pub Reaches-trans : (x y z : Headless) (a b c : Seen) → Reaches x y a b → Reaches y z b c → Reaches x z a c
Reaches-trans x y z a b c h q = record { waits = h.waits + q.waits; faults = h.faults + q.faults; step = LoopStep-sum refl refl x y z a b c h.step q.step }

reached-later : (x y : Headless) (a b : Seen) → Reaches x y a b → Later a b
reached-later x y a b h = later-of a b h.step

-- ---- a login was decided

pub HasDecided-later : (x y z : Headless) (a b c : Seen) → HasDecided x y a b → Reaches y z b c → HasDecided x z a c
HasDecided-later x y z a b c h q = record {
  link = h.link;
  from = h.from;
  begun = h.begun;
  to = h.to;
  ended = h.ended;
  first = h.first;
  decides = h.decides;
  last = Reaches-trans h.to y z h.ended b c h.last q;
}

decided-following : (x y z : Headless) (a b c : Seen) → Reaches x y a b → HasDecided y z b c → HasDecided x z a c
decided-following x y z a b c q h = record {
  link = h.link;
  from = h.from;
  begun = h.begun;
  to = h.to;
  ended = h.ended;
  first = Reaches-trans x y h.from a b h.begun q h.first;
  decides = h.decides;
  last = h.last;
}

decided-on : (link : ℕ) (x y z : Headless) (a b c : Seen) → Reaches x y a b → DecidesOn link y z b c → HasDecided x z a c
decided-on link x y z a b c first decides = record { link = link; from = y; begun = b; to = z; ended = c; first = first; decides = decides; last = Reaches-refl z c }

-- nothing was decided before
pub decided-first : (x y : Headless) (a b : Seen) → (false ≡ true) ⊎ HasDecided x y a b → HasDecided x y a b
decided-first x y a b (inl e) = absurd (false≢true e)
decided-first x y a b (inr h) = h

-- what was decided before or by one more link
pub decided-next : (early now : Bool) (link : ℕ) (x y z : Headless) (a b c : Seen) → Reaches x y a b → Reaches y z b c → (now ≡ true → (early ≡ true) ⊎ HasDecided x y a b) → DecidesBy now link y z b c → (early ≡ true) ⊎ HasDecided x z a c
decided-next early now link x y z a b c first next before (inl e) = by (before e)
  where
    by : (early ≡ true) ⊎ HasDecided x y a b → (early ≡ true) ⊎ HasDecided x z a c
    by (inl q) = inl q
    by (inr h) = inr (HasDecided-later x y z a b c h next)
decided-next early now link x y z a b c first next before (inr h) = inr (decided-on link x y z a b c first h)

pub HasDecided-next : (now : Bool) (link : ℕ) (x y z : Headless) (a b c : Seen) → Reaches x y a b → Reaches y z b c → (now ≡ true → HasDecided x y a b) → DecidesBy now link y z b c → HasDecided x z a c
HasDecided-next now link x y z a b c first next before by = decided-first x z a c (decided-next false now link x y z a b c first next (λ e. inr (before e)) by)

-- ---- a link is served, or it waits

-- what was served stays so
pub ServedAfter-later : (early : Bool) (k : ℕ) (x y z : Headless) (a b c : Seen) → IsServedAfter early k x y a b → NothingBecameReady b c → Reaches y z b c → IsServedAfter early k x z a c
ServedAfter-later early k x y z a b c (inl h) falls next = inl (IsReadUp-later k a b c h falls (reached-later y z b c next))
ServedAfter-later early k x y z a b c (inr w) falls next = inr (record {
  mid = w.mid;
  seen = w.seen;
  first = w.first;
  decided = w.decided;
  guest = w.guest;
  last = Reaches-trans w.mid y z w.seen b c w.last next;
})

pub IsServed-later : (k : ℕ) (x y z : Headless) (a b c : Seen) → IsServed k x y a b → NothingBecameReady b c → Reaches y z b c → IsServed k x z a c
IsServed-later k x y z a b c (inl h) falls next = inl (IsReadUp-later k a b c h falls (reached-later y z b c next))
IsServed-later k x y z a b c (inr w) falls next = inr (record { mid = w.mid; seen = w.seen; decided = w.decided; guest = w.guest; last = Reaches-trans w.mid y z w.seen b c w.last next })

pub IsServed-following : (k : ℕ) (x y z : Headless) (a b c : Seen) → Reaches x y a b → Reaches y z b c → IsServed k y z b c → IsServed k x z a c
IsServed-following k x y z a b c first next (inl h) = inl (IsReadUp-following k a b c (reached-later x y a b first) (reached-later y z b c next) h)
IsServed-following k x y z a b c first next (inr w) = inr (record { mid = w.mid; seen = w.seen; decided = decided-following x y w.mid a b w.seen first w.decided; guest = w.guest; last = w.last })

-- one more link is served, after what was decided by then
pub ServedAfter-next : (early now : Bool) (k : ℕ) (x y z : Headless) (a b c : Seen) → Reaches x y a b → Reaches y z b c → (now ≡ true → (early ≡ true) ⊎ HasDecided x y a b) → IsServedAfter now k y z b c → IsServedAfter early k x z a c
ServedAfter-next early now k x y z a b c first next before (inl h) = inl (IsReadUp-following k a b c (reached-later x y a b first) (reached-later y z b c next) h)
ServedAfter-next early now k x y z a b c first next before (inr w) = inr (record {
  mid = w.mid;
  seen = w.seen;
  first = Reaches-trans x y w.mid a b w.seen first w.first;
  decided = by w.decided;
  guest = w.guest;
  last = w.last;
})
  where
    since : (early ≡ true) ⊎ HasDecided x y a b → (early ≡ true) ⊎ HasDecided x w.mid a w.seen
    since (inl e) = inl e
    since (inr h) = inr (HasDecided-later x y w.mid a b w.seen h w.first)

    by : (now ≡ true) ⊎ HasDecided y w.mid b w.seen → (early ≡ true) ⊎ HasDecided x w.mid a w.seen
    by (inl e) = since (before e)
    by (inr h) = inr (decided-following x y w.mid a b w.seen first h)

-- where nothing was decided before
pub served-plain : (k : ℕ) (x y : Headless) (a b : Seen) → IsServedAfter false k x y a b → IsServed k x y a b
served-plain k x y a b (inl h) = inl h
served-plain k x y a b (inr w) = inr (record { mid = w.mid; seen = w.seen; decided = decided-first x w.mid a w.seen w.decided; guest = w.guest; last = w.last })

-- a link that is read after those that a wait named
pub rest-served : (k : ℕ) (x y z : Headless) (a b c : Seen) (decided : Bool) → Reaches x y a b → Reaches y z b c → (decided ≡ true → HasDecided x y a b) → IsServedAfter decided k y z b c → IsServed k x z a c
rest-served k x y z a b c decided first next before h = served-plain k x z a c (ServedAfter-next false decided k x y z a b c first next (λ now. inr (before now)) h)

-- ---- one slow login in a turn

pub ReadsGuests-append : {d e f : Bool} {x y z : Headless} {a b c : Seen} → ReadsGuests d e x y a b → ReadsGuests e f y z b c → ReadsGuests d f x z a c
ReadsGuests-append ends q = q
ReadsGuests-append (passes nothing reaches rest) q = passes nothing reaches (ReadsGuests-append rest q)
ReadsGuests-append (reads link alone guest rest) q = reads link alone guest (ReadsGuests-append rest q)

pub nothing-read : (a b : Seen) → TakesNothing a b → NothingRead a b
nothing-read a b h = record { bytes = h.bytes }

pub guests-later : (d e : Bool) (x y z : Headless) (a b c : Seen) → ReadsGuests d e x y a b → NothingRead b c → Reaches y z b c → ReadsGuests d e x z a c
guests-later d e x y z a b c h nothing next = ReadsGuests-append h (passes nothing next ends)

pub OneLogin-later : (d : Bool) (x y z : Headless) (a b c : Seen) → OneLogin d x y a b → NothingRead b c → Reaches y z b c → OneLogin d x z a c
OneLogin-later d x y z a b c h nothing next = record { by = h.by; guests = guests-later d h.by x y z a b c h.guests nothing next }

pub OneLogin-first : (d : Bool) (x y z : Headless) (a b c : Seen) → NothingRead a b → Reaches x y a b → OneLogin d y z b c → OneLogin d x z a c
OneLogin-first d x y z a b c nothing first h = record { by = h.by; guests = passes nothing first h.guests }

pub OneLogin-none : (d : Bool) (x y : Headless) (a b : Seen) → NothingRead a b → Reaches x y a b → OneLogin d x y a b
OneLogin-none d x y a b nothing first = record { by = d; guests = passes nothing first ends }

-- links that a wait named are read, and then others
pub both-once : (x y z : Headless) (a b c : Seen) (decided : Bool) → ReadsGuests false decided x y a b → OneLogin decided y z b c → OneLogin false x z a c
both-once x y z a b c decided h q = record { by = q.by; guests = ReadsGuests-append h q.guests }

-- ---- one link

-- that of a guest waits, where a login was decided
pub waits-now : (early : Bool) (k : ℕ) (x : Headless) (a : Seen) → early ≡ true → is_guest_on k x.core.connections ≡ true → IsServedAfter early k x x a a
waits-now early k x a decided guest = inr (record { mid = x; seen = a; first = Reaches-refl x a; decided = inl decided; guest = guest; last = Reaches-refl x a })

pub none-read : (early : Bool) (x : Headless) (a : Seen) → early ≡ true → ReadsGuests early true x x a a
none-read early x a decided = rw decided ends

-- it is read, and its login is decided by that or not
pub one-read : (early by : Bool) (link : ℕ) (x y : Headless) (a b : Seen) → ReadsAlone link x y a b → (early ≡ true → is_guest_on link x.core.connections ≡ false) → by ≡ (early || decides_on link x y) → ReadsGuests early by x y a b
one-read early by link x y a b alone guest e = reads link alone guest (subst (λ t. ReadsGuests (early || decides_on link x y) t y y b b) (sym e) ends)

pub by-early : (early : Bool) (link : ℕ) (x y : Headless) → early ≡ true → early ≡ (early || decides_on link x y)
by-early early link x y decided = rw decided refl

pub by-slow : (early : Bool) (link : ℕ) (x y : Headless) (slow guest : Bool) → early ≡ false → slow ≡ is_slow_on link x.core.connections → slow ≡ true → guest ≡ is_guest_on link y.core.connections → not guest ≡ (early || decides_on link x y)
by-slow early link x y slow guest yet is slowly still = rw (yet, sym is ∙ slowly, still) refl

pub by-quick : (early : Bool) (link : ℕ) (x y : Headless) (slow : Bool) → early ≡ false → slow ≡ is_slow_on link x.core.connections → slow ≡ false → slow ≡ (early || decides_on link x y)
by-quick early link x y slow yet is quickly = rw (yet, sym is ∙ quickly, quickly) refl
