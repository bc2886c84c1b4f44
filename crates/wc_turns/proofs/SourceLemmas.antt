-- How the sources that are ready are served.
use Rattle.std.proofs.Common.{◌≡◌, ◌≢◌, ℕ, ◌+◌, ◌≤◌, inl, inr, Bool, true, false, not, cond, eqb, ◌&&◌, List, [], ◌∷◌, ◌++◌, length, take, Option, Some, None, is_some, IsTrue, refl, sym, ap, ◌∙◌, arith}
use Rattle.std.specs.List.{flat_map}
use Rattle.std.proofs.lemmas.Bool.{false≢true}
use Rattle.std.proofs.lemmas.Bool.Decides.{nat_tests}
use Rattle.std.proofs.lemmas.Grind.{flat_map-append}
use Rattle.std.proofs.lemmas.List.{length-append, length-take}
use Rattle.wc_text.specs.declared.names.LinkId.{LinkId}
use Rattle.wc_outside.specs.Seen.{Seen}
use Rattle.wc_outside.specs.declared.happening.Happening.{Happening}
use Rattle.wc_outside.specs.declared.happening.Happening.TheVariants.{Read, Accepted}
use Rattle.wc_turns.specs.declared.headless.Headless.{Headless}
use Rattle.wc_outside.specs.Keyed.{at_key}
use Rattle.wc_framing.specs.declared.framing.Framing.{Framing}
use Rattle.wc_framing.specs.declared.framing.Framing.TheVariants as framing
use Rattle.wc_framing.specs.Framing.{is_socket}
use Rattle.wc_turns.specs.declared.links.LinkState.{LinkState}
use Rattle.wc_turns.specs.Framed.{frames_in}
use Rattle.wc_turns.specs.Links.{link_number, frames_of, is_socket_at}
use Rattle.wc_turns.specs.Events.{bytes_on}
use Rattle.wc_turns.specs.Parties.{unsent_on}
use Rattle.wc_turns.specs.Sources.{bytes_taken, arrivals, NothingBecameReady, IsReadUp, IsHeard, IsPut, IsWritten, TakesNothing}
use Rattle.wc_turns.specs.Turns.{LoopStep, left_as, left_on}

-- what was taken goes on
pub record Later (before after : Seen) : Type 0 where
  pub told : IsTrue after.tells → IsTrue before.tells
  pub more : List Happening
  pub taken : IsTrue after.tells → after.taken ≡ before.taken ++ more

pub later-of : {w : Bool} {n f : ℕ} {x y : Headless} (a b : Seen) → LoopStep w n f x y a b → Later a b
later-of a b h = record { told = h.told; more = h.gained; taken = h.taken }

pub bytes_taken-append : (link : ℕ) (xs ys : List Happening) → bytes_taken link (xs ++ ys) ≡ bytes_taken link xs + bytes_taken link ys
bytes_taken-append link xs ys = ap length (flat_map-append (bytes_on link) xs ys) ∙ length-append (flat_map (bytes_on link) xs) (flat_map (bytes_on link) ys)

pub arrivals-append : (xs ys : List Happening) → arrivals (xs ++ ys) ≡ arrivals xs + arrivals ys
arrivals-append [] ys = omega arith
arrivals-append (x ∷ xs) ys = let e = arrivals-append xs ys in omega arith

pub bytes-later : (k : ℕ) (a b : Seen) → Later a b → IsTrue b.tells → bytes_taken k a.taken ≤ bytes_taken k b.taken
bytes-later k a b h t = let e = ap (bytes_taken k) (h.taken t) in let q = bytes_taken-append k a.taken h.more in omega arith

pub arrivals-later : (a b : Seen) → Later a b → IsTrue b.tells → arrivals a.taken ≤ arrivals b.taken
arrivals-later a b h t = let e = ap arrivals (h.taken t) in let q = arrivals-append a.taken h.more in omega arith

pub NothingBecameReady-refl : (a : Seen) → NothingBecameReady a a
NothingBecameReady-refl a = record { undrained = λ k e. e; listening = λ e. e }

pub NothingBecameReady-trans : (a b c : Seen) → NothingBecameReady a b → NothingBecameReady b c → NothingBecameReady a c
NothingBecameReady-trans a b c h g = record { undrained = λ k e. h.undrained k (g.undrained k e); listening = λ e. h.listening (g.listening e) }

-- a call that makes nothing ready
pub NothingBecameReady-same : (a b : Seen) → ((k : ℕ) → b.undrained k ≡ a.undrained k) → b.listening ≡ a.listening → NothingBecameReady a b
NothingBecameReady-same a b undrained listening = record { undrained = λ k e. sym (undrained k) ∙ e; listening = λ e. sym listening ∙ e }

and-first : (b c : Bool) → (b && c) ≡ true → b ≡ true
and-first true c e = refl
and-first false c e = e

pub NothingBecameReady-drained : (a b : Seen) (f : ℕ → Bool) → ((k : ℕ) → b.undrained k ≡ (a.undrained k && f k)) → b.listening ≡ a.listening → NothingBecameReady a b
NothingBecameReady-drained a b f undrained listening = record { undrained = λ k e. and-first _ (f k) (sym (undrained k) ∙ e); listening = λ e. sym listening ∙ e }

pub NothingBecameReady-listened : (a b : Seen) (f : Bool) → ((k : ℕ) → b.undrained k ≡ a.undrained k) → b.listening ≡ (a.listening && f) → NothingBecameReady a b
NothingBecameReady-listened a b f undrained listening = record { undrained = λ k e. sym (undrained k) ∙ e; listening = λ e. and-first _ f (sym listening ∙ e) }

-- a source that was served stays served, and what was served after is served
pub IsReadUp-later : (k : ℕ) (a b c : Seen) → IsReadUp k a b → NothingBecameReady b c → Later b c → IsReadUp k a c
IsReadUp-later k a b c h falls later = λ t e. (let p = h (later.told t) (falls.undrained k e) in let q = bytes-later k b c later t in omega arith)

pub IsReadUp-following : (k : ℕ) (a b c : Seen) → Later a b → Later b c → IsReadUp k b c → IsReadUp k a c
IsReadUp-following k a b c first later h = λ t e. (let p = bytes-later k a b first (later.told t) in let q = h t e in omega arith)

pub IsReadUp-drained : (k : ℕ) (a b : Seen) → b.undrained k ≡ false → IsReadUp k a b
IsReadUp-drained k a b drained = λ t e. absurd (false≢true (sym drained ∙ e))

pub IsHeard-later : (a b c : Seen) → IsHeard a b → NothingBecameReady b c → Later b c → IsHeard a c
IsHeard-later a b c h falls later = λ t e. (let p = h (later.told t) (falls.listening e) in let q = arrivals-later b c later t in omega arith)

pub IsHeard-following : (a b c : Seen) → Later a b → Later b c → IsHeard b c → IsHeard a c
IsHeard-following a b c first later h = λ t e. (let p = arrivals-later a b first (later.told t) in let q = h t e in omega arith)

pub IsHeard-drained : (a b : Seen) → b.listening ≡ false → IsHeard a b
IsHeard-drained a b drained = λ t e. absurd (false≢true (sym drained ∙ e))

-- what is to be sent on a link stays
pub record SameLeft (k : ℕ) (x y : Headless) : Type 0 where
  pub frames : frames_of (at_key link_number k y.links.opened.items) ≡ frames_of (at_key link_number k x.links.opened.items)
  pub unsent : unsent_on k y.core ≡ unsent_on k x.core

pub socket-frames : (o : Option LinkState) → is_socket_at o ≡ is_some (frames_of o)
socket-frames None = refl
socket-frames (Some state) = by state.framing
  where
    by : (f : Framing) → is_socket f ≡ is_some (frames_in f)
    by framing.Undecided = refl
    by framing.Plain = refl
    by (framing.Socket link) = refl

pub left-same : (k : ℕ) (x y : Headless) → SameLeft k x y → left_on k y ≡ left_on k x
left-same k x y same = ap (λ o. left_as o (unsent_on k y.core)) same.frames ∙ ap (left_as (frames_of (at_key link_number k x.links.opened.items))) same.unsent

pub put-same : (k : ℕ) (x y : Headless) → SameLeft k x y → IsPut k x → IsPut k y
put-same k x y same h =
    let socket : is_socket_at (at_key link_number k y.links.opened.items) ≡ is_socket_at (at_key link_number k x.links.opened.items) = socket-frames (at_key link_number k y.links.opened.items) ∙ ap is_some same.frames ∙ sym (socket-frames (at_key link_number k x.links.opened.items)) in
    rw (socket, same.unsent) h

-- where that is so, and the link has no more room than before
pub IsWritten-later : (k : ℕ) (x y : Headless) (a b : Seen) → SameLeft k x y → b.blocked k ≡ a.blocked k → IsWritten k x a → IsWritten k y b
IsWritten-later k x y a b same h (inl p) = inl (record { left = left-same k x y same ∙ p.left; put = put-same k x y same p.put })
IsWritten-later k x y a b same h (inr q) = inr (h ∙ q)

pub kept-other : (k link : ℕ) (b : Bool) → k ≢ link → (b && not (eqb k link)) ≡ b
kept-other k link true n = grind (arith, nat_tests)
kept-other k link false n = refl

pub dropped-same : (b : Bool) (link : ℕ) → (b && not (eqb link link)) ≡ false
dropped-same true link = grind (arith, nat_tests)
dropped-same false link = refl

pub not-leaving : (k link : ℕ) → eqb link k ≡ false → k ≢ link
not-leaving k link e q = grind (arith, nat_tests)

pub drained-found : (b : Bool) (link : ℕ) → (b && not (eqb link link && true)) ≡ false
drained-found true link = grind (arith, nat_tests)
drained-found false link = refl

-- the bytes that a read gave
pub bytes-read : (link : LinkId) (count : ℕ) (buffer : List ℕ) (before after : List Happening) → after ≡ before ++ Read link (take count buffer) ∷ [] → count ≤ length buffer → bytes_taken link.0 before + count ≤ bytes_taken link.0 after
bytes-read link count buffer before after e within =
    let all = ap (bytes_taken link.0) e in
    let parts = bytes_taken-append link.0 before (Read link (take count buffer) ∷ []) in
    let here : eqb link.0 link.0 ≡ true = grind (arith, nat_tests) in
    let read : bytes_taken link.0 (Read link (take count buffer) ∷ []) ≡ length (take count buffer ++ []) = rw here refl in
    let size = length-append (take count buffer) [] in
    let front = length-take count buffer in
    omega arith

pub and-true-not : (b : Bool) → (b && not true) ≡ false
and-true-not true = refl
and-true-not false = refl

-- a client that came
pub arrivals-came : (link : LinkId) (nonce : List ℕ) (before after last : List Happening) (more : List Happening) → after ≡ before ++ Accepted link nonce ∷ [] → last ≡ after ++ more → arrivals before + 1 ≤ arrivals last
arrivals-came link nonce before after last more e q =
    let all = ap arrivals q in
    let parts = arrivals-append after more in
    let first = ap arrivals e in
    let one = arrivals-append before (Accepted link nonce ∷ []) in
    omega arith

pub blocked-here : (link : ℕ) (b c : Bool) → cond (eqb link link) b c ≡ b
blocked-here link b c = let here : eqb link link ≡ true = grind (arith, nat_tests) in rw here refl

pub blocked-other : (k link : ℕ) (b c : Bool) → k ≢ link → cond (eqb k link) b c ≡ c
blocked-other k link b c n = let other : eqb k link ≡ false = grind (arith, nat_tests) in rw other refl

pub no-bytes : (bytes : List ℕ) → eqb (length bytes) 0 ≡ true → bytes ≡ []
no-bytes [] e = refl
no-bytes (b ∷ bytes) e = absurd (let n : length (b ∷ bytes) ≢ 0 = (λ q. omega arith) in grind (arith, nat_tests))

-- no byte was taken of a link, and no client came
pub TakesNothing-refl : (a : Seen) → TakesNothing a a
TakesNothing-refl a = record { bytes = λ t k. refl; clients = λ t. refl }

pub TakesNothing-trans : (a b c : Seen) → (IsTrue c.tells → IsTrue b.tells) → TakesNothing a b → TakesNothing b c → TakesNothing a c
TakesNothing-trans a b c told h g = record { bytes = λ t k. g.bytes t k ∙ h.bytes (told t) k; clients = λ t. g.clients t ∙ h.clients (told t) }

-- happenings that take nothing were added
pub TakesNothing-call : (a b : Seen) (given : List Happening) → (IsTrue b.tells → b.taken ≡ a.taken ++ given) → ((k : ℕ) → bytes_taken k given ≡ 0) → arrivals given ≡ 0 → TakesNothing a b
TakesNothing-call a b given taken none nobody = record {
  bytes = λ t k. (let e = ap (bytes_taken k) (taken t) in let q = bytes_taken-append k a.taken given in let z = none k in omega arith);
  clients = λ t. (let e = ap arrivals (taken t) in let q = arrivals-append a.taken given in omega arith);
}
