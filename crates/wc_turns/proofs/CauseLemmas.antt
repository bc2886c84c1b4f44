-- Causes of closes go on standing.
use Rattle.std.proofs.Common.{◌≡◌, ◌⊎◌, inl, inr, ℕ, ◌<◌, ◌≤◌, Bool, true, false, ◌||◌, List, ◌∷◌, ◌++◌, [], All, IsTrue, refl, sym, ap, ◌∙◌, subst, arith, append_assoc}
use Rattle.std.proofs.lemmas.Bool.{false≢true}
use Rattle.std.proofs.lemmas.List.{append_cancel_left}
use Rattle.std.proofs.lemmas.List.Folds.{list_any-append}
use Rattle.std.proofs.lemmas.List.Elements.{All-weaker, All-nil, All-cons, All-head, All-tail, All-append}
use Rattle.wc_text.specs.declared.names.Cause.{Cause}
use Rattle.wc_text.specs.declared.names.Cause.TheVariants.{Ended as CauseEnded, Failed as CauseFailed, LoginFailed, NoMemory, Surplus, Quit as CauseQuit, Disconnected, NickTaken, BadSocket}
use Rattle.wc_outside.specs.Seen.{Seen}
use Rattle.wc_outside.specs.Faults.{NeverFall}
use Rattle.wc_outside.specs.declared.happening.Happening.{Happening}
use Rattle.wc_outside.specs.declared.happening.Happening.TheVariants.{Ended}
use Rattle.wc_core.specs.CoreView.{CoreView}
use Rattle.wc_turns.specs.declared.links.Closed.{Closed}
use Rattle.wc_turns.specs.declared.headless.Headless.{Headless}
use Rattle.wc_turns.specs.Events.{comes_on, has_come}
use Rattle.wc_turns.proofs.HeardLemmas.{socket-stays}
use Rattle.wc_turns.specs.Turns.{HasGained, GainsFrames, CausedBy, IsServers, IsOfServer, HasCause, IsAmong, HasReason, closed_so_far}

pub gained-later : (a b c : Seen) (h : Happening) (more : List Happening) → c.taken ≡ b.taken ++ more → HasGained a b h → HasGained a c h
gained-later a b c h more e g = record {
  front = g.front;
  rest = g.rest ++ more;
  taken = e ∙ ap (λ xs. xs ++ more) g.taken ∙ append_assoc a.taken (g.front ++ h ∷ g.rest) more ∙ ap (λ xs. a.taken ++ xs) (append_assoc g.front (h ∷ g.rest) more);
}

pub gained-following : (a b c : Seen) (h : Happening) (more : List Happening) → b.taken ≡ a.taken ++ more → HasGained b c h → HasGained a c h
gained-following a b c h more e g = record {
  front = more ++ g.front;
  rest = g.rest;
  taken = g.taken ∙ ap (λ xs. xs ++ (g.front ++ h ∷ g.rest)) e ∙ append_assoc a.taken more (g.front ++ h ∷ g.rest) ∙ ap (λ xs. a.taken ++ xs) (sym (append_assoc more g.front (h ∷ g.rest)));
}

-- an end was told, or bytes came on a WebSocket
ends-later : (link : ℕ) (a b c : Seen) (more : List Happening) → c.taken ≡ b.taken ++ more → HasGained a b (Ended (record { 0 = link })) ⊎ GainsFrames link a b → HasGained a c (Ended (record { 0 = link })) ⊎ GainsFrames link a c
ends-later link a b c more e (inl g) = inl (gained-later a b c _ more e g)
ends-later link a b c more e (inr g) = inr (record { bytes = g.bytes; gained = gained-later a b c _ more e g.gained; socket = rw e (socket-stays link b.taken more g.socket) })

ends-following : (link : ℕ) (a b c : Seen) (more : List Happening) → b.taken ≡ a.taken ++ more → HasGained b c (Ended (record { 0 = link })) ⊎ GainsFrames link b c → HasGained a c (Ended (record { 0 = link })) ⊎ GainsFrames link a c
ends-following link a b c more e (inl g) = inl (gained-following a b c _ more e g)
ends-following link a b c more e (inr g) = inr (record { bytes = g.bytes; gained = gained-following a b c _ more e g.gained; socket = g.socket })

later-by : (cause : Cause) (link : ℕ) (a b c : Seen) (more : List Happening) → (IsTrue c.tells → IsTrue b.tells) → (IsTrue c.tells → c.taken ≡ b.taken ++ more) → NeverFall b.faults c.faults → CausedBy cause link a b → CausedBy cause link a c
later-by CauseEnded link a b c more told taken counts h = λ t. ends-later link a b c more (taken t) (h (told t))
later-by CauseFailed link a b c more told taken counts h = (let p = h.0 in let q = counts.links in omega arith, λ t. gained-later a b c _ more (taken t) (h.1 (told t)))
later-by LoginFailed link a b c more told taken counts h = λ t. (let g = h (told t) in (g.0, gained-later a b c _ more (taken t) g.1))
later-by Surplus link a b c more told taken counts h = λ t. (let g = h (told t) in (g.0, gained-later a b c _ more (taken t) g.1))
later-by NoMemory link a b c more told taken counts h = tt
later-by CauseQuit link a b c more told taken counts h = λ t. (let g = h (told t) in (g.0, gained-later a b c _ more (taken t) g.1))
later-by Disconnected link a b c more told taken counts h = h
later-by NickTaken link a b c more told taken counts h = h
later-by BadSocket link a b c more told taken counts h = λ t. rw (taken t) (socket-stays link b.taken more (h (told t)))

following-by : (cause : Cause) (link : ℕ) (a b c : Seen) (more : List Happening) → (IsTrue c.tells → IsTrue b.tells) → (IsTrue b.tells → b.taken ≡ a.taken ++ more) → NeverFall a.faults b.faults → CausedBy cause link b c → CausedBy cause link a c
following-by CauseEnded link a b c more told taken counts h = λ t. ends-following link a b c more (taken (told t)) (h t)
following-by CauseFailed link a b c more told taken counts h = (let p = h.0 in let q = counts.links in omega arith, λ t. gained-following a b c _ more (taken (told t)) (h.1 t))
following-by LoginFailed link a b c more told taken counts h = λ t. (let g = h t in (g.0, gained-following a b c _ more (taken (told t)) g.1))
following-by Surplus link a b c more told taken counts h = λ t. (let g = h t in (g.0, gained-following a b c _ more (taken (told t)) g.1))
following-by NoMemory link a b c more told taken counts h = tt
following-by CauseQuit link a b c more told taken counts h = λ t. (let g = h t in (g.0, gained-following a b c _ more (taken (told t)) g.1))
following-by Disconnected link a b c more told taken counts h = h
following-by NickTaken link a b c more told taken counts h = h
following-by BadSocket link a b c more told taken counts h = h

All-among : (P : Closed → Type 0) (xs : List Closed) (x : Closed) → All P xs → IsAmong x xs → P x
All-among P [] x h i = absurd i
All-among P (y ∷ ys) x h (inl e) = subst P (sym e) (All-head P y ys h)
All-among P (y ∷ ys) x h (inr i) = All-among P ys x (All-tail P y ys h) i

-- no server comes to a link whose number is used
abbrev pub KeepsSides : CoreView → CoreView → Type 0
KeepsSides old new = (link : ℕ) → IsServers link new → IsServers link old

-- a client that comes has a new number, and no server
pub record Onward (old new : CoreView) (given : List Happening) : Type 0 where
  pub reached : old.servers.used ≤ new.servers.used
  pub comes : (link : ℕ) → has_come link given ≡ true → (old.servers.used < link) × (IsServers link new → ⊥)

-- none comes
pub Onward-none : (old new : CoreView) (given : List Happening) → old.servers.used ≤ new.servers.used → ((link : ℕ) → has_come link given ≡ false) → Onward old new given
Onward-none old new given reached none = record { reached = reached; comes = λ link e. absurd (false≢true (sym (none link) ∙ e)) }

pub Onward-trans : (a b c : CoreView) (more more' : List Happening) → KeepsSides b c → Onward a b more → Onward b c more' → Onward a c (more ++ more')
Onward-trans a b c more more' sides h g = record {
  reached = (let p = h.reached in let q = g.reached in omega arith);
  comes = λ link e. comes-by link (has_come link more) refl (sym (list_any-append (comes_on link) more more') ∙ e);
} where
  comes-by : (link : ℕ) (t : Bool) → has_come link more ≡ t → (has_come link more || has_come link more') ≡ true → (a.servers.used < link) × (IsServers link c → ⊥)
  comes-by link true e q = let first = h.comes link e in (first.0, λ s. first.1 (sides link s))
  comes-by link false e q =
      let second = g.comes link (rw e at q) in
      let p = h.reached in
      let above = second.0 in (omega arith, second.1)

-- no client came on a link in what is gained
uncome-both : (link : ℕ) (a b c : Seen) (more more' gained : List Happening) → b.taken ≡ a.taken ++ more → c.taken ≡ b.taken ++ more' → c.taken ≡ a.taken ++ gained → has_come link more ≡ false → has_come link more' ≡ false → has_come link gained ≡ false
uncome-both link a b c more more' gained e f g none none' =
    let same : gained ≡ more ++ more' = append_cancel_left a.taken gained (more ++ more') (sym g ∙ f ∙ ap (λ xs. xs ++ more') e ∙ append_assoc a.taken more more') in
    ap (has_come link) same ∙ list_any-append (comes_on link) more more' ∙ rw (none, none') refl

none-come : (link used : ℕ) (t : Bool) (b : Bool) → b ≡ t → (b ≡ true → used < link) → link ≤ used → b ≡ false
none-come link used true b e above low = absurd (let p = above e in omega arith)
none-come link used false b e above low = e

none-server : (b t : Bool) → b ≡ t → (b ≡ true → ⊥) → b ≡ false
none-server b true e h = absurd (h e)
none-server b false e h = e

-- where no client came, by what is gained
pub uncome-as : (link : ℕ) (a b : Seen) (given : List Happening) → (IsTrue b.tells → b.taken ≡ a.taken ++ given) → has_come link given ≡ false → IsTrue b.tells → (gained : List Happening) → b.taken ≡ a.taken ++ gained → has_come link gained ≡ false
uncome-as link a b given taken none t gained e = ap (has_come link) (append_cancel_left a.taken gained given (sym e ∙ taken t)) ∙ none

server-later : (x y z : Headless) (a b c : Seen) (more more' : List Happening) (d : Closed) → (IsTrue c.tells → IsTrue b.tells) → (IsTrue b.tells → b.taken ≡ a.taken ++ more) → (IsTrue c.tells → c.taken ≡ b.taken ++ more') → Onward y.core z.core more' → IsOfServer x y a b d → IsOfServer x z a c d
server-later x y z a b c more more' d told taken taken' onward s = record {
  side = s.side;
  drawn = (let p = onward.reached in let q = s.drawn in omega arith);
  uncome = λ t gained e. uncome-both d.link.0 a b c more more' gained (taken (told t)) (taken' t) e (s.uncome (told t) more (taken (told t)))
      (none-come d.link.0 y.core.servers.used (has_come d.link.0 more') (has_come d.link.0 more') refl (λ q. (onward.comes d.link.0 q).0) s.drawn);
}

server-following : (x y z : Headless) (a b c : Seen) (more more' : List Happening) (d : Closed) → (IsTrue c.tells → IsTrue b.tells) → (IsTrue b.tells → b.taken ≡ a.taken ++ more) → (IsTrue c.tells → c.taken ≡ b.taken ++ more') → KeepsSides x.core y.core → Onward x.core y.core more → IsOfServer y z b c d → IsOfServer x z a c d
server-following x y z a b c more more' d told taken taken' sides onward s = record {
  side = sides d.link.0 s.side;
  drawn = s.drawn;
  uncome = λ t gained e. uncome-both d.link.0 a b c more more' gained (taken (told t)) (taken' t) e
      (none-server (has_come d.link.0 more) (has_come d.link.0 more) refl (λ q. (onward.comes d.link.0 q).1 s.side)) (s.uncome t more' (taken' t));
}

-- each close has its reason over two steps
pub reasons-trans : (x y z : Headless) (a b c : Seen) (more more' : List Happening) → (IsTrue c.tells → IsTrue b.tells) → (IsTrue b.tells → b.taken ≡ a.taken ++ more) → (IsTrue c.tells → c.taken ≡ b.taken ++ more') → NeverFall a.faults b.faults → NeverFall b.faults c.faults
    → KeepsSides x.core y.core → Onward x.core y.core more → Onward y.core z.core more' → All (HasReason x y a b) (closed_so_far y) → All (HasReason y z b c) (closed_so_far z) → All (HasReason x z a c) (closed_so_far z)
reasons-trans x y z a b c more more' told taken taken' counts counts' sides onward onward' first second = All-weaker _ _ each (closed_so_far z) second
  where
    later : (d : Closed) → HasReason x y a b d → HasReason x z a c d
    later d (inl i) = inl i
    later d (inr (inl h)) = inr (inl (later-by d.cause d.link.0 a b c more' told taken' counts' h))
    later d (inr (inr server)) = inr (inr (server-later x y z a b c more more' d told taken taken' onward' server))

    each : (d : Closed) → HasReason y z b c d → HasReason x z a c d
    each d (inl i) = later d (All-among (HasReason x y a b) (closed_so_far y) d first i)
    each d (inr (inl h)) = inr (inl (following-by d.cause d.link.0 a b c more told taken counts h))
    each d (inr (inr server)) = inr (inr (server-following x y z a b c more more' d told taken taken' sides onward server))

-- the later moment has the same numbers drawn
pub causes-as : (x y z : Headless) (a b : Seen) → z.core.servers.used ≡ y.core.servers.used → (closed : List Closed) → All (HasCause x y a b) closed → All (HasCause x z a b) closed
causes-as x y z a b used closed h = All-weaker _ _ each closed h
  where
    each : (d : Closed) → HasCause x y a b d → HasCause x z a b d
    each d (inl c) = inl c
    each d (inr s) = inr (record { side = s.side; drawn = (let q = s.drawn in omega arith); uncome = s.uncome })

pub reasons-as : (x y z : Headless) (a b : Seen) → z.core.servers.used ≡ y.core.servers.used → (closed : List Closed) → All (HasReason x y a b) closed → All (HasReason x z a b) closed
reasons-as x y z a b used closed h = All-weaker _ _ each closed h
  where
    each : (d : Closed) → HasReason x y a b d → HasReason x z a b d
    each d (inl i) = inl i
    each d (inr (inl c)) = inr (inl c)
    each d (inr (inr s)) = inr (inr (record { side = s.side; drawn = (let q = s.drawn in omega arith); uncome = s.uncome }))

pub among-self : (xs : List Closed) → All (λ c. IsAmong c xs) xs
among-self [] = All-nil (λ c. IsAmong c [])
among-self (x ∷ xs) = All-cons (λ c. IsAmong c (x ∷ xs)) x xs (inl refl) (All-weaker (λ c. IsAmong c xs) (λ c. IsAmong c (x ∷ xs)) (λ c i. inr i) xs (among-self xs))

-- no close is new
pub reasons-same : (x y : Headless) (a b : Seen) → closed_so_far y ≡ closed_so_far x → All (HasReason x y a b) (closed_so_far y)
reasons-same x y a b e = rw e (All-weaker (λ c. IsAmong c (closed_so_far x)) (HasReason x y a b) (λ c i. inl i) (closed_so_far x) (among-self (closed_so_far x)))

-- new closes come after those before, and each of them has its cause
pub reasons-more : (x y : Headless) (a b : Seen) (closed : List Closed) → closed_so_far y ≡ closed_so_far x ++ closed → All (HasCause x y a b) closed → All (HasReason x y a b) (closed_so_far y)
reasons-more x y a b closed e h = rw e
    (All-append (HasReason x y a b) (closed_so_far x) closed (All-weaker (λ c. IsAmong c (closed_so_far x)) (HasReason x y a b) (λ c i. inl i) (closed_so_far x) (among-self (closed_so_far x))) (All-weaker (HasCause x y a b) (HasReason x y a b) (λ c i. inr i) closed h))

-- what a turn closed is caused in it, where nothing is left to close at its begin
pub turn-reasons : (x z w : Headless) (a b c : Seen) (more more' : List Happening) → (IsTrue c.tells → IsTrue b.tells) → (IsTrue b.tells → b.taken ≡ a.taken ++ more) → (IsTrue c.tells → c.taken ≡ b.taken ++ more') → NeverFall a.faults b.faults → NeverFall b.faults c.faults
    → KeepsSides x.core z.core → Onward x.core z.core more → Onward z.core w.core more' → All (HasCause x z a b) (closed_so_far z) → All (HasReason z w b c) (closed_so_far w) → All (HasCause x w a c) (closed_so_far w)
turn-reasons x z w a b c more more' told taken taken' counts counts' sides onward onward' first second = All-weaker _ _ each (closed_so_far w) second
  where
    later : (d : Closed) → HasCause x z a b d → HasCause x w a c d
    later d (inl h) = inl (later-by d.cause d.link.0 a b c more' told taken' counts' h)
    later d (inr server) = inr (server-later x z w a b c more more' d told taken taken' onward' server)

    each : (d : Closed) → HasReason z w b c d → HasCause x w a c d
    each d (inl i) = later d (All-among (HasCause x z a b) (closed_so_far z) d first i)
    each d (inr (inl h)) = inl (following-by d.cause d.link.0 a b c more told taken counts h)
    each d (inr (inr server)) = inr (server-following x z w a b c more more' d told taken taken' sides onward server)
