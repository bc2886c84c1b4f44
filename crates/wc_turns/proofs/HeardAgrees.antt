-- What the loop keeps is what was heard makes of it.
use Rattle.std.proofs.Common.{◌≡◌, ◌≢◌, ◌⊎◌, inl, inr, ℕ, ◌+◌, ◌-◌, ◌^◌, ◌<◌, ◌≤◌, Bool, true, false, cond, eqb, ◌&&◌, ◌||◌, min, List, [], ◌∷◌, ◌++◌, length, Option, Some, None, IfSome, is_some, is_none, refl, sym, ap, ◌∙◌, subst, arith}
use Rattle.std.specs.List.{flat_map}
use Rattle.std.proofs.lemmas.List.{append-nil, length-append}
use Rattle.std.proofs.lemmas.List.Folds.{list_any-append}
use Rattle.std.proofs.lemmas.Grind.{flat_map-append}
use Rattle.std.proofs.lemmas.Bool.{false≢true}
use Rattle.std.proofs.lemmas.Bool.Decides.{nat_tests}
use Rattle.wc_text.specs.declared.names.LinkId.{LinkId}
use Rattle.wc_outside.specs.declared.happening.Happening.{Happening}
use Rattle.wc_outside.specs.declared.happening.Happening.TheVariants.{Accepted}
use Rattle.wc_outside.specs.Keyed.{at_key, without}
use Rattle.wc_framing.specs.declared.framing.Framing.{Framing}
use Rattle.wc_framing.specs.declared.framing.Framing.TheVariants as framing
use Rattle.wc_framing.specs.Framing.{silent, is_socket}
use Rattle.wc_framing.specs.Opening.{begins}
use Rattle.wc_framing.proofs.FramingLemmas.{FramedAs-silent, plain-silent}
use Rattle.wc_framing.proofs.OpeningLemmas.{undecided-no}
use Rattle.wc_turns.specs.declared.links.LinkState.{LinkState}
use Rattle.wc_turns.specs.Events.{bytes_on, comes_on, has_come, socket_on, tail_as, tail_on, events_of, whole}
use Rattle.wc_turns.specs.Framed.{first_framing}
use Rattle.wc_turns.specs.Heard.{Heard, Happened, happened, happenings}
use Rattle.wc_turns.specs.Lines.{rest}
use Rattle.wc_turns.specs.Links.{Kind, link_number, kind_of, is_socket_at}
use Rattle.wc_turns.specs.Steps.{SameTails, SameKinds}
use Rattle.wc_turns.specs.Tails.{IsTail}
use Rattle.wc_turns.specs.Turns.{AgreesWithHeard, FramedFor, IsFramed, frames_text}
use Rattle.wc_turns.proofs.KeyedLemmas.{at_key-filter_other, at_key-filter_same}
use Rattle.wc_turns.proofs.AgreesLemmas.{IfSome-None}
use Rattle.wc_turns.proofs.RunLemmas.{events_from-push}
use Rattle.wc_turns.proofs.HeardLemmas.{IsQuiet, happenings-push, socket-fresh, tail_as-is, tail-quiet, frames-push, frames-quiet, quiet-arrival}

-- how many events are reached after one more thing was heard
pub heard-more : (ran ran' : ℕ) (history : List Heard) (h : Heard) → ran ≡ min (length (whole history)) (2 ^ 64 - 1) → ran' ≡ min (ran + length (events_of history h)) (2 ^ 64 - 1) → ran' ≡ min (length (whole (history ++ h ∷ []))) (2 ^ 64 - 1)
heard-more ran ran' history h e f = let l = ap length (events_from-push [] history h) in let m = length-append (whole history) (events_of history h) in omega arith

pub bytes-quiet : (k : ℕ) (taken : List Happening) (h : Heard) → IsQuiet k h → flat_map (bytes_on k) (taken ++ happened h) ≡ flat_map (bytes_on k) taken
bytes-quiet k taken h q = flat_map-append (bytes_on k) taken (happened h) ∙ ap (λ bs. flat_map (bytes_on k) taken ++ bs) q.bytes ∙ append-nil (flat_map (bytes_on k) taken)

or-none : (b : Bool) → (b || false) ≡ b
or-none true = refl
or-none false = refl

pub come-quiet : (k : ℕ) (taken : List Happening) (h : Heard) → IsQuiet k h → has_come k (taken ++ happened h) ≡ has_come k taken
come-quiet k taken h q = list_any-append (comes_on k) taken (happened h) ∙ ap (λ t. has_come k taken || t) q.nobody ∙ or-none (has_come k taken)

-- what adds nothing to any link
pub Hears-quiet : (states : List LinkState) (used used' ran ran' : ℕ) (taken : List Happening) (history : List Heard) (h : Heard) → happenings history ≡ taken → ((k : ℕ) → IsQuiet k h) → used ≤ used' → ran' ≡ min (ran + length (events_of history h)) (2 ^ 64 - 1)
    → AgreesWithHeard states used ran taken history → AgreesWithHeard states used' ran' (taken ++ happened h) (history ++ h ∷ [])
Hears-quiet states used used' ran ran' taken history h spells q more count s = record {
  tails = λ k. rw (tail-quiet k taken history h spells (q k)) (s.tails k);
  framed = λ k. rw (bytes-quiet k taken h (q k), frames-quiet k history h (q k)) (s.framed k);
  came = λ k. rw (come-quiet k taken h (q k)) (s.came k);
  uncome = λ k l. come-quiet k taken h (q k) ∙ s.uncome k (omega arith);
  unframed = λ k l. frames-quiet k history h (q k) ∙ s.unframed k (omega arith);
  events = heard-more ran ran' history h s.events count;
}

-- more link numbers are used
pub Hears-used : (states : List LinkState) (used used' ran : ℕ) (taken : List Happening) (history : List Heard) → used ≤ used' → AgreesWithHeard states used ran taken history → AgreesWithHeard states used' ran taken history
Hears-used states used used' ran taken history more s = record {
  tails = s.tails;
  framed = s.framed;
  came = s.came;
  uncome = λ k l. s.uncome k (omega arith);
  unframed = λ k l. s.unframed k (omega arith);
  events = s.events;
}

-- ---- links that are read the same

-- what matters of a link as it is read: its server, how its bytes are framed, and whether it ended
pub record Reading : Type 0 where
  pub server : Option (List ℕ)
  pub framing : Framing
  pub ended : Bool

abbrev pub reading_of : Option LinkState → Option Reading
reading_of (Some state) = Some (record { server = state.server; framing = silent state.framing; ended = state.ended })
reading_of None = None

-- links are read the same, or are not there any more
abbrev pub SameReadings : List LinkState → List LinkState → Type 0
SameReadings old new = (k : ℕ) → (at_key link_number k new ≡ None) ⊎ (reading_of (at_key link_number k new) ≡ reading_of (at_key link_number k old))

abbrev reading_in : Option Kind → Option Reading
reading_in (Some kind) = Some (record { server = kind.server; framing = kind.framing; ended = kind.ended })
reading_in None = None

kind-reading : (o : Option LinkState) → reading_of o ≡ reading_in (kind_of o)
kind-reading (Some state) = refl
kind-reading None = refl

pub readings-kinds : (states states' : List LinkState) → SameKinds states states' → SameReadings states states'
readings-kinds states states' kinds = λ k. by k (kinds k)
  where
    by : (k : ℕ) → (at_key link_number k states' ≡ None) ⊎ (kind_of (at_key link_number k states') ≡ kind_of (at_key link_number k states)) → (at_key link_number k states' ≡ None) ⊎ (reading_of (at_key link_number k states') ≡ reading_of (at_key link_number k states))
    by k (inl e) = inl e
    by k (inr e) = inr (kind-reading (at_key link_number k states') ∙ ap reading_in e ∙ sym (kind-reading (at_key link_number k states)))

abbrev server_in : Option Reading → Option (List ℕ)
server_in None = None
server_in (Some reading) = reading.server

abbrev framing_in : Framing → Option Reading → Framing
framing_in none None = none
framing_in none (Some reading) = reading.framing

abbrev ended_in : Option Reading → Bool
ended_in None = false
ended_in (Some reading) = reading.ended

socket-framing : (f g : Framing) → silent g ≡ silent f → is_socket g ≡ is_socket f
socket-framing f g e = socket-silent g ∙ ap is_socket e ∙ sym (socket-silent f)
  where
    socket-silent : (f : Framing) → is_socket f ≡ is_socket (silent f)
    socket-silent framing.Undecided = refl
    socket-silent framing.Plain = refl
    socket-silent (framing.Socket link) = refl

framed-for : (bytes text : List ℕ) (server : Option (List ℕ)) (ended : Bool) (f g : Framing) → silent g ≡ silent f → FramedFor server ended bytes text f → FramedFor server ended bytes text g
framed-for bytes text None true f g e h = (h.0, socket-framing f g e ∙ h.1)
framed-for bytes text None false f g e h = FramedAs-silent bytes text f g e h
framed-for bytes text (Some name) ended f g e h = (h.0, plain-silent g (e ∙ ap silent h.1))

framed-as : (bytes text : List ℕ) (o o' : Option LinkState) → reading_of o' ≡ reading_of o → IfSome o (IsFramed bytes text) → IfSome o' (IsFramed bytes text)
framed-as bytes text o None e h = tt
framed-as bytes text None (Some new) e h = absurd (let q : reading_of (Some new) ≡ None = e in cc)
framed-as bytes text (Some old) (Some new) e h =
    let server : new.server ≡ old.server = ap server_in e in
    let ended : new.ended ≡ old.ended = ap ended_in e in
    rw (server, ended) (framed-for bytes text old.server old.ended old.framing new.framing (ap (framing_in old.framing) e) h)

came-as : (t : Bool) (o o' : Option LinkState) → reading_of o' ≡ reading_of o → IfSome o (λ state. t ≡ is_none state.server) → IfSome o' (λ state. t ≡ is_none state.server)
came-as t o None e h = tt
came-as t None (Some new) e h = absurd (let q : reading_of (Some new) ≡ None = e in cc)
came-as t (Some old) (Some new) e h = h ∙ ap (λ r. is_none (server_in r)) (sym e)

some-or : (P : LinkState → Type 0) (o o' : Option LinkState) → (o' ≡ None) ⊎ (reading_of o' ≡ reading_of o) → (reading_of o' ≡ reading_of o → IfSome o' P) → IfSome o' P
some-or P o o' (inl e) f = IfSome-None o' P e
some-or P o o' (inr e) f = f e

pub Hears-states : (states states' : List LinkState) (used ran : ℕ) (taken : List Happening) (history : List Heard) → SameTails states states' → SameReadings states states' → AgreesWithHeard states used ran taken history → AgreesWithHeard states' used ran taken history
Hears-states states states' used ran taken history same readings s = record {
  tails = λ k. same k (tail_on k history) (s.tails k);
  framed = λ k. some-or (IsFramed (flat_map (bytes_on k) taken) (frames_text k history)) (at_key link_number k states) (at_key link_number k states') (readings k) (λ e. framed-as (flat_map (bytes_on k) taken) (frames_text k history) (at_key link_number k states) (at_key link_number k states') e (s.framed k));
  came = λ k. some-or (λ state. has_come k taken ≡ is_none state.server) (at_key link_number k states) (at_key link_number k states') (readings k) (λ e. came-as (has_come k taken) (at_key link_number k states) (at_key link_number k states') e (s.came k));
  uncome = s.uncome;
  unframed = s.unframed;
  events = s.events;
}

socket-reading : (o o' : Option LinkState) → reading_of o' ≡ reading_of o → is_socket_at o' ≡ is_socket_at o
socket-reading o None e = by o e
  where
    by : (o : Option LinkState) → reading_of None ≡ reading_of o → is_socket_at None ≡ is_socket_at o
    by None q = refl
    by (Some old) q = absurd (cc q)
socket-reading None (Some new) e = absurd (let q : reading_of (Some new) ≡ None = e in cc)
socket-reading (Some old) (Some new) e = socket-framing old.framing new.framing (ap (framing_in old.framing) e)

-- a WebSocket among links of the same kind was one
pub socket-kinds : (o o' : Option LinkState) → (o' ≡ None) ⊎ (kind_of o' ≡ kind_of o) → is_socket_at o' ≡ true → is_socket_at o ≡ true
socket-kinds o o' (inl e) h = absurd (false≢true (sym (ap is_socket_at e) ∙ h))
socket-kinds o o' (inr e) h = sym (socket-reading o o' (kind-reading o' ∙ ap reading_in e ∙ sym (kind-reading o))) ∙ h

without-by : (j k : ℕ) (b : Bool) → eqb k j ≡ b → (states : List LinkState) (line : List ℕ) → IfSome (at_key link_number k states) (λ state. IsTail line state.tail) → IfSome (at_key link_number k (without link_number j states)) (λ state. IsTail line state.tail)
without-by j k true e states line h = let same : j ≡ k = grind (arith, nat_tests) in IfSome-None _ _ (subst (λ i. at_key link_number k (without link_number i states) ≡ None) (sym same) (at_key-filter_same link_number k states))
without-by j k false e states line h = let other : k ≢ j = λ q. grind (arith, nat_tests) in rw (at_key-filter_other link_number j k states other) h

pub SameTails-without : (j : ℕ) (states : List LinkState) → SameTails states (without link_number j states)
SameTails-without j states = λ k line h. without-by j k (eqb k j) refl states line h

-- ---- a link comes, or is asked for

-- of a new link at the end, and of the others
at-end : (P : LinkState → Type 0) (states : List LinkState) (state : LinkState) (k : ℕ) → (link_number state ≡ k → P state) → IfSome (at_key link_number k states) P → IfSome (at_key link_number k (states ++ state ∷ [])) P
at-end P [] state k t h = came-by (eqb (link_number state) k) refl
  where
    came-by : (b : Bool) → eqb (link_number state) k ≡ b → IfSome (cond b (Some state) None) P
    came-by true e = t (grind (arith, nat_tests))
    came-by false e = tt
at-end P (u ∷ us) state k t h = following-by (eqb (link_number u) k) (at-end P us state k t) h
  where
    following-by : (b : Bool) → (IfSome (at_key link_number k us) P → IfSome (at_key link_number k (us ++ state ∷ [])) P) → IfSome (cond b (Some u) (at_key link_number k us)) P → IfSome (cond b (Some u) (at_key link_number k (us ++ state ∷ []))) P
    following-by true f g = g
    following-by false f g = f g

-- a new link that is no WebSocket is at the end
pub socket-came : (states : List LinkState) (state : LinkState) (k : ℕ) → is_socket state.framing ≡ false → is_socket_at (at_key link_number k (states ++ state ∷ [])) ≡ true → is_socket_at (at_key link_number k states) ≡ true
socket-came [] state k plain e = came-by (eqb (link_number state) k) e
  where
    came-by : (b : Bool) → is_socket_at (cond b (Some state) None) ≡ true → false ≡ true
    came-by true q = sym plain ∙ q
    came-by false q = q
socket-came (u ∷ us) state k plain e = following-by (eqb (link_number u) k) (socket-came us state k plain) e
  where
    following-by : (b : Bool) → (is_socket_at (at_key link_number k (us ++ state ∷ [])) ≡ true → is_socket_at (at_key link_number k us) ≡ true) → is_socket_at (cond b (Some u) (at_key link_number k (us ++ state ∷ []))) ≡ true → is_socket_at (cond b (Some u) (at_key link_number k us)) ≡ true
    following-by true f q = q
    following-by false f q = f q

-- a link that is new: no line has begun, and nothing is known of its bytes
pub record IsNewLink (state : LinkState) : Type 0 where
  pub tail : state.tail ≡ record { line = []; over = false }
  pub framing : state.framing ≡ first_framing (is_some state.server)
  pub ended : state.ended ≡ false

new-tail : (k : ℕ) (taken : List Happening) (history : List Heard) (state : LinkState) → happenings history ≡ taken → IsNewLink state → flat_map (bytes_on k) taken ≡ [] → IsTail (tail_on k history) state.tail
new-tail k taken history state spells new none =
    let plain : socket_on k (happenings history) ≡ false = socket-fresh k (happenings history) (ap (flat_map (bytes_on k)) spells ∙ none) in
    let is : tail_on k history ≡ [] = ap (λ t. tail_as t k history) plain ∙ tail_as-is false k taken history spells ∙ ap (rest []) none in
    rw (is, new.tail) (record { bounded = omega arith; short = λ q. refl; long = λ q. absurd (false≢true q) })

new-framed : (server : Option (List ℕ)) (bytes text : List ℕ) → bytes ≡ [] → text ≡ [] → FramedFor server false bytes text (first_framing (is_some server))
new-framed None bytes text none nothing = rw (none, nothing) (refl, refl)
new-framed (Some name) bytes text none nothing = (refl, refl)

framed-new : (k : ℕ) (taken : List Happening) (history : List Heard) (state : LinkState) → IsNewLink state → flat_map (bytes_on k) taken ≡ [] → frames_text k history ≡ [] → IsFramed (flat_map (bytes_on k) taken) (frames_text k history) state
framed-new k taken history state new none nothing = rw (new.ended, new.framing) (new-framed state.server (flat_map (bytes_on k) taken) (frames_text k history) none nothing)

-- a connection is asked for
pub Hears-asked : (states : List LinkState) (used used' ran : ℕ) (taken : List Happening) (history : List Heard) (link : LinkId) (state : LinkState) → happenings history ≡ taken → link.0 ≡ used + 1 → used' ≡ used + 1 → state.link ≡ link → IsNewLink state → is_some state.server ≡ true → ((k : ℕ) → used < k → flat_map (bytes_on k) taken ≡ [])
    → AgreesWithHeard states used ran taken history → AgreesWithHeard (states ++ state ∷ []) used' ran taken history
Hears-asked states used used' ran taken history link state spells next next' key new server fresh s =
    let number : link_number state ≡ link.0 = ap (λ (l : LinkId). l.0) key in
    let above : used < link_number state = omega arith in
    record {
      tails = λ k. at-end (λ u. IsTail (tail_on k history) u.tail) states state k (λ e. new-tail k taken history state spells new (fresh k (subst (λ n. used < n) e above))) (s.tails k);
      framed = λ k. at-end (IsFramed (flat_map (bytes_on k) taken) (frames_text k history)) states state k (λ e. framed-new k taken history state new (fresh k (subst (λ n. used < n) e above)) (s.unframed k (subst (λ n. used < n) e above))) (s.framed k);
      came = λ k. at-end (λ u. has_come k taken ≡ is_none u.server) states state k (λ e. s.uncome k (subst (λ n. used < n) e above) ∙ sym (no-none state.server server)) (s.came k);
      uncome = λ k l. s.uncome k (omega arith);
      unframed = λ k l. s.unframed k (omega arith);
      events = s.events;
    }
  where
    no-none : (o : Option (List ℕ)) → is_some o ≡ true → is_none o ≡ false
    no-none (Some name) e = refl
    no-none None e = absurd (false≢true e)

-- ---- arrivals

arrival-test : (link : LinkId) → eqb link.0 link.0 ≡ true
arrival-test link = grind (arith, nat_tests)

-- a client came on a link, whether that is kept or not
came-here : (link : LinkId) (nonce : List ℕ) (taken : List Happening) → has_come link.0 (taken ++ Accepted link nonce ∷ []) ≡ true
came-here link nonce taken = list_any-append (comes_on link.0) taken (Accepted link nonce ∷ []) ∙ or-true (has_come link.0 taken) (ap (λ t. t || false) (arrival-test link))
  where
    or-true : (b : Bool) {c : Bool} → c ≡ true → (b || c) ≡ true
    or-true true e = refl
    or-true false e = e

-- the others are as before
pub Hears-refused : (states : List LinkState) (used used' ran ran' : ℕ) (taken : List Happening) (history : List Heard) (link : LinkId) (nonce : List ℕ) → happenings history ≡ taken → link.0 ≡ used + 1 → used' ≡ used + 1 → at_key link_number link.0 states ≡ None → ran' ≡ min (ran + 1) (2 ^ 64 - 1)
    → AgreesWithHeard states used ran taken history → AgreesWithHeard states used' ran' (taken ++ Accepted link nonce ∷ []) (history ++ Happened (Accepted link nonce) ∷ [])
Hears-refused states used used' ran ran' taken history link nonce spells next next' missing count s = record {
  tails = λ k. other-by k (eqb k link.0) refl (λ u. IsTail (tail_on k (history ++ h ∷ [])) u.tail) (λ n. rw (tail-quiet k taken history h spells (quiet-arrival link nonce k n)) (s.tails k));
  framed = λ k. other-by k (eqb k link.0) refl (IsFramed (flat_map (bytes_on k) (taken ++ happened h)) (frames_text k (history ++ h ∷ []))) (λ n. rw (bytes-quiet k taken h (quiet-arrival link nonce k n), frames-quiet k history h (quiet-arrival link nonce k n)) (s.framed k));
  came = λ k. other-by k (eqb k link.0) refl (λ u. has_come k (taken ++ happened h) ≡ is_none u.server) (λ n. rw (come-quiet k taken h (quiet-arrival link nonce k n)) (s.came k));
  uncome = λ k l. come-quiet k taken h (quiet-arrival link nonce k (λ q. absurd (omega arith))) ∙ s.uncome k (omega arith);
  unframed = λ k l. frames-quiet k history h (quiet-arrival link nonce k (λ q. absurd (omega arith))) ∙ s.unframed k (omega arith);
  events = heard-more ran ran' history h s.events count;
} where
  h : Heard
  h = Happened (Accepted link nonce)

  other-by : (k : ℕ) (t : Bool) → eqb k link.0 ≡ t → (P : LinkState → Type 0) → (k ≢ link.0 → IfSome (at_key link_number k states) P) → IfSome (at_key link_number k states) P
  other-by k true e P f = let same : link.0 ≡ k = grind (arith, nat_tests) in IfSome-None (at_key link_number k states) P (subst (λ i. at_key link_number i states ≡ None) same missing)
  other-by k false e P f = f (λ q. grind (arith, nat_tests))

-- a client came whose link is kept
pub Hears-came : (states : List LinkState) (used used' ran ran' : ℕ) (taken : List Happening) (history : List Heard) (link : LinkId) (nonce : List ℕ) (state : LinkState) → happenings history ≡ taken → link.0 ≡ used + 1 → used' ≡ used + 1 → state.link ≡ link → IsNewLink state → state.server ≡ None → at_key link_number link.0 states ≡ None
    → ((k : ℕ) → used < k → flat_map (bytes_on k) taken ≡ []) → ran' ≡ min (ran + 1) (2 ^ 64 - 1)
    → AgreesWithHeard states used ran taken history → AgreesWithHeard (states ++ state ∷ []) used' ran' (taken ++ Accepted link nonce ∷ []) (history ++ Happened (Accepted link nonce) ∷ [])
Hears-came states used used' ran ran' taken history link nonce state spells next next' key new client missing fresh count s =
    let r = Hears-refused states used used' ran ran' taken history link nonce spells next next' missing count s in
    let number : link_number state ≡ link.0 = ap (λ (l : LinkId). l.0) key in
    let above : used < link.0 = omega arith in
    let bytes : (k : ℕ) → link_number state ≡ k → flat_map (bytes_on k) (taken ++ Accepted link nonce ∷ []) ≡ [] = λ k e. flat_map-append (bytes_on k) taken (Accepted link nonce ∷ []) ∙ append-nil (flat_map (bytes_on k) taken) ∙ fresh k (subst (λ n. used < n) (sym number ∙ e) above) in
    let frames : (k : ℕ) → link_number state ≡ k → frames_text k (history ++ Happened (Accepted link nonce) ∷ []) ≡ [] = λ k e. frames-push k history (Happened (Accepted link nonce)) ∙ append-nil (frames_text k history) ∙ s.unframed k (subst (λ n. used < n) (sym number ∙ e) above) in
    let spells' : happenings (history ++ Happened (Accepted link nonce) ∷ []) ≡ taken ++ Accepted link nonce ∷ [] = happenings-push history (Happened (Accepted link nonce)) ∙ ap (λ hs. hs ++ Accepted link nonce ∷ []) spells in
    record {
      tails = λ k. at-end (λ u. IsTail (tail_on k (history ++ Happened (Accepted link nonce) ∷ [])) u.tail) states state k (λ e. new-tail k (taken ++ Accepted link nonce ∷ []) (history ++ Happened (Accepted link nonce) ∷ []) state spells' new (bytes k e)) (r.tails k);
      framed = λ k. at-end (IsFramed (flat_map (bytes_on k) (taken ++ Accepted link nonce ∷ [])) (frames_text k (history ++ Happened (Accepted link nonce) ∷ []))) states state k (λ e. framed-new k (taken ++ Accepted link nonce ∷ []) (history ++ Happened (Accepted link nonce) ∷ []) state new (bytes k e) (frames k e)) (r.framed k);
      came = λ k. at-end (λ u. has_come k (taken ++ Accepted link nonce ∷ []) ≡ is_none u.server) states state k (λ e. subst (λ n. has_come n (taken ++ Accepted link nonce ∷ []) ≡ is_none state.server) (sym number ∙ e) (came-here link nonce taken ∙ ap is_none (sym client))) (r.came k);
      uncome = r.uncome;
      unframed = r.unframed;
      events = r.events;
    }

-- ---- a link is what its bytes tell

-- what the loop keeps as a WebSocket began as one
framed-socket : (server : Option (List ℕ)) (ended : Bool) (bytes text : List ℕ) (f : Framing) → FramedFor server ended bytes text f → is_socket f ≡ true → (is_none server ≡ true) × (begins bytes ≡ true)
framed-socket None true bytes text f h e = (refl, h.0)
framed-socket None false bytes text framing.Undecided h e = absurd (false≢true e)
framed-socket None false bytes text framing.Plain h e = absurd (false≢true e)
framed-socket None false bytes text (framing.Socket link) h e = (refl, h.0)
framed-socket (Some name) ended bytes text f h e = absurd (false≢true (ap is_socket (sym h.1) ∙ e))

pub socket-heard : (states : List LinkState) (used ran : ℕ) (taken : List Happening) (history : List Heard) → AgreesWithHeard states used ran taken history → (k : ℕ) → is_socket_at (at_key link_number k states) ≡ true → socket_on k taken ≡ true
socket-heard states used ran taken history s k e = by (at_key link_number k states) (s.came k) (s.framed k) e
  where
    by : (o : Option LinkState) → IfSome o (λ state. has_come k taken ≡ is_none state.server) → IfSome o (IsFramed (flat_map (bytes_on k) taken) (frames_text k history)) → is_socket_at o ≡ true → socket_on k taken ≡ true
    by None came framed e = absurd (false≢true e)
    by (Some state) came framed e =
        let both = framed-socket state.server state.ended (flat_map (bytes_on k) taken) (frames_text k history) state.framing framed e in
        ap (λ t. t && begins (flat_map (bytes_on k) taken)) (came ∙ both.0) ∙ both.1

-- and the other way round
pub framed-is : (server : Option (List ℕ)) (ended : Bool) (bytes text : List ℕ) (f : Framing) → FramedFor server ended bytes text f → (is_none server && begins bytes) ≡ is_socket f
framed-is None true bytes text f h = h.0 ∙ sym h.1
framed-is None false bytes text framing.Undecided h = undecided-no bytes h.0
framed-is None false bytes text framing.Plain h = h.0
framed-is None false bytes text (framing.Socket link) h = h.0
framed-is (Some name) ended bytes text f h = ap is_socket (sym h.1)

pub framed-at : (k : ℕ) (taken : List Happening) (text : List ℕ) (state : LinkState) → has_come k taken ≡ is_none state.server → IsFramed (flat_map (bytes_on k) taken) text state → socket_on k taken ≡ is_socket state.framing
framed-at k taken text state came framed = ap (λ t. t && begins (flat_map (bytes_on k) taken)) came ∙ framed-is state.server state.ended (flat_map (bytes_on k) taken) text state.framing framed
