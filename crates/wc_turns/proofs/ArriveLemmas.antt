-- What the core does at an arrival.
use Rattle.std.proofs.Common.{◌≡◌, ℕ, ◌+◌, ◌-◌, ◌^◌, ◌<◌, ◌≤◌, inl, inr, min, max, nat_lt, Bool, true, false, eqb, List, [], ◌∷◌, ◌++◌, length, cond, Some, None, Result, Ok, Err, OnOk, is_err, refl, sym, ap, ◌∙◌, arith}
use Rattle.std.proofs.lemmas.Bool.{false≢true}
use Rattle.std.proofs.lemmas.Bool.Decides.{nat_tests}
use Rattle.wc_text.specs.declared.names.LinkId.{LinkId}
use Rattle.wc_text.specs.declared.names.Cause.{Cause}
use Rattle.wc_outside.specs.Keyed.{at_key, without}
use Rattle.wc_board.specs.declared.connection.Connection.{Connection}
use Rattle.wc_core.specs.Events.{Arrives}
use Rattle.wc_core.specs.CoreView.{CoreView}
use Rattle.wc_core.specs.State.{State, Act, Stage, Stepped, outs_of}
use Rattle.wc_core.specs.Step.{step}
use Rattle.wc_core.specs.Changing.{reach_step}
use Rattle.wc_board.specs.Connections.{connection_link, new_connection}
use Rattle.wc_core.specs.Served.{links_of, state_of, WereTold, Means, refusal, Absent, AdmitsUnlessStarved}
use Rattle.wc_core.specs.Limits.{client_limit}
use Rattle.wc_core.specs.State.{Beside, beside}
use Rattle.wc_servers.specs.Seats.{used_up}
use Rattle.wc_turns.specs.declared.links.LinkState.{LinkState}
use Rattle.wc_turns.specs.declared.links.Closed.{Closed}
use Rattle.wc_turns.specs.Contained.{HasStarved}
use Rattle.wc_turns.specs.Links.{link_number, new_state, with_closed}
use Rattle.wc_turns.specs.Parties.{has_party, closes_asked, seat_closes, IsCalm}
use Rattle.wc_turns.specs.Served.{closed_by, leaving_closes}
use Rattle.wc_turns.proofs.KeyedLemmas.{without-missing, at_key-push_same, absent-missing}
use Rattle.wc_turns.proofs.PointLemmas.{no-client}

pub starved-more : (old new : ℕ) → new ≡ min (old + 1) (2 ^ 64 - 1) → HasStarved old new
starved-more old new e = more-by (nat_lt old (2 ^ 64 - 1)) refl
  where
    more-by : (t : Bool) → nat_lt old (2 ^ 64 - 1) ≡ t → HasStarved old new
    more-by true f = inl (let below : old < 2 ^ 64 - 1 = grind (arith, nat_tests) in omega arith)
    more-by false f = inr (let above : 2 ^ 64 - 1 ≤ old = grind (arith, nat_tests) in omega arith)

pub without-push : {X : Type 0} (key : X → ℕ) (k : ℕ) (y : X) (xs : List X) → key y ≡ k → without key k (xs ++ y ∷ []) ≡ without key k xs
without-push key k y [] e = let test : eqb (key y) k ≡ true = grind (arith, nat_tests) in rw test refl
without-push key k y (x ∷ xs) e = grind (arith, nat_tests, without-push key k y xs e)

-- what is counted of it is what the core has then
pub refused-as : (old new : CoreView) (link starved : ℕ) → new ≡ record old { servers = used_up link old.servers; starved = starved } → new ≡ record old { servers = used_up link old.servers; starved = new.starved }
refused-as old new link starved e = e ∙ ap (λ (n : ℕ). record old { servers = used_up link old.servers; starved = n }) (sym (ap (λ (c : CoreView). c.starved) e))

pub calm-as : (old new : CoreView) (link : ℕ) → new ≡ record old { servers = used_up link old.servers; starved = new.starved } → IsCalm old → IsCalm new
calm-as old new link e calm = record { parted = ap closes_asked e ∙ calm.parted; asked = ap (λ c. c.servers.wanted) e ∙ calm.asked }

-- the one stage that a step comes through
abbrev way_of : Stepped → List Stage
way_of p = record { state = p.state; outs = outs_of p.acts } ∷ []

stepped-same : (p : Stepped) (state : State) (acts : List Act) → p.state ≡ state → p.acts ≡ acts → p.way ≡ way_of p → p ≡ reach_step state acts
stepped-same p state acts e f g =
    let of : List Stage → Stepped = λ way. record { state = p.state; acts = p.acts; way = way } in
    ap of g ∙ ap (λ s. reach_step s p.acts) e ∙ ap (reach_step state) f

-- no other state is come through
arrival-way : (state : State) (link : ℕ) (nonce : List ℕ) → (step state (Arrives link nonce)).way ≡ way_of (step state (Arrives link nonce))
arrival-way state link nonce = by (nat_lt (length state.clients) (client_limit state.options)) _ _ refl refl
  where
    by : (t : Bool) (x y : Stepped) → x.way ≡ way_of x → y.way ≡ way_of y → (cond t x y).way ≡ way_of (cond t x y)
    by true x y p q = p
    by false x y p q = q

arrival-told : (state : State) (link : ℕ) (nonce : List ℕ) → beside (step state (Arrives link nonce)).state ≡ beside state
arrival-told state link nonce = by (nat_lt (length state.clients) (client_limit state.options)) _ _ refl refl
  where
    by : (t : Bool) (x y : Stepped) → beside x.state ≡ beside state → beside y.state ≡ beside state → beside (cond t x y).state ≡ beside state
    by true x y p q = p
    by false x y p q = q

arrival-state : (old new : CoreView) (link : ℕ) (nonce : List ℕ) (told : Beside) → new ≡ record old { servers = used_up link old.servers; starved = new.starved } → Means new (step (state_of old told) (Arrives link nonce)).state
    → (step (state_of old told) (Arrives link nonce)).state ≡ record (state_of old told) { used = max old.servers.used link }
arrival-state old new link nonce told core means =
    let stepped = step (state_of old told) (Arrives link nonce) in
    means.same ∙ ap (λ (c : CoreView). state_of c (beside stepped.state)) core ∙ ap (λ (rows : Beside). record (state_of old rows) { used = max old.servers.used link }) (arrival-told (state_of old told) link nonce)

-- a refused client is none
pub refused-step : (old new : CoreView) (link : ℕ) (nonce : List ℕ) (why : Cause) → new ≡ record old { servers = used_up link old.servers; starved = new.starved } → (Absent link (links_of old) → (told : Beside) → AdmitsUnlessStarved told link old new (Some why) (step (state_of old told) (Arrives link nonce)))
    → new.starved ≡ old.starved → old.starved < 2 ^ 64 - 1 → has_party link old ≡ false → (told : Beside) → WereTold old told → step (state_of old told) (Arrives link nonce) ≡ reach_step (record (state_of old told) { used = max old.servers.used link }) (refusal link (Some why))
refused-step old new link nonce why core comes same below nobody told were =
    let absent = absent-missing connection_link link old.connections (no-client link old nobody) in
    let came = (comes absent told).comes same below were in
    stepped-same (step (state_of old told) (Arrives link nonce)) (record (state_of old told) { used = max old.servers.used link }) (refusal link (Some why)) (arrival-state old new link nonce told core came.means) came.acts (arrival-way (state_of old told) link nonce)

pub refused-opened : (link : LinkId) (old mid new : List LinkState) → mid ≡ old ++ new_state link None false ∷ [] → new ≡ without link_number link.0 mid → at_key link_number link.0 old ≡ None → new ≡ old
refused-opened link old mid new admitted closed none = closed ∙ ap (without link_number link.0) admitted ∙ without-push link_number link.0 (new_state link None false) old refl ∙ without-missing link_number link.0 old none

pub refused-closed : (link : LinkId) (old mid : List LinkState) (closed new : List Closed) (one : Closed) → mid ≡ old ++ new_state link None false ∷ [] → new ≡ with_closed (at_key link_number link.0 mid) closed one → at_key link_number link.0 old ≡ None → new ≡ closed ++ one ∷ []
refused-closed link old mid closed new one admitted e none = e ∙ ap (λ o. with_closed o closed one) (ap (at_key link_number link.0) admitted ∙ at_key-push_same link_number (new_state link None false) old none)

pub no-starving : {A : Type 0} (old new : ℕ) → HasStarved old new → new ≡ old → old < 2 ^ 64 - 1 → A
no-starving old new (inl more) same below = absurd (omega arith)
no-starving old new (inr most) same below = absurd (omega arith)

closes-push : (connections : List Connection) (link : LinkId) (nonce : List ℕ) → leaving_closes (connections ++ new_connection link nonce ∷ []) ≡ leaving_closes connections
closes-push [] link nonce = refl
closes-push (s ∷ connections) link nonce = ap (λ cs. closed_by s.session.client.link s.leaving ++ cs) (closes-push connections link nonce)

-- a client that came is not leaving
pub calm-push : (old new : CoreView) (link : LinkId) (nonce : List ℕ) → new ≡ record old { connections = old.connections ++ new_connection link nonce ∷ []; servers = used_up link.0 old.servers } → IsCalm old → IsCalm new
calm-push old new link nonce e calm = record {
  parted = ap closes_asked e ∙ ap (λ cs. seat_closes old.servers.seats ++ cs) (closes-push old.connections link nonce) ∙ calm.parted;
  asked = ap (λ c. c.servers.wanted) e ∙ calm.asked;
}

pub admitted-of : {A E : Type 0} (r : Result A E) (P : Type 0) → is_err r ≡ false → OnOk r P → P
admitted-of (Ok v) P e h = h
admitted-of (Err f) P e h = absurd (false≢true (sym e))
