-- Nothing more is read of a link only where its client is leaving, or it has none.
use Rattle.std.proofs.Common.{◌≡◌, ◌≢◌, ◌⊎◌, inl, inr, ℕ, Bool, true, false, eqb, List, [], ◌∷◌, ◌++◌, map, Option, Some, None, IsSome, is_some, is_none, refl, sym, ap, ◌∙◌, subst, arith}
use Rattle.std.proofs.lemmas.Bool.{false≢true}
use Rattle.std.proofs.lemmas.Bool.Decides.{nat_tests}
use Rattle.wc_text.specs.declared.names.Cause.{Cause}
use Rattle.wc_text.specs.declared.names.LinkId.{LinkId}
use Rattle.wc_outside.specs.Keyed.{at_key, without}
use Rattle.wc_board.specs.declared.connection.Connection.{Connection}
use Rattle.wc_board.specs.Connections.{connection_link, is_open_at, leaving_in, leaving_on}
use Rattle.wc_core.specs.CoreView.{CoreView}
use Rattle.wc_core.specs.Served.{KeepsClients}
use Rattle.wc_turns.specs.declared.links.LinkState.{LinkState}
use Rattle.wc_turns.specs.Links.{Kind, link_number, is_ended, kind_of}
use Rattle.wc_turns.specs.Served.{LeavesForRead}
use Rattle.wc_turns.specs.Sockets.{EndsAsItLeaves}
use Rattle.wc_turns.specs.Steps.{SameKinds}
use Rattle.wc_turns.specs.Turns.{LeavesWhereEnded}
use Rattle.wc_turns.proofs.KeyedLemmas.{same-keys, at_key-push_same, at_key-push_other, at_key-filter_same, at_key-filter_other}

-- ---- the links

abbrev ended_in : Option Kind → Bool
ended_in None = false
ended_in (Some kind) = kind.ended

ended-kind : (o : Option LinkState) → is_ended o ≡ ended_in (kind_of o)
ended-kind None = refl
ended-kind (Some state) = refl

ended-kinds : (o o' : Option LinkState) → (o' ≡ None) ⊎ (kind_of o' ≡ kind_of o) → is_ended o' ≡ true → is_ended o ≡ true
ended-kinds o o' (inl e) h = absurd (false≢true (sym (ap is_ended e) ∙ h))
ended-kinds o o' (inr e) h = ended-kind o ∙ ap ended_in (sym e) ∙ sym (ended-kind o') ∙ h

pub ended-states : (states states' : List LinkState) (core : CoreView) → SameKinds states states' → LeavesWhereEnded states core → LeavesWhereEnded states' core
ended-states states states' core kinds h = λ k e. h k (ended-kinds (at_key link_number k states) (at_key link_number k states') (kinds k) e)

-- a link that came is read
came-ended : (k : ℕ) (states : List LinkState) (state : LinkState) → state.ended ≡ false → at_key link_number (link_number state) states ≡ None → is_ended (at_key link_number k (states ++ state ∷ [])) ≡ true → (link_number state ≢ k) × (is_ended (at_key link_number k states) ≡ true)
came-ended k states state unended none q = by (eqb (link_number state) k) refl
  where
    by : (t : Bool) → eqb (link_number state) k ≡ t → (link_number state ≢ k) × (is_ended (at_key link_number k states) ≡ true)
    by true e =
        let same : link_number state ≡ k = grind (arith, nat_tests) in
        let after : at_key link_number k (states ++ state ∷ []) ≡ Some state = ap (λ i. at_key link_number i (states ++ state ∷ [])) (sym same) ∙ at_key-push_same link_number state states none in
        absurd (false≢true (sym unended ∙ sym (ap is_ended after) ∙ q))
    by false e =
        let other : link_number state ≢ k = λ r. grind (arith, nat_tests) in
        (other, sym (ap is_ended (at_key-push_other link_number k state states other)) ∙ q)

pub ended-came : (states : List LinkState) (state : LinkState) (core : CoreView) → state.ended ≡ false → at_key link_number (link_number state) states ≡ None → LeavesWhereEnded states core → LeavesWhereEnded (states ++ state ∷ []) core
ended-came states state core unended none h = λ k e. h k (came-ended k states state unended none e).1

-- and so is that of a client that came
pub ended-arrived : (states : List LinkState) (state : LinkState) (core core' : CoreView) (connection : Connection) → state.ended ≡ false → at_key link_number (link_number state) states ≡ None → connection_link connection ≡ link_number state → core'.connections ≡ core.connections ++ connection ∷ [] → LeavesWhereEnded states core → LeavesWhereEnded (states ++ state ∷ []) core'
ended-arrived states state core core' connection unended none number same h = λ k e.
    let old = came-ended k states state unended none e in
    let other : connection_link connection ≢ k = λ q. old.0 (sym number ∙ q) in
    ap (λ cs. is_open_at (at_key connection_link k cs)) same ∙ ap is_open_at (at_key-push_other connection_link k connection core.connections other) ∙ h k old.1

-- ---- their clients

-- one that is leaving goes on so
pub shut-stays : (o o' : Option Connection) → is_some o' ≡ is_some o → (IsSome (leaving_in o) → leaving_in o' ≡ leaving_in o) → is_open_at o ≡ false → is_open_at o' ≡ false
shut-stays o None same kept shut = refl
shut-stays None (Some after) same kept shut = absurd (false≢true (sym same))
shut-stays (Some before) (Some after) same kept shut = ap is_none (kept (some-of before.leaving shut)) ∙ shut
  where
    some-of : (why : Option Cause) → is_none why ≡ false → IsSome why
    some-of None e = absurd (false≢true (sym e))
    some-of (Some cause) e = refl

pub ended-clients : (states : List LinkState) (a b : CoreView) → map connection_link b.connections ≡ map connection_link a.connections → ((k : ℕ) → IsSome (leaving_on k a.connections) → leaving_on k b.connections ≡ leaving_on k a.connections) → LeavesWhereEnded states a → LeavesWhereEnded states b
ended-clients states a b links leaves h = λ k e. shut-stays (at_key connection_link k a.connections) (at_key connection_link k b.connections) (same-keys connection_link k b.connections a.connections links) (leaves k) (h k e)

pub ended-keeps : (states : List LinkState) (a b : CoreView) → KeepsClients a b → LeavesWhereEnded states a → LeavesWhereEnded states b
ended-keeps states a b keeps h = ended-clients states a b keeps.links (λ k leaves. ap leaving_in (keeps.kept k leaves)) h

-- whoever is open was so
pub ended-opens : (states : List LinkState) (a b : CoreView) → ((k : ℕ) → is_open_at (at_key connection_link k b.connections) ≡ is_open_at (at_key connection_link k a.connections)) → LeavesWhereEnded states a → LeavesWhereEnded states b
ended-opens states a b same h = λ k e. same k ∙ h k e

-- one of them is forgotten
pub shut-without : (j k : ℕ) (connections : List Connection) → is_open_at (at_key connection_link k connections) ≡ false → is_open_at (at_key connection_link k (without connection_link j connections)) ≡ false
shut-without j k connections shut = by (eqb k j) refl
  where
    by : (t : Bool) → eqb k j ≡ t → is_open_at (at_key connection_link k (without connection_link j connections)) ≡ false
    by true e =
        let same : j ≡ k = grind (arith, nat_tests) in
        ap is_open_at (ap (λ i. at_key connection_link k (without connection_link i connections)) same ∙ at_key-filter_same connection_link k connections)
    by false e =
        let other : k ≢ j = λ q. grind (arith, nat_tests) in
        ap is_open_at (at_key-filter_other connection_link j k connections other) ∙ shut

-- ---- a read

-- whoever is leaving goes on so at it
pub read-stays : (socket : Bool) (link other : ℕ) (before now : Option Cause) → LeavesForRead socket link other before now → IsSome before → now ≡ before
read-stays socket link other (Some why) now h leaves = h
read-stays socket link other None now h leaves = absurd (false≢true leaves)

-- it is of the same link
pub ends-before : (old mid new : LinkState) (now : CoreView) → mid.link ≡ old.link → mid.ended ≡ old.ended → EndsAsItLeaves mid new now → EndsAsItLeaves old new now
ends-before old mid new now link ended h = λ e. by (h e)
  where
    by : (mid.ended ≡ true) ⊎ (is_open_at (at_key connection_link mid.link.0 now.connections) ≡ false) → (old.ended ≡ true) ⊎ (is_open_at (at_key connection_link old.link.0 now.connections) ≡ false)
    by (inl over) = inl (sym ended ∙ over)
    by (inr shut) = inr (subst (λ (l : LinkId). is_open_at (at_key connection_link l.0 now.connections) ≡ false) link shut)
