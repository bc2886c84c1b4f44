-- Links whose numbers are used, and at which nobody is.
use Rattle.std.proofs.Common.{◌≡◌, ℕ, ◌≤◌, Bool, true, false, cond, eqb, ◌||◌, List, [], ◌∷◌, map, Some, None, is_some, refl, sym, ap, ◌∙◌, subst, arith}
use Rattle.std.proofs.lemmas.Bool.{false≢true}
use Rattle.wc_text.specs.declared.names.LinkId.{LinkId}
use Rattle.wc_outside.specs.Keyed.{at_key}
use Rattle.wc_board.specs.Connections.{connection_link}
use Rattle.wc_servers.specs.declared.wanted.Wanted.{Wanted}
use Rattle.wc_servers.specs.Seats.{SeatView, seat_link, server_link, seat_of, is_open, open_of}
use Rattle.wc_core.specs.CoreView.{CoreView}
use Rattle.wc_core.specs.Events.{Event, Fails}
use Rattle.wc_core.specs.Served.{state_of, Follows, KeepsClients}
use Rattle.wc_core.specs.ServersKept.{is_wanted, AreNext}
use Rattle.wc_core.specs.State.{State, Beside, Stepped, has_end}
use Rattle.wc_core.specs.Step.{step, run, no_step}
use Rattle.wc_core.proofs.ConnectionLemmas.{client-missing}
use Rattle.wc_core.proofs.DidLemmas.{Follows-stays, KeepsClients-refl}
use Rattle.wc_turns.specs.Events.{loss_of}
use Rattle.wc_turns.specs.Goes.{AreEnds}
use Rattle.wc_turns.specs.Links.{AreAllBut}
use Rattle.wc_turns.specs.Parties.{has_party, IsVacant}
use Rattle.wc_turns.specs.Run.{EndsAtQuit}
use Rattle.wc_turns.specs.Served.{MayRun}
use Rattle.wc_turns.proofs.GoesLemmas.{Goes-same, Goes-ends}
use Rattle.wc_turns.proofs.KeyedLemmas.{same-keys, or-false}
use Rattle.wc_turns.proofs.PointLemmas.{no-client, no-server, next-above}

-- no connection that comes has a number that is used
none-comes : (k used : ℕ) (more : List Wanted) → AreNext used more → k ≤ used → is_wanted k more ≡ false
none-comes k used more next low = by (is_wanted k more) refl
  where
    by : (t : Bool) → is_wanted k more ≡ t → t ≡ false
    by true e = absurd (let above = next-above used k more next e in omega arith)
    by false e = refl

-- nobody comes to such a link
pub vacant-keeps : (x y : CoreView) → KeepsClients x y → (k : ℕ) → IsVacant x k → IsVacant y k
vacant-keeps x y keeps k h =
    let come = keeps.servers in
    let low = h.0 in
    let reached = come.reached in
    let none = none-comes k x.servers.used come.more come.next h.0 in (
      omega arith,
      rw (same-keys connection_link k y.connections x.connections keeps.links, come.links k, none) (ap (λ t. is_some (at_key connection_link k x.connections) || t) (or-false (is_some (at_key seat_link k x.servers.seats))) ∙ h.1),
    )

-- ---- the loss of such a link changes nothing

seat-missing : (k : ℕ) (seats : List SeatView) → at_key seat_link k seats ≡ None → at_key server_link k (open_of seats) ≡ None
seat-missing k [] none = refl
seat-missing k (seat ∷ seats) none = by (eqb seat.link k) refl (is_open seat) (seat-missing k seats) none
  where
    by : (t : Bool) → eqb seat.link k ≡ t → (u : Bool) → (at_key seat_link k seats ≡ None → at_key server_link k (open_of seats) ≡ None) → cond t (Some seat) (at_key seat_link k seats) ≡ None → at_key server_link k (cond u (seat_of seat ∷ open_of seats) (open_of seats)) ≡ None
    by true e u more at = absurd (let q : Some seat ≡ None = at in cc)
    by false e true more at = ap (λ t. cond t (Some (seat_of seat)) (at_key server_link k (open_of seats))) e ∙ more at
    by false e false more at = more at

lost-vacant : (x : CoreView) (told : Beside) (k : ℕ) → has_party k x ≡ false → step (state_of x told) (Fails k) ≡ no_step (state_of x told)
lost-vacant x told k nobody = rw (client-missing k x.connections (no-client k x nobody), seat-missing k x.servers.seats (no-server k x nobody)) refl

run-none : (state : State) (event : Event) (events : List Event) → step state event ≡ no_step state → run state events ≡ no_step state → run state (event ∷ events) ≡ no_step state
run-none state event events first later = rw first later

pub run-vacant : (x : CoreView) (told : Beside) (links : List LinkId) → AreAllBut (IsVacant x) [] links → run (state_of x told) (map loss_of links) ≡ no_step (state_of x told)
run-vacant x told [] h = refl
run-vacant x told (l ∷ links) h = run-none (state_of x told) (Fails l.0) (map loss_of links) (lost-vacant x told l.0 h.0.1) (run-vacant x told links h.1)

ends-one : (state : State) (event : Event) (events : List Event) → step state event ≡ no_step state → EndsAtQuit state events → EndsAtQuit state (event ∷ events)
ends-one state event events first later =
    let P : State → Type 0 = λ s. EndsAtQuit s events in (
      λ q. absurd (false≢true (sym (ap (λ (s : Stepped). has_end s.acts) first) ∙ q)),
      subst P (sym (ap (λ (s : Stepped). s.state) first)) later,
    )

ends-vacant : (x : CoreView) (told : Beside) (links : List LinkId) → AreAllBut (IsVacant x) [] links → EndsAtQuit (state_of x told) (map loss_of links)
ends-vacant x told [] h = tt
ends-vacant x told (l ∷ links) h = ends-one (state_of x told) (Fails l.0) (map loss_of links) (lost-vacant x told l.0 h.0.1) (ends-vacant x told links h.1)

losses-end : (links : List LinkId) → AreEnds (map loss_of links)
losses-end [] = tt
losses-end (l ∷ links) = (refl, losses-end links)

pub MayRun-vacant : (x : CoreView) (links : List LinkId) → AreAllBut (IsVacant x) [] links → MayRun x x (map loss_of links)
MayRun-vacant x links h = record {
  keeps = KeepsClients-refl x;
  goes = Goes-ends (map loss_of links) x x (losses-end links) (Goes-same x x refl);
  does = λ same below distinct told were agrees. subst (Follows told x x) (sym (run-vacant x told links h)) (Follows-stays told x were);
  stops = λ same below distinct told were agrees. ends-vacant x told links h;
}
