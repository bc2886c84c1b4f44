-- What is done to servers, as the steps have it.
use Rattle.std.proofs.Common.{◌≡◌, ℕ, zero, suc, ◌+◌, ◌<◌, ◌≤◌, ◌-◌, ◌^◌, Bool, true, false, cond, List, [], ◌∷◌, ◌++◌, take, append_assoc, inl, Option, Some, None, refl, ap, sym, subst, ◌∙◌, ◌||◌, min, arith, append-nil, inr}
use Rattle.std.specs.Prelude.{map, flat_map}
use Rattle.wc_text.specs.declared.names.Cause.{Cause}
use Rattle.wc_outside.specs.Keyed.{at_key, put_at, without}
use Rattle.wc_outside.proofs.KeyedLemmas.{at_key-key, put_at-same}
use Rattle.wc_irc.specs.Servers.{ServerState}
use Rattle.wc_board.specs.Connections.{unsent_on, leaving_on}
use Rattle.wc_core.specs.State.{Serves, Quits}
use Rattle.wc_servers.specs.Outs.{Out, SendsLine, Connects, Parts, quit_outs, ServersFollow}
use Rattle.wc_servers.specs.Seats.{SeatView, ServersView, ServerSeat, seat_link, server_link, is_open, seat_of, open_of, open_in, open_if, links_of, AreApart, AreSeats, told, told_if, told_at, known, left_for, begun, ended, quitting, QuitFront}
use Rattle.wc_servers.proofs.OutLemmas.{told-follows, known-follows, left-follows, begun-follows, open-at, open-put, open-left, open-push}
use Rattle.wc_servers.proofs.QuitLemmas.{may_quit_open, may_quit_all, may_quit_front, said_front, front-follows, quit-follows}
use Rattle.wc_servers.proofs.SeatLemmas.{above_all}
use Rattle.wc_core.specs.CoreView.{CoreView}
use Rattle.wc_core.specs.BoardSteps.{board_of}
use Rattle.wc_core.specs.State.{State, Act, Stage, Stepped, has_end, outs_of}
use Rattle.wc_core.specs.Changing.{no_step, put_step, reach_step}
use Rattle.wc_core.specs.ServerSteps.{send_step, with_server, leave_server, quit_way, quit_step}
use Rattle.wc_core.specs.ServerTyped.{seat_step}
use Rattle.wc_core.specs.Served.{sent_to, close_of, clients_of}
use Rattle.wc_core.specs.ServersKept.{LeaveInOrder, ServersKeep, left_after}
use Rattle.wc_core.proofs.ComeLemmas.{come-put, order-put, left_one, come-left, order-left, come-begun, order-begun, come-quit, order-quit}
use Rattle.wc_core.proofs.DidLemmas.{or-false, or-true, leaves-none, KeepsClients-connections, saves-as, has_end-append}
use Rattle.wc_core.proofs.ServerCloses.{out-closes}
use Rattle.wc_core.proofs.ChainLemmas.{Runs-as}
use Rattle.wc_core.specs.Contained.{Rest, state_with, first_stage, Runs, Holds, IsOn, starving_number}
use Rattle.wc_session.specs.declared.client.Client.{Client}
use Rattle.wc_core.proofs.RunLemmas.{IsOn-begin, Runs-stays, RunsAt-exact, RunsAt-short}
use Rattle.wc_core.proofs.CountLemmas.{counts-none, counts-short}
use Rattle.wc_core.proofs.BoardStepLemmas.{by-same}

-- ---- what goes out for servers alone

out_bytes : (j : ℕ) (outs : List Out) (acts : List Act) → sent_to j acts ≡ [] → sent_to j (map Serves outs ++ acts) ≡ []
out_bytes j [] acts e = e
out_bytes j (out ∷ outs) acts e = out_bytes j outs acts e

out_end : (outs : List Out) (acts : List Act) → has_end (map Serves outs ++ acts) ≡ has_end acts
out_end [] acts = refl
out_end (out ∷ outs) acts = out_end outs acts

out_outs : (outs : List Out) (acts : List Act) → outs_of acts ≡ [] → outs_of (map Serves outs ++ acts) ≡ outs
out_outs [] acts e = e
out_outs (out ∷ outs) acts e = ap (λ l. out ∷ l) (out_outs outs acts e)

-- the state that servers are kept by
abbrev pub serving : State → ServersView → State
serving state servers = record state { servers = open_of servers.seats; used = servers.used }

-- other servers, and what goes out for them before these acts
pub serves-by : (old : CoreView) (servers : ServersView) (quits : Bool) (outs : List Out) (acts : List Act) (way : State → List Stage) (step : State → Stepped)
    → ((told : Rest) → step (state_with old told) ≡ record { state = serving (state_with old told) servers; acts = map Serves outs ++ acts; way = way (serving (state_with old told) servers) })
    → ((told : Rest) → IsOn (record { state = serving (state_with old told) servers; outs = outs_of (map Serves outs ++ acts) }) (first_stage (state_with old told)) (way (serving (state_with old told) servers)))
    → ((j : ℕ) → sent_to j acts ≡ []) → ((j : ℕ) → close_of j acts ≡ None) → outs_of acts ≡ [] → quits ≡ (old.quits || has_end acts)
    → ServersKeep old.servers servers → ServersFollow old.servers servers outs → LeaveInOrder old.servers servers outs → Runs old (record old { servers = servers; quits = quits }) step
serves-by old servers quits outs acts way step is on bytes closes none quit comes follows order = Runs-as old new whole step (λ told. sym (is told)) (λ told.
    let of : List Client → Stepped = λ clients. whole (record (state_with old told) { clients = clients }) in
    RunsAt-exact told old new of (KeepsClients-connections old new refl (omega arith) (inl (refl, refl)) comes refl) (by-same (board_of old) (board_of old) refl) (counts-none old new refl refl refl)
    (λ distinct. leaves-none old (of (clients_of old.connections)) closing)
    (λ distinct were. record {
      means = record { same = refl; told = were };
      oracle = refl;
      bytes = λ j. sym (ap (λ t. unsent_on j old.connections ++ t) (out_bytes j outs acts (bytes j)) ∙ append-nil _);
      leaving = leaves-none old (of (clients_of old.connections)) closing;
      quits = ends;
      servers = go_out;
      parts = (let P : List Out → Type 0 = λ outs. LeaveInOrder old.servers servers outs in subst P (sym (out_outs outs acts none)) order);
    })
    (λ distinct were. record { holds = record { same = refl; told = were }; is_on = on told; oracle = refl; quits = ends; servers = go_out })) where
      new : CoreView
      new = record old { servers = servers; quits = quits }

      whole : State → Stepped
      whole state = record { state = serving state servers; acts = map Serves outs ++ acts; way = way (serving state servers) }

      closing : (j : ℕ) → close_of j (map Serves outs ++ acts) ≡ None
      closing j = out-closes j outs acts (closes j)

      ends : quits ≡ (old.quits || has_end (map Serves outs ++ acts))
      ends = quit ∙ ap (λ t. old.quits || t) (sym (out_end outs acts))

      go_out : ServersFollow old.servers servers (outs_of (map Serves outs ++ acts))
      go_out = (let P : List Out → Type 0 = λ outs. ServersFollow old.servers servers outs in subst P (sym (out_outs outs acts none)) follows)

-- the state is one that is come through, after these went out
abbrev pub one_way : List Out → State → List Stage
one_way outs state = record { state = state; outs = outs } ∷ []

pub serves : (old : CoreView) (servers : ServersView) (outs : List Out) (step : State → Stepped)
    → ((told : Rest) → step (state_with old told) ≡ reach_step (serving (state_with old told) servers) (map Serves outs ++ []))
    → ServersKeep old.servers servers → ServersFollow old.servers servers outs → LeaveInOrder old.servers servers outs → Runs old (record old { servers = servers }) step
serves old servers outs step is comes follows order = serves-by old servers old.quits outs [] (one_way (outs_of (map Serves outs ++ []))) step is (λ told. inr refl) (λ j. refl) (λ j. refl) refl (sym (or-false old.quits)) comes follows order

-- ---- the server of a link

-- an open one, as the state has it
open_seat : (k : ℕ) (s : SeatView) (seats : List SeatView) → AreApart (links_of seats) → at_key seat_link k seats ≡ Some s → is_open s ≡ true → at_key server_link k (open_of seats) ≡ Some (seat_of s)
open_seat k s seats apart at sits = open-at k seats apart ∙ ap open_in at ∙ ap (λ b. open_if b s) sits

open-same : (k : ℕ) (s y : SeatView) (seats : List SeatView) → AreApart (links_of seats) → at_key seat_link k seats ≡ Some s → is_open s ≡ true → is_open y ≡ true → seat_of y ≡ seat_of s → open_of (put_at seat_link k y seats) ≡ open_of seats
open-same k s y seats apart at sits stays same =
    open-put k s y seats at sits stays ∙ ap (λ seat. put_at server_link k seat (open_of seats)) same ∙ put_at-same server_link k (open_of seats) (seat_of s) (open_seat k s seats apart at sits)

-- a line that is sent
pub sends-line : (old : CoreView) (k : ℕ) (line : List ℕ) → AreSeats old.servers
    → Runs old (record old { servers = record old.servers { seats = told_at k line old.servers.seats (at_key seat_link k old.servers.seats) } }) (λ state. send_step state k line (at_key server_link k state.servers))
sends-line old k line are = by (at_key seat_link k old.servers.seats) refl where
  seats : List SeatView
  seats = old.servers.seats

  Step : State → Option ServerSeat → Stepped
  Step state o = send_step state k line o

  nothing : at_key server_link k (open_of seats) ≡ None → Runs old old (λ state. send_step state k line (at_key server_link k state.servers))
  nothing none = Runs-as old old no_step (λ state. send_step state k line (at_key server_link k state.servers)) (λ told. ap (Step (state_with old told)) (sym none)) (Runs-stays old)

  open-by : (s : SeatView) → at_key seat_link k seats ≡ Some s → (t : Bool) → is_open s ≡ t
      → Runs old (record old { servers = record old.servers { seats = told_if t k line seats s } }) (λ state. send_step state k line (at_key server_link k state.servers))
  open-by s at false shut = nothing (open-at k seats are.apart ∙ ap open_in at ∙ ap (λ b. open_if b s) shut)
  open-by s at true sits =
      let y : SeatView = told line s in
      let new : ServersView = record old.servers { seats = put_at seat_link k y seats } in
      let stays : open_of new.seats ≡ open_of seats = open-same k s y seats are.apart at sits sits refl in
      let F : Rest → List ServerSeat → Stepped = λ told servers. reach_step (record (state_with old told) { servers = servers }) (Serves (SendsLine k (ended line)) ∷ []) in
      serves old new (SendsLine k (ended line) ∷ []) (λ state. send_step state k line (at_key server_link k state.servers)) (λ told. ap (Step (state_with old told)) (open_seat k s seats are.apart at sits) ∙ ap (F told) (sym stays))
      (come-put old.servers k s y at sits sits (at_key-key seat_link k seats s at)) (told-follows old.servers k s line at sits) (order-put old.servers k s y (SendsLine k (ended line) ∷ []) at sits sits refl)

  by : (o : Option SeatView) → at_key seat_link k seats ≡ o → Runs old (record old { servers = record old.servers { seats = told_at k line seats o } }) (λ state. send_step state k line (at_key server_link k state.servers))
  by None at = nothing (open-at k seats are.apart ∙ ap open_in at)
  by (Some s) at = open-by s at (is_open s) refl

pub sends-to : (old : CoreView) (servers : ServersView) (k : ℕ) (said line : List ℕ) → AreSeats old.servers → said ≡ line → servers ≡ record old.servers { seats = told_at k said old.servers.seats (at_key seat_link k old.servers.seats) }
    → Runs old (record old { servers = servers }) (λ state. send_step state k line (at_key server_link k state.servers))
sends-to old servers k said line are same e =
    let P : ServersView → Type 0 = λ servers. Runs old (record old { servers = servers }) (λ state. send_step state k said (at_key server_link k state.servers)) in
    let Q : List ℕ → Type 0 = λ line. Runs old (record old { servers = servers }) (λ state. send_step state k line (at_key server_link k state.servers)) in
    subst Q same (subst P (sym e) (sends-line old k said are))

-- another state of a server
pub becomes : (old : CoreView) (k : ℕ) (s : SeatView) (server : ServerState) → AreSeats old.servers → at_key seat_link k old.servers.seats ≡ Some s → is_open s ≡ true
    → Runs old (record old { servers = record old.servers { seats = put_at seat_link k (known server s) old.servers.seats } }) (λ state. put_step (with_server state k server))
becomes old k s server are at sits =
    let seats = old.servers.seats in
    let y : SeatView = known server s in
    let new : ServersView = record old.servers { seats = put_at seat_link k y seats } in
    let key : seat_link s ≡ k = at_key-key seat_link k seats s at in
    let G : ℕ → ServerSeat = λ n. record { link = n; server = server } in
    let now : open_of new.seats ≡ put_at server_link k (G k) (open_of seats) = open-put k s y seats at sits sits ∙ ap (λ n. put_at server_link k (G n) (open_of seats)) key in
    let F : Rest → List ServerSeat → Stepped = λ told servers. put_step (record (state_with old told) { servers = servers }) in
    serves old new [] (λ state. put_step (with_server state k server)) (λ told. ap (F told) (sym now)) (come-put old.servers k s y at sits sits key) (known-follows old.servers k s server at sits) (order-put old.servers k s y [] at sits sits refl)

-- it begins to leave, whatever its state is then
pub leaves : (old : CoreView) (k : ℕ) (s : SeatView) (server : ServerState) (why : Cause) → AreSeats old.servers → at_key seat_link k old.servers.seats ≡ Some s → is_open s ≡ true → Runs old (record old { servers = left_one old.servers k why server s }) (leave_server k why)
leaves old k s server why are at sits =
    let seats = old.servers.seats in
    let y : SeatView = left_for why old.servers.left (known server s) in
    let new : ServersView = left_one old.servers k why server s in
    let key : seat_link s ≡ k = at_key-key seat_link k seats s at in
    let now : open_of new.seats ≡ without server_link k (open_of seats) = open-left k s y seats are.apart at sits refl key in
    let F : Rest → List ServerSeat → Stepped = λ told servers. reach_step (record (state_with old told) { servers = servers }) (Serves (Parts k why) ∷ []) in
    serves old new (Parts k why ∷ []) (leave_server k why) (λ told. ap (F told) (sym now)) (come-left old.servers k s server why at sits) (left-follows old.servers k s server why old.servers.left (left_after old.servers) at sits) (order-left old.servers k s server why at sits)

-- a connection is begun
pub seats : (old : CoreView) (server : ServerState) → AreSeats old.servers → old.servers.used < 2 ^ 62 → Runs old (record old { servers = begun server old.servers }) (λ state. seat_step state server)
seats old server are few =
    let k = old.servers.used + 1 in
    let now = open-push old.servers.seats k server in
    let F : Rest → List ServerSeat → Stepped = λ told servers. reach_step (record (state_with old told) { servers = servers; used = k }) (Serves (Connects k server.address server.name) ∷ []) in
    serves old (begun server old.servers) (Connects k server.address server.name ∷ []) (λ state. seat_step state server) (λ told. ap (F told) (sym now)) (come-begun old.servers server few)
    (begun-follows old.servers server (above_all old.servers.used k (links_of old.servers.seats) (omega arith) are.used)) (order-begun old.servers server)

pub seats-to : (old : CoreView) (servers : ServersView) (server : ServerState) → AreSeats old.servers → old.servers.used < 2 ^ 62 → servers ≡ begun server old.servers → Runs old (record old { servers = servers }) (λ state. seat_step state server)
seats-to old servers server are few e =
    let P : ServersView → Type 0 = λ servers. Runs old (record old { servers = servers }) (λ state. seat_step state server) in
    subst P (sym e) (seats old server are few)

-- the way of servers that are told that the run ends
on-quit : (state : State) (said : List Out) (servers : List ServerSeat) → IsOn (record { state = state; outs = said ++ flat_map quit_outs servers }) (record { state = state; outs = said }) (quit_way state said servers)
on-quit state said [] = let S : List Out → Stage = λ outs. record { state = state; outs = outs } in ap S (append-nil said)
on-quit state said (seat ∷ servers) =
    let P : List Out → Type 0 = λ outs. IsOn (record { state = state; outs = outs }) (record { state = state; outs = said ++ quit_outs seat }) (quit_way state (said ++ quit_outs seat) servers) in
    inr (subst P (append_assoc said (quit_outs seat) (flat_map quit_outs servers)) (on-quit state (said ++ quit_outs seat) servers))

-- so many of them on that way
on-front : (i : ℕ) (state : State) (said : List Out) (seats : List SeatView) → IsOn (record { state = state; outs = said ++ said_front i seats }) (record { state = state; outs = said }) (quit_way state said (open_of seats))
on-front zero state said seats =
    let P : List Out → Type 0 = λ outs. IsOn (record { state = state; outs = outs }) (record { state = state; outs = said }) (quit_way state said (open_of seats)) in
    subst P (sym (append-nil said)) (IsOn-begin (record { state = state; outs = said }) (quit_way state said (open_of seats)))
on-front (suc i) state said [] = let S : List Out → Stage = λ outs. record { state = state; outs = outs } in ap S (append-nil said)
on-front (suc i) state said (x ∷ seats) = by (is_open x) (λ told. on-front i state told seats) where
  by : (b : Bool) → ((told : List Out) → IsOn (record { state = state; outs = told ++ said_front i seats }) (record { state = state; outs = told }) (quit_way state told (open_of seats)))
      → IsOn (record { state = state; outs = said ++ flat_map quit_outs (cond b (seat_of x ∷ open_of (take i seats)) (open_of (take i seats))) }) (record { state = state; outs = said }) (quit_way state said (cond b (seat_of x ∷ open_of seats) (open_of seats)))
  by true more =
      let one = quit_outs (seat_of x) in
      let P : List Out → Type 0 = λ outs. IsOn (record { state = state; outs = outs }) (record { state = state; outs = said ++ one }) (quit_way state (said ++ one) (open_of seats)) in
      inr (subst P (append_assoc said one (said_front i seats)) (more (said ++ one)))
  by false more = more said

-- servers are told that the run ends
pub quits : (old : CoreView) (servers : ServersView) → AreSeats old.servers → servers ≡ record old.servers { seats = map quitting old.servers.seats } → Runs old (record old { servers = servers; quits = true }) quit_step
quits old servers are e =
    let whole : ServersView = record old.servers { seats = map quitting old.servers.seats } in
    let outs = flat_map quit_outs (open_of old.servers.seats) in
    let now : open_of whole.seats ≡ open_of old.servers.seats = may_quit_open old.servers.seats whole.seats (may_quit_all old.servers.seats) in
    let way : State → List Stage = λ state. quit_way state [] (open_of old.servers.seats) in
    let F : Rest → List ServerSeat → Stepped = λ told servers. (let state = record (state_with old told) { servers = servers } in record { state = state; acts = map Serves outs ++ Quits ∷ []; way = way state }) in
    let O : Rest → List ServerSeat → Type 0 = λ told servers. (let state = record (state_with old told) { servers = servers } in IsOn (record { state = state; outs = outs_of (map Serves outs ++ Quits ∷ []) }) (first_stage (state_with old told)) (way state)) in
    let Q : Rest → List Out → Type 0 = λ told outs. IsOn (record { state = state_with old told; outs = outs }) (first_stage (state_with old told)) (way (state_with old told)) in
    let P : ServersView → Type 0 = λ servers. Runs old (record old { servers = servers; quits = true }) quit_step in
    subst P (sym e)
    (serves-by old whole true outs (Quits ∷ []) way quit_step (λ told. ap (F told) (sym now))
    (λ told. subst (O told) (sym now) (subst (Q told) (sym (out_outs outs (Quits ∷ []) refl)) (on-quit (state_with old told) [] (open_of old.servers.seats)))) (λ j. refl) (λ j. refl) refl (sym (or-true old.quits)) (come-quit old.servers whole.seats (may_quit_all old.servers.seats)) (quit-follows old.servers are.apart) (order-quit old.servers whole.seats (may_quit_all old.servers.seats)))

-- the step of `/quit` ends the run
quit-ends : (state : State) → has_end (quit_step state).acts ≡ true
quit-ends state =
    let told : List Act = map Serves (flat_map quit_outs state.servers) in
    has_end-append told (Quits ∷ []) ∙ or-true (has_end told)

-- not all of them are, since memory was refused
pub quits-starved : (old new : CoreView) (servers : ServersView) → AreSeats old.servers → QuitFront old.servers.seats servers.seats → servers ≡ record old.servers { seats = servers.seats } → new ≡ record old { servers = servers; quits = true; starved = min (old.starved + 1) (2 ^ 64 - 1); cuts = min (old.cuts + 1) (2 ^ 64 - 1) } → old.starved ≤ new.starved
    → Runs old new quit_step
quits-starved old new servers are front e counts rises =
    let i = front.count in
    let m = may_quit_front old.servers.seats servers.seats front in
    let all : ServersView = record old.servers { seats = servers.seats } in
    let same : new.servers ≡ all = ap (λ (core : CoreView). core.servers) counts ∙ e in
    let count : new.starved ≡ min (old.starved + 1) (2 ^ 64 - 1) = ap (λ (core : CoreView). core.starved) counts in
    let P : ServersView → Type 0 = λ servers. ServersKeep old.servers servers in
    (λ told. RunsAt-short told old new (quit_step (state_with old told)) true (said_front i old.servers.seats) (λ q. quit-ends (state_with old told)) (on-front i (state_with old told) [] old.servers.seats) (record {
      keeps = KeepsClients-connections old new (ap board_of counts) rises (saves-as old new (record old { servers = servers; quits = true; starved = min (old.starved + 1) (2 ^ 64 - 1); cuts = min (old.cuts + 1) (2 ^ 64 - 1) }) counts refl refl) (subst P (sym same) (come-quit old.servers servers.seats m)) (ap (λ (core : CoreView). core.verdicts) counts);
      board = by-same (board_of old) (board_of new) (ap board_of counts);
      counts = counts-short old new (ap (λ (core : CoreView). starving_number core.connections) counts) count (ap (λ (core : CoreView). core.cuts) counts);
      causes = λ distinct j. inl (ap (λ (core : CoreView). leaving_on j core.connections) counts);
      counted = λ below. omega (arith, count, below);
      cut = λ below. (let cuts : new.cuts ≡ min (old.cuts + 1) (2 ^ 64 - 1) = ap (λ (core : CoreView). core.cuts) counts in omega (arith, cuts, below));
      holds = λ told were.
          let F : List ServerSeat → State = λ servers. record (state_with old told) { servers = servers } in
          let C : ServersView → CoreView = λ servers. record old { servers = servers; quits = true; starved = min (old.starved + 1) (2 ^ 64 - 1); cuts = min (old.cuts + 1) (2 ^ 64 - 1) } in
          let Q : CoreView → Type 0 = λ c. Holds c (state_with old told) in
          let R : ServersView → Type 0 = λ servers. Holds (C servers) (state_with old told) in
          subst Q (sym counts) (subst R (sym e) (record { same = ap F (sym (may_quit_open old.servers.seats servers.seats m)); told = were }));
      quits = ap (λ (core : CoreView). core.quits) counts ∙ sym (or-true old.quits);
      servers =
          let S : List SeatView → Type 0 = λ seats. ServersFollow old.servers (record old.servers { seats = seats }) (said_front i old.servers.seats) in
          let V : ServersView → Type 0 = λ v. ServersFollow old.servers v (said_front i old.servers.seats) in
          subst V (sym same) (subst S (sym front.told) (front-follows i old.servers are.apart));
    }))
