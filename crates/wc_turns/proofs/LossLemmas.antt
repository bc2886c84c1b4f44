-- Connections that were refused are lost as a turn begins.
use Rattle.std.proofs.Common.{◌≡◌, ◌≢◌, ℕ, ◌+◌, ◌<◌, ◌-◌, ◌^◌, ◌⊎◌, inl, inr, min, Bool, true, false, cond, eqb, ◌||◌, List, [], ◌∷◌, ◌++◌, map, length, Option, Some, None, is_some, refl, sym, ap, ◌∙◌, subst, arith}
use Rattle.std.proofs.lemmas.Bool.{false≢true}
use Rattle.std.proofs.lemmas.Bool.Decides.{nat_tests}
use Rattle.std.proofs.lemmas.List.Folds.{list_any-append}
use Rattle.wc_text.specs.declared.names.LinkId.{LinkId}
use Rattle.wc_text.specs.declared.names.Cause.{Cause}
use Rattle.wc_text.specs.declared.names.Cause.TheVariants.{NoMemory, Failed}
use Rattle.wc_outside.specs.Keyed.{at_key}
use Rattle.wc_session.specs.declared.client.Client.{Client}
use Rattle.wc_board.specs.Connections.{connection_link, is_open_at, leaving_on}
use Rattle.wc_board.specs.Served.{StaysOrStarves}
use Rattle.wc_servers.specs.Seats.{server_link}
use Rattle.wc_core.specs.Events.{Event, Fails}
use Rattle.wc_core.specs.CoreView.{CoreView}
use Rattle.wc_core.specs.State.{State, Beside, Stepped, beside}
use Rattle.wc_core.specs.Step.{step, run, link_loss_step, client_link}
use Rattle.wc_core.specs.Served.{links_of, clients_of, state_of, WereTold, close_of, or_else, Distinct, Does, LeavesBy, KeepsClients, ChangesServers, plain_beside}
use Rattle.wc_eval.specs.Verdicts.{Oracle, Agrees}
use Rattle.wc_core.specs.ServersKept.{LosesServer}
use Rattle.wc_core.proofs.ConnectionLemmas.{client-missing}
use Rattle.wc_core.proofs.DidLemmas.{or_else-none, close_of-append, KeepsClients-refl, KeepsClients-trans}
use Rattle.wc_core.proofs.ServerCloses.{server_loss-closes}
use Rattle.wc_turns.specs.Contained.{HasStarved}
use Rattle.wc_turns.specs.Events.{loss_of}
use Rattle.wc_turns.specs.Links.{AreAllBut}
use Rattle.wc_turns.specs.Parties.{is_refused, IsVacant}
use Rattle.wc_turns.specs.Served.{MayRun}
use Rattle.wc_turns.specs.Steps.{LosesLink, TakesAside, LosesEach}
use Rattle.wc_turns.proofs.ArriveLemmas.{no-starving}
use Rattle.wc_turns.proofs.KeyedLemmas.{none_of, same-keys}
use Rattle.wc_turns.proofs.RunLemmas.{run-append-acts, ReachesEvents-all, ReachesEvents-over}
use Rattle.wc_turns.proofs.ServedLemmas.{MayRun-none, MayRun-one, MayRun-trans}
use Rattle.wc_turns.proofs.SeatLemmas.{loses-keeps}
use Rattle.wc_core.proofs.OracleLemmas.{Agrees-before}
use Rattle.wc_turns.specs.Goes.{Goes, LosesWhole}
use Rattle.wc_turns.proofs.ListedLemmas.{LastAmong, but-last, but-weaker}
use Rattle.wc_turns.proofs.VacantLemmas.{vacant-keeps, run-vacant, MayRun-vacant}

-- ---- one loss

-- where want of memory was counted, the core may have taken any events
pub MayRun-starved : (a b : CoreView) (events : List Event) → KeepsClients a b → HasStarved a.starved b.starved → Goes events a b → MayRun a b events
MayRun-starved a b events keeps starved goes = record {
  keeps = keeps;
  goes = goes;
  does = λ same below distinct told were agrees. no-starving a.starved b.starved starved same below;
  stops = λ same below distinct told were agrees. no-starving a.starved b.starved starved same below;
}

pub stays-further : (a b c : Option Cause) → StaysOrStarves a b → StaysOrStarves b c → StaysOrStarves a c
stays-further a b c h (inr starves) = inr starves
stays-further a b c (inl same) (inl later) = inl (later ∙ same)
stays-further a b c (inr starves) (inl later) = inr (later ∙ starves)

-- the loss of a link without a client closes none
lost-none : (link : ℕ) (why : Cause) (state : State) (o : Option Client) → o ≡ None → (k : ℕ) → close_of k (link_loss_step state link why o).acts ≡ None
lost-none link why state None e k = server_loss-closes k link why state (at_key server_link link state.servers)
lost-none link why state (Some client) e k = absurd (let q : Some client ≡ None = e in cc)

-- and that of a link none but its own
lost-others : (link : ℕ) (why : Cause) (state : State) (o : Option Client) (k : ℕ) → k ≢ link → close_of k (link_loss_step state link why o).acts ≡ None
lost-others link why state None k n = server_loss-closes k link why state (at_key server_link link state.servers)
lost-others link why state (Some client) k n = (let test : eqb link k ≡ false = grind (arith, nat_tests) in rw test refl)

-- at the loss of a link every other client stays
pub lost-stays : (x y : CoreView) (link : ℕ) (why : Cause) → Does x y (λ state. link_loss_step state link why (at_key client_link link state.clients)) → Distinct (links_of x) → (k : ℕ) → k ≢ link → StaysOrStarves (leaving_on k x.connections) (leaving_on k y.connections)
lost-stays x y link why does distinct k n = by ((does (plain_beside x)).causes distinct k)
  where
    state : State
    state = state_of x (plain_beside x)

    by : LeavesBy (leaving_on k x.connections) (close_of k (link_loss_step state link why (at_key client_link link state.clients)).acts) (leaving_on k y.connections) → StaysOrStarves (leaving_on k x.connections) (leaving_on k y.connections)
    by (inl e) = inl (e ∙ ap (or_else (leaving_on k x.connections)) (lost-others link why state (at_key client_link link state.clients) k n) ∙ or_else-none (leaving_on k x.connections))
    by (inr starves) = starves

-- what the loss of a link leaves of its own client
own-left : (x y : CoreView) (link : ℕ) (why : Cause) → Does x y (λ state. link_loss_step state link why (at_key client_link link state.clients)) → Distinct (links_of x) → leaving_on link x.connections ≡ None
    → (leaving_on link y.connections ≡ None) ⊎ ((leaving_on link y.connections ≡ Some why) ⊎ (leaving_on link y.connections ≡ Some NoMemory))
own-left x y link why does distinct none = by (at_key client_link link (clients_of x.connections)) ((does (plain_beside x)).causes distinct link)
  where
    state : State
    state = state_of x (plain_beside x)

    here : eqb link link ≡ true
    here = grind (arith, nat_tests)

    by : (o : Option Client) → LeavesBy (leaving_on link x.connections) (close_of link (link_loss_step state link why o).acts) (leaving_on link y.connections) → (leaving_on link y.connections ≡ None) ⊎ ((leaving_on link y.connections ≡ Some why) ⊎ (leaving_on link y.connections ≡ Some NoMemory))
    by None (inl e) = inl (e ∙ ap (or_else (leaving_on link x.connections)) (server_loss-closes link link why state (at_key server_link link state.servers)) ∙ or_else-none (leaving_on link x.connections) ∙ none)
    by (Some client) (inl e) = inr (inl (e ∙ ap (λ o. or_else o (or_else (cond (eqb link link) (Some why) None) None)) none ∙ ap (λ t. or_else (cond t (Some why) None) None) here))
    by o (inr (inl same)) = inl (same ∙ none)
    by o (inr (inr starves)) = inr (inr starves)

-- what the loss of a link is to the core
pub LosesLink-of : (x y : CoreView) (link : ℕ) (why : Cause) → Does x y (λ state. link_loss_step state link why (at_key client_link link state.clients)) → ChangesServers x y → is_open_at (at_key connection_link link y.connections) ≡ false
    → LosesServer (is_open_at (at_key connection_link link x.connections)) link why x.servers y.servers → LosesWhole link why x y → LosesLink link why x y
LosesLink-of x y link why does stays gone server whole = record {
  whole = whole;
  keeps = (does (plain_beside x)).keeps;
  quits = ap (λ (c : CoreView). c.quits) stays;
  gone = gone;
  server = server;
  causes = λ distinct k n. lost-stays x y link why does distinct k n;
  leaves = λ distinct none. own-left x y link why does distinct none;
}

-- ---- losses one after another

pub LosesEach-none : (x : CoreView) → LosesEach [] x x
LosesEach-none x = record {
  keeps = KeepsClients-refl x;
  runs = λ all but. MayRun-vacant x all but;
  none = λ e. refl;
  quits = refl;
  wanted = refl;
  causes = λ distinct k out. inl refl;
  closes = λ aside same below distinct told were agrees all but k. ap (λ (s : Stepped). close_of k s.acts) (run-vacant x told all but);
}

losses-append : (xs ys : List LinkId) → map loss_of (xs ++ ys) ≡ map loss_of xs ++ map loss_of ys
losses-append [] ys = refl
losses-append (l ∷ xs) ys = ap (λ es. loss_of l ∷ es) (losses-append xs ys)

not-empty : (links : List LinkId) (link : LinkId) → links ++ link ∷ [] ≡ [] → ⊥
not-empty [] link e = cc
not-empty (l ∷ links) link e = cc

refused-more : (k : ℕ) (links : List LinkId) (link : LinkId) → is_refused k (links ++ link ∷ []) ≡ (is_refused k links || (eqb link.0 k || false))
refused-more k links link = list_any-append (λ (one : LinkId). eqb one.0 k) links (link ∷ [])

not-first : (a b : Bool) → (a || b) ≡ false → a ≡ false
not-first true b e = e
not-first false b e = refl

not-second : (a b : Bool) → (a || (b || false)) ≡ false → b ≡ false
not-second true b e = absurd (false≢true (sym e))
not-second false true e = e
not-second false false e = refl

pub LosesEach-more : (x y z : CoreView) (links : List LinkId) (link : LinkId) → y.quits ≡ false → LosesEach links x y → Does y z (λ state. link_loss_step state link.0 Failed (at_key client_link link.0 state.clients)) → z.quits ≡ y.quits → LosesServer (is_open_at (at_key connection_link link.0 y.connections)) link.0 Failed y.servers z.servers → LosesWhole link.0 Failed y z → LosesEach (links ++ link ∷ []) x z
LosesEach-more x y z links link going h does quits loses whole = record {
  keeps = keeps;
  runs = λ all but. runs all (but-last (IsVacant x) links link all but);
  none = λ e. absurd (not-empty links link e);
  quits = quits ∙ h.quits;
  wanted = (loses-keeps (is_open_at (at_key connection_link link.0 y.connections)) link.0 Failed y.servers z.servers loses).wanted ∙ h.wanted;
  causes = λ distinct k out.
      let parts = sym (refused-more k links link) ∙ out in
      let other : k ≢ link.0 = λ q. (let test = not-second (is_refused k links) (eqb link.0 k) parts in let n : link.0 ≢ k = grind (arith, nat_tests) in n (sym q)) in
      stays-further (leaving_on k x.connections) (leaving_on k y.connections) (leaving_on k z.connections) (h.causes distinct k (not-first (is_refused k links) (eqb link.0 k || false) parts))
      (lost-stays y z link.0 Failed does (subst Distinct (sym h.keeps.links) distinct) k other);
  closes = λ aside same below distinct told were agrees all but k. closes aside same below distinct told were agrees all (but-last (IsVacant x) links link all but) k;
} where
  last-one : (b : Bool) (n : ℕ) → (b || (eqb n n || false)) ≡ true
  last-one true n = refl
  last-one false n = (let test : eqb n n ≡ true = grind (arith, nat_tests) in rw test refl)

  keeps : KeepsClients x z
  keeps = KeepsClients-trans x y z h.keeps (does (plain_beside y)).keeps

  -- at those that come after it nobody is
  after : (all : List LinkId) (s : LastAmong (IsVacant x) links link all) → AreAllBut (IsVacant z) [] s.back
  after all s = but-weaker (IsVacant x) (IsVacant z) (vacant-keeps x z keeps) [] s.back s.after

  losses : (all : List LinkId) (s : LastAmong (IsVacant x) links link all) → map loss_of all ≡ map loss_of s.front ++ Fails link.0 ∷ map loss_of s.back
  losses all s = ap (λ ls. map loss_of ls) s.same ∙ losses-append s.front (link ∷ s.back)

  runs : (all : List LinkId) → LastAmong (IsVacant x) links link all → MayRun x z (map loss_of all)
  runs all s = subst (MayRun x z) (sym (losses all s))
      (MayRun-trans x y z (map loss_of s.front) (Fails link.0 ∷ map loss_of s.back) going (h.runs s.front s.before)
      (MayRun-trans y z z (Fails link.0 ∷ []) (map loss_of s.back) (quits ∙ going) (MayRun-one y z (Fails link.0) does whole) (MayRun-vacant z s.back (after all s))))

  closes : ((k : ℕ) → is_refused k (links ++ link ∷ []) ≡ true → at_key connection_link k x.connections ≡ None) → z.starved ≡ x.starved → x.starved < 2 ^ 64 - 1 → Distinct (links_of x) → (told : Beside) → WereTold x told → Agrees told.oracle z.verdicts → (all : List LinkId) → LastAmong (IsVacant x) links link all → (k : ℕ) → close_of k (run (state_of x told) (map loss_of all)).acts ≡ None
  closes aside same below distinct told were agrees all s k =
      let front = map loss_of s.front in
      let back = map loss_of s.back in
      let first = h.keeps.rises in
      let second = (does (plain_beside y)).keeps.rises in
      let half : y.starved ≡ x.starved = omega arith in
      let later : z.starved ≡ y.starved = omega arith in
      let under : y.starved < 2 ^ 64 - 1 = omega arith in
      let earlier = Agrees-before told.oracle y.verdicts z.verdicts (does (plain_beside y)).keeps.verdicts agrees in
      let did = (h.runs s.front s.before).does half below distinct told were earlier in
      let rows = beside (run (state_of x told) front).state in
      let lost = (does rows).does later under (subst Distinct (sym h.keeps.links) distinct) did.means.told (subst (λ (o : Oracle). Agrees o z.verdicts) (sym did.oracle) agrees) in
      let over = (step (state_of y rows) (Fails link.0)).state in
      let none : at_key connection_link link.0 y.connections ≡ None = none_of _ (same-keys connection_link link.0 y.connections x.connections h.keeps.links ∙ ap is_some (aside link.0 (refused-more link.0 links link ∙ last-one (is_refused link.0 links) link.0))) in
      let one : close_of k (step (state_of y rows) (Fails link.0)).acts ≡ None = lost-none link.0 Failed (state_of y rows) (at_key client_link link.0 (clients_of y.connections)) (client-missing link.0 y.connections none) k in
      let rest : close_of k (run over back).acts ≡ None = ap (λ (t : State). close_of k (run t back).acts) lost.means.same ∙ ap (λ (t : Stepped). close_of k t.acts) (run-vacant z (beside over) s.back (after all s)) in
      let both : close_of k (run (state_of y rows) (Fails link.0 ∷ back)).acts ≡ None = close_of-append k (step (state_of y rows) (Fails link.0)).acts (run over back).acts ∙ ap (λ o. or_else o (close_of k (run over back).acts)) one ∙ rest in
      let before = h.closes (λ j e. aside j (refused-more j links link ∙ ap (λ t. t || (eqb link.0 j || false)) e)) half below distinct told were earlier s.front s.before k in
      ap (λ es. close_of k (run (state_of x told) es).acts) (losses all s) ∙ ap (close_of k) (run-append-acts (state_of x told) front (Fails link.0 ∷ back))
      ∙ close_of-append k (run (state_of x told) front).acts (run (run (state_of x told) front).state (Fails link.0 ∷ back)).acts
      ∙ ap (λ o. or_else o (close_of k (run (run (state_of x told) front).state (Fails link.0 ∷ back)).acts)) before
      ∙ ap (λ (t : State). close_of k (run t (Fails link.0 ∷ back)).acts) did.means.same ∙ both

-- ---- all that stood as refused

map-size : (links : List LinkId) → length (map loss_of links) ≡ length links
map-size [] = refl
map-size (l ∷ ls) = let ih = map-size ls in omega arith

-- `/quit` was run before, and no loss is reached
pub lost-over : (x : CoreView) (refused : List LinkId) (ran : ℕ) → x.quits ≡ true → (all : List Event) → TakesAside refused x x ran ran all
lost-over x refused ran over all = record {
  takes = record { events = []; reaches = ReachesEvents-over x.quits x.quits ran all over; takes = MayRun-none x };
  closes = λ aside still below distinct told were agrees k. refl;
}

-- they are lost, and so are those that are not listed
pub lost-all : (x y : CoreView) (refused : List LinkId) (unlisted ran ran' : ℕ) → x.quits ≡ false → LosesEach refused x y → ran' ≡ min (min (ran + length refused) (2 ^ 64 - 1) + unlisted) (2 ^ 64 - 1) → (lost : List LinkId) → AreAllBut (IsVacant x) refused lost → length lost ≡ length refused + unlisted → TakesAside refused x y ran ran' (map loss_of lost)
lost-all x y refused unlisted ran ran' going loses count lost but size = record {
  takes = record { events = map loss_of lost; reaches = ReachesEvents-all x.quits y.quits ran ran' (map loss_of lost) going (λ fits. (let n = map-size lost in omega arith)); takes = loses.runs lost but };
  closes = λ aside still below distinct told were agrees k. loses.closes aside still below distinct told were agrees lost but k;
}
