-- Waits return.
use Rattle.std.proofs.Common.{◌≡◌, ◌⊎◌, inl, inr, ℕ, ◌+◌, ◌-◌, ◌^◌, ◌<◌, ◌≤◌, min, Bool, true, false, not, cond, eqb, ◌&&◌, ◌||◌, IsTrue, List, [], ◌∷◌, ◌++◌, map, take, length, slice_index_or, Option, Some, None, is_some, All, refl, sym, ap, ◌∙◌, subst, arith, append_assoc}
use Rattle.std.specs.List.{list_any}
use Rattle.std.proofs.lemmas.Bool.{false≢true}
use Rattle.std.proofs.lemmas.Bool.Decides.{nat_tests}
use Rattle.std.proofs.lemmas.List.{append-nil}
use Rattle.std.proofs.lemmas.List.Elements.{All-head, All-tail, All-weaker}
use Rattle.std.proofs.lemmas.List.Folds.{list_any_more}
use Rattle.wc_text.specs.declared.names.Cause.{Cause}
use Rattle.wc_text.specs.declared.names.Cause.TheVariants.{NoMemory}
use Rattle.wc_outside.specs.Seen.{Seen}
use Rattle.wc_outside.specs.Happenings.{is_link, is_listener, IsThere}
use Rattle.wc_outside.specs.declared.sockets.Token.{Token}
use Rattle.wc_outside.specs.declared.sockets.Token.TheVariants.{Listener, Link}
use Rattle.wc_outside.specs.declared.happening.Happening.TheVariants.{Woke}
use Rattle.wc_turns.specs.declared.headless.Headless.{Headless}
use Rattle.wc_outside.specs.Keyed.{at_key}
use Rattle.wc_core.specs.Events.{Start, Tick, Stands, Event}
use Rattle.wc_core.specs.CoreView.{CoreView}
use Rattle.wc_core.specs.State.{State, Act, Stepped}
use Rattle.wc_core.specs.Step.{step, run, push_step, start_step, begun_state}
use Rattle.wc_board.specs.Connections.{connection_link, leaving_on, leaving_in}
use Rattle.wc_board.specs.Served.{StaysOrStarves}
use Rattle.wc_core.specs.Served.{links_of, state_of, close_of, or_else, Distinct, Follows, LeavesBy, Does, KeepsSaved, WereTold, KeepsClients, outs_of, plain_beside}
use Rattle.wc_core.proofs.CloseLemmas.{pushes-closes, starts-closes}
use Rattle.wc_core.proofs.ServerCloses.{stands-closes}
use Rattle.wc_servers.specs.Seats.{server_link}
use Rattle.wc_core.proofs.DidLemmas.{or_else-none, saves-as, KeepsSaved-trans, close_of-append}
use Rattle.wc_turns.specs.declared.links.Closed.{Closed}
use Rattle.wc_turns.specs.Contained.{is_known, HasStarved, KeepsLinks}
use Rattle.wc_turns.specs.Events.{is_tick, clock, clock_from, wake_events, loss_of, refused_since}
use Rattle.wc_turns.specs.Links.{link_number, is_undrained, is_blocked, changed_at, reported_state, is_there, kind_of, IsUnkept, AreAllBut}
use Rattle.wc_turns.specs.Served.{leaving_closes, closed_number, MayRun}
use Rattle.wc_turns.specs.Steps.{MarksLink, ReportsSources, BeginsTurn, SameKinds, TakesAside, WakesParties}
use Rattle.wc_turns.specs.Turns.{LoopStep, CausedBy, moment, closed_so_far, AgreesWithHappenings, AgreesOnLinks, AgreesWithSockets, MomentAdvances, HasCause, HasReason}
use Rattle.wc_turns.specs.Waits.{LosesNone}
use Rattle.wc_turns.specs.Events.{woke_events}
use Rattle.wc_turns.specs.Heard.{Heard, Happened, happenings}
use Rattle.wc_turns.specs.Turns.{AgreesWithHeard}
use Rattle.wc_turns.proofs.HeardLemmas.{quiet-happened, socket-stays}
use Rattle.wc_turns.proofs.HeardAgrees.{Hears-states, Hears-quiet, readings-kinds, socket-kinds}
use Rattle.wc_turns.proofs.ConnectionLemmas.{calm-leaving, all-calm}
use Rattle.wc_turns.proofs.ContainedLemmas.{starved-following}
use Rattle.wc_turns.proofs.KeyedLemmas.{or-false, none_of, same-keys}
use Rattle.wc_turns.proofs.RunLemmas.{ReachesEvents-all, run-append-acts, ReachesEvents-trans}
use Rattle.wc_turns.proofs.PointLemmas.{MomentAdvances-takes, asks_of-append, sides-kept}
use Rattle.wc_turns.proofs.ServedLemmas.{MayRun-none, MayRun-one, MayRun-then}
use Rattle.wc_turns.proofs.TakesLemmas.{some-events, end-by, causes-all}
use Rattle.wc_turns.proofs.ClosingLemmas.{no-closes, parted}
use Rattle.wc_turns.specs.Run.{closings, close_of_parting}
use Rattle.wc_turns.proofs.AgreesLemmas.{For-states, For-woke, missing-as}
use Rattle.wc_turns.proofs.ChangedLemmas.{keeps-reported, numbers-changed, SameTails-changed, undrained-reported, blocked-reported, kind-reported, SameKinds-changed, there-as}
use Rattle.wc_turns.proofs.CloseLemmas.{there-some}
use Rattle.wc_turns.proofs.ForgetLemmas.{and-not-false}
use Rattle.wc_turns.proofs.TurnLemmas.{Call, LoopStep-step, onward-of}
use Rattle.wc_core.specs.State.{Beside, beside}
use Rattle.wc_core.specs.ServersKept.{is_wanted, AreInOrder, parts_in}
use Rattle.wc_servers.specs.Outs.{wanted_in}
use Rattle.wc_turns.specs.Parties.{IsVacant, is_refused, asks_of, asks_in, seat_closes, closes_asked, IsCalm}
use Rattle.wc_turns.proofs.LossLemmas.{stays-further}
use Rattle.wc_turns.proofs.ListedLemmas.{but-weaker}
use Rattle.wc_turns.proofs.VacantLemmas.{vacant-keeps}
use Rattle.wc_turns.proofs.EndedLemmas.{ended-keeps, ended-states}
use Rattle.wc_turns.proofs.PartyLemmas.{among-come, party-used, clients-above, calm-clients, calm-seats}
use Rattle.wc_turns.proofs.SeatLemmas.{calm-partings}
use Rattle.wc_turns.proofs.CauseLemmas.{turn-reasons, Onward-none}
use Rattle.wc_text.specs.declared.names.LinkId.{LinkId}
use Rattle.wc_board.specs.declared.connection.Connection.{Connection}
use Rattle.wc_turns.specs.declared.links.LinkState.{LinkState}
use Rattle.wc_eval.specs.Verdicts.{Oracle, Agrees}
use Rattle.wc_core.proofs.OracleLemmas.{Agrees-before}
use Rattle.wc_turns.specs.Goes.{DoesWhole}
use Rattle.wc_core.specs.Starts.{Starts}

pub ReportsSources-none : (x : Headless) → ReportsSources x x []
ReportsSources-none x = record {
  core = refl;
  clock = refl;
  used = refl;
  turns = refl;
  ran = refl;
  refused = refl;
  unlisted = refl;
  closed = refl;
  listening = sym (or-false x.listening);
  numbers = refl;
  undrained = λ k. sym (or-false _);
  blocked = λ k. sym (and-not-false _);
  tails = λ k line h. h;
  kinds = λ k. inr refl;
}

or-assoc : (a b c : Bool) → ((a || b) || c) ≡ (a || (b || c))
or-assoc true b c = refl
or-assoc false b c = refl

or-both : (a b c d : Bool) → ((a || (b && d)) || (c && d)) ≡ (a || ((b || c) && d))
or-both true b c d = refl
or-both false true true true = refl
or-both false true true false = refl
or-both false true false true = refl
or-both false true false false = refl
or-both false false c d = refl

and-nor : (a b c : Bool) → ((a && not b) && not c) ≡ (a && not (b || c))
and-nor false b c = refl
and-nor true true c = refl
and-nor true false c = refl

or-true-right : (b : Bool) → true ≡ (b || true)
or-true-right true = refl
or-true-right false = refl

pub MarksLink-listener : (x y : Headless) (token : Token) → token ≡ Listener → y ≡ record x { listening = true } → MarksLink x y token
MarksLink-listener x y token e f = rw (e, f) (record {
  core = refl;
  clock = refl;
  used = refl;
  turns = refl;
  ran = refl;
  refused = refl;
  unlisted = refl;
  closed = refl;
  listening = or-true-right x.listening;
  numbers = refl;
  undrained = λ k. sym (or-false _);
  blocked = λ k. sym (and-not-false _);
  tails = λ k line h. h;
  kinds = λ k. inr refl;
})

pub MarksLink-link : (x y : Headless) (token : Token) (j : ℕ) → ((k : ℕ) → is_link k token ≡ eqb j k) → is_listener token ≡ false → y.core ≡ x.core → y.clock ≡ x.clock → y.used ≡ x.used → y.turns ≡ x.turns → y.ran ≡ x.ran → y.listening ≡ x.listening → y.refused ≡ x.refused → y.unlisted ≡ x.unlisted
    → y.links.closed.items ≡ x.links.closed.items → y.links.opened.items ≡ changed_at j reported_state x.links.opened.items (at_key link_number j x.links.opened.items) → MarksLink x y token
MarksLink-link x y token j link none core clock used turns ran listening refused unlisted closed opened = record {
  refused = ap (λ v. v.items) refused;
  unlisted = unlisted;
  core = core;
  clock = clock;
  used = used;
  turns = turns;
  ran = ran;
  closed = closed;
  listening = listening ∙ sym (or-false x.listening) ∙ ap (λ b. x.listening || b) (sym none);
  numbers = rw opened (numbers-changed j reported_state keeps-reported x.links.opened.items);
  undrained = λ k. rw (opened, link k) (undrained-reported j k x.links.opened.items);
  blocked = λ k. rw (opened, link k) (blocked-reported j k x.links.opened.items);
  tails = rw opened (SameTails-changed j reported_state keeps-reported x.links.opened.items);
  kinds = rw opened (SameKinds-changed j reported_state keeps-reported kind-reported x.links.opened.items);
}

kinds-then : (a b c : List LinkState) → SameKinds a b → SameKinds b c → SameKinds a c
kinds-then a b c h g k = kinds-by (h k) (g k)
  where
    kinds-by : (at_key link_number k b ≡ None) ⊎ (kind_of (at_key link_number k b) ≡ kind_of (at_key link_number k a)) → (at_key link_number k c ≡ None) ⊎ (kind_of (at_key link_number k c) ≡ kind_of (at_key link_number k b)) → (at_key link_number k c ≡ None) ⊎ (kind_of (at_key link_number k c) ≡ kind_of (at_key link_number k a))
    kinds-by p (inl none) = inl none
    kinds-by (inr e) (inr f) = inr (f ∙ e)
    kinds-by (inl none) (inr f) = inl (no-kind (at_key link_number k c) (f ∙ ap kind_of none))
      where
        no-kind : (o : Option LinkState) → kind_of o ≡ None → o ≡ None
        no-kind None q = refl
        no-kind (Some state) q = absurd (let r : kind_of (Some state) ≡ None = q in cc)

pub ReportsSources-more : (x y z : Headless) (tokens : List Token) (i : ℕ) (d : Token) → i < length tokens → ReportsSources x y (take i tokens) → MarksLink y z (slice_index_or tokens i d) → ReportsSources x z (take (i + 1) tokens)
ReportsSources-more x y z tokens i d below r m = record {
  core = m.core ∙ r.core;
  clock = m.clock ∙ r.clock;
  used = m.used ∙ r.used;
  turns = m.turns ∙ r.turns;
  ran = m.ran ∙ r.ran;
  refused = m.refused ∙ r.refused;
  unlisted = m.unlisted ∙ r.unlisted;
  closed = m.closed ∙ r.closed;
  listening = m.listening ∙ ap (λ b. b || is_listener (slice_index_or tokens i d)) r.listening ∙ or-assoc x.listening _ _ ∙ ap (λ b. x.listening || b) (sym (list_any_more is_listener tokens i d below));
  numbers = m.numbers ∙ r.numbers;
  undrained = λ k. m.undrained k ∙ ap (λ b. b || (is_link k (slice_index_or tokens i d) && is_some (at_key link_number k y.links.opened.items))) (r.undrained k)
      ∙ ap (λ q. (is_undrained (at_key link_number k x.links.opened.items) || (list_any (is_link k) (take i tokens) && is_some (at_key link_number k x.links.opened.items))) || (is_link k (slice_index_or tokens i d) && q)) (same-keys link_number k y.links.opened.items x.links.opened.items r.numbers)
      ∙ or-both (is_undrained (at_key link_number k x.links.opened.items)) (list_any (is_link k) (take i tokens)) (is_link k (slice_index_or tokens i d)) (is_some (at_key link_number k x.links.opened.items))
      ∙ ap (λ b. is_undrained (at_key link_number k x.links.opened.items) || (b && is_some (at_key link_number k x.links.opened.items))) (sym (list_any_more (is_link k) tokens i d below));
  blocked = λ k. m.blocked k ∙ ap (λ b. b && not (is_link k (slice_index_or tokens i d))) (r.blocked k)
      ∙ and-nor (is_blocked (at_key link_number k x.links.opened.items)) (list_any (is_link k) (take i tokens)) (is_link k (slice_index_or tokens i d))
      ∙ ap (λ b. is_blocked (at_key link_number k x.links.opened.items) && not b) (sym (list_any_more (is_link k) tokens i d below));
  tails = λ k line h. m.tails k line (r.tails k line h);
  kinds = kinds-then x.links.opened.items y.links.opened.items z.links.opened.items r.kinds m.kinds;
}

there_one : (there : ℕ → Bool) (k : ℕ) (token : Token) → IsThere there token → is_link k token ≡ true → there k ≡ true
there_one there k Listener h e = absurd (false≢true e)
there_one there k (Link link) h e = let same : link.0 ≡ k = grind (arith, nat_tests) in subst (λ i. there i ≡ true) same h

pub there_any : (there : ℕ → Bool) (k : ℕ) (tokens : List Token) → All (IsThere there) tokens → list_any (is_link k) tokens ≡ true → there k ≡ true
there_any there k [] h e = absurd (false≢true e)
there_any there k (t ∷ ts) h e = any_by (is_link k t) refl e (there_any there k ts (All-tail (IsThere there) t ts h)) (there_one there k t (All-head (IsThere there) t ts h))
  where
    any_by : (b : Bool) → is_link k t ≡ b → (b || list_any (is_link k) ts) ≡ true → (list_any (is_link k) ts ≡ true → there k ≡ true) → (is_link k t ≡ true → there k ≡ true) → there k ≡ true
    any_by true f g later now = now f
    any_by false f g later now = later g

pub and-if : (a b : Bool) → (a ≡ true → b ≡ true) → a ≡ (a && b)
and-if true b h = sym (h refl)
and-if false b h = refl

-- ---- the events of a wait

pub MayRun-start : (old new : CoreView) (moment : ℕ) → Does old new (λ state. step state (Start moment)) → Starts moment old new → MayRun old new (wake_events None moment)
MayRun-start old new moment does starts = MayRun-one old new (Start moment) does (does, starts)

pub MayRun-tick : (old new : CoreView) (last moment : ℕ) → is_tick last moment ≡ true → Does old new (λ state. step state (Tick moment)) → DoesWhole None old new (λ state. step state (Tick moment)) → MayRun old new (wake_events (Some last) moment)
MayRun-tick old new last moment e does whole = rw e (MayRun-one old new (Tick moment) does whole)

pub MayRun-still : (core : CoreView) (last moment : ℕ) → is_tick last moment ≡ false → MayRun core core (wake_events (Some last) moment)
MayRun-still core last moment e = rw e (MayRun-none core)

-- at a step that closes none a client leaves for want of memory alone
starves-alone : (old new : CoreView) (step : State → Stepped) (k : ℕ) → ((state : State) → close_of k (step state).acts ≡ None) → Does old new step → Distinct (links_of old) → StaysOrStarves (leaving_on k old.connections) (leaving_on k new.connections)
starves-alone old new step k none does distinct = by ((does (plain_beside old)).causes distinct k) where
  by : LeavesBy (leaving_on k old.connections) (close_of k (step (state_of old (plain_beside old))).acts) (leaving_on k new.connections) → StaysOrStarves (leaving_on k old.connections) (leaving_on k new.connections)
  by (inl e) = inl (e ∙ ap (or_else (leaving_on k old.connections)) (none (state_of old (plain_beside old))) ∙ or_else-none (leaving_on k old.connections))
  by (inr starves) = starves

-- a connection that stands closes no client
pub stands-causes : (old new : CoreView) (link : ℕ) → Does old new (λ state. step state (Stands link)) → Distinct (links_of old) → (k : ℕ) → StaysOrStarves (leaving_on k old.connections) (leaving_on k new.connections)
stands-causes old new link does distinct k = starves-alone old new (λ state. step state (Stands link)) k (λ state. stands-closes k state link (at_key server_link link state.servers)) does distinct

pub start-causes : (old new : CoreView) (moment : ℕ) → Does old new (λ state. step state (Start moment)) → Distinct (links_of old) → (k : ℕ) → StaysOrStarves (leaving_on k old.connections) (leaving_on k new.connections)
start-causes old new moment does distinct k = starves-alone old new (λ state. step state (Start moment)) k (λ state. starts-closes k (begun_state state moment) state.commands) does distinct

pub tick-causes : (old new : CoreView) (moment : ℕ) → Does old new (λ state. step state (Tick moment)) → Distinct (links_of old) → (k : ℕ) → StaysOrStarves (leaving_on k old.connections) (leaving_on k new.connections)
tick-causes old new moment does distinct k = starves-alone old new (λ state. step state (Tick moment)) k (λ state. pushes-closes k (record state { moment = moment })) does distinct

pub still-causes : (core : CoreView) → WakesParties core core
still-causes core = record { causes = λ distinct k. inl refl }

-- the event of a wait closes no client
pub wake-leaves : (k : ℕ) (last : Option ℕ) (moment : ℕ) (state : State) → close_of k (run state (wake_events last moment)).acts ≡ None
wake-leaves k None moment state =
    let next : State = begun_state state moment in
    ap (close_of k) (append-nil (start_step next state.commands).acts) ∙ starts-closes k next state.commands
wake-leaves k (Some last) moment state = by (is_tick last moment)
  where
    by : (t : Bool) → close_of k (run state (cond t (Tick moment ∷ []) [])).acts ≡ None
    by true =
        let next : State = record state { moment = moment } in
        ap (close_of k) (append-nil (push_step next).acts) ∙ pushes-closes k next
    by false = refl

-- the event of a wait, and the losses after it
pub aside-after : (x c y : CoreView) (refused : List LinkId) (unlisted ran mid ran' moment : ℕ) (last : Option ℕ) → x.quits ≡ false → MayRun x c (wake_events last moment) → mid ≡ min (ran + length (wake_events last moment)) (2 ^ 64 - 1) → KeepsClients c y → y.quits ≡ c.quits
    → ((lost : List LinkId) → AreAllBut (IsVacant c) refused lost → length lost ≡ length refused + unlisted → TakesAside refused c y mid ran' (map loss_of lost))
    → (lost : List LinkId) → AreAllBut (IsVacant x) refused lost → length lost ≡ length refused + unlisted → TakesAside refused x y ran ran' (wake_events last moment ++ map loss_of lost)
aside-after x c y refused unlisted ran mid ran' moment last going woke count keeps quits loses lost but size =
    let t = loses lost (but-weaker (IsVacant x) (IsVacant c) (vacant-keeps x c woke.keeps) refused lost but) size in
    record {
      takes = record {
        events = wake ++ t.takes.events;
        reaches = ReachesEvents-trans x.quits c.quits y.quits ran mid ran' wake (map loss_of lost) wake t.takes.events (λ over. absurd (false≢true (sym going ∙ over))) (λ over. quits ∙ over) (ReachesEvents-all x.quits c.quits ran mid wake going (λ fits. count)) t.takes.reaches;
        takes = MayRun-then x c y wake t.takes.events t.takes.reaches.nothing woke t.takes.takes;
      };
      closes = λ aside still below distinct told were agrees k.
          let rises = woke.keeps.rises in
          let later = keeps.rises in
          let half : c.starved ≡ x.starved = omega arith in
          let did = woke.does half below distinct told were (Agrees-before told.oracle c.verdicts y.verdicts keeps.verdicts agrees) in
          let rows = (beside (run (state_of x told) wake).state) in
          let one = t.closes (λ j e. none_of _ (same-keys connection_link j c.connections x.connections woke.keeps.links ∙ ap is_some (aside j e))) (let f = still in omega arith) (let f = below in omega arith) (subst Distinct (sym woke.keeps.links) distinct) rows did.means.told (subst (λ (o : Oracle). Agrees o y.verdicts) (sym did.oracle) agrees) k in
          ap (close_of k) (run-append-acts (state_of x told) wake t.takes.events) ∙ close_of-append k (run (state_of x told) wake).acts (run (run (state_of x told) wake).state t.takes.events).acts
          ∙ ap (λ o. or_else o (close_of k (run (run (state_of x told) wake).state t.takes.events).acts)) (wake-leaves k last moment (state_of x told)) ∙ ap (λ s. close_of k (run s t.takes.events).acts) did.means.same ∙ one;
    }
  where
    wake : List Event
    wake = wake_events last moment

-- ---- a turn begins

pub begin-causes : (x y z : CoreView) (refused : List LinkId) → WakesParties x y → links_of y ≡ links_of x → (Distinct (links_of y) → (k : ℕ) → is_refused k refused ≡ false → StaysOrStarves (leaving_on k y.connections) (leaving_on k z.connections)) → Distinct (links_of x) → (k : ℕ) → is_refused k refused ≡ false → StaysOrStarves (leaving_on k x.connections) (leaving_on k z.connections)
begin-causes x y z refused wakes links later distinct k out =
    stays-further (leaving_on k x.connections) (leaving_on k y.connections) (leaving_on k z.connections) (wakes.causes distinct k) (later (subst Distinct (sym links) distinct) k out)

-- ---- a wait returned

-- the links agree as a wait returned
pub among-woke : (x z : Headless) (y : Headless) (a b : Seen) (m : ℕ) (tokens : List Token) → b.used ≡ a.used → ((k : ℕ) → b.there k ≡ a.there k) → ((k : ℕ) → b.undrained k ≡ (a.undrained k || list_any (is_link k) tokens)) → b.listening ≡ (a.listening || list_any is_listener tokens) → ((k : ℕ) → b.blocked k ≡ (a.blocked k && not (list_any (is_link k) tokens))) → All (IsThere a.there) tokens
    → BeginsTurn x y m → ReportsSources y z tokens → z.refused.items ≡ [] → AgreesOnLinks x.links.opened.items x.core x.used x.listening x.refused.items a → AgreesOnLinks z.links.opened.items z.core z.used z.listening z.refused.items b
among-woke x z y a b m tokens used there undrained listening blocked tokens_there begins reports none s =
    let numbers : map link_number z.links.opened.items ≡ map link_number x.links.opened.items = reports.numbers ∙ ap (λ o. map link_number o) begins.opened in
    let kinds : SameKinds x.links.opened.items z.links.opened.items = subst (λ o. SameKinds o z.links.opened.items) begins.opened reports.kinds in
    let keeps : KeepsClients x.core z.core = subst (KeepsClients x.core) (sym reports.core) begins.keeps in
    let came = among-come x.links.opened.items x.links.opened.items x.core z.core x.used x.listening x.refused.items a a refl (λ k. refl) (λ k. refl) (λ k. refl) keeps.links keeps.servers (ended-keeps x.links.opened.items x.core z.core keeps) (record { used = refl; there = λ k. refl; undrained = λ k. refl; blocked = λ k. refl; listening = refl }) s in
    let known : (k : ℕ) → is_some (at_key link_number k z.links.opened.items) ≡ is_some (at_key link_number k x.links.opened.items) = λ k. same-keys link_number k z.links.opened.items x.links.opened.items numbers in
    rw (none, reports.used ∙ begins.used) (record {
      counted = s.counted ∙ sym used;
      there = λ k. there k ∙ s.there k ∙ sym (there-as x.links.opened.items z.links.opened.items numbers kinds k);
      undrained = λ k. undrained k ∙ ap (λ q. q || list_any (is_link k) tokens) (s.undrained k ∙ ap (λ o. is_undrained (at_key link_number k o)) (sym begins.opened))
          ∙ ap (λ q. is_undrained (at_key link_number k y.links.opened.items) || q) (and-if _ _ (λ e. is-kept k (there_any a.there k tokens tokens_there e))) ∙ sym (reports.undrained k);
      blocked = λ k. blocked k ∙ ap (λ q. q && not (list_any (is_link k) tokens)) (s.blocked k ∙ ap (λ o. is_blocked (at_key link_number k o)) (sym begins.opened)) ∙ sym (reports.blocked k);
      listens = listening ∙ ap (λ q. q || list_any is_listener tokens) (s.listens ∙ sym begins.listening) ∙ sym reports.listening;
      parties = λ k. came.parties k ∙ ap (λ q. q || is_wanted k z.core.servers.wanted) (sym (known k));
      ended = ended-states x.links.opened.items z.links.opened.items z.core kinds came.ended;
      alone = came.alone;
      once = came.once;
      seats = came.seats;
      order = came.order;
      apart = subst Distinct (sym numbers) s.apart;
      unknown = λ k below. none_of _ (known k ∙ ap is_some (s.unknown k below));
      clients = came.clients;
      unrefused = λ k below. refl;
      spared = λ k e. absurd (false≢true e);
      next = came.next;
      reached = came.reached;
      limited = came.limited;
    })
  where
    -- a link that is reported is kept
    is-kept : (k : ℕ) → a.there k ≡ true → is_some (at_key link_number k y.links.opened.items) ≡ true
    is-kept k e = there-some _ (ap (λ o. is_there (at_key link_number k o)) begins.opened ∙ sym (s.there k) ∙ e)

-- the closes that are asked for once a turn began are, in order, those of what was run
pub woke-closes : (told : Beside) (x z : CoreView) (events : List Event) → IsCalm x → map connection_link z.connections ≡ map connection_link x.connections → Distinct (links_of x) → x.servers.used ≤ 2 ^ 62 → AreInOrder x.servers → Follows told x z (run (state_of x told) events) → ((k : ℕ) → close_of k (run (state_of x told) events).acts ≡ None)
    → closings (run (state_of x told) events).acts ≡ closes_asked z
woke-closes told x z events calm links distinct few order did none =
    no-closes acts none ∙ servers ∙ sym (append-nil (seat_closes z.servers.seats)) ∙ ap (λ cs. seat_closes z.servers.seats ++ cs) (sym clients)
  where
    acts : List Act
    acts = (run (state_of x told) events).acts

    servers : parted acts ≡ seat_closes z.servers.seats
    servers = sym (ap (map close_of_parting) (did.parts few order ∙ ap (λ ps. ps ++ parts_in (outs_of acts)) (calm-partings x.servers.seats (calm-seats x calm))))

    clients : leaving_closes z.connections ≡ []
    clients = all-calm z.connections (subst Distinct (sym links) distinct) (λ k. did.leaving k ∙ ap (λ o. or_else o (close_of k acts)) (calm-leaving k x.connections (calm-clients x calm)) ∙ none k)

-- who began to leave did so for want of memory
starved-cause : (k : ℕ) (before after : Option Cause) (why : Cause) (a b : Seen) → before ≡ None → after ≡ Some why → StaysOrStarves before after → CausedBy why k a b
starved-cause k before after why a b none leaves (inl e) = absurd (let q : None ≡ Some why = sym none ∙ sym e ∙ leaves in cc)
starved-cause k before after why a b none leaves (inr e) = let same : why ≡ NoMemory = (let q : Some why ≡ Some NoMemory = sym leaves ∙ e in cc) in subst (λ c. CausedBy c k a b) (sym same) tt

-- what a turn is to close at its begin has its cause
pub woke-causes : (x z y : Headless) (a b : Seen) (m : ℕ) (tokens : List Token) → IsCalm x.core → BeginsTurn x y m → ReportsSources y z tokens → (IsTrue b.tells → b.taken ≡ a.taken ++ Woke m ∷ []) → AgreesWithSockets x a → All (HasCause x z a b) (closes_asked z.core)
woke-causes x z y a b m tokens calm begins reports taken s =
    causes-all x z a b (Woke m ∷ []) (subst Distinct (sym keeps.links) s.among.once) (keeps.servers.seats s.among.seats) (sides-kept x.core z.core keeps.servers) taken (λ k. refl) (λ k why leaves. client k why leaves (is_refused k x.refused.items) refl)
  where
    keeps : KeepsClients x.core z.core
    keeps = subst (KeepsClients x.core) (sym reports.core) begins.keeps

    client : (k : ℕ) (why : Cause) → leaving_on k z.core.connections ≡ Some why → (t : Bool) → is_refused k x.refused.items ≡ t → CausedBy why k a b
    client k why leaves true e = absurd (gone (at_key connection_link k z.core.connections) (none_of _ (same-keys connection_link k z.core.connections x.core.connections keeps.links ∙ ap is_some (s.among.spared k e))) leaves)
      where
        gone : (o : Option Connection) → o ≡ None → leaving_in o ≡ Some why → ⊥
        gone None q h = absurd (let r : None ≡ Some why = h in cc)
        gone (Some c) q h = absurd (let r : Some c ≡ None = q in cc)
    client k why leaves false e = starved-cause k (leaving_on k x.core.connections) (leaving_on k z.core.connections) why a b (calm-leaving k x.core.connections (calm-clients x.core calm)) leaves
        (subst (λ (c : CoreView). StaysOrStarves (leaving_on k x.core.connections) (leaving_on k c.connections)) (sym reports.core) (begins.causes s.among.once k e))

-- a wait returned
unfoldable pub LoopStep-woke : (x y z : Headless) (a b : Seen) (m : ℕ) (tokens : List Token) → Call a b (Woke m ∷ []) → (IsTrue b.tells → (k : ℕ) → b.sent k ≡ a.sent k) → (IsTrue b.tells → (k : ℕ) → b.choked k ≡ a.choked k) → (IsTrue b.tells → b.asked ≡ a.asked)
    → b.used ≡ a.used → ((k : ℕ) → b.there k ≡ a.there k) → ((k : ℕ) → b.undrained k ≡ (a.undrained k || list_any (is_link k) tokens)) → b.listening ≡ (a.listening || list_any is_listener tokens) → ((k : ℕ) → b.blocked k ≡ (a.blocked k && not (list_any (is_link k) tokens))) → All (IsThere a.there) tokens
    → x.core.quits ≡ false → IsCalm x.core → BeginsTurn x y m → ReportsSources y z tokens → z.refused.items ≡ [] → z.unlisted ≡ 0 → z.links.closed.items ≡ [] → LoopStep false 1 0 x z a b
LoopStep-woke x y z a b m tokens call sent choked asked used there undrained listening blocked tokens_there going calm begins reports none none' empty =
    LoopStep-step false 1 0 x z a b (Woke m ∷ []) (Happened (Woke m) ∷ []) (closes_asked z.core) refl call (λ below. (let t = begins.turns in let r = reports.turns in omega arith)) refl refl
    keeps.rises (λ t. absurd (false≢true t)) (λ s. reasons s) (λ s. sides-kept x.core z.core keeps.servers) (λ s. Onward-none x.core z.core (Woke m ∷ []) (let r = keeps.servers.reached in omega arith) (λ k. refl))
    (λ over. absurd (false≢true (sym going ∙ over))) (λ t. absurd (false≢true t)) among
    (λ t s on. told s.among (s.told (call.told t) going) (let e = (s.hears (call.told t) going).events in omega arith) on)
    (λ t s on. hears s.history (s.spells (call.told t)) s.among (s.told (call.told t) going) (s.hears (call.told t) going) on)
    (λ t s k e. socket-stays k a.taken (Woke m ∷ []) (s.sockets (call.told t) k (socket-kinds (at_key link_number k x.links.opened.items) (at_key link_number k z.links.opened.items) (subst (λ o. SameKinds o z.links.opened.items) begins.opened reports.kinds k) e)))
    (λ s stopped. began s stopped)
    (λ t s. record {
      events = (takes s.among (s.told (call.told t) going)).takes.events;
      reaches = rw (ap (λ taken. woke_events taken m) (s.spells (call.told t)), append-nil (woke_events a.taken m)) ((takes s.among (s.told (call.told t) going)).takes.reaches);
      rises = keeps.rises;
      verdicts = keeps.verdicts;
      goes = (takes s.among (s.told (call.told t) going)).takes.takes.goes;
      advances = λ same below rows were agrees. advances t s same below rows were agrees (s.told (call.told t) going);
      silent = λ over. refl;
      ends = (tt, tt);
      last = λ same below rows were agrees on over.
          let events = (takes s.among (s.told (call.told t) going)).takes.events in
          let did = (takes s.among (s.told (call.told t) going)).takes.takes.does same below s.among.once rows were agrees in
          record { front = []; heard = Happened (Woke m); back = []; same = refl; within = some-events (state_of x.core rows) events (end-by x.core.quits z.core.quits _ going did.quits over); silent = refl };
    })
  where
    keeps : KeepsClients x.core z.core
    keeps = subst (KeepsClients x.core) (sym reports.core) begins.keeps

    among : AgreesOnLinks x.links.opened.items x.core x.used x.listening x.refused.items a → AgreesOnLinks z.links.opened.items z.core z.used z.listening z.refused.items b
    among s = among-woke x z y a b m tokens used there undrained listening blocked tokens_there begins reports none s

    numbers : map link_number z.links.opened.items ≡ map link_number x.links.opened.items
    numbers = reports.numbers ∙ ap (λ o. map link_number o) begins.opened

    reasons : AgreesWithSockets x a → All (HasReason x z a b) (closed_so_far z)
    reasons s = subst (All (HasReason x z a b)) (ap (λ cs. cs ++ closes_asked z.core) (sym empty)) (All-weaker (HasCause x z a b) (HasReason x z a b) (λ c h. inr h) (closes_asked z.core) (woke-causes x z y a b m tokens calm begins reports call.taken s))

    -- nobody is at a link of which no record is kept
    vacant : AgreesOnLinks x.links.opened.items x.core x.used x.listening x.refused.items a → (k : ℕ) → IsUnkept x.links.opened.items x.used k → IsVacant x.core k
    vacant l k h =
        let low = h.0 in
        let reached = l.reached in (
          omega arith,
          l.parties k ∙ ap (λ (o : Option LinkState). is_some o || is_wanted k x.core.servers.wanted) h.1 ∙ ap (is_wanted k) calm.asked,
        )

    takes : AgreesOnLinks x.links.opened.items x.core x.used x.listening x.refused.items a → AgreesWithHappenings x.clock x.links.opened.items x.used x.ran x.refused.items x.unlisted a.taken → TakesAside x.refused.items x.core z.core x.ran z.ran (woke_events a.taken m)
    takes l t =
        let P : CoreView → Type 0 = λ c. TakesAside x.refused.items x.core c x.ran z.ran (woke_events a.taken m) in
        let Q : Option ℕ → Type 0 = λ last. TakesAside x.refused.items x.core y.core x.ran y.ran (wake_events last m ++ map loss_of (refused_since a.taken)) in
        let lost : AreAllBut (IsVacant x.core) x.refused.items (refused_since a.taken) = but-weaker (IsUnkept x.links.opened.items x.used) (IsVacant x.core) (vacant l) x.refused.items (refused_since a.taken) t.since in
        subst P (sym reports.core) (subst (λ n. TakesAside x.refused.items x.core y.core x.ran n (woke_events a.taken m)) (sym reports.ran)
        (subst Q t.clock (begins.takes (refused_since a.taken) lost (sym t.counted))))

    reached : AgreesOnLinks x.links.opened.items x.core x.used x.listening x.refused.items a → AgreesWithHappenings x.clock x.links.opened.items x.used x.ran x.refused.items x.unlisted a.taken → x.ran < 2 ^ 64 → z.core.quits ≡ false → z.ran ≡ min (x.ran + length (woke_events a.taken m)) (2 ^ 64 - 1)
    reached l t count on =
        let r = (takes l t).takes.reaches in
        let e = ap length (r.front ∙ ap (λ xs. (takes l t).takes.events ++ xs) (r.whole on) ∙ append-nil (takes l t).takes.events) in
        let c = r.counts count in
        omega arith

    told : AgreesOnLinks x.links.opened.items x.core x.used x.listening x.refused.items a → AgreesWithHappenings x.clock x.links.opened.items x.used x.ran x.refused.items x.unlisted a.taken → x.ran < 2 ^ 64 → z.core.quits ≡ false → AgreesWithHappenings z.clock z.links.opened.items z.used z.ran z.refused.items z.unlisted (a.taken ++ Woke m ∷ [])
    told l t count on =
        rw (reports.clock, begins.clock, reports.used, begins.used, none, none')
        (For-states (clock_from x.clock (Woke m ∷ [])) x.links.opened.items z.links.opened.items x.used z.ran [] 0 (a.taken ++ Woke m ∷ []) (subst (λ o. SameKinds o z.links.opened.items) begins.opened reports.kinds) (missing-as x.links.opened.items z.links.opened.items numbers)
        (For-woke x.clock x.links.opened.items x.used x.ran z.ran m x.refused.items x.unlisted a.taken (reached l t count on) t))

    hears : (history : List Heard) → happenings history ≡ a.taken → AgreesOnLinks x.links.opened.items x.core x.used x.listening x.refused.items a → AgreesWithHappenings x.clock x.links.opened.items x.used x.ran x.refused.items x.unlisted a.taken → AgreesWithHeard x.links.opened.items x.used x.ran a.taken history → z.core.quits ≡ false
        → AgreesWithHeard z.links.opened.items z.used z.ran (a.taken ++ Woke m ∷ []) (history ++ Happened (Woke m) ∷ [])
    hears history spells l t h on =
        rw (reports.used, begins.used)
        (Hears-states x.links.opened.items z.links.opened.items x.used z.ran (a.taken ++ Woke m ∷ []) (history ++ Happened (Woke m) ∷ []) (rw begins.opened at reports.tails) (readings-kinds x.links.opened.items z.links.opened.items (subst (λ o. SameKinds o z.links.opened.items) begins.opened reports.kinds))
        (Hears-quiet x.links.opened.items x.used x.used x.ran z.ran a.taken history (Happened (Woke m)) spells (quiet-happened (Woke m) (λ k. refl) (λ k. refl)) (omega arith) (reached l t (let e = h.events in omega arith) on ∙ ap (λ taken. min (x.ran + length (woke_events taken m)) (2 ^ 64 - 1)) (sym spells)) h))

    -- where no event was reached, none came to be wanted
    began : AgreesWithSockets x a → z.ran ≡ 0 → z.core.servers.wanted ≡ []
    began s stopped = ap (λ (c : CoreView). c.servers.wanted) reports.core ∙ begins.idle calm.asked (sym reports.ran ∙ stopped)

    advances : IsTrue b.tells → (s : AgreesWithSockets x a) → z.core.starved ≡ x.core.starved → x.core.starved < 2 ^ 64 - 1 → (rows : Beside) → WereTold x.core rows → Agrees rows.oracle z.core.verdicts → (t : AgreesWithHappenings x.clock x.links.opened.items x.used x.ran x.refused.items x.unlisted a.taken) → MomentAdvances rows (moment x a) (moment z b) (closes_asked z.core) (takes s.among t).takes.events
    advances t s same below rows were agrees told' =
        let events = (takes s.among told').takes.events in
        let did = (takes s.among told').takes.takes.does same below s.among.once rows were agrees in
        let acts = (run (state_of x.core rows) events).acts in
        let later = among s.among in
        let closes = (takes s.among told').closes (λ link e. s.among.spared link e) same below s.among.once rows were agrees in
        MomentAdvances-takes rows (moment x a) (moment z b) (closes_asked z.core) events did keeps.links (reports.used ∙ begins.used) keeps.servers later.seats (clients-above x.links.opened.items x.core x.used x.listening x.refused.items a s.among)
        (λ k low. party-used k x.links.opened.items z.links.opened.items x.core z.core x.used x.listening x.refused.items a low keeps.links keeps.servers s.among) s.among.alone later.alone (sent t) (choked t)
        (rw (asked t, did.servers.wanted) (ap (λ xs. a.asked ++ xs) (asks_of-append x.core.servers.wanted (wanted_in (outs_of acts))) ∙ sym (append_assoc a.asked (asks_of x.core.servers.wanted) (asks_in acts))))
        (Woke m ∷ []) (call.taken t) (woke-closes rows x.core z.core events calm keeps.links s.among.once s.among.limited s.among.order did closes) ((takes s.among told').takes.takes.stops same below s.among.once rows were agrees)

-- ---- what follows of it

-- what a turn closed as it began
pub woken-closed : (z w : Headless) (closed : List Closed) → z.links.closed.items ≡ [] → IsCalm w.core → closed_so_far w ≡ closed_so_far z ++ closed → w.links.closed.items ≡ closes_asked z.core ++ closed
woken-closed z w closed empty calm grows =
    sym (ap (λ cs. w.links.closed.items ++ cs) calm.parted ∙ append-nil _) ∙ grows ∙ ap (λ cs. (cs ++ closes_asked z.core) ++ closed) empty

-- what was saved before is not lost
pub woken-saves : (x y z w : Headless) (m : ℕ) (tokens : List Token) → BeginsTurn x y m → ReportsSources y z tokens → KeepsSaved z.core w.core → KeepsSaved x.core w.core
woken-saves x y z w m tokens begins reports later =
    KeepsSaved-trans x.core y.core w.core begins.keeps.saves (KeepsSaved-trans y.core z.core w.core (saves-as y.core z.core y.core reports.core refl refl) later)

-- no link is lost as a turn begins
pub woken-loses : (x y z w : Headless) (m : ℕ) (tokens : List Token) → BeginsTurn x y m → ReportsSources y z tokens → KeepsLinks z w → LosesNone x w
woken-loses x y z w m tokens begins reports keeps = record {
  opened = λ k there.
      let here : is_some (at_key link_number k z.links.opened.items) ≡ true = same-keys link_number k z.links.opened.items y.links.opened.items reports.numbers ∙ ap (λ states. is_some (at_key link_number k states)) begins.opened ∙ there in
      keeps.known k (ap (λ b. b || is_some (at_key closed_number k z.links.closed.items)) here);
  came = λ k above below. by k (keeps.came k (let u = reports.used in let v = begins.used in omega arith) below);
} where
  rises : x.core.starved ≤ z.core.starved
  rises = let e = ap (λ (c : CoreView). c.starved) reports.core in let p = begins.keeps.rises in omega arith

  by : (k : ℕ) → (is_known k w ≡ true) ⊎ HasStarved z.core.starved w.core.starved → (is_known k w ≡ true) ⊎ HasStarved x.core.starved w.core.starved
  by k (inl known) = inl known
  by k (inr starved) = inr (starved-following x.core.starved z.core.starved w.core.starved rises starved)

-- what a turn closed as it began has its cause, and nothing else is to be closed
pub woken-causes : (x z w : Headless) (a b c : Seen) (h : LoopStep false 1 0 x z a b) → AgreesWithSockets x a → LoopStep true 0 0 z w b c → z.links.closed.items ≡ [] → All (HasCause x z a b) (closes_asked z.core) → IsCalm w.core → All (HasCause x w a c) w.links.closed.items
woken-causes x z w a b c h s q empty caused calm =
    subst (All (HasCause x w a c)) (ap (λ cs. w.links.closed.items ++ cs) calm.parted ∙ append-nil _)
    (turn-reasons x z w a b c h.gained q.gained q.told h.taken q.taken h.counts q.counts (h.sides s) (onward-of x z a b h s) (onward-of z w b c q (h.agrees s)) (subst (All (HasCause x z a b)) (ap (λ cs. cs ++ closes_asked z.core) (sym empty)) caused) (q.causes (h.agrees s)))
