-- Whether a link is that of an open client.
use Rattle.std.proofs.Common.{◌≤◌, ◌<◌, ◌+◌, ◌^◌, ◌-◌, min, ◌≡◌, ℕ, Bool, true, false, cond, eqb, List, [], ◌∷◌, drop, is_none, IsSome, Option, Some, None, refl, ap, sym, subst, ◌∙◌, arith}
use Rattle.std.specs.Prelude.{map}
use Rattle.std.proofs.lemmas.Bool.{false≢true}
use Rattle.wc_outside.specs.Keyed.{at_key}
use Rattle.wc_session.specs.declared.client.Client.{Client}
use Rattle.wc_board.specs.declared.connection.Connection.{Connection}
use Rattle.wc_text.specs.declared.names.Cause.{Cause}
use Rattle.wc_board.specs.Connections.{connection_link, is_open_at, leaving_in, leaving_on}
use Rattle.wc_core.specs.State.{Beside}
use Rattle.wc_core.specs.CoreView.{CoreView}
use Rattle.wc_core.specs.State.{State, Stepped}
use Rattle.wc_core.specs.Step.{client_link}
use Rattle.wc_core.specs.Served.{clients_of, Distinct, KeepsClients, Does, Follows, LeavesBy, close_of, plain_beside, state_of}
use Rattle.wc_core.proofs.ConnectionLemmas.{client-open, client-missing, client-leaving}
use Rattle.wc_core.specs.Contained.{Runs, Contains, Counts, IsContained, RunsHere, want_number, rest_in, starved_by, starving_number, raised, RunsBy, RunsFor}
use Rattle.wc_eval.specs.Verdicts.{Agrees, VerdictsView}
use Rattle.wc_core.proofs.RunLemmas.{here-of}
use Rattle.wc_text.specs.declared.names.Cause.{Cause}
use Rattle.wc_text.specs.declared.names.Cause.TheVariants.{NoMemory}
use Rattle.wc_core.specs.BoardSteps.{board_of, StepsBy}
use Rattle.wc_core.proofs.DidLemmas.{KeepsClients-connections, KeepsClients-trans, saves-as, servers-same}
use Rattle.wc_core.proofs.CountLemmas.{raised-both, starved_by-raised}
use Rattle.wc_core.proofs.BoardStepLemmas.{by-any, by-both, by-same}

client-none : (k : ℕ) (connections : List Connection) (o : Option Connection) → at_key connection_link k connections ≡ o → is_open_at o ≡ false → Distinct (map connection_link connections) → at_key client_link k (clients_of connections) ≡ None
client-none k connections None at shut distinct = client-missing k connections at
client-none k connections (Some s) at shut distinct = client-leaving k connections s distinct at shut

first_number : List ℕ → ℕ
first_number [] = 0
first_number (n ∷ ns) = n

none_links : (k : ℕ) (xs ys : List Connection) → map connection_link xs ≡ map connection_link ys → at_key connection_link k ys ≡ None → at_key connection_link k xs ≡ None
unfolding first_number
none_links k [] ys e none = refl
none_links k (x ∷ xs) [] e none = absurd (cc)
none_links k (x ∷ xs) (y ∷ ys) e none = by (eqb (connection_link y) k) (ap (λ ns. eqb (first_number ns) k) e) (λ t. none_links k xs ys (ap (drop 1) e) t) none where
  by : (b : Bool) → eqb (connection_link x) k ≡ b → (at_key connection_link k ys ≡ None → at_key connection_link k xs ≡ None) → cond b (Some y) (at_key connection_link k ys) ≡ None → cond (eqb (connection_link x) k) (Some x) (at_key connection_link k xs) ≡ None
  by true t more none = absurd (cc)
  by false t more none = ap (λ b. cond b (Some x) (at_key connection_link k xs)) t ∙ more none

-- who is not open stays so
pub stays-shut : (old new : CoreView) (k : ℕ) → KeepsClients old new → is_open_at (at_key connection_link k old.connections) ≡ false → is_open_at (at_key connection_link k new.connections) ≡ false
stays-shut old new k keeps shut = by (at_key connection_link k old.connections) refl shut where
  some_of : (o : Option Cause) → is_none o ≡ false → IsSome o
  some_of None e = absurd (false≢true (sym e))
  some_of (Some why) e = refl

  by : (o : Option Connection) → at_key connection_link k old.connections ≡ o → is_open_at o ≡ false → is_open_at (at_key connection_link k new.connections) ≡ false
  by None at sits = ap is_open_at (none_links k new.connections old.connections keeps.links at)
  by (Some s) at sits =
      let P : Option Connection → Type 0 = λ o. IsSome (leaving_in o) in
      ap is_open_at (keeps.kept k (subst P (sym at) (some_of s.leaving sits)) ∙ at) ∙ sits

-- what is done where a link has no open client
pub shut-chooses : (old new : CoreView) (k : ℕ) (step : State → Option Client → Stepped) → is_open_at (at_key connection_link k old.connections) ≡ false → Runs old new (λ state. step state None) → RunsHere k old new (λ state. step state (at_key client_link k state.clients))
shut-chooses old new k step shut done = λ told.
    let f = done (rest_in old told) in
    let none : Distinct (map connection_link old.connections) → at_key client_link k (clients_of old.connections) ≡ None = λ distinct. client-none k old.connections (at_key connection_link k old.connections) refl shut distinct in
    record {
      keeps = f.keeps;
      board = by-any (Some k) (board_of old) (board_of new) f.board;
      counts = f.counts;
      causes = λ here distinct j. rw (none distinct) (f.causes here distinct j);
      does = λ here same below distinct were agrees. rw (none distinct) (f.does here same below distinct were agrees);
      contains = λ below distinct were agrees. rw (none distinct) (f.contains below distinct were agrees);
    }

-- what is done of an open client
pub open-chooses : (old new : CoreView) (k : ℕ) (step whole : State → Option Client → Stepped) → ((state : State) (client : Client) → step state (Some client) ≡ whole state (Some client)) → is_open_at (at_key connection_link k old.connections) ≡ true
    → RunsHere k old new (λ state. step state (at_key client_link k state.clients)) → RunsHere k old new (λ state. whole state (at_key client_link k state.clients))
open-chooses old new k step whole same opened done = λ told. by told (at_key connection_link k old.connections) refl opened where
  P : Beside → Option Client → Type 0
  P told o = RunsBy (Some k) (rest_in old told) old new (step (state_of old told) o)

  by : (told : Beside) (o : Option Connection) → at_key connection_link k old.connections ≡ o → is_open_at o ≡ true → RunsBy (Some k) (rest_in old told) old new (whole (state_of old told) (at_key client_link k (clients_of old.connections)))
  by told None at sits = absurd (false≢true sits)
  by told (Some s) at sits =
      let here = client-open k old.connections s at sits in
      let Q : Stepped → Type 0 = λ stepped. RunsBy (Some k) (rest_in old told) old new stepped in
      let R : Option Client → Type 0 = λ o. RunsBy (Some k) (rest_in old told) old new (whole (state_of old told) o) in
      subst R (sym here) (subst Q (same (state_of old told) s.session.client) (subst (P told) here (done told)))

-- the same step for each open client
pub open-does : (old new : CoreView) (k : ℕ) (step : State → Stepped) (whole : State → Option Client → Stepped) → ((state : State) (client : Client) → step state ≡ whole state (Some client)) → is_open_at (at_key connection_link k old.connections) ≡ true
    → RunsFor (Some k) old new step → RunsHere k old new (λ state. whole state (at_key client_link k state.clients))
open-does old new k step whole same opened done = open-chooses old new k (λ state client. step state) whole same opened (here-of k old new step done)

-- ---- what is counted of a loss

-- a loss that is counted where it is for want of memory
module _ (k : ℕ) (old mid new : CoreView) (why : Cause) (step : State → Stepped) (run : RunsHere k old mid step) (e : new ≡ record mid { starved = starved_by why mid.starved }) (rises : mid.starved ≤ new.starved) where
  connections : new.connections ≡ mid.connections
  connections = ap (λ (c : CoreView). c.connections) e

  pub loss-does : Does old new step
  loss-does = λ told.
      let f = run told in
      let P : CoreView → Type 0 = λ c. Follows told old c (step (state_of old told)) in
      let Q : VerdictsView → Type 0 = λ v. Agrees told.oracle v in
      let R : List Connection → Type 0 = λ all. (j : ℕ) → LeavesBy (leaving_on j old.connections) (close_of j (step (state_of old told)).acts) (leaving_on j all) in
      record {
        keeps = KeepsClients-trans old mid new f.keeps (KeepsClients-connections mid new (ap board_of e) rises (saves-as mid new (record mid { starved = starved_by why mid.starved }) e refl refl) (servers-same mid new (ap (λ (c : CoreView). c.servers) e)) (ap (λ (c : CoreView). c.verdicts) e));
        causes = λ distinct. subst R (sym connections) (λ j. f.causes refl distinct j);
        does = λ same below distinct were agrees.
            let more = f.keeps.rises in
            let half : mid.starved ≡ old.starved = omega (arith, more, rises, same) in
            let g = f.does refl half below distinct were (subst Q (ap (λ (c : CoreView). c.verdicts) e) agrees) in
            subst P (sym e) (record { means = record { same = g.means.same; told = g.means.told }; oracle = g.oracle; bytes = g.bytes; leaving = g.leaving; quits = g.quits; servers = g.servers; parts = g.parts });
      }

  pub loss-contains : Contains old new step
  loss-contains = λ told below distinct were agrees.
      let Q : VerdictsView → Type 0 = λ v. Agrees told.oracle v in
      let is = (run told).contains below distinct were (subst Q (ap (λ (c : CoreView). c.verdicts) e) agrees) in
      let P : CoreView → Type 0 = λ c. IsContained (rest_in old told) old c (step (state_of old told)) in
      subst P (sym e) (record {
        whole = λ same. (let d = is.whole same in record { holds = record { same = d.holds.same; told = d.holds.told }; is_on = d.is_on; oracle = d.oracle; quits = d.quits; servers = d.servers });
        part = record { stage = is.part.stage; is_on = is.part.is_on; holds = record { same = is.part.holds.same; told = is.part.holds.told }; servers = is.part.servers };
        quits = is.quits;
      })

  pub loss-counts : Counts (want_number (Some why)) old new
  loss-counts =
      let f = (run (plain_beside old)).counts in
      let r = want_number (Some why) in
      record {
        dropped = f.dropped;
        short = f.short;
        own = f.own;
        lost = f.lost;
        leaving = ap starving_number connections ∙ f.leaving;
        counted =
            ap (λ (c : CoreView). c.starved) e ∙ starved_by-raised why mid.starved ∙ ap (λ n. raised n r) f.counted ∙ raised-both old.starved (f.dropped + (f.short + 0)) r
            ∙ ap (raised old.starved) (omega arith);
        cuts = ap (λ (c : CoreView). c.cuts) e ∙ f.cuts;
      }

  -- and it rises where it is for that
  pub loss-more : why ≡ NoMemory → old.starved < 2 ^ 64 - 1 → old.starved < new.starved
  loss-more memory below =
      let more = (run (plain_beside old)).keeps.rises in
      let count : new.starved ≡ min (mid.starved + 1) (2 ^ 64 - 1) = ap (λ (c : CoreView). c.starved) e ∙ ap (λ why. starved_by why mid.starved) memory in
      omega (arith, more, count, below)

  pub loss-board : StepsBy (Some k) (board_of old) (board_of new)
  loss-board = by-both (board_of old) (board_of mid) (board_of new) (run (plain_beside old)).board (by-same (board_of mid) (board_of new) (ap board_of e))
