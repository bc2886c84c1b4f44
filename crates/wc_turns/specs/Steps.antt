-- What the loop keeps of arrivals and of the sources that are ready.
use Rattle.std.specs.Prelude.{ℕ, ◌+◌, ◌-◌, ◌^◌, ◌≡◌, ◌&&◌, ◌||◌, ◌⊎◌, ◌<◌, ◌≢◌}
use Rattle.std.specs.Prelude.{◌≤◌, ◌++◌, Bool, true, false, if◌then◌else◌, Option, None, Some, min, max}
use Rattle.std.specs.Prelude.{length, List, [], ◌∷◌, map, not, is_some, IfSome}
use Rattle.std.specs.List.{list_any}
use Rattle.wc_text.specs.declared.names.LinkId.{LinkId}
use Rattle.wc_text.specs.declared.names.Cause.{Cause}
use Rattle.wc_text.specs.declared.names.Cause.TheVariants.{NoMemory}
use Rattle.wc_core.specs.Events.{Arrives}
use Rattle.wc_core.specs.Step.{step, run}
use Rattle.wc_core.specs.Changing.{reach_step}
use Rattle.wc_core.specs.CoreView.{CoreView}
use Rattle.wc_core.specs.Served.{state_of, WereTold, links_of, refusal, Absent, Distinct}
use Rattle.wc_core.specs.Served.{KeepsClients, close_of}
use Rattle.wc_core.specs.Events.{Event}
use Rattle.wc_board.specs.Connections.{connection_link, new_connection, leaving_on, is_open_at}
use Rattle.wc_board.specs.Served.{StaysOrStarves}
use Rattle.wc_core.specs.Served.{AdmitsUnlessStarved}
use Rattle.wc_core.specs.State.{Beside, Closes}
use Rattle.wc_core.specs.Contained.{starved_by}
use Rattle.wc_turns.specs.Contained.{HasStarved}
use Rattle.wc_turns.specs.Parties.{has_party, IsCalm, is_refused, IsVacant}
use Rattle.wc_turns.specs.Served.{closed_by, MayRun, MayTake}
use Rattle.wc_servers.specs.Seats.{used_up, forgotten}
use Rattle.wc_core.specs.ServersKept.{LosesServer}
use Rattle.wc_servers.specs.declared.wanted.Wanted.{Wanted}
use Rattle.wc_outside.specs.Happenings.{is_link, is_listener}
use Rattle.wc_outside.specs.declared.sockets.Token.{Token}
use Rattle.wc_outside.specs.declared.happening.Happening.TheVariants.{Woke}
use Rattle.wc_turns.specs.declared.links.LinkState.{LinkState}
use Rattle.wc_turns.specs.declared.headless.Headless.{Headless}
use Rattle.wc_outside.specs.Keyed.{at_key, without}
use Rattle.wc_turns.specs.Events.{clock_from, wake_events, loss_of}
use Rattle.wc_turns.specs.Links.{link_number, is_undrained, is_blocked, kind_of, new_state}
use Rattle.wc_turns.specs.Links.{AreAllBut}
use Rattle.wc_turns.specs.Tails.{IsTail}
use Rattle.wc_eval.specs.Verdicts.{Agrees}
use Rattle.wc_turns.specs.Goes.{LosesWhole, IsRefusal}

-- what comes after the last LF of each link is as before
abbrev pub SameTails : List LinkState → List LinkState → Type 0
SameTails old new = (k : ℕ) (line : List ℕ) →
    IfSome (at_key link_number k old) (λ state. IsTail line state.tail) →
    IfSome (at_key link_number k new) (λ state. IsTail line state.tail)

-- each link that is there leads to whom it led, and it stands if it did
abbrev pub SameKinds : List LinkState → List LinkState → Type 0
SameKinds old new = (k : ℕ) → (at_key link_number k new ≡ None)
    ⊎ (kind_of (at_key link_number k new) ≡ kind_of (at_key link_number k old))

-- an arrival is taken, whose link is new
pub record LinkComes (x y : Headless) (link : LinkId) : Type 0 where
  pub clock : y.clock ≡ x.clock
  pub used : y.used ≡ link.0
  pub listening : y.listening ≡ x.listening
  pub turns : y.turns ≡ x.turns
  pub ran : y.ran ≡ min (x.ran + 1) (2 ^ 64 - 1)
  pub refused : y.refused ≡ x.refused
  pub unlisted : y.unlisted ≡ x.unlisted
  pub quits : y.core.quits ≡ x.core.quits
  pub calm : IsCalm x.core → IsCalm y.core

-- it has a client, and its link has room for a line
pub record TakesArrival (x y : Headless) (link : LinkId) (nonce : List ℕ) : Type 0 where
  pub opened : y.links.opened.items ≡ x.links.opened.items ++ new_state link None false ∷ []
  pub closed : y.links.closed.items ≡ x.links.closed.items
  pub core : y.core ≡ record x.core {
    connections = x.core.connections
        ++ new_connection link nonce ∷ [];
    servers = used_up link.0 x.core.servers;
  }
  pub step : Absent link.0 (links_of x.core) → (told : Beside) →
      AdmitsUnlessStarved told link.0 x.core y.core None
      (step (state_of x.core told) (Arrives link.0 nonce))

-- why an arrival is refused, which is not listed where there was no memory for that
abbrev pub refused_for : Option Cause → Cause
refused_for None = NoMemory
refused_for (Some cause) = cause

-- it has no client, and its link is to be closed at once: it is listed with its cause, unless there
-- was no memory for that
pub record RefusesArrival (x y : Headless) (link : LinkId) (nonce : List ℕ) : Type 0 where
  pub cause : Option Cause
  pub fits : IfSome cause IsRefusal
  pub opened : at_key link_number link.0 x.links.opened.items ≡ None → y.links.opened.items
      ≡ x.links.opened.items
  pub closed : at_key link_number link.0 x.links.opened.items ≡ None → y.links.closed.items
      ≡ x.links.closed.items ++ closed_by link cause
  pub core : y.core ≡ record x.core {
    servers = used_up link.0 x.core.servers;
    starved = starved_by (refused_for cause) x.core.starved;
  }
  -- it is one too many only where the event has that
  pub closes : has_party link.0 x.core ≡ false → (told : Beside)
      → ((step (state_of x.core told) (Arrives link.0 nonce)).acts
      ≡ Closes link.0 (refused_for cause) ∷ []) ⊎ (refused_for cause ≡ NoMemory)
  pub rises : x.core.starved ≤ y.core.starved
  pub starves : cause ≡ None → HasStarved x.core.starved y.core.starved
  pub step : y.core.starved ≡ x.core.starved → x.core.starved < 2 ^ 64 - 1 →
      has_party link.0 x.core ≡ false
      → (told : Beside) → WereTold x.core told → step (state_of x.core told) (Arrives link.0 nonce)
      ≡ reach_step (record (state_of x.core told) { used = max x.core.servers.used link.0 })
      (refusal link.0 cause)

abbrev pub ServesArrival : Bool → Headless → Headless → LinkId → List ℕ → Type 0
ServesArrival true x y link nonce = RefusesArrival x y link nonce
ServesArrival false x y link nonce = TakesArrival x y link nonce

-- how many events are reached after one that changes nothing
abbrev pub reached_after_miss : Bool → ℕ → ℕ
reached_after_miss quits ran = if quits then ran else min (ran + 1) (2 ^ 64 - 1)

-- one more source is kept as one that is not drained, and a link as one that is not blocked
pub record MarksLink (x y : Headless) (token : Token) : Type 0 where
  pub core : y.core ≡ x.core
  pub clock : y.clock ≡ x.clock
  pub used : y.used ≡ x.used
  pub turns : y.turns ≡ x.turns
  pub ran : y.ran ≡ x.ran
  pub refused : y.refused.items ≡ x.refused.items
  pub unlisted : y.unlisted ≡ x.unlisted
  pub closed : y.links.closed.items ≡ x.links.closed.items
  pub listening : y.listening ≡ (x.listening || is_listener token)
  pub numbers : map link_number y.links.opened.items ≡ map link_number x.links.opened.items
  pub undrained : (k : ℕ) → is_undrained (at_key link_number k y.links.opened.items)
      ≡ (is_undrained (at_key link_number k x.links.opened.items)
      || (is_link k token && is_some (at_key link_number k x.links.opened.items)))
  pub blocked : (k : ℕ) → is_blocked (at_key link_number k y.links.opened.items)
      ≡ (is_blocked (at_key link_number k x.links.opened.items) && not (is_link k token))
  pub tails : SameTails x.links.opened.items y.links.opened.items
  pub kinds : SameKinds x.links.opened.items y.links.opened.items

-- the sources that were reported are kept as ones that are not drained, and the links as ones that
-- are not blocked
pub record ReportsSources (x y : Headless) (tokens : List Token) : Type 0 where
  pub core : y.core ≡ x.core
  pub clock : y.clock ≡ x.clock
  pub used : y.used ≡ x.used
  pub turns : y.turns ≡ x.turns
  pub ran : y.ran ≡ x.ran
  pub refused : y.refused.items ≡ x.refused.items
  pub unlisted : y.unlisted ≡ x.unlisted
  pub closed : y.links.closed.items ≡ x.links.closed.items
  pub listening : y.listening ≡ (x.listening || list_any is_listener tokens)
  pub numbers : map link_number y.links.opened.items ≡ map link_number x.links.opened.items
  pub undrained : (k : ℕ) → is_undrained (at_key link_number k y.links.opened.items)
      ≡ (is_undrained (at_key link_number k x.links.opened.items)
      || (list_any (is_link k) tokens && is_some (at_key link_number k x.links.opened.items)))
  pub blocked : (k : ℕ) → is_blocked (at_key link_number k y.links.opened.items)
      ≡ (is_blocked (at_key link_number k x.links.opened.items)
      && not (list_any (is_link k) tokens))
  pub tails : SameTails x.links.opened.items y.links.opened.items
  pub kinds : SameKinds x.links.opened.items y.links.opened.items

-- who leaves at the start or at a tick: clients for want of memory alone
pub record WakesParties (x y : CoreView) : Type 0 where
  pub causes : Distinct (links_of x) → (link : ℕ) →
      StaysOrStarves (leaving_on link x.connections) (leaving_on link y.connections)

-- The client of a link begins to leave for this cause, if it was not leaving, or else its server. No
-- server comes, and others leave as they did, or clients for want of memory.
pub record LosesLink (link : ℕ) (cause : Cause) (x y : CoreView) : Type 0 where
  pub keeps : KeepsClients x y
  pub whole : LosesWhole link cause x y
  pub quits : y.quits ≡ x.quits
  pub gone : is_open_at (at_key connection_link link y.connections) ≡ false
  pub server : LosesServer (is_open_at (at_key connection_link link x.connections)) link cause
      x.servers y.servers
  pub causes : Distinct (links_of x) → (other : ℕ) → other ≢ link →
      StaysOrStarves (leaving_on other x.connections) (leaving_on other y.connections)
  pub leaves : Distinct (links_of x) → leaving_on link x.connections ≡ None →
      (leaving_on link y.connections ≡ None) ⊎ ((leaving_on link y.connections ≡ Some cause)
      ⊎ (leaving_on link y.connections ≡ Some NoMemory))

-- The core takes those of the events that are reached, unless some growth was refused, and where
-- none of these links has a client, it closes none.
pub record TakesAside (aside : List LinkId) (x y : CoreView) (ran ran' : ℕ) (all : List Event) :
    Type 0 where
  pub takes : MayTake x y ran ran' all
  pub closes : ((link : ℕ) → is_refused link aside ≡ true → at_key connection_link link x.connections
      ≡ None) → y.starved ≡ x.starved → x.starved < 2 ^ 64 - 1 → Distinct (links_of x) → (told : Beside)
      → WereTold x told → Agrees told.oracle y.verdicts → (link : ℕ) →
      close_of link (run (state_of x told) takes.events).acts ≡ None

-- A turn begins: no link is closed in it yet, the core takes the event of the wait and then the
-- losses of the connections that were refused before, and the clock shows the moment. Clients may
-- begin to leave for want of memory. Some of these connections may not be listed: nobody is at them,
-- so that their losses are events that change nothing.
pub record BeginsTurn (x y : Headless) (moment : ℕ) : Type 0 where
  pub keeps : KeepsClients x.core y.core
  pub takes : (lost : List LinkId) → AreAllBut (IsVacant x.core) x.refused.items lost
      → length lost ≡ length x.refused.items + x.unlisted →
      TakesAside x.refused.items x.core y.core x.ran y.ran
      (wake_events x.clock moment ++ map loss_of lost)
  pub causes : Distinct (links_of x.core) → (link : ℕ) → is_refused link x.refused.items ≡ false →
      StaysOrStarves (leaving_on link x.core.connections) (leaving_on link y.core.connections)
  pub used : y.used ≡ x.used
  -- where no event was reached, none came to be wanted
  pub idle : x.core.servers.wanted ≡ [] → y.ran ≡ 0 → y.core.servers.wanted ≡ []
  pub listening : y.listening ≡ x.listening
  pub opened : y.links.opened.items ≡ x.links.opened.items
  pub turns : y.turns ≡ min (x.turns + 1) (2 ^ 64 - 1)
  pub clock : y.clock ≡ clock_from x.clock (Woke moment ∷ [])
  pub refused : y.refused.items ≡ []
  pub unlisted : y.unlisted ≡ 0

-- a connection stands as refused after others, where it was
abbrev pub refused_by : Bool → LinkId → List LinkId
refused_by true link = link ∷ []
refused_by false link = []

-- A connection that was next to be asked for, and may have been refused, is taken in: its number is
-- used, and it has its record.
pub record TakesLink (x y : Headless) (wanted : Wanted) (refused : Bool) : Type 0 where
  pub clock : y.clock ≡ x.clock
  pub used : y.used ≡ wanted.link.0
  pub listening : y.listening ≡ x.listening
  pub turns : y.turns ≡ x.turns
  pub ran : y.ran ≡ x.ran
  pub core : y.core ≡ x.core
  pub opened : y.links.opened.items
      ≡ x.links.opened.items ++ new_state wanted.link (Some wanted.server) refused ∷ []
  pub closed : y.links.closed.items ≡ x.links.closed.items
  pub lists : y.refused.items ≡ x.refused.items ++ refused_by refused wanted.link
  pub unlisted : y.unlisted ≡ x.unlisted

-- There is no memory for a connection, which is counted: its server is lost and forgotten.
pub record DropsServer (x y : CoreView) (link : ℕ) : Type 0 where
  pub starved : HasStarved x.starved y.starved
  -- what the core is once the server is lost
  pub lost : CoreView
  pub loses : LosesLink link NoMemory x lost
  pub forgets : y ≡ record lost {
    connections = without connection_link link lost.connections;
    servers = forgotten link lost.servers;
  }

-- It has no record, though its number is used. Where it was refused it may find no place among those
-- that stand as refused.
pub record DropsLink (x y : Headless) (wanted : Wanted) (refused : Bool) : Type 0 where
  pub clock : y.clock ≡ x.clock
  pub used : y.used ≡ wanted.link.0
  pub listening : y.listening ≡ x.listening
  pub turns : y.turns ≡ x.turns
  pub ran : y.ran ≡ x.ran
  pub core : DropsServer x.core y.core wanted.link.0
  pub opened : y.links.opened.items ≡ x.links.opened.items
  pub closed : y.links.closed.items ≡ x.links.closed.items
  pub listed : List LinkId
  pub lists : y.refused.items ≡ x.refused.items ++ listed
  pub fits : (listed ≡ refused_by refused wanted.link) ⊎ (listed ≡ [])
  pub counted : x.unlisted < 2 ^ 64 - 1 → length listed + y.unlisted
      ≡ length (refused_by refused wanted.link) + x.unlisted

-- it has no record, for want of memory
pub record LacksMemory (x y : Headless) (link : ℕ) : Type 0 where
  pub core : DropsServer x.core y.core link
  pub rest : y ≡ record x { core = y.core; links = y.links }
  pub opened : y.links.opened.items ≡ x.links.opened.items
  pub closed : y.links.closed.items ≡ x.links.closed.items

-- it has its record
pub record HasRecord (x y : Headless) (link : LinkId) (server : List ℕ) (refused : Bool) : Type 0
  where
    pub rest : y ≡ record x { links = y.links }
    pub opened : y.links.opened.items
        ≡ x.links.opened.items ++ new_state link (Some server) refused ∷ []
    pub closed : y.links.closed.items ≡ x.links.closed.items

abbrev pub TakesRecord : Bool → Headless → Headless → LinkId → List ℕ → Bool → Type 0
TakesRecord true x y link server refused = LacksMemory x y link.0
TakesRecord false x y link server refused = HasRecord x y link server refused

abbrev pub TakesWanted : Bool → Headless → Headless → Wanted → Bool → Type 0
TakesWanted true x y wanted refused = DropsLink x y wanted refused
TakesWanted false x y wanted refused = TakesLink x y wanted refused

-- These connections are lost, one after another. The loss of others, at which nobody is, would change
-- nothing, wherever it came.
pub record LosesEach (links : List LinkId) (x y : CoreView) : Type 0 where
  pub keeps : KeepsClients x y
  pub runs : (all : List LinkId) → AreAllBut (IsVacant x) links all →
      MayRun x y (map loss_of all)
  pub none : links ≡ [] → y ≡ x
  pub quits : y.quits ≡ x.quits
  pub wanted : y.servers.wanted ≡ x.servers.wanted
  pub causes : Distinct (links_of x) → (link : ℕ) → is_refused link links ≡ false →
      StaysOrStarves (leaving_on link x.connections) (leaving_on link y.connections)
  -- where none of them has a client, none is closed
  pub closes : ((link : ℕ) → is_refused link links ≡ true → at_key connection_link link x.connections
      ≡ None) → y.starved ≡ x.starved → x.starved < 2 ^ 64 - 1 → Distinct (links_of x) → (told : Beside)
      → WereTold x told → Agrees told.oracle y.verdicts → (all : List LinkId) →
      AreAllBut (IsVacant x) links all → (link : ℕ) →
      close_of link (run (state_of x told) (map loss_of all)).acts ≡ None

-- The connections that stood as refused are lost, unless `/quit` was run; none stands so after that.
-- Those that are not listed have nobody at them: their losses are events that change nothing.
pub record LosesRefused (x y : Headless) : Type 0 where
  pub keeps : KeepsClients x.core y.core
  pub quits : y.core.quits ≡ x.core.quits
  pub wanted : y.core.servers.wanted ≡ x.core.servers.wanted
  pub none : x.refused.items ≡ [] → y.core ≡ x.core
  pub takes : (lost : List LinkId) → AreAllBut (IsVacant x.core) x.refused.items lost
      → length lost ≡ length x.refused.items + x.unlisted →
      TakesAside x.refused.items x.core y.core x.ran y.ran (map loss_of lost)
  pub causes : Distinct (links_of x.core) → (link : ℕ) → is_refused link x.refused.items ≡ false →
      StaysOrStarves (leaving_on link x.core.connections) (leaving_on link y.core.connections)
  pub counts : y.ran ≡ 0 → x.ran ≡ 0
  pub refused : y.refused.items ≡ []
  pub unlisted : y.unlisted ≡ 0
  pub used : y.used ≡ x.used
  pub listening : y.listening ≡ x.listening
  pub links : y.links ≡ x.links
  pub turns : y.turns ≡ x.turns
  pub clock : y.clock ≡ x.clock
