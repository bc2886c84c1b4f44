-- What the core goes through as events come, whatever memory is refused.
use Rattle.std.specs.Prelude.{◌≡◌, ◌⊎◌, ◌++◌, ◌-◌, ◌^◌, ◌<◌, ℕ, Bool, true, false, List, [], ◌∷◌, Option, Some, None}
use Rattle.wc_text.specs.declared.names.Cause.{Cause}
use Rattle.wc_text.specs.declared.names.Cause.TheVariants.{Ended, Failed, BadSocket, NoMemory}
use Rattle.wc_text.specs.declared.names.Cause.TheVariants.{Surplus}
use Rattle.wc_outside.specs.Keyed.{at_key, without}
use Rattle.wc_board.specs.Connections.{connection_link, new_connection, is_open_at}
use Rattle.wc_servers.specs.Seats.{used_up, forgotten}
use Rattle.wc_core.specs.BoardSteps.{board_of, StepsBy}
use Rattle.wc_core.specs.Contained.{Contains, Counts, lost_number, starved_by}
use Rattle.wc_core.specs.CoreView.{CoreView}
use Rattle.wc_core.specs.Events.{Event, Start, Tick, Arrives, Line, Stands, Ends, Fails, Breaks}
use Rattle.wc_core.specs.Events.{ListenFails}
use Rattle.wc_core.specs.Served.{state_of, WereTold, Does}
use Rattle.wc_core.specs.Starts.{Starts}
use Rattle.wc_core.specs.State.{State, Beside, Closes, Stepped}
use Rattle.wc_core.specs.Step.{step, link_loss_step, client_link}
use Rattle.wc_turns.specs.Parties.{has_party, has_open}

-- ---- one event

-- It is done, or cut short, for the client of this link, if it is one. Who begins to leave does so for
-- the cause that it gives, or for want of memory.
pub record DoesWhole (own : Option ℕ) (old new : CoreView) (next : State → Stepped) : Type 0 where
  pub does : Does old new next
  pub contained : Contains old new next
  pub counted : Counts 0 old new
  pub drops : StepsBy own (board_of old) (board_of new)

-- a link is lost for this cause
pub record LosesWhole (link : ℕ) (cause : Cause) (old new : CoreView) : Type 0 where
  pub does : Does old new
      (λ state. link_loss_step state link cause (at_key client_link link state.clients))
  pub contained : Contains old new
      (λ state. link_loss_step state link cause (at_key client_link link state.clients))
  pub counted : Counts (lost_number (is_open_at (at_key connection_link link old.connections)) cause)
      old new
  pub drops : StepsBy (Some link) (board_of old) (board_of new)

abbrev pub IsRefusal : Cause → Type 0
IsRefusal cause = (cause ≡ Surplus) ⊎ (cause ≡ NoMemory)

-- A client that comes is refused: it is one too many, where the event has that, or there is no memory
-- for it or for its link, which is counted once.
pub record RefusesWhole (link : ℕ) (nonce : List ℕ) (old new : CoreView) : Type 0 where
  pub cause : Cause
  pub fits : IsRefusal cause
  pub core : new ≡ record old {
    servers = used_up link old.servers;
    starved = starved_by cause old.starved;
  }
  pub closes : (told : Beside) → ((step (state_of old told) (Arrives link nonce)).acts
      ≡ Closes link cause ∷ []) ⊎ (cause ≡ NoMemory)

-- A client comes. It is not one too many: the event refuses none.
pub record ComesWhole (link : ℕ) (nonce : List ℕ) (old new : CoreView) : Type 0 where
  pub core : new ≡ record old {
    connections = old.connections
        ++ new_connection (record { 0 = link }) nonce ∷ [];
    servers = used_up link old.servers;
  }
  pub admits : old.starved < 2 ^ 64 - 1 → (told : Beside) → WereTold old told →
      (step (state_of old told) (Arrives link nonce)).acts ≡ []

abbrev pub ComesOrNot : ℕ → List ℕ → CoreView → CoreView → Type 0
ComesOrNot link nonce old new = ComesWhole link nonce old new ⊎ RefusesWhole link nonce old new

abbrev pub TakesEvent : Event → CoreView → CoreView → Type 0
TakesEvent (Start moment) old new = Does old new (λ state. step state (Start moment))
    × Starts moment old new
TakesEvent (Tick moment) old new = DoesWhole None old new (λ state. step state (Tick moment))
TakesEvent (Arrives link nonce) old new = ComesOrNot link nonce old new
TakesEvent (Line link line) old new = DoesWhole (Some link) old new
    (λ state. step state (Line link line))
TakesEvent (Stands link) old new = DoesWhole None old new (λ state. step state (Stands link))
TakesEvent (Ends link) old new = LosesWhole link Ended old new
TakesEvent (Fails link) old new = LosesWhole link Failed old new
TakesEvent (Breaks link) old new = LosesWhole link BadSocket old new
TakesEvent ListenFails old new = new ≡ old

-- ---- what the loop does besides

-- there was no memory for what goes over a link: the client or the server that is at it, and is not
-- leaving already, is lost
pub record StarvesWhole (link : ℕ) (old new : CoreView) : Type 0 where
  pub there : has_open link old ≡ true
  pub loses : LosesWhole link NoMemory old new

-- there was no memory for a connection: its server is lost and forgotten
pub record DropsWhole (link : ℕ) (old new : CoreView) : Type 0 where
  pub there : has_party link old ≡ true
  pub lost : CoreView
  pub loses : LosesWhole link NoMemory old lost
  pub gone : is_open_at (at_key connection_link link lost.connections) ≡ false
  pub forgets : new ≡ record lost {
    connections = without connection_link link lost.connections;
    servers = forgotten link lost.servers;
  }

-- bytes are sent, a link that was lost is forgotten, a connection is asked for, or a text is written:
-- the state stays, and nobody comes to a link
pub record KeepsState (old new : CoreView) : Type 0 where
  pub state : (told : Beside) → state_of new told ≡ state_of old told
  pub nobody : (link : ℕ) → has_party link old ≡ false → has_party link new ≡ false
  pub pending : new.pending ≡ old.pending
  pub starved : new.starved ≡ old.starved
  pub quits : new.quits ≡ old.quits

-- A link is lost without an event for want of memory alone, and only where somebody is at it: who is
-- leaving already is not lost, nor counted, once more.
pub data Besides (old new : CoreView) : Type 0 where
  Starves : (link : ℕ) → StarvesWhole link old new → Besides old new
  Drops : (link : ℕ) → DropsWhole link old new → Besides old new
  Keeps : KeepsState old new → Besides old new

-- ---- one after another

-- how the core comes to its next value: by an event, or by what the loop does besides
pub record Leg : Type 0 where
  pub event : Option Event
  pub core : CoreView

abbrev pub GoesBy : Option Event → CoreView → CoreView → Type 0
GoesBy None old new = Besides old new
GoesBy (Some event) old new = TakesEvent event old new

abbrev pub GoesThrough : List Leg → CoreView → CoreView → Type 0
GoesThrough [] old new = new ≡ old
GoesThrough (leg ∷ legs) old new = GoesBy leg.event old leg.core × GoesThrough legs leg.core new

abbrev pub with_event : Option Event → List Event → List Event
with_event None events = events
with_event (Some event) events = event ∷ events

-- the events of these
abbrev pub events_by : List Leg → List Event
events_by [] = []
events_by (leg ∷ legs) = with_event leg.event (events_by legs)

-- an event tells that a link, or the listener, ended or failed
abbrev pub tells_end : Event → Bool
tells_end (Start moment) = false
tells_end (Tick moment) = false
tells_end (Arrives link nonce) = false
tells_end (Line link line) = false
tells_end (Stands link) = false
tells_end (Ends link) = true
tells_end (Fails link) = true
tells_end (Breaks link) = true
tells_end ListenFails = true

-- these are all of those events, but for some that tell of an end
abbrev pub AreTaken : List Event → List Event → Type 0
AreTaken [] [] = Unit {0}
AreTaken (event ∷ events) [] = ⊥
AreTaken [] (one ∷ all) = (tells_end one ≡ true) × AreTaken [] all
AreTaken (event ∷ events) (one ∷ all) = ((event ≡ one) × AreTaken events all)
    ⊎ ((tells_end one ≡ true) × AreTaken (event ∷ events) all)

-- Of these events each is taken, in order, but for some that tell of an end: it is done whole, or cut
-- short, and nothing else changes the state but losses for want of memory.
pub record Goes (all : List Event) (old new : CoreView) : Type 0 where
  pub legs : List Leg
  pub through : GoesThrough legs old new
  pub taken : AreTaken (events_by legs) all

-- all of these events tell of an end
abbrev pub AreEnds : List Event → Type 0
AreEnds [] = Unit {0}
AreEnds (event ∷ events) = (tells_end event ≡ true) × AreEnds events
