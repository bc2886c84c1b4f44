-- Which clients hold the lines of all buffers, the buffers, or the nicklists: those that settled by
-- the dump of them.
use Rattle.std.specs.Prelude.{◌≡◌, ℕ, ◌<◌, Bool, true, false, ◌&&◌, ◌||◌, ◌==◌, if◌then◌else◌, List, []}
use Rattle.std.specs.Prelude.{◌∷◌, ◌++◌, Option, Some, None, bytes_eq, is_some}
use Rattle.std.specs.List.{AllByRecursion, list_any}
use Rattle.wc_outside.specs.Keyed.{at_key}
use Rattle.wc_lines.specs.Ring.{counted}
use Rattle.wc_relaycmd.specs.declared.request.Request.{Request}
use Rattle.wc_relaycmd.specs.Answers.{request_of}
use Rattle.wc_model.specs.World.{World}
use Rattle.wc_session.specs.declared.client.Client.{Client}
use Rattle.wc_session.specs.declared.sync_set.BufferSet.{BufferSet}
use Rattle.wc_core.specs.Events.{Event, Line}
use Rattle.wc_core.specs.State.{State}
use Rattle.wc_core.specs.Step.{client_link, step, run}
use Rattle.wc_mirror_laws.specs.Held.{HeldPart, Lines, Buffers, Nicks, asks_dump}

-- a request, and what was known of its client as it came
pub record AskedFor : Type 0 where
  pub client : Client
  pub request : Request

abbrev pub asked_with : Client → Option Request → List AskedFor
asked_with client None = []
asked_with client (Some request) = record { client = client; request = request } ∷ []

abbrev pub asked_by : List ℕ → Option Client → List AskedFor
asked_by line None = []
asked_by line (Some client) = asked_with client (request_of client.escaped line)

-- the client of a link, where it is open
abbrev pub client_on : ℕ → State → Option Client
client_on link state = at_key client_link link state.clients

-- what the client of a link asks at an event
abbrev pub asked_in : ℕ → State → Event → List AskedFor
asked_in link state (Line other line) = if other == link
    then asked_by line (client_on link state) else []
asked_in link state _ = []

-- what it asks at one event after another
abbrev pub asked_on : ℕ → State → List Event → List AskedFor
asked_on link state [] = []
asked_on link state (event ∷ events) = asked_in link state event
    ++ asked_on link (step state event).state events

-- Of all buffers it asked for each event that a mirror needs: one that keeps no limit of its own needs
-- those of lines that went too.
abbrev pub follows_all : Option ℕ → Client → Bool
follows_all limit client = client.everywhere.buffers
    && (client.everywhere.buffer && (client.everywhere.nicklist
    && (is_some limit || client.everywhere.trims)))

-- the same, of a client that is open
abbrev pub is_following : Option ℕ → Option Client → Bool
is_following limit None = false
is_following limit (Some client) = follows_all limit client

-- no set of a client has the events of lines that went
abbrev pub sets_have_trims : List BufferSet → Bool
sets_have_trims sets = list_any (λ (s : BufferSet). s.set.trims) sets

abbrev pub HasNoTrims : Option Client → Type 0
HasNoTrims None = Unit {0}
HasNoTrims (Some client) = (client.everywhere.trims ≡ false)
    × (sets_have_trims client.sets ≡ false)

-- a mirror that keeps a limit of its own is one of a client that did not ask for them
abbrev pub IsPlain : Option ℕ → Option Client → Type 0
IsPlain None client = Unit {0}
IsPlain (Some limit) client = HasNoTrims client

-- never from this state on
abbrev pub StaysPlain : Option ℕ → ℕ → State → List Event → Type 0
StaysPlain limit link state [] = IsPlain limit (client_on link state)
StaysPlain limit link state (event ∷ events) = IsPlain limit (client_on link state)
    × StaysPlain limit link (step state event).state events

-- and where it keeps a limit of its own it is that of the world, which was never changed
abbrev pub IsLimited : Option ℕ → World → Type 0
IsLimited None world = Unit {0}
IsLimited (Some limit) world = (world.limit ≡ limit) × (world.limit_changes ≡ 0)

-- In one step it is that of the world before, and the step does not change it: each change is counted, up
-- to the greatest count, and afterwards there are fewer than one more would make.
abbrev pub LimitStays : Option ℕ → World → World → Type 0
LimitStays None old new = Unit {0}
LimitStays (Some limit) old new = (old.limit ≡ limit)
    × (new.limit_changes < counted old.limit_changes)

abbrev pub has_id : List ℕ → AskedFor → Bool
has_id id asked = bytes_eq asked.request.id id

-- a client that logged in took the dump of a part under this id
pub record TakesDump (which : HeldPart) (id : List ℕ) (asked : AskedFor) : Type 0 where
  pub logged_in : asked.client.logged_in ≡ true
  pub dump : asks_dump which asked.request.command ≡ true
  pub under : asked.request.id ≡ id

-- a request has the id of the dump only where it is the dump
abbrev pub IsFair : HeldPart → List ℕ → AskedFor → Type 0
IsFair which id asked = has_id id asked ≡ true → asks_dump which asked.request.command ≡ true

-- A client that follows all events took the dump of a part. From then on it used the id of the dump
-- for nothing else, but it may have taken the dump again. It followed all events at each request
-- from the dump on, and it follows them still and is open at the end. Where its mirror keeps a limit of
-- its own it never asked for the events of lines that went.
pub record SettledBy (limit : Option ℕ) (which : HeldPart) (link : ℕ) (id : List ℕ) (state : State)
    (events : List Event) : Type 0 where
  pub before : List AskedFor
  pub dump : AskedFor
  pub following : List AskedFor
  pub asked : asked_on link state events ≡ before ++ dump ∷ following
  pub takes : TakesDump which id dump
  pub fair : AllByRecursion (IsFair which id) following
  pub follows : AllByRecursion (λ asked. follows_all limit asked.client ≡ true) (dump ∷ following)
  pub still : is_following limit (client_on link (run state events).state) ≡ true
  pub plain : StaysPlain limit link state events

-- it settled by the line dump
abbrev pub Settled : Option ℕ → ℕ → List ℕ → State → List Event → Type 0
Settled limit link id state events = SettledBy limit Lines link id state events

-- it settled by the buffer dump
abbrev pub SettledBuffers : Option ℕ → ℕ → List ℕ → State → List Event → Type 0
SettledBuffers limit link id state events = SettledBy limit Buffers link id state events

-- it settled by the nicklists of all buffers
abbrev pub SettledNicks : Option ℕ → ℕ → List ℕ → State → List Event → Type 0
SettledNicks limit link id state events = SettledBy limit Nicks link id state events
