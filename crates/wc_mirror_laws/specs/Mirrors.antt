-- A client that settled by the dump of a part has this part of the world.
use Rattle.std.specs.Prelude.{◌≡◌, ℕ, ◌≤◌, Bool, true, List, [], ◌∷◌, length, Option, None, IfSome}
use Rattle.std.specs.List.{AllByRecursion}
use Rattle.std.specs.Str.{IsUtf8}
use Rattle.wc_text.specs.declared.names.Handle.{Handle}
use Rattle.wc_buffers.specs.Calls.{is_there}
use Rattle.wc_filters.specs.declared.filter.Filter.{Filter}
use Rattle.wc_model.specs.declared.change.Change.{Change}
use Rattle.wc_model.specs.Apply.{refusal}
use Rattle.wc_objects.specs.declared.object.WireMessage.{WireMessage}
use Rattle.wc_events.specs.NickObjects.{push_message, nick_dump}
use Rattle.wc_session.specs.Sending.{fits}
use Rattle.wc_view.specs.Views.{Suits}
use Rattle.wc_text.specs.Splits.{BeginsWithout}
use Rattle.wc_options.specs.Options.{OptionsValue}
use Rattle.wc_core.specs.Events.{Event, Line, Tick}
use Rattle.wc_core.specs.State.{State, Act, first_state}
use Rattle.wc_core.specs.Step.{made_step, change_step, refused, filters_step, push_at, push_step}
use Rattle.wc_core.specs.Step.{step, run}
use Rattle.wc_core.specs.Served.{messages_to}
use Rattle.wc_mirror_laws.specs.Held.{HeldPart, HeldOf, nothing, fold_one, Has}
use Rattle.wc_mirror_laws.specs.Settled.{AskedFor, asked_in, client_on, is_following, IsFair}
use Rattle.wc_mirror_laws.specs.Settled.{TakesDump, SettledBy, IsPlain, IsLimited, LimitStays}
use Rattle.wc_mirror_laws.specs.Changes.{IsTold, IsAsked}
use Rattle.wc_mirror_laws.specs.Kept.{IsStateKept, IsKeptButFlags}
use Rattle.wc_mirror_laws.specs.News.{EventsCome}
use Rattle.wc_eval.specs.Verdicts.{Oracle}

-- what a client has of a part after one message and another
abbrev pub fold_all : (which : HeldPart) → Option ℕ → List ℕ → HeldOf which → List WireMessage →
    HeldOf which
fold_all which limit id part [] = part
fold_all which limit id part (message ∷ messages) = fold_all which limit id
    (fold_one which limit id part message) messages

-- what a client has, which had this before it was sent the messages of the acts for its link
abbrev pub mirror_after : (which : HeldPart) → Option ℕ → ℕ → List ℕ → HeldOf which → List Act →
    HeldOf which
mirror_after which limit link id part acts = fold_all which limit id part (messages_to link acts)

-- the state before the start, where servers are connected by themselves or are not
abbrev pub beginning : Oracle → OptionsValue → ℕ → List (List ℕ) → Bool → State
beginning oracle options limit commands connects = record (first_state oracle options limit commands) {
  connects = connects;
}

-- a line of a client is no longer than one may be
abbrev pub IsShortLine : Event → Type 0
IsShortLine (Line link line) = length line ≤ 65536
IsShortLine _ = Unit {0}

-- Whoever settled by the dump of a part has exactly this part of the world, by all messages that it
-- was sent: with a mirror that keeps no limit where it asked for the events of lines that went, and with
-- one that keeps the limit of the world where that was never changed.
abbrev pub Mirrors : HeldPart → Type 0
Mirrors which = (limit : Option ℕ) (oracle : Oracle) (options : OptionsValue) (lines : ℕ)
    (commands : List (List ℕ)) (connects : Bool)
    (events : List Event) (link : ℕ) (id : List ℕ)
    → lines ≤ 4096 → AllByRecursion IsUtf8 commands → AllByRecursion IsShortLine events →
    SettledBy limit which link id (beginning oracle options lines commands connects) events
    → IsLimited limit (run (beginning oracle options lines commands connects) events).state.world
    → Has which (mirror_after which limit link id (nothing which)
    (run (beginning oracle options lines commands connects) events).acts)
    (run (beginning oracle options lines commands connects) events).state

-- One event: a client that had the part, and that is open and follows all events afterwards, has it
-- still: with a mirror that keeps a limit where the event leaves the limit of the world, which may have
-- been changed before.
abbrev pub StepMirrors : HeldPart → Type 0
StepMirrors which = (limit : Option ℕ) (link : ℕ) (id : List ℕ) (state : State) (event : Event)
    (part : HeldOf which)
    → IsStateKept link state → BeginsWithout 95 id → IsShortLine event →
    AllByRecursion (IsFair which id) (asked_in link state event)
    → IsPlain limit (client_on link state)
    → is_following limit (client_on link (step state event).state) ≡ true
    → LimitStays limit state.world (step state event).state.world → Has which part state
    → Has which (mirror_after which limit link id part (step state event).acts)
    (step state event).state

-- The dump: a client has the part after it, whatever it had, with the same said of a limit.
abbrev pub DumpMirrors : HeldPart → Type 0
DumpMirrors which = (limit : Option ℕ) (link : ℕ) (id : List ℕ) (state : State) (event : Event)
    (part : HeldOf which) (dump : AskedFor)
    → IsStateKept link state → IsShortLine event → asked_in link state event ≡ dump ∷ [] →
    TakesDump which id dump → IsPlain limit (client_on link state)
    → is_following limit (client_on link (step state event).state) ≡ true
    → LimitStays limit state.world (step state event).state.world
    → Has which (mirror_after which limit link id part (step state event).acts)
    (step state event).state

-- What always holds of the core does so after each event, and it holds after all events from the
-- start.
abbrev pub StepKeeps : Type 0
StepKeeps = (link : ℕ) (state : State) (event : Event) → IsStateKept link state →
    IsStateKept link (step state event).state

abbrev pub RunKeeps : Type 0
RunKeeps = (oracle : Oracle) (options : OptionsValue) (lines : ℕ)
    (commands : List (List ℕ)) (connects : Bool)
    (events : List Event) (link : ℕ) → lines ≤ 4096 → AllByRecursion IsUtf8 commands →
    IsStateKept link (run (beginning oracle options lines commands connects) events).state

-- The rows of the hotlist mean lines that were printed: none at the start, and in each state that is come
-- through those of the state before, with the line that was printed and without what was taken out.
abbrev pub RunMeans : Type 0
RunMeans = (oracle : Oracle) (options : OptionsValue) (lines : ℕ)
    (commands : List (List ℕ)) (connects : Bool)
    (events : List Event) → lines ≤ 4096 → AllByRecursion IsUtf8 commands →
    EventsCome (beginning oracle options lines commands connects) [] events

-- The same of an accepted change of any kind that the core is asked for, be it of a nicklist, and
-- whoever asked for it.
abbrev pub ChangeKeeps : Type 0
ChangeKeeps = (link : ℕ) (state : State) (change : Change) → IsStateKept link state →
    IsAsked change.what → refused state change ≡ None →
    IsStateKept link (change_step state change).state

-- All of it but the flags of lines holds after any change that is made as it is, whatever flags it sets.
abbrev pub MadeKeeps : Type 0
MadeKeeps = (link : ℕ) (state : State) (change : Change) → IsKeptButFlags link state →
    IsTold change.what → refusal state.world change ≡ None →
    IsKeptButFlags link (made_step state change).state

-- The same of other filters, by which the core sets flags.
abbrev pub FiltersKeep : Type 0
FiltersKeep = (link : ℕ) (state : State) (filters : List Filter) → IsStateKept link state →
    IsStateKept link (filters_step state filters).state

-- A client that follows all events and had the part has it after a change that is made, with any flags
-- of lines: of a nicklist it keeps the rows that were told. Where its mirror keeps a limit this is that
-- of the world before and after, as each change of another kind leaves it.
abbrev pub ChangeMirrors : HeldPart → Type 0
ChangeMirrors which = (limit : Option ℕ) (link : ℕ) (id : List ℕ) (state : State)
    (change : Change) (part : HeldOf which)
    → IsStateKept link state → BeginsWithout 95 id → IsTold change.what →
    refusal state.world change ≡ None → IsPlain limit (client_on link state)
    → is_following limit (client_on link state) ≡ true
    → Suits limit state.world → Suits limit (made_step state change).state.world
    → Has which part state
    → Has which (mirror_after which limit link id part (made_step state change).acts)
    (made_step state change).state

-- The same of pushes: of each nicklist it then has the rows of now.
abbrev pub PushKeeps : Type 0
PushKeeps = (link : ℕ) (state : State) → IsStateKept link state →
    IsStateKept link (push_step state).state

abbrev pub PushMirrors : HeldPart → Type 0
PushMirrors which = (limit : Option ℕ) (link : ℕ) (id : List ℕ) (state : State)
    (part : HeldOf which)
    → IsStateKept link state → BeginsWithout 95 id →
    is_following limit (client_on link state) ≡ true → Has which part state
    → Has which (mirror_after which limit link id part (push_step state).acts)
    (push_step state).state

-- At a tick all rows are told.
abbrev pub TickTells : Type 0
TickTells = (state : State) (moment : ℕ) →
    (step state (Tick moment)).state.told ≡ (step state (Tick moment)).state.world.nicks

-- No push of a buffer that is there is too long for a message, and no list of all nicklists under an
-- id that a line can hold.
abbrev pub ListsFit : Type 0
ListsFit = (link : ℕ) (state : State) → IsStateKept link state
    → ((buffer : Handle) → is_there buffer state.world.groups ≡ true →
    IfSome (push_message buffer (push_at state buffer.0)) (λ m. fits m ≡ true))
    × ((id : List ℕ) → length id ≤ 65536 →
    fits (record { id = id; objects = nick_dump state.world }) ≡ true)
