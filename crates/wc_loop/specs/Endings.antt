-- How a run ends, and what it prints.
use Rattle.std.specs.Prelude.{ℕ, ◌≡◌, ◌≢◌, ◌≤◌, ◌⊎◌, Bool, true, false, not, List, []}
use Rattle.std.specs.Prelude.{◌∷◌, ◌++◌, map, All, ◌&&◌, nat_le, Option, Some, None, Result, Ok, Err}
use Rattle.std.specs.Prelude.{IfSome, IfOk, IsSome, is_some, IsTrue, IsSomeAnd, if◌then◌else◌, ◌==◌, codes, decimal}
use Rattle.std.specs.Io.KnownBytes.{append_known}
use Rattle.wc_text.specs.declared.names.Address.{Address}
use Rattle.wc_outside.specs.Faults.{Faults, NeverFall, Rose}
use Rattle.wc_outside.specs.declared.happening.Happening.{Happening}
use Rattle.wc_outside.specs.Seen.{Seen}
use Rattle.wc_outside.specs.declared.happening.Asked.{Asked}
use Rattle.wc_outside.specs.declared.happening.Asked.TheVariants.{Listen, Connect}
use Rattle.wc_loop.specs.declared.ending.Ending.{Ending}
use Rattle.wc_loop.specs.declared.ending.Ending.TheVariants.{Version, Help, BadWord, WaitFailed}
use Rattle.wc_loop.specs.declared.ending.Ending.TheVariants.{NoConfiguration, BadLine, NoMemory}
use Rattle.wc_loop.specs.declared.ending.Ending.TheVariants.{ListenFailed, NotSaved, TurnsTaken}
use Rattle.wc_loop.specs.declared.ending.Ending.TheVariants.{Quit, Demo}
use Rattle.wc_turns.specs.declared.headless.Headless.{Headless}
use Rattle.wc_turns.specs.declared.turn.TurnEnd.{TurnEnd}
use Rattle.wc_turns.specs.declared.turn.TurnEnd.TheVariants.{GoOn, Quit as ThenQuit, WaitFault}
use Rattle.wc_turns.specs.declared.turn.TurnEnd.TheVariants.{ListenFault, KeeperFault}
use Rattle.wc_turns.specs.Saves.{held_by, SavesTurn}
use Rattle.wc_loop.specs.declared.words.Shows.{Shows}
use Rattle.wc_loop.specs.declared.words.Shows.TheVariants as shows
use Rattle.wc_loop.specs.declared.words.Wish.{Wish}
use Rattle.wc_options.specs.Config.{config_of}
use Rattle.wc_options.specs.Options.{OptionsValue}
use Rattle.wc_core.specs.Limits.{port_of}
use Rattle.wc_demo.specs.declared.counts.Counts.{Counts}
use Rattle.wc_demo.specs.Counts.{none_counted}
use Rattle.wc_loop.specs.Demo.{line_of, demo_text, IsDemoEnd}
use Rattle.wc_loop.specs.Headline.{Headline, TakesEach}
use Rattle.wc_turns.specs.Parties.{IsCalm}
use Rattle.wc_loop.specs.Words.{Opening}
use Rattle.wc_turns.specs.Sources.{AllServed, AllSent}
use Rattle.wc_turns.specs.Turns.{AgreesWithSockets, HasCause as HasCloseCause, wake_count, ClosesExactly}
use Rattle.wc_turns.specs.Turns.{listen_faults, FaultsIn, LoopStep, TurnStep}

-- the state at the end is there where a wait returned
abbrev pub kept_of : Headless → Option Headless
kept_of headless = if headless.turns == 0 then None else Some headless

-- the last state is there exactly where a wait returned, and tells how many did
abbrev pub LastOf : Seen → Option Headless → Type 0
LastOf seen None = IsTrue seen.tells → wake_count seen.taken ≡ 0
LastOf seen (Some last) = (1 ≤ last.turns)
    × (IsTrue seen.tells → wake_count seen.taken ≡ last.turns)

-- at most so many waits returned
pub record WaitsAtMost (turns : ℕ) (seen : Seen) (last : Option Headless) : Type 0 where
  pub counted : IfSome last (λ last. last.turns ≤ turns)
  pub told : IsTrue seen.tells → wake_count seen.taken ≤ turns

-- the text that was saved last, if one was
abbrev pub saved_in : Option Headless → Option (List ℕ)
saved_in None = None
saved_in (Some last) = last.core.saved

-- a keeper that tells what it holds has the text that was saved last, or what it held before
abbrev pub KeepsText : Option (List ℕ) → Option (List ℕ) → Option Headless → Type 0
KeepsText before after last = IsSome after → after ≡ held_by (saved_in last) before

-- whether `/quit` was run
abbrev pub HasQuit : Bool → Headless → Type 0
HasQuit quits last = last.core.quits ≡ quits

-- the status of a run with readable words that ask for this number of waits
pub record Ends (turns : ℕ) (contents : Option (List ℕ)) (seen : Seen) (status : ℕ)
    (last : Option Headless) : Type 0 where
  -- no word decided it
  pub later : status ≢ 1
  pub known : status ≤ 8
  -- a line of the configuration is unreadable, and where one is, it was read
  pub line : status ≡ 4 → IfSome contents (λ configuration. (options : OptionsValue) →
      config_of configuration ≢ Ok options)
  pub unreadable : IfSome contents (λ configuration. (n : ℕ) → config_of configuration ≡ Err n →
      status ≢ 3 → status ≢ 5 → status ≡ 4)
  -- `/quit` was run, and neither the listener nor the keeper failed
  pub quit : status ≡ 0 → IsSomeAnd last (HasQuit true)
  pub quit_told : status ≡ 0 → IsTrue seen.tells → listen_faults seen.taken ≡ 0
  pub quit_due : IsSomeAnd last (HasQuit true) → status ≢ 6 → status ≢ 3 → status ≡ 0
  -- all waits returned, `/quit` was not run, and neither the listener nor the keeper failed
  pub all : status ≡ 8 → IsSomeAnd last (λ last. (last.turns ≡ turns) × HasQuit false last)
  pub told : status ≡ 8 → IsTrue seen.tells → (wake_count seen.taken ≡ turns)
      × (listen_faults seen.taken ≡ 0)
  pub due : IsTrue seen.tells → wake_count seen.taken ≡ turns → IfSome last (HasQuit false) →
      listen_faults seen.taken ≡ 0 → status ≢ 3 → status ≡ 8
  pub failed : status ≡ 2 → IsTrue seen.tells → listen_faults seen.taken ≡ 0
  pub listened : status ≡ 6 → IsTrue seen.tells → 1 ≤ listen_faults seen.taken
  -- what comes before the first wait
  pub early : (status ≡ 4) ⊎ (status ≡ 5) → last ≡ None

-- the status of a run with readable words
abbrev pub StatusFor : Shows → ℕ → Option (List ℕ) → Seen → ℕ → Option Headless → Type 0
StatusFor shows.Version turns contents seen status last = (status ≡ 0) × (last ≡ None)
StatusFor shows.Help turns contents seen status last = (status ≡ 0) × (last ≡ None)
StatusFor (shows.Demo lines) turns contents seen status last = ((status ≡ 0) ⊎ (status ≡ 5))
    × (last ≡ None)
StatusFor shows.Nothing turns contents seen status last = Ends turns contents seen status last

-- the status of a run
abbrev pub StatusOf : Result Wish ℕ → Option (List ℕ) → Seen → ℕ → Option Headless → Type 0
StatusOf (Err n) contents seen status last = (status ≡ 1) × (last ≡ None)
StatusOf (Ok wish) contents seen status last = StatusFor wish.shows wish.turns contents seen
    status last

-- what words ask to be shown, and whether they ask for turns
abbrev pub shown_by : Result Wish ℕ → Shows
shown_by (Err n) = shows.Nothing
shown_by (Ok wish) = wish.shows

abbrev pub runs_for : Shows → Bool
runs_for shows.Nothing = true
runs_for shows.Version = false
runs_for shows.Help = false
runs_for (shows.Demo lines) = false

abbrev pub asks_turns : Result Wish ℕ → Bool
asks_turns (Err n) = false
asks_turns (Ok wish) = runs_for wish.shows

-- the words, and what each status means
unfoldable pub help_text : List ℕ
help_text = codes "wc-headless: a chat core without a screen, read through relays\n"
    ++ codes "\n"
    ++ codes "  -d FOLDER   keeps weechat.conf in this folder, in place of the current one\n"
    ++ codes "  -r COMMAND  runs a command at the start; may be repeated\n"
    ++ codes "  -a          connects no server at the start\n"
    ++ codes "  --turns N   ends after N waits\n"
    ++ codes "  --demo N    counts what there is after N lines of a server that is made up\n"
    ++ codes "  -v          prints the version\n"
    ++ codes "  -h, --help  prints this\n"
    ++ codes "\n"
    ++ codes "Status:\n"
    ++ codes "  0  /quit was run, or the version, this or a demo was printed\n"
    ++ codes "  1  a word is unknown, or lacks its value\n"
    ++ codes "  2  waiting failed\n"
    ++ codes "  3  the configuration cannot be read or written\n"
    ++ codes "  4  a line of the configuration is unreadable\n"
    ++ codes "  5  there was no memory before the first wait, or for a demo\n"
    ++ codes "  6  listening failed\n"
    ++ codes "  7  printing failed\n"
    ++ codes "  8  N waits returned\n"

-- the configuration was read, or a wait returned before it could not be written
abbrev pub keeper_text : Bool → List ℕ
keeper_text false = codes "cannot read configuration"
keeper_text true = codes "cannot write configuration"

-- what is printed for a status, where a wait returned or not, with the number of a word or a line
abbrev pub status_text : Bool → ℕ → ℕ → List ℕ
status_text woken status number =
    if status == 1 then line_of (codes "bad word " ++ decimal number) else (
    if status == 2 then line_of (codes "wait failed") else (
    if status == 3 then line_of (keeper_text woken) else (
    if status == 4 then line_of (codes "configuration line " ++ decimal number) else (
    if status == 5 then line_of (codes "out of memory") else (
    if status == 6 then line_of (codes "listen failed") else [])))))

-- what is printed, where words ask for this; of a demo, where there was memory for it, its counts
abbrev pub printed_text : Shows → Bool → ℕ → ℕ → Counts → List ℕ
printed_text shows.Version woken status number counts = line_of (codes "wc-headless 1")
printed_text shows.Help woken status number counts = help_text
printed_text shows.Nothing woken status number counts = status_text woken status number
printed_text (shows.Demo lines) woken status number counts = if status == 0
    then demo_text lines counts else status_text woken status number

-- the number that is printed is that of the word with a fault, or of the unreadable line
pub record IsNumber (wish : Result Wish ℕ) (contents : Option (List ℕ)) (status number : ℕ) :
    Type 0 where
  pub word : status ≡ 1 → wish ≡ Err number
  pub line : status ≡ 4 → IfSome contents (λ configuration. config_of configuration ≡ Err number)

-- what the sink holds is what it held, and what is printed after it
pub record Prints (wish : Result Wish ℕ) (contents : Option (List ℕ)) (status : ℕ)
    (last : Option Headless) (before after : Option (List ℕ)) : Type 0 where
  pub number : ℕ
  pub counts : Counts
  pub is : IsNumber wish contents status number
  pub holds : after
      ≡ append_known before (printed_text (shown_by wish) (is_some last) status number counts)

-- what the sockets are asked for first where words ask for turns: the listener at a port, unless the
-- run ended before
abbrev pub asked_in : ℕ → ℕ → Bool → List Asked
asked_in port status woken =
    if nat_le 3 status && nat_le status 5 && not woken then [] else Listen port ∷ []

-- the port is the one that the options of the configuration set
abbrev pub IsPort : Option (List ℕ) → ℕ → Type 0
IsPort contents port = IfSome contents (λ configuration. IfOk (config_of configuration)
    (λ options. port ≡ port_of options))

-- what the sockets were asked for in a run with this status, which may ask for turns: the listener,
-- and then connections where a wait returned
pub record IsAsked (turns : Bool) (contents : Option (List ℕ)) (status : ℕ) (woken : Bool)
    (asked : List Asked) : Type 0 where
  pub port : ℕ
  pub set : IsPort contents port
  pub connects : List Address
  pub unwoken : woken ≡ false → connects ≡ []
  pub is : asked ≡ (if turns then asked_in port status woken ++ map Connect connects else [])

-- each status that tells a fault comes only where that count rose
pub record HasCause (before after : Faults) (kept kept' : ℕ) (status : ℕ) : Type 0 where
  pub wait : status ≡ 2 → Rose before.waits after.waits
  pub keeper : status ≡ 3 → Rose kept kept'
  pub listener : status ≡ 6 → Rose before.listens after.listens

-- the status of an end, and the number in its text
abbrev pub status_of : Ending → ℕ
status_of Version = 0
status_of Help = 0
status_of (BadWord n) = 1
status_of WaitFailed = 2
status_of NoConfiguration = 3
status_of (BadLine n) = 4
status_of NoMemory = 5
status_of ListenFailed = 6
status_of NotSaved = 3
status_of TurnsTaken = 8
status_of Quit = 0
status_of (Demo lines counts) = 0

abbrev pub number_of : Ending → ℕ
number_of Version = 0
number_of Help = 0
number_of (BadWord n) = n
number_of WaitFailed = 0
number_of NoConfiguration = 0
number_of (BadLine n) = n
number_of NoMemory = 0
number_of ListenFailed = 0
number_of NotSaved = 0
number_of TurnsTaken = 0
number_of Quit = 0
number_of (Demo lines counts) = 0

-- the counts in its text
abbrev pub counts_in : Ending → Counts
counts_in (Demo lines counts) = counts
counts_in _ = none_counted

-- what it shows in the place of a run
abbrev pub shown_at : Ending → Shows
shown_at Version = shows.Version
shown_at Help = shows.Help
shown_at (BadWord n) = shows.Nothing
shown_at WaitFailed = shows.Nothing
shown_at NoConfiguration = shows.Nothing
shown_at (BadLine n) = shows.Nothing
shown_at NoMemory = shows.Nothing
shown_at ListenFailed = shows.Nothing
shown_at NotSaved = shows.Nothing
shown_at TurnsTaken = shows.Nothing
shown_at Quit = shows.Nothing
shown_at (Demo lines counts) = shows.Demo lines

-- whether the configuration could not be written
abbrev pub is_unsaved : Ending → Bool
is_unsaved NotSaved = true
is_unsaved _ = false

-- what an end prints
abbrev pub ending_text : Ending → List ℕ
ending_text ending = printed_text (shown_at ending) (is_unsaved ending) (status_of ending)
    (number_of ending) (counts_in ending)

-- so many turns were taken, the last of which ended so
pub record RunStep (end : TurnEnd) (old new : Headless) (before after : Seen) : Type 0 where
  pub faults : ℕ
  pub fits : FaultsIn end faults
  pub step : LoopStep false new.turns faults old new before after

-- how a run ends after a turn that ended so
abbrev pub EndsAt : TurnEnd → Ending → Type 0
EndsAt GoOn ending = ending ≡ TurnsTaken
EndsAt ThenQuit ending = ending ≡ Quit
EndsAt WaitFault ending = ending ≡ WaitFailed
EndsAt ListenFault ending = ending ≡ ListenFailed
EndsAt KeeperFault ending = ending ≡ NotSaved

-- an end before the listener is asked for
abbrev pub IsEarly : Option (List ℕ) → ℕ → ℕ → Ending → Type 0
IsEarly contents kept kept' NoConfiguration = Rose kept kept'
IsEarly contents kept kept' (BadLine n) =
    IfSome contents (λ configuration. config_of configuration ≡ Err n)
IsEarly contents kept kept' NoMemory = Unit {0}
IsEarly contents kept kept' Version = ⊥
IsEarly contents kept kept' Help = ⊥
IsEarly contents kept kept' (BadWord n) = ⊥
IsEarly contents kept kept' WaitFailed = ⊥
IsEarly contents kept kept' ListenFailed = ⊥
IsEarly contents kept kept' NotSaved = ⊥
IsEarly contents kept kept' TurnsTaken = ⊥
IsEarly contents kept kept' Quit = ⊥
IsEarly contents kept kept' (Demo lines counts) = ⊥

-- The links that the last turn closed are, in order, those that the core closes at the events of that
-- turn, unless some growth was refused, and they have their causes in it, as far as they are not those
-- of servers. The state before that turn is one that this run came to, and what was seen then came after
-- the start.
pub record ClosesLast (opening : Opening) (contents : Option (List ℕ)) (before after : Seen)
    (last : Headless) : Type 0 where
  -- the state before the last turn, and what was seen then
  pub earlier : Headless
  pub seen : Seen
  pub end : TurnEnd
  pub headline : Headline opening contents seen earlier
  pub counts : NeverFall before.faults seen.faults
  pub agrees : AgreesWithSockets earlier seen
  pub turn : TurnStep end earlier last seen after
  pub causes : All (HasCloseCause earlier last seen after) last.links.closed.items
  pub closes : ClosesExactly earlier last seen after

-- the last of some turns, the first of which began so
pub record LastTurn (first last : Headless) (before after : Seen) : Type 0 where
  pub earlier : Headless
  pub seen : Seen
  pub end : TurnEnd
  pub waits : ℕ
  pub until : LoopStep false waits 0 first earlier before seen
  pub agrees : AgreesWithSockets earlier seen
  pub calm : IsCalm earlier.core
  pub turn : TurnStep end earlier last seen after
  pub causes : All (HasCloseCause earlier last seen after) last.links.closed.items
  pub closes : ClosesExactly earlier last seen after

-- the state after the last turn
pub record IsLastState (opening : Opening) (contents : Option (List ℕ)) (before after : Seen)
    (last : Headless) : Type 0 where
  pub headline : Headline opening contents after last
  pub takes : TakesEach opening contents after last
  pub agrees : AgreesWithSockets last after
  pub calm : IsCalm last.core
  pub causes : ClosesLast opening contents before after last

-- What was saved in the last turn could not be written. So a keeper that tells what it holds has what
-- it had before that turn: the text that was saved last by then, or what it held at first.
pub record HoldsEarlier (opening : Opening) (contents kept : Option (List ℕ)) (after : Seen)
    (last : Headless) : Type 0 where
  -- the state before the last turn, and what was seen then
  pub earlier : Headless
  pub seen : Seen
  pub headline : Headline opening contents seen earlier
  pub agrees : AgreesWithSockets earlier seen
  pub turn : TurnStep KeeperFault earlier last seen after
  pub holds : IsSome kept → kept ≡ held_by earlier.core.saved contents

-- What a keeper has at the end: what it held at first where no wait returned, and else the text that
-- was saved last, or what it had before the last turn.
abbrev pub HoldsSaved : Opening → Option (List ℕ) → Option (List ℕ) → Seen → Option Headless →
    Type 0
HoldsSaved opening contents kept after None = kept ≡ contents
HoldsSaved opening contents kept after (Some last) = KeepsText contents kept (Some last)
    ⊎ HoldsEarlier opening contents kept after last

-- a keeper failed at the end of the last of some turns, the first of which began so
pub record FailsToSave (first last : Headless) (before after : Seen)
    (contents kept : Option (List ℕ)) : Type 0 where
  pub earlier : Headless
  pub seen : Seen
  pub waits : ℕ
  pub until : LoopStep false waits 0 first earlier before seen
  pub agrees : AgreesWithSockets earlier seen
  pub calm : IsCalm earlier.core
  pub turn : TurnStep KeeperFault earlier last seen after
  pub saves : SavesTurn first.core earlier.core contents kept

-- the last of some turns ended so, and this is so of what it did
pub record LastDid (end : TurnEnd) (how : Headless → Headless → Seen → Seen → Type 0)
    (before after : Seen) (last : Headless) : Type 0 where
  -- the state before the last turn, and what was seen then
  pub earlier : Headless
  pub seen : Seen
  pub told : IsTrue seen.tells → IsTrue before.tells
  pub gained : List Happening
  pub taken : IsTrue seen.tells → seen.taken ≡ before.taken ++ gained
  pub agrees : AgreesWithSockets earlier seen
  pub turn : TurnStep end earlier last seen after
  pub did : how earlier last seen after

-- in the last turn each source was served, or it waits, and each link is written
abbrev pub ServedLast : Seen → Seen → Headless → Type 0
ServedLast before after = LastDid GoOn AllServed before after

-- in the last turn each link with unsent bytes was written once, after `/quit`
abbrev pub SentLast : Seen → Seen → Headless → Type 0
SentLast before after = LastDid ThenQuit (λ earlier. AllSent) before after

-- a run that was asked for this number of waits ends
pub record Runs (opening : Opening) (turns : ℕ) (contents : Option (List ℕ)) (kept kept' : ℕ) (before after : Seen)
    (ending : Ending) (last : Option Headless) : Type 0 where
  pub ends : Ends turns contents after (status_of ending) last
  pub line : status_of ending ≡ 4 → IfSome contents (λ configuration. config_of configuration
      ≡ Err (number_of ending))
  pub shown : shown_at ending ≡ shows.Nothing
  -- the text of a failure of the keeper tells whether it came before the first wait
  pub saving : status_of ending ≡ 3 → is_unsaved ending ≡ is_some last
  pub counted : LastOf after last
  pub most : WaitsAtMost turns after last
  pub left : IfSome last (IsLastState opening contents before after)
  -- after the last turn each source is served, and each link is written
  pub served : status_of ending ≡ 8 → IfSome last (ServedLast before after)
  -- after `/quit` each link is written once
  pub sent : status_of ending ≡ 0 → IfSome last (SentLast before after)
  pub faults : HasCause before.faults after.faults kept kept' (status_of ending)
  pub asked : IsTrue after.tells → IsAsked true contents (status_of ending) (is_some last)
      after.asked

-- nothing is asked of the outside
pub record AsksNothing (kept kept' : ℕ) (before after : Seen) (wanted ending : Ending)
    (last : Option Headless) : Type 0 where
  pub ends : ending ≡ wanted
  pub none : last ≡ None
  pub seen : after ≡ before
  pub faults : kept' ≡ kept

-- a demo ends, which asks nothing of it either
pub record EndsDemo (lines kept kept' : ℕ) (before after : Seen) (ending : Ending)
    (last : Option Headless) : Type 0 where
  pub ends : IsDemoEnd lines ending
  pub nothing : AsksNothing kept kept' before after ending ending last

abbrev pub RunsFor : Shows → Opening → ℕ → Option (List ℕ) → ℕ → ℕ → Seen → Seen → Ending →
    Option Headless → Type 0
RunsFor shows.Version opening turns contents kept kept' before after ending last =
    AsksNothing kept kept' before after Version ending last
RunsFor shows.Help opening turns contents kept kept' before after ending last =
    AsksNothing kept kept' before after Help ending last
RunsFor (shows.Demo lines) opening turns contents kept kept' before after ending last =
    EndsDemo lines kept kept' before after ending last
RunsFor shows.Nothing opening turns contents kept kept' before after ending last =
    Runs opening turns contents kept kept' before after ending last

-- the program ends, by its words
abbrev pub RunsBy : Opening → Result Wish ℕ → Option (List ℕ) → ℕ → ℕ → Seen → Seen →
    Ending → Option Headless → Type 0
RunsBy opening (Err n) contents kept kept' before after ending last = AsksNothing kept kept' before after
    (BadWord n) ending last
RunsBy opening (Ok wish) contents kept kept' before after ending last =
    RunsFor wish.shows opening wish.turns contents kept kept' before after ending last
