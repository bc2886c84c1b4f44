-- What a demo prints: what there is after a run in memory.
use Rattle.std.specs.Prelude.{ℕ, ◌≡◌, false, List, [], ◌∷◌, ◌++◌, Option, Result, Ok, Err, IsTrue}
use Rattle.std.specs.Prelude.{codes, decimal, map, max, unwrap_or}
use Rattle.std.specs.Io.KnownBytes.{append_known}
use Rattle.wc_outside.specs.Seen.{Seen}
use Rattle.wc_options.specs.Options.{fresh}
use Rattle.wc_core.specs.LinksSeen.{unsent_in_core}
use Rattle.wc_core.specs.State.{State}
use Rattle.wc_core.specs.Step.{run}
use Rattle.wc_turns.specs.declared.headless.Headless.{Headless}
use Rattle.wc_turns.specs.Events.{whole}
use Rattle.wc_turns.specs.Heard.{Happened}
use Rattle.wc_eval.specs.Verdicts.{Oracle, Agrees}
use Rattle.wc_demo.specs.declared.counts.Counts.{Counts}
use Rattle.wc_demo.specs.Counts.{counts_of}
use Rattle.wc_demo.specs.Client.{IsCountedBy}
use Rattle.wc_demo.specs.Script.{client, demo_taken}
use Rattle.wc_demo.specs.Start.{start_words}
use Rattle.wc_loop.specs.declared.ending.Ending.{Ending}
use Rattle.wc_loop.specs.declared.ending.Ending.TheVariants.{Version, Help, BadWord, WaitFailed}
use Rattle.wc_loop.specs.declared.ending.Ending.TheVariants.{NoConfiguration, BadLine, NoMemory}
use Rattle.wc_loop.specs.declared.ending.Ending.TheVariants.{ListenFailed, NotSaved, TurnsTaken}
use Rattle.wc_loop.specs.declared.ending.Ending.TheVariants.{Quit, Demo}
use Rattle.wc_loop.specs.declared.words.Shows.{Shows}
use Rattle.wc_loop.specs.declared.words.Shows.TheVariants as shows
use Rattle.wc_loop.specs.declared.words.Wish.{Wish}
use Rattle.wc_loop.specs.Headline.{HandsOut, state_before}
use Rattle.wc_loop.specs.Words.{Opening, commands_of}

-- a text and an LF
abbrev pub line_of : List ℕ → List ℕ
line_of text = text ++ 10 ∷ []

abbrev pub demo_text : ℕ → Counts → List ℕ
demo_text lines counts = line_of (codes "demo " ++ decimal lines
    ++ codes ": buffers " ++ decimal counts.buffers
    ++ codes ", lines " ++ decimal counts.lines
    ++ codes ", nicks " ++ decimal counts.nicks)

-- the run begins with a password, and a server that it connects to
abbrev pub demo_opening : Opening
demo_opening = record { commands = commands_of start_words; holds = false }

-- before that no option is set
abbrev pub demo_state : Oracle → State
demo_state oracle = state_before oracle fresh demo_opening

-- A run of whose sockets this was seen ended in this state: all its turns were taken, no growth was
-- refused, and where the sockets tell it handed out what it owes, whatever is thought of texts that
-- were not judged as patterns.
pub record RunsDemo (seen : Seen) (last : Headless) : Type 0 where
  pub starved : last.core.starved ≡ 0
  pub going : last.core.quits ≡ false
  pub handed : IsTrue seen.tells → (oracle : Oracle) → Agrees oracle last.core.verdicts →
      HandsOut (demo_state oracle) seen last

-- what is unsent to the client, if it is still there
abbrev pub unsent_to_client : Headless → List ℕ
unsent_to_client last = unwrap_or (unsent_in_core client.0 last.core) []

-- These are the counts of the world in which the run ends over the lines that a server says and the
-- moments at which it ticks. They are counted by a mirror that takes all that the client is sent. No
-- growth was refused in the run.
pub record AreDemoCounts (lines : ℕ) (counts : Counts) : Type 0 where
  -- what was seen of the sockets of that run, and the state at its end
  pub seen : Seen
  pub last : Headless
  -- no link of it is a WebSocket, and so what the sockets gave is all that was heard
  pub are : (oracle : Oracle) → Agrees oracle last.core.verdicts → counts ≡ counts_of
      (run (demo_state oracle) (whole (map Happened (demo_taken lines)))).state.world
  pub taken : seen.taken ≡ demo_taken lines
  pub handed : (oracle : Oracle) → Agrees oracle last.core.verdicts →
      HandsOut (demo_state oracle) seen last
  pub starved : last.core.starved ≡ 0
  pub mirrored : IsCountedBy (max last.core.world.limit 1) (seen.sent client.0)
      (unsent_to_client last) counts

-- what is printed of a demo is the line of its counts
pub record PrintsDemo (lines : ℕ) (before after : Option (List ℕ)) : Type 0 where
  pub counts : Counts
  pub are : AreDemoCounts lines counts
  pub holds : after ≡ append_known before (demo_text lines counts)

-- what holds where words ask for a demo of so many lines
abbrev pub IfDemoShown : Shows → (ℕ → Type 0) → Type 0
IfDemoShown shows.Nothing holds = Unit {0}
IfDemoShown shows.Version holds = Unit {0}
IfDemoShown shows.Help holds = Unit {0}
IfDemoShown (shows.Demo lines) holds = holds lines

abbrev pub IfDemo : Result Wish ℕ → (ℕ → Type 0) → Type 0
IfDemo (Err n) holds = Unit {0}
IfDemo (Ok wish) holds = IfDemoShown wish.shows holds

-- a demo ends with its counts, unless there is no memory for it
abbrev pub IsDemoEnd : ℕ → Ending → Type 0
IsDemoEnd lines (Demo said counts) = (said ≡ lines) × AreDemoCounts lines counts
IsDemoEnd lines NoMemory = Unit {0}
IsDemoEnd lines Version = ⊥
IsDemoEnd lines Help = ⊥
IsDemoEnd lines (BadWord n) = ⊥
IsDemoEnd lines WaitFailed = ⊥
IsDemoEnd lines NoConfiguration = ⊥
IsDemoEnd lines (BadLine n) = ⊥
IsDemoEnd lines ListenFailed = ⊥
IsDemoEnd lines NotSaved = ⊥
IsDemoEnd lines TurnsTaken = ⊥
IsDemoEnd lines Quit = ⊥
