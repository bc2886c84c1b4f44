-- What a client makes of all bytes that it was sent.
use Rattle.std.specs.Prelude.{◌≡◌, ℕ, ◌≤◌, Bool, List, Option}
use Rattle.std.specs.List.{AllByRecursion, flat_map}
use Rattle.std.specs.Str.{IsUtf8}
use Rattle.wc_objects.specs.declared.object.WireMessage.{WireMessage}
use Rattle.wc_objects.specs.Spells.{Spells}
use Rattle.wc_objects.specs.Within.{IsWithin}
use Rattle.wc_session.specs.Sending.{spelling}
use Rattle.wc_options.specs.Options.{OptionsValue}
use Rattle.wc_core.specs.Events.{Event}
use Rattle.wc_core.specs.State.{State}
use Rattle.wc_core.specs.Step.{run}
use Rattle.wc_core.specs.Served.{messages_to, sent_to}
use Rattle.wc_mirror_laws.specs.Held.{HeldPart, Lines, Buffers, Nicks, nothing, Has}
use Rattle.wc_mirror_laws.specs.Settled.{SettledBy, IsLimited}
use Rattle.wc_mirror_laws.specs.Mirrors.{fold_all, beginning, IsShortLine}
use Rattle.wc_eval.specs.Verdicts.{Oracle}

-- a message that keeps the rules, whose numbers are of their types
pub record IsSpelt (message : WireMessage) : Type 0 where
  pub spells : Spells message (spelling message)
  pub within : IsWithin message

-- the bytes spell these messages, one after another
pub record Spell (bytes : List ℕ) (messages : List WireMessage) : Type 0 where
  pub each : AllByRecursion IsSpelt messages
  pub whole : bytes ≡ flat_map (λ m. spelling m) messages

-- The bytes spell messages, and a client that takes them has this part of this state.
pub record ShowsPart (which : HeldPart) (limit : Option ℕ) (id bytes : List ℕ) (state : State) :
    Type 0 where
  pub messages : List WireMessage
  pub spell : Spell bytes messages
  pub has : Has which (fold_all which limit id (nothing which) messages) state

-- it has the lines of each buffer
abbrev pub Shows : Option ℕ → List ℕ → List ℕ → State → Type 0
Shows limit id bytes state = ShowsPart Lines limit id bytes state

-- it has the buffers in their groups
abbrev pub ShowsBuffers : Option ℕ → List ℕ → List ℕ → State → Type 0
ShowsBuffers limit id bytes state = ShowsPart Buffers limit id bytes state

-- it has the nicklists of all buffers, as they were told
abbrev pub ShowsNicks : Option ℕ → List ℕ → List ℕ → State → Type 0
ShowsNicks limit id bytes state = ShowsPart Nicks limit id bytes state

-- Bytes spell messages in one way at most.
abbrev pub SpellOnce : Type 0
SpellOnce = (bytes : List ℕ) (a b : List WireMessage) → Spell bytes a → Spell bytes b → a ≡ b

-- What is sent to a link spells the messages for it.
abbrev pub RunSpells : Type 0
RunSpells = (oracle : Oracle) (options : OptionsValue) (lines : ℕ)
    (commands : List (List ℕ)) (connects : Bool)
    (events : List Event) (link : ℕ) → lines ≤ 4096 → AllByRecursion IsUtf8 commands
    → Spell (sent_to link (run (beginning oracle options lines commands connects) events).acts)
    (messages_to link (run (beginning oracle options lines commands connects) events).acts)

-- Whoever settled by the dump of a part has exactly this part of the state, by all bytes that it
-- was sent.
abbrev pub PartShows : HeldPart → Type 0
PartShows which = (limit : Option ℕ) (oracle : Oracle) (options : OptionsValue) (lines : ℕ)
    (commands : List (List ℕ)) (connects : Bool)
    (events : List Event) (link : ℕ) (id : List ℕ)
    → lines ≤ 4096 → AllByRecursion IsUtf8 commands → AllByRecursion IsShortLine events →
    SettledBy limit which link id (beginning oracle options lines commands connects) events
    → IsLimited limit (run (beginning oracle options lines commands connects) events).state.world
    → ShowsPart which limit id
    (sent_to link (run (beginning oracle options lines commands connects) events).acts)
    (run (beginning oracle options lines commands connects) events).state

-- the lines that each buffer holds
abbrev pub BytesShow : Type 0
BytesShow = PartShows Lines

-- the buffers in their groups
abbrev pub BuffersShow : Type 0
BuffersShow = PartShows Buffers

-- the nicklists of all buffers
abbrev pub NicksShow : Type 0
NicksShow = PartShows Nicks
