-- What a keeper holds after a turn.
use Rattle.std.specs.Prelude.{ℕ, ◌≡◌, false, List, Option, Some, None, IsSome}
use Rattle.wc_core.specs.CoreView.{CoreView}
use Rattle.wc_turns.specs.declared.headless.Headless.{Headless}

-- what is held where this was saved last, and this was held at first
abbrev pub held_by : Option (List ℕ) → Option (List ℕ) → Option (List ℕ)
held_by None held = held
held_by (Some text) held = Some text

-- the text is held where one is to be written, and else what was held before
abbrev pub WritesText : Option (List ℕ) → Option (List ℕ) → Option (List ℕ) → Type 0
WritesText None before after = after ≡ before
WritesText (Some text) before after = IsSome after → after ≡ Some text

-- A keeper that tells what it holds has the text that was saved last, or what it held at first where
-- none was: this goes on over a turn, whatever it held at first.
abbrev pub SavesTurn : CoreView → CoreView → Option (List ℕ) → Option (List ℕ) → Type 0
SavesTurn old new before after = (first : Option (List ℕ)) →
    (IsSome before → before ≡ held_by old.saved first) →
    IsSome after → after ≡ held_by new.saved first

-- the state once what was saved is written
abbrev pub written_state : Headless → Headless
written_state headless = record headless { core = record headless.core { unwritten = false } }
