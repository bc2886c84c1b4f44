-- The changes of modes, as the code lends them, and the tables that tell the kinds of modes.
use Rattle.std.specs.Prelude.{ℕ, ◌≡◌, ◌<◌, ◌==◌, ◌&&◌, ◌||◌, Bool, List, [], ◌∷◌, map}
use Rattle.std.specs.Prelude.{slice_index, Option, Some, None}
use Rattle.wc_irc_texts.specs.declared.features.Features.{Features}
use Rattle.wc_irc_texts.specs.declared.mode_kinds.ModeKinds.{ModeKinds}
use Rattle.wc_irc_texts.specs.declared.modes.ModeChange.{ModeChange as Lent}
use Rattle.wc_irc_texts.specs.Modes.{ModeChange, has_letter, mode_list}

abbrev pub change_in : Lent → ModeChange
change_in change = record { adds = change.adds; letter = change.letter; nick = change.nick.now }

abbrev pub changes_in : List Lent → List ModeChange
changes_in changes = map change_in changes

-- one change, or none
abbrev pub changes_found : Option Lent → List ModeChange
changes_found None = []
changes_found (Some change) = change_in change ∷ []

-- ---- a table has 1 at each letter of a text

abbrev pub stands_in : List ℕ → ℕ → Bool
stands_in table letter = slice_index table letter == 1

abbrev pub IsTable : List ℕ → List ℕ → Type 0
IsTable letters table = (letter : ℕ) → letter < 256 → stands_in table letter ≡ has_letter letter letters

-- the tables are those of what a server told
pub record AreKinds (f : Features) (kinds : ModeKinds) : Type 0 where
  pub prefix : IsTable f.prefixes.modes kinds.prefix
  pub first : IsTable (mode_list 0 f.chan_modes) kinds.first
  pub second : IsTable (mode_list 1 f.chan_modes) kinds.second
  pub third : IsTable (mode_list 2 f.chan_modes) kinds.third

-- whether a mode takes a parameter by these tables
abbrev pub takes_by : ModeKinds → Bool → ℕ → Bool
takes_by kinds adds letter = stands_in kinds.prefix letter || (stands_in kinds.first letter
    || (stands_in kinds.second letter || (adds && stands_in kinds.third letter)))
