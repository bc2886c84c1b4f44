-- What a MODE of a channel sets.
use Rattle.std.specs.Prelude.{ℕ, Bool, true, false, ◌&&◌, ◌||◌, ◌==◌, List}
use Rattle.std.specs.Prelude.{[], ◌∷◌, ◌++◌, drop, slice_index_or}
use Rattle.std.specs.Prelude.{if◌then◌else◌}
use Rattle.std.specs.List.{list_any}
use Rattle.wc_irc_texts.specs.declared.features.Features.{Features}
use Rattle.wc_irc_texts.specs.Pieces.{pieces}

abbrev pub has_letter : ℕ → List ℕ → Bool
has_letter letter modes = list_any (λ other. other == letter) modes

-- one of the lists of CHANMODES, by its place
abbrev pub mode_list : ℕ → List ℕ → List ℕ
mode_list n value = slice_index_or (pieces value) n []

-- Whether a mode takes a parameter: one of PREFIX and of the first two lists always, and one of the
-- third where it is set.
abbrev pub takes_param : Features → Bool → ℕ → Bool
takes_param f adds letter = has_letter letter f.prefixes.modes
    || (has_letter letter (mode_list 0 f.chan_modes) || (has_letter letter
    (mode_list 1 f.chan_modes) || (adds && has_letter letter (mode_list 2 f.chan_modes))))

-- a mode of PREFIX that a nick gets or loses
pub record ModeChange : Type 0 where
  pub adds : Bool
  pub letter : ℕ
  pub nick : List ℕ

-- the change of a letter with the next parameter, where it is one of PREFIX and there is one
abbrev pub change_with : Features → Bool → ℕ → List (List ℕ) → List ModeChange
change_with f adds letter [] = []
change_with f adds letter (param ∷ params) = if has_letter letter f.prefixes.modes
    then record { adds = adds; letter = letter; nick = param } ∷ [] else []

-- the changes of letters with the parameters that are left, where `+` or `-` was before
abbrev pub changes_from : Features → Bool → List ℕ → List (List ℕ) → List ModeChange
changes_from f adds [] params = []
changes_from f adds (letter ∷ letters) params =
    if letter == 43 then changes_from f true letters params else (
    if letter == 45 then changes_from f false letters params else (
    if takes_param f adds letter
    then change_with f adds letter params ++ changes_from f adds letters (drop 1 params)
    else changes_from f adds letters params))

-- the first parameter has the letters, and the others are theirs in order
abbrev pub mode_changes : Features → List (List ℕ) → List ModeChange
mode_changes f [] = []
mode_changes f (letters ∷ params) = changes_from f true letters params
