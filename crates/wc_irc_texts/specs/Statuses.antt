-- Targets that are some of the nicks of a channel, as `@#a` for those with a sign `@`.
use Rattle.std.specs.Prelude.{ℕ, Bool, false, not, ◌&&◌, List, [], ◌∷◌, Option, Some, None}
use Rattle.std.specs.Prelude.{if◌then◌else◌}
use Rattle.wc_irc_texts.specs.declared.features.Features.{Features}
use Rattle.wc_irc_texts.specs.Modes.{has_letter}
use Rattle.wc_irc_texts.specs.Names.{is_channel}

-- the signs that may be before a channel
abbrev pub signs_told : List ℕ → Option (List ℕ) → List ℕ
signs_told signs None = signs
signs_told signs (Some told) = told

abbrev pub status_signs : Features → List ℕ
status_signs f = signs_told f.prefixes.chars f.status_msg

-- whether a target is no channel itself, and a channel after one of these signs
abbrev pub has_status : Features → List ℕ → Bool
has_status f [] = false
has_status f (b ∷ target) = not (is_channel f.chan_types (b ∷ target))
    && (has_letter b (status_signs f) && is_channel f.chan_types target)

abbrev pub first_byte : List ℕ → List ℕ
first_byte [] = []
first_byte (b ∷ target) = b ∷ []

abbrev pub past_byte : List ℕ → List ℕ
past_byte [] = []
past_byte (b ∷ target) = target

-- the sign before the channel, and nothing for another target
unfoldable pub status_sign : Features → List ℕ → List ℕ
status_sign f target = if has_status f target then first_byte target else []

-- the channel of such a target, and another target as it is
unfoldable pub whole_channel : Features → List ℕ → List ℕ
whole_channel f target = if has_status f target then past_byte target else target
