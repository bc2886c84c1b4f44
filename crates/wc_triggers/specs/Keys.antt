-- The keys of a trigger, with their priorities.
use Rattle.std.specs.Prelude.{ℕ, Bool, false, ◌==◌, bytes_eq, List, [], ◌∷◌, ◌++◌, map, Option, Some, None}
use Rattle.std.specs.Prelude.{option_map, if◌then◌else◌}
use Rattle.std.specs.Option.{option_and_then}
use Rattle.std.specs.List.{slice_split, list_all, list_any}
use Rattle.std.specs.Char.{is_ascii_digit}
use Rattle.wc_text.specs.Splits.{before, text_after}
use Rattle.wc_options.specs.Number.{number_in}
use Rattle.wc_triggers.specs.Hooks.{signals, is_among}
use Rattle.wc_triggers.specs.declared.keys.TriggerKey.{TriggerKey}

abbrev pub key_of : ℕ → List ℕ → TriggerKey
key_of priority key = record { key = key; priority = priority }

-- ---- priorities

-- one digit or more, and nothing else
abbrev pub is_numeral : List ℕ → Bool
is_numeral [] = false
is_numeral (byte ∷ bytes) = list_all is_ascii_digit (byte ∷ bytes)

-- a priority, and the text after it
abbrev pub with_text : List ℕ → Option ℕ → Option (ℕ × List ℕ)
with_text text priority = option_map (λ number. (number, text)) priority

abbrev pub ranked_by : List ℕ → List ℕ → Option (List ℕ) → Option (ℕ × List ℕ)
ranked_by text front None = Some (1000, text)
ranked_by text front (Some rest) = if is_numeral front
    then with_text rest (number_in 0 65535 front) else Some (1000, text)

-- The priority of a text, and the text after it. Digits before the first bar are a priority, and have
-- to be a number up to 65535; without them it is 1000.
abbrev pub ranked : List ℕ → Option (ℕ × List ℕ)
ranked text = ranked_by text (before 124 text) (text_after 124 text)

-- ---- signals

abbrev pub key_of_signal : ℕ × List ℕ → Option TriggerKey
key_of_signal named = if is_among signals named.1
    then Some (key_of named.0 named.1) else None

-- the key of one name, where it names a signal
abbrev pub signal_key : List ℕ → Option TriggerKey
signal_key text = option_and_then key_of_signal (ranked text)

abbrev pub with_key : Option (List TriggerKey) → TriggerKey → Option (List TriggerKey)
with_key keys key = option_map (λ others. key ∷ others) keys

-- the keys of all names, where each names a signal
abbrev pub each_key : List (List ℕ) → Option (List TriggerKey)
each_key [] = Some []
each_key (text ∷ texts) = option_and_then (with_key (each_key texts)) (signal_key text)

-- the keys whose names are not among these, each name at its first place
abbrev pub first_places : List (List ℕ) → List TriggerKey → List TriggerKey
first_places names [] = []
first_places names (key ∷ keys) = if is_among names key.key then first_places names keys
    else key ∷ first_places (names ++ key.key ∷ []) keys

-- the names between semicolons
abbrev pub names_of : List ℕ → List (List ℕ)
names_of text = slice_split (λ b. b == 59) text

-- the keys of the names between semicolons: a repeated one counts once, at its first place
abbrev pub signal_keys : List ℕ → Option (List TriggerKey)
signal_keys text = option_map (first_places []) (each_key (names_of text))

-- ---- for the walk along the names

abbrev pub names_left : Option (List ℕ) → List (List ℕ)
names_left None = []
names_left (Some text) = names_of text

abbrev pub has_key : List ℕ → List TriggerKey → Bool
has_key name keys = list_any (λ k. bytes_eq k.key name) keys

-- the keys with one more, unless its name is there
abbrev pub with_new : List TriggerKey → TriggerKey → List TriggerKey
with_new keys key = if has_key key.key keys then keys else keys ++ key ∷ []

abbrev pub keyed_after : List TriggerKey → List TriggerKey → List TriggerKey
keyed_after keys others = keys ++ first_places (map (λ k. k.key) keys) others
