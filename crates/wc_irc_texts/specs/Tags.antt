-- The tags of a message (IRCv3): semicolons part them, and each is a name, or a name, `=` and a value.
use Rattle.std.specs.Prelude.{ℕ, ◌==◌, List, [], ◌∷◌, bytes_eq, codes, Option, Some, None}
use Rattle.std.specs.Prelude.{option_and_then, if◌then◌else◌}
use Rattle.std.specs.Borrow.{Bor}
use Rattle.std.specs.List.{slice_split}
use Rattle.wc_text.specs.Splits.{before, text_after}
use Rattle.wc_irc_texts.specs.Moments.{read_time}
use Rattle.wc_irc_texts.specs.declared.moment.Moment.{Moment}

abbrev pub tags_in : List ℕ → List (List ℕ)
tags_in text = slice_split (λ b. b == 59) text

-- those of what is left of a text, where something is
abbrev pub tags_left : Option (Bor (List ℕ)) → List (List ℕ)
tags_left None = []
tags_left (Some text) = tags_in text.now

-- the value of a tag, where it has this name
abbrev pub value_in : List ℕ → List ℕ → Option (List ℕ)
value_in name tag = if bytes_eq name (before 61 tag) then text_after 61 tag else None

abbrev pub or_before : Option (List ℕ) → Option (List ℕ) → Option (List ℕ)
or_before None found = found
or_before (Some value) found = Some value

-- of several values the last one counts
abbrev pub last_value : List ℕ → Option (List ℕ) → List (List ℕ) → Option (List ℕ)
last_value name found [] = found
last_value name found (tag ∷ tags) = last_value name (or_before (value_in name tag) found) tags

abbrev pub tag_value : List ℕ → List ℕ → Option (List ℕ)
tag_value name text = last_value name None (tags_in text)

-- the moment of the message, where a tag tells one
abbrev pub tag_time : List ℕ → Option Moment
tag_time text = option_and_then read_time (tag_value (codes "time") text)
