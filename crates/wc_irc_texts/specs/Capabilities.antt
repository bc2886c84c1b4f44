-- What servers offer beside the protocol itself, and which of it a login asks for (IRCv3).
use Rattle.std.specs.Prelude.{ℕ, Bool, true, not, ◌||◌, ◌&&◌, List, [], ◌∷◌, ◌++◌, filter}
use Rattle.std.specs.Prelude.{bytes_eq, codes, Option, Some, None, if◌then◌else◌}
use Rattle.std.specs.List.{list_any}
use Rattle.wc_text.specs.Splits.{before, text_after}
use Rattle.wc_text.specs.Words.{words_of}
use Rattle.wc_irc_texts.specs.Pieces.{pieces}

-- whether a name is one of these
abbrev pub is_among : List ℕ → List (List ℕ) → Bool
is_among name names = list_any (λ other. bytes_eq name other) names

-- ---- what is offered: names, each alone or with `=` and a value

-- the ways to log in of a value of `sasl`, where it has one, have PLAIN
abbrev pub has_plain : Option (List ℕ) → Bool
has_plain None = true
has_plain (Some value) = is_among (codes "PLAIN") (pieces value)

-- whether a word offers the capability of a name; `sasl` is of use where it has PLAIN
abbrev pub is_offer : List ℕ → List ℕ → Bool
is_offer name word = bytes_eq name (before 61 word)
    && (not (bytes_eq name (codes "sasl")) || has_plain (text_after 61 word))

-- whether one of the words of a text does
abbrev pub is_offered : List ℕ → List ℕ → Bool
is_offered name text = list_any (is_offer name) (words_of text)

-- ---- what is wished for

-- those beside `sasl` that this program reads rightly
unfoldable pub known : List (List ℕ)
known = codes "multi-prefix" ∷ codes "extended-join" ∷ codes "away-notify" ∷ codes "account-notify"
    ∷ codes "chghost" ∷ codes "setname" ∷ codes "message-tags"
    ∷ codes "userhost-in-names" ∷ codes "invite-notify"
    ∷ codes "server-time" ∷ []

-- `sasl` where there is a login, and after it those that the words of an option name
abbrev pub wished_names : Bool → List ℕ → List (List ℕ)
wished_names logs_in option = (if logs_in then codes "sasl" ∷ [] else [])
    ++ filter (λ name. is_among name (words_of option)) known

-- ---- which of some names a text tells

-- those that were offered before, and those that a text offers
abbrev pub offered_names : List (List ℕ) → List (List ℕ) → List ℕ → List (List ℕ)
offered_names wished offered text =
    filter (λ name. is_among name offered || is_offered name text) wished

-- those that are words of a text, and those that are not
abbrev pub named_in : List (List ℕ) → List ℕ → List (List ℕ)
named_in names text = filter (λ name. is_among name (words_of text)) names

abbrev pub unnamed_in : List (List ℕ) → List ℕ → List (List ℕ)
unnamed_in names text = filter (λ name. not (is_among name (words_of text))) names
