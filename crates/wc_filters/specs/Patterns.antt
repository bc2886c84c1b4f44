-- What the pattern of a filter asks of a line's prefix and message.
use Rattle.std.specs.Prelude.{ℕ, Bool, true, false, not, ◌&&◌, ◌==◌, List, [], ◌∷◌, codes}
use Rattle.std.specs.Prelude.{if◌then◌else◌}
use Rattle.std.specs.Str.{bytes_eq}
use Rattle.wc_text.specs.Splits.{begins_with}
use Rattle.wc_eval.specs.Matching.{is_found}
use Rattle.wc_eval.specs.Verdicts.{Oracle, VerdictsView, is_known_fine}
use Rattle.wc_filters.specs.declared.search.Search.{Search}

-- ---- its two halves

-- whether a text begins with the two bytes `\t`
abbrev pub is_tab : List ℕ → Bool
is_tab [] = false
is_tab (b ∷ text) = b == 92 && begins_with 116 text

-- the text before the first `\t`, or all of it
abbrev pub before_tab : List ℕ → List ℕ
before_tab [] = []
before_tab (b ∷ text) = if is_tab (b ∷ text) then [] else b ∷ before_tab text

-- the text from the first `\t` on, or nothing
abbrev pub from_tab : List ℕ → List ℕ
from_tab [] = []
from_tab (b ∷ text) = if is_tab (b ∷ text) then b ∷ text else from_tab text

-- what is before and after the first `\t`; without one, the text is on the message alone
abbrev pub parted : List ℕ → List ℕ → List ℕ × List ℕ
parted (slash ∷ t ∷ message) text = (before_tab text, message)
parted tab text = ([], text)

-- the patterns on prefix and message, of which an empty one asks nothing
abbrev pub halves_of : List ℕ → List ℕ × List ℕ
halves_of text = if bytes_eq text (codes "*") then ([], []) else parted (from_tab text) text

abbrev pub search_by : Bool → List ℕ × List ℕ → Search
search_by negated halves = record { negated = negated; prefix = halves.0; message = halves.1 }

-- a leading `!` negates what comes after it
unfoldable pub search_of : List ℕ → Search
search_of [] = search_by false (halves_of [])
search_of (b ∷ text) = if b == 33 then search_by true (halves_of text)
    else search_by false (halves_of (b ∷ text))

-- ---- whether it holds

abbrev pub half_holds : List ℕ → List ℕ → Bool
half_holds [] text = true
half_holds (b ∷ pattern) text = is_found (b ∷ pattern) text

abbrev pub both_hold : Search → List ℕ → List ℕ → Bool
both_hold s prefix message = half_holds s.prefix prefix && half_holds s.message message

abbrev pub search_holds : Search → List ℕ → List ℕ → Bool
search_holds s prefix message = if s.negated then not (both_hold s prefix message)
    else both_hold s prefix message

-- ---- whether its halves are patterns

-- by total verdicts
abbrev pub half_is_fine : Oracle → List ℕ → Bool
half_is_fine oracle [] = true
half_is_fine oracle (b ∷ pattern) = oracle (b ∷ pattern)

abbrev pub is_fine_by : Oracle → Search → Bool
is_fine_by oracle s = half_is_fine oracle s.prefix && half_is_fine oracle s.message

-- by the verdicts that were given
abbrev pub half_is_known : VerdictsView → List ℕ → Bool
half_is_known verdicts [] = true
half_is_known verdicts (b ∷ pattern) = is_known_fine (b ∷ pattern) verdicts

abbrev pub is_known : VerdictsView → Search → Bool
is_known verdicts s = half_is_known verdicts s.prefix && half_is_known verdicts s.message
