-- Which names are the same.
use Rattle.std.specs.Prelude.{◌≡◌, ℕ, List, [], ◌∷◌, map, if◌then◌else◌, ◌==◌}
use Rattle.std.specs.Char.{to_ascii_lowercase}
use Rattle.wc_ircmsg.specs.declared.case_map.CaseMap.{CaseMap}
use Rattle.wc_ircmsg.specs.declared.case_map.CaseMap.TheVariants.{Ascii, Rfc1459, StrictRfc1459}

-- the signs that a map folds beside the letters, each with the sign that it counts as: `[`, `\`,
-- `]` and `~`
abbrev pub folded_signs : CaseMap → List (ℕ × ℕ)
folded_signs Ascii = []
folded_signs StrictRfc1459 = (91, 123) ∷ (92, 124) ∷ (93, 125) ∷ []
folded_signs Rfc1459 = (126, 94) ∷ (91, 123) ∷ (92, 124) ∷ (93, 125) ∷ []

-- the second of the pair whose first is b, and else the letter in lower case
abbrev pub fold_by : List (ℕ × ℕ) → ℕ → ℕ
fold_by [] b = to_ascii_lowercase b
fold_by (sign ∷ signs) b = if b == sign.0 then sign.1 else fold_by signs b

abbrev pub folded_name : CaseMap → List ℕ → List ℕ
folded_name case_map name = map (fold_by (folded_signs case_map)) name

-- names are the same where they differ in case alone
abbrev pub IsSameName : CaseMap → List ℕ → List ℕ → Type 0
IsSameName case_map a b = folded_name case_map a ≡ folded_name case_map b
