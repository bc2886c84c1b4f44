-- The parameters of a message.
use Rattle.std.specs.Prelude.{◌≡◌, ◌≢◌, ℕ, zero, suc, ◌⊎◌, List, [], ◌∷◌}
use Rattle.std.specs.Prelude.{if◌then◌else◌, ◌==◌}
use Rattle.wc_text.specs.Splits.{WordAndRest, word_of, rest_of}

-- A parameter that no `:` marks is a word; where no more may come it is all that is left.
abbrev pub Unmarked : ℕ → List ℕ → List ℕ → List ℕ → Type 0
Unmarked zero text param rest = (param ≡ text) × (rest ≡ [])
Unmarked (suc more) text param rest = WordAndRest text param rest

-- The parameter at the front of a text, and what is left after it, where so many more may come: a
-- `:` marks all that is left.
abbrev pub FirstParam : ℕ → List ℕ → List ℕ → List ℕ → Type 0
FirstParam more [] param rest = ⊥
FirstParam more (b ∷ text) param rest = ((b ≡ 58) × (param ≡ text) × (rest ≡ []))
    ⊎ ((b ≢ 58) × Unmarked more (b ∷ text) param rest)

-- The parameters that a text spells, where at most so many may come.
unfoldable pub SpellsParams : ℕ → List ℕ → List (List ℕ) → Type 0
SpellsParams places text [] = text ≡ []
SpellsParams zero text (param ∷ params) = ⊥
SpellsParams (suc more) text (param ∷ params) = (rest : List ℕ) × FirstParam more text param rest
    × SpellsParams more rest params

-- ---- the same, computed
abbrev pub first_of : ℕ → List ℕ → List ℕ
first_of more [] = []
first_of more (b ∷ text) = if b == 58 then text
    else (if more == 0 then b ∷ text else word_of (b ∷ text))

-- what is left after the first
abbrev pub after_first : ℕ → List ℕ → List ℕ
after_first more [] = []
after_first more (b ∷ text) = if b == 58 then [] else (if more == 0 then [] else rest_of (b ∷ text))

-- the parameters of a text, at most so many
unfoldable pub params_of : ℕ → List ℕ → List (List ℕ)
params_of zero text = []
params_of (suc more) [] = []
params_of (suc more) (b ∷ text) = first_of more (b ∷ text) ∷ params_of more
    (after_first more (b ∷ text))
