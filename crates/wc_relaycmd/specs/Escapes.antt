-- The escapes of arguments.
use Rattle.std.specs.Prelude.{ℕ, ◌&&◌, List, [], ◌∷◌, if◌then◌else◌, ◌==◌, Bool, true, false}

-- `\\` is read as `\`, and `\n` as a line feed; each other `\` stays
abbrev pub without_escapes : List ℕ → List ℕ
without_escapes [] = []
without_escapes (b ∷ []) = b ∷ []
without_escapes (b ∷ c ∷ text) =
    if b == 92 && c == 92 then 92 ∷ without_escapes text else (
    if b == 92 && c == 110 then 10 ∷ without_escapes text else b ∷ without_escapes (c ∷ text))

-- the arguments as a client means them
abbrev pub arguments_meant : Bool → List ℕ → List ℕ
arguments_meant true text = without_escapes text
arguments_meant false text = text
