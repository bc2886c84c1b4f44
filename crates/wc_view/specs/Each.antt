-- Lists of what may be missing.
use Rattle.std.specs.Prelude.{Bool, true, false, List, [], ◌∷◌, ◌++◌, Option, Some, None}
use Rattle.std.specs.Option.{option_map}

abbrev pub onto : {B : Type 0} → Option B → Option (List B) → Option (List B)
onto (Some y) (Some ys) = Some (y ∷ ys)
onto _ _ = None

-- what each of a list gives, or None where some gives None
abbrev pub each : {A B : Type 0} → (A → Option B) → List A → Option (List B)
each f [] = Some []
each f (x ∷ xs) = onto (f x) (each f xs)

-- the first of a list that has no other
abbrev pub only : {A : Type 0} → List A → Option A
only (x ∷ []) = Some x
only _ = None

-- a list after another, where it is there
abbrev pub following : {A : Type 0} → List A → Option (List A) → Option (List A)
following front rest = option_map (λ xs. front ++ xs) rest

-- a value, where it is there
abbrev pub some_if : {A : Type 0} → Bool → A → Option A
some_if true x = Some x
some_if false x = None
