-- What the system's number of a failure says, where the next connection was asked for.
use Rattle.std.specs.Prelude.{ℕ, ℤ, Bool, ◌==◌, List, [], ◌∷◌, if◌then◌else◌, unsigned_abs}
use Rattle.std.specs.Prelude.{Option, Some, None}
use Rattle.std.specs.List.{list_any}
use Rattle.wc_edge.specs.declared.misses.Miss.{Miss}
use Rattle.wc_edge.specs.declared.misses.Miss.TheVariants.{Nobody, Gone, Want, Fault}

-- no memory is left, or no file, in the system or for the program: ENOMEM, ENFILE, EMFILE, ENOBUFS
abbrev pub wants : List ℕ
wants = 12 ∷ 23 ∷ 24 ∷ 105 ∷ []

-- the connection is cut off, forbidden or out of reach, or a signal came
abbrev pub losses : List ℕ
losses = 1 ∷ 4 ∷ 64 ∷ 71 ∷ 92 ∷ 95 ∷ 100 ∷ 101 ∷ 103 ∷ 104 ∷ 110 ∷ 112 ∷ 113 ∷ []

abbrev pub is_listed : List ℕ → ℕ → Bool
is_listed numbers number = list_any (λ listed. listed == number) numbers

-- what a number says
abbrev pub miss_of_number : ℕ → Miss
miss_of_number number = if number == 11 then Nobody else (if is_listed wants number then Want
    else (if is_listed losses number then Gone else Fault))

-- what a failure says; one that is not the system's is a fault
abbrev pub miss_of : Option ℤ → Miss
miss_of None = Fault
miss_of (Some code) = miss_of_number (unsigned_abs code)
