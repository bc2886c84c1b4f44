-- What the first bytes of a client tell.
use Rattle.std.specs.Prelude.{ℕ, Bool, true, false, ◌==◌, ◌&&◌, not, List, [], ◌∷◌, if◌then◌else◌}
use Rattle.wc_framing.specs.declared.opening.Opening.{Opening}
use Rattle.wc_framing.specs.declared.opening.Opening.TheVariants.{Undecided, Plain, Socket}

-- a head of HTTP that may ask for a WebSocket begins with `GET `
abbrev pub mark : List ℕ
mark = 71 ∷ 69 ∷ 84 ∷ 32 ∷ []

-- whether the first list is a front of the second
abbrev pub is_front : List ℕ → List ℕ → Bool
is_front [] ys = true
is_front (x ∷ xs) [] = false
is_front (x ∷ xs) (y ∷ ys) = (x == y) && is_front xs ys

-- whether bytes begin a head that may ask for a WebSocket
abbrev pub begins : List ℕ → Bool
begins bytes = is_front mark bytes

-- whether bytes are too few to tell whether they do
abbrev pub may_open : List ℕ → Bool
may_open bytes = is_front bytes mark && not (begins bytes)

abbrev pub opening_of : List ℕ → Opening
opening_of bytes = if begins bytes then Socket else (if may_open bytes then Undecided else Plain)
