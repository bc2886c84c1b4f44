-- What the steps of a script give: to the listener, to each link, and to one wait.
use Rattle.std.specs.Prelude.{ℕ, ◌+◌, ◌-◌, ◌^◌, min, Bool, true, false, ◌==◌, ◌&&◌, if◌then◌else◌}
use Rattle.std.specs.Prelude.{List, [], ◌∷◌, ◌++◌, map, Option, Some, None}
use Rattle.std.specs.List.{list_any, position_or_len}
use Rattle.wc_scripted.specs.declared.scripted.Scripted.{Scripted}
use Rattle.wc_scripted.specs.declared.scripted.Scripted.TheVariants.{Wake, Arrive, Stands, Gives, Ends}

-- whether a wait comes back at a step
abbrev pub is_wake : Scripted → Bool
is_wake (Wake moment) = true
is_wake (Arrive nonce) = false
is_wake (Stands link) = false
is_wake (Gives link bytes) = false
is_wake (Ends link) = false

-- the nonce of the client that comes by a step, if one does
abbrev pub nonce_of : Scripted → Option (List ℕ)
nonce_of (Wake moment) = None
nonce_of (Arrive nonce) = Some nonce
nonce_of (Stands link) = None
nonce_of (Gives link bytes) = None
nonce_of (Ends link) = None

-- whether a client comes by it
abbrev pub is_arrival : Scripted → Bool
is_arrival (Wake moment) = false
is_arrival (Arrive nonce) = true
is_arrival (Stands link) = false
is_arrival (Gives link bytes) = false
is_arrival (Ends link) = false

-- what a step has for a link: bytes, and at None that its connection stands
abbrev pub due_of : ℕ → Scripted → List (Option ℕ)
due_of link (Wake moment) = []
due_of link (Arrive nonce) = []
due_of link (Stands other) = if other.0 == link then None ∷ [] else []
due_of link (Gives other bytes) = if other.0 == link then map Some bytes else []
due_of link (Ends other) = []

-- whether a link's bytes end by it
abbrev pub is_end : ℕ → Scripted → Bool
is_end link (Wake moment) = false
is_end link (Arrive nonce) = false
is_end link (Stands other) = false
is_end link (Gives other bytes) = false
is_end link (Ends other) = other.0 == link

abbrev pub has_bytes : List ℕ → Bool
has_bytes [] = false
has_bytes (byte ∷ bytes) = true

-- whether something is found of a link by it
abbrev pub is_for : ℕ → Scripted → Bool
is_for link (Wake moment) = false
is_for link (Arrive nonce) = false
is_for link (Stands other) = other.0 == link
is_for link (Gives other bytes) = (other.0 == link) && has_bytes bytes
is_for link (Ends other) = other.0 == link

-- the nonces of the clients that come by steps, in order
abbrev pub listed : Option (List ℕ) → List (List ℕ)
listed None = []
listed (Some nonce) = nonce ∷ []

abbrev pub nonces : List Scripted → List (List ℕ)
nonces [] = []
nonces (step ∷ steps) = listed (nonce_of step) ++ nonces steps

-- what steps have for a link, up to its end
abbrev pub due : ℕ → List Scripted → List (Option ℕ)
due link [] = []
due link (step ∷ steps) = if is_end link step then [] else due_of link step ++ due link steps

-- whether a link's bytes end by one of these steps
abbrev pub has_end : ℕ → List Scripted → Bool
has_end link steps = list_any (is_end link) steps

-- how many of the steps that are to come a wait releases: the first, and those up to the next wake
abbrev pub turn_size : List Scripted → ℕ
turn_size [] = 0
turn_size (step ∷ steps) = 1 + position_or_len is_wake steps

-- the moment at which a wait comes back that releases the first of these steps: that of a wake, or
-- 100 milliseconds after the last
abbrev pub next_moment : ℕ → List Scripted → ℕ
next_moment moment [] = min (moment + 100) (2 ^ 64 - 1)
next_moment moment (Wake next ∷ steps) = next
next_moment moment (Arrive nonce ∷ steps) = min (moment + 100) (2 ^ 64 - 1)
next_moment moment (Stands link ∷ steps) = min (moment + 100) (2 ^ 64 - 1)
next_moment moment (Gives link bytes ∷ steps) = min (moment + 100) (2 ^ 64 - 1)
next_moment moment (Ends link ∷ steps) = min (moment + 100) (2 ^ 64 - 1)
