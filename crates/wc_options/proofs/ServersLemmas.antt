-- Servers by their names.
use Rattle.std.proofs.Common.{ℕ, zero, suc, ◌≡◌, ◌≢◌, ◌+◌, ◌<◌, ◌≤◌, Bool, true, false, cond, ltb, not, List, [], ◌∷◌, ◌++◌, length, map, get_or, set, Option, Some, None, refl, ap, sym, ◌∙◌, subst, arith}
use Rattle.std.specs.Prelude.{bytes_eq, find, position, is_some}
use Rattle.std.specs.List.{prefix_len, position_or_len, remove}
use Rattle.std.proofs.lemmas.Bool.Decides.{nat_tests}
use Rattle.std.proofs.lemmas.List.Quantifiers.{position-Some}
use Rattle.std.proofs.lemmas.Slice.Eq.{bytes_eq-Decides}
use Rattle.wc_options.specs.Options.{ServerOptions, is_named, put_own, reset_own, without, with_own, has_server, fresh_server, own_at_first}
use Rattle.wc_options.specs.Table.{of_server, row_at}

-- the server with the name is at a place, and no earlier one has the name
pub record IsAt (name : List ℕ) (servers : List ServerOptions) (place : ℕ) (d : ServerOptions) : Type 0 where
  pub below : place < length servers
  pub here : is_named name (get_or servers place d) ≡ true
  pub before : (k : ℕ) → k < place → is_named name (get_or servers k d) ≡ false

pub IsAt-position : (name : List ℕ) (servers : List ServerOptions) (place : ℕ) (d : ServerOptions) → position (is_named name) servers ≡ Some place → IsAt name servers place d
IsAt-position name servers place d e =
    let found = position-Some (is_named name) servers place d e in
    record { below = found.0; here = found.1; before = found.2 }

IsAt-tail : (name : List ℕ) (server : ServerOptions) (servers : List ServerOptions) (place : ℕ) (d : ServerOptions) → IsAt name (server ∷ servers) (suc place) d → IsAt name servers place d
IsAt-tail name server servers place d at = record {
  below = omega (arith, at.below);
  here = at.here;
  before = λ k h. at.before (suc k) (omega arith);
}

-- what each edit by name is at the server's place
pub find_at : (name : List ℕ) (servers : List ServerOptions) (place : ℕ) (d : ServerOptions) → IsAt name servers place d → find (is_named name) servers ≡ Some (get_or servers place d)
find_at name [] place d at = absurd (omega (arith, at.below))
find_at name (server ∷ servers) zero d at = rw at.here
find_at name (server ∷ servers) (suc place) d at = rw (at.before 0 (omega arith)) (find_at name servers place d (IsAt-tail name server servers place d at))

pub put_own_at : (name : List ℕ) (option : ℕ) (value : List ℕ) (servers : List ServerOptions) (place : ℕ) (d : ServerOptions) → IsAt name servers place d
    → put_own name option value servers ≡ set servers place (with_own option (Some value) (get_or servers place d))
put_own_at name option value [] place d at = absurd (omega (arith, at.below))
put_own_at name option value (server ∷ servers) zero d at = rw at.here
put_own_at name option value (server ∷ servers) (suc place) d at =
    rw (at.before 0 (omega arith)) (ap (λ others. server ∷ others) (put_own_at name option value servers place d (IsAt-tail name server servers place d at)))

pub reset_own_at : (name : List ℕ) (option : ℕ) (servers : List ServerOptions) (place : ℕ) (d : ServerOptions) → IsAt name servers place d
    → reset_own name option servers ≡ set servers place (with_own option (own_at_first (row_at of_server option)) (get_or servers place d))
reset_own_at name option [] place d at = absurd (omega (arith, at.below))
reset_own_at name option (server ∷ servers) zero d at = rw at.here
reset_own_at name option (server ∷ servers) (suc place) d at =
    rw (at.before 0 (omega arith)) (ap (λ others. server ∷ others) (reset_own_at name option servers place d (IsAt-tail name server servers place d at)))

pub without_at : (name : List ℕ) (servers : List ServerOptions) (place : ℕ) (d : ServerOptions) → IsAt name servers place d → without name servers ≡ remove servers place
without_at name [] place d at = absurd (omega (arith, at.below))
without_at name (server ∷ servers) zero d at = rw at.here
without_at name (server ∷ servers) (suc place) d at =
    rw (at.before 0 (omega arith)) (ap (λ others. server ∷ others) (without_at name servers place d (IsAt-tail name server servers place d at)))

-- ---- where no server has the name

position-miss : {X : Type 0} (p : X → Bool) (x : X) (xs : List X) → p x ≡ false → position p (x ∷ xs) ≡ None → position p xs ≡ None
position-miss p x xs e h = let h' = rw e at h in grind (arith, nat_tests)

position-hit : {X : Type 0} (p : X → Bool) (x : X) (xs : List X) → p x ≡ true → position p (x ∷ xs) ≡ Some 0
position-hit p x xs e = rw e (grind (arith, nat_tests))

find_none-by : (name : List ℕ) (server : ServerOptions) (servers : List ServerOptions) (b : Bool) → is_named name server ≡ b → position (is_named name) (server ∷ servers) ≡ None
    → (position (is_named name) servers ≡ None → find (is_named name) servers ≡ None) → find (is_named name) (server ∷ servers) ≡ None
find_none-by name server servers true e h more = let hit = position-hit (is_named name) server servers e in cc
find_none-by name server servers false e h more = rw e (more (position-miss (is_named name) server servers e h))

pub find_none : (name : List ℕ) (servers : List ServerOptions) → position (is_named name) servers ≡ None → find (is_named name) servers ≡ None
find_none name [] h = refl
find_none name (server ∷ servers) h = find_none-by name server servers (is_named name server) refl h (find_none name servers)

find_none-miss : (name : List ℕ) (server : ServerOptions) (servers : List ServerOptions) → is_named name server ≡ false → find (is_named name) (server ∷ servers) ≡ None → find (is_named name) servers ≡ None
find_none-miss name server servers e h = rw e at h

find_none-hit : (name : List ℕ) (server : ServerOptions) (servers : List ServerOptions) → is_named name server ≡ true → find (is_named name) (server ∷ servers) ≡ None → ⊥
find_none-hit name server servers e h = let h' = rw e at h in cc

put_own_none-by : (name : List ℕ) (option : ℕ) (value : List ℕ) (server : ServerOptions) (servers : List ServerOptions) (b : Bool) → is_named name server ≡ b → find (is_named name) (server ∷ servers) ≡ None
    → (find (is_named name) servers ≡ None → put_own name option value servers ≡ servers ++ with_own option (Some value) (fresh_server name) ∷ [])
    → put_own name option value (server ∷ servers) ≡ server ∷ servers ++ with_own option (Some value) (fresh_server name) ∷ []
put_own_none-by name option value server servers true e h more = absurd (find_none-hit name server servers e h)
put_own_none-by name option value server servers false e h more = rw e (ap (λ others. server ∷ others) (more (find_none-miss name server servers e h)))

reset_own_none-by : (name : List ℕ) (option : ℕ) (server : ServerOptions) (servers : List ServerOptions) (b : Bool) → is_named name server ≡ b → find (is_named name) (server ∷ servers) ≡ None
    → (find (is_named name) servers ≡ None → reset_own name option servers ≡ servers)
    → reset_own name option (server ∷ servers) ≡ server ∷ servers
reset_own_none-by name option server servers true e h more = absurd (find_none-hit name server servers e h)
reset_own_none-by name option server servers false e h more = rw e (ap (λ others. server ∷ others) (more (find_none-miss name server servers e h)))

pub put_own_none : (name : List ℕ) (option : ℕ) (value : List ℕ) (servers : List ServerOptions) → find (is_named name) servers ≡ None
    → put_own name option value servers ≡ servers ++ with_own option (Some value) (fresh_server name) ∷ []
put_own_none name option value [] h = refl
put_own_none name option value (server ∷ servers) h = put_own_none-by name option value server servers (is_named name server) refl h (put_own_none name option value servers)

pub reset_own_none : (name : List ℕ) (option : ℕ) (servers : List ServerOptions) → find (is_named name) servers ≡ None → reset_own name option servers ≡ servers
reset_own_none name option [] h = refl
reset_own_none name option (server ∷ servers) h = reset_own_none-by name option server servers (is_named name server) refl h (reset_own_none name option servers)

without_none-by : (name : List ℕ) (server : ServerOptions) (servers : List ServerOptions) (b : Bool) → is_named name server ≡ b → find (is_named name) (server ∷ servers) ≡ None
    → (find (is_named name) servers ≡ None → without name servers ≡ servers)
    → without name (server ∷ servers) ≡ server ∷ servers
without_none-by name server servers true e h more = absurd (find_none-hit name server servers e h)
without_none-by name server servers false e h more = rw e (ap (λ others. server ∷ others) (more (find_none-miss name server servers e h)))

pub without_none : (name : List ℕ) (servers : List ServerOptions) → find (is_named name) servers ≡ None → without name servers ≡ servers
without_none name [] h = refl
without_none name (server ∷ servers) h = without_none-by name server servers (is_named name server) refl h (without_none name servers)
