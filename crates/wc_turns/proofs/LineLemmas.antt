-- Laws of lines.
use Rattle.std.proofs.Common.{◌≡◌, ◌≢◌, ℕ, suc, zero, ◌<◌, ◌≤◌, false, eqb, List, [], ◌∷◌, ◌++◌, length, take, drop, get_or, refl, sym, ap, ◌∙◌, arith, append_assoc}
use Rattle.std.specs.List.{flat_map}
use Rattle.std.proofs.lemmas.List.{append-nil, get_or-take}
use Rattle.std.proofs.lemmas.Grind.{common_steps, flat_map-append}
use Rattle.std.proofs.lemmas.Bool.Decides.{nat_tests}
use Rattle.wc_turns.specs.Lines.{ended_lines, rest, HasNoLf}
use Rattle.wc_turns.specs.Events.{line_events, read_events}

pub rest-append : (line xs ys : List ℕ) → rest line (xs ++ ys) ≡ rest (rest line xs) ys
rest-append line [] ys = refl
rest-append line (x ∷ xs) ys = grind (arith, nat_tests, rest-append [] xs ys, rest-append (line ++ x ∷ []) xs ys)

pub ended-append : (line xs ys : List ℕ) → ended_lines line (xs ++ ys) ≡ ended_lines line xs ++ ended_lines (rest line xs) ys
ended-append line [] ys = refl
ended-append line (x ∷ xs) ys = grind (arith, nat_tests, common_steps, ended-append [] xs ys, ended-append (line ++ x ∷ []) xs ys)

pub read_events-append : (link : ℕ) (line xs ys : List ℕ) → read_events link line (xs ++ ys) ≡ read_events link line xs ++ read_events link (rest line xs) ys
read_events-append link line xs ys = ap (λ lines. flat_map (line_events link) lines) (ended-append line xs ys) ∙ flat_map-append (line_events link) (ended_lines line xs) (ended_lines (rest line xs) ys)

-- bytes without an LF stay in the line
pub rest-line : (line xs : List ℕ) → HasNoLf xs → rest line xs ≡ line ++ xs
rest-line line [] h = sym (append-nil line)
rest-line line (x ∷ xs) h =
    let n : x ≢ 10 = h 0 (omega arith) in
    let t : eqb x 10 ≡ false = grind (arith, nat_tests) in
    rw t (rest-line (line ++ x ∷ []) xs (λ k l. h (suc k) (omega arith)) ∙ append_assoc line (x ∷ []) xs)

pub ended-line : (line xs : List ℕ) → HasNoLf xs → ended_lines line xs ≡ []
ended-line line [] h = refl
ended-line line (x ∷ xs) h =
    let n : x ≢ 10 = h 0 (omega arith) in
    let t : eqb x 10 ≡ false = grind (arith, nat_tests) in
    rw t (ended-line (line ++ x ∷ []) xs (λ k l. h (suc k) (omega arith)))

-- bytes without an LF make no event
pub read_events-none : (link : ℕ) (line xs : List ℕ) → HasNoLf xs → read_events link line xs ≡ []
read_events-none link line xs h = ap (λ lines. flat_map (line_events link) lines) (ended-line line xs h)

-- and those of a line that an LF ends make that of the line
pub read_events-line : (link : ℕ) (line xs : List ℕ) → HasNoLf xs → read_events link line (xs ++ 10 ∷ []) ≡ line_events link (line ++ xs)
read_events-line link line xs h =
    read_events-append link line xs (10 ∷ []) ∙ rw (ended-line line xs h, rest-line line xs h) (append-nil (line_events link (line ++ xs)))

pub rest-ended : (line xs : List ℕ) → HasNoLf xs → rest line (xs ++ 10 ∷ []) ≡ []
rest-ended line xs h = rest-append line xs (10 ∷ [])

-- bytes are parted at an LF
pub parted-at : (bytes : List ℕ) (at : ℕ) → at < length bytes → get_or bytes at 0 ≡ 10 → bytes ≡ take at bytes ++ 10 ∷ drop 1 (drop at bytes)
parted-at [] at l e = absurd (omega arith)
parted-at (b ∷ bytes) zero l e = ap (λ x. x ∷ bytes) e
parted-at (b ∷ bytes) (suc at) l e = ap (λ xs. b ∷ xs) (parted-at bytes at (omega arith) e)

-- what is before the first LF has none
pub none-before : (bytes : List ℕ) (at : ℕ) → ((k : ℕ) → k < at → get_or bytes k 0 ≢ 10) → at ≤ length bytes → HasNoLf (take at bytes)
none-before bytes at h l = λ k below e. (let inside : k < at = grind (arith, common_steps) in h k inside (sym (get_or-take at bytes k 0 inside) ∙ e))
