-- What is held is what was pushed since the last clear, without the oldest that were dropped.
use Rattle.std.proofs.Common.{◌≡◌, ℕ, ◌+◌, ◌-◌, ◌≤◌, max, List, [], ◌∷◌, ◌++◌, length, drop, refl, sym, ap, ◌∙◌, arith}
use Rattle.std.proofs.lemmas.List.{length-append, length-drop, drop-append-le, drop-drop}
use Rattle.wc_lines.specs.declared.line.Line.{Line}
use Rattle.wc_lines.specs.Ring.{counted, last_of}
use Rattle.wc_lines.specs.History.{RingCall, pushes, clears, makes_room, limits, held_after, pushed_since, dropped_above, dropped_since, limit_from, room_from, pushes_from, HeldIsLast}

-- the last of those that are left are those that are left where more are dropped
last_left : (limit dropped n : ℕ) (lines : List Line) → n ≡ length lines → last_of limit (drop dropped lines) ≡ drop (dropped_above limit n dropped) lines
last_left limit dropped n lines e =
    let count : dropped + (length (drop dropped lines) - limit) ≡ dropped_above limit n dropped = omega (arith, length-drop dropped lines, e) in
    drop-drop (length (drop dropped lines) - limit) dropped lines ∙ ap (λ m. drop m lines) count

-- one line more
one_longer : (n : ℕ) (lines : List Line) (line : Line) → n ≡ length lines → n + 1 ≡ length (lines ++ line ∷ [])
one_longer n lines line e = omega (arith, length-append lines (line ∷ []), e)

line_left : (dropped n : ℕ) (lines : List Line) (line : Line) → n ≡ length lines → dropped ≤ n → drop dropped lines ++ line ∷ [] ≡ drop dropped (lines ++ line ∷ [])
line_left dropped n lines line e le = sym (drop-append-le dropped lines (line ∷ []) (omega (arith, e, le)))

-- no more are dropped than there are
within : (limit n dropped : ℕ) → dropped ≤ n → dropped_above limit n dropped ≤ n
within limit n dropped le = omega arith

held_from : (limit room count dropped n : ℕ) (held before : List Line) (acts : List RingCall) → n ≡ length before → dropped ≤ n → held ≡ drop dropped before
    → held_after (record { limit = limit; lines = held; pushed = count; room = room }) acts
    ≡ record { limit = limit_from limit acts; lines = drop (dropped_since limit n dropped acts) (pushed_since before acts); pushed = pushes_from count acts; room = room_from room acts }
held_from limit room count dropped n held before [] e le is = ap (λ lines. record { limit = limit; lines = lines; pushed = count; room = room }) is
held_from limit room count dropped n held before (pushes line ∷ acts) e le is =
    held_from limit room (counted count) (dropped_above limit (n + 1) dropped) (n + 1) (last_of limit (held ++ line ∷ [])) (before ++ line ∷ []) acts
    (one_longer n before line e)
    (within limit (n + 1) dropped (omega (arith, le)))
    (ap (λ lines. last_of limit (lines ++ line ∷ [])) is ∙ ap (last_of limit) (line_left dropped n before line e le) ∙ last_left limit dropped (n + 1) (before ++ line ∷ []) (one_longer n before line e))
held_from limit room count dropped n held before (clears ∷ acts) e le is = held_from limit room count 0 0 [] [] acts refl (omega arith) refl
held_from limit room count dropped n held before (makes_room more ∷ acts) e le is = held_from limit (max room more) count dropped n held before acts e le is
held_from limit room count dropped n held before (limits most ∷ acts) e le is =
    held_from most room count (dropped_above most n dropped) n (last_of most held) before acts e (within most n dropped le) (ap (last_of most) is ∙ last_left most dropped n before e)

pub held_is_last : HeldIsLast
held_is_last limit acts = held_from limit limit 0 0 0 [] [] acts refl (omega arith) refl
