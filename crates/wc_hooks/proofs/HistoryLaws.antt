-- What one open pass gives over any sequence of calls.
use Rattle.std.proofs.Common.{◌≡◌, ◌≢◌, ℕ, ◌+◌, ◌<◌, Bool, true, false, not, Option, Some, None, List, [], ◌∷◌, ◌++◌, length, map, arith, refl, sym, ap, ◌∙◌, length-set, append_assoc}
use Rattle.std.specs.Prelude.{filter, find, option_to_list, ◌==◌}
use Rattle.std.specs.List.{list_all}
use Rattle.std.proofs.lemmas.Bool.{and_parts, false≢true}
use Rattle.std.proofs.lemmas.Bool.Decides.{nat_tests}
use Rattle.std.proofs.lemmas.List.{get_or-set_same, get_or-set_other, map-append}
use Rattle.std.proofs.lemmas.List.Elements.{filter-append}
use Rattle.wc_hooks.specs.declared.entry.Entry.{Entry}
use Rattle.wc_hooks.specs.Passes.{following, may_run, entries_left, with_given}
use Rattle.wc_hooks.specs.Table.{Table, Going, IsOpen, left_at, left_of, looked_at, over_at, next_of, with_pass, with_marks}
use Rattle.wc_hooks.specs.History.{TableCall, hooks, unhooks, switches, opens, gives, ends, closes, after, after_all, leaves, front, turn, turns, gift, IsWalk}
use Rattle.wc_hooks.proofs.Lists.{by_bool, keeps_first, drops_first, open_inside}

find_on : (p : Entry → Bool) (e : Entry) (es : List Entry) → p e ≡ false → find p (e ∷ es) ≡ find p es
find_on p e es f = rw f refl

find_here : (p : Entry → Bool) (e : Entry) (es : List Entry) → p e ≡ true → find p (e ∷ es) ≡ Some e
find_here p e es t = rw t refl

after_on : (p : Entry → Bool) (e : Entry) (es : List Entry) → p e ≡ false → following p (e ∷ es) ≡ following p es
after_on p e es f = rw f refl

after_here : (p : Entry → Bool) (e : Entry) (es : List Entry) → p e ≡ true → following p (e ∷ es) ≡ es
after_here p e es t = rw t refl

front_here : (p : Entry → Bool) (e : Entry) (es : List Entry) → p e ≡ true → front p (e ∷ es) ≡ e ∷ []
front_here p e es t = rw t refl

front_on : (p : Entry → Bool) (e : Entry) (es : List Entry) → p e ≡ false → front p (e ∷ es) ≡ e ∷ front p es
front_on p e es t = rw t refl

abbrev pub flagged : (Entry → Bool) → List Entry → List (Entry × Bool)
flagged p es = map (λ e. (e, p e)) es

names : (p : Entry → Bool) (es : List Entry) → map (λ seen. seen.0) (flagged p es) ≡ es
names p [] = refl
names p (e ∷ es) = ap (λ l. e ∷ l) (names p es)

front-following : (p : Entry → Bool) (es : List Entry) → front p es ++ following p es ≡ es
front-following p [] = refl
front-following p (e ∷ es) = by_bool (p e)
    (λ t. (λ i. front_here p e es t i ++ after_here p e es t i))
    (λ t. (λ i. front_on p e es t i ++ after_on p e es t i) ∙ ap (λ l. e ∷ l) (front-following p es))

abbrev passing : (p : Entry → Bool) (es : List Entry) → List Entry
passing p es = map (λ seen. seen.0) (filter (λ seen. seen.1) (flagged p es))

passing_here : (p : Entry → Bool) (e : Entry) (es : List Entry) → p e ≡ true → passing p (e ∷ es) ≡ e ∷ passing p es
passing_here p e es t = ap (map (λ seen. seen.0)) (keeps_first (λ (seen : Entry × Bool). seen.1) (e, p e) (flagged p es) t)

passing_on : (p : Entry → Bool) (e : Entry) (es : List Entry) → p e ≡ false → passing p (e ∷ es) ≡ passing p es
passing_on p e es t = ap (map (λ seen. seen.0)) (drops_first (λ (seen : Entry × Bool). seen.1) (e, p e) (flagged p es) t)

-- of those in front the last alone passes, and is the one that is found
passing-front : (p : Entry → Bool) (es : List Entry) → passing p (front p es) ≡ option_to_list (find p es)
passing-front p [] = refl
passing-front p (e ∷ es) = by_bool (p e)
    (λ t. ap (passing p) (front_here p e es t) ∙ passing_here p e [] t ∙ ap option_to_list (sym (find_here p e es t)))
    (λ t. ap (passing p) (front_on p e es t) ∙ passing_on p e (front p es) t ∙ passing-front p es ∙ ap option_to_list (sym (find_on p e es t)))

-- what is left at a place, after something was put at a place
left_put : (t : Table) (place : ℕ) (pass : Going) → place < length t.passes → left_at (with_pass place (Some pass) t) place ≡ pass.left
left_put t place pass inside = ap left_of (get_or-set_same t.passes place (Some pass) None inside)

left_elsewhere : (t : Table) (other place : ℕ) (pass : Option Going) → (other == place) ≡ false → left_at (with_pass other pass t) place ≡ left_at t place
left_elsewhere t other place pass differ = let no : place ≢ other = grind (arith, nat_tests) in ap left_of (get_or-set_other t.passes other place pass None no)

-- one call
turn_here : (t : Table) (other place steps : ℕ) → (other == place) ≡ true → turn place (gives other steps) t ≡ flagged (may_run t.rows t.marks) (front (may_run t.rows t.marks) (left_at t place))
turn_here t other place steps same = rw same refl

turn_elsewhere : (t : Table) (other place steps : ℕ) → (other == place) ≡ false → turn place (gives other steps) t ≡ []
turn_elsewhere t other place steps differ = rw differ refl

gift_here : (t : Table) (other place steps : ℕ) → (other == place) ≡ true → gift place (gives other steps) t ≡ option_to_list (next_of t place)
gift_here t other place steps same = rw same refl

gift_elsewhere : (t : Table) (other place steps : ℕ) → (other == place) ≡ false → gift place (gives other steps) t ≡ []
gift_elsewhere t other place steps differ = rw differ refl

left_after : (t : Table) (other place steps : ℕ) → other ≡ place → place < length t.passes → left_at (after (gives other steps) t) place ≡ entries_left t.rows t.marks (left_at t place)
left_after t other place steps same inside =
    ap (λ o. left_at (after (gives o steps) t) place) same
    ∙ left_put (with_marks (with_given (next_of t place) t.marks) t) place (record { left = entries_left t.rows t.marks (left_at t place); looked = looked_at t place + steps; over = over_at t place }) inside

other_place : (other place : ℕ) → not (other == place) ≡ true → (other == place) ≡ false
other_place other place quiet = by_bool (other == place) (λ same. absurd (false≢true (sym (ap not same) ∙ quiet))) (λ differ. differ)

turn_order : (act : TableCall) (t : Table) (place : ℕ) → place < length t.passes → leaves place act ≡ true → map (λ seen. seen.0) (turn place act t) ++ left_at (after act t) place ≡ left_at t place
turn_order (hooks row) t place inside quiet = refl
turn_order (unhooks id) t place inside quiet = refl
turn_order (switches id on) t place inside quiet = refl
turn_order (opens other kind key) t place inside quiet = left_elsewhere t other place _ (other_place other place quiet)
turn_order (gives other steps) t place inside quiet =
    let p = may_run t.rows t.marks in
    by_bool (other == place)
    (λ here. let same : other ≡ place = grind (arith, nat_tests) in
    (λ i. map (λ seen. seen.0) (turn_here t other place steps here i) ++ left_after t other place steps same inside i)
    ∙ ap (λ l. l ++ entries_left t.rows t.marks (left_at t place)) (names p (front p (left_at t place)))
    ∙ front-following p (left_at t place))
    (λ differ. ap (λ l. map (λ seen. seen.0) l ++ left_at (after (gives other steps) t) place) (turn_elsewhere t other place steps differ)
    ∙ left_elsewhere (with_marks (with_given (next_of t other) t.marks) t) other place _ differ)
turn_order (ends id) t place inside quiet = refl
turn_order (closes other) t place inside quiet = left_elsewhere t other place None (other_place other place quiet)

turn_given : (act : TableCall) (t : Table) (place : ℕ) → map (λ seen. seen.0) (filter (λ seen. seen.1) (turn place act t)) ≡ gift place act t
turn_given (hooks row) t place = refl
turn_given (unhooks id) t place = refl
turn_given (switches id on) t place = refl
turn_given (opens other kind key) t place = refl
turn_given (gives other steps) t place =
    by_bool (other == place)
    (λ here. ap (λ l. map (λ seen. seen.0) (filter (λ seen. seen.1) l)) (turn_here t other place steps here) ∙ passing-front (may_run t.rows t.marks) (left_at t place) ∙ sym (gift_here t other place steps here))
    (λ differ. ap (λ l. map (λ seen. seen.0) (filter (λ seen. seen.1) l)) (turn_elsewhere t other place steps differ) ∙ sym (gift_elsewhere t other place steps differ))
turn_given (ends id) t place = refl
turn_given (closes other) t place = refl

pub places_after : (act : TableCall) (t : Table) → length (after act t).passes ≡ length t.passes
places_after (hooks row) t = refl
places_after (unhooks id) t = refl
places_after (switches id on) t = refl
places_after (opens other kind key) t = length-set t.passes other _
places_after (gives other steps) t = length-set t.passes other _
places_after (ends id) t = refl
places_after (closes other) t = length-set t.passes other _

walk : (acts : List TableCall) (t : Table) (place : ℕ) → place < length t.passes → list_all (leaves place) acts ≡ true → IsWalk place acts t
walk [] t place inside quiet = record { order = refl; given = refl }
walk (act ∷ acts) t place inside quiet =
    let parts = and_parts (leaves place act) (list_all (leaves place) acts) quiet in
    let n = places_after act t in
    let rest : IsWalk place acts (after act t) = walk acts (after act t) place (omega (arith, inside, n)) parts.1 in
    record {
      order = ap (λ l. l ++ left_at (after_all acts (after act t)) place) (map-append (λ seen. seen.0) (turn place act t) (turns place acts (after act t)))
          ∙ append_assoc (map (λ seen. seen.0) (turn place act t)) (map (λ seen. seen.0) (turns place acts (after act t))) (left_at (after_all acts (after act t)) place)
          ∙ ap (λ l. map (λ seen. seen.0) (turn place act t) ++ l) rest.order
          ∙ turn_order act t place inside parts.0;
      given = ap (map (λ seen. seen.0)) (filter-append (λ seen. seen.1) (turn place act t) (turns place acts (after act t)))
          ∙ map-append (λ seen. seen.0) (filter (λ seen. seen.1) (turn place act t)) (filter (λ seen. seen.1) (turns place acts (after act t)))
          ∙ (λ i. turn_given act t place i ++ rest.given i);
    }

pub walks : (t : Table) (place : ℕ) (acts : List TableCall) → IsOpen t place → list_all (leaves place) acts ≡ true → IsWalk place acts t
walks t place acts held quiet = walk acts t place (open_inside t.passes place held) quiet
