-- A walk that goes first into depth, one place after another.
use Rattle.std.proofs.Common.{◌≡◌, ℕ, suc, ◌+◌, ◌*◌, ◌<◌, ◌≤◌, List, [], ◌∷◌, ◌++◌, map, take, drop, set, get_or, length, arith, refl, sym, ap, subst, ◌∙◌, append_assoc, append-nil, length-append, length-set, drop-cons}
use Rattle.std.specs.List.{AllByRecursion, flat_map}
use Rattle.std.proofs.lemmas.List.{drop_all, length-map, map-append, take_all, take-take, take-set, take_more_set}
use Rattle.std.proofs.lemmas.List.Concat.{flat_map-append}
use Rattle.wc_buffers.specs.Calls.{EntryGroups}
use Rattle.wc_model.specs.World.{World}
use Rattle.wc_hdata.specs.declared.path.Step.{Step}
use Rattle.wc_hdata.specs.Depth.{IsCount, IsWalk, further, further_left, nodes_left, turns, turns_left}
use Rattle.wc_hdata.specs.Kept.{Listed, AreKept, IsKept}
use Rattle.wc_hdata.specs.Reached.{Place}
use Rattle.wc_hdata.specs.Steps.{reach}
use Rattle.wc_hdata.specs.Walk.{Node, node_at, nodes_at, nodes_reached, onward, onward_all, pointer_of, visits}
use Rattle.wc_hdata.proofs.Everywhere.{all_append, all_front, all_back}

-- ---- what is reached of several is what is reached of each

reached_append : (world : World) (steps : List Step) (a b : List Node) → nodes_reached world steps (a ++ b) ≡ nodes_reached world steps a ++ nodes_reached world steps b
reached_append world [] a b = refl
reached_append world (step ∷ steps) a b = ap (nodes_reached world steps) (flat_map-append (onward world step) a b) ∙ reached_append world steps (onward_all world step a) (onward_all world step b)

reached_none : (world : World) (steps : List Step) → nodes_reached world steps [] ≡ []
reached_none world [] = refl
reached_none world (step ∷ steps) = reached_none world steps

turns_append : (world : World) (steps : List Step) (a b : List Place) → turns world steps (a ++ b) ≡ turns world steps a + turns world steps b
turns_append world [] a b = length-append a b
turns_append world (step ∷ steps) a b =
    let parts : turns world steps (flat_map (reach world step) (a ++ b)) ≡ turns world steps (flat_map (reach world step) a) + turns world steps (flat_map (reach world step) b) =
    ap (turns world steps) (flat_map-append (reach world step) a b) ∙ turns_append world steps (flat_map (reach world step) a) (flat_map (reach world step) b) in
    omega (arith, parts, length-append a b)

further_append : (world : World) (steps : List Step) (a b : List Place) → further world steps (a ++ b) ≡ further world steps a + further world steps b
further_append world [] a b = refl
further_append world (step ∷ steps) a b =
    let fa = flat_map (reach world step) a in
    let fb = flat_map (reach world step) b in
    let same : flat_map (reach world step) (a ++ b) ≡ fa ++ fb = flat_map-append (reach world step) a b in
    let parts : further world steps (flat_map (reach world step) (a ++ b)) ≡ further world steps fa + further world steps fb = ap (further world steps) same ∙ further_append world steps fa fb in
    let sizes : length (flat_map (reach world step) (a ++ b)) ≡ length fa + length fb = ap length same ∙ length-append fa fb in
    omega (arith, parts, sizes)

-- ---- visits, counted by places

places_at : (groups : EntryGroups) (pointers : List ℕ) (places : List Place) → map (λ (node : Node). node.place) (nodes_at groups pointers places) ≡ places
places_at groups pointers [] = refl
places_at groups pointers (place ∷ places) = ap (λ l. place ∷ l) (places_at groups pointers places)

places_onward : (world : World) (step : Step) (nodes : List Node) → map (λ (node : Node). node.place) (onward_all world step nodes) ≡ flat_map (reach world step) (map (λ (node : Node). node.place) nodes)
places_onward world step [] = refl
places_onward world step (node ∷ nodes) =
    map-append (λ (node : Node). node.place) (onward world step node) (onward_all world step nodes)
    ∙ (λ i. places_at world.groups node.pointers (reach world step node.place) i ++ places_onward world step nodes i)

visits_of : (world : World) (steps : List Step) (nodes : List Node) → visits world steps nodes ≡ length nodes + further world steps (map (λ (node : Node). node.place) nodes)
visits_of world [] nodes = omega arith
visits_of world (step ∷ steps) nodes =
    let later = visits_of world steps (onward_all world step nodes) in
    let same = places_onward world step nodes in
    let places = flat_map (reach world step) (map (λ (node : Node). node.place) nodes) in
    let sizes : length (onward_all world step nodes) ≡ length places = sym (length-map (onward_all world step nodes) (λ (node : Node). node.place)) ∙ ap length same in
    let rest : further world steps (map (λ (node : Node). node.place) (onward_all world step nodes)) ≡ further world steps places = ap (further world steps) same in
    omega (arith, later, sizes, rest)

pub visits_at : (world : World) (steps : List Step) (places : List Place) → visits world steps (nodes_at world.groups [] places) ≡ length places + further world steps places
visits_at world steps places =
    let all = visits_of world steps (nodes_at world.groups [] places) in
    let same : further world steps (map (λ (node : Node). node.place) (nodes_at world.groups [] places)) ≡ further world steps places = ap (further world steps) (places_at world.groups [] places) in
    let sizes : length (nodes_at world.groups [] places) ≡ length places = length-map places (node_at world.groups []) in
    omega (arith, all, same, sizes)

-- ---- the last element on the way

abbrev at_level : World → List Step → List ℕ → ℕ → List Place → List Node
at_level world steps pointers level places = nodes_reached world (drop level steps) (nodes_at world.groups (take level pointers) places)

nodes_last : (world : World) (steps : List Step) (pointers : List ℕ) (level d : ℕ) (open_ : List (List Place)) (places : List Place) → d ≡ level + length open_
    → nodes_left world steps pointers level (open_ ++ places ∷ []) ≡ at_level world steps pointers d places ++ nodes_left world steps pointers level open_
nodes_last world steps pointers level d [] places e =
    let same : level ≡ d = omega (arith, e) in
    ap (λ k. at_level world steps pointers k places) same ∙ sym (append-nil (at_level world steps pointers d places))
nodes_last world steps pointers level d (first ∷ others) places e =
    let on : d ≡ suc level + length others = omega (arith, e) in
    ap (λ l. l ++ at_level world steps pointers level first) (nodes_last world steps pointers (suc level) d others places on)
    ∙ append_assoc (at_level world steps pointers d places) (nodes_left world steps pointers (suc level) others) (at_level world steps pointers level first)

turns_last : (world : World) (steps : List Step) (level d : ℕ) (open_ : List (List Place)) (places : List Place) → d ≡ level + length open_
    → turns_left world steps level (open_ ++ places ∷ []) ≡ turns_left world steps level open_ + (1 + turns world (drop d steps) places)
turns_last world steps level d [] places e = let same : level ≡ d = omega (arith, e) in ap (λ k. 0 + (1 + turns world (drop k steps) places)) same
turns_last world steps level d (first ∷ others) places e =
    let on = turns_last world steps (suc level) d others places (omega (arith, e)) in
    omega (arith, on)

further_last : (world : World) (steps : List Step) (level d : ℕ) (open_ : List (List Place)) (places : List Place) → d ≡ level + length open_
    → further_left world steps level (open_ ++ places ∷ []) ≡ further_left world steps level open_ + further world (drop d steps) places
further_last world steps level d [] places e = let same : level ≡ d = omega (arith, e) in ap (λ k. 0 + further world (drop k steps) places) same
further_last world steps level d (first ∷ others) places e =
    let on = further_last world steps (suc level) d others places (omega (arith, e)) in
    omega (arith, on)

fronts : (old new : List ℕ) (k d : ℕ) → k ≤ d → take d old ≡ take d new → take k old ≡ take k new
fronts old new k d le same = sym (take-take k d old le) ∙ ap (take k) same ∙ take-take k d new le

-- the elements before it keep their pointers
nodes_same : (world : World) (steps : List Step) (old new : List ℕ) (level d : ℕ) (open_ : List (List Place)) → level + length open_ ≤ d + 1 → take d old ≡ take d new
    → nodes_left world steps old level open_ ≡ nodes_left world steps new level open_
nodes_same world steps old new level d [] le same = refl
nodes_same world steps old new level d (first ∷ others) le same =
    let front : take level old ≡ take level new = fronts old new level d (omega (arith, le)) same in
    let on = nodes_same world steps old new (suc level) d others (omega (arith, le)) same in
    (λ i. on i ++ nodes_reached world (drop level steps) (nodes_at world.groups (front i) first))

-- ---- one turn of a walk

pub walk_back : (world : World) (steps : List Step) (pointers : List ℕ) (before : List (List Place)) (top : List Place) → top ≡ []
    → nodes_left world steps pointers 0 (before ++ top ∷ []) ≡ nodes_left world steps pointers 0 before
walk_back world steps pointers before top none =
    nodes_last world steps pointers 0 (length before) before top (omega arith)
    ∙ ap (λ l. l ++ nodes_left world steps pointers 0 before) (ap (at_level world steps pointers (length before)) none ∙ reached_none world (drop (length before) steps))

pub turns_back : (world : World) (steps : List Step) (before : List (List Place)) (top : List Place) → turns_left world steps 0 before < turns_left world steps 0 (before ++ top ∷ [])
turns_back world steps before top = let all = turns_last world steps 0 (length before) before top (omega arith) in omega (arith, all)

module _ (world : World) (steps : List Step) (old new : List ℕ) (before : List (List Place)) (top rest : List Place) (place : Place) (d : ℕ)
    (is : top ≡ place ∷ rest) (deep : d ≡ length before) (all : length old ≡ length steps + 1) (put : new ≡ set old d (pointer_of world.groups place)) where
  abbrev p : ℕ
  p = pointer_of world.groups place

  old_all : nodes_left world steps old 0 (before ++ top ∷ []) ≡ at_level world steps old d (place ∷ rest) ++ nodes_left world steps old 0 before
  old_all = nodes_last world steps old 0 d before top (omega (arith, deep)) ∙ ap (λ t. at_level world steps old d t ++ nodes_left world steps old 0 before) is

  front_same : take d old ≡ take d new
  front_same = sym (ap (take d) put ∙ take-set old d p)

  new_rest : nodes_left world steps new 0 (before ++ rest ∷ []) ≡ at_level world steps old d rest ++ nodes_left world steps old 0 before
  new_rest =
      nodes_last world steps new 0 d before rest (omega (arith, deep))
      ∙ (λ i. nodes_reached world (drop d steps) (nodes_at world.groups (sym front_same i) rest) ++ nodes_same world steps new old 0 d before (omega (arith, deep)) (sym front_same) i)

  front_more : d < length old → take (d + 1) new ≡ take d old ++ p ∷ []
  front_more lt = ap (take (d + 1)) put ∙ take_more_set old d p lt

  -- the place is the last that was asked for
  pub walk_given : d ≡ length steps → nodes_left world steps old 0 (before ++ top ∷ []) ≡ record { pointers = new; place = place } ∷ nodes_left world steps new 0 (before ++ rest ∷ [])
  walk_given last =
      let lt : d < length old = omega (arith, last, all) in
      let none : drop d steps ≡ [] = drop_all d steps (omega (arith, last)) in
      let long : length new ≤ d + 1 = (let a = ap length put in let b = length-set old d p in omega (arith, a, b, all, last)) in
      let whole : take d old ++ p ∷ [] ≡ new = sym (front_more lt) ∙ take_all (d + 1) new long in
      let here : at_level world steps old d (place ∷ rest) ≡ record { pointers = new; place = place } ∷ at_level world steps old d rest =
      ap (λ s. nodes_reached world s (nodes_at world.groups (take d old) (place ∷ rest))) none
      ∙ ap (λ (ps : List ℕ). record { pointers = ps; place = place } ∷ nodes_at world.groups (take d old) rest) whole
      ∙ ap (λ s. record { pointers = new; place = place } ∷ nodes_reached world s (nodes_at world.groups (take d old) rest)) (sym none) in
      old_all ∙ ap (λ l. l ++ nodes_left world steps old 0 before) here ∙ ap (λ l. record { pointers = new; place = place } ∷ l) (sym new_rest)

  -- steps are left
  pub walk_on : (next : List Place) (default : Step) → d < length steps → next ≡ reach world (get_or steps d default) place
      → nodes_left world steps old 0 (before ++ top ∷ []) ≡ nodes_left world steps new 0 ((before ++ rest ∷ []) ++ next ∷ [])
  walk_on next default inside led =
      let step = get_or steps d default in
      let lt : d < length old = omega (arith, inside, all) in
      let on : suc d ≡ d + 1 = omega arith in
      let more : drop d steps ≡ step ∷ drop (d + 1) steps = drop-cons steps d default inside ∙ ap (λ k. step ∷ drop k steps) on in
      let node = node_at world.groups (take d old) place in
      let first : nodes_reached world (drop d steps) (node ∷ []) ≡ at_level world steps new (d + 1) next =
      ap (λ s. nodes_reached world s (node ∷ [])) more
      ∙ ap (nodes_reached world (drop (d + 1) steps)) (append-nil (onward world step node))
      ∙ (λ i. nodes_reached world (drop (d + 1) steps) (nodes_at world.groups (sym (front_more lt) i) (sym led i))) in
      let deeper : d + 1 ≡ 0 + length (before ++ rest ∷ []) = omega (arith, deep, length-append before (rest ∷ [])) in
      old_all
      ∙ ap (λ l. l ++ nodes_left world steps old 0 before) (reached_append world (drop d steps) (node ∷ []) (nodes_at world.groups (take d old) rest) ∙ ap (λ l. l ++ at_level world steps old d rest) first)
      ∙ append_assoc (at_level world steps new (d + 1) next) (at_level world steps old d rest) (nodes_left world steps old 0 before)
      ∙ ap (λ l. at_level world steps new (d + 1) next ++ l) (sym new_rest)
      ∙ sym (nodes_last world steps new 0 (d + 1) (before ++ rest ∷ []) next deeper)

-- the last step leads to one place from this one: the list of it is never opened
module _ (world : World) (steps : List Step) (old new newer : List ℕ) (before : List (List Place)) (top rest : List Place) (place last : Place) (d : ℕ) (default : Step)
    (is : top ≡ place ∷ rest) (deep : d ≡ length before) (all : length old ≡ length steps + 1) (put : new ≡ set old d (pointer_of world.groups place))
    (led : reach world (get_or steps d default) place ≡ last ∷ []) (end : d + 1 ≡ length steps) (put_last : newer ≡ set new (d + 1) (pointer_of world.groups last)) where
  pub walk_one : nodes_left world steps old 0 (before ++ top ∷ []) ≡ record { pointers = newer; place = last } ∷ nodes_left world steps newer 0 (before ++ rest ∷ [])
  walk_one =
      let on = before ++ rest ∷ [] in
      let deeper : d + 1 ≡ length on = omega (arith, deep, length-append before (rest ∷ [])) in
      let still : length new ≡ length steps + 1 = omega (arith, ap length put, length-set old d (pointer_of world.groups place), all) in
      walk_on world steps old new before top rest place d is deep all put (last ∷ []) default (omega (arith, end)) (sym led)
      ∙ walk_given world steps new newer on (last ∷ []) [] last (d + 1) refl deeper still put_last end
      ∙ ap (λ l. record { pointers = newer; place = last } ∷ l) (walk_back world steps newer on [] refl)

-- ---- how often a walk turns

module _ (world : World) (steps : List Step) (before : List (List Place)) (top rest : List Place) (place : Place) (d : ℕ)
    (is : top ≡ place ∷ rest) (deep : d ≡ length before) where
  turns_old : turns_left world steps 0 (before ++ top ∷ []) ≡ turns_left world steps 0 before + (1 + turns world (drop d steps) (place ∷ rest))
  turns_old = turns_last world steps 0 d before top (omega (arith, deep)) ∙ ap (λ t. turns_left world steps 0 before + (1 + turns world (drop d steps) t)) is

  turns_rest : turns_left world steps 0 (before ++ rest ∷ []) ≡ turns_left world steps 0 before + (1 + turns world (drop d steps) rest)
  turns_rest = turns_last world steps 0 d before rest (omega (arith, deep))

  further_old : further_left world steps 0 (before ++ top ∷ []) ≡ further_left world steps 0 before + further world (drop d steps) (place ∷ rest)
  further_old = further_last world steps 0 d before top (omega (arith, deep)) ∙ ap (λ t. further_left world steps 0 before + further world (drop d steps) t) is

  further_rest : further_left world steps 0 (before ++ rest ∷ []) ≡ further_left world steps 0 before + further world (drop d steps) rest
  further_rest = further_last world steps 0 d before rest (omega (arith, deep))

  pub turns_given : d ≡ length steps → turns_left world steps 0 (before ++ rest ∷ []) < turns_left world steps 0 (before ++ top ∷ [])
  turns_given last =
      let none : drop d steps ≡ [] = drop_all d steps (omega (arith, last)) in
      let a : turns world (drop d steps) (place ∷ rest) ≡ suc (length rest) = ap (λ s. turns world s (place ∷ rest)) none in
      let b : turns world (drop d steps) rest ≡ length rest = ap (λ s. turns world s rest) none in
      let old = turns_old in
      let new = turns_rest in
      omega (arith, a, b, old, new)

  module _ (next : List Place) (default : Step) (inside : d < length steps) (led : next ≡ reach world (get_or steps d default) place) where
    abbrev taken : Step
    taken = get_or steps d default

    more : drop d steps ≡ taken ∷ drop (d + 1) steps
    more = let on : suc d ≡ d + 1 = omega arith in drop-cons steps d default inside ∙ ap (λ k. taken ∷ drop k steps) on

    deeper : d + 1 ≡ 0 + length (before ++ rest ∷ [])
    deeper = let sum = length-append before (rest ∷ []) in omega (arith, deep, sum)

    turns_parts : turns world (drop d steps) (place ∷ rest) ≡ 2 + (turns world (drop (d + 1) steps) next + turns world (drop d steps) rest)
    turns_parts =
        let others = flat_map (reach world taken) rest in
        let a : turns world (drop (d + 1) steps) (reach world taken place ++ others) ≡ turns world (drop (d + 1) steps) next + turns world (drop (d + 1) steps) others =
        turns_append world (drop (d + 1) steps) (reach world taken place) others ∙ ap (λ (l : List Place). turns world (drop (d + 1) steps) l + turns world (drop (d + 1) steps) others) (sym led) in
        let b : turns world (drop d steps) (place ∷ rest) ≡ 2 * suc (length rest) + turns world (drop (d + 1) steps) (reach world taken place ++ others) = ap (λ s. turns world s (place ∷ rest)) more in
        let c : turns world (drop d steps) rest ≡ 2 * length rest + turns world (drop (d + 1) steps) others = ap (λ s. turns world s rest) more in
        omega (arith, a, b, c)

    pub turns_on : turns_left world steps 0 ((before ++ rest ∷ []) ++ next ∷ []) < turns_left world steps 0 (before ++ top ∷ [])
    turns_on =
        let parts = turns_parts in
        let old = turns_old in
        let new = turns_rest in
        let newer = turns_last world steps 0 (d + 1) (before ++ rest ∷ []) next deeper in
        omega (arith, parts, old, new, newer)

    pub turns_counted : turns_left world steps 0 (before ++ rest ∷ []) < turns_left world steps 0 (before ++ top ∷ [])
    turns_counted =
        let parts = turns_parts in
        let old = turns_old in
        let new = turns_rest in
        omega (arith, parts, old, new)

    further_parts : further world (drop d steps) (place ∷ rest) ≡ (length next + further world (drop (d + 1) steps) next) + further world (drop d steps) rest
    further_parts =
        let others = flat_map (reach world taken) rest in
        let a : further world (drop (d + 1) steps) (reach world taken place ++ others) ≡ further world (drop (d + 1) steps) next + further world (drop (d + 1) steps) others =
        further_append world (drop (d + 1) steps) (reach world taken place) others ∙ ap (λ (l : List Place). further world (drop (d + 1) steps) l + further world (drop (d + 1) steps) others) (sym led) in
        let s : length (reach world taken place ++ others) ≡ length next + length others = length-append (reach world taken place) others ∙ ap (λ (l : List Place). length l + length others) (sym led) in
        let b : further world (drop d steps) (place ∷ rest) ≡ length (reach world taken place ++ others) + further world (drop (d + 1) steps) (reach world taken place ++ others) = ap (λ s. further world s (place ∷ rest)) more in
        let c : further world (drop d steps) rest ≡ length others + further world (drop (d + 1) steps) others = ap (λ s. further world s rest) more in
        omega (arith, a, b, c, s)

    -- what is left of so many, where the last element is gone through
    pub counted_on : (left rest_left : ℕ) → rest_left + length next ≡ left
        → rest_left + further_left world steps 0 (before ++ top ∷ []) ≡ left + further_left world steps 0 ((before ++ rest ∷ []) ++ next ∷ [])
    counted_on left rest_left e =
        let parts = further_parts in
        let old = further_old in
        let new = further_rest in
        let newer = further_last world steps 0 (d + 1) (before ++ rest ∷ []) next deeper in
        omega (arith, parts, old, new, newer, e)

    -- and where it is not
    pub counted_last : (left rest_left : ℕ) → rest_left + length next ≡ left → length steps ≤ d + 1
        → rest_left + further_left world steps 0 (before ++ top ∷ []) ≡ left + further_left world steps 0 (before ++ rest ∷ [])
    counted_last left rest_left e last =
        let parts = further_parts in
        let old = further_old in
        let new = further_rest in
        let none : further world (drop (d + 1) steps) next ≡ 0 = ap (λ s. further world s next) (drop_all (d + 1) steps last) in
        omega (arith, parts, old, new, none, e)

    -- and where what comes of it is counted with it
    pub counted_all : (left rest_left : ℕ) → rest_left + (length next + further world (drop (d + 1) steps) next) ≡ left
        → rest_left + further_left world steps 0 (before ++ top ∷ []) ≡ left + further_left world steps 0 (before ++ rest ∷ [])
    counted_all left rest_left e =
        let parts = further_parts in
        let old = further_old in
        let new = further_rest in
        omega (arith, parts, old, new, e)

    pub counted_out_all : (left : ℕ) → left < length next + further world (drop (d + 1) steps) next → left < further_left world steps 0 (before ++ top ∷ [])
    counted_out_all left lt =
        let parts = further_parts in
        let old = further_old in
        omega (arith, parts, old, lt)

    pub counted_out : (left : ℕ) → left < length next → left < further_left world steps 0 (before ++ top ∷ [])
    counted_out left lt =
        let parts = further_parts in
        let old = further_old in
        omega (arith, parts, old, lt)

pub counted_back : (world : World) (steps : List Step) (before : List (List Place)) (top : List Place) (left : ℕ) → top ≡ []
    → left + further_left world steps 0 (before ++ top ∷ []) ≡ left + further_left world steps 0 before
counted_back world steps before top left none =
    let all = further_last world steps 0 (length before) before top (omega arith) in
    let zero_ : further world (drop (length before) steps) top ≡ 0 = ap (further world (drop (length before) steps)) none ∙ further_none (drop (length before) steps) in
    omega (arith, all, zero_) where
      further_none : (s : List Step) → further world s [] ≡ 0
      further_none [] = refl
      further_none (first ∷ s) = let on = further_none s in omega (arith, on)

-- ---- what holds of the elements on the way

pub kept_top : (listed : Listed) (before : List (List Place)) (top rest : List Place) (place : Place) → AllByRecursion (AreKept listed) (before ++ top ∷ []) → top ≡ place ∷ rest → IsKept listed place × AreKept listed rest
kept_top listed before top rest place kept is = subst (AreKept listed) is (all_back (AreKept listed) before (top ∷ []) kept).0

kept_rest : (listed : Listed) (before items : List (List Place)) (top rest : List Place) (place : Place) → AllByRecursion (AreKept listed) (before ++ top ∷ []) → top ≡ place ∷ rest → items ≡ before ++ rest ∷ [] → AllByRecursion (AreKept listed) items
kept_rest listed before items top rest place kept is same =
    subst (AllByRecursion (AreKept listed)) (sym same) (all_append (AreKept listed) before (rest ∷ []) (all_front (AreKept listed) before (top ∷ []) kept) ((kept_top listed before top rest place kept is).1, tt))

kept_more : (listed : Listed) (items further_ : List (List Place)) (next : List Place) → AllByRecursion (AreKept listed) items → AreKept listed next → further_ ≡ items ++ next ∷ [] → AllByRecursion (AreKept listed) further_
kept_more listed items further_ next kept new same = subst (AllByRecursion (AreKept listed)) (sym same) (all_append (AreKept listed) items (next ∷ []) kept (new, tt))

pub one_more : (before items : List (List Place)) (last : List Place) → items ≡ before ++ last ∷ [] → length items ≡ length before + 1
one_more before items last same = ap length same ∙ length-append before (last ∷ [])

pub count_back : (listed : Listed) (steps : List Step) (before : List (List Place)) (top : List Place) (room : ℕ) → IsCount listed steps (before ++ top ∷ []) room → IsCount listed steps before room
count_back listed steps before top room count =
    let size = length-append before (top ∷ []) in
    let deep = count.deep in
    record { deep = omega (arith, size, deep); room_for = count.room_for; kept = all_front (AreKept listed) before (top ∷ []) count.kept; ready = count.ready }

pub count_rest : (listed : Listed) (steps : List Step) (before items : List (List Place)) (top rest : List Place) (place : Place) (old room : ℕ) → IsCount listed steps (before ++ top ∷ []) old → top ≡ place ∷ rest → items ≡ before ++ rest ∷ [] → room ≡ old → IsCount listed steps items room
count_rest listed steps before items top rest place old room count is same e =
    let size = length-append before (top ∷ []) in
    let new = one_more before items rest same in
    let deep = count.deep in
    let room_for = count.room_for in
    record { deep = omega (arith, size, new, deep); room_for = omega (arith, room_for, e); kept = kept_rest listed before items top rest place count.kept is same; ready = count.ready }

pub count_more : (listed : Listed) (steps : List Step) (items further_ : List (List Place)) (next : List Place) (old room : ℕ) → IsCount listed steps items old → length items < length steps → AreKept listed next → further_ ≡ items ++ next ∷ [] → room ≡ old → IsCount listed steps further_ room
count_more listed steps items further_ next old room count lt new same e =
    let size = one_more items further_ next same in
    let room_for = count.room_for in
    record { deep = omega (arith, size, lt); room_for = omega (arith, room_for, e); kept = kept_more listed items further_ next count.kept new same; ready = count.ready }

pub walk_less : (listed : Listed) (steps : List Step) (pointers : ℕ) (before : List (List Place)) (top : List Place) (room : ℕ) → IsWalk listed steps pointers (before ++ top ∷ []) room → IsWalk listed steps pointers before room
walk_less listed steps pointers before top room walk =
    let size = length-append before (top ∷ []) in
    let deep = walk.deep in
    record { pointers_are = walk.pointers_are; pointers_all = walk.pointers_all; deep = omega (arith, size, deep); room_for = walk.room_for; kept = all_front (AreKept listed) before (top ∷ []) walk.kept; ready = walk.ready }

pub walk_rest : (listed : Listed) (steps : List Step) (old_pointers pointers : ℕ) (before items : List (List Place)) (top rest : List Place) (place : Place) (old room : ℕ) → IsWalk listed steps old_pointers (before ++ top ∷ []) old
    → pointers ≡ old_pointers → top ≡ place ∷ rest → items ≡ before ++ rest ∷ [] → room ≡ old → IsWalk listed steps pointers items room
walk_rest listed steps old_pointers pointers before items top rest place old room walk p is same e =
    let size = length-append before (top ∷ []) in
    let new = one_more before items rest same in
    let deep = walk.deep in
    let room_for = walk.room_for in
    let are = walk.pointers_are in
    let all = walk.pointers_all in
    record { pointers_are = omega (arith, are, p); pointers_all = omega (arith, all, p); deep = omega (arith, size, new, deep); room_for = omega (arith, room_for, e); kept = kept_rest listed before items top rest place walk.kept is same; ready = walk.ready }

pub walk_more : (listed : Listed) (steps : List Step) (pointers : ℕ) (items further_ : List (List Place)) (next : List Place) (old room : ℕ) → IsWalk listed steps pointers items old → length items ≤ length steps → AreKept listed next → further_ ≡ items ++ next ∷ [] → room ≡ old
    → IsWalk listed steps pointers further_ room
walk_more listed steps pointers items further_ next old room walk le new same e =
    let size = one_more items further_ next same in
    let room_for = walk.room_for in
    record { pointers_are = walk.pointers_are; pointers_all = walk.pointers_all; deep = omega (arith, size, le); room_for = omega (arith, room_for, e); kept = kept_more listed items further_ next walk.kept new same; ready = walk.ready }
