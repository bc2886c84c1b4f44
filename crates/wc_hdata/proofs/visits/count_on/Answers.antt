use Rattle.std.proofs.Common.{◌≡◌, ◌<◌, ◌≤◌, ◌+◌, ◌-◌, ◌*◌, ℕ, true, drop, MatchOption, ◌++◌, ◌∷◌, [], length, arith, length-append, subst, sym, ap, ◌∙◌}
use Rattle.wc_hdata.specs.declared.count.Count.TheVariants.{One}
use Rattle.wc_hdata.specs.declared.variable.Variable.TheVariants.{OwnLines}
use Rattle.wc_hdata.specs.Depth.{further_left, turns_left}
use Rattle.wc_hdata.specs.Narrow.{others_give_one}
use Rattle.wc_hdata.specs.Reached.{place_of}
use Rattle.wc_hdata.proofs.DepthLemmas.{counted_back, counted_on, counted_last, counted_out, count_more, count_rest, kept_top, one_more, turns_back, turns_counted, turns_on}
use Rattle.wc_hdata.proofs.NarrowLemmas.{counted_narrow}
use Rattle.wc_hdata.proofs.visits.count_on.Goals as goal

pub returns-in_default-clause-rest : goal.returns-in_default-clause-rest
returns-in_default-clause-rest c =
    counted_back c.args.lists.now.world c.args.steps.now c.args.open.now.items c.args.top c.args.left c.in_default.ensures.0

pub returns-in_default-clause-turned : goal.returns-in_default-clause-turned
returns-in_default-clause-turned c =
    turns_back c.args.lists.now.world c.args.steps.now c.args.open.now.items c.args.top

pub reach-further-requires-clause-kept : goal.reach-further-requires-clause-kept
reach-further-requires-clause-kept c =
    (kept_top c.args.lists.now c.args.open.now.items c.args.top c.next.new.self (place_of c.in-Some.place) c.requires.count.kept c.in-Some.ensures).0

pub returns-in_default-checked_sub-clause-rest : goal.returns-in_default-checked_sub-clause-rest
returns-in_default-checked_sub-clause-rest c =
    let deep : c.len-level.result ≡ length c.args.open.now.items = omega (arith, c.len-level.ensures) in
    let inside : c.len-level.result < length c.args.steps.now = (let size = length-append c.args.open.now.items (c.args.top ∷ []) in omega (arith, size, deep, c.requires.count.deep)) in
    counted_out c.args.lists.now.world c.args.steps.now c.args.open.now.items c.args.top c.next.new.self (place_of c.in-Some.place) c.len-level.result c.in-Some.ensures deep c.reach-further.result (record { variable = OwnLines; count = One }) inside c.reach-further.ensures.places c.args.left (let none = c.in_default-checked_sub.ensures in let size = c.len-places.ensures in omega (arith, none, size))

pub returns-in_default-checked_sub-clause-turned : goal.returns-in_default-checked_sub-clause-turned
returns-in_default-checked_sub-clause-turned c =
    let deep : c.len-level.result ≡ length c.args.open.now.items = omega (arith, c.len-level.ensures) in
    let inside : c.len-level.result < length c.args.steps.now = (let size = length-append c.args.open.now.items (c.args.top ∷ []) in omega (arith, size, deep, c.requires.count.deep)) in
    subst (λ items. turns_left c.args.lists.now.world c.args.steps.now 0 items < turns_left c.args.lists.now.world c.args.steps.now 0 (c.args.open.now.items ++ c.args.top ∷ [])) (sym c.push_reserved.ensures.items) (turns_counted c.args.lists.now.world c.args.steps.now c.args.open.now.items c.args.top c.next.new.self (place_of c.in-Some.place) c.len-level.result c.in-Some.ensures deep c.reach-further.result (record { variable = OwnLines; count = One }) inside c.reach-further.ensures.places)

pub returns-then-level-last-clause-count : goal.returns-then-level-last-clause-count
returns-then-level-last-clause-count c =
    count_rest c.args.lists.now c.args.steps.now c.args.open.now.items c.push_reserved.new.self.items c.args.top c.next.new.self (place_of c.in-Some.place) _ _ c.requires.count c.in-Some.ensures c.push_reserved.ensures.items c.push_reserved.ensures.capacity

pub returns-then-level-last-clause-rest : goal.returns-then-level-last-clause-rest
returns-then-level-last-clause-rest c =
    let deep : c.len-level.result ≡ length c.args.open.now.items = omega (arith, c.len-level.ensures) in
    let inside : c.len-level.result < length c.args.steps.now = (let size = length-append c.args.open.now.items (c.args.top ∷ []) in omega (arith, size, deep, c.requires.count.deep)) in
    let here : c.args.last ≡ c.len-level.result = omega (arith, c.if-level-last.true) in
    let narrow = subst (λ (k : ℕ). others_give_one (drop k c.args.steps.now) ≡ true) here c.requires.narrow in
    let after = subst (λ (n : ℕ). MatchOption c.left_after.result (c.args.left < n * (length c.args.steps.now - c.len-level.result)) (λ r. r + n * (length c.args.steps.now - c.len-level.result) ≡ c.args.left)) c.len-places.ensures c.left_after.ensures in
    subst (λ items. MatchOption c.left_after.result (c.args.left < further_left c.args.lists.now.world c.args.steps.now 0 (c.args.open.now.items ++ c.args.top ∷ [])) (λ r. r + further_left c.args.lists.now.world c.args.steps.now 0 (c.args.open.now.items ++ c.args.top ∷ []) ≡ c.args.left + further_left c.args.lists.now.world c.args.steps.now 0 items)) (sym c.push_reserved.ensures.items)
    (counted_narrow c.args.lists.now c.args.steps.now c.args.open.now.items c.args.top c.next.new.self (place_of c.in-Some.place) c.len-level.result c.reach-further.result (record { variable = OwnLines; count = One }) c.args.left c.left_after.result c.in-Some.ensures deep inside c.reach-further.ensures.places c.reach-further.ensures.kept narrow after)

pub returns-then-level-last-clause-turned : goal.returns-then-level-last-clause-turned
returns-then-level-last-clause-turned c =
    let deep : c.len-level.result ≡ length c.args.open.now.items = omega (arith, c.len-level.ensures) in
    let inside : c.len-level.result < length c.args.steps.now = (let size = length-append c.args.open.now.items (c.args.top ∷ []) in omega (arith, size, deep, c.requires.count.deep)) in
    subst (λ items. turns_left c.args.lists.now.world c.args.steps.now 0 items < turns_left c.args.lists.now.world c.args.steps.now 0 (c.args.open.now.items ++ c.args.top ∷ [])) (sym c.push_reserved.ensures.items) (turns_counted c.args.lists.now.world c.args.steps.now c.args.open.now.items c.args.top c.next.new.self (place_of c.in-Some.place) c.len-level.result c.in-Some.ensures deep c.reach-further.result (record { variable = OwnLines; count = One }) inside c.reach-further.ensures.places)

pub returns-then-level-steps-clause-count : goal.returns-then-level-steps-clause-count
returns-then-level-steps-clause-count c =
    let deep : c.len-level.result ≡ length c.args.open.now.items = omega (arith, c.len-level.ensures) in
    let inside : c.len-level.result < length c.args.steps.now = (let size = length-append c.args.open.now.items (c.args.top ∷ []) in omega (arith, size, deep, c.requires.count.deep)) in
    let size = one_more c.args.open.now.items c.push_reserved.new.self.items c.next.new.self c.push_reserved.ensures.items in
    let lt : length c.push_reserved.new.self.items < length c.args.steps.now = omega (arith, size, deep, c.if-level-steps.true) in
    count_more c.args.lists.now c.args.steps.now c.push_reserved.new.self.items c.push_reserved-then-level-steps.new.self.items c.reach-further.result _ _ (count_rest c.args.lists.now c.args.steps.now c.args.open.now.items c.push_reserved.new.self.items c.args.top c.next.new.self (place_of c.in-Some.place) _ _ c.requires.count c.in-Some.ensures c.push_reserved.ensures.items c.push_reserved.ensures.capacity) lt c.reach-further.ensures.kept c.push_reserved-then-level-steps.ensures.items c.push_reserved-then-level-steps.ensures.capacity

pub returns-then-level-steps-clause-rest : goal.returns-then-level-steps-clause-rest
returns-then-level-steps-clause-rest c =
    let deep : c.len-level.result ≡ length c.args.open.now.items = omega (arith, c.len-level.ensures) in
    let inside : c.len-level.result < length c.args.steps.now = (let size = length-append c.args.open.now.items (c.args.top ∷ []) in omega (arith, size, deep, c.requires.count.deep)) in
    let sub = c.in-Some-checked_sub.ensures in
    let size = c.len-places.ensures in
    let e : c.in-Some-checked_sub.rest + length c.reach-further.result ≡ c.args.left = omega (arith, sub, size) in
    subst (λ items. c.in-Some-checked_sub.rest + further_left c.args.lists.now.world c.args.steps.now 0 (c.args.open.now.items ++ c.args.top ∷ []) ≡ c.args.left + further_left c.args.lists.now.world c.args.steps.now 0 items) (sym (c.push_reserved-then-level-steps.ensures.items ∙ ap (λ l. l ++ c.reach-further.result ∷ []) c.push_reserved.ensures.items))
    (counted_on c.args.lists.now.world c.args.steps.now c.args.open.now.items c.args.top c.next.new.self (place_of c.in-Some.place) c.len-level.result c.in-Some.ensures deep c.reach-further.result (record { variable = OwnLines; count = One }) inside c.reach-further.ensures.places c.args.left c.in-Some-checked_sub.rest e)

pub returns-then-level-steps-clause-turned : goal.returns-then-level-steps-clause-turned
returns-then-level-steps-clause-turned c =
    let deep : c.len-level.result ≡ length c.args.open.now.items = omega (arith, c.len-level.ensures) in
    let inside : c.len-level.result < length c.args.steps.now = (let size = length-append c.args.open.now.items (c.args.top ∷ []) in omega (arith, size, deep, c.requires.count.deep)) in
    subst (λ items. turns_left c.args.lists.now.world c.args.steps.now 0 items < turns_left c.args.lists.now.world c.args.steps.now 0 (c.args.open.now.items ++ c.args.top ∷ [])) (sym (c.push_reserved-then-level-steps.ensures.items ∙ ap (λ l. l ++ c.reach-further.result ∷ []) c.push_reserved.ensures.items)) (turns_on c.args.lists.now.world c.args.steps.now c.args.open.now.items c.args.top c.next.new.self (place_of c.in-Some.place) c.len-level.result c.in-Some.ensures deep c.reach-further.result (record { variable = OwnLines; count = One }) inside c.reach-further.ensures.places)

pub returns-else-level-steps-clause-count : goal.returns-else-level-steps-clause-count
returns-else-level-steps-clause-count c =
    count_rest c.args.lists.now c.args.steps.now c.args.open.now.items c.push_reserved.new.self.items c.args.top c.next.new.self (place_of c.in-Some.place) _ _ c.requires.count c.in-Some.ensures c.push_reserved.ensures.items c.push_reserved.ensures.capacity

pub returns-else-level-steps-clause-rest : goal.returns-else-level-steps-clause-rest
returns-else-level-steps-clause-rest c =
    let deep : c.len-level.result ≡ length c.args.open.now.items = omega (arith, c.len-level.ensures) in
    let inside : c.len-level.result < length c.args.steps.now = (let size = length-append c.args.open.now.items (c.args.top ∷ []) in omega (arith, size, deep, c.requires.count.deep)) in
    let sub = c.in-Some-checked_sub.ensures in
    let size = c.len-places.ensures in
    let e : c.in-Some-checked_sub.rest + length c.reach-further.result ≡ c.args.left = omega (arith, sub, size) in
    let last : length c.args.steps.now ≤ c.len-level.result + 1 = omega (arith, c.if-level-steps.false) in
    subst (λ items. c.in-Some-checked_sub.rest + further_left c.args.lists.now.world c.args.steps.now 0 (c.args.open.now.items ++ c.args.top ∷ []) ≡ c.args.left + further_left c.args.lists.now.world c.args.steps.now 0 items) (sym c.push_reserved.ensures.items)
    (counted_last c.args.lists.now.world c.args.steps.now c.args.open.now.items c.args.top c.next.new.self (place_of c.in-Some.place) c.len-level.result c.in-Some.ensures deep c.reach-further.result (record { variable = OwnLines; count = One }) inside c.reach-further.ensures.places c.args.left c.in-Some-checked_sub.rest e last)

pub returns-else-level-steps-clause-turned : goal.returns-else-level-steps-clause-turned
returns-else-level-steps-clause-turned c =
    let deep : c.len-level.result ≡ length c.args.open.now.items = omega (arith, c.len-level.ensures) in
    let inside : c.len-level.result < length c.args.steps.now = (let size = length-append c.args.open.now.items (c.args.top ∷ []) in omega (arith, size, deep, c.requires.count.deep)) in
    subst (λ items. turns_left c.args.lists.now.world c.args.steps.now 0 items < turns_left c.args.lists.now.world c.args.steps.now 0 (c.args.open.now.items ++ c.args.top ∷ [])) (sym c.push_reserved.ensures.items) (turns_counted c.args.lists.now.world c.args.steps.now c.args.open.now.items c.args.top c.next.new.self (place_of c.in-Some.place) c.len-level.result c.in-Some.ensures deep c.reach-further.result (record { variable = OwnLines; count = One }) inside c.reach-further.ensures.places)
